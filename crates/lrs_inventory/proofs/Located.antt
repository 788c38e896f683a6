-- What `locate` answers on a route is what the ground machine locates.
use Rattle.std.proofs.Common.{◌≡◌, ℕ, ◌+◌, ◌-◌, ◌*◌, ◌<◌, ◌≤◌, ◌/◌, min, Bool, true, false, cond, ◌⊎◌, inl, inr, List, [], ◌∷◌, Option, Some, None, Result, Ok, Err, refl, sym, ap, subst, ◌∙◌, arith, ℤ, pos, negsuc, ◌*ℤ◌, unsigned_abs, length}
use Rattle.std.specs.Prelude.{◌≤ℤ◌, IsTrue}
use Rattle.std.specs.List as list
use Rattle.std.proofs.Math.Nat.{mul-div-mul_left}
use Rattle.std.proofs.lemmas.Bool.{and_parts, eqb-true, leb-true, le-ltb, cases_Bool}
use Rattle.std.proofs.lemmas.Int.{ints}
use Rattle.std.specs.Option.{ok_or}
use Rattle.lrs_inventory.specs.Prelude.{Name, Alignment, alignment_of, Cause, RouteRow, Image, State, EventStretch, located_stretch, ◌>>◌, ◌>>=◌, state_of, IsSound, is_named}
use Rattle.lrs_measure.specs.Fraction.{Fraction, IsLowest}
use Rattle.lrs_measure.specs.Lists.{In}
use Rattle.lrs_position.specs.declared.expression.Expr.{Expr}
use Rattle.lrs_position.specs.declared.expression.Expr.TheVariants.{Abs, Rel, Int}
use Rattle.lrs_position.specs.declared.location.PlaceFault.{PlaceFault}
use Rattle.lrs_position.specs.declared.location.PlaceFault.TheVariants as fault
use Rattle.lrs_position.specs.Expressions.{Ends, is_entered}
use Rattle.lrs_position.specs.Locations.{Locates, located, located_or_fault, lacks_referent, is_too_fine, snap, cell}
use Rattle.lrs_position.specs.Translations.{referent_at, number_of, IsAnswer, IsOnRoute}
use Rattle.lrs_position.proofs.Located.{located-sound}
use Rattle.lrs_position.proofs.Answering.{IsSound-from_route}
use Rattle.lrs_position.proofs.Whole.{rounded_limit}
use Rattle.lrs_machine.specs.declared.answer.Cause.TheVariants as cause
use Rattle.lrs_machine.specs.Machine.{stretch_between, located_chainage, referent_chainage, refuse_if}
use Rattle.lrs_inventory.specs.declared.plan.Stop.{Stop}
use Rattle.lrs_inventory.specs.declared.plan.Stop.TheVariants.{Refused, Memory}
use Rattle.lrs_inventory.specs.Plans.{Answers}
use Rattle.lrs_inventory.specs.RouteStretches.{cause_of, IsRouteIn, IsLocatedAt, located_cell, located_end}
use Rattle.lrs_image_laws.proofs.FromReferents.{referents_found}

-- ---- one chainage in two ways

scaled : (k d n e : ℕ) → k * d ≡ n * e → d * (2 * k + e) ≡ e * (2 * n + d)
scaled k d n e h = omega (arith, h)

twice : (d e : ℕ) → d * (2 * e) ≡ e * (2 * d)
twice d e = omega arith

swapped : (k d n e : ℕ) → k * d ≡ n * e → d * k ≡ e * n
swapped k d n e h = omega (arith, h)

same_snap : (k d n e : ℕ) → 0 < d → 0 < e → k * d ≡ n * e → snap (n, d) ≡ snap (k, e)
same_snap k d n e dp ep h =
    sym (mul-div-mul_left (2 * n + d) (2 * d) ep)
    ∙ sym (λ i. scaled k d n e h i / twice d e i)
    ∙ mul-div-mul_left (2 * k + e) (2 * e) dp

same_cell : (len k d n e : ℕ) → 0 < d → 0 < e → k * d ≡ n * e → cell len (n, d) ≡ cell len (k, e)
same_cell len k d n e dp ep h =
    ap (λ t. min t (len - 1)) (sym (mul-div-mul_left n d ep) ∙ sym (λ i. swapped k d n e h i / (commute i)) ∙ mul-div-mul_left k e dp)
  where
    commute : d * e ≡ e * d
    commute = omega arith

-- a chainage that is located has a denominator
located_positive : (a : Alignment) (chainage_on : Name → Option ℕ) (e : Expr) (x : ℕ × ℕ) → Locates a chainage_on e x → 0 < x.1
located_positive a chainage_on (Abs m) x h = h.2
located_positive a chainage_on (Rel name t) x h = h.2
located_positive a chainage_on (Int p) x h = h.3

same_number : (z : ℤ) (n d e : ℕ) → pos 0 ≤ℤ z → z *ℤ pos d ≡ pos (n * e) → unsigned_abs z * d ≡ n * e
same_number (pos k) n d e from h = ap unsigned_abs h
same_number (negsuc k) n d e from h = absurd (omega (arith, ints, from))

-- ---- a position that is entered

fine : (e : Expr) → IsTrue (is_entered e) → is_too_fine e ≡ false
fine (Abs m) h = let d : m.den ≡ 1 = eqb-true _ _ (and_parts _ _ (and_parts _ _ h).0).0 in le-ltb _ _ (omega arith)
fine (Rel name t) h = let d : t.den ≡ 1 = eqb-true _ _ (and_parts _ _ h).0 in le-ltb _ _ (omega arith)
fine (Int p) h = let d : p.den ≤ 1_000_000 = leb-true _ _ (and_parts _ _ (and_parts _ _ h).0).0 in le-ltb _ _ (omega arith)

-- an inventory's route is one of its routes
pub route_in : (i : Image) (r : RouteRow) → IsRouteIn i r → In r i.routes
route_in i r h = by i.routes h
  where
    some_is : (a b : RouteRow) → Some a ≡ Some b → b ≡ a
    some_is a b w = cc

    by : (rs : List RouteRow) → list.find (is_named r.route.name) rs ≡ Some r → In r rs
    by [] k = absurd (cc k)
    by (y ∷ ys) k = either (cases_Bool (is_named r.route.name y)) (by ys)
      where
        either : (is_named r.route.name y ≡ true) ⊎ (is_named r.route.name y ≡ false) → (list.find (is_named r.route.name) ys ≡ Some r → In r ys) → In r (y ∷ ys)
        either (inl e) rest = inl (some_is y r (sym (ap (λ b. cond b (Some y) (list.find (is_named r.route.name) ys)) e) ∙ k))
        either (inr e) rest = inr (rest (sym (ap (λ b. cond b (Some y) (list.find (is_named r.route.name) ys)) e) ∙ k))

module _ (i : Image) (r : RouteRow) (e : Expr) (s : IsSound i) (in_image : IsRouteIn i r) (entered : IsTrue (is_entered e)) (low : IsLowest (number_of e)) where
  abbrev a : Alignment
  a = alignment_of r.route

  abbrev refs : Name → Option ℕ
  refs = referent_at r.route.refs

  -- what the ground machine locates
  machine : located_chainage (state_of i) a e ≡ (refuse_if (lacks_referent refs e) cause.NoRef >> ok_or (located a refs e) cause.OffRoute)
  machine = λ j. refuse_if (lacks_referent (found j) e) cause.NoRef >> ok_or (located a (found j) e) cause.OffRoute
    where
      found : referent_chainage (state_of i) a ≡ refs
      found = λ j name. referents_found i r s (route_in i r in_image) name j

  -- what is asked of an answer
  abbrev AnswersTo : Bool → Option (ℕ × ℕ) → Result Fraction PlaceFault → Type 0
  AnswersTo lacks o answer = IsAnswer (cond lacks (Err fault.NoRef) (ok_or o fault.OffRoute)) answer

  answers : (answer : Result Fraction PlaceFault) → IsAnswer (located_or_fault a refs e) answer → AnswersTo (lacks_referent refs e) (located a refs e) answer
  answers answer h = subst (λ b. IsAnswer (cond (lacks_referent refs e) (Err fault.NoRef) (cond b (Err fault.TooFine) (ok_or (located a refs e) fault.OffRoute))) answer) (fine e entered) h

  pub located_alike : (q : Fraction) → IsAnswer (located_or_fault a refs e) (Ok q) → IsOnRoute (length r.route.course) q → IsLocatedAt (state_of i) a e q
  located_alike q is on = by (lacks_referent refs e) (located a refs e) refl machine (answers (Ok q) is)
    where
      by : (lacks : Bool) (o : Option (ℕ × ℕ)) → located a refs e ≡ o → located_chainage (state_of i) a e ≡ (refuse_if lacks cause.NoRef >> ok_or o cause.OffRoute) → AnswersTo lacks o (Ok q) → IsLocatedAt (state_of i) a e q
      by true o at m h = absurd (cc h)
      by false None at m h = absurd (cc h)
      by false (Some x) at m h =
          let dp = located_positive a refs e x (located-sound a refs e x (IsSound-from_route r.route) low.positive at) in
          let same = same_number q.num x.0 x.1 q.den on.from h.0 in
          record {
            chainage = x;
            located = m;
            snapped = same_snap (unsigned_abs q.num) x.1 x.0 q.den dp h.1.positive same;
            stands = λ len. same_cell len (unsigned_abs q.num) x.1 x.0 q.den dp h.1.positive same;
          }

  pub refused_alike : (f : PlaceFault) → IsAnswer (located_or_fault a refs e) (Err f) → located_chainage (state_of i) a e ≡ Err (cause_of f)
  refused_alike f is = by (lacks_referent refs e) (located a refs e) machine (answers (Err f) is)
    where
      fault_is : (f g : PlaceFault) → (let x : Result Fraction PlaceFault = Err f in x) ≡ Err g → g ≡ f
      fault_is f g h = cc

      by : (lacks : Bool) (o : Option (ℕ × ℕ)) → located_chainage (state_of i) a e ≡ (refuse_if lacks cause.NoRef >> ok_or o cause.OffRoute) → AnswersTo lacks o (Err f) → located_chainage (state_of i) a e ≡ Err (cause_of f)
      by true o m h = m ∙ ap (λ g. Err (cause_of g)) (fault_is f fault.NoRef h)
      by false None m h = m ∙ ap (λ g. Err (cause_of g)) (fault_is f fault.OffRoute h)
      by false (Some x) m h = absurd h

-- ---- millimetres of what is located

pub in_cell : (s : State) (a : Alignment) (len : ℕ) (e : Expr) (q : Fraction) → IsLocatedAt s a e q → located_cell s a len e ≡ Ok (cell len (unsigned_abs q.num, q.den))
in_cell s a len e q h = ap (λ r. r >>= (λ x. Ok (cell len x))) h.located ∙ ap Ok (h.stands len)

pub at_end : (s : State) (a : Alignment) (e : Expr) (q : Fraction) → IsLocatedAt s a e q → located_end s a e ≡ Ok (snap (unsigned_abs q.num, q.den))
at_end s a e q h = ap (λ r. r >>= (λ x. Ok (snap x))) h.located ∙ ap Ok h.snapped

absolute : (z : ℤ) (n : ℕ) → z ≤ℤ pos n → pos 0 ≤ℤ z → unsigned_abs z ≤ n
absolute (pos k) n h from = omega (arith, ints, h)
absolute (negsuc k) n h from = absurd (omega (arith, ints, from))

pub cell_on_route : (len : ℕ) (q : Fraction) → 0 < len → cell len (unsigned_abs q.num, q.den) < len
cell_on_route len q some = omega (arith, some)

pub end_on_route : (len : ℕ) (q : Fraction) → 0 < q.den → IsOnRoute len q → snap (unsigned_abs q.num, q.den) ≤ len
end_on_route len q some on = rounded_limit (unsigned_abs q.num) q.den len some (absolute q.num (len * q.den) on.to on.from)

-- ---- extents by their ends

pub point_stretch : (s : State) (a : Alignment) (first : Expr) → stretch_between s a first None ≡ (located_cell s a (length a.course) first >>= (λ at. Ok (record { from = at; to = at + 1 })))
point_stretch s a first = by (located_chainage s a first)
  where
    by : (r : Result (ℕ × ℕ) Cause) → (r >>= (λ x. let j = cell (length a.course) x in let e : EventStretch = record { from = j; to = j + 1 } in Ok e)) ≡ ((r >>= (λ x. Ok (cell (length a.course) x))) >>= (λ at. Ok (record { from = at; to = at + 1 })))
    by (Ok x) = refl
    by (Err c) = refl

pub wide_stretch : (s : State) (a : Alignment) (first end : Expr) → stretch_between s a first (Some end) ≡ (located_end s a first >>= (λ from. located_end s a end >>= (λ to. Ok (record { from = from; to = to }))))
wide_stretch s a first end = by (located_chainage s a first) (located_chainage s a end)
  where
    by : (r q : Result (ℕ × ℕ) Cause) → (r >>= (λ x. q >>= (λ y. let e : EventStretch = record { from = snap x; to = snap y } in Ok e)))
        ≡ ((r >>= (λ x. Ok (snap x))) >>= (λ from. (q >>= (λ y. Ok (snap y))) >>= (λ to. Ok (record { from = from; to = to }))))
    by (Ok x) (Ok y) = refl
    by (Ok x) (Err c) = refl
    by (Err c) q = refl

-- what stops the first of two steps stops both
stops : {X Y : Type 0} (r : Result X Cause) (f : X → Result Y Cause) (e : Stop) → Answers r (Err e) → Answers (r >>= f) (Err e)
stops r f (Refused c) h = ap (λ q. q >>= f) h
stops r f Memory h = tt

-- ... and what stops the second
goes_on : {X Y : Type 0} (r : Result X Cause) (f : X → Result Y Cause) (x : X) (e : Stop) → r ≡ Ok x → Answers (f x) (Err e) → Answers (r >>= f) (Err e)
goes_on r f x (Refused c) is h = ap (λ q. q >>= f) is ∙ h
goes_on r f x Memory is h = tt

-- What stops an end of a stretch stops the stretch.
module _ (s : State) (a : Alignment) (ends : Ends) (first : Expr) (is_first : first ≡ ends.from) (e : Stop) where
  pub point_stops : None ≡ ends.to → Answers (located_cell s a (length a.course) first) (Err e) → Answers (located_stretch s a ends) (Err e)
  point_stops no_end h =
      subst (λ (q : Result EventStretch Cause). Answers q (Err e)) (sym (point_stretch s a first) ∙ (λ j. stretch_between s a (is_first j) (no_end j)))
      (stops (located_cell s a (length a.course) first) (λ at. Ok (record { from = at; to = at + 1 })) e h)

  module _ (end : Expr) (is_end : Some end ≡ ends.to) where
    abbrev to_end : ℕ → Result EventStretch Cause
    to_end from = located_end s a end >>= (λ to. Ok (record { from = from; to = to }))

    pub from_stops : Answers (located_end s a first) (Err e) → Answers (located_stretch s a ends) (Err e)
    from_stops h =
        subst (λ (q : Result EventStretch Cause). Answers q (Err e)) (sym (wide_stretch s a first end) ∙ (λ j. stretch_between s a (is_first j) (is_end j)))
        (stops (located_end s a first) to_end e h)

    pub to_stops : (from : ℕ) → located_end s a first ≡ Ok from → Answers (located_end s a end) (Err e) → Answers (located_stretch s a ends) (Err e)
    to_stops from is h =
        subst (λ (q : Result EventStretch Cause). Answers q (Err e)) (sym (wide_stretch s a first end) ∙ (λ j. stretch_between s a (is_first j) (is_end j)))
        (goes_on (located_end s a first) to_end from e is (stops (located_end s a end) (λ to. Ok (record { from = from; to = to })) e h))
