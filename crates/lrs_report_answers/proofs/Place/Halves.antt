-- The middle of a millimetre: where it is on its link, and on a route over it.
use Rattle.std.proofs.Common.{ℕ, ◌≡◌, ◌+◌, ◌-◌, ◌*◌, ◌/◌, ◌%◌, ◌^◌, ◌<◌, ◌≤◌, min, Bool, true, false, cond, List, [], ◌∷◌, length, Option, Some, None, Result, Ok, Err, refl, sym, ap, subst, ◌∙◌, arith, ℤ, pos, unsigned_abs}
use Rattle.std.specs.Prelude.{◌≤ℤ◌, is_some, is_none, IsOkAnd, MatchOption}
use Rattle.std.specs.Int.{◌∣◌}
use Rattle.std.specs.Option.{option_or}
use Rattle.std.proofs.Math.Nat.{div-add-mod', one-dvd, dvd-sub, dvd-mul_left_of_dvd, mul-le-mul_right}
use Rattle.std.proofs.lemmas.Nat.{mod_below}
use Rattle.std.proofs.lemmas.Int.{ints}
use Rattle.std.proofs.lemmas.Bool.{le-leb, le-ltb}
use Rattle.std.proofs.lemmas.Option.{slice_get_within}
use Rattle.lrs_measure.specs.Fraction.{Fraction, IsLowest, IsQuotient, IsInRange}
use Rattle.lrs_measure.specs.Texts.{Name}
use Rattle.lrs_measure.proofs.Lowest.{same_fraction}
use Rattle.lrs_element.specs.declared.link.Link.{Link}
use Rattle.lrs_element.specs.Course.{Millimetre, chainage_on}
use Rattle.lrs_element.proofs.LineLemmas.{natural_quotient}
use Rattle.lrs_position.specs.declared.location.PlaceFault.{PlaceFault}
use Rattle.lrs_position.specs.declared.location.PlaceFault.TheVariants.{OffRoute, TooFine}
use Rattle.lrs_position.specs.declared.route.Route.{Route}
use Rattle.lrs_position.specs.Locations.{cell, within}
use Rattle.lrs_position.specs.Translations.{chainage_fault}
use Rattle.lrs_position.specs.LinkPositions.{across, link_fault, millimetre_at, route_over, LiesOnRoute, IsRoutePosition}
use Rattle.lrs_report_answers.proofs.Located.{same_cell}
use Rattle.lrs_report_answers.specs.Place.Middles.{middle}

-- ---- the middle as a fraction

no_divisor : (mm d : ℕ) → d ∣ 2 * mm + 1 → d ∣ 2 → d ∣ 1
no_divisor mm d one two =
    let P : ℕ → Type 0 = λ n. d ∣ n in
    let rest : 2 * mm + 1 - mm * 2 ≡ 1 = omega arith in
    subst P rest (dvd-sub d one (dvd-mul_left_of_dvd d two mm))

IsLowest-middle : (mm : ℕ) → IsLowest (middle mm)
IsLowest-middle mm = record { positive = omega arith; coprime = (one-dvd (2 * mm + 1), one-dvd 2, no_divisor mm) }

pub middle_is : (mm : ℕ) (q : Fraction) → IsLowest q → IsQuotient q (pos (2 * mm + 1)) 2 → q ≡ middle mm
middle_is mm q low value = same_fraction q (middle mm) low (IsLowest-middle mm) value

pub middle_in_range : (mm : ℕ) → mm < 2 ^ 32 → IsInRange (pos (2 * mm + 1)) 2
middle_in_range mm h = record { positive = omega arith; denominator = omega arith; numerator = omega (arith, h) }

-- ---- on the link

pub cell_middle : (mm len : ℕ) → mm < len → min ((2 * mm + 1) / 2) (len - 1) ≡ mm
cell_middle mm len h =
    let whole : (2 * mm + 1) / 2 * 2 + (2 * mm + 1) % 2 ≡ 2 * mm + 1 = div-add-mod' (2 * mm + 1) 2 in
    let rest : (2 * mm + 1) % 2 < 2 = mod_below (2 * mm + 1) 2 (omega arith) in
    let half : (2 * mm + 1) / 2 ≡ mm = omega (arith, whole, rest) in
    omega (arith, h, half)

-- a place on a linear element, of a small denominator, is taken
pub no_fault : (len n d : ℕ) → d ≤ 10 ^ 16 → n ≤ len * d → chainage_fault len (record { num = pos n; den = d }) ≡ None
no_fault len n d fine within_it =
    ap (λ (b : Bool). cond b (Some TooFine) (cond (is_none (within len (pos n) d)) (Some OffRoute) None)) (le-ltb (10 ^ 16) d fine)
    ∙ ap (λ (b : Bool). cond (is_none {T = ℕ × ℕ} (cond b (Some (n, d)) None)) (Some OffRoute) None) (le-leb n (len * d) within_it)

middle_fine : (mm len : ℕ) → mm < len → chainage_fault len (middle mm) ≡ None
middle_fine mm len h = no_fault len (2 * mm + 1) 2 (omega arith) (omega (arith, h))

-- ---- one route

some_is : {X : Type 0} (x y : X) → Some x ≡ Some y → x ≡ y
some_is x y h = cc

one_route : (r s : Route) (m : Millimetre) → route_over (r ∷ []) m ≡ Some s → r ≡ s
one_route r s m h = by (is_some (chainage_on r.course m)) h
  where
    by : (b : Bool) → cond b (Some r) None ≡ Some s → r ≡ s
    by true k = some_is r s k
    by false k = absurd (cc k)

over_one : (r : Route) (m : Millimetre) (at : ℕ) → chainage_on r.course m ≡ Some at → route_over (r ∷ []) m ≡ Some r
over_one r m at h = ap (λ (o : Option ℕ). cond (is_some o) (Some r) None) h

-- the middle of the k-th millimetre of one is the middle of the i-th of the other, whichever way
across_middle : (forward : Bool) (mm at : ℕ) → across forward mm at (2 * mm + 1, 2) ≡ 2 * at + 1
across_middle true mm at = omega arith
across_middle false mm at = omega arith

-- the chainage x is the middle of the entry at which the millimetre of the link is
pub record IsMiddle (r : Route) (number mm : ℕ) (x : Fraction) : Type 0 where
  pub at : ℕ
  pub found : chainage_on r.course (number, mm) ≡ Some at
  pub inside : at < length r.course
  pub natural : x.num ≡ pos (unsigned_abs x.num)
  pub value : unsigned_abs x.num * 2 ≡ (2 * at + 1) * x.den
  pub positive : 0 < x.den

module _ (r : Route) (link : Link) (mm : ℕ) (h : mm < link.length) where
  abbrev there : Millimetre
  there = millimetre_at link (middle mm)

  here : cell link.length (2 * mm + 1, 2) ≡ mm
  here = cell_middle mm link.length h

  lies_middle : (name : Name) (x : Fraction) → LiesOnRoute (r ∷ []) link (middle mm) name x → IsMiddle r link.number mm x
  lies_middle name x l =
      let same : r ≡ l.route = one_route r l.route there l.runs_over in
      let value : IsQuotient x (pos (2 * l.at + 1)) 2 =
      subst (λ (k : ℕ). IsQuotient x (pos k) 2) (ap (λ (i : ℕ). across l.ground.forward i l.at (2 * mm + 1, 2)) here ∙ across_middle l.ground.forward mm l.at) l.value in
      let q = natural_quotient x (2 * l.at + 1) 2 (omega arith) value in
      record {
        at = l.at;
        found = (λ j. chainage_on (same j).course (link.number, sym here j)) ∙ l.is_at_chainage;
        inside = subst (λ (s : Route). l.at < length s.course) (sym same) (slice_get_within l.route.course l.at l.ground l.stands);
        natural = q.0;
        value = q.1;
        positive = l.lowest.positive;
      }

  abbrev Answers : Option PlaceFault → Result (Name × Fraction) PlaceFault → Type 0
  Answers o answer = MatchOption o (IsOkAnd answer (λ a. LiesOnRoute (r ∷ []) link (middle mm) a.0 a.1)) (λ fault. answer ≡ Err fault)

  pub middle_found : (name : Name) (x : Fraction) → IsRoutePosition (r ∷ []) link (middle mm) (Ok (name, x)) → IsMiddle r link.number mm x
  middle_found name x p = lies_middle name x (by (link_fault (r ∷ []) link (middle mm)) p)
    where
      by : (o : Option PlaceFault) → Answers o (Ok (name, x)) → LiesOnRoute (r ∷ []) link (middle mm) name x
      by None k = k
      by (Some f) k = absurd (cc k)

  -- where the route runs over the millimetre nothing is wrong with its middle
  none_wrong : (at : ℕ) → chainage_on r.course (link.number, mm) ≡ Some at → link_fault (r ∷ []) link (middle mm) ≡ None
  none_wrong at e =
      let over : route_over (r ∷ []) there ≡ Some r = ap (λ (k : ℕ). route_over (r ∷ []) (link.number, k)) here ∙ over_one r (link.number, mm) at e in
      ap (λ (o : Option PlaceFault). option_or o (cond (is_none (route_over (r ∷ []) there)) (Some OffRoute) None)) (middle_fine mm link.length h) ∙ ap (λ (o : Option Route). cond (is_none o) (Some OffRoute) None) over

  pub nothing_over : (fault : PlaceFault) → IsRoutePosition (r ∷ []) link (middle mm) (Err fault) → None ≡ chainage_on r.course (link.number, mm)
  nothing_over fault p = by (chainage_on r.course (link.number, mm)) refl
    where
      never : (o : Option PlaceFault) → o ≡ None → Answers o (Err fault) → ⊥
      never None e k = k
      never (Some f) e k = absurd (cc e)

      by : (o : Option ℕ) → chainage_on r.course (link.number, mm) ≡ o → None ≡ chainage_on r.course (link.number, mm)
      by None e = sym e
      by (Some at) e = absurd (never (link_fault (r ∷ []) link (middle mm)) (none_wrong at e) p)

-- ... for what a call is given
pub middle_answered : (r : Route) (link : Link) (mm : ℕ) (routes : List Route) (p : Fraction) (name : Name) (x : Fraction) → mm < link.length → routes ≡ r ∷ [] → p ≡ middle mm → IsRoutePosition routes link p (Ok (name, x)) → IsMiddle r link.number mm x
middle_answered r link mm routes p name x h one half answer =
    middle_found r link mm h name x (subst (λ (rs : List Route). IsRoutePosition rs link (middle mm) (Ok (name, x))) one (subst (λ (q : Fraction). IsRoutePosition routes link q (Ok (name, x))) half answer))

pub nothing_answered : (r : Route) (link : Link) (mm : ℕ) (routes : List Route) (p : Fraction) (fault : PlaceFault) → mm < link.length → routes ≡ r ∷ [] → p ≡ middle mm → IsRoutePosition routes link p (Err fault)
    → None ≡ chainage_on r.course (link.number, mm)
nothing_answered r link mm routes p fault h one half answer =
    nothing_over r link mm h fault (subst (λ (rs : List Route). IsRoutePosition rs link (middle mm) (Err fault)) one (subst (λ (q : Fraction). IsRoutePosition routes link q (Err fault)) half answer))

-- ---- on the route

module _ (r : Route) (number mm : ℕ) (x : Fraction) (m : IsMiddle r number mm x) where
  pub middle_natural : pos 0 ≤ℤ x.num
  middle_natural = subst (λ (z : ℤ). pos 0 ≤ℤ z) (sym m.natural) (omega (arith, ints))

  pub middle_on_route : (len : ℕ) → len ≡ length r.course → x.num ≤ℤ pos (len * x.den)
  middle_on_route len is =
      let inside = m.inside in
      let far : (2 * m.at + 1) * x.den ≤ 2 * len * x.den = mul-le-mul_right x.den (omega (arith, inside, is)) in
      let low : unsigned_abs x.num ≤ len * x.den = omega (arith, far, m.value) in
      subst (λ (z : ℤ). z ≤ℤ pos (len * x.den)) (sym m.natural) (omega (arith, ints, low))

  pub middle_cell : (len : ℕ) → len ≡ length r.course → cell len (unsigned_abs x.num, x.den) ≡ m.at
  middle_cell len is =
      let inside = m.inside in
      sym (same_cell len (unsigned_abs x.num) 2 (2 * m.at + 1) x.den (omega arith) m.positive m.value) ∙ cell_middle m.at len (omega (arith, inside, is))
