-- A chainage of a route is expressed by each method, and from each referent of the route.
use Rattle.std.proofs.Common.{◌≡◌, ℕ, zero, suc, ◌+◌, ◌<◌, ◌≤◌, Bool, true, false, cond, List, [], ◌∷◌, ◌++◌, map, take, length, get_or, Option, Some, None, Result, Ok, Err, refl, sym, ap, subst, ◌∙◌, arith, pos}
use Rattle.std.specs.Prelude.{is_none, IsOkAnd, MatchOption}
use Rattle.std.specs.List.{find, AllZip}
use Rattle.std.specs.Option.{option_map}
use Rattle.std.specs.Cmp.Lexicographic.{bytes_decides}
use Rattle.std.proofs.lemmas.List.{take_more, map_push, take_all}
use Rattle.lrs_measure.specs.Texts.{same_name}
use Rattle.lrs_position.specs.declared.expression.Expr.{Expr}
use Rattle.lrs_position.specs.declared.expression.Target.{Target}
use Rattle.lrs_position.specs.declared.expression.Target.TheVariants as target
use Rattle.lrs_position.specs.declared.location.PlaceFault.{PlaceFault}
use Rattle.lrs_position.specs.declared.location.PlaceFault.TheVariants.{NoRef}
use Rattle.lrs_position.specs.declared.route.Referent.{Referent}
use Rattle.lrs_position.specs.declared.route.Route.{Route}
use Rattle.lrs_position.specs.Readings.{whole}
use Rattle.lrs_position.specs.Translations.{alignment_of, referent_at, misses_referent, chainage_fault, express_fault, IsExpression}
use Rattle.lrs_report_answers.specs.Place.Answers.{IsPosition}
use Rattle.lrs_report_answers.proofs.Place.Halves.{no_fault}

-- ---- nothing is wrong

module _ (r : Route) (chainage : ℕ) (target : Target) (on : chainage ≤ length r.course) (known : misses_referent (referent_at r.refs) target ≡ false) where
  abbrev Answers : Option PlaceFault → Result Expr PlaceFault → Type 0
  Answers o answer = MatchOption o (IsOkAnd answer (IsPosition r chainage target)) (λ fault. answer ≡ Err fault)

  none_wrong : express_fault (alignment_of r) (referent_at r.refs) (whole (pos chainage)) target ≡ None
  none_wrong =
      ap (λ (b : Bool). cond b (Some NoRef) (chainage_fault (length r.course) (whole (pos chainage)))) known ∙ no_fault (length r.course) chainage 1 (omega arith) (omega (arith, on))

  pub expressed : (e : Expr) → IsExpression (alignment_of r) (referent_at r.refs) (whole (pos chainage)) target (Ok e) → IsPosition r chainage target e
  expressed e h = by (express_fault (alignment_of r) (referent_at r.refs) (whole (pos chainage)) target) h
    where
      by : (o : Option PlaceFault) → Answers o (Ok e) → IsPosition r chainage target e
      by None k = k
      by (Some f) k = absurd (cc k)

  pub never_refused : (fault : PlaceFault) → IsExpression (alignment_of r) (referent_at r.refs) (whole (pos chainage)) target (Err fault) → ⊥
  never_refused fault h = by (express_fault (alignment_of r) (referent_at r.refs) (whole (pos chainage)) target) none_wrong h
    where
      by : (o : Option PlaceFault) → o ≡ None → Answers o (Err fault) → ⊥
      by None e k = k
      by (Some f) e k = absurd (cc e)

-- ---- the referents of a route

-- a referent is on its route
pub is_known : (refs : List Referent) (i : ℕ) (r : Referent) → i < length refs → r ≡ get_or refs i r → is_none (referent_at refs r.name) ≡ false
is_known [] i r h is = absurd (omega (arith, h))
is_known (q ∷ qs) zero r h is = ap (λ (b : Bool). is_none (option_map (λ (x : Referent). x.at) (cond b (Some q) (find (λ (x : Referent). same_name x.name r.name) qs)))) ((bytes_decides q.name r.name).1 (ap (λ (x : Referent). x.name) (sym is)))
is_known (q ∷ qs) (suc i) r h is =
    let rest = is_known qs i r (omega (arith, h)) is in
    elim (same_name q.name r.name) as (λ b. is_none (option_map (λ (x : Referent). x.at) (cond b (Some q) (find (λ (x : Referent). same_name x.name r.name) qs))) ≡ false) [
      | true ↦ refl
      | false ↦ rest
    ]

abbrev pub by_referent : Referent → Target
by_referent r = target.Rel r.name

-- what a place is expressed by, as far as some of the referents
abbrev pub some_targets : List Referent → List Target
some_targets refs = target.Abs ∷ target.Int ∷ map by_referent refs

-- the positions by both methods, and from so many of the referents
abbrev pub ArePositions : Route → ℕ → ℕ → List Expr → Type 0
ArePositions r chainage i positions = AllZip (IsPosition r chainage) (some_targets (take i r.refs)) positions

-- one more on each side
zip_push : {A B : Type 0} (R : A → B → Type 0) (xs : List A) (ys : List B) (x : A) (y : B) → AllZip R xs ys → R x y → AllZip R (xs ++ x ∷ []) (ys ++ y ∷ [])
zip_push R [] [] x y h k = (k, tt)
zip_push R [] (b ∷ ys) x y h k = absurd h
zip_push R (a ∷ xs) [] x y h k = absurd h
zip_push R (a ∷ xs) (b ∷ ys) x y h k = (h.0, zip_push R xs ys x y h.1 k)

pub one_more : (r : Route) (chainage i : ℕ) (referent : Referent) (positions : List Expr) (e : Expr) → i < length r.refs → referent ≡ get_or r.refs i referent → ArePositions r chainage i positions → IsPosition r chainage (by_referent referent) e
    → ArePositions r chainage (i + 1) (positions ++ e ∷ [])
one_more r chainage i referent positions e low is h k =
    let more : map by_referent (take (i + 1) r.refs) ≡ map by_referent (take i r.refs) ++ by_referent referent ∷ [] =
    ap (map by_referent) (take_more r.refs i referent low) ∙ map_push by_referent (take i r.refs) (get_or r.refs i referent) ∙ ap (λ (x : Referent). map by_referent (take i r.refs) ++ by_referent x ∷ []) (sym is) in
    subst (λ (ts : List Target). AllZip (IsPosition r chainage) (target.Abs ∷ target.Int ∷ ts) (positions ++ e ∷ [])) (sym more)
    (zip_push (IsPosition r chainage) (some_targets (take i r.refs)) positions (by_referent referent) e h k)

pub all_positions : (r : Route) (chainage i : ℕ) (positions : List Expr) → length r.refs ≤ i → ArePositions r chainage i positions → AllZip (IsPosition r chainage) (some_targets r.refs) positions
all_positions r chainage i positions end h = subst (λ (refs : List Referent). AllZip (IsPosition r chainage) (some_targets refs) positions) (take_all i r.refs end) h
