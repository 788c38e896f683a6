-- The millimetre of what is located, by any fraction of the same value.
use Rattle.std.proofs.Common.{◌≡◌, ℕ, ◌+◌, ◌-◌, ◌*◌, ◌<◌, ◌/◌, min, Option, Some, None, Result, Ok, Err, refl, sym, ap, ◌∙◌, arith, ℤ, pos, negsuc, ◌*ℤ◌, unsigned_abs, length, Bool, true, false, cond}
use Rattle.std.specs.Prelude.{◌≤ℤ◌, MatchResult}
use Rattle.std.specs.Option.{ok_or}
use Rattle.std.proofs.Math.Nat.{mul-div-mul_left}
use Rattle.std.proofs.lemmas.Int.{ints}
use Rattle.lrs_measure.specs.Texts.{Name}
use Rattle.lrs_measure.specs.Fraction.{Fraction, IsLowest}
use Rattle.lrs_position.specs.declared.expression.Expr.{Expr}
use Rattle.lrs_position.specs.declared.expression.Expr.TheVariants.{Abs, Rel, Int}
use Rattle.lrs_position.specs.declared.location.PlaceFault.{PlaceFault}
use Rattle.lrs_position.specs.declared.location.PlaceFault.TheVariants as fault
use Rattle.lrs_position.specs.declared.route.Route.{Route}
use Rattle.lrs_position.specs.Locations.{Alignment, Locates, located, located_or_fault, lacks_referent, is_too_fine, cell, snap}
use Rattle.lrs_position.specs.Translations.{alignment_of, referent_at, number_of, IsAnswer, IsOnRoute}
use Rattle.lrs_report_answers.specs.declared.fault.AskFault.{AskFault}
use Rattle.lrs_report_answers.specs.declared.fault.AskFault.TheVariants.{End as AtEnd}
use Rattle.lrs_report_answers.specs.declared.stretch.End.{End}
use Rattle.lrs_report_answers.specs.Stretches.{snapped}
use Rattle.lrs_position.proofs.Located.{located-sound}
use Rattle.lrs_position.proofs.Answering.{IsSound-from_route}

swapped : (k d n e : ℕ) → k * d ≡ n * e → d * k ≡ e * n
swapped k d n e h = omega (arith, h)

pub same_cell : (len k d n e : ℕ) → 0 < d → 0 < e → k * d ≡ n * e → cell len (n, d) ≡ cell len (k, e)
same_cell len k d n e dp ep h =
    ap (λ t. min t (len - 1)) (sym (mul-div-mul_left n d ep) ∙ sym (λ i. swapped k d n e h i / (commute i)) ∙ mul-div-mul_left k e dp)
  where
    commute : d * e ≡ e * d
    commute = omega arith

scaled : (k d n e : ℕ) → k * d ≡ n * e → d * (2 * k + e) ≡ e * (2 * n + d)
scaled k d n e h = omega (arith, h)

twice : (d e : ℕ) → d * (2 * e) ≡ e * (2 * d)
twice d e = omega arith

same_snap : (k d n e : ℕ) → 0 < d → 0 < e → k * d ≡ n * e → snap (n, d) ≡ snap (k, e)
same_snap k d n e dp ep h =
    sym (mul-div-mul_left (2 * n + d) (2 * d) ep)
    ∙ sym (λ i. scaled k d n e h i / twice d e i)
    ∙ mul-div-mul_left (2 * k + e) (2 * e) dp

-- a chainage that is located has a denominator
located_positive : (a : Alignment) (chainage_on : Name → Option ℕ) (e : Expr) (x : ℕ × ℕ) → Locates a chainage_on e x → 0 < x.1
located_positive a chainage_on (Abs m) x h = h.2
located_positive a chainage_on (Rel name t) x h = h.2
located_positive a chainage_on (Int p) x h = h.3

same_number : (z : ℤ) (n d e : ℕ) → pos 0 ≤ℤ z → z *ℤ pos d ≡ pos (n * e) → unsigned_abs z * d ≡ n * e
same_number (pos k) n d e from h = ap unsigned_abs h
same_number (negsuc k) n d e from h = absurd (omega (arith, ints, from))

module _ (r : Route) (e : Expr) (low : IsLowest (number_of e)) where
  abbrev a : Alignment
  a = alignment_of r

  abbrev refs : Name → Option ℕ
  refs = referent_at r.refs

  -- the millimetre of what is located, or the fault
  abbrev pub IsCell : Result (ℕ × ℕ) PlaceFault → Result ℕ PlaceFault → Type 0
  IsCell place result = MatchResult place (λ x. result ≡ Ok (cell (length r.course) x)) (λ fault. result ≡ Err fault)

  pub cell_is : (q : Fraction) → IsAnswer (located_or_fault a refs e) (Ok q) → IsOnRoute (length r.course) q → IsLowest q → IsCell (located_or_fault a refs e) (Ok (cell (length r.course) (unsigned_abs q.num, q.den)))
  cell_is q is on lowest = by (lacks_referent refs e) (is_too_fine e) (located a refs e) refl is
    where
      by : (lacks fine : Bool) (o : Option (ℕ × ℕ)) → located a refs e ≡ o → IsAnswer (cond lacks (Err fault.NoRef) (cond fine (Err fault.TooFine) (ok_or o fault.OffRoute))) (Ok q)
          → IsCell (cond lacks (Err fault.NoRef) (cond fine (Err fault.TooFine) (ok_or o fault.OffRoute))) (Ok (cell (length r.course) (unsigned_abs q.num, q.den)))
      by true fine o at h = absurd (cc h)
      by false true o at h = absurd (cc h)
      by false false None at h = absurd (cc h)
      by false false (Some x) at h =
          let dp = located_positive a refs e x (located-sound a refs e x (IsSound-from_route r) low.positive at) in
          let same = same_number q.num x.0 x.1 q.den on.from h.0 in
          ap Ok (sym (same_cell (length r.course) (unsigned_abs q.num) x.1 x.0 q.den dp lowest.positive same))

  pub refused_is : (f : PlaceFault) → IsAnswer (located_or_fault a refs e) (Err f) → IsCell (located_or_fault a refs e) (Err f)
  refused_is f is = by (located_or_fault a refs e) is
    where
      fault_is : (f g : PlaceFault) → (let x : Result Fraction PlaceFault = Err f in x) ≡ Err g → f ≡ g
      fault_is f g h = cc

      by : (place : Result (ℕ × ℕ) PlaceFault) → IsAnswer place (Err f) → IsCell place (Err f)
      by (Ok x) h = absurd h
      by (Err g) h = ap Err (fault_is f g h)

  -- the end that a located chainage goes to
  pub end_is : (end : End) (q : Fraction) → IsAnswer (located_or_fault a refs e) (Ok q) → IsOnRoute (length r.course) q → IsLowest q → Ok (snap (unsigned_abs q.num, q.den)) ≡ snapped end (located_or_fault a refs e)
  end_is end q is on lowest = by (lacks_referent refs e) (is_too_fine e) (located a refs e) refl is
    where
      by : (lacks fine : Bool) (o : Option (ℕ × ℕ)) → located a refs e ≡ o → IsAnswer (cond lacks (Err fault.NoRef) (cond fine (Err fault.TooFine) (ok_or o fault.OffRoute))) (Ok q)
          → Ok (snap (unsigned_abs q.num, q.den)) ≡ snapped end (cond lacks (Err fault.NoRef) (cond fine (Err fault.TooFine) (ok_or o fault.OffRoute)))
      by true fine o at h = absurd (cc h)
      by false true o at h = absurd (cc h)
      by false false None at h = absurd (cc h)
      by false false (Some x) at h =
          let dp = located_positive a refs e x (located-sound a refs e x (IsSound-from_route r) low.positive at) in
          let same = same_number q.num x.0 x.1 q.den on.from h.0 in
          ap Ok (sym (same_snap (unsigned_abs q.num) x.1 x.0 q.den dp lowest.positive same))

  pub end_is_not : (end : End) (f : PlaceFault) → IsAnswer (located_or_fault a refs e) (Err f) → Err (AtEnd end f) ≡ snapped end (located_or_fault a refs e)
  end_is_not end f is = by (located_or_fault a refs e) is
    where
      fault_is : (f g : PlaceFault) → (let x : Result Fraction PlaceFault = Err f in x) ≡ Err g → f ≡ g
      fault_is f g h = cc

      by : (place : Result (ℕ × ℕ) PlaceFault) → IsAnswer place (Err f) → Err (AtEnd end f) ≡ snapped end place
      by (Ok x) h = absurd h
      by (Err g) h = ap (λ x. Err (AtEnd end x)) (fault_is f g h)
