-- Where the measure is the chainage, a chainage is located in its millimetre.
use Rattle.std.proofs.Common.{◌≡◌, ℕ, ◌+◌, ◌-◌, ◌*◌, ◌/◌, ◌<◌, ◌≤◌, Bool, true, length, ap, ◌∙◌, arith}
use Rattle.std.specs.Prelude.{if◌then◌else◌, ◌&&◌, None, Some, nat_le}
use Rattle.std.specs.Option.{option_map}
use Rattle.std.proofs.Math.Nat.{mul-div_cancel, one-mul, zero-add, zero-mul}
use Rattle.std.proofs.lemmas.Bool.{and_from}
use Rattle.std.proofs.lemmas.Bool.Decides.{nat_tests}
use Rattle.lrs_element.specs.Marks.{chainage_at}
use Rattle.lrs_position.specs.Locations.{cell}
use Rattle.lrs_sheet_log.specs.Laws.{ReferentsAreSetExactly}
use Rattle.lrs_sheet_log.specs.RouteSheets.{chainage_marks}

at-most : (n most : ℕ) → n ≤ most → nat_le n most ≡ true
at-most n most h = grind (arith, nat_tests)

-- the millimetre of the chainage at / 1, as it is computed
in-millimetre : (len at : ℕ) → at < len → cell len (0 * 1 * (len - 0) + (at - 0 * 1) * (len - 0), 1 * (len - 0)) ≡ at
in-millimetre len at h =
    let whole : len - 0 ≡ len = omega arith in
    let behind : at - 0 * 1 ≡ at = omega arith in
    let none : 0 * 1 * len + at * len ≡ at * len = ap (λ (k : ℕ). k + at * len) (zero-mul len) ∙ zero-add (at * len) in
    let top : 0 * 1 * (len - 0) + (at - 0 * 1) * (len - 0) ≡ at * len = (λ i. 0 * 1 * whole i + behind i * whole i) ∙ none in
    let bottom : 1 * (len - 0) ≡ len = one-mul (len - 0) ∙ whole in
    let quotient : (0 * 1 * (len - 0) + (at - 0 * 1) * (len - 0)) / (1 * (len - 0)) ≡ at = (λ i. top i / bottom i) ∙ mul-div_cancel at {n = len} (omega (arith, h)) in
    omega (arith, quotient, h)

exact : (len at : ℕ) → at < len → option_map (cell len) (chainage_at (chainage_marks len) at 1) ≡ Some at
exact len at h =
    let within : (nat_le (0 * 1) at && nat_le at (len * 1)) ≡ true = and_from (nat_le (0 * 1) at) (nat_le at (len * 1)) (at-most (0 * 1) at (omega arith)) (at-most at (len * 1) (omega (arith, h))) in
    ap (λ (b : Bool). option_map (cell len) (if b then Some (0 * 1 * (len - 0) + (at - 0 * 1) * (len - 0), 1 * (len - 0)) else None)) within
    ∙ ap Some (in-millimetre len at h)

pub set_exactly : ReferentsAreSetExactly
set_exactly r chainage_on x h = exact (length r.course) x.at h
