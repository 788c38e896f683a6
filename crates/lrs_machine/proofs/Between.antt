-- What lies between two chainages of a course.
use Rattle.std.proofs.Common.{◌≡◌, ℕ, ◌-◌, ◌<◌, Bool, true, false, List, [], ◌∷◌, length, take, drop, zero, suc, refl, ap, arith, length-drop}
use Rattle.std.specs.Prelude.{nat_le}
use Rattle.std.proofs.lemmas.Bool.{leb-true, leb-false}
use Rattle.lrs_measure.specs.Lists.{is_nothing}
use Rattle.lrs_element.specs.declared.link.Ground.{Ground}
use Rattle.lrs_machine.specs.Laws.{NothingBetween}

some_taken : (n : ℕ) (course : List Ground) → 0 < n → 0 < length course → is_nothing (take n course) ≡ false
some_taken zero course h k = absurd (omega arith)
some_taken (suc n) [] h k = absurd (omega arith)
some_taken (suc n) (g ∷ course) h k = refl

pub nothing_between : NothingBetween
nothing_between course e within = by (nat_le e.to e.from) refl
  where
    by : (b : Bool) → nat_le e.to e.from ≡ b → is_nothing (take (e.to - e.from) (drop e.from course)) ≡ b
    by true is = let after = leb-true e.to e.from is in let none : e.to - e.from ≡ 0 = omega arith in ap (λ n. is_nothing (take n (drop e.from course))) none
    by false is =
        let before = leb-false e.to e.from is in
        let rest = length-drop e.from course in
        some_taken (e.to - e.from) (drop e.from course) (omega arith) (omega (arith, rest))
