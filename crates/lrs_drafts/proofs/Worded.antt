-- Words that are read one by one.
use Rattle.std.proofs.Common.{◌≡◌, ◌<◌, ◌+◌, [], ◌∷◌, ◌++◌, ℕ, suc, zero, List, length, take, map, get_or, arith, subst, sym, Bor}
use Rattle.lrs_machine.specs.Lines.{Text}
use Rattle.lrs_sheet_records.specs.Words.{AreSaid}

more_said : {X : Type 0} (says : Text → X → Type 0) (words : List (Bor Text)) (i : ℕ) (d : Bor Text) (xs : List X) (x : X) → i < length words
    → AreSaid says (map (λ w. w.now) (take i words)) xs → says (get_or words i d).now x → AreSaid says (map (λ w. w.now) (take (suc i) words)) (xs ++ x ∷ [])
more_said says [] i d xs x low said is = absurd (omega (arith, low))
more_said says (w ∷ words) zero d [] x low said is = (is, tt)
more_said says (w ∷ words) zero d (y ∷ xs) x low said is = absurd said
more_said says (w ∷ words) (suc i) d [] x low said is = absurd said
more_said says (w ∷ words) (suc i) d (y ∷ xs) x low said is = (said.0, more_said says words i d xs x (omega (arith, low)) said.1 is)

-- one more word says one more
pub one_more_said : {X : Type 0} (says : Text → X → Type 0) (words : List (Bor Text)) (i : ℕ) (d : Bor Text) (xs ys : List X) (x : X) → i < length words
    → AreSaid says (map (λ w. w.now) (take i words)) xs → ys ≡ xs ++ x ∷ [] → says (get_or words i d).now x → AreSaid says (map (λ w. w.now) (take (i + 1) words)) ys
one_more_said {X} says words i d xs ys x low said grown is =
    let n : suc i ≡ i + 1 = omega arith in
    subst (λ (k : ℕ). AreSaid says (map (λ w. w.now) (take k words)) ys) n
    (subst (λ (zs : List X). AreSaid says (map (λ w. w.now) (take (suc i) words)) zs) (sym grown) (more_said says words i d xs x low said is))
