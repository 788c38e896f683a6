-- A line, and the lines of a list behind it.
use Rattle.std.proofs.Common.{◌≡◌, ℕ, List, [], ◌∷◌, ◌++◌, Option, Result, ap, append_assoc}
use Rattle.std.specs.Prelude.{OnOk}
use Rattle.std.specs.Io.KnownBytes.{Appends}
use Rattle.lrs_report.proofs.Writing.{appends_last}

pub appended : {A E X : Type 0} (r : Result A E) (a b c : Option (List ℕ)) (head : List ℕ) (text : List X → List ℕ) (written all : List X)
    → Appends a b head → OnOk r (Appends b c (text written)) → written ≡ all → OnOk r (Appends a c (head ++ text all))
appended r a b c head text written all first others same =
    appends_last r a b c head (text written) (head ++ text all) first others (ap (λ (xs : List _). head ++ text xs) same)

-- a key, what follows it, and the end of the line
pub ended_text : (key front column : List ℕ) → key ++ (front ++ (column ++ 10 ∷ [])) ≡ (key ++ (front ++ column)) ++ 10 ∷ []
ended_text key front column = simp append_assoc
