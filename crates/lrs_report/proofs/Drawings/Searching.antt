-- The first number that is no less than another, found one by one.
use Rattle.std.proofs.Common.{◌≡◌, ℕ, suc, ◌+◌, ◌<◌, ◌∙◌, Option, Some, List, length, drop, get_or, refl, ap, sym, arith}
use Rattle.std.specs.Prelude.{nat_le, if◌then◌else◌}
use Rattle.std.specs.List.{find}
use Rattle.std.proofs.Math.Seq.{drop-cons}
use Rattle.std.proofs.lemmas.Bool.{lt-leb}

-- what is found from a place on, by what the number there is
found_at : (least i : ℕ) (xs : List ℕ) → i < length xs
    → find (nat_le least) (drop i xs) ≡ (if nat_le least (get_or xs i 0) then Some (get_or xs i 0) else find (nat_le least) (drop (i + 1) xs))
found_at least i xs low =
    let n : suc i ≡ i + 1 = omega arith in
    ap (find (nat_le least)) (drop-cons xs i 0 low)
    ∙ ap (λ k. if nat_le least (get_or xs i 0) then Some (get_or xs i 0) else find (nat_le least) (drop k xs)) n

-- a lesser number is passed
pub passed : (least i : ℕ) (xs : List ℕ) (found : Option ℕ) → i < length xs → get_or xs i 0 < least → find (nat_le least) (drop i xs) ≡ found → find (nat_le least) (drop (i + 1) xs) ≡ found
passed least i xs found low less all =
    sym (found_at least i xs low ∙ ap (λ b. if b then Some (get_or xs i 0) else find (nat_le least) (drop (i + 1) xs)) (lt-leb least (get_or xs i 0) less)) ∙ all
