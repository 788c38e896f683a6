-- The sum of a log, and the identity of an inventory: what copies of it are told apart by.
use Rattle.std.specs.Prelude.{◌≡◌, ℕ, ◌+◌, List, [], ◌∷◌, ◌++◌, Option, Some, None, length, replicate, take}
use Rattle.std.specs.Fmt.{decimal}
use Rattle.hex.specs.Hex.{encode_lower}
use Rattle.sha2.specs.Sha256.{sha256}
use Rattle.lrs_machine.specs.Lines.{Text}
use Rattle.lrs_machine.specs.State.{Edit}
use Rattle.lrs_sheet_log.specs.Log.{log_line}

-- the sum of no edits: 64 zeros
abbrev pub no_sum : Text
no_sum = replicate 64 48

-- the sum up to an edit, from the sum up to the edit before it: the SHA-256 of `SUM,NUMBER,LINE`, in hexadecimal digits
abbrev pub next_sum : Text → ℕ → Edit → Text
next_sum sum number e = encode_lower (sha256 (sum ++ 44 ∷ (decimal number ++ 44 ∷ log_line e)))

-- the sum up to the last of these edits, which stand behind so many others, from the sum up to those
abbrev pub sum_behind : ℕ → Text → List Edit → Text
sum_behind count sum [] = sum
sum_behind count sum (e ∷ es) = sum_behind (count + 1) (next_sum sum (count + 1) e) es

-- The sum of edits, of which the first has the number 1.
abbrev pub sum_of : List Edit → Text
sum_of = sum_behind 0 no_sum

-- The identity of an inventory with these edits: the first 16 digits of the sum up to the first of them. Without edits it has none.
abbrev pub identity_of : List Edit → Option Text
identity_of [] = None
identity_of (e ∷ es) = Some (take 16 (sum_of (e ∷ [])))

-- The sum up to an edit follows from the sum up to the edit before it, its number and its line.
abbrev pub SumsFollow : Type 0
SumsFollow = (edits : List Edit) (e : Edit) → sum_of (edits ++ e ∷ []) ≡ next_sum (sum_of edits) (length edits + 1) e
