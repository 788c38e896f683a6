-- A short text and the zeros behind it.
use Rattle.std.specs.Prelude.{◌≡◌, ℕ, ◌-◌, ◌≤◌, List, ◌++◌, length, take, drop, replicate}
use Rattle.std.proofs.Common.{arith, take-append-drop, length-take-le}

-- the front of an array, padded with zeros, is the array whose back is zeros
pub padded : (size len : ℕ) (bytes : List ℕ) → len ≤ size → length bytes ≡ size → drop len bytes ≡ replicate (size - len) 0
    → take len bytes ++ replicate (size - length (take len bytes)) 0 ≡ bytes
padded size len bytes fits full zeros =
    let front : length (take len bytes) ≡ len = length-take-le len bytes (omega arith) in
    rw (front, ← zeros) (take-append-drop len bytes)
