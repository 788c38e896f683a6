-- The body of a request: a number of bytes at the front of what follows the head.
use Rattle.std.specs.Prelude.{◌≡◌, ℕ, ◌<◌, ◌≤◌, List, length, take, drop, nat_lt, Option, None, Some, if◌then◌else◌}
use Rattle.std.specs.Io.KnownBytes.{Consumes, IsAtEnd}

-- the first n bytes, where there are that many
abbrev pub body_at : ℕ → List ℕ → Option (List ℕ)
body_at n input = if nat_lt (length input) n then None else Some (take n input)

-- the bytes of the buffer from one place up to another are the next of the input
pub record FilledTo (old new : Option (List ℕ)) (from : ℕ) (before after : List ℕ) (filled : ℕ) : Type 0 where
  pub starts : from ≤ filled
  pub fits : filled ≤ length after
  pub same_length : length after ≡ length before
  pub front : take from after ≡ take from before
  pub consumed : Consumes old new (drop from (take filled after))

-- the same, and the input ended there or at the buffer's end
pub record Fills (old new : Option (List ℕ)) (from : ℕ) (before after : List ℕ) (filled : ℕ) : Type 0 where
  pub read : FilledTo old new from before after filled
  pub end : filled < length after → IsAtEnd new
