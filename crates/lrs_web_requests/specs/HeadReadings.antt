-- What reading the head of a request finds at the front of the input.
use Rattle.std.specs.Prelude.{◌≡◌, ℕ, ◌+◌, ◌≤◌, ◌⊎◌, List, length, take, drop, Option}
use Rattle.std.specs.Io.KnownBytes.{Consumes, IsAtEnd}
use Rattle.httparse.specs.declared.spans.HeaderSpan.{HeaderSpan}
use Rattle.httparse.specs.Grammar.{HasNoRequest, NeverHasRequest}
use Rattle.httparse.specs.Spans.{RequestExceeds, IsRequestOf, IsRequestWithin}
use Rattle.lrs_web_requests.specs.declared.head.Outcome.{Outcome}
use Rattle.lrs_web_requests.specs.declared.head.Outcome.TheVariants.{Complete, TooLarge, Unreadable}

-- no head ends within the first limit bytes, or one has more than room fields
abbrev pub IsTooLarge : ℕ → ℕ → List ℕ → Type 0
IsTooLarge limit room input =
    ((limit ≤ length input) × HasNoRequest (take limit input)) ⊎ RequestExceeds room input

-- the input begins with no head: its bytes can't be read as one, or end before one does
abbrev pub IsUnreadable : List ℕ → Type 0
IsUnreadable input = HasNoRequest input

-- what was found, in an input of which so much text was read
abbrev pub Finds : ℕ → ℕ → List ℕ → List ℕ → List HeaderSpan → Outcome → Type 0
Finds limit room input text spans (Complete head) = IsRequestOf text spans head × IsRequestWithin text spans head
Finds limit room input text spans TooLarge = IsTooLarge limit room input
Finds limit room input text spans Unreadable = IsUnreadable input

-- what a text that was read settles, whatever bytes follow it
abbrev pub Settles : ℕ → List ℕ → List HeaderSpan → Outcome → Type 0
Settles room text spans (Complete head) = IsRequestOf text spans head × IsRequestWithin text spans head
Settles room text spans TooLarge = RequestExceeds room text
Settles room text spans Unreadable = NeverHasRequest text

-- a read put the next count bytes of the input behind the first filled ones of the buffer
pub record ReadsOn (old new : Option (List ℕ)) (filled count : ℕ) (before after : List ℕ) : Type 0 where
  pub fits : filled + count ≤ length after
  pub front : take filled after ≡ take filled before
  pub consumed : Consumes old new (take count (drop filled after))
  pub end : count ≡ 0 → IsAtEnd new

-- a whole head lies in the text at these places
abbrev pub IsParsed : List ℕ → List HeaderSpan → Outcome → Type 0
IsParsed text spans (Complete head) = IsRequestOf text spans head × IsRequestWithin text spans head
IsParsed text spans TooLarge = Unit {0}
IsParsed text spans Unreadable = Unit {0}
