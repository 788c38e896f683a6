-- Lemmas on heads at the front of an input that comes piece by piece.
use Rattle.std.proofs.Common.{◌≡◌, ℕ, ◌+◌, ◌≤◌, List, [], ◌++◌, length, take, drop, Option, None, Some, IfSome, sym, ap, ◌∙◌, subst, append_assoc, arith, length-append, inr}
use Rattle.std.specs.Io.KnownBytes.{Consumes}
use lib.Seq.{take-add}
use Rattle.lrs_web_requests.proofs.KnownLemmas.{Consumes-then}
use Rattle.httparse.specs.declared.spans.HeaderSpan.{HeaderSpan}
use Rattle.httparse.specs.Grammar.{HasNoRequest, RequestHead, print_request}
use Rattle.httparse.specs.Spans.{RequestExceeds}
use Rattle.lrs_web_requests.specs.declared.head.Outcome.{Outcome}
use Rattle.lrs_web_requests.specs.declared.head.Outcome.TheVariants.{Complete, TooLarge, Unreadable}
use Rattle.lrs_web_requests.specs.HeadReadings.{Finds, IsParsed, Settles, ReadsOn}

print_request_nonempty : (h : RequestHead) → 0 + 1 ≤ length (print_request h)
unfolding print_request
print_request_nonempty h = simp length-append (omega arith)

-- no head is in no bytes
pub no_head_in_nothing : HasNoRequest []
no_head_in_nothing h rest reads =
    let long = print_request_nonempty h in
    absurd (omega (arith, simp length-append at (ap length reads.1), long))

exceeds_more : (room : ℕ) (text more : List ℕ) → RequestExceeds room text → RequestExceeds room (text ++ more)
exceeds_more room text more x = (x.0, x.1 ++ more, ap (λ l. l ++ more) x.2 ∙ append_assoc x.0 x.1 more, x.3, x.4, x.5)

-- what is settled for the text is found in the input
pub finds_settled : (a b : Option (List ℕ)) (limit room same : ℕ) (text : List ℕ) (spans : List HeaderSpan) (outcome : Outcome)
    → room ≡ same → Consumes a b text → Settles room text spans outcome → IfSome a (λ input. Finds limit same input text spans outcome)
finds_settled None b limit room same text spans outcome kept consumed settled = tt
finds_settled (Some x) None limit room same text spans outcome kept consumed settled = absurd consumed
finds_settled (Some x) (Some y) limit room same text spans (Complete head) kept consumed settled = settled
finds_settled (Some x) (Some y) limit room same text spans TooLarge kept consumed settled =
    inr (subst (λ n. RequestExceeds n x) kept (subst (RequestExceeds room) (sym consumed) (exceeds_more room text y settled)))
finds_settled (Some x) (Some y) limit room same text spans Unreadable kept consumed settled =
    subst HasNoRequest (sym consumed) (settled y)

-- a read after others: all that was read stands at the front of the buffer
pub read_more : (a b c : Option (List ℕ)) (filled count : ℕ) (before after : List ℕ)
    → ReadsOn b c filled count before after → Consumes a b (take filled before) → Consumes a c (take (filled + count) after)
read_more a b c filled count before after read earlier =
    subst (Consumes a c) (ap (λ l. l ++ take count (drop filled after)) (sym read.front) ∙ sym (take-add filled count after))
    (Consumes-then a b c _ _ earlier read.consumed)

pub parsed_settled : (room : ℕ) (text : List ℕ) (spans : List HeaderSpan) (outcome : Outcome) → Settles room text spans outcome → IsParsed text spans outcome
parsed_settled room text spans (Complete head) settled = settled
parsed_settled room text spans TooLarge settled = tt
parsed_settled room text spans Unreadable settled = tt
