use Rattle.std.proofs.Common.{List, ℕ, Bor, drop}
use Rattle.std.specs.Prelude.{option_map}
use Rattle.lrs_web_replies.proofs.PageKeys.{Reads}
use Rattle.lrs_web_replies.proofs.pages.read_key.Given as goal

abbrev pub invariant-loop-member : goal.invariant-loop-member
invariant-loop-member l = Reads l.key l.text (drop l.member-index l.key) (option_map (λ (t : Bor (List ℕ)). t.now) l.rest) l.fields.items
