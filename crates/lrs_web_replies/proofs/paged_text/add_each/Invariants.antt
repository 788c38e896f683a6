use Rattle.std.proofs.Common.{map}
use Rattle.lrs_web_replies.proofs.Paging.{Leads}
use Rattle.lrs_web_replies.proofs.paged_text.add_each.Given as goal

abbrev pub invariant-loop-one : goal.invariant-loop-one
invariant-loop-one g l = Leads l.fn.text l.text (map (g.T.Shown.shown) l.one-iterator) (map (g.T.Shown.shown) l.list.rows)
