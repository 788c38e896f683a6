use Rattle.std.proofs.Common.{sym, ◌∙◌}
use Rattle.lrs_difference.proofs.AddedRows.{comes, goes}
use Rattle.lrs_difference.proofs.alone.add.Goals as goal

pub returns-then-goes_on : goal.returns-then-goes_on
returns-then-goes_on c =
    goes c.args.rows.now.items c.pop.new.self.items c.push.new.self.items c.in-Some.last c.args.row c.args.high.now c.in-Some.ensures.items (sym c.goes_on.ensures ∙ c.if-goes_on.true)
    c.in_ok-push-in-Some.ensures.items

pub returns-in_ok-push-in-Some-3 : goal.returns-in_ok-push-in-Some-3
returns-in_ok-push-in-Some-3 c =
    comes c.args.rows.now.items c.pop.new.self.items c.push-in-Some.new.self.items c.push-in-Some-2.new.self.items c.in-Some.last c.args.row c.args.high.now c.in-Some.ensures.items (sym c.goes_on.ensures ∙ c.if-goes_on.false)
    c.in_ok-push-in-Some-2.ensures.items c.in_ok-push-in-Some-3.ensures.items
