use Rattle.std.proofs.Common.{◌∙◌, sym, ap, subst}
use Rattle.std.specs.Prelude.{List, ◌++◌, ◌∷◌, []}
use Rattle.lrs_events.specs.declared.span.Span.{Span}
use Rattle.lrs_events.specs.Row.Order.{IsPlace, IsStart, grown}
use Rattle.lrs_events.proofs.Row.Pushing.{behind_place, IsPushed, pushed}
use Rattle.lrs_events.proofs.rows.merger.push_row.Goals as goal

pub start_of-start-requires-clause-place : goal.start_of-start-requires-clause-place
start_of-start-requires-clause-place c =
    subst (λ (z : List Span). IsPlace z c.len-at.result c.args.row) (sym c.deref.ensures.value)
    (behind_place c.args.out.now.items c.len-at.result c.args.row (c.len-at.ensures ∙ c.args.out.now.ok.0) c.requires.behind)

done : (c : goal.In_ok-push) → IsPushed c.args.out.now.items c.args.row c.push.new.self.items
done c =
    pushed c.args.out.now.items c.push.new.self.items c.len-at.result c.args.row c.start_of-start.result.0 c.start_of-start.result.1 c.requires.rows c.requires.row c.requires.behind
    (c.len-at.ensures ∙ c.args.out.now.ok.0)
    (subst (λ (z : List Span). IsStart z c.len-at.result c.args.row c.start_of-start.result.0 c.start_of-start.result.1) c.deref.ensures.value c.start_of-start.ensures)
    (c.in_ok-push.ensures.items ∙ ap (λ z. z ++ (grown c.args.row c.start_of-start.result.1 c.args.row.to ∷ [])) c.truncate.ensures.items)

pub returns-clause-rows : goal.returns-clause-rows
returns-clause-rows c = (done c).kept

pub returns-clause-more : goal.returns-clause-more
returns-clause-more c = (done c).more

pub returns-clause-behind : goal.returns-clause-behind
returns-clause-behind c = (done c).behind
