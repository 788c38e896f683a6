use Rattle.std.proofs.Common.{ℕ, sym, subst, Option}
use Rattle.lrs_events.specs.declared.side.Side.{Side}
use Rattle.lrs_events.specs.declared.side.Side.TheVariants.{B}
use Rattle.lrs_events.specs.RouteSpans.Search.{IsOver}
use Rattle.lrs_events.proofs.RouteSpans.Finding.{over_both}
use Rattle.lrs_events.proofs.spans.search.over.Goals as goal

pub returns-in-B : goal.returns-in-B
returns-in-B c =
    let rows = c.args.rows.now in
    let class = c.args.class in
    subst (λ (s : Side). IsOver rows class c.args.from c.args.to s c.lesser_of.result) (sym c.in-B.is)
    (subst (λ (o : Option ℕ). IsOver rows class c.args.from c.args.to B o) (sym c.lesser_of.ensures)
    (over_both rows class c.args.from c.args.to c.over_on-in-B.result c.over_on-in-B-2.result c.over_on-in-B.ensures c.over_on-in-B-2.ensures))
