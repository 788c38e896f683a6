use Rattle.std.proofs.Common.{subst, sym, List, All}
use Rattle.lrs_events.specs.declared.span.Span.{Span}
use Rattle.lrs_report_lists.specs.Length.Parts.{FitsFrom, route_length}
use Rattle.lrs_report_lists.proofs.Length.Axis.{all_fit}
use Rattle.lrs_report_lists.proofs.length_lists.entries.push_route.Goals as goal

pub push_rows-requires-clause-fit : goal.push_rows-requires-clause-fit
push_rows-requires-clause-fit c =
    let e = c.args.route_row.now in
    subst (λ (z : List Span). All (FitsFrom c.args.start) z) (sym c.rows.ensures.rows) (all_fit c.args.start (route_length e) e.spans c.requires.fits c.requires.rows)
