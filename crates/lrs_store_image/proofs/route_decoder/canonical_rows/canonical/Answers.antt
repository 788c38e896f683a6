use Rattle.std.proofs.Common.{◌∙◌, ap, sym}
use Rattle.lrs_measure.specs.Lists.{each_two}
use Rattle.lrs_events.specs.Spans.{are_rows}
use Rattle.lrs_store_image.specs.DecodedRoutes.Spans.{agree}
use Rattle.lrs_store_image.proofs.DecodedRoutes.Fitting.{rows_kept, rows_refused}
use Rattle.lrs_store_image.proofs.DecodedRoutes.Entering.{agree_sorted}
use Rattle.lrs_store_image.proofs.route_decoder.canonical_rows.canonical.Goals as goal

pub are_rows-requires : goal.are_rows-requires
are_rows-requires c = ap (each_two agree) c.deref.ensures.value ∙ agree_sorted c.args.rows.items c.sort.new.rows.items c.sort.ensures.same c.requires

pub returns-then-not-are_rows : goal.returns-then-not-are_rows
returns-then-not-are_rows c =
    rows_refused c.args.rows.items c.sort.new.rows.items c.sort.ensures.same c.sort.ensures.sorted (ap are_rows (sym c.deref.ensures.value) ∙ sym c.are_rows.ensures ∙ c.if-not-are_rows.true)

pub returns : goal.returns
returns c =
    rows_kept c.args.rows.items c.sort.new.rows.items c.sort.ensures.same c.sort.ensures.sorted (ap are_rows (sym c.deref.ensures.value) ∙ sym c.are_rows.ensures ∙ c.if-not-are_rows.false)
