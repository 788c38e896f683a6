use Rattle.std.proofs.Common.{ap, ◌∙◌}
use Rattle.lrs_report.specs.declared.list_tally.Sum.TheVariants.{Present}
use Rattle.lrs_report.specs.ListTotals.{row_length}
use Rattle.lrs_report.specs.ListTally.{raised_of}
use Rattle.lrs_report.proofs.Tallied.{raised_less}
use Rattle.lrs_report.proofs.list_tally.add_row.Goals as goal

pub returns-clause-sums : goal.returns-clause-sums
returns-clause-sums c =
    let row = c.args.row.now in
    c.raise.ensures.sums ∙ ap (λ n. raised_of row.class Present n c.args.totals.now.items) c.row_length.ensures ∙ raised_less row.class Present (row_length row) c.args.totals.now.items
