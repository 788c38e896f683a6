use Rattle.std.proofs.Common.{◌∙◌, Some, ap}
use Rattle.lrs_report_lists.proofs.Measured.{measure_fine, measure_small, no_thousandths, thousandths_told}
use Rattle.lrs_report_lists.proofs.measures.thousandths_on.Goals as goal

pub thousandths-requires : goal.thousandths-requires
thousandths-requires c = record {
  small = measure_small c.args.route.now c.args.chainage c.in-Some.measure c.in-Some.ensures.line;
  fine = measure_fine c.args.route.now c.args.chainage c.in-Some.measure c.in-Some.ensures.line c.in-Some.ensures.lowest;
}

pub returns-in-Some-clause-measure : goal.returns-in-Some-clause-measure
returns-in-Some-clause-measure c =
    ap (λ k. Some k) c.thousandths.ensures ∙ thousandths_told c.args.route.now c.args.chainage c.in-Some.measure c.in-Some.ensures.line c.in-Some.ensures.lowest

pub returns-in-None-clause-measure : goal.returns-in-None-clause-measure
returns-in-None-clause-measure c = no_thousandths c.args.route.now.marks c.args.chainage c.in-None.ensures.measure
