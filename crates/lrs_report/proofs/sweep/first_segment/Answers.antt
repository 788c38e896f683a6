use Rattle.std.proofs.Common.{◌∷◌, ◌∙◌, ap, sym, subst, length}
use Rattle.std.proofs.lemmas.List.{length-map}
use Rattle.lrs_report.specs.Columns.{first_value}
use Rattle.lrs_report.specs.Sweep.{segments_between, IsPassed}
use Rattle.lrs_report.proofs.Swept.{as_many, next_segment}
use Rattle.lrs_report.proofs.sweep.first_segment.Goals as goal

pub returns-clause-segments : goal.returns-clause-segments
returns-clause-segments g c =
    let old = c.args.columns.now.items in
    let new = c.pass_same-to.new.columns.items in
    let to = c.pass_same-to.result in
    let passed : IsPassed c.args.from c.args.len c.args.values.items old to new = subst (λ v. IsPassed c.args.from c.args.len v old to new) c.as_slice.ensures.value c.pass_same-to.ensures.passed in
    next_segment c.args.from c.args.len to c.args.values.items old new passed (rw c.as_slice.ensures.value at c.pass_same-to.ensures.other)
    ∙ (λ i. record { from = c.args.from; to = to; values = sym c.from_vec-values.ensures i } ∷ segments_between new to c.args.len)

pub returns-clause-behind : goal.returns-clause-behind
returns-clause-behind g c =
    let old = c.args.columns.now.items in
    let new = c.pass_same-to.new.columns.items in
    let passed = c.pass_same-to.ensures.passed in
    record {
      ahead = passed.ahead;
      within = passed.within;
      columns = passed.columns;
      fits = c.ranges.len.fits;
      values = ap length (c.from_vec-values.ensures ∙ c.requires.values) ∙ length-map old first_value ∙ sym (as_many c.args.from c.args.len c.pass_same-to.result c.as_slice.result.now old new passed);
    }
