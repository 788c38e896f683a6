use Rattle.std.proofs.Common.{◌∙◌, ◌≤◌, ap, sym, arith, length}
use Rattle.std.proofs.lemmas.List.Sums.{prefix_len_is}
use Rattle.lrs_report_answers.specs.CombinationParts.{has_values}
use Rattle.lrs_report_lists.proofs.Length.Tests.{prefix_all}
use Rattle.lrs_report_answers.proofs.combinations.table.count_alike.Goals as goal

pub returns-then-not-has_values_of : goal.returns-then-not-has_values_of
returns-then-not-has_values_of c =
    let p = has_values c.args.first.now.values in
    let entries = c.args.entries.now in
    let entry = c.index-entries-i.result in
    let inside : c.loop-i.i ≤ length entries = omega arith in
    sym (prefix_len_is p entries c.loop-i.i entry inside (λ k l. c.loop-i.invariant k entry l) (λ l. ap p (sym c.index-entries-i.is) ∙ sym c.has_values_of.ensures ∙ c.if-not-has_values_of.true))

pub returns : goal.returns
returns c =
    let entries = c.args.entries.now in
    let end : length entries ≤ c.loop-i.i = c.loop-i-test.false in
    sym (prefix_all (has_values c.args.first.now.values) entries (λ k d l. c.loop-i.invariant k d (omega (arith, l, end))))
