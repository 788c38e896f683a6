use Rattle.std.proofs.Common.{◌∙◌, ◌≤◌, ap, sym, arith, length}
use Rattle.std.proofs.lemmas.List.Sums.{prefix_len_is}
use Rattle.lrs_report_lists.specs.Length.Parts.{is_entry_of}
use Rattle.lrs_report_lists.proofs.Length.Tests.{prefix_all}
use Rattle.lrs_report_lists.proofs.length_lists.table.count_alike.Goals as goal

pub returns-then-not-is_of : goal.returns-then-not-is_of
returns-then-not-is_of c =
    let p = is_entry_of c.args.first.now.class c.args.first.now.value in
    let entries = c.args.entries.now in
    let entry = c.index-entries-i.result in
    let inside : c.loop-i.i ≤ length entries = omega arith in
    sym (prefix_len_is p entries c.loop-i.i entry inside (λ k l. c.loop-i.invariant k entry l) (λ l. ap p (sym c.index-entries-i.is) ∙ sym c.is_of.ensures ∙ c.if-not-is_of.true))

pub returns : goal.returns
returns c =
    let entries = c.args.entries.now in
    let end : length entries ≤ c.loop-i.i = c.loop-i-test.false in
    sym (prefix_all (is_entry_of c.args.first.now.class c.args.first.now.value) entries (λ k d l. c.loop-i.invariant k d (omega (arith, l, end))))
