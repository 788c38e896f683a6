use Rattle.std.proofs.Common.{◌∙◌, ap}
use Rattle.lrs_measure.specs.Texts.{same_name}
use Rattle.lrs_report_answers.specs.declared.tallies.tally.Count.{Count}
use Rattle.lrs_report_answers.specs.Tally.Counts.{names_of, raised}
use Rattle.lrs_report_answers.proofs.Tally.Counted.{changed, unchanged, names_stay}
use Rattle.lrs_report_answers.proofs.tallies.tally.raise.Goals as goal

pub returns-in-Some-clause-sums : goal.returns-in-Some-clause-sums
returns-in-Some-clause-sums c =
    changed (λ (x : Count). same_name c.args.class x.class) (raised c.args.column c.args.length) c.args.counts.now.items c.in-Some.at c.index.result.now c.raised.result
    (rw c.deref.ensures.value at c.in-Some.ensures.within) (rw c.deref.ensures.value at c.in-Some.ensures.place) (c.raised.ensures ∙ ap (raised c.args.column c.args.length) c.index.ensures)

pub returns-in-Some-clause-names : goal.returns-in-Some-clause-names
returns-in-Some-clause-names c = ap names_of (returns-in-Some-clause-sums c) ∙ names_stay c.args.class c.args.column c.args.length c.args.counts.now.items

pub returns-in-None-clause-sums : goal.returns-in-None-clause-sums
returns-in-None-clause-sums c = unchanged (λ (x : Count). same_name c.args.class x.class) (raised c.args.column c.args.length) c.args.counts.now.items (rw c.deref.ensures.value at c.in-None.ensures.place)
