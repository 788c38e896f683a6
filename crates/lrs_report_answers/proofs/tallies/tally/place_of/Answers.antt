use Rattle.std.proofs.Common.{rules}
use Rattle.std.proofs.lemmas.Fn.{always_returns_same}
use Rattle.lrs_measure.specs.Texts.{name_cmp}
use Rattle.lrs_report_answers.specs.declared.tallies.tally.Count.{Count}
use Rattle.lrs_report_answers.proofs.Tally.Counted.{place_found, place_missing}
use Rattle.lrs_report_answers.proofs.tallies.tally.place_of.Goals as goal

pub returns-in-Ok-clause-place : goal.returns-in-Ok-clause-place
returns-in-Ok-clause-place c =
    let is = c.in-Ok.ensures in
    let class = c.args.class in
    place_found c.args.counts.now class c.requires.order c.in-Ok.at is.bound (is.position (λ (y : Count). name_cmp y.class class) (always_returns_same _ _ _ (λ a r f called. search rules)))

pub returns-in-Err-clause-place : goal.returns-in-Err-clause-place
returns-in-Err-clause-place c =
    let is = c.in-Err.ensures in
    let class = c.args.class in
    place_missing c.args.counts.now class c.requires.order c.in-Err.field-0 is.bound (is.position (λ (y : Count). name_cmp y.class class) (always_returns_same _ _ _ (λ a r f called. search rules)))
