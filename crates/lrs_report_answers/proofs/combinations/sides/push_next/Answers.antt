use Rattle.std.proofs.Common.{◌≡◌, ◌∙◌, Some, sym, ap, subst}
use Rattle.std.specs.Prelude.{IfOk}
use Rattle.std.specs.Option.{option_copied}
use Rattle.std.proofs.lemmas.Option.{same_Some}
use Rattle.lrs_machine.specs.declared.segment.Segment.{Segment}
use Rattle.lrs_report_answers.specs.CombinationParts.{Joins}
use Rattle.lrs_report_answers.proofs.Combined.Sides.{walk_next}
use Rattle.lrs_report_answers.proofs.combinations.sides.push_next.Goals as goal

pub push_joint-requires-clause-right : goal.push_joint-requires-clause-right
push_joint-requires-clause-right c = c.requires.right c.in-Some.right.now (ap option_copied c.in-Some.is)

pub returns-in-Some : goal.returns-in-Some
returns-in-Some c = λ s e.
    let same = same_Some c.in-Some.right.now s (ap option_copied (sym c.in-Some.is) ∙ e) in
    subst (λ (x : Segment). IfOk c.push_joint.result (Joins c.args.at c.args.left.now x c.args.entries.now.items c.push_joint.new.entries.items)) same c.push_joint.ensures

pub returns-in-None : goal.returns-in-None
returns-in-None c = λ s e. absurd (cc (ap option_copied (sym c.in-None.is) ∙ e))
