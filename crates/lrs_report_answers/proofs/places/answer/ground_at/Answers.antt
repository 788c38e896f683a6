use Rattle.std.proofs.Common.{◌≡◌, subst, Ok, Err}
use Rattle.lrs_machine.specs.declared.image.Image.{Image}
use Rattle.lrs_machine.specs.Image.{state_of}
use Rattle.lrs_report_answers.specs.declared.fault.AskFault.TheVariants.{Memory}
use Rattle.lrs_report_answers.specs.Answers.{IsAt}
use Rattle.lrs_report_answers.proofs.Place.Ways.{stands}
use Rattle.lrs_report_answers.proofs.places.answer.ground_at.Goals.{In-Err}
use Rattle.lrs_report_answers.proofs.places.answer.ground_at.Goals as goal

pub returns-in-Ok : goal.returns-in-Ok
returns-in-Ok c =
    let row = c.args.row.now in
    let e = c.position_by-position.result in
    let h = subst (λ (i : Image). IsAt (state_of i) row.route.name e (Ok c.in-Ok.found)) c.kept.ensures.image c.in-Ok.ensures in
    stands c.args.inventory.now row c.kept.ensures.sound c.requires.known c.args.chainage e c.position_by-position.ensures (Ok c.in-Ok.found) h

-- where nothing is found memory ran out
wanting : (c : In-Err) → c.in-Err.fault ≡ Memory
wanting c =
    let row = c.args.row.now in
    let e = c.position_by-position.result in
    let h = subst (λ (i : Image). IsAt (state_of i) row.route.name e (Err c.in-Err.fault)) c.kept.ensures.image c.in-Err.ensures in
    stands c.args.inventory.now row c.kept.ensures.sound c.requires.known c.args.chainage e c.position_by-position.ensures (Err c.in-Err.fault) h

pub unreachable-requires : goal.unreachable-requires
unreachable-requires c = c.in_default.not-Memory (wanting c.before)
