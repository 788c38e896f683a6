use Rattle.std.proofs.Common.{◌+◌, true, length}
use Rattle.lrs_machine.specs.declared.command.Command.TheVariants as verb
use Rattle.lrs_inventory.specs.Prelude.{state_of}
use Rattle.lrs_machine.specs.Machine.{wanted_of}
use Rattle.lrs_verbs.specs.EntryRequests.{is_left_out}
use Rattle.lrs_verbs.proofs.EntryChecks.{supersede_refused}
use Rattle.lrs_inventory.proofs.Stopping.{stopped}
use Rattle.lrs_verbs.proofs.verbs.supersede.plan_supersede.Goals as goal

pub returns-in-Err : goal.returns-in-Err
returns-in-Err c =
    let i = c.args.inventory.now in
    let e = c.args.asked.now in
    stopped (verb.Supersede e) i (wanted_of (is_left_out true) e (state_of i)) c.in-Err.why c.in-Err.ensures.refused
    (λ d is. supersede_refused e (length i.edits + 1) (state_of i) d is)
