-- What is decided about a command.
use Rattle.std.specs.Prelude.{◌≡◌, ◌+◌, ◌&&◌, true, false, nat_le, length}
use Rattle.lrs_measure.specs.Texts.{Name}
use Rattle.lrs_machine.specs.declared.answer.What.{What}
use Rattle.lrs_machine.specs.declared.answer.What.TheVariants.{Edits, Assets, Routes}
use Rattle.lrs_machine.specs.declared.answer.Answer.TheVariants.{Done}
use Rattle.lrs_machine.specs.declared.answer.Limits.{Limits}
use Rattle.lrs_machine.specs.declared.command.Command.{Command}
use Rattle.lrs_machine.specs.declared.image.Edit.{Edit}
use Rattle.lrs_machine.specs.declared.image.Image.{Image}
use Rattle.lrs_inventory.specs.declared.plan.Plan.{Plan}
use Rattle.lrs_desk.specs.declared.decision.Decision.{Decision}
use Rattle.lrs_desk.specs.declared.decision.Decision.TheVariants.{Stay, Make}
use Rattle.lrs_machine.specs.Image.{state_of}
use Rattle.lrs_image.specs.Change.{with_difference, with_edit}
use Rattle.lrs_inventory.specs.Plans.{IsPlanOf}
use Rattle.lrs_machine.specs.Lines.{line_of}
use Rattle.lrs_machine.specs.Machine.{step, needs_asset, needs_route}
use Rattle.lrs_machine.specs.Sound.{IsSound}

-- the edit that keeps a command
abbrev pub edit_of : Name → Command → Edit
edit_of key command = record { key = key; line = line_of command }

-- the image after a command that is done
abbrev pub done_image : Name → Command → Plan → Image → Image
done_image key command plan i = with_edit (edit_of key command) (with_difference plan.difference i)

-- The command is done by this plan, and leaves the image sound.
pub record IsDoneBy (limits : Limits) (key : Name) (command : Command) (i : Image) (plan : Plan) : Type 0 where
  pub is_plan : IsPlanOf command i plan
  pub outcome : step limits key command (state_of i) ≡ record { answer = Done (length i.edits + 1); state = state_of (done_image key command plan i) }
  pub sound : IsSound (done_image key command plan i)

-- A decision is the ground machine's.
abbrev pub IsDecision : Limits → Name → Command → Image → Decision → Type 0
IsDecision limits key command i (Stay answer) = step limits key command (state_of i) ≡ record { answer = answer; state = state_of i }
IsDecision limits key command i (Make plan) = IsDoneBy limits key command i plan

-- the limits leave room for the command
pub record HasRoom (limits : Limits) (command : Command) (i : Image) : Type 0 where
  pub edits : nat_le limits.edits (length i.edits) ≡ false
  pub assets : (needs_asset command && nat_le limits.assets (length i.assets)) ≡ false
  pub routes : (needs_route command && nat_le limits.routes (length i.routes)) ≡ false

-- ... or for this they leave no room, and for what is looked at before it they do
abbrev pub LacksRoom : What → Limits → Command → Image → Type 0
LacksRoom Edits limits command i = nat_le limits.edits (length i.edits) ≡ true
LacksRoom Assets limits command i =
    (nat_le limits.edits (length i.edits) ≡ false) × ((needs_asset command && nat_le limits.assets (length i.assets)) ≡ true)
LacksRoom Routes limits command i =
    (nat_le limits.edits (length i.edits) ≡ false) × ((needs_asset command && nat_le limits.assets (length i.assets)) ≡ false)
    × ((needs_route command && nat_le limits.routes (length i.routes)) ≡ true)
