-- What a command makes of an image.
use Rattle.std.specs.Prelude.{◌≡◌, ◌+◌, ◌≤◌, Bool, true, not, List, [], ◌∷◌, ◌++◌, length, Ok}
use Rattle.std.specs.List.{list_all}
use Rattle.lrs_measure.specs.Texts.{same_name}
use Rattle.lrs_machine.specs.declared.command.Command.{Command}
use Rattle.lrs_machine.specs.declared.image.Edit.{Edit}
use Rattle.lrs_machine.specs.declared.image.Image.{Image}
use Rattle.lrs_measure.specs.Limits.{most_assets, most_routes, most_edits}
use Rattle.lrs_machine.specs.Image.{state_of}
use Rattle.lrs_machine.specs.Machine.{attempt, needs_asset, needs_route}
use Rattle.lrs_machine.specs.Sound.{IsSound}
use Rattle.lrs_image_laws.specs.Orderly.{IsOrderly}

-- no edit has the key
abbrev pub is_new : Edit → List Edit → Bool
is_new e edits = list_all (λ d. not (same_name d.key e.key)) edits

-- the image with one more edit
abbrev pub with_edit : Edit → Image → Image
with_edit e i = record i { edits = i.edits ++ e ∷ [] }

-- there is room for the asset or the route that a verb adds
pub record HasRoomFor (command : Command) (i : Image) : Type 0 where
  pub assets : needs_asset command ≡ true → length i.assets + 1 ≤ most_assets
  pub routes : needs_route command ≡ true → length i.routes + 1 ≤ most_routes

-- The image j is what the command makes of the image i, before its edit is kept: the ground machine's next state, by the same edits, and its rows in order where there is room.
pub record Makes (command : Command) (i j : Image) : Type 0 where
  pub state : attempt (length i.edits + 1) command (state_of i) ≡ Ok (state_of j)
  pub edits : j.edits ≡ i.edits
  pub orderly : HasRoomFor command i → IsOrderly j

-- What a command makes of a sound image is sound, with an edit under a new key, where there is room for that edit.
abbrev pub MadeIsSound : Type 0
MadeIsSound = (command : Command) (i j : Image) (e : Edit) → IsSound i → Makes command i j → HasRoomFor command i → is_new e i.edits ≡ true → length i.edits + 1 ≤ most_edits → IsSound (with_edit e j)
