-- The rows of a sound image are canonical, and the fewest.
use Rattle.lrs_machine.specs.Sound.{IsSound}
use Rattle.lrs_machine.specs.declared.image.Image.{Image}
use Rattle.lrs_promises.proofs.DeskLaws.Runs.{rows_are_one, rows_are_the_runs}
use Rattle.lrs_promises.proofs.DeskLaws.Maximal.{rows_are_maximal}
use Rattle.lrs_promises.proofs.DeskLaws.Apart.{rows_stand}
use Rattle.lrs_promises.proofs.DeskLaws.Fewest.{none_is_shorter}
use Rattle.lrs_promises.specs.Rows.{HasFewestRows}

pub has_fewest_rows : (i : Image) → IsSound i → HasFewestRows i
has_fewest_rows i sound = record {
  canonical = rows_are_the_runs i sound;
  maximal = rows_are_maximal i sound;
  same = λ j other. rows_are_one i j sound other;
  tell = rows_stand i sound;
  fewest = λ rows. none_is_shorter i rows sound;
}
