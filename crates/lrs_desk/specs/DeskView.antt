-- What is seen of a desk.
use Rattle.std.specs.Prelude.{◌≡◌, ℕ, Bool, true, false, List, [], Result}
use Rattle.lrs_machine.specs.declared.answer.Limits.{Limits}
use Rattle.lrs_machine.specs.declared.image.Image.{Image}
use Rattle.lrs_machine.specs.declared.table.Table.{Table}
use Rattle.lrs_image.specs.declared.change.Change.{Change}
use Rattle.lrs_image.specs.KeeperCalls.{HoldsOnly}
use Rattle.lrs_report_answers.specs.declared.tallies.counts.Counts.{Counts}
use Rattle.lrs_report_answers.specs.Tally.RunningCounts.{IsCounted}

pub record DeskView (K : Type 0) : Type 0 where
  pub image : Image
  pub limits : Limits
  -- whether a commit has failed
  pub must_reopen : Bool
  -- whether that commit was of several commands, which the image has then and an opening may not find
  pub is_ahead : Bool
  pub keeper : K
  -- how often the keeper has counted a failure
  pub failures : ℕ

-- What a desk relies on of its keeper: what an opening may find, whether the device is clean and reached, what is loaded and staged.
pub record Relied : Type 1 where
  pub may : Result Image Table → Type 0
  pub IsClean : Type 0
  pub IsOpen : Type 0
  pub is_loaded : Bool
  pub staged : List Change

-- An opening finds the image and nothing else, unless a commit has failed; and what is counted of each class is the image's.
pub record IsWorking (image : Image) (counts : Counts) (must_reopen is_ahead : Bool) (keeper : Relied) : Type 0 where
  pub kept : must_reopen ≡ false → HoldsOnly keeper.may image
  pub reached : must_reopen ≡ false → keeper.IsClean → keeper.IsOpen
  pub behind : must_reopen ≡ false → is_ahead ≡ false
  pub loaded : keeper.is_loaded ≡ true
  pub none_staged : keeper.staged ≡ []
  pub counted : IsCounted image counts
