use Rattle.std.proofs.Common.{◌≡◌, take}
use Rattle.lrs_machine.specs.Sound.{IsSound}
use Rattle.lrs_image.specs.OpenLists.{image_of}
use Rattle.lrs_image.specs.ChangeLists.{apply_all}
use Rattle.lrs_image.proofs.image_lists.ImageLists.change_all.Given as goal

abbrev pub invariant-loop-change : goal.invariant-loop-change
invariant-loop-change l = record {
  sound : IsSound (image_of l.self);
  made : image_of l.self ≡ apply_all (take l.change-index l.changes) (image_of l.fn.self);
}
