use Rattle.lrs_image.specs.OpenLists.{image_of}
use Rattle.lrs_sheet_log.specs.Differences.{SameUpTo}
use Rattle.lrs_sheet_log.proofs.difference.first_difference.Given as goal

abbrev pub invariant-loop-place : goal.invariant-loop-place
invariant-loop-place l = SameUpTo l.place (image_of l.left) (image_of l.right)
