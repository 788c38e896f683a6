use Rattle.std.proofs.Common.{arith}
use Rattle.lrs_image.specs.OpenLists.{image_of}
use Rattle.lrs_sheet_log.proofs.Tables.{image-same, up-to-first}
use Rattle.lrs_sheet_log.proofs.difference.first_difference.Goals as goal

pub loop-place-init : goal.loop-place-init
loop-place-init c = up-to-first (image_of c.args.left.now) (image_of c.args.right.now)

pub returns : goal.returns
returns c = image-same (image_of c.args.left.now) (image_of c.args.right.now) (λ t low. c.loop-place.invariant t (omega (arith, low, c.loop-place-test.false)))
