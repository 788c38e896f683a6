use Rattle.std.proofs.Common.{◌≡◌, true}
use Rattle.std.specs.Cmp.Lexicographic.{pointwise, pointwise_decides}
use Rattle.lrs_report_lists.proofs.FewestPieces.{courses-same}
use Rattle.lrs_difference.specs.Items.{same_ground}
use Rattle.lrs_difference.specs.Merging.{same_piece}
use Rattle.lrs_difference.proofs.Same.{grounds}
use Rattle.lrs_difference.proofs.SamePieces.{one_answer, pieces}
use Rattle.lrs_difference.proofs.entries.is_same_course.Goals as goal

pub returns : goal.returns
returns c =
    let ps = c.pieces.result.now in
    let qs = c.pieces-2.result.now in
    let one = c.args.one.now in
    let other = c.args.other.now in
    let same = courses-same one other ps qs (pointwise same_piece ps qs ≡ true) c.pieces.ensures.course c.pieces-2.ensures.course c.pieces.ensures.fewest c.pieces-2.ensures.fewest (pointwise_decides pieces ps qs) in
    one_answer c.are_same_pieces.result (pointwise same_piece ps qs) (pointwise same_ground one other) c.are_same_pieces.ensures same (pointwise_decides grounds one other)
