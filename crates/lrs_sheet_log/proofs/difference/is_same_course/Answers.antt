use Rattle.std.specs.Prelude.{IsTrue}
use Rattle.lrs_sheet_log.proofs.Each.{each-equal}
use Rattle.lrs_report_lists.proofs.FewestPieces.{courses-same}
use Rattle.lrs_sheet_log.proofs.difference.is_same_course.Goals as goal

pub returns : goal.returns
returns c =
    let ps = c.pieces.result.now in
    let qs = c.pieces-2.result.now in
    courses-same c.args.one.now c.args.other.now ps qs (IsTrue c.are_each.result) c.pieces.ensures.course c.pieces-2.ensures.course c.pieces.ensures.fewest c.pieces-2.ensures.fewest (each-equal (IsTrue c.are_each.result) ps qs c.are_each.ensures)
