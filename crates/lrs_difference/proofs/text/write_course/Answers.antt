use Rattle.std.proofs.Common.{ap}
use Rattle.lrs_machine.specs.Lines.{pieces_text}
use Rattle.lrs_report_lists.specs.CoursePieces.{pieces_of}
use Rattle.lrs_report_lists.proofs.CoursePieces.{are-pieces}
use Rattle.lrs_report_lists.proofs.Writing.{as_text}
use Rattle.lrs_difference.proofs.text.write_course.Goals as goal

pub returns : goal.returns
returns g c =
    as_text c.write_pieces.result _ _ _ (pieces_text (pieces_of c.args.course.now)) c.write_pieces.ensures
    (ap pieces_text (are-pieces c.pieces.result.now c.args.course.now c.pieces.ensures.course c.pieces.ensures.fewest))
