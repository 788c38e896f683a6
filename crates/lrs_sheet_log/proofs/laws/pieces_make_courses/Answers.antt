use Rattle.lrs_report_lists.proofs.CoursePieces.{pieces_make}
use Rattle.lrs_sheet_log.proofs.laws.pieces_make_courses.Goals as goal

pub returns : goal.returns
returns c = pieces_make
