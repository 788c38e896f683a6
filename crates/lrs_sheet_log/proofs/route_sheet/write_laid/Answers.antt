use Rattle.std.proofs.Common.{◌++◌, [], ◌∷◌, List, ℕ, codes, subst}
use Rattle.std.specs.Io.KnownBytes.{Appends}
use Rattle.lrs_element.specs.declared.link.Piece.{Piece}
use Rattle.lrs_machine.specs.Lines.{marks_text, pieces_text}
use Rattle.lrs_report_lists.proofs.CoursePieces.{are-pieces}
use Rattle.lrs_report_lists.specs.CoursePieces.{pieces_of}
use Rattle.lrs_sheet_log.proofs.RouteTexts.{laid-text}
use Rattle.lrs_sheet_log.proofs.Written.{appends-last, appends-more}
use Rattle.lrs_sheet_log.specs.RouteSheets.{command_line, laid}
use Rattle.lrs_sheet_log.proofs.route_sheet.write_laid.Goals as goal

pub returns : goal.returns
returns g c =
    let r = c.args.route.now in
    let start = g.W.Write.contents c.args.writer.now in
    let head = g.W.Write.contents c.write_head.new.writer in
    let pieces = g.W.Write.contents c.write_pieces.new.writer in
    let comma = g.W.Write.contents c.write_all.new.self in
    let marks = g.W.Write.contents c.write_marks.new.writer in
    let named = subst (λ (t : List ℕ). Appends start head (codes "route-" ++ (t ++ (codes ",route," ++ (t ++ 44 ∷ []))))) c.bytes.ensures.text c.in_ok-write_head.ensures in
    let written = subst (λ (t : List Piece). Appends head pieces (pieces_text t)) (are-pieces c.pieces.result.now r.course c.pieces.ensures.course c.pieces.ensures.fewest) c.in_ok-write_pieces.ensures in
    let two = appends-more start head pieces _ (pieces_text (pieces_of r.course)) named written in
    let three = appends-more start pieces comma _ (44 ∷ []) two c.in_ok-write_all.ensures.bytes in
    let four = appends-more start comma marks _ (marks_text c.args.marks.now) three c.in_ok-write_marks.ensures in
    appends-last c.write_all-2.result start marks (g.W.Write.contents c.write_all-2.new.self) _ _ (command_line (laid r c.args.marks.now)) four c.write_all-2.ensures.bytes
    (laid-text (codes "route-") r.name (codes ",route,") (pieces_text (pieces_of r.course)) (marks_text c.args.marks.now) (codes ",,,,,,") (10 ∷ []))
