use Rattle.std.proofs.Common.{◌++◌, [], ◌∷◌, List, ℕ, codes, subst}
use Rattle.std.specs.Io.KnownBytes.{Appends}
use Rattle.lrs_machine.specs.Lines.{marks_text}
use Rattle.lrs_sheet_log.proofs.RouteTexts.{calibrated-text}
use Rattle.lrs_sheet_log.proofs.Written.{appends-last, appends-more}
use Rattle.lrs_sheet_log.specs.RouteSheets.{calibrated, command_line}
use Rattle.lrs_sheet_log.proofs.route_sheet.write_calibrated.Goals as goal

pub returns : goal.returns
returns g c =
    let r = c.args.route.now in
    let start = g.W.Write.contents c.args.writer.now in
    let head = g.W.Write.contents c.write_head.new.writer in
    let marks = g.W.Write.contents c.write_marks.new.writer in
    let named = subst (λ (t : List ℕ). Appends start head (codes "recalibrate-" ++ (t ++ (codes ",recalibrate," ++ (t ++ 44 ∷ []))))) c.bytes-name.ensures.text c.in_ok-write_head.ensures in
    let whole = subst (λ ms. Appends head marks (marks_text ms)) c.list.ensures.list c.in_ok-write_marks.ensures in
    let two = appends-more start head marks _ (marks_text r.marks) named whole in
    appends-last c.write_all.result start marks (g.W.Write.contents c.write_all.new.self) _ _ (command_line (calibrated r)) two c.write_all.ensures.bytes
    (calibrated-text (codes "recalibrate-") r.name (codes ",recalibrate,") (marks_text r.marks) (codes ",,,,,,,") (10 ∷ []))
