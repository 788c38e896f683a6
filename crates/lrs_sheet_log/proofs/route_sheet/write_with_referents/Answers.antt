use Rattle.std.proofs.Common.{List, length, subst}
use Rattle.std.specs.List.{flat_map}
use Rattle.std.specs.Io.KnownBytes.{Appends}
use Rattle.lrs_element.specs.declared.marks.Mark.{Mark}
use Rattle.lrs_position.specs.declared.route.Referent.{Referent}
use Rattle.lrs_sheet_log.proofs.RouteTexts.{all-lines}
use Rattle.lrs_sheet_log.proofs.Written.{appends-last, appends-more}
use Rattle.lrs_sheet_log.specs.RouteSheets.{chainage_marks, command_line, laid, laid_with_referents, set_on}
use Rattle.lrs_sheet_log.proofs.route_sheet.write_with_referents.Goals as goal

pub returns : goal.returns
returns g c =
    let r = c.args.route.now in
    let start = g.W.Write.contents c.args.writer.now in
    let first = g.W.Write.contents c.write_laid.new.writer in
    let refs = g.W.Write.contents c.write_referents.new.writer in
    let laid_so = subst (λ (ms : List Mark). Appends start first (command_line (laid r ms))) c.chainage_marks-marks.ensures c.in_ok-write_laid.ensures in
    let set_so = subst (λ (xs : List Referent). Appends first refs (flat_map (λ x. command_line (set_on r.name x)) xs)) c.as_slice.ensures c.in_ok-write_referents.ensures in
    let two = appends-more start first refs (command_line (laid r (chainage_marks (length r.course)))) _ laid_so set_so in
    appends-last c.write_calibrated.result start refs (g.W.Write.contents c.write_calibrated.new.writer) _ _ (flat_map command_line (laid_with_referents r)) two c.write_calibrated.ensures (all-lines r)
