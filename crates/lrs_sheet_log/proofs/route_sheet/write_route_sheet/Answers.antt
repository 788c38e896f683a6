use Rattle.std.proofs.Common.{◌≡◌, ◌∙◌, List, ap, false, sym, true}
use Rattle.lrs_measure.specs.Lists.{is_nothing}
use Rattle.lrs_element.specs.declared.marks.Mark.{Mark}
use Rattle.lrs_sheet_log.proofs.RouteTexts.{sheet-with, sheet-without}
use Rattle.lrs_sheet_log.proofs.Written.{appends-last, as-text}
use Rattle.lrs_sheet_log.specs.RouteSheets.{command_line, laid, route_sheet}
use Rattle.lrs_sheet_log.proofs.route_sheet.write_route_sheet.Goals as goal

pub returns-then-lacks_referents : goal.returns-then-lacks_referents
returns-then-lacks_referents g c =
    let r = c.args.route.now in
    let start = g.W.Write.contents c.args.writer.now in
    let head = g.W.Write.contents c.write_header.new.writer in
    let end = g.W.Write.contents c.write_laid.new.writer in
    let none : is_nothing r.refs ≡ true = sym c.lacks_referents.ensures ∙ c.if-lacks_referents.true in
    let one = as-text c.write_laid.result head end _ (command_line (laid r r.marks)) c.write_laid.ensures (ap (λ (ms : List Mark). command_line (laid r ms)) c.list.ensures.list) in
    appends-last c.write_laid.result start head end _ _ (route_sheet r) c.in_ok-write_header.ensures one (sheet-without r none)

pub returns-else-lacks_referents : goal.returns-else-lacks_referents
returns-else-lacks_referents g c =
    let r = c.args.route.now in
    let start = g.W.Write.contents c.args.writer.now in
    let head = g.W.Write.contents c.write_header.new.writer in
    let end = g.W.Write.contents c.write_with_referents.new.writer in
    let some : is_nothing r.refs ≡ false = sym c.lacks_referents.ensures ∙ c.if-lacks_referents.false in
    appends-last c.write_with_referents.result start head end _ _ (route_sheet r) c.in_ok-write_header.ensures c.write_with_referents.ensures (sheet-with r some)
