use Rattle.std.proofs.Common.{List, [], ◌∷◌, codes, subst}
use Rattle.std.specs.Io.KnownBytes.{Appends}
use Rattle.lrs_element.specs.declared.marks.Mark.{Mark}
use Rattle.lrs_machine.specs.Lines.{marks_text, pieces_text}
use Rattle.lrs_report_lists.specs.CoursePieces.{pieces_of}
use Rattle.lrs_report_lists.specs.Lines.{csv_line}
use Rattle.lrs_report_lists.proofs.Writing.{appends_last, appends_more}
use Rattle.lrs_difference.specs.declared.line.Item.TheVariants as item
use Rattle.lrs_difference.specs.Lines.{item_fields}
use Rattle.lrs_difference.proofs.Words.{route_parts}
use Rattle.lrs_difference.proofs.text.write_route.Goals as goal

pub returns : goal.returns
returns g c =
    let name = c.args.name.now in
    let pieces = pieces_text (pieces_of c.args.course.now) in
    let marks = marks_text c.args.marks.now in
    let start = g.W.Write.contents c.args.writer.now in
    let head = g.W.Write.contents c.write_route_head.new.writer in
    let course = g.W.Write.contents c.write_course.new.writer in
    let comma = g.W.Write.contents c.write_all.new.self in
    let marked = g.W.Write.contents c.write_marks.new.writer in
    let two = appends_more start head course _ pieces c.in_ok-write_route_head.ensures c.in_ok-write_course.ensures in
    let three = appends_more start course comma _ (44 ∷ []) two c.in_ok-write_all.ensures.bytes in
    let lined = subst (λ (t : List Mark). Appends comma marked (marks_text t)) c.list.ensures.list c.in_ok-write_marks.ensures in
    let four = appends_more start comma marked _ marks three lined in
    appends_last c.write_all-2.result start marked (g.W.Write.contents c.write_all-2.new.self) _ _ (csv_line (item_fields (item.Route name c.args.course.now c.args.marks.now))) four c.write_all-2.ensures.bytes
    (route_parts (codes "route") name pieces marks)
