use Rattle.std.specs.Fmt.{decimal}
use Rattle.lrs_report_lists.specs.Lines.{edit_numbered, event_line, key_text, link_side_text, verb_text}
use Rattle.lrs_report_lists.proofs.Writing.{appends_last, appends_more, event_parts}
use Rattle.lrs_report_lists.proofs.history.write_event.Goals as goal

pub returns : goal.returns
returns g c =
    let start = g.W.Write.contents c.args.writer.now in
    let edit = g.W.Write.contents c.write_numbered.new.writer in
    let event = g.W.Write.contents c.write.new.self in
    let p = c.args.part.now in
    let e = edit_numbered c.args.edits.now p.edit in
    let one = appends_more start edit event _ _ c.in_ok-write_numbered.ensures c.in_ok-write.ensures.bytes in
    appends_last c.write_ground.result start event (g.W.Write.contents c.write_ground.new.writer) _ _ (event_line c.args.edits.now c.args.event.now p) one c.write_ground.ensures
    (event_parts (decimal p.edit) (key_text e) (verb_text e) c.args.event.now (decimal p.link) (decimal p.from) (decimal p.to) (link_side_text p.side))
