use Rattle.std.proofs.Common.{Bor}
use Rattle.std.specs.Fmt.{decimal}
use Rattle.std.specs.Option.{option_map}
use Rattle.lrs_events.specs.declared.class.Asset.{Asset}
use Rattle.lrs_report_lists.specs.Lines.{edit_numbered, gone_line_with, key_text, link_side_text, reason_text, said_of, verb_text}
use Rattle.lrs_report_lists.proofs.Writing.{appends_last, appends_more, gone_parts}
use Rattle.lrs_report_lists.proofs.ledger.write_part_of.Goals as goal

pub returns : goal.returns
returns g c =
    let start = g.W.Write.contents c.args.writer.now in
    let edit = g.W.Write.contents c.write_numbered.new.writer in
    let reason = g.W.Write.contents c.write_reason.new.writer in
    let class = g.W.Write.contents c.write_class_of.new.writer in
    let gone = c.args.gone.now in
    let e = edit_numbered c.args.edits.now gone.part.edit in
    let a = option_map (λ (x : Bor Asset). x.now) c.args.asset in
    let one = appends_more start edit reason _ _ c.in_ok-write_numbered.ensures c.in_ok-write_reason.ensures in
    let two = appends_more start reason class _ _ one c.in_ok-write_class_of.ensures in
    appends_last c.write_ground.result start class (g.W.Write.contents c.write_ground.new.writer) _ _ (gone_line_with e a gone) two c.write_ground.ensures
    (gone_parts (decimal gone.part.edit) (key_text e) (verb_text e) (reason_text gone.abandoned) (decimal gone.part.asset) (said_of (λ x. x.class) a) (said_of (λ x. x.value) a)
    (decimal gone.part.link) (decimal gone.part.from) (decimal gone.part.to) (link_side_text gone.part.side))
