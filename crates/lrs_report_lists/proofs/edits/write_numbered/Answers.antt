use Rattle.std.proofs.Common.{◌++◌, ◌∷◌, [], ap}
use Rattle.std.specs.Prelude.{Option}
use Rattle.std.specs.Fmt.{decimal}
use Rattle.lrs_machine.specs.declared.image.Edit.{Edit}
use Rattle.lrs_report_lists.specs.Lines.{edit_numbered}
use Rattle.lrs_report_lists.specs.Parts.{edit_part, named_part}
use Rattle.lrs_report_lists.proofs.Writing.{appends_last}
use Rattle.lrs_report_lists.proofs.edits.write_numbered.Goals as goal

pub returns : goal.returns
returns g c =
    appends_last c.write_edit.result (g.W.Write.contents c.args.writer.now) (g.W.Write.contents c.write.new.self) (g.W.Write.contents c.write_edit.new.writer) _ _ (edit_part c.args.number (edit_numbered c.args.edits.now c.args.number)) c.in_ok-write.ensures.bytes c.write_edit.ensures
    (ap (λ (e : Option Edit). (decimal c.args.number ++ 44 ∷ []) ++ named_part e) c.edit_numbered.ensures)
