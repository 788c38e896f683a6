use Rattle.std.proofs.Common.{sym, ◌∙◌}
use Rattle.std.specs.Str.{is_utf8}
use Rattle.lrs_measure.specs.Texts.{Name}
use Rattle.lrs_machine.specs.declared.image.Edit.{Edit}
use Rattle.lrs_machine.specs.Keys.{is_key}
use Rattle.lrs_store_tables.specs.Contents.Decoders.{Numbered}
use Rattle.lrs_store_tables.proofs.SaidRows.{both_only}
use Rattle.lrs_store_image.proofs.edits.edit.Goals as goal

pub returns : goal.returns
returns c =
    let make : Name → Name → Numbered Edit = λ key line. record { n = c.args.n; said = record { key = key; line = line } } in
    both_only (is_key c.args.key.now) (is_utf8 c.args.line.now) c.args.key.now c.in-Some.key c.args.line.now c.in-Some-2.line make (sym c.in-Some.is ∙ c.key_of.ensures) (sym c.in-Some-2.is ∙ c.in_ok-line.ensures)
