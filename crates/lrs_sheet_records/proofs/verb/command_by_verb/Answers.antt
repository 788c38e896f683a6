use Rattle.lrs_sheet_records.specs.Kinds.{edit_fields}
use Rattle.lrs_sheet_records.specs.Verbs.{row_of}
use Rattle.lrs_sheet_records.proofs.Misfits.{is-verb, reads-verb}
use Rattle.lrs_sheet_records.proofs.verb.command_by_verb.Goals as goal

pub returns-in-Some : goal.returns-in-Some
returns-in-Some c = reads-verb (edit_fields c.args.row.now) (row_of c.in-Some.verb).name c.command_of_verb.result (is-verb c.in-Some.verb) (rw c.text_at.ensures at c.in-Some.ensures.known) c.command_of_verb.ensures
