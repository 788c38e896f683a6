use Rattle.std.proofs.Common.{◌∙◌}
use Rattle.lrs_sheet_log.specs.Log.{row_line}
use Rattle.lrs_sheet_log.proofs.Written.{as-text, row-as}
use Rattle.lrs_sheet_log.proofs.lines.write_edit.Goals as goal

pub returns : goal.returns
returns g c = as-text c.write_fields.result _ _ _ (row_line c.args.edit.now) c.write_fields.ensures (row-as c.args.edit.now c.bytes.result.now c.as_bytes-line.result.now c.empty_fields.result.now c.bytes.ensures.text (c.as_bytes-line.ensures.value ∙ c.as_str.ensures) c.empty_fields.ensures)
