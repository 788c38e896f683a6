use Rattle.std.proofs.Common.{rules, length, arith, ◌≤◌}
use Rattle.lrs_sheet_records.specs.Kinds.{edit_fields}
use Rattle.lrs_sheet_records.proofs.Misfits.{text_at-past}
use Rattle.lrs_sheet_records.proofs.arguments.new_asset_of.Goals as goal

pub returns : goal.returns
returns c =
    let few : length (edit_fields c.args.row.now) ≤ 11 = c.requires in
    (search rules, (search rules, (search rules, (search rules, (search rules, (search rules, (search rules, (search rules, (search rules, λ i above. text_at-past (edit_fields c.args.row.now) i (omega (arith, few, above)))))))))))
