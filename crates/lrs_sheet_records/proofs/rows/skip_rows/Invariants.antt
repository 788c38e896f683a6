use Rattle.std.proofs.Common.{◌≡◌, List, length, Some}
use Rattle.csv.specs.Reading.{expected_len}
use Rattle.lrs_machine.specs.Lines.{Text}
use Rattle.lrs_sheet_records.specs.declared.sheet.Sheet.{Sheet}
use Rattle.lrs_sheet_records.specs.Kinds.{width_of}
use Rattle.lrs_sheet_records.specs.Rows.{Gave, IsPlain}
use Rattle.lrs_sheet_records.proofs.rows.skip_rows.Given as goal

abbrev pub invariant-loop-turn : goal.invariant-loop-turn
invariant-loop-turn g l = record {
  plain : IsPlain l.rows;
  width : (sheet : Sheet) → expected_len l.initial.rows ≡ Some (width_of sheet) → expected_len l.rows ≡ Some (width_of sheet);
  gave : (records : List (List Text)) × (length records ≡ l._turn) × Gave g.R.Read.remaining l.initial.rows l.rows records;
}
