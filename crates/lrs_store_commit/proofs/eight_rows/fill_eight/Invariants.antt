use Rattle.std.proofs.Common.{◌≡◌, ◌*◌, take, length}
use Rattle.sqlite.specs.Values.{bound}
use Rattle.lrs_store_tables.specs.Cells.{all_cells}
use Rattle.lrs_store_commit.proofs.eight_rows.fill_eight.Given as goal

abbrev pub invariant-loop-i : goal.invariant-loop-i
invariant-loop-i g l = record {
  width : l.width ≡ g.R.Filled.columns;
  room : length l.cells ≡ 8 * l.width;
  filled : take (l.width * l.i) (bound l.cells) ≡ all_cells (g.R.Filled.values l.of) l.n (take l.i l.rows);
}
