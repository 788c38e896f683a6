use Rattle.lrs_cli_tasks.proofs.TextCells.{HasMarked}
use Rattle.lrs_cli_tasks.proofs.cells.write_text_cells.Given as goal

abbrev pub invariant-loop-byte : goal.invariant-loop-byte
invariant-loop-byte g l = HasMarked l.text (g.W.Write.contents l.fn.writer) (g.W.Write.contents l.writer) l.is_open l.byte-index
