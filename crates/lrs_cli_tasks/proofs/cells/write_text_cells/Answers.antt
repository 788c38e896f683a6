use Rattle.lrs_report.proofs.Writing.{appends_last}
use Rattle.lrs_cli_tasks.specs.Cells.{close_of}
use Rattle.lrs_cli_tasks.specs.Lines.{text_cells}
use Rattle.lrs_cli_tasks.proofs.TextCells.{all_marked, none_marked, one_marked}
use Rattle.lrs_cli_tasks.proofs.cells.write_text_cells.Goals as goal

pub loop-byte-init : goal.loop-byte-init
loop-byte-init g c = none_marked c.args.text.now (g.W.Write.contents c.args.writer.now)

pub loop-byte-preserved : goal.loop-byte-preserved
loop-byte-preserved g c =
    rw c.is_edge-edge.ensures (one_marked c.args.text.now _ _ _ c.loop-byte.is_open c.loop-byte.byte-index c.loop-byte-test.true c.loop-byte.invariant (rw c.is_edge-edge.ensures at c.in_ok-write_byte.ensures))

pub returns : goal.returns
returns g c =
    appends_last c.write_close.result _ _ _ c.loop-byte.invariant.written (close_of c.loop-byte.is_open) (text_cells c.args.text.now) c.loop-byte.invariant.appended c.write_close.ensures
    (all_marked c.args.text.now _ _ c.loop-byte.is_open c.loop-byte.byte-index c.loop-byte-test.false c.loop-byte.invariant)
