use Rattle.std.proofs.Common.{◌≡◌, ◌++◌, sym, subst, arith}
use Rattle.std.specs.Prelude.{ℕ, List}
use Rattle.std.specs.List.{flat_map, range_with_len}
use Rattle.std.specs.Io.KnownBytes.{Appends}
use Rattle.lrs_report.specs.Drawings.Axis.{shown_tick}
use Rattle.lrs_report.proofs.Writing.{appends_more}
use Rattle.lrs_report.proofs.Drawings.Appending.{numbers_more}
use Rattle.lrs_report.proofs.diagrams.axis.write_ticks.Goals as goal

pub loop-i-preserved : goal.loop-i-preserved
loop-i-preserved g c =
    subst (λ (text : List ℕ). Appends (g.W.Write.contents c.args.writer.now) (g.W.Write.contents c.write_shown_tick.new.writer) text) (sym (numbers_more (shown_tick c.args.scale) c.loop-i.i))
    (appends_more (g.W.Write.contents c.args.writer.now) (g.W.Write.contents c.loop-i.writer) (g.W.Write.contents c.write_shown_tick.new.writer) _ _ c.loop-i.invariant c.in_ok-write_shown_tick.ensures)

pub returns : goal.returns
returns g c =
    let all : c.loop-i.i ≡ 12 = omega arith in
    subst (λ (n : ℕ). Appends (g.W.Write.contents c.args.writer.now) (g.W.Write.contents c.loop-i.writer) (flat_map (shown_tick c.args.scale) (range_with_len 0 n))) all c.loop-i.invariant
