use Rattle.std.proofs.Common.{◌≡◌, ◌+◌, suc, ◌∙◌, ap, subst, take, arith}
use Rattle.std.proofs.lemmas.Grind.{common_steps}
use Rattle.std.specs.List.{flat_map}
use Rattle.std.specs.Io.KnownBytes.{Appends}
use Rattle.std.specs.Prelude.{ℕ, List}
use Rattle.lrs_report.specs.Drawings.Strips.{segment_text}
use Rattle.lrs_report.proofs.Writing.{appends_more, flat_map_next}
use Rattle.lrs_report.proofs.diagrams.strip_text.write_segments.Goals as goal

pub loop-segment-preserved : goal.loop-segment-preserved
loop-segment-preserved g c =
    let i = c.loop-segment.segment-index in
    let n : suc i ≡ i + 1 = omega arith in
    let next = flat_map_next segment_text i c.args.segments.now c.segment-item.result c.loop-segment-test.true c.segment-item.is ∙ ap (λ k. flat_map segment_text (take k c.args.segments.now)) n in
    subst (λ (text : List ℕ). Appends (g.W.Write.contents c.args.writer.now) (g.W.Write.contents c.write_segment.new.writer) text) next
    (appends_more (g.W.Write.contents c.args.writer.now) (g.W.Write.contents c.loop-segment.writer) (g.W.Write.contents c.write_segment.new.writer) _ _ c.loop-segment.invariant c.in_ok-write_segment.ensures)

pub returns : goal.returns
returns g c = grind (arith, common_steps)
