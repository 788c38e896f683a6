use Rattle.std.proofs.Common.{◌≡◌, ◌++◌, ◌+◌, drop, sym, subst, arith}
use Rattle.std.specs.Prelude.{ℕ, List}
use Rattle.std.specs.Io.KnownBytes.{Appends}
use Rattle.lrs_report.specs.Drawings.Labels.{labels_text, text_if}
use Rattle.lrs_report.proofs.Writing.{appends_more}
use Rattle.lrs_report.proofs.Drawings.Labelled.{label_more, labels_end}
use Rattle.lrs_report.proofs.diagrams.labels.write_labels.Goals as goal

pub loop-label-preserved : goal.loop-label-preserved
loop-label-preserved g c =
    let place = g.L.Label.place c.args.scale in
    let text = g.L.Label.text in
    let all = labels_text place text 0 c.args.labels.now in
    let l = c.label-item.result in
    let done = c.loop-label.invariant.done ++ text_if c.loop-label.free (place l) (text l) in
    record {
      done = done;
      written = appends_more (g.W.Write.contents c.args.writer.now) (g.W.Write.contents c.loop-label.writer) (g.W.Write.contents c.write_if_fits.new.writer) _ _ c.loop-label.invariant.written c.in_ok-free.ensures.written;
      rest = subst (λ (free : ℕ). done ++ labels_text place text free (drop (c.loop-label.label-index + 1) c.args.labels.now) ≡ all) (sym c.in_ok-free.ensures.next)
          (label_more place text c.loop-label.label-index c.loop-label.free c.args.labels.now l c.loop-label.invariant.done all c.loop-label-test.true c.label-item.is c.loop-label.invariant.rest);
    }

pub returns : goal.returns
returns g c =
    let place = g.L.Label.place c.args.scale in
    let text = g.L.Label.text in
    subst (λ (t : List ℕ). Appends (g.W.Write.contents c.args.writer.now) (g.W.Write.contents c.loop-label.writer) t)
    (labels_end place text c.loop-label.label-index c.loop-label.free c.args.labels.now c.loop-label.invariant.done (labels_text place text 0 c.args.labels.now) (omega arith) c.loop-label.invariant.rest)
    c.loop-label.invariant.written
