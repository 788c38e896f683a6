use Rattle.std.proofs.Common.{◌≡◌, ℕ, ◌++◌, List, drop}
use Rattle.std.specs.Io.KnownBytes.{Appends}
use Rattle.lrs_report.specs.Drawings.Labels.{labels_text}
use Rattle.lrs_report.proofs.diagrams.labels.write_labels.Given as goal

abbrev pub invariant-loop-label : goal.invariant-loop-label
invariant-loop-label g l = record {
  done : List ℕ;
  written : Appends (g.W.Write.contents l.fn.writer) (g.W.Write.contents l.writer) done;
  rest : done ++ labels_text (g.L.Label.place l.scale) g.L.Label.text l.free (drop l.label-index l.labels) ≡ labels_text (g.L.Label.place l.scale) g.L.Label.text 0 l.labels;
}
