use Rattle.std.proofs.Common.{◌≡◌, ℕ, ◌+◌, ◌*◌, ◌++◌, List, drop}
use Rattle.std.specs.Io.KnownBytes.{Appends}
use Rattle.lrs_report.specs.Drawings.Bands.{classes_text}
use Rattle.lrs_report.proofs.diagrams.bands.write_classes.Given as goal

abbrev pub invariant-loop-bands : goal.invariant-loop-bands
invariant-loop-bands g l = record {
  done : List ℕ;
  written : Appends (g.W.Write.contents l.fn.writer) (g.W.Write.contents l.writer) done;
  rest : done ++ classes_text l.scale l.shift l.top (drop l.bands-index l.classes) ≡ classes_text l.scale l.shift l.first l.classes;
  top : l.top ≡ l.first + 170 * l.bands-index;
}
