use Rattle.std.proofs.Common.{◌≡◌, ◌++◌, ◌+◌, drop, refl, subst, ap, arith}
use Rattle.std.specs.Prelude.{ℕ, List}
use Rattle.std.specs.Io.KnownBytes.{Appends}
use Rattle.lrs_report.specs.Drawings.Bands.{class_text, classes_text}
use Rattle.lrs_report.proofs.Writing.{appends_more}
use Rattle.lrs_report.proofs.Drawings.Labelled.{class_more, classes_end}
use Rattle.lrs_report.proofs.diagrams.bands.write_classes.Goals as goal

pub loop-bands-preserved : goal.loop-bands-preserved
loop-bands-preserved g c =
    let all = classes_text c.args.scale c.args.shift c.args.first c.args.classes.now in
    record {
      done = c.loop-bands.invariant.done ++ class_text c.args.scale c.args.shift c.loop-bands.top c.bands-item.result;
      written = appends_more (g.W.Write.contents c.args.writer.now) (g.W.Write.contents c.loop-bands.writer) (g.W.Write.contents c.write_class.new.writer) _ _ c.loop-bands.invariant.written c.in_ok-write_class.ensures;
      rest = class_more c.args.scale c.args.shift c.loop-bands.bands-index c.loop-bands.top c.args.classes.now c.bands-item.result c.loop-bands.invariant.done all c.loop-bands-test.true c.bands-item.is c.loop-bands.invariant.rest;
      top = omega arith;
    }
