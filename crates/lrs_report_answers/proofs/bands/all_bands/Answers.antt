use Rattle.std.proofs.Common.{◌∙◌, ◌++◌, ◌∷◌, [], ap, sym, subst, length, take, ◌+◌, arith}
use Rattle.std.specs.Prelude.{List}
use Rattle.std.proofs.lemmas.List.{length-append}
use Rattle.lrs_report.specs.declared.diagrams.diagram.ClassBands.{ClassBands}
use Rattle.lrs_report_answers.specs.DrawnRows.{AreBands}
use Rattle.lrs_report_answers.proofs.Banded.{bands_more}
use Rattle.lrs_report_answers.proofs.bands.all_bands.Goals as goal

pub loop-class-preserved : goal.loop-class-preserved
loop-class-preserved c =
    let b = c.in_ok-bands_of.field-0 in
    let more = c.in_ok-push.ensures.items in
    let count = c.loop-class.invariant.count in
    let long = length-append c.loop-class.bands.items (b ∷ []) in
    let longer = ap length more in
    record {
      bands = subst (λ (bs : List ClassBands). AreBands c.args.assets.now.rows c.args.spans.now c.args.scale.from c.args.scale.to (take (c.loop-class.class-index + 1) c.args.classes.now) bs) (sym more)
          (bands_more c.args.assets.now.rows c.args.spans.now c.args.scale.from c.args.scale.to c.loop-class.class-index c.args.classes.now c.class-item.result c.loop-class.bands.items b
          c.loop-class-test.true c.class-item.is c.loop-class.invariant.bands c.in_ok-bands_of.ensures);
      count = omega (arith, longer, long, count);
    }
