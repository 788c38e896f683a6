use Rattle.std.proofs.Common.{[], ap, ◌∙◌}
use Rattle.std.specs.Option.{option_map_or}
use Rattle.std.specs.Prelude.{Option, ℕ}
use Rattle.lrs_measure.specs.FractionTexts.{metres_text}
use Rattle.lrs_report_lists.specs.Measures.{decimal_measure_text}
use Rattle.lrs_report_lists.proofs.Writing.{as_text, appends_none}
use Rattle.lrs_report_lists.proofs.measures.write_decimal.Goals as goal

pub returns-in-Some : goal.returns-in-Some
returns-in-Some g c =
    as_text c.write.result _ _ _ (decimal_measure_text c.args.route.now.marks c.args.chainage) c.write.ensures.bytes
    (ap (λ (k : ℕ). metres_text k) c.new-measure.ensures ∙ ap (λ (o : Option ℕ). option_map_or metres_text o []) c.in-Some.ensures.measure)

pub returns-in-None : goal.returns-in-None
returns-in-None g c = rw (← c.in-None.ensures.measure) (appends_none (g.W.Write.contents c.args.writer.now))
