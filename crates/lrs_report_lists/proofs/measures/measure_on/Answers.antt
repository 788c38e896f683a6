use Rattle.std.proofs.Common.{◌≡◌, arith, ap, subst, ◌∙◌, w64}
use Rattle.std.specs.Prelude.{IfSome}
use Rattle.std.proofs.lemmas.Int.{to_z_pos}
use Rattle.lrs_measure.specs.Fraction.{Fraction}
use Rattle.lrs_element.specs.Line.{HasMeasure}
use Rattle.lrs_report_lists.specs.Measures.{whole}
use Rattle.lrs_report_lists.proofs.Measured.{measure_told, no_measure, none_behind, told_on, whole_fraction}
use Rattle.lrs_report_lists.proofs.measures.measure_on.Goals as goal

pub returns-then-chainage-length-clause-measure : goal.returns-then-chainage-length-clause-measure
returns-then-chainage-length-clause-measure c = no_measure c.args.route.now c.args.chainage (omega arith)

pub returns-then-chainage-length-clause-found : goal.returns-then-chainage-length-clause-found
returns-then-chainage-length-clause-found c = none_behind c.args.chainage _ (omega arith)

is_whole : (c : goal.After-measure_at) → c.of_whole.result ≡ whole c.args.chainage
is_whole c = c.of_whole.ensures ∙ ap whole_fraction (to_z_pos w64 c.args.chainage (omega arith))

pub returns-clause-measure : goal.returns-clause-measure
returns-clause-measure c =
    measure_told c.args.route.now c.args.chainage c.of_whole.result c.measure_at.result (is_whole c) (omega arith) c.measure_at.ensures.some c.measure_at.ensures.value c.measure_at.ensures.lowest

pub returns-clause-found : goal.returns-clause-found
returns-clause-found c = told_on c.args.route.now c.args.chainage c.of_whole.result c.measure_at.result (is_whole c) (omega arith) c.measure_at.ensures.some

pub returns-clause-line : goal.returns-clause-line
returns-clause-line c = subst (λ (q : Fraction). IfSome c.measure_at.result (λ m. HasMeasure c.args.route.now.marks q m)) (is_whole c) c.measure_at.ensures.value
