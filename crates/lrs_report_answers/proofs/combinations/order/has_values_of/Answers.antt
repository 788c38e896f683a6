use Rattle.std.proofs.Common.{◌∙◌, ap₂}
use Rattle.std.specs.Cmp.Lexicographic.{pointwise}
use Rattle.std.specs.Option.{option_eq}
use Rattle.lrs_measure.specs.Texts.{same_name}
use Rattle.lrs_report_answers.proofs.Combined.Order.{tests_same}
use Rattle.lrs_report_answers.proofs.combinations.order.has_values_of.Goals as goal

pub returns : goal.returns
returns c = c.eq.ensures ∙ ap₂ (pointwise (option_eq same_name)) c.as_slice.ensures c.as_slice-2.ensures ∙ tests_same c.args.entry.now.values c.args.other.now.values
