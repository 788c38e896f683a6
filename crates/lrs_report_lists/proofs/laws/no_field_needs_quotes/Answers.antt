use Rattle.lrs_report_lists.proofs.Plain.{decimals_are_plain, keys_are_plain, measures_are_plain, names_are_plain, numbers_are_plain, verbs_are_plain}
use Rattle.lrs_report_lists.proofs.laws.no_field_needs_quotes.Goals as goal

pub returns : goal.returns
returns c = record { names = names_are_plain; keys = keys_are_plain; verbs = verbs_are_plain; numbers = numbers_are_plain; measures = measures_are_plain; decimals = decimals_are_plain }
