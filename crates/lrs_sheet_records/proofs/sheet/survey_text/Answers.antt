use Rattle.std.proofs.Common.{◌∙◌, sym, arith, rules}
use Rattle.csv.specs.Records.{fields_of}
use Rattle.lrs_sheet_records.proofs.HeaderFields.{survey-first, survey-none, survey-other, survey-verb}
use Rattle.lrs_sheet_records.proofs.sheet.survey_text.Goals as goal

pub returns-in-0 : goal.returns-in-0
returns-in-0 c = rw c.in-0.is (c.field_text.ensures ∙ sym (survey-first (fields_of c.args.row.now)))

pub returns-in-1 : goal.returns-in-1
returns-in-1 c = sym (survey-none (fields_of c.args.row.now) c.args.place (search rules))

pub returns-in-1-2 : goal.returns-in-1-2
returns-in-1-2 c = rw c.in-1.is (sym (survey-verb (fields_of c.args.row.now) (λ none. search rules)))

pub returns-in_default : goal.returns-in_default
returns-in_default c = c.field_text-in_default.ensures ∙ sym (survey-other (fields_of c.args.row.now) c.args.place (omega arith))
