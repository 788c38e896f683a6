use Rattle.lrs_sheet_records.proofs.HeaderFields.{strip-marked, strip-unmarked}
use Rattle.std.proofs.Common.{sym, ◌∙◌}
use Rattle.lrs_sheet_records.proofs.header.without_mark.Goals as goal

pub returns-then-has_mark : goal.returns-then-has_mark
returns-then-has_mark c = strip-marked c.args.text.now (sym c.has_mark.ensures ∙ c.if-has_mark.true)

pub returns-else-has_mark : goal.returns-else-has_mark
returns-else-has_mark c = strip-unmarked c.args.text.now (sym c.has_mark.ensures ∙ c.if-has_mark.false)
