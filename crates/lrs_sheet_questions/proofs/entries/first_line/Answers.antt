use Rattle.std.proofs.Common.{sym, ◌∙◌}
use Rattle.lrs_sheet_questions.proofs.Passing.{line-found, line-missing}
use Rattle.lrs_sheet_questions.proofs.entries.first_line.Goals as goal

pub returns-in-Some-clause-long : goal.returns-in-Some-clause-long
returns-in-Some-clause-long c = sym (line-found c.args.bytes.now c.in-Some.place (sym c.line_end.ensures ∙ c.in-Some.is)).0

pub returns-in-Some-clause-whole : goal.returns-in-Some-clause-whole
returns-in-Some-clause-whole c = sym (line-found c.args.bytes.now c.in-Some.place (sym c.line_end.ensures ∙ c.in-Some.is)).1

pub returns-in-None-clause-long : goal.returns-in-None-clause-long
returns-in-None-clause-long c = sym (line-missing c.args.bytes.now (sym c.line_end.ensures ∙ c.in-None.is)).0

pub returns-in-None-clause-whole : goal.returns-in-None-clause-whole
returns-in-None-clause-whole c = sym (line-missing c.args.bytes.now (sym c.line_end.ensures ∙ c.in-None.is)).1
