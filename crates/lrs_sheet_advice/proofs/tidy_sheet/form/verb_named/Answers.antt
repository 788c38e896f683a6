use Rattle.lrs_sheet_advice.proofs.TidyForms.{shapes_under}
use Rattle.lrs_sheet_advice.proofs.tidy_sheet.form.verb_named.Goals as goal

pub returns : goal.returns
returns c = shapes_under c.args.name.now c.read_verb.result c.read_verb.ensures.known c.read_verb.ensures.unknown
