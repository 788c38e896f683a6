use Rattle.lrs_sheet_questions.proofs.Listed.{list-told}
use Rattle.lrs_sheet_questions.proofs.list.write_list.Goals as goal

pub returns-in-Ok-write_counted-clause-written : goal.returns-in-Ok-write_counted-clause-written
returns-in-Ok-write_counted-clause-written g c = rw (list-told c.args.key c.args.told.now c.args.kind c.requires) c.in-Ok-write_counted.ensures
