use Rattle.lrs_events.proofs.Row.Mirrors.{block_found}
use Rattle.lrs_events.proofs.rows.turns.end_of_asset.Goals as goal

pub returns-clause-block : goal.returns-clause-block
returns-clause-block c = block_found c.args.rows.now c.index-rows-start.result c.args.start c.rows_up_to.result c.requires.rows c.requires.within c.index-rows-start.is c.rows_up_to.ensures.point
