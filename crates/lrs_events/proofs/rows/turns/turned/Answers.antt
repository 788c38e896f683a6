use Rattle.lrs_events.proofs.Row.Mirrors.{turned_more, IsTurnedRows, turned_whole}
use Rattle.lrs_events.proofs.rows.turns.turned.Goals as goal

pub loop-start-preserved : goal.loop-start-preserved
loop-start-preserved c =
    turned_more c.args.len c.args.rows.now c.loop-start.out.items c.push_mirrored.new.out.items c.loop-start.start c.end_of_asset-end.result c.requires.rows c.requires.ends c.end_of_asset-end.ensures.block
    c.in_ok-push_mirrored.ensures c.loop-start.invariant

done : (c : goal.After-loop-start) → IsTurnedRows c.args.len c.args.rows.now c.loop-start.out.items
done c = turned_whole c.args.len c.args.rows.now c.loop-start.out.items c.loop-start.start c.requires.rows c.requires.ends c.requires.len c.loop-start-test.false c.loop-start.invariant

pub returns-clause-rows : goal.returns-clause-rows
returns-clause-rows c = (done c).kept

pub returns-clause-turned : goal.returns-clause-turned
returns-clause-turned c = (done c).turned
