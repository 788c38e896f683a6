use Rattle.std.proofs.Common.{◌++◌, ◌∙◌, ap, length, take, arith}
use Rattle.std.proofs.lemmas.List.{take_rest, length-drop, length-take-le}
use Rattle.lrs_events.specs.LaneLists.Lane.{greatest_from, last_from}
use Rattle.lrs_events.proofs.LaneLists.Fronts.{greatest_whole, length-greatest}
use Rattle.lrs_events.proofs.lanes.lane.push_greatest.Goals as goal

pub push_ends-requires : goal.push_ends-requires
push_ends-requires c =
    let rows = c.args.rows.now in
    let start = c.args.start in
    let filled = ap length c.requires.front in
    let ends = length-greatest 0 (take start rows) in
    let front = length-take-le start rows c.requires.start in
    let rest = ap length (take_rest rows start) in
    let behind = length-drop start rows in
    let len = c.args.greatest.now.ok.0 in
    let room = c.requires.room in
    let within = c.requires.start in
    omega (arith, filled, ends, front, rest, behind, len, room, within)

pub returns-clause-items : goal.returns-clause-items
returns-clause-items c =
    let rows = c.args.rows.now in
    let out = c.args.greatest.now.items in
    greatest_whole c.args.start rows out c.push_ends.new.greatest.items c.requires.front (c.push_ends.ensures.items ∙ ap (λ z. out ++ greatest_from (last_from 0 out) z) (take_rest rows c.args.start))
