use Rattle.std.proofs.Common.{◌+◌, ◌<◌, length, sym, ap, ◌∙◌, arith, filter}
use Rattle.std.specs.Prelude.{◌||◌, not}
use Rattle.std.specs.List.{find}
use Rattle.std.specs.Ordering.{is_lt, is_gt, is_eq}
use Rattle.std.proofs.lemmas.List.{take-set, drop-set-lt}
use Rattle.lrs_ordered.specs.SearchedLists.{rises_by, is_filled, are_filled}
use Rattle.lrs_ordered.proofs.Joins.{two_at, all_taken, all_dropped}
use Rattle.lrs_ordered.proofs.Finds.{found_in}
use Rattle.lrs_ordered.proofs.Removes.{joined_removed}
use Rattle.lrs_ordered.proofs.removal.remove_at.Goals as goal

pub remove_in-row-requires : goal.remove_in-row-requires
remove_in-row-requires g c =
    let order = λ (row : g.row.T.Denot). g.T.Keyed.key_order row c.args.key.now in
    let chunks = c.args.chunks.now in
    let within : c.args.at < length chunks.items = omega (arith, chunks.ok.0, c.requires.within) in
    record {
      order = ap (rises_by order) c.index_mut.ensures.value ∙ two_at (λ a b. is_lt (order a) || is_gt (order b)) chunks.items c.args.at c.index_mut.result.now within c.requires.order;
    }

pub drop_empty-requires-clause-front : goal.drop_empty-requires-clause-front
drop_empty-requires-clause-front g c =
    let chunks = c.args.chunks.now.items in
    ap are_filled (take-set chunks c.args.at c.remove_in-row.new.chunk) ∙ all_taken is_filled c.args.at chunks c.requires.filled

pub drop_empty-requires-clause-rear : goal.drop_empty-requires-clause-rear
drop_empty-requires-clause-rear g c =
    let chunks = c.args.chunks.now.items in
    ap are_filled (drop-set-lt (c.args.at + 1) chunks c.args.at c.remove_in-row.new.chunk (omega arith)) ∙ all_dropped is_filled (c.args.at + 1) chunks c.requires.filled

pub returns-clause-row : goal.returns-clause-row
returns-clause-row g c =
    let order = λ (row : g.row.T.Denot). g.T.Keyed.key_order row c.args.key.now in
    let chunks = c.args.chunks.now in
    let within : c.args.at < length chunks.items = omega (arith, chunks.ok.0, c.requires.within) in
    c.remove_in-row.ensures.row
    ∙ ap (find (λ row. is_eq (order row))) c.index_mut.ensures.value
    ∙ sym (found_in order chunks.items c.args.at c.index_mut.result.now within c.requires.front c.requires.rear)

pub returns-clause-rows : goal.returns-clause-rows
returns-clause-rows g c =
    let order = λ (row : g.row.T.Denot). g.T.Keyed.key_order row c.args.key.now in
    let chunks = c.args.chunks.now in
    let within : c.args.at < length chunks.items = omega (arith, chunks.ok.0, c.requires.within) in
    c.drop_empty.ensures.rows
    ∙ joined_removed order chunks.items c.args.at c.index_mut.result.now c.remove_in-row.new.chunk within c.requires.front c.requires.rear
    (c.remove_in-row.ensures.rows ∙ ap (filter (λ row. not (is_eq (order row)))) c.index_mut.ensures.value)
