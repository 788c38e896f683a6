use Rattle.std.proofs.Common.{◌<◌, ◌∷◌, [], length, refl, ap, ◌∙◌, arith}
use Rattle.lrs_measure.specs.OrderedLists.{insert_by}
use Rattle.lrs_ordered.specs.SearchedLists.{is_split_by, joined, are_filled}
use Rattle.lrs_ordered.proofs.Joins.{parted_at, set_between, insert_after_set, joined_put, filled_put}
use Rattle.lrs_ordered.proofs.insertion.put_at.Goals as goal

pub put_in_chunk-rear-requires-clause-order : goal.put_in_chunk-rear-requires-clause-order
put_in_chunk-rear-requires-clause-order g c =
    let before = g.T.Ordered.before in
    let chunks = c.args.chunks.now in
    let within : c.args.at < length chunks.items = omega (arith, chunks.ok.0, c.requires.within) in
    ap (is_split_by before c.args.row) c.index_mut.ensures.value ∙ parted_at (before c.args.row) chunks.items c.args.at c.index_mut.result.now within c.requires.order

pub returns-in-Some-clause-rows : goal.returns-in-Some-clause-rows
returns-in-Some-clause-rows g c =
    let before = g.T.Ordered.before in
    let chunks = c.args.chunks.now in
    let within : c.args.at < length chunks.items = omega (arith, chunks.ok.0, c.requires.within) in
    ap joined (c.insert_chunk.ensures.chunks ∙ insert_after_set chunks.items c.args.at c.put_in_chunk-rear.new.chunk c.in-Some.rear within)
    ∙ joined_put before c.args.row chunks.items c.args.at c.put_in_chunk-rear.new.chunk (c.in-Some.rear ∷ []) c.index_mut.result.now within c.requires.front c.requires.rear
    (c.in-Some.ensures.rows ∙ ap (insert_by before c.args.row) c.index_mut.ensures.value)

pub returns-in-Some-clause-filled : goal.returns-in-Some-clause-filled
returns-in-Some-clause-filled g c =
    let chunks = c.args.chunks.now in
    let within : c.args.at < length chunks.items = omega (arith, chunks.ok.0, c.requires.within) in
    ap are_filled (c.insert_chunk.ensures.chunks ∙ insert_after_set chunks.items c.args.at c.put_in_chunk-rear.new.chunk c.in-Some.rear within)
    ∙ filled_put chunks.items c.args.at c.put_in_chunk-rear.new.chunk (c.in-Some.rear ∷ []) c.requires.filled c.in-Some.ensures.filled c.in-Some.ensures.filled_rear

pub returns-in_default-clause-rows : goal.returns-in_default-clause-rows
returns-in_default-clause-rows g c =
    let before = g.T.Ordered.before in
    let chunks = c.args.chunks.now in
    let within : c.args.at < length chunks.items = omega (arith, chunks.ok.0, c.requires.within) in
    ap joined (set_between chunks.items c.args.at c.put_in_chunk-rear.new.chunk within)
    ∙ joined_put before c.args.row chunks.items c.args.at c.put_in_chunk-rear.new.chunk [] c.index_mut.result.now within c.requires.front c.requires.rear
    (c.in_default.ensures.rows ∙ ap (insert_by before c.args.row) c.index_mut.ensures.value)

pub returns-in_default-clause-filled : goal.returns-in_default-clause-filled
returns-in_default-clause-filled g c =
    let chunks = c.args.chunks.now in
    let within : c.args.at < length chunks.items = omega (arith, chunks.ok.0, c.requires.within) in
    ap are_filled (set_between chunks.items c.args.at c.put_in_chunk-rear.new.chunk within)
    ∙ filled_put chunks.items c.args.at c.put_in_chunk-rear.new.chunk [] c.requires.filled c.in_default.ensures.filled refl
