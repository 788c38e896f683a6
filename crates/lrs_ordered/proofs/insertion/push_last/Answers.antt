use Rattle.std.proofs.Common.{◌≡◌, ◌+◌, ◌-◌, ◌<◌, [], ◌∷◌, ◌++◌, length, set, refl, append-nil, ap, ◌∙◌, arith}
use Rattle.lrs_ordered.specs.SearchedLists.{joined, are_filled, is_filled}
use Rattle.lrs_ordered.proofs.Joins.{joined_push, set_between, filled_put}
use Rattle.lrs_ordered.proofs.Filled.{filled_push}
use Rattle.lrs_ordered.proofs.insertion.push_last.Goals as goal

pub returns-then-len-lt-MOST-clause-rows : goal.returns-then-len-lt-MOST-clause-rows
returns-then-len-lt-MOST-clause-rows g c =
    let chunks = c.args.chunks.now in
    let at = c.len-at.result - 1 in
    let last : at + 1 ≡ length chunks.items = omega (arith, chunks.ok.0, c.requires.some, c.len-at.ensures) in
    append-nil (joined (set chunks.items at c.push.new.self))
    ∙ ap (λ l. joined (set chunks.items at l)) (c.push.ensures ∙ ap (λ l. l ++ c.args.row ∷ []) c.index_mut-chunk.ensures.value)
    ∙ joined_push chunks.items at c.index_mut-chunk.result.now c.args.row last

pub returns-then-len-lt-MOST-clause-filled : goal.returns-then-len-lt-MOST-clause-filled
returns-then-len-lt-MOST-clause-filled g c =
    let chunks = c.args.chunks.now in
    let at = c.len-at.result - 1 in
    let within : at < length chunks.items = omega (arith, chunks.ok.0, c.requires.some, c.len-at.ensures) in
    ap are_filled (set_between chunks.items at c.push.new.self within)
    ∙ filled_put chunks.items at c.push.new.self [] c.requires.filled (ap is_filled c.push.ensures ∙ filled_push c.index_mut-chunk.result.now c.args.row) refl
