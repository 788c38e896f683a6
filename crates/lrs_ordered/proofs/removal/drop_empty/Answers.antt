use Rattle.std.proofs.Common.{◌<◌, length, sym, ap, ◌∙◌, arith}
use Rattle.lrs_ordered.specs.SearchedLists.{joined, is_filled}
use Rattle.lrs_ordered.proofs.Filled.{nothing_from, filled_else}
use Rattle.lrs_ordered.proofs.Removes.{joined_without, filled_of}
use Rattle.lrs_ordered.proofs.removal.drop_empty.Goals as goal

pub returns-then-is_empty-clause-rows : goal.returns-then-is_empty-clause-rows
returns-then-is_empty-clause-rows g c =
    let chunks = c.args.chunks.now in
    let within : c.args.at < length chunks.items = omega (arith, chunks.ok.0, c.requires.within) in
    let none = nothing_from c.index.result.now (sym c.is_empty.ensures ∙ c.if-is_empty.true) in
    ap joined c.remove.ensures.by_index.2 ∙ joined_without chunks.items c.args.at c.index.result.now within (sym c.index.ensures ∙ none)

pub returns-else-is_empty-clause-filled : goal.returns-else-is_empty-clause-filled
returns-else-is_empty-clause-filled g c =
    let chunks = c.args.chunks.now in
    let within : c.args.at < length chunks.items = omega (arith, chunks.ok.0, c.requires.within) in
    let here = filled_else c.index.result.now (sym c.is_empty.ensures ∙ c.if-is_empty.false) in
    filled_of chunks.items c.args.at c.index.result.now within c.requires.front (ap is_filled (sym c.index.ensures) ∙ here) c.requires.rear
