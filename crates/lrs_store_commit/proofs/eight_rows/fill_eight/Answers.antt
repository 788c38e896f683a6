use Rattle.std.proofs.Common.{rules, ◌≡◌, ◌∷◌, [], length, ◌++◌, ◌+◌, ◌<◌, ◌≤◌, take, ◌*◌, ◌/◌, ℕ, ◌-◌, ap, sym, ◌∙◌, arith, subst}
use Rattle.std.proofs.lemmas.List.{take_more, length-take-le}
use Rattle.std.proofs.lemmas.Slice.{overwrites}
use borrow.Rule.Slice.PartMut.{put_mid}
use Rattle.sqlite.specs.Values.{bound}
use Rattle.lrs_store_tables.specs.Cells.{all_cells}
use Rattle.lrs_store_commit.proofs.CellLemmas.{filled_more, next_begins, within_eight}
use Rattle.lrs_store_commit.proofs.eight_rows.fill_eight.Goals as goal

pub loop-i-preserved : goal.loop-i-preserved
loop-i-preserved g c =
    let width : ℕ = length c.args.cells.now / 8 in
    let i = c.loop-i.i in
    let rows = c.args.rows.now in
    let item = c.index-rows-i.result in
    let all = c.loop-i.cells in
    let own = c.fill.new.cells in
    let from : ℕ = width * i in
    let span : ℕ = from + width - from in
    let row = g.R.Filled.values c.args.of.now in
    let bounded : i < length rows = omega (arith, c.requires.eight, c.loop-i-test.true) in
    let room : from + width ≤ 8 * width = within_eight width i c.loop-i-test.true in
    let own_length : length own ≡ width = c.fill.ensures.room ∙ sym c.loop-i.invariant.width in
    let more : take (i + 1) rows ≡ take i rows ++ item ∷ [] = take_more rows i item bounded ∙ ap (λ x. take i rows ++ x ∷ []) (sym c.index-rows-i.is) in
    let at : c.args.n + i ≡ c.args.n + length (take i rows) = let len = length-take-le i rows (omega (arith, bounded)) in omega (arith, len) in
    let to : width * (i + 1) ≡ from + length own = omega (arith, own_length, next_begins width i) in
    let start : from ≤ length all = omega (arith, room, c.loop-i.invariant.room) in
    record {
      width = c.loop-i.invariant.width;
      room = search (rules, overwrites);
      filled = subst (λ xs. take (width * (i + 1)) (bound (put_mid from span all own)) ≡ all_cells row c.args.n xs) (sym more)
          (filled_more row c.args.n (c.args.n + i) from span (width * (i + 1)) (take i rows) item all own at to start c.loop-i.invariant.filled c.in_ok-fill.ensures.filled);
    }
