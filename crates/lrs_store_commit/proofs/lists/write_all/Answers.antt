use Rattle.std.proofs.Common.{rules, ◌≡◌, ◌∙◌, ◌+◌, ◌<◌, ◌++◌, ◌∷◌, [], length, take, sym, ap, subst, arith}
use Rattle.std.proofs.lemmas.List.{take_all, take_more, length-take-le}
use Rattle.sqlite.specs.Held.{state}
use Rattle.sqlite.proofs.StateLemmas.{survives_then}
use Rattle.lrs_store_tables.specs.StoredRows.{Makes}
use Rattle.lrs_store_commit.proofs.Then.{makes_then}
use Rattle.lrs_store_commit.proofs.Leaves.{leaves_then}
use Rattle.lrs_store_commit.proofs.lists.write_all.Goals as goal

pub loop-i-preserved : goal.loop-i-preserved
loop-i-preserved g c =
    let start = state g.S.Store c.args.tx.now.conn.now in
    let mid = state g.S.Store c.loop-i.tx.conn.now in
    let last = state g.S.Store c.write.new.tx.conn.now in
    let rows = c.args.rows.now in
    let i = c.loop-i.i in
    let item = c.index-rows-i.result in
    let of = c.args.of.now in
    let all = g.R.Written.all in
    let bound : i < length rows = c.loop-i-test.true in
    record {
      same = c.write.ensures.same_reference ∙ c.loop-i.invariant.same;
      does = λ clean writing.
          let one = c.loop-i.invariant.does (omega (arith, c.write.ensures.survives.clean)) writing in
          let two = c.in_ok-write.ensures.does clean one.writing in
          let more : take (i + 1) rows ≡ take i rows ++ item ∷ [] = take_more rows i item bound ∙ ap (λ x. take i rows ++ x ∷ []) (sym c.index-rows-i.is) in
          let at : i ≡ 0 + length (take i rows) = let len = length-take-le i rows (omega (arith, bound)) in omega (arith, len) in
          subst (λ xs. Makes (all of 0 xs) start last) (sym more)
          (makes_then (all of 0 (take i rows)) (all of i (item ∷ [])) (all of 0 (take i rows ++ item ∷ [])) start mid last
          (λ t u. g.met.R.Written.more of 0 i (take i rows) item t u at) one two);
      survives = survives_then start mid last _ _ (λ _. ⊥) (λ _ db none. none) (λ _ db none. none) c.loop-i.invariant.survives c.write.ensures.survives;
    }

pub returns-in_err-write : goal.returns-in_err-write
returns-in_err-write g c = record {
  same_reference = c.write.ensures.same_reference ∙ c.loop-i.invariant.same;
  does = search rules;
  survives = leaves_then c.loop-i.invariant.survives c.write.ensures.survives;
}

pub returns : goal.returns
returns g c = record {
  same_reference = c.loop-i.invariant.same;
  does = λ clean writing. subst (λ rows. Makes (g.R.Written.all c.args.of.now 0 rows) (state g.S.Store c.args.tx.now.conn.now) (state g.S.Store c.loop-i.tx.conn.now)) (take_all c.loop-i.i c.args.rows.now c.loop-i-test.false) (c.loop-i.invariant.does clean writing);
  survives = c.loop-i.invariant.survives;
}
