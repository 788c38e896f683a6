use Rattle.std.proofs.Common.{rules, ◌≡◌, ◌∙◌, ◌+◌, ◌<◌, ◌++◌, ◌∷◌, [], length, take, sym, ap, subst, arith}
use Rattle.std.proofs.lemmas.List.{take_all, take_more}
use Rattle.sqlite.specs.Held.{state}
use Rattle.sqlite.proofs.StateLemmas.{survives_then}
use Rattle.lrs_image.specs.declared.change.Change.{Change}
use Rattle.lrs_store_tables.specs.StoredRows.{Makes}
use Rattle.lrs_store_commit.specs.NewAssets.{with_others_of}
use Rattle.lrs_store_commit.proofs.EntryRows.{puts_more_others, others_are}
use Rattle.lrs_store_commit.proofs.Leaves.{leaves_then}
use Rattle.lrs_store_commit.proofs.insert_assets.put_others_in_turn.Goals as goal

pub loop-i-preserved : goal.loop-i-preserved
loop-i-preserved g c =
    let start = state g.S.Store c.args.tx.now.conn.now in
    let mid = state g.S.Store c.loop-i.tx.conn.now in
    let last = state g.S.Store c.write_all.new.tx.conn.now in
    let entries = c.args.entries.now in
    let i = c.loop-i.i in
    let route_row = c.index-entries-i.result in
    let bound : i < length entries = c.loop-i-test.true in
    record {
      same = c.write_all.ensures.same_reference ∙ c.loop-i.invariant.same;
      does = λ clean writing.
          let all = c.loop-i.invariant.does (omega (arith, c.write_all.ensures.survives.clean)) writing in
          let one = c.in_ok-write_all.ensures.does clean all.writing in
          let parts = c.as_slice-parts.result.now in
          let is = others_are route_row parts (c.as_slice-parts.ensures ∙ ap (λ (x : Change). x.difference.entered) (sym c.index-entries-i.is)) in
          let more : take (i + 1) entries ≡ take i entries ++ route_row ∷ [] = take_more entries i route_row bound ∙ ap (λ x. take i entries ++ x ∷ []) (sym c.index-entries-i.is) in
          subst (λ cs. Makes (with_others_of cs) start last) (sym more) (puts_more_others (take i entries) route_row _ start mid last is all one);
      survives = survives_then start mid last _ _ (λ _. ⊥) (λ _ db none. none) (λ _ db none. none) c.loop-i.invariant.survives c.write_all.ensures.survives;
    }

pub returns-in_err-write_all : goal.returns-in_err-write_all
returns-in_err-write_all g c = record {
  same_reference = c.write_all.ensures.same_reference ∙ c.loop-i.invariant.same;
  does = search rules;
  survives = leaves_then c.loop-i.invariant.survives c.write_all.ensures.survives;
}

pub returns : goal.returns
returns g c = record {
  same_reference = c.loop-i.invariant.same;
  does = λ clean writing. subst (λ entries. Makes (with_others_of entries) (state g.S.Store c.args.tx.now.conn.now) (state g.S.Store c.loop-i.tx.conn.now)) (take_all c.loop-i.i c.args.entries.now c.loop-i-test.false) (c.loop-i.invariant.does clean writing);
  survives = c.loop-i.invariant.survives;
}
