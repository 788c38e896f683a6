use Rattle.std.proofs.Common.{rules, ◌≡◌, ◌∙◌, ◌+◌, ◌<◌, ◌≤◌, ◌-◌, length, take, drop, sym, subst, arith}
use Rattle.std.proofs.lemmas.List.{take_all, length-take-le, length-drop, take_rest}
use Rattle.std.proofs.Math.Seq.{take-add}
use Rattle.sqlite.specs.Held.{state}
use Rattle.sqlite.proofs.StateLemmas.{survives_then}
use Rattle.lrs_store_tables.specs.Writes.{WritesEach}
use Rattle.lrs_store_commit.proofs.CommitLemmas.{writes_behind}
use Rattle.lrs_store_commit.proofs.Leaves.{leaves_then}
use Rattle.lrs_store_commit.proofs.commit.write_each.Goals as goal

pub loop-done-preserved : goal.loop-done-preserved
loop-done-preserved g c =
    let start = state g.S.Store c.args.tx.now.conn.now in
    let mid = state g.S.Store c.loop-done.tx.conn.now in
    let last = state g.S.Store c.write_next.new.tx.conn.now in
    let changes = c.args.changes.now in
    let n = c.args.n in
    let done = c.loop-done.done in
    let count = c.in_ok-done.field-0 in
    let left = drop done changes in
    let size : length left ≡ length changes - done = length-drop done changes in
    let few : count ≤ length left = subst (λ cs. count ≤ length cs) (take_rest changes done) c.in_ok-done.ensures.count.1 in
    record {
      within = omega (arith, c.loop-done.invariant.within, size, few);
      same = c.write_next.ensures.same_reference ∙ c.loop-done.invariant.same;
      does = λ clean writing.
          let all = c.loop-done.invariant.does (omega (arith, c.write_next.ensures.survives.clean)) writing in
          let next = subst (λ cs. WritesEach (n + done) (take count cs) mid last) (take_rest changes done) (c.in_ok-done.ensures.does clean all.writing) in
          let at : n + done ≡ n + length (take done changes) = let len = length-take-le done changes c.loop-done.invariant.within in omega (arith, len) in
          let some : 0 < length (take count left) = let len = length-take-le count left few in omega (arith, len, c.in_ok-done.ensures.count.0) in
          subst (λ cs. WritesEach n cs start last) (sym (take-add done count changes)) (writes_behind n (n + done) (take done changes) (take count left) start mid last at some all next);
      survives = survives_then start mid last _ _ (λ _. ⊥) (λ _ db none. none) (λ _ db none. none) c.loop-done.invariant.survives c.write_next.ensures.survives;
    }

pub returns-in_err-done : goal.returns-in_err-done
returns-in_err-done g c = record {
  same_reference = c.write_next.ensures.same_reference ∙ c.loop-done.invariant.same;
  does = search rules;
  survives = leaves_then c.loop-done.invariant.survives c.write_next.ensures.survives;
}

pub returns : goal.returns
returns g c = record {
  same_reference = c.loop-done.invariant.same;
  does = λ clean writing. subst (λ changes. WritesEach c.args.n changes (state g.S.Store c.args.tx.now.conn.now) (state g.S.Store c.loop-done.tx.conn.now)) (take_all c.loop-done.done c.args.changes.now c.loop-done-test.false) (c.loop-done.invariant.does clean writing);
  survives = c.loop-done.invariant.survives;
}
