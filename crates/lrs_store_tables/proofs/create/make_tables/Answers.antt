use Rattle.std.proofs.Common.{rules, ◌≡◌, [], Ok, Err, subst, ◌∙◌, arith}
use Rattle.sqlite.specs.Held.{state}
use Rattle.sqlite.specs.State.{HasCleanDisk, ExecutesInside}
use Rattle.sqlite.proofs.StateLemmas.{survives_then}
use Rattle.lrs_store_tables.specs.TableCreation.{IsMaking}
use Rattle.lrs_store_tables.proofs.MakeLemmas.{makes_one}
use Rattle.lrs_store_tables.proofs.FailLemmas.{reason_after}
use Rattle.lrs_store_tables.proofs.CreateFails.{create_answers}
use Rattle.lrs_store_tables.proofs.create.make_tables.Goals as goal

pub loop-place-preserved : goal.loop-place-preserved
loop-place-preserved g c =
    let start = state g.S.Store c.args.tx.now.conn.now in
    let mid = state g.S.Store c.loop-place.tx.conn.now in
    let last = state g.S.Store c.execute.new.self.conn.now in
    let count = c.in_ok-execute.field-0 in
    record {
      same = c.execute.ensures.same_reference ∙ c.loop-place.invariant.same;
      making = λ clean begun.
          let before = c.loop-place.invariant.making (omega (arith, c.execute.ensures.survives.clean)) begun in
          makes_one c.args.first c.loop-place.place (omega arith) (omega arith) start mid last count before (subst (λ sql. ExecutesInside 0 sql [] mid last (Ok count)) c.create_at.ensures (c.in_ok-execute.ensures.runs clean before.begun));
      survives = survives_then start mid last _ _ (λ _. ⊥) (λ _ db none. none) (λ _ db none. none) c.loop-place.invariant.survives c.execute.ensures.survives;
    }

pub returns-clause-made : goal.returns-clause-made
returns-clause-made g c clean begun =
    let all : c.loop-place.place ≡ 12 = omega (arith, c.loop-place-test.false, c.loop-place.auto.place-end c.requires) in
    subst (λ m. IsMaking c.args.first m (state g.S.Store c.args.tx.now.conn.now) (state g.S.Store c.loop-place.tx.conn.now)) all (c.loop-place.invariant.making clean begun)

pub returns-in_err-execute-clause-cause : goal.returns-in_err-execute-clause-cause
returns-in_err-execute-clause-cause g c begun clean =
    let start = state g.S.Store c.args.tx.now.conn.now in
    let mid = state g.S.Store c.loop-place.tx.conn.now in
    let last = state g.S.Store c.execute.new.self.conn.now in
    let e = c.in_err-execute.field-0.0 in
    let early : HasCleanDisk mid = omega (arith, clean, c.execute.ensures.survives.clean) in
    let before = c.loop-place.invariant.making early begun in
    let ran = subst (λ sql. ExecutesInside 0 sql [] mid last (Err e)) c.create_at.ensures (c.in_err-execute.ensures.runs clean before.begun) in
    let h = reason_after start mid last e c.loop-place.invariant.survives c.execute.ensures.survives clean (create_answers c.loop-place.place (omega arith) mid last e before.tables ran) in
    search rules
