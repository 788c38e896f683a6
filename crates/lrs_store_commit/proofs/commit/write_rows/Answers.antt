use Rattle.std.proofs.Common.{IsTrue, Result, Ok, Err, OnOk, arith, ◌∙◌}
use Rattle.sqlite.specs.State.{HasCleanDisk}
use Rattle.sqlite.specs.Held.{state}
use Rattle.lrs_measure.specs.Texts.{Name}
use Rattle.lrs_image.specs.declared.change.RouteChange.{RouteChange}
use Rattle.lrs_machine.specs.declared.image.RouteRow.{RouteRow}
use Rattle.lrs_store_tables.specs.RowChanges.{without_route, with_edit}
use Rattle.lrs_store_tables.specs.StoredRows.{Makes}
use Rattle.lrs_store_tables.specs.Writes.{Writes, with_some, with_named, with_routes, changed_route, new_route, with_ledgers}
use Rattle.lrs_store_tables.proofs.Steady.{steady_some, steady-changed_route, steady-without_route, steady-new_route, steady-with_ledgers, steady-with_edit}
use Rattle.lrs_store_tables.specs.Contents.Tables.{Tables}
use Rattle.lrs_store_commit.proofs.Then.{makes_on}
use Rattle.lrs_store_commit.proofs.Last.{fails_behind, handed_on}
use Rattle.lrs_store_commit.proofs.Leaves.{leaves_then}
use Rattle.lrs_store_commit.proofs.commit.write_rows.Goals as goal

-- two facts of what the last call answers, where it is Ok
both_on : {A E : Type 0} (answer : Result A E) (P Q R : Type 0) → (P → Q → R) → OnOk answer P → OnOk answer Q → OnOk answer R
both_on (Ok x) P Q R step p q = step p q
both_on (Err e) P Q R step p q = tt

pub returns : goal.returns
returns g c = record {
  same_reference = c.put_edit.ensures.changes.same_reference ∙ c.put_ledgers.ensures.same_reference ∙ c.put_some.ensures.same_reference ∙ c.change_some.ensures.same_reference ∙ c.drop_some.ensures.same_reference ∙ c.put_named.ensures.same_reference;
  does = λ clean writing.
      let s0 = state g.S.Store c.args.tx.now.conn.now in
      let s1 = state g.S.Store c.put_named.new.tx.conn.now in
      let s2 = state g.S.Store c.drop_some.new.tx.conn.now in
      let s3 = state g.S.Store c.change_some.new.tx.conn.now in
      let s4 = state g.S.Store c.put_some.new.tx.conn.now in
      let s5 = state g.S.Store c.put_ledgers.new.tx.conn.now in
      let s6 = state g.S.Store c.put_edit.new.tx.conn.now in
      let m5 : HasCleanDisk s5 = omega (arith, c.put_edit.ensures.changes.survives.clean) in
      let m4 : HasCleanDisk s4 = omega (arith, m5, c.put_ledgers.ensures.survives.clean) in
      let m3 : HasCleanDisk s3 = omega (arith, m4, c.put_some.ensures.survives.clean) in
      let m2 : HasCleanDisk s2 = omega (arith, m3, c.change_some.ensures.survives.clean) in
      let m1 : HasCleanDisk s1 = omega (arith, m2, c.drop_some.ensures.survives.clean) in
      let d = c.args.change.now.difference in
      let gone : Name → Tables → Tables = λ route. without_route route d.keys in
      let a1 = (c.in_ok-put_named.ensures.does m1 writing) in
      let a2 = makes_on (with_named d) (with_some gone d.dropped) s0 s1 s2 (steady_some gone (λ (route : Name). steady-without_route route d.keys) d.dropped) a1 (c.in_ok-drop_some.ensures.does m2 a1.writing) in
      let o3 = (c.in_ok-change_some.ensures.does m3 a2.writing) in
      let a3 = makes_on (λ (t : Tables). with_some gone d.dropped (with_named d t)) (with_some (λ (r : RouteChange). changed_route r o3.pieces) d.changed) s0 s2 s3 (steady_some (λ (r : RouteChange). changed_route r o3.pieces) (λ r. steady-changed_route r o3.pieces) d.changed) a2 o3.makes in
      let o4 = (c.in_ok-put_some.ensures.does m4 a3.writing) in
      let a4 = makes_on (λ (t : Tables). with_some (λ (r : RouteChange). changed_route r o3.pieces) d.changed (with_some gone d.dropped (with_named d t))) (with_some (λ (e : RouteRow). new_route e o4.pieces) d.made) s0 s3 s4 (steady_some (λ (e : RouteRow). new_route e o4.pieces) (λ e. steady-new_route e o4.pieces) d.made) a3 o4.makes in
      let a5 = makes_on (λ (t : Tables). with_routes d o3.pieces o4.pieces (with_named d t)) (with_ledgers d) s0 s4 s5 (steady-with_ledgers d) a4 (c.in_ok-put_ledgers.ensures.does m5 a4.writing) in
      both_on c.put_edit.result (Makes (with_edit c.args.n c.args.change.now.edit) s5 s6) (IsTrue s5.is_open) (Writes c.args.n c.args.change.now s0 s6)
      (λ put was.
      let a6 = makes_on (λ (t : Tables). with_ledgers d (with_routes d o3.pieces o4.pieces (with_named d t))) (with_edit c.args.n c.args.change.now.edit) s0 s5 s6 (steady-with_edit c.args.n c.args.change.now.edit) a5 put in
      record { writing = a6.writing; was_open = a5.was_open was; rows = record { changed = o3.pieces; changed_are = o3.are; made = o4.pieces; made_are = o4.are; rows = a6.rows } })
      (c.put_edit.ensures.changes.does clean a5.writing) (c.put_edit.ensures.is_open clean a5.writing);
  survives = leaves_then (leaves_then (leaves_then (leaves_then (leaves_then c.put_named.ensures.survives c.drop_some.ensures.survives) c.change_some.ensures.survives) c.put_some.ensures.survives) c.put_ledgers.ensures.survives) c.put_edit.ensures.changes.survives;
}

pub returns-in_err-drop_some : goal.returns-in_err-drop_some
returns-in_err-drop_some g c = handed_on c.from_residual-in_err-drop_some.result c.from_residual-in_err-drop_some.ensures.1 (fails_behind c.in_ok-put_named.ensures c.in_err-drop_some.ensures)

pub returns-in_err-change_some : goal.returns-in_err-change_some
returns-in_err-change_some g c = handed_on c.from_residual-in_err-change_some.result c.from_residual-in_err-change_some.ensures.1 (fails_behind c.in_ok-put_named.ensures (fails_behind c.in_ok-drop_some.ensures c.in_err-change_some.ensures))

pub returns-in_err-put_some : goal.returns-in_err-put_some
returns-in_err-put_some g c = handed_on c.from_residual-in_err-put_some.result c.from_residual-in_err-put_some.ensures.1 (fails_behind c.in_ok-put_named.ensures (fails_behind c.in_ok-drop_some.ensures (fails_behind c.in_ok-change_some.ensures c.in_err-put_some.ensures)))

pub returns-in_err-put_ledgers : goal.returns-in_err-put_ledgers
returns-in_err-put_ledgers g c = handed_on c.from_residual-in_err-put_ledgers.result c.from_residual-in_err-put_ledgers.ensures.1 (fails_behind c.in_ok-put_named.ensures (fails_behind c.in_ok-drop_some.ensures (fails_behind c.in_ok-change_some.ensures (fails_behind c.in_ok-put_some.ensures c.in_err-put_ledgers.ensures))))
