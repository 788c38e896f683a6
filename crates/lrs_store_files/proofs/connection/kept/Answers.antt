use Rattle.std.proofs.Common.{arith, sym, ap, subst, ◌∙◌}
use Rattle.sqlite_trees.specs.Tree.{Trees}
use Rattle.sqlite.specs.Effect.{Database}
use Rattle.sqlite.specs.Held.{state}
use Rattle.lrs_store_tables.specs.Contents.Tables.{AreSame}
use Rattle.lrs_store_tables.specs.StoredRows.{stored}
use Rattle.lrs_store_tables.specs.RowLaws.{same_refl}
use Rattle.lrs_store_files.proofs.OpenLemmas.{taken_some, at_rest}
use Rattle.lrs_store_tables.proofs.MakeLemmas.{all_made}
use Rattle.lrs_store_files.proofs.connection.kept.Goals as goal

pub returns-clause-ready : goal.returns-clause-ready
returns-clause-ready g c clean opened =
    let found = c.requires.found clean in
    at_rest (state g.S.Store c.args.conn) (c.schema-live.ensures.live opened).0 c.requires.all found.1 found.0.clean

pub returns-clause-rows : goal.returns-clause-rows
returns-clause-rows g c = taken_some (state g.S.Store c.args.conn) (state g.S.Store c.args.conn) 12 (omega arith) (omega arith) (c.requires.all ∙ sym all_made) (λ clean db left.
    let s = state g.S.Store c.args.conn in
    let found = c.requires.found clean in
    let is = g.met.S.Store.settled c.args.conn.store db found.0.is_open left ∙ ap (λ (d : Database). d.trees) (sym found.0.clean) in
    subst (λ (d : Trees). AreSame (stored s.now.trees) (stored d)) (sym is) (same_refl (stored s.now.trees)))
