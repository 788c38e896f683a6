use Rattle.std.proofs.Common.{◌≡◌, refl, rules, subst}
use Rattle.sqlite.specs.Held.{state}
use Rattle.lrs_store_tables.specs.RowChanges.{renamed_route}
use Rattle.lrs_store_tables.specs.StoredRows.{Makes}
use Rattle.lrs_store_commit.proofs.Then.{makes_nothing}
use Rattle.lrs_store_commit.proofs.SameName.{renamed_itself}
use Rattle.lrs_store_commit.proofs.routes.rename_if_new.Goals as goal

pub returns-then-eq : goal.returns-then-eq
returns-then-eq g c = record {
  same_reference = refl;
  does = λ clean writing.
      let s = state g.S.Store c.args.tx.now.conn.now in
      let same : c.args.route.now ≡ c.args.name.now = search rules in
      let own = c.args.route.now in
      let keys = c.args.keys.now in
      subst (λ name. Makes (renamed_route own name keys) s s) same (makes_nothing (renamed_route own own keys) s (renamed_itself own keys) writing);
  survives = search rules;
}
