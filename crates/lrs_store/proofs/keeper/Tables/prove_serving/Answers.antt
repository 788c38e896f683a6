use Rattle.std.proofs.Common.{ap, subst, ◌∙◌}
use Rattle.sqlite.specs.Held.{state}
use Rattle.sqlite.specs.State.{IsLive}
use Rattle.lrs_store_tables.specs.Connections.{IsReady}
use Rattle.lrs_store.specs.TableKeeper.KeeperView.{KeeperView}
use Rattle.lrs_store.proofs.keeper.Tables.prove_serving.Goals as goal

pub returns-clause-ready : goal.returns-clause-ready
returns-clause-ready g c unbroken =
    subst (λ (v : KeeperView g.row.S.Denot g.row.R.Denot). IsReady (state g.S.Store v.conn)) c.self.view_is (c.self.invariant (ap (λ (v : KeeperView g.row.S.Denot g.row.R.Denot). v.is_broken) c.self.view_is ∙ unbroken)).ready

pub returns-clause-live : goal.returns-clause-live
returns-clause-live g c = subst (λ (v : KeeperView g.row.S.Denot g.row.R.Denot). IsLive (state g.S.Store v.conn)) c.self.view_is c.schema-live.ensures.live
