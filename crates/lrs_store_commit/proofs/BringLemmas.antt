-- A store that is brought up in one transaction: what a crash leaves.
use Rattle.std.proofs.Common.{◌≡◌, List, IsTrue, true}
use Rattle.sqlite_trees.specs.declared.store.Store.{Ghosts}
use Rattle.sqlite.specs.Held.{Held, state}
use Rattle.sqlite.specs.State.{State, HasCleanDisk, Survives}
use Rattle.lrs_events.specs.declared.class.Asset.{Asset}
use Rattle.lrs_store_tables.specs.Contents.Tables.{AreSame}
use Rattle.lrs_store_tables.specs.Contents.Laws.{brought_up}
use Rattle.lrs_store_tables.specs.StoredRows.{stored, IsWriting}
use Rattle.lrs_store_tables.specs.NewStores.{BringsUp}
use Rattle.lrs_store_tables.specs.Connections.{IsReady}
use Rattle.lrs_store_commit.proofs.CommitLemmas.{begins}
use Rattle.lrs_store_tables.proofs.Transactions.{survives_transaction}

-- what an opening finds after a crash is what it would have found before, or the rows of version 2
pub crash : {S : Type 0} (g : Ghosts S) (old tx mid : Held S) (last : State) (xs : List Asset) → tx ≡ record old { in_transaction = true } → IsReady (state g old)
    → Survives (state g tx) (state g mid) (λ _. ⊥) → (HasCleanDisk (state g mid) → IsWriting (state g tx) → BringsUp xs (state g tx) (state g mid)) → Survives (state g mid) last (λ db. db ≡ (state g mid).now.trees)
    → Survives (state g old) last (λ db. IsTrue (state g old).is_open × AreSame (brought_up xs (stored (state g old).now.trees)) (stored db))
crash g old tx mid last xs is ready one writes two =
    survives_transaction g old tx mid last (λ t. HasCleanDisk (state g mid) → IsWriting (state g t) → BringsUp xs (state g t) (state g mid))
    (λ db. IsTrue (state g old).is_open × AreSame (brought_up xs (stored (state g old).now.trees)) (stored db)) is one writes two (λ does early m.
    let w = does m (begins g old ready early) in
    (w.was_open, w.rows))
