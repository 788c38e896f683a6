-- Changes that are written in one transaction: what a crash leaves.
use Rattle.std.proofs.Common.{◌≡◌, ℕ, ◌+◌, ◌<◌, List, [], ◌∷◌, ◌++◌, length, IsTrue, true, refl, sym, subst, arith}
use Rattle.std.specs.List.{AllByRecursion}
use Rattle.sqlite_trees.specs.declared.store.Store.{Ghosts}
use Rattle.sqlite.specs.Held.{Held, state}
use Rattle.sqlite.specs.State.{State, HasCleanDisk, Survives}
use Rattle.lrs_image.specs.declared.change.Change.{Change}
use Rattle.lrs_store_tables.specs.Contents.Tables.{Tables}
use Rattle.lrs_store_tables.specs.StoredRows.{stored, IsWriting, Makes}
use Rattle.lrs_store_tables.specs.Writes.{AreWritten, Writes, WritesEach}
use Rattle.lrs_store_commit.specs.NewAssets.{IsNewAsset, with_new_assets}
use Rattle.lrs_store_commit.proofs.Entering.{entries_written}
use Rattle.lrs_store_tables.proofs.Transactions.{survives_transaction}
use Rattle.lrs_store_tables.specs.Connections.{IsReady}

-- changes that are written of what others left
written_behind : (n k : ℕ) (cs ds : List Change) (before middle after : Tables) → k ≡ n + length cs → AreWritten n cs before middle → AreWritten k ds middle after → AreWritten n (cs ++ ds) before after
written_behind n k [] ds before middle after is same more =
    let number : k ≡ n = omega (arith, is) in
    let from : AreWritten k ds before after = subst (λ (t : Tables). AreWritten k ds t after) (sym same) more in
    subst (λ (m : ℕ). AreWritten m ds before after) number from
written_behind n k (x ∷ xs) ds before middle after is all more = (all.0, all.1, written_behind (n + 1) k xs ds all.0 middle after (omega (arith, is)) all.2 more)

-- no change yet
pub writes_none : (n : ℕ) (s : State) → IsWriting s → WritesEach n [] s s
writes_none n s writing = record { writing = writing; was_open = λ opened. opened; is_open = λ none. absurd (omega (arith, none)); rows = refl }

pub writes_one : (n : ℕ) (c : Change) (a b : State) → Writes n c a b → WritesEach n (c ∷ []) a b
writes_one n c a b one = record { writing = one.writing; was_open = λ _. one.was_open; is_open = λ _. one.was_open; rows = (stored b.now.trees, one.rows, refl) }

pub writes_new_assets : (n : ℕ) (cs : List Change) (a b : State) → 0 < length cs → AllByRecursion IsNewAsset cs → IsTrue a.is_open → Makes (with_new_assets n cs) a b → WritesEach n cs a b
writes_new_assets n cs a b some entries opened made =
    record { writing = made.writing; was_open = λ _. opened; is_open = λ _. opened; rows = entries_written n cs (stored a.now.trees) (stored b.now.trees) some entries made.rows }

pub writes_behind : (n k : ℕ) (cs ds : List Change) (a b d : State) → k ≡ n + length cs → 0 < length ds → WritesEach n cs a b → WritesEach k ds b d → WritesEach n (cs ++ ds) a d
writes_behind n k cs ds a b d is some all more = record {
  writing = more.writing;
  was_open = λ _. all.was_open (more.is_open some);
  is_open = λ _. all.was_open (more.is_open some);
  rows = written_behind n k cs ds _ _ _ is all.rows more.rows;
}

-- a transaction that begins is over the tables
pub begins : {S : Type 0} (g : Ghosts S) (old : Held S) → IsReady (state g old) → HasCleanDisk (state g old) → IsWriting (state g (record old { in_transaction = true }))
begins g old ready clean = record {
  begun = refl;
  schema = λ opened. (ready clean opened).schema;
  tables = λ opened. (ready clean opened).tables;
}

-- what an opening finds after a crash is what it would have found before, or the rows with all changes
pub crash : {S : Type 0} (g : Ghosts S) (old tx mid : Held S) (last : State) (n : ℕ) (cs : List Change) → 0 < length cs → tx ≡ record old { in_transaction = true } → IsReady (state g old)
    → Survives (state g tx) (state g mid) (λ _. ⊥) → (HasCleanDisk (state g mid) → IsWriting (state g tx) → WritesEach n cs (state g tx) (state g mid)) → Survives (state g mid) last (λ db. db ≡ (state g mid).now.trees)
    → Survives (state g old) last (λ db. IsTrue (state g old).is_open × AreWritten n cs (stored (state g old).now.trees) (stored db))
crash g old tx mid last n cs some is ready one writes two =
    survives_transaction g old tx mid last (λ t. HasCleanDisk (state g mid) → IsWriting (state g t) → WritesEach n cs (state g t) (state g mid))
    (λ db. IsTrue (state g old).is_open × AreWritten n cs (stored (state g old).now.trees) (stored db)) is one writes two (λ does early m.
    let w = does m (begins g old ready early) in
    (w.is_open some, w.rows))

-- statements that were run have not ended the transaction
pub has_begun : {S : Type 0} (g : Ghosts S) (old tx mid : Held S) (n : ℕ) (cs : List Change) → tx ≡ record old { in_transaction = true } → IsReady (state g old)
    → Survives (state g tx) (state g mid) (λ _. ⊥) → (HasCleanDisk (state g mid) → IsWriting (state g tx) → WritesEach n cs (state g tx) (state g mid)) → HasCleanDisk (state g mid) → IsTrue (state g mid).in_transaction
has_begun {S} g old tx mid n cs is ready one writes clean =
    let early : HasCleanDisk (state g tx) = omega (arith, clean, one.clean) in
    let writing = subst (λ (h : Held S). HasCleanDisk (state g h) → IsWriting (state g h)) (sym is) (begins g old ready) early in
    (writes clean writing).writing.begun
