-- What reading inside a transaction that is rolled back says of what an opening may find.
use Rattle.std.proofs.Common.{◌≡◌, ◌⊎◌, inl, inr, ℕ, List, [], IsTrue, true, IfOk, OnOk, Ok, Err, Result, refl, sym, ap, subst, ◌∙◌, arith}
use Rattle.sqlite_trees.specs.declared.store.Store.{Ghosts}
use Rattle.sqlite_trees.specs.Tree.{Trees}
use Rattle.sqlite.specs.Effect.{Database}
use Rattle.sqlite.specs.Held.{Held, state}
use Rattle.sqlite.specs.State.{State, HasCleanDisk, Survives, IsRolledBack, IsUnchanged, IsNotRun}
use Rattle.sqlite.specs.declared.error.Error.{Error}
use Rattle.lrs_store_tables.specs.Contents.Tables.{Tables}
use Rattle.lrs_store_tables.specs.StoredRows.{stored, IsWriting, HasTables, LeavesStore}
use Rattle.lrs_store_tables.specs.Connections.{IsReady, IsAtRest}
use Rattle.lrs_store_tables.specs.Rows.{HasRead}

-- a transaction that begins is over the tables
pub begins : {S : Type 0} (g : Ghosts S) (old : Held S) → IsReady (state g old) → HasCleanDisk (state g old) → IsWriting (state g (record old { in_transaction = true }))
begins g old ready clean = record {
  begun = refl;
  schema = λ opened. (ready clean opened).schema;
  tables = λ opened. (ready clean opened).tables;
}

pub before : {A : Type 0} → A ⊎ ⊥ → A
before (inl a) = a
before (inr none) = absurd none

abbrev pub IsSettled : {S : Type 0} → Ghosts S → Type 0
IsSettled {S} g = (s : S) (db : Trees) → IsTrue (g.view s).is_open → g.recovers s db → db ≡ (g.view s).committed

-- what was read inside a transaction that is rolled back is what an opening may find
pub told : {S : Type 0} (g : Ghosts S) (settled : IsSettled g) (old tx mid : Held S) (last : State) (P : Tables → Type 0) → tx ≡ record old { in_transaction = true } → IsReady (state g old)
    → Survives (state g tx) (state g mid) (λ _. ⊥) → (HasCleanDisk (state g mid) → IsWriting (state g tx) → HasRead P (state g tx) (state g mid)) → Survives (state g mid) last (λ _. ⊥)
    → HasCleanDisk last → (db : Trees) → last.may_leave db → P (stored db)
told {S} g settled old tx mid last P is ready one reads two clean db left = by tx (sym is) one reads
  where
    begun : Held S
    begun = record old { in_transaction = true }

    moved : HasCleanDisk (state g old) → g.recovers old.store db → HasRead P (state g begun) (state g mid) → P (stored db)
    moved early found h =
        let opened = h.same.0.was_open in
        subst (λ (d : Trees). P (stored d)) (sym (settled old.store db opened found))
        (subst (λ (d : Database). P (stored d.trees)) (ready early opened).settled h.rows)

    at_begin : Survives (state g begun) (state g mid) (λ _. ⊥) → (HasCleanDisk (state g mid) → IsWriting (state g begun) → HasRead P (state g begun) (state g mid)) → P (stored db)
    at_begin first does =
        let m : HasCleanDisk (state g mid) = omega (arith, clean, two.clean) in
        let early : HasCleanDisk (state g old) = omega (arith, m, first.clean) in
        moved early (before (first.crash m db (before (two.crash clean db left)))) (does m (begins g old ready early))

    by : (t : Held S) → begun ≡ t → Survives (state g t) (state g mid) (λ _. ⊥) → (HasCleanDisk (state g mid) → IsWriting (state g t) → HasRead P (state g t) (state g mid)) → P (stored db)
    by t same = subst (λ (x : Held S). Survives (state g x) (state g mid) (λ _. ⊥) → (HasCleanDisk (state g mid) → IsWriting (state g x) → HasRead P (state g x) (state g mid)) → P (stored db)) same at_begin

-- after it the connection is at rest again
pub rests : {S : Type 0} (g : Ghosts S) (old tx mid : Held S) (last : State) (P : Tables → Type 0) → tx ≡ record old { in_transaction = true } → IsReady (state g old)
    → Survives (state g tx) (state g mid) (λ _. ⊥) → (HasCleanDisk (state g mid) → IsWriting (state g tx) → HasRead P (state g tx) (state g mid)) → Survives (state g mid) last (λ _. ⊥)
    → (HasCleanDisk last → IsRolledBack (state g mid) last) → IsReady last
rests {S} g old tx mid last P is ready one reads two undone clean opened = by tx (sym is) one reads
  where
    begun : Held S
    begun = record old { in_transaction = true }

    at_rest : HasCleanDisk (state g old) → HasRead P (state g begun) (state g mid) → IsAtRest last
    at_rest early h =
        let rest = ready early h.same.0.was_open in
        let back = (undone clean).undone opened in
        let same : last.now ≡ (state g old).now = back.0 ∙ h.same.0.committed_is ∙ sym rest.settled in
        record {
          schema = ap (λ (d : Database). d.schema) same ∙ rest.schema;
          settled = back.0 ∙ sym back.1;
          tables = subst (λ (d : Database). HasTables d.trees) (sym same) rest.tables;
        }

    at_begin : Survives (state g begun) (state g mid) (λ _. ⊥) → (HasCleanDisk (state g mid) → IsWriting (state g begun) → HasRead P (state g begun) (state g mid)) → IsAtRest last
    at_begin first does =
        let m : HasCleanDisk (state g mid) = omega (arith, clean, two.clean) in
        let early : HasCleanDisk (state g old) = omega (arith, m, first.clean) in
        at_rest early (does m (begins g old ready early))

    by : (t : Held S) → begun ≡ t → Survives (state g t) (state g mid) (λ _. ⊥) → (HasCleanDisk (state g mid) → IsWriting (state g t) → HasRead P (state g t) (state g mid)) → IsAtRest last
    by t same = subst (λ (x : Held S). Survives (state g x) (state g mid) (λ _. ⊥) → (HasCleanDisk (state g mid) → IsWriting (state g x) → HasRead P (state g x) (state g mid)) → IsAtRest last) same at_begin

-- the same of what was read, if it was

pub told_if : {S A : Type 0} (g : Ghosts S) (settled : IsSettled g) (old tx mid : Held S) (last : State) (Q : A → Tables → Type 0) (r : Result A Error) → tx ≡ record old { in_transaction = true } → IsReady (state g old)
    → Survives (state g tx) (state g mid) (λ _. ⊥) → (HasCleanDisk (state g mid) → IsWriting (state g tx) → IfOk r (λ x. HasRead (Q x) (state g tx) (state g mid))) → Survives (state g mid) last (λ _. ⊥)
    → HasCleanDisk last → (db : Trees) → last.may_leave db → IfOk r (λ x. Q x (stored db))
told_if g settled old tx mid last Q (Ok x) is ready one reads two clean db left = told g settled old tx mid last (Q x) is ready one reads two clean db left
told_if g settled old tx mid last Q (Err e) is ready one reads two clean db left = tt

pub rests_if : {S A : Type 0} (g : Ghosts S) (old tx mid : Held S) (last : State) (Q : A → Tables → Type 0) (r : Result A Error) → tx ≡ record old { in_transaction = true } → IsReady (state g old)
    → Survives (state g tx) (state g mid) (λ _. ⊥) → (HasCleanDisk (state g mid) → IsWriting (state g tx) → IfOk r (λ x. HasRead (Q x) (state g tx) (state g mid))) → Survives (state g mid) last (λ _. ⊥)
    → (HasCleanDisk last → IsRolledBack (state g mid) last) → OnOk r (IsReady last)
rests_if g old tx mid last Q (Ok x) is ready one reads two undone = rests g old tx mid last (Q x) is ready one reads two undone
rests_if g old tx mid last Q (Err e) is ready one reads two undone = tt

-- what a call leaves that changes nothing
module _ (a b : State) (survives : LeavesStore a b) where
  early : HasCleanDisk b → HasCleanDisk a
  early clean = omega (arith, clean, survives.clean)

  pub rests_still : IsReady a → (HasCleanDisk b → IsUnchanged a b) → IsReady b
  rests_still ready same clean opened =
      let shown = (same clean).0 in
      let rest = ready (early clean) shown.was_open in
      record {
        schema = ap (λ (d : Database). d.schema) shown.now_is ∙ rest.schema;
        settled = shown.now_is ∙ rest.settled ∙ sym shown.committed_is;
        tables = subst (λ (d : Database). HasTables d.trees) (sym shown.now_is) rest.tables;
      }

  -- whatever may be left was so before
  pub left_before : (P : Trees → Type 0) → (HasCleanDisk a → (db : Trees) → a.may_leave db → P db) → HasCleanDisk b → (db : Trees) → b.may_leave db → P db
  left_before P all clean db left = all (early clean) db (before (survives.crash clean db left))

-- a connection that was at rest and was rolled back is at rest
rests_back : (a b : State) → IsReady a → HasCleanDisk a → IsTrue b.is_open → IsRolledBack a b → IsAtRest b
rests_back a b ready early opened back =
    let rest = ready early (back.was_open opened) in
    let undone = back.undone opened in
    let same : b.now ≡ a.now = undone.0 ∙ sym rest.settled in
    record {
      schema = ap (λ (d : Database). d.schema) same ∙ rest.schema;
      settled = undone.0 ∙ sym undone.1;
      tables = subst (λ (d : Database). HasTables d.trees) (sym same) rest.tables;
    }

-- a statement that was not prepared leaves the connection at rest
pub rests_unprepared : (a b : State) (sql : List ℕ) (e : Error) → LeavesStore a b → IsReady a → (HasCleanDisk b → IsNotRun a b sql [] e) → IsReady b
unfolding IsNotRun
rests_unprepared a b sql e survives ready fails clean opened =
    let early : HasCleanDisk a = omega (arith, clean, survives.clean) in
    elim (fails clean) [
      | inl h ↦ rests_still a b survives ready (λ _. h.1) clean opened
      | inr h ↦ rests_back a b ready early opened h.3
    ]
