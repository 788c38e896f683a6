-- A transaction that ends in an error is undone: what an open store leaves is its last commit, and a call of which nothing is committed leaves what was left before.
use Rattle.std.proofs.Common.{◌≡◌, ◌⊎◌, inl, inr, IsTrue, true, sym, ap, subst, ◌∙◌, arith, Result, Ok, Err, IfErr, OnErr}
use Rattle.sqlite_trees.specs.declared.store.Store.{Ghosts}
use Rattle.sqlite_trees.specs.Tree.{Trees}
use Rattle.sqlite.specs.Effect.{Database}
use Rattle.sqlite.specs.Held.{Held, state}
use Rattle.sqlite.specs.State.{State, HasCleanDisk, Survives, IsRolledBack}
use Rattle.sqlite.specs.Steps.{FailsToCommit}
use Rattle.sqlite.specs.declared.error.Error.{Error}
use Rattle.sqlite.specs.State.{IsLive}
use Rattle.sqlite_trees.specs.Objects.{catalog_tree}
use Rattle.sqlite_catalog.specs.Listing.{AreListed}
use Rattle.sqlite_schema.specs.declared.schema.Schema.{Schema}
use Rattle.lrs_store_tables.specs.Schema.{inventory}
use Rattle.lrs_store_tables.specs.StoredRows.{HasTables}
use Rattle.lrs_store_tables.specs.Connections.{IsReady}
use Rattle.lrs_store_commit.specs.UndoneChanges.{IsBack, GoesBack, LeavesUndone}
use Rattle.lrs_store_commit.proofs.OneSchema.{one_schema}

-- what holds anyway holds after an error
pub on_error : {A P : Type 0} (answer : Result A Error) → P → OnErr answer P
on_error (Ok a) p = tt
on_error (Err e) p = p

pub before : {A : Type 0} → A ⊎ ⊥ → A
before (inl a) = a
before (inr none) = absurd none

abbrev pub Stays : {S : Type 0} → Ghosts S → Type 0
Stays {S} g = (s : S) → IsTrue (g.view s).is_open → g.recovers s (g.view s).committed

abbrev pub IsSettled : {S : Type 0} → Ghosts S → Type 0
IsSettled {S} g = (s : S) (db : Trees) → IsTrue (g.view s).is_open → g.recovers s db → db ≡ (g.view s).committed

module _ {S : Type 0} (g : Ghosts S) (stays : Stays g) (settled : IsSettled g) (old tx mid : Held S) (is : tx ≡ record old { in_transaction = true })
    (first : Survives (state g tx) (state g mid) (λ _. ⊥)) where
  -- what the transaction has committed is what was committed before it
  left_before : HasCleanDisk (state g mid) → (db : Trees) → IsTrue (state g old).is_open → g.recovers mid.store db → db ≡ (g.view old.store).committed
  left_before clean db opened left =
      settled old.store db opened (subst (λ (h : Held S). g.recovers h.store db) is (before (first.crash clean db left)))

  -- its statements failed, and it was rolled back
  pub rolled_back : (new : Held S) → Survives (state g mid) (state g new) (λ _. ⊥) → (HasCleanDisk (state g new) → IsRolledBack (state g mid) (state g new)) → GoesBack (state g old) (state g new)
  rolled_back new second undone clean was now =
      let m : HasCleanDisk (state g mid) = omega (arith, clean, second.clean) in
      let left : g.recovers mid.store (g.view new.store).committed = before (second.crash clean _ (stays new.store now)) in
      record {
        settled = ((undone clean).undone now).0 ∙ sym ((undone clean).undone now).1;
        trees = left_before m _ was left;
      }

  -- its commit failed
  pub not_committed : (new : Held S) (e : Error) → IsTrue (state g mid).in_transaction → (HasCleanDisk (state g new) → HasCleanDisk (state g mid)) → (HasCleanDisk (state g new) → FailsToCommit (state g mid) (state g new) e) → GoesBack (state g old) (state g new)
  not_committed new e begun early failed clean was now =
      elim (failed clean) [
        | inl fails ↦ by_undo fails.3
        | inr misplaced ↦ absurd (let clash = sym begun ∙ misplaced.1 in cc)
      ]
    where
      by_undo : IsRolledBack (state g mid) (state g new) → IsBack (state g old) (state g new)
      by_undo undone =
          let opened : IsTrue (state g mid).is_open = undone.was_open now in
          let back = undone.undone now in
          record {
            settled = back.0 ∙ sym back.1;
            trees = ap (λ (d : Database). d.trees) back.1 ∙ left_before (early clean) _ was (stays mid.store opened);
          }

  -- so it is for what the commit answers, where its statements had not ended the transaction
  pub commit_back : {A : Type 0} (answer : Result A Error) (new : Held S) → (HasCleanDisk (state g mid) → IsTrue (state g mid).in_transaction) → (HasCleanDisk (state g new) → HasCleanDisk (state g mid)) → (HasCleanDisk (state g new) → IfErr answer (FailsToCommit (state g mid) (state g new))) → OnErr answer (GoesBack (state g old) (state g new))
  commit_back (Ok a) new begun early failed = tt
  commit_back (Err e) new begun early failed = λ clean was now. not_committed new e (begun (early clean)) early failed clean was now

-- what is undone is at rest: the trees of before list one schema
pub rests_undone : (old new : State) → IsReady old → IsLive old → IsLive new → (HasCleanDisk new → HasCleanDisk old) → GoesBack old new → LeavesUndone old new
rests_undone old new ready live lives early back clean was now =
    let rest = ready (early clean) was in
    let is = back clean was now in
    let listed = subst (λ (t : Trees). AreListed (t catalog_tree) new.committed.schema) is.trees (lives now).1.lists.listed in
    let made : old.committed.schema ≡ inventory = ap (λ (d : Database). d.schema) (sym rest.settled) ∙ rest.schema in
    let same = one_schema _ old.committed.schema new.committed.schema (live was).1.lists.listed listed (ap (λ (s : Schema). s.views) made) in
    record {
      rest = record {
        schema = ap (λ (d : Database). d.schema) is.settled ∙ sym same ∙ made;
        settled = is.settled;
        tables = subst HasTables (ap (λ (d : Database). d.trees) rest.settled ∙ sym is.trees ∙ sym (ap (λ (d : Database). d.trees) is.settled)) rest.tables;
      };
      trees = is.trees;
    }

pub all_undone : {A : Type 0} (answer : Result A Error) (old new : State) → IsReady old → IsLive old → IsLive new → (HasCleanDisk new → HasCleanDisk old) → OnErr answer (GoesBack old new) → OnErr answer (LeavesUndone old new)
all_undone (Ok a) old new ready live lives early back = tt
all_undone (Err e) old new ready live lives early back = rests_undone old new ready live lives early back
