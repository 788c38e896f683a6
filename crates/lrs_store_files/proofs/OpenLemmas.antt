-- A store that was opened: what it knows, and which rows an opening finds after.
use Rattle.std.proofs.Common.{◌≡◌, ℕ, ◌<◌, ◌≤◌, Bool, IsTrue, true, false, refl, sym, subst, ◌∙◌, arith, inl, inr}
use Rattle.std.specs.Prelude.{nat_lt}
use Rattle.std.specs.List.{AllByRecursion}
use Rattle.std.proofs.lemmas.Bool.{ltb-true, ltb-false}
use Rattle.sqlite_schema.specs.declared.schema.Table.{Table}
use Rattle.sqlite_schema.specs.declared.schema.Schema.{Schema}
use Rattle.sqlite_schema.specs.declared.schema.Constraint.TheVariants.{Datatype, NotNull}
use Rattle.sqlite_schema.specs.Rules.{Keeps}
use Rattle.sqlite_trees.specs.declared.store.Store.{Ghosts}
use Rattle.sqlite_trees.specs.Tree.{Trees}
use Rattle.sqlite.specs.Effect.{IsDatabase}
use Rattle.sqlite.specs.Held.{Held, state}
use Rattle.sqlite.specs.State.{State, HasCleanDisk, Survives}
use Rattle.lrs_store_tables.specs.Contents.Tables.{AreSame}
use Rattle.lrs_store_tables.specs.Schema.{inventory}
use Rattle.lrs_store_tables.specs.StoredRows.{stored, AreNumbered}
use Rattle.lrs_store_tables.specs.Connections.{IsAtRest}
use Rattle.lrs_store_tables.specs.TableCreation.{no_schema, first_tables, first_rows, tree_at, HasFirst, IsBegun, IsMaking}
use Rattle.lrs_store_tables.specs.NewStores.{new_rows}
use Rattle.lrs_store_tables.specs.HeldRows.{HoldsOnly}
use Rattle.lrs_store_tables.proofs.MakeLemmas.{none_made, first_each, each_tree, rows_of_first}
use Rattle.lrs_store_tables.proofs.Transactions.{survives_transaction}
use Rattle.lrs_store_files.proofs.FirstTables.{same_count, none_of_some}
use Rattle.lrs_store_files.specs.Openings.{IsTaken, IsFound, HasNumbers, HasBegun, LeavesFound}

-- a database of the tables is at rest where it is committed
pub at_rest : (s : State) → IsDatabase s.now → s.now.schema ≡ inventory → HasNumbers s.now → s.now ≡ s.committed → IsAtRest s
at_rest s sound is numbers settled = record {
  schema = is;
  settled = settled;
  tables = record {
    numbered = subst (λ (x : Schema). AllByRecursion (λ (t : Table). AreNumbered (s.now.trees t.tree)) x.tables) is numbers;
    typed = subst (λ (x : Schema). Keeps Datatype x s.now.trees) is (sound.obeys.rules Datatype);
    present = subst (λ (x : Schema). Keeps NotNull x s.now.trees) is (sound.obeys.rules NotNull);
  };
}

module _ (old new : State) where
  -- a store that has some of the tables
  pub taken_some : (n : ℕ) → 0 < n → n ≤ 12 → old.now.schema ≡ first_tables n → HoldsOnly new (first_rows n (stored old.now.trees)) → IsTaken old new
  taken_some n some few is rows = record {
    known = (n, few, is);
    made = λ e. absurd (none_of_some n some few (sym e ∙ is));
    kept = λ m _ many e. subst (λ (k : ℕ). HoldsOnly new (first_rows k (stored old.now.trees))) (same_count n m few many (sym is ∙ e)) rows;
  }

  -- one that has none
  pub taken_nothing : old.now.schema ≡ no_schema → HoldsOnly new new_rows → IsTaken old new
  taken_nothing is rows = record {
    known = (0, (omega arith), is ∙ sym none_made);
    made = λ _. rows;
    kept = λ m some many e. absurd (none_of_some m some many (sym is ∙ e));
  }

-- the tables that are made have numbers too
pub grown_numbers : (n : ℕ) (old new : State) → old.now.schema ≡ first_tables n → HasNumbers old.now → new.now.schema ≡ inventory → HasFirst n 12 old.now.trees new.now.trees → HasNumbers new.now
grown_numbers n old new is numbers after has =
    subst (λ (s : Schema). AllByRecursion (λ (t : Table). AreNumbered (new.now.trees t.tree)) s.tables) (sym after) (each_tree (λ t. AreNumbered (new.now.trees t)) (λ k low. one k low (nat_lt k n) refl))
  where
    before : AllByRecursion (λ (t : Table). AreNumbered (old.now.trees t.tree)) (first_tables n).tables
    before = subst (λ (s : Schema). AllByRecursion (λ (t : Table). AreNumbered (old.now.trees t.tree)) s.tables) is numbers

    one : (k : ℕ) → k < 12 → (b : Bool) → nat_lt k n ≡ b → AreNumbered (new.now.trees (tree_at k))
    one k low true e = let first = ltb-true k n e in subst AreNumbered (sym (has.kept k first)) (first_each (λ t. AreNumbered (old.now.trees t)) n k first low before)
    one k low false e = subst AreNumbered (sym (has.empty k (ltb-false k n e) low)) (record { rise = tt; numbers = tt })

-- what an opening finds after a crash is what it would have found before, or the same rows
pub crash : {S : Type 0} (g : Ghosts S) (n : ℕ) → n < 12 → (old tx mid : Held S) (last : State) → tx ≡ record old { in_transaction = true } → (HasCleanDisk (state g old) → IsTrue (state g old).is_open → (state g old).now.schema ≡ first_tables n)
    → Survives (state g tx) (state g mid) (λ _. ⊥) → (HasCleanDisk (state g mid) → IsBegun n (state g tx) → IsMaking n 12 (state g tx) (state g mid))
    → Survives (state g mid) last (λ db. db ≡ (state g mid).now.trees)
    → Survives (state g old) last (λ db. AreSame (first_rows n (stored (state g old).now.trees)) (stored db))
crash g n few old tx mid last is first one makes two =
    survives_transaction g old tx mid last (λ t. HasCleanDisk (state g mid) → IsBegun n (state g t) → IsMaking n 12 (state g t) (state g mid))
    (λ db. AreSame (first_rows n (stored (state g old).now.trees)) (stored db)) is one makes two (λ does early m.
    let made = does m (record { begun = refl; tables = first early }) in
    rows_of_first n (state g old).now.trees (state g mid).now.trees (made.rows (made.is_open few)))

-- what an opening finds of a store in which tables were to be made
pub left_begun : (old new : State) (Commits : Trees → Type 0) → IsFound old → Survives old new Commits → ((db : Trees) → IsTrue old.is_open → old.may_leave db → db ≡ old.committed.trees)
    → ((db : Trees) → Commits db → HasBegun old.now.schema (stored old.now.trees) (stored db)) → LeavesFound old new
left_begun old new Commits found survives settled begun = record {
  clean = λ clean. omega (arith, clean, survives.clean);
  finds = λ clean db may. elim (survives.crash clean db may) [
    | inl earlier ↦ inl (settled db (found (omega (arith, clean, survives.clean))).0.is_open earlier)
    | inr commits ↦ inr (begun db commits)
  ];
}

-- and of one that is as it was
pub left_unchanged : (s : State) → IsFound s → ((db : Trees) → IsTrue s.is_open → s.may_leave db → db ≡ s.committed.trees) → LeavesFound s s
left_unchanged s found settled = record {
  clean = λ clean. clean;
  finds = λ clean db may. inl (settled db (found clean).0.is_open may);
}
