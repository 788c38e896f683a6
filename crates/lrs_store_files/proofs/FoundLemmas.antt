-- What files hold: the rows of their tables have numbers, and an opening leaves them.
use Rattle.std.proofs.Common.{◌≡◌, ℕ, List, [], ◌∷◌, ap, sym, subst, ◌∙◌, inl, inr, refl, true, false, Option, None, Some, IfSome, MatchOption}
use Rattle.std.proofs.Math.Logic.{∥∥₁_elim}
use Rattle.std.specs.List.{AllByRecursion, AllZip}
use Rattle.sqlite_schema.specs.declared.schema.Table.{Table}
use Rattle.sqlite_schema.specs.declared.schema.Schema.{Schema}
use Rattle.sqlite_value.specs.declared.value.Value.{Value}
use Rattle.sqlite_value.specs.declared.value.Value.TheVariants.{Int}
use Rattle.sqlite_value.specs.Order.{Row}
use Rattle.sqlite_trees.specs.declared.store.Shape.TheVariants as shape
use Rattle.sqlite_trees.specs.Tree.{Trees, rowid}
use Rattle.sqlite_trees.specs.View.{View, IsShaped, IsOrdered, is_int}
use Rattle.sqlite_trees.specs.Objects.{catalog_tree, IsListed}
use Rattle.sqlite_trees.specs.Props.{IsOrdered-prop}
use Rattle.sqlite_rules.specs.Edit.{id_in}
use Rattle.sqlite_catalog.specs.Listing.{Lists, IsTableRow}
use Rattle.sqlite_catalog.specs.Reading.{IsTableShaped, AreShaped}
use Rattle.sqlite_catalog.proofs.ReadLemmas.{shaped_of}
use Rattle.sqlite_wal.specs.Recovery.{Image}
use Rattle.sqlite_pool.specs.File.{version_in}
use Rattle.sqlite_store.specs.Listing.{all_shapes, all_reals, file_trees, listed_from, IsOurs}
use Rattle.sqlite_store.specs.Listed.{catalog_rows, is_listed}
use Rattle.sqlite_store.proofs.ListingLemmas.{all_ordered, listing_shaped}
use Rattle.sqlite.specs.State.{State, Opens, IsLive, HasCleanDisk}
use Rattle.sqlite.specs.Effect.{IsDatabase, Database}
use Rattle.sqlite_disk.specs.declared.Disk.{Ghosts}
use Rattle.sqlite_disk.specs.declared.Files.{Files}
use Rattle.sqlite.specs.declared.file.Leftover.{Leftover}
use Rattle.sqlite.specs.Held.{Held}
use Rattle.sqlite_store.specs.declared.store.FileStore.{FileStore}
use Rattle.sqlite.specs.Files.{AreFoundIn, HoldsDatabase, image_of, IsCleanLeft, LeavesFiles, file_state}
use Rattle.lrs_store_tables.specs.StoredRows.{AreNumbered}
use Rattle.lrs_store_files.specs.declared.files.Untaken.{Untaken}
use Rattle.lrs_store_files.specs.declared.files.Untaken.TheVariants as untaken
use Rattle.lrs_store_files.specs.Openings.{HasNumbers, IsTaken, LeavesFound}
use Rattle.lrs_store_files.specs.FoundFiles.{HasFound, IsLeftOf, LeavesRead}

-- what a catalog lists that was read
pub lists_it : (o : Option Schema) (found : Schema) (catalog : List Row) → o ≡ Some found → MatchOption o ((s : Schema) → Lists catalog s → ⊥) (Lists catalog) → Lists catalog found
lists_it o found catalog is = subst (λ o. MatchOption o ((s : Schema) → Lists catalog s → ⊥) (Lists catalog)) is

int_of : (v : Value) → is_int v ≡ true → Int (id_in v) ≡ v
int_of (Int n) h = refl
int_of v h = absurd cc

numbered : (rows : List Row) → AllByRecursion (λ r. is_int (rowid r) ≡ true) rows → AllByRecursion (λ r. Int (id_in (rowid r)) ≡ rowid r) rows
numbered [] all = tt
numbered (r ∷ rows) all = (int_of (rowid r) all.0, numbered rows all.1)

none_left : (P : Table → Type 0) (schema : Schema) → Lists [] schema → AllByRecursion P schema.tables
none_left P schema lists = go schema.tables lists.listed.tables
  where
    go : (ts : List Table) → AllZip IsTableRow [] ts → AllByRecursion P ts
    go [] all = tt
    go (t ∷ ts) all = absurd all

each : (shapes : ℕ → _) (db : Trees) (ts : List Table) → IsOrdered shapes db → AllByRecursion (λ (t : Table). shapes t.tree ≡ shape.Table) ts → AllByRecursion (λ (t : Table). AreNumbered (db t.tree)) ts
each shapes db [] ordered all = tt
each shapes db (t ∷ ts) ordered all =
    let rows = subst (λ s. IsShaped s (db t.tree)) all.0 (ordered t.tree) in
    (record { rise = rows.0; numbers = numbered (db t.tree) rows.1 }, each shapes db ts ordered all.1)

tables_shaped : (v : View) (ts : List Table) → AllByRecursion (IsTableShaped v) ts → AllByRecursion (λ (t : Table). v.shape t.tree ≡ shape.Table) ts
tables_shaped v [] all = tt
tables_shaped v (t ∷ ts) all = (all.0.0, tables_shaped v ts all.1)

-- the rows of each table that files list have numbers
pub found_numbers : (image : Image) (db : Trees) (schema : Schema) → AreFoundIn image db → Lists (db catalog_tree) schema → AllByRecursion (λ (t : Table). AreNumbered (db t.tree)) schema.tables
found_numbers image db schema (inr blank) lists = none_left (λ (t : Table). AreNumbered (db t.tree)) schema (subst (λ rows. Lists rows schema) blank.1.1 lists)
found_numbers image db schema (inl (size, pages, wanted, adopts, ours, is)) lists = subst (λ (d : Trees). AllByRecursion (λ (t : Table). AreNumbered (d t.tree)) schema.tables) (sym is) (each (all_shapes wanted) trees schema.tables ordered (tables_shaped v schema.tables shaped.tables))
  where
    trees : Trees
    trees = file_trees size wanted pages

    ordered : IsOrdered (all_shapes wanted) trees
    ordered = ∥∥₁_elim ours (IsOrdered-prop (all_shapes wanted) trees) (λ (it : IsOurs size true wanted pages). all_ordered it.file.db (version_in pages))

    v : View
    v = record {
      trees = trees;
      committed = trees;
      cursors = λ _. None;
      shape = all_shapes wanted;
      reals = all_reals wanted;
      committed_shape = all_shapes wanted;
      committed_reals = all_reals wanted;
      marks = [];
      is_numbered = true;
      has_sums = false;
      is_open = true;
      is_broken = false;
      is_clean = true;
    }

    rows : trees catalog_tree ≡ listed_from 0 wanted
    rows = catalog_rows size wanted _

    shaped : AreShaped v schema
    shaped = shaped_of v schema (subst (λ r. IsListed r (all_shapes wanted) (all_reals wanted)) (sym rows) (is_listed wanted)) (subst (IsShaped shape.Table) (sym rows) (listing_shaped 0 wanted)) (subst (λ (d : Trees). Lists (d catalog_tree) schema) is lists)

-- an opening of a connection that found what the files held leaves their rows
pub has_found : (image : Image) (old new : State) → AreFoundIn image old.committed.trees → ((db : Trees) → HoldsDatabase image db → old.committed.trees ≡ db) → IsDatabase old.now → old.now ≡ old.committed → IsTaken old new → HasFound image new
has_found image old new reads holds sound settled taken =
    let same : old.now.trees ≡ old.committed.trees = ap (λ (d : Database). d.trees) settled in
    record {
      trees = old.now.trees;
      schema = old.now.schema;
      reads = subst (AreFoundIn image) (sym same) reads;
      holds = λ db h. same ∙ holds db h;
      sound = sound;
      known = taken.known;
      made = taken.made;
      kept = taken.kept;
    }

-- a connection that was opened over what files held
pub opened_found : (image : Image) (s : State) → Opens s → IsLive s → AreFoundIn image s.committed.trees → Opens s × HasNumbers s.now
opened_found image s opens live reads =
    (opens, found_numbers image s.now.trees s.now.schema (subst (AreFoundIn image) (sym (ap (λ (d : Database). d.trees) opens.clean)) reads) (live opens.is_open).0.lists)

module _ {D : Type 0} {g : Ghosts D} where
  -- what an opening left that failed, over files
  pub left_over : (files : Files D) (l : Leftover D g) → (IsCleanLeft l → LeavesFiles files l) → IsLeftOf (image_of g files) (λ given. given ≡ files) (untaken.Refused l)
  left_over files l leaves clean = (files, refl, refl, leaves clean)

  -- and over files that held what a path is said to hold
  pub left_found : (image : Image) (Log Db : D → Type 0) (Fails : Files D → Leftover D g → Type 0) (o : Option (Leftover D g)) (r : Option (Untaken D g))
      → MatchOption o (r ≡ None) (λ l. r ≡ Some (untaken.Refused l))
      → ((files : Files D) → Log files.log → Db files.db → image_of g files ≡ image)
      → IfSome o (λ l. (files : Files D) × Log files.log × Db files.db × (IsCleanLeft l → Fails files l × LeavesFiles files l)) → IfSome r (IsLeftOf image (λ files. Log files.log × Db files.db))
  left_found image Log Db Fails None r is same h = subst (λ o. IfSome o (IsLeftOf image (λ files. Log files.log × Db files.db))) (sym is) tt
  left_found image Log Db Fails (Some l) r is same (files, log, db, leaves) =
      subst (λ o. IfSome o (IsLeftOf image (λ files. Log files.log × Db files.db))) (sym is) (λ clean. (files, same files log db, (log, db), (leaves clean).1))

  -- a connection that took no tables leaves what it found, or what tables that were to be made hold
  pub left_connected : (image : Image) (conn back : Held (FileStore D g)) → (HasCleanDisk (file_state conn) → Opens (file_state conn) × IsLive (file_state conn))
      → (HasCleanDisk (file_state conn) → AreFoundIn image (file_state conn).committed.trees) → LeavesFound (file_state conn) (file_state back) → LeavesRead image (file_state back)
  left_connected image conn back opened found leaves clean db may =
      let early = leaves.clean clean in
      let opens = opened early in
      let same : (file_state conn).now.trees ≡ (file_state conn).committed.trees = ap (λ (d : Database). d.trees) opens.0.clean in
      elim (leaves.finds clean db may) [
        | inl is ↦ inl (subst (AreFoundIn image) (sym is) (found early))
        | inr begun ↦ inr (record {
          trees = (file_state conn).now.trees;
          schema = (file_state conn).now.schema;
          reads = subst (AreFoundIn image) (sym same) (found early);
          sound = (opens.1 opens.0.is_open).0;
          begun = begun;
        })
      ]
