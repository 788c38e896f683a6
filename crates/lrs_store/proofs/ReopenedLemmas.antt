-- Files that are closed and opened again hold what they held.
use Rattle.std.proofs.Common.{◌≡◌, ◌⊎◌, inl, inr, Result, refl, sym, ap, subst, ◌∙◌, arith}
use Rattle.std.specs.Prelude.{IsTrue}
use Rattle.std.proofs.Math.Logic.{∥∥₁_elim}
use Rattle.sqlite_disk.specs.declared.Disk.{Ghosts}
use Rattle.sqlite_disk.specs.declared.Files.{Files}
use Rattle.sqlite_trees.specs.Objects.{catalog_tree}
use Rattle.sqlite_trees.specs.Props.{Trees-set}
use Rattle.sqlite_trees.specs.Tree.{Trees}
use Rattle.sqlite_catalog.specs.Listing.{Lists}
use Rattle.sqlite_catalog.proofs.ReadLemmas.{lists_once}
use Rattle.sqlite.specs.Closing.{IsCopied}
use Rattle.sqlite.specs.Files.{HoldsDatabase, file_state, image_of}
use Rattle.sqlite.specs.Held.{Held}
use Rattle.sqlite.specs.State.{HasCleanDisk, IsLive}
use Rattle.sqlite_store.specs.declared.store.FileStore.{FileStore}
use Rattle.sqlite_wal.specs.Files.{outcomes}
use Rattle.sqlite_wal.specs.Reads.{AreClean}
use Rattle.sqlite_wal.specs.Recovery as wal
use Rattle.lrs_machine.specs.declared.image.Image.{Image}
use Rattle.lrs_machine.specs.declared.table.Table.{Table}
use Rattle.lrs_store_tables.specs.Contents.Content.{content_of}
use Rattle.lrs_store_tables.specs.Contents.Tables.{Tables}
use Rattle.lrs_store_tables.specs.TableCreation.{first_rows}
use Rattle.lrs_store_tables.specs.Connections.{IsReady}
use Rattle.lrs_store_tables.specs.Schema.{inventory}
use Rattle.lrs_store_tables.specs.StoredRows.{stored}
use Rattle.lrs_store_tables.proofs.MakeLemmas.{all_made}
use Rattle.lrs_store_tables.specs.HeldRows.{MayHold}
use Rattle.lrs_store_files.specs.OpenedFiles.{HasOpened, IsContentOf}
use Rattle.lrs_store.specs.Reopenings.{MayBeFoundIn}
use Rattle.lrs_store.proofs.OpenedLemmas.{content_opened}

-- the first twelve tables are all
all_rows : (t : Tables) → first_rows 12 t ≡ t
all_rows t = refl

-- what an opening finds in files that hold the rows that were committed last might have been found before
module _ {D : Type 0} {g : Ghosts D} (old : Held (FileStore D g)) where
  content_held : (image : wal.Image) → ∥ HoldsDatabase image (file_state old).committed.trees ∥₁ → HasCleanDisk (file_state old) → IsTrue (file_state old).is_open
      → IsReady (file_state old) → IsLive (file_state old) → (file_state old).may_leave (file_state old).committed.trees → (c : Result Image Table) → IsContentOf image c → MayHold (file_state old) c
  content_held image holds clean is_open ready live left c found =
      let trees = (file_state old).committed.trees in
      let same : found.trees ≡ trees = ∥∥₁_elim holds (Trees-set _ _) (found.holds trees) in
      let rest = ready clean is_open in
      let schema : (file_state old).committed.schema ≡ inventory = ap (λ d. d.schema) (sym rest.settled) ∙ rest.schema in
      let all = lists_once (trees catalog_tree) found.schema (file_state old).committed.schema (subst (λ (t : Trees). Lists (t catalog_tree) found.schema) same found.sound.lists) (live is_open).1.lists in
      let only = found.kept 12 (omega arith) (omega arith) (all ∙ schema ∙ sym all_made) in
      let is : content_of (stored trees) ≡ c = sym (only ∙ ap content_of (all_rows (stored found.trees)) ∙ ap (λ (t : Trees). content_of (stored t)) same) in
      (clean, (trees, left, is))

  holds_trees : (files : Files D) (image : wal.Image) → IsCopied old files → (image ≡ image_of g files) ⊎ outcomes g files.log files.db image → ∥ HoldsDatabase image (file_state old).committed.trees ∥₁
  holds_trees files image copied (inl same) = subst (λ i. ∥ HoldsDatabase i (file_state old).committed.trees ∥₁) (sym same) copied.seen.both
  holds_trees files image copied (inr left) = (copied.left image left).both

  pub found_held : (files : Files D) → (AreClean g files.log files.db → IsCopied old files) → IsReady (file_state old) → IsLive (file_state old)
      → (IsTrue (file_state old).is_open → (file_state old).may_leave (file_state old).committed.trees) → (c : Result Image Table) → MayBeFoundIn g files c → MayHold (file_state old) c
  found_held files copies ready live left c found =
      let copied = copies found.clean in
      content_held found.image (holds_trees files found.image copied found.reads) copied.was_clean copied.was_open ready live (left copied.was_open) c found.content

module _ {D : Type 0} {g : Ghosts D} (old new : Held (FileStore D g)) (files : Files D) where
  -- the rows that were committed last are those that the opening found
  pub reopened : IsCopied old files → HasOpened (image_of g files) (file_state new) → IsReady (file_state old) → IsLive (file_state old)
      → (file_state old).may_leave (file_state old).committed.trees → (c : Result Image Table) → MayHold (file_state new) c → MayHold (file_state old) c
  reopened copied found ready live left c may =
      content_held old (image_of g files) copied.seen.both copied.was_clean copied.was_open ready live left c (content_opened (image_of g files) (file_state new) found c may)

  -- an open connection has one content
  pub one_content : ((db : Trees) → (file_state old).may_leave db → db ≡ (file_state old).committed.trees) → (c d : Result Image Table) → MayHold (file_state old) c → MayHold (file_state old) d → c ≡ d
  one_content settled c d one other = sym one.1.2 ∙ ap (λ (t : Trees). content_of (stored t)) (settled one.1.0 one.1.1 ∙ sym (settled other.1.0 other.1.1)) ∙ other.1.2
