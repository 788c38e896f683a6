-- A store that was just made holds the image without entries, and nothing else.
use Rattle.std.proofs.Common.{pos, refl, sym, subst, ◌∙◌}
use Rattle.sqlite_trees.specs.declared.store.Store.{Ghosts}
use Rattle.sqlite_trees.specs.Tree.{Trees}
use Rattle.sqlite.specs.Held.{Held, state}
use Rattle.lrs_machine.specs.Image.{nothing}
use Rattle.lrs_image.specs.KeeperCalls.{HoldsOnly}
use Rattle.lrs_store_tables.specs.Contents.Tables.{Tables, AreSame}
use Rattle.lrs_store_tables.specs.Contents.Content.{content_of}
use Rattle.lrs_store_tables.proofs.Contents.Stored.{content_is_of_rows}
use Rattle.lrs_store_tables.specs.StoredRows.{stored}
use Rattle.lrs_store_tables.specs.NewStores.{new_rows, NewRowsHoldNothing, IsNew}
use Rattle.lrs_store_tables.specs.HeldRows.{MayHold}
use Rattle.lrs_store.specs.TableKeeper.HeldImages.{AreRowsOf, HasEdits}
use Rattle.lrs_store.specs.TableKeeper.Openings.{IsSecond}
use Rattle.lrs_store.proofs.TableKeeper.Next.{alone_again}
use Rattle.lrs_store.proofs.TableKeeper.ReadLemmas.{IsSettled}

hold_nothing : NewRowsHoldNothing
unfolding content_of
hold_nothing = refl

rows_of_nothing : (t : Tables) → AreSame new_rows t → AreRowsOf nothing t
rows_of_nothing t same = record {
  version = alone_again (pos 2) t.version same.version;
  holds = sym (content_is_of_rows new_rows t same) ∙ hold_nothing;
}

module _ {S : Type 0} (g : Ghosts S) (settled : IsSettled g) (h : Held S) (new : IsNew (state g h)) where
  rows_left : (db : Trees) → (state g h).may_leave db → AreRowsOf nothing (stored db)
  rows_left db left = rows_of_nothing (stored db) (subst (λ (d : Trees). AreSame new_rows (stored d)) (sym (settled h.store db new.is_open left)) new.rows)

  pub no_edits : HasEdits 0 (state g h)
  no_edits clean db left = record { image = nothing; rows = rows_left db left; edits = refl }

  pub new_second : IsSecond (state g h)
  new_second clean db left = (rows_left db left).version

  pub holds_nothing : HoldsOnly (MayHold (state g h)) nothing
  holds_nothing c found = sym found.1.2 ∙ (rows_left found.1.0 found.1.1).holds
