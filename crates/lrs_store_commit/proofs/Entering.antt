-- Entries that are put table by table are written one after the other, but for the order of their rows.
use Rattle.std.proofs.Common.{ℕ, ◌+◌, ◌<◌, List, [], ◌∷◌, ◌++◌, length, None, refl, sym, subst, arith}
use Rattle.std.specs.List.{AllByRecursion, flat_map}
use Rattle.std.proofs.lemmas.List.Sorted.{IsPermutation-refl, IsPermutation-cons}
use Rattle.lrs_measure.specs.Texts.{Name}
use Rattle.lrs_events.specs.declared.class.Asset.{Asset}
use Rattle.lrs_events.specs.declared.span.Span.{Span}
use Rattle.lrs_events.specs.declared.part.Part.{Part}
use Rattle.lrs_machine.specs.declared.image.Edit.{Edit}
use Rattle.lrs_image.specs.declared.change.Difference.{Difference}
use Rattle.lrs_image.specs.declared.change.Change.{Change}
use Rattle.lrs_image.specs.Change.{no_keys}
use Rattle.lrs_store_tables.specs.Contents.Tables.{Tables, AreSame}
use Rattle.lrs_store_tables.specs.Contents.Encoders.{span_row, edit_row, numbered}
use Rattle.lrs_store_tables.specs.RowLaws.{same_refl, same_trans, none_less}
use Rattle.lrs_store_tables.specs.RowChanges.{with_asset, with_entered, with_gone, with_edit, renamed_route}
use Rattle.lrs_store_tables.specs.Writes.{changed_refs, changed_spans, written, IsWritten, AreWritten}
use Rattle.lrs_store_commit.specs.NewAssets.{IsNewAsset, with_one_span, entered_with, asset_rows, origin_rows, span_rows, entered_rows, with_new_assets}
use Rattle.lrs_store_commit.proofs.EntryRows.{between}
use Rattle.lrs_store_commit.proofs.SameName.{renamed_itself}
use Rattle.lrs_store_tables.proofs.Steady.{steady-with_entered, steady-with_gone, steady-with_edit}

-- the rows after an entry
abbrev with_entry : ℕ → Change → Tables → Tables
with_entry n c t = record t {
  asset = asset_rows c ++ t.asset;
  origin = origin_rows c ++ t.origin;
  span = span_rows c ++ t.span;
  entered = entered_rows c ++ t.entered;
  edit = edit_row n c.edit ∷ t.edit;
}

-- and after several, one after the other
abbrev with_each : ℕ → List Change → Tables → Tables
with_each n [] t = t
with_each n (c ∷ cs) t = with_each (n + 1) cs (with_entry n c t)

-- ---- an entry

module _ (e : Edit) (a : Asset) (route : Name) (s : Span) (ps : List Part) where
  abbrev its : Change
  its = record { edit = e; difference = entered_with a route s ps }

  -- before the route gets its name, which is its old one
  abbrev unnamed : Tables → Tables
  unnamed t = changed_spans (with_one_span route s) (changed_refs route (record { gone = []; come = [] }) (with_asset a t))

  abbrev rest : ℕ → Tables → Tables
  rest n t = with_edit n e (with_gone [] (with_entered ps t))

  settled : (n : ℕ) (t : Tables) → AreSame (rest n (unnamed t)) (with_entry n its t)
  settled n t = record {
    version = IsPermutation-refl t.version;
    link = IsPermutation-refl t.link;
    class = IsPermutation-refl t.class;
    asset = IsPermutation-refl (asset_rows its ++ t.asset);
    piece = IsPermutation-refl t.piece;
    mark = IsPermutation-refl t.mark;
    ref = none_less t.ref;
    span = IsPermutation-cons (span_row route s) _ _ (none_less t.span);
    entered = IsPermutation-refl (entered_rows its ++ t.entered);
    gone = IsPermutation-refl t.gone;
    edit = IsPermutation-refl (edit_row n e ∷ t.edit);
    origin = IsPermutation-refl (origin_rows its ++ t.origin);
  }

  its_rows : (n : ℕ) (t : Tables) → AreSame (written n its None None t) (with_entry n its t)
  its_rows n t =
      let named : AreSame (renamed_route route route no_keys (unnamed t)) (unnamed t) = renamed_itself route no_keys (unnamed t) in
      same_trans _ (rest n (unnamed t)) _ (steady-with_edit n e _ _ (steady-with_gone [] _ _ (steady-with_entered ps _ _ named))) (settled n t)

  its_written : (n : ℕ) (before after : Tables) → AreSame (with_entry n its before) after → IsWritten n its before after
  its_written n before after h = record { changed = None; changed_are = tt; made = None; made_are = tt; rows = same_trans _ (with_entry n its before) _ (its_rows n before) h }

is_written : (n : ℕ) (c : Change) (before after : Tables) → IsNewAsset c → AreSame (with_entry n c before) after → IsWritten n c before after
is_written n c before after h =
    subst (λ (d : Difference). AreSame (with_entry n (record { edit = c.edit; difference = d }) before) after → IsWritten n (record { edit = c.edit; difference = d }) before after) (sym h.is)
    (its_written c.edit h.asset h.route h.span (h.first ∷ h.others) n before after)

-- ---- several

each_written : (n : ℕ) (cs : List Change) (before after : Tables) → 0 < length cs → AllByRecursion IsNewAsset cs → AreSame (with_each n cs before) after → AreWritten n cs before after
each_written n [] before after some all h = absurd (omega (arith, some))
each_written n (c ∷ []) before after some all h = (after, is_written n c before after all.0 h, refl)
each_written n (c ∷ d ∷ cs) before after some all h =
    let middle = with_entry n c before in (middle, is_written n c before middle all.0 (same_refl middle), each_written (n + 1) (d ∷ cs) middle after (omega arith) all.1 h)

-- a table gets the rows of one, and then those of the others
one_first : (n : ℕ) (c : Change) (cs : List Change) (t : Tables) → AreSame (with_new_assets (n + 1) cs (with_entry n c t)) (with_new_assets n (c ∷ cs) t)
one_first n c cs t = record {
  version = IsPermutation-refl t.version;
  link = IsPermutation-refl t.link;
  class = IsPermutation-refl t.class;
  asset = between (flat_map asset_rows cs) (asset_rows c) t.asset;
  piece = IsPermutation-refl t.piece;
  mark = IsPermutation-refl t.mark;
  ref = IsPermutation-refl t.ref;
  span = between (flat_map span_rows cs) (span_rows c) t.span;
  entered = between (flat_map entered_rows cs) (entered_rows c) t.entered;
  gone = IsPermutation-refl t.gone;
  edit = between (numbered (λ k (x : Change). edit_row k x.edit) (n + 1) cs) (edit_row n c.edit ∷ []) t.edit;
  origin = between (flat_map origin_rows cs) (origin_rows c) t.origin;
}

each_together : (n : ℕ) (cs : List Change) (t : Tables) → AreSame (with_each n cs t) (with_new_assets n cs t)
each_together n [] t = same_refl t
each_together n (c ∷ cs) t = same_trans _ (with_new_assets (n + 1) cs (with_entry n c t)) _ (each_together (n + 1) cs (with_entry n c t)) (one_first n c cs t)

-- Entries that are put table by table are written.
pub entries_written : (n : ℕ) (cs : List Change) (before after : Tables) → 0 < length cs → AllByRecursion IsNewAsset cs → AreSame (with_new_assets n cs before) after → AreWritten n cs before after
entries_written n cs before after some all h = each_written n cs before after some all (same_trans _ (with_new_assets n cs before) _ (each_together n cs before) h)
