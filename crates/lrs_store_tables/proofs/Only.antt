-- What a statement on one table makes of the rows of a store, where it spares the other tables.
use Rattle.std.proofs.Common.{◌≡◌, ◌≢◌, ℕ, ℤ, List, [], ◌∷◌, map, Bool, true, false, nat_eq, if◌then◌else◌, refl, sym, ap, subst, ◌∙◌}
use Rattle.std.specs.List.{AllByRecursion}
use Rattle.std.specs.List.Sorted.{IsPermutation}
use Rattle.std.proofs.lemmas.Bool.{false≢true, eq-eqb}
use Rattle.std.proofs.lemmas.List.Sorted.{IsPermutation-refl}
use Rattle.sqlite_value.specs.Order.{Row, column}
use Rattle.sqlite_trees.specs.Tree.{Trees}
use Rattle.sqlite_schema.specs.declared.schema.Table.{Table}
use Rattle.lrs_store_tables.specs.Contents.Tables.{Tables, AreSame, LinkRow, ClassRow, AssetRow, PieceRow, MarkRow, RefRow, SpanRow, EnteredRow, GoneRow, EditRow, OriginRow}
use Rattle.lrs_store_tables.specs.Schema.{inventory}
use Rattle.lrs_store_tables.specs.StoredRows as it
use Rattle.lrs_store_tables.specs.StoredRows.{stored}

-- each table but this one is as it was
abbrev pub SparesOthers : ℕ → Trees → Trees → Type 0
SparesOthers tree db next = AllByRecursion (λ (t : Table). t.tree ≢ tree → next t.tree ≡ db t.tree) inventory.tables

pub same_rows : {X : Type 0} {xs ys : List X} → xs ≡ ys → IsPermutation xs ys
same_rows {X} {xs} {ys} e = subst (IsPermutation xs) e (IsPermutation-refl xs)

-- ---- the same rows, where those of one table are others

pub same-version : {a b : Tables} {xs ys : List ℤ} → AreSame a b → IsPermutation xs ys → AreSame (record a { version = xs }) (record b { version = ys })
same-version h rows = record { version = rows; link = h.link; class = h.class; asset = h.asset; piece = h.piece; mark = h.mark; ref = h.ref; span = h.span; entered = h.entered; gone = h.gone; edit = h.edit; origin = h.origin }

pub same-link : {a b : Tables} {xs ys : List LinkRow} → AreSame a b → IsPermutation xs ys → AreSame (record a { link = xs }) (record b { link = ys })
same-link h rows = record { version = h.version; link = rows; class = h.class; asset = h.asset; piece = h.piece; mark = h.mark; ref = h.ref; span = h.span; entered = h.entered; gone = h.gone; edit = h.edit; origin = h.origin }

pub same-class : {a b : Tables} {xs ys : List ClassRow} → AreSame a b → IsPermutation xs ys → AreSame (record a { class = xs }) (record b { class = ys })
same-class h rows = record { version = h.version; link = h.link; class = rows; asset = h.asset; piece = h.piece; mark = h.mark; ref = h.ref; span = h.span; entered = h.entered; gone = h.gone; edit = h.edit; origin = h.origin }

pub same-asset : {a b : Tables} {xs ys : List AssetRow} → AreSame a b → IsPermutation xs ys → AreSame (record a { asset = xs }) (record b { asset = ys })
same-asset h rows = record { version = h.version; link = h.link; class = h.class; asset = rows; piece = h.piece; mark = h.mark; ref = h.ref; span = h.span; entered = h.entered; gone = h.gone; edit = h.edit; origin = h.origin }

pub same-piece : {a b : Tables} {xs ys : List PieceRow} → AreSame a b → IsPermutation xs ys → AreSame (record a { piece = xs }) (record b { piece = ys })
same-piece h rows = record { version = h.version; link = h.link; class = h.class; asset = h.asset; piece = rows; mark = h.mark; ref = h.ref; span = h.span; entered = h.entered; gone = h.gone; edit = h.edit; origin = h.origin }

pub same-mark : {a b : Tables} {xs ys : List MarkRow} → AreSame a b → IsPermutation xs ys → AreSame (record a { mark = xs }) (record b { mark = ys })
same-mark h rows = record { version = h.version; link = h.link; class = h.class; asset = h.asset; piece = h.piece; mark = rows; ref = h.ref; span = h.span; entered = h.entered; gone = h.gone; edit = h.edit; origin = h.origin }

pub same-ref : {a b : Tables} {xs ys : List RefRow} → AreSame a b → IsPermutation xs ys → AreSame (record a { ref = xs }) (record b { ref = ys })
same-ref h rows = record { version = h.version; link = h.link; class = h.class; asset = h.asset; piece = h.piece; mark = h.mark; ref = rows; span = h.span; entered = h.entered; gone = h.gone; edit = h.edit; origin = h.origin }

pub same-span : {a b : Tables} {xs ys : List SpanRow} → AreSame a b → IsPermutation xs ys → AreSame (record a { span = xs }) (record b { span = ys })
same-span h rows = record { version = h.version; link = h.link; class = h.class; asset = h.asset; piece = h.piece; mark = h.mark; ref = h.ref; span = rows; entered = h.entered; gone = h.gone; edit = h.edit; origin = h.origin }

pub same-entered : {a b : Tables} {xs ys : List EnteredRow} → AreSame a b → IsPermutation xs ys → AreSame (record a { entered = xs }) (record b { entered = ys })
same-entered h rows = record { version = h.version; link = h.link; class = h.class; asset = h.asset; piece = h.piece; mark = h.mark; ref = h.ref; span = h.span; entered = rows; gone = h.gone; edit = h.edit; origin = h.origin }

pub same-gone : {a b : Tables} {xs ys : List GoneRow} → AreSame a b → IsPermutation xs ys → AreSame (record a { gone = xs }) (record b { gone = ys })
same-gone h rows = record { version = h.version; link = h.link; class = h.class; asset = h.asset; piece = h.piece; mark = h.mark; ref = h.ref; span = h.span; entered = h.entered; gone = rows; edit = h.edit; origin = h.origin }

pub same-edit : {a b : Tables} {xs ys : List EditRow} → AreSame a b → IsPermutation xs ys → AreSame (record a { edit = xs }) (record b { edit = ys })
same-edit h rows = record { version = h.version; link = h.link; class = h.class; asset = h.asset; piece = h.piece; mark = h.mark; ref = h.ref; span = h.span; entered = h.entered; gone = h.gone; edit = rows; origin = h.origin }

pub same-origin : {a b : Tables} {xs ys : List OriginRow} → AreSame a b → IsPermutation xs ys → AreSame (record a { origin = xs }) (record b { origin = ys })
same-origin h rows = record { version = h.version; link = h.link; class = h.class; asset = h.asset; piece = h.piece; mark = h.mark; ref = h.ref; span = h.span; entered = h.entered; gone = h.gone; edit = h.edit; origin = rows }

-- ---- all tables but one

kept : {X : Type 0} (said : Row → X) (places : List ℕ) (xs ys : List Row) → ys ≡ xs → IsPermutation (map said (map (λ r. map (column r) places) xs)) (map said (map (λ r. map (column r) places) ys))
kept said places xs ys e = same_rows (ap (λ rows. map said (map (λ r. map (column r) places) rows)) (sym e))

all_kept : (db next : Trees) → AllByRecursion (λ (t : Table). next t.tree ≡ db t.tree) inventory.tables → AreSame (stored db) (stored next)
all_kept db next same = record {
  version = kept it.version_in it.version_places (db 0) (next 0) same.0;
  link = kept it.link_in it.link_places (db 1) (next 1) same.1.0;
  class = kept it.class_in it.class_places (db 2) (next 2) same.1.1.0;
  asset = kept it.asset_in it.asset_places (db 4) (next 4) same.1.1.1.0;
  piece = kept it.piece_in it.piece_places (db 5) (next 5) same.1.1.1.1.0;
  mark = kept it.mark_in it.mark_places (db 7) (next 7) same.1.1.1.1.1.0;
  ref = kept it.ref_in it.ref_places (db 9) (next 9) same.1.1.1.1.1.1.0;
  span = kept it.span_in it.span_places (db 11) (next 11) same.1.1.1.1.1.1.1.0;
  entered = kept it.entered_in it.entered_places (db 13) (next 13) same.1.1.1.1.1.1.1.1.0;
  gone = kept it.gone_in it.gone_places (db 15) (next 15) same.1.1.1.1.1.1.1.1.1.0;
  edit = kept it.edit_in it.edit_places (db 17) (next 17) same.1.1.1.1.1.1.1.1.1.1.0;
  origin = kept it.origin_in it.origin_places (db 19) (next 19) same.1.1.1.1.1.1.1.1.1.1.1.0;
}

-- the other tables, with this one as it was
abbrev with_old : ℕ → Trees → Trees → Trees
with_old tree db next n = if nat_eq n tree then db n else next n

old_kept : (tree : ℕ) (db next : Trees) (ts : List Table) → AllByRecursion (λ (t : Table). t.tree ≢ tree → next t.tree ≡ db t.tree) ts → AllByRecursion (λ (t : Table). with_old tree db next t.tree ≡ db t.tree) ts
old_kept tree db next [] others = tt
old_kept tree db next (t ∷ ts) others = (by (nat_eq t.tree tree) refl, old_kept tree db next ts others.1)
  where
    by : (same : Bool) → nat_eq t.tree tree ≡ same → (if same then db t.tree else next t.tree) ≡ db t.tree
    by true is = refl
    by false is = others.0 (λ e. false≢true (sym is ∙ eq-eqb t.tree tree e))

others_kept : (tree : ℕ) (db next : Trees) → SparesOthers tree db next → AreSame (stored db) (stored (with_old tree db next))
others_kept tree db next others = all_kept db (with_old tree db next) (old_kept tree db next inventory.tables others)

pub only_version : (db next : Trees) → SparesOthers 0 db next → (made : List ℤ → List ℤ) → IsPermutation (made (stored db).version) (stored next).version → AreSame (record (stored db) { version = made (stored db).version }) (stored next)
only_version db next others made rows = same-version (others_kept 0 db next others) rows

pub only_link : (db next : Trees) → SparesOthers 1 db next → (made : List LinkRow → List LinkRow) → IsPermutation (made (stored db).link) (stored next).link → AreSame (record (stored db) { link = made (stored db).link }) (stored next)
only_link db next others made rows = same-link (others_kept 1 db next others) rows

pub only_class : (db next : Trees) → SparesOthers 2 db next → (made : List ClassRow → List ClassRow) → IsPermutation (made (stored db).class) (stored next).class → AreSame (record (stored db) { class = made (stored db).class }) (stored next)
only_class db next others made rows = same-class (others_kept 2 db next others) rows

pub only_asset : (db next : Trees) → SparesOthers 4 db next → (made : List AssetRow → List AssetRow) → IsPermutation (made (stored db).asset) (stored next).asset → AreSame (record (stored db) { asset = made (stored db).asset }) (stored next)
only_asset db next others made rows = same-asset (others_kept 4 db next others) rows

pub only_piece : (db next : Trees) → SparesOthers 5 db next → (made : List PieceRow → List PieceRow) → IsPermutation (made (stored db).piece) (stored next).piece → AreSame (record (stored db) { piece = made (stored db).piece }) (stored next)
only_piece db next others made rows = same-piece (others_kept 5 db next others) rows

pub only_mark : (db next : Trees) → SparesOthers 7 db next → (made : List MarkRow → List MarkRow) → IsPermutation (made (stored db).mark) (stored next).mark → AreSame (record (stored db) { mark = made (stored db).mark }) (stored next)
only_mark db next others made rows = same-mark (others_kept 7 db next others) rows

pub only_ref : (db next : Trees) → SparesOthers 9 db next → (made : List RefRow → List RefRow) → IsPermutation (made (stored db).ref) (stored next).ref → AreSame (record (stored db) { ref = made (stored db).ref }) (stored next)
only_ref db next others made rows = same-ref (others_kept 9 db next others) rows

pub only_span : (db next : Trees) → SparesOthers 11 db next → (made : List SpanRow → List SpanRow) → IsPermutation (made (stored db).span) (stored next).span → AreSame (record (stored db) { span = made (stored db).span }) (stored next)
only_span db next others made rows = same-span (others_kept 11 db next others) rows

pub only_entered : (db next : Trees) → SparesOthers 13 db next → (made : List EnteredRow → List EnteredRow) → IsPermutation (made (stored db).entered) (stored next).entered → AreSame (record (stored db) { entered = made (stored db).entered }) (stored next)
only_entered db next others made rows = same-entered (others_kept 13 db next others) rows

pub only_gone : (db next : Trees) → SparesOthers 15 db next → (made : List GoneRow → List GoneRow) → IsPermutation (made (stored db).gone) (stored next).gone → AreSame (record (stored db) { gone = made (stored db).gone }) (stored next)
only_gone db next others made rows = same-gone (others_kept 15 db next others) rows

pub only_edit : (db next : Trees) → SparesOthers 17 db next → (made : List EditRow → List EditRow) → IsPermutation (made (stored db).edit) (stored next).edit → AreSame (record (stored db) { edit = made (stored db).edit }) (stored next)
only_edit db next others made rows = same-edit (others_kept 17 db next others) rows

pub only_origin : (db next : Trees) → SparesOthers 19 db next → (made : List OriginRow → List OriginRow) → IsPermutation (made (stored db).origin) (stored next).origin → AreSame (record (stored db) { origin = made (stored db).origin }) (stored next)
only_origin db next others made rows = same-origin (others_kept 19 db next others) rows
