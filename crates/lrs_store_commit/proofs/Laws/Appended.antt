-- What is inserted besides routes: a link, a class, an asset, rows of the ledgers, and the edit.
use Rattle.std.proofs.Common.{◌+◌, Bool, List, [], ◌∷◌, ◌++◌, map, length, sym, subst, arith, IsPermutation}
use Rattle.std.specs.Prelude.{Option, Some, None}
use Rattle.std.proofs.lemmas.List.{map-append}
use Rattle.std.proofs.lemmas.List.Sorted.{IsPermutation-sym, IsPermutation-map, IsPermutation-append_comm}
use Rattle.lrs_measure.specs.OrderedLists.{insert_by, insert_some}
use Rattle.lrs_element.specs.declared.link.Link.{Link}
use Rattle.lrs_events.specs.declared.class.Class.{Class}
use Rattle.lrs_events.specs.declared.class.Asset.{Asset}
use Rattle.lrs_events.proofs.LaneLists.Inserted.{IsPermutation-insert_by}
use Rattle.lrs_machine.specs.declared.image.Edit.{Edit}
use Rattle.lrs_machine.specs.declared.image.Image.{Image}
use Rattle.lrs_machine.specs.Sound.{link_before, class_before, asset_before}
use Rattle.lrs_image.specs.declared.change.Difference.{Difference}
use Rattle.lrs_image.specs.Change as change
use Rattle.lrs_store_tables.specs.Contents.Tables.{Tables}
use Rattle.lrs_store_tables.specs.Contents.Laws.{origin_row}
use Rattle.lrs_store_tables.specs.Contents.Encoders.{link_row, class_row, asset_row, entered_row, gone_row, edit_row, numbered}
use Rattle.lrs_store_tables.specs.Contents.EncodedImages.{encoded, Encodes}
use Rattle.lrs_store_tables.specs.RowChanges.{with_link, with_class, with_asset, with_edit}
use Rattle.lrs_store_tables.specs.Writes.{with_some, with_named, with_ledgers}
use Rattle.lrs_store_tables.specs.RowLaws.{same_refl}
use Rattle.lrs_store_tables.proofs.Steady.{steady-with_link, steady-with_class, steady-with_asset, steady-with_ledgers, steady-with_edit}
use Rattle.lrs_store_commit.proofs.Laws.Lists.{numbered_last}
use Rattle.lrs_store_commit.proofs.Laws.Tabled.{encodes_by}

inserted : {X Row : Type 0} (row : X → Row) (before : X → X → Bool) (x : X) (xs : List X) → IsPermutation (map row (insert_by before x xs)) (row x ∷ map row xs)
inserted row before x xs = IsPermutation-map row (insert_by before x xs) (x ∷ xs) (IsPermutation-sym _ _ (IsPermutation-insert_by before x xs))

behind : {X Row : Type 0} (row : X → Row) (xs ys : List X) → IsPermutation (map row (xs ++ ys)) (map row ys ++ map row xs)
behind row xs ys = subst (λ l. IsPermutation l (map row ys ++ map row xs)) (sym (map-append row xs ys)) (IsPermutation-append_comm (map row xs) (map row ys))

abbrev linked : Option Link → Image → Image
linked link i = record i { links = insert_some link_before link i.links }

puts_link : (link : Option Link) (i : Image) (t : Tables) → Encodes i t → Encodes (linked link i) (with_some with_link link t)
puts_link None i t e = e
puts_link (Some l) i t e =
    let rows = same_refl (with_link l (encoded e.pieces i)) in
    encodes_by (with_link l) (steady-with_link l) i (linked (Some l) i) t e e.pieces e.are
    (record { version = rows.version; link = inserted link_row link_before l i.links; class = rows.class; asset = rows.asset; piece = rows.piece; mark = rows.mark; ref = rows.ref; span = rows.span; entered = rows.entered; gone = rows.gone; edit = rows.edit; origin = rows.origin })

abbrev classed : Option Class → Image → Image
classed class i = record i { classes = insert_some class_before class i.classes }

puts_class : (class : Option Class) (i : Image) (t : Tables) → Encodes i t → Encodes (classed class i) (with_some with_class class t)
puts_class None i t e = e
puts_class (Some c) i t e =
    let rows = same_refl (with_class c (encoded e.pieces i)) in
    encodes_by (with_class c) (steady-with_class c) i (classed (Some c) i) t e e.pieces e.are
    (record { version = rows.version; link = rows.link; class = inserted class_row class_before c i.classes; asset = rows.asset; piece = rows.piece; mark = rows.mark; ref = rows.ref; span = rows.span; entered = rows.entered; gone = rows.gone; edit = rows.edit; origin = rows.origin })

abbrev owned : Option Asset → Image → Image
owned asset i = record i { assets = insert_some asset_before asset i.assets }

puts_asset : (asset : Option Asset) (i : Image) (t : Tables) → Encodes i t → Encodes (owned asset i) (with_some with_asset asset t)
puts_asset None i t e = e
puts_asset (Some a) i t e =
    let rows = same_refl (with_asset a (encoded e.pieces i)) in
    encodes_by (with_asset a) (steady-with_asset a) i (owned (Some a) i) t e e.pieces e.are
    (record { version = rows.version; link = rows.link; class = rows.class; asset = inserted asset_row asset_before a i.assets; piece = rows.piece; mark = rows.mark; ref = rows.ref; span = rows.span; entered = rows.entered; gone = rows.gone; edit = rows.edit; origin = inserted origin_row asset_before a i.assets })

-- the image with the link, the class and the asset that come
abbrev pub named : Difference → Image → Image
named d i = owned d.asset (classed d.class (linked d.link i))

pub puts_named : (d : Difference) (i : Image) (t : Tables) → Encodes i t → Encodes (named d i) (with_named d t)
puts_named d i t e = puts_asset d.asset _ _ (puts_class d.class _ _ (puts_link d.link i t e))

-- the image with longer ledgers
abbrev pub entered : Difference → Image → Image
entered d i = record i { entered = i.entered ++ d.entered; gone = i.gone ++ d.gone }

pub puts_ledgers : (d : Difference) (i : Image) (t : Tables) → Encodes i t → Encodes (entered d i) (with_ledgers d t)
puts_ledgers d i t e =
    let rows = same_refl (with_ledgers d (encoded e.pieces i)) in
    encodes_by (with_ledgers d) (steady-with_ledgers d) i (entered d i) t e e.pieces e.are
    (record { version = rows.version; link = rows.link; class = rows.class; asset = rows.asset; piece = rows.piece; mark = rows.mark; ref = rows.ref; span = rows.span; entered = behind entered_row i.entered d.entered; gone = behind gone_row i.gone d.gone; edit = rows.edit; origin = rows.origin })

next_edit : (edit : Edit) (edits : List Edit) → IsPermutation (numbered edit_row 1 (edits ++ edit ∷ [])) (edit_row (length edits + 1) edit ∷ numbered edit_row 1 edits)
next_edit edit edits =
    subst (λ l. IsPermutation l (edit_row (length edits + 1) edit ∷ numbered edit_row 1 edits)) (sym (numbered_last edit_row 1 (length edits + 1) edits edit (omega arith)))
    (IsPermutation-append_comm (numbered edit_row 1 edits) (edit_row (length edits + 1) edit ∷ []))

pub puts_edit : (edit : Edit) (i : Image) (t : Tables) → Encodes i t → Encodes (change.with_edit edit i) (with_edit (length i.edits + 1) edit t)
puts_edit edit i t e =
    let rows = same_refl (with_edit (length i.edits + 1) edit (encoded e.pieces i)) in
    encodes_by (with_edit (length i.edits + 1) edit) (steady-with_edit (length i.edits + 1) edit) i (change.with_edit edit i) t e e.pieces e.are
    (record { version = rows.version; link = rows.link; class = rows.class; asset = rows.asset; piece = rows.piece; mark = rows.mark; ref = rows.ref; span = rows.span; entered = rows.entered; gone = rows.gone; edit = next_edit edit i.edits; origin = rows.origin })
