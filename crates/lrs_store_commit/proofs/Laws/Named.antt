-- Each text of an image that a store holds is of its kind.
use Rattle.std.proofs.Common.{◌≡◌, ℕ, Bool, true, false, cond, inl, inr, List, [], ◌∷◌, Option, Some, Ok, Err, refl, sym, subst, ◌∙◌}
use Rattle.std.specs.Prelude.{◌&&◌, Result}
use Rattle.std.specs.List.{list_all, list_any}
use Rattle.std.specs.Str.{is_utf8}
use Rattle.std.proofs.lemmas.Bool.{and_parts}
use Rattle.lrs_measure.specs.OrderedLists.{insert_by}
use Rattle.lrs_measure.specs.Texts.{Name, same_name, name_before}
use Rattle.lrs_measure.specs.Lists.{In}
use Rattle.lrs_measure.proofs.Members.{In-map, map_found, all_of}
use Rattle.lrs_position.specs.declared.route.Referent.{Referent}
use Rattle.lrs_position.specs.Names.{is_route_name, is_referent_name}
use Rattle.lrs_events.specs.declared.class.Class.{Class}
use Rattle.lrs_events.specs.declared.class.Asset.{Asset}
use Rattle.lrs_events.specs.Names.{is_class_name, is_value}
use Rattle.lrs_machine.specs.declared.image.RouteRow.{RouteRow}
use Rattle.lrs_machine.specs.declared.image.Edit.{Edit}
use Rattle.lrs_machine.specs.declared.image.Image.{Image}
use Rattle.lrs_machine.specs.declared.table.Table.{Table}
use Rattle.lrs_machine.specs.declared.table.Table.TheVariants as table
use Rattle.lrs_machine.specs.Image.{nothing}
use Rattle.lrs_machine.specs.Keys.{is_key}
use Rattle.lrs_machine.specs.Sound.{asset_before, class_before, are_origins}
use Rattle.lrs_store_tables.specs.Contents.Tables.{Tables, ClassRow, AssetRow, RefRow, EditRow}
use Rattle.lrs_store_tables.specs.Contents.Decoders.{only_if, whole, short, each_of, each_sorted, sorted, OfRoute, said_of, Numbered, number_before, counted, kind_numbered, is_forward_numbered, class_of, asset_of, piece_of, referent_of, edit_of, origin_of}
use Rattle.lrs_store_tables.specs.Contents.Decoders as option
use Rattle.lrs_store_tables.specs.Contents.Content.{read, with_name, routes_named, referent_before, with_edit, inventory_of, version_of, origin_before, has_origins, has_no_rows, image_of, content_of}
use Rattle.lrs_store_tables.specs.Contents.Content as content
use Rattle.lrs_store_commit.specs.Laws.ImageLaws.{HasTexts, ContentHasTexts}
use Rattle.lrs_store_commit.proofs.Laws.Decoded.{some_is, bind_some, only_some, says_piece, each_member}
use Rattle.lrs_store_commit.proofs.Laws.Grouped.{In-insert, In-sorted, counted_member, said_member}
use Rattle.lrs_store_commit.proofs.Laws.Held.{was_read, IsRead, is_read, ok_is, are_known, piece_read, ref_read, is_measured, has_own, to_courses, course_names, name_of}

-- ---- what a row needs to say something

class_named : (r : ClassRow) (c : Class) → class_of r ≡ Some c → is_class_name c.name ≡ true
class_named r c h =
    let kind = bind_some (option.◌>>=◌ (whole r.kind) kind_numbered) _ c h in
    let made = only_some (is_class_name r.name) _ c kind.2 in
    subst (λ (c : Class). is_class_name c.name ≡ true) made.1 made.0

value_known : (r : AssetRow) (a : Asset) → asset_of r ≡ Some a → is_value a.value ≡ true
value_known r a h =
    let number = bind_some (whole r.number) _ a h in
    let lateral = bind_some (short r.lateral) _ a number.2 in
    let made = only_some (is_class_name r.class && is_value r.value) _ a lateral.2 in
    subst (λ (a : Asset). is_value a.value ≡ true) made.1 (and_parts (is_class_name r.class) (is_value r.value) made.0).1

referent_named : (r : RefRow) (s : OfRoute Referent) → referent_of r ≡ Some s → is_referent_name s.said.name ≡ true
referent_named r s h =
    let at = bind_some (whole r.place) _ s h in
    let made = only_some (is_referent_name r.name) _ s at.2 in
    subst (λ (s : OfRoute Referent). is_referent_name s.said.name ≡ true) made.1 made.0

edit_texts : (r : EditRow) (e : Numbered Edit) → edit_of r ≡ Some e → (is_key e.said.key && is_utf8 e.said.line) ≡ true
edit_texts r e h =
    let number = bind_some (whole r.number) _ e h in
    let made = only_some (is_key r.token && is_utf8 r.line) _ e number.2 in
    subst (λ (e : Numbered Edit). (is_key e.said.key && is_utf8 e.said.line) ≡ true) made.1 made.0

-- ---- where what is kept was said

-- what is in order stands in a row
row_of : {Row X : Type 0} (before : X → X → Bool) (decoded : Row → Option X) (rows : List Row) (xs : List X) (x : X) → each_sorted before decoded rows ≡ Some xs → In x xs → (r : Row) × In r rows × (decoded r ≡ Some x)
row_of before decoded rows xs x h m =
    let said = bind_some (each_of decoded rows) _ xs h in
    each_member decoded rows said.0 x said.1 (In-sorted before x said.0 (subst (In x) (sym (some_is (sorted before said.0) xs said.2)) m))

-- a route that is named has a row
with_name_member : (n m : Name) (names : List Name) → In n (with_name m names) → In n (m ∷ names)
with_name_member n m names k =
    elim (list_any (same_name m) names) as (λ b. In n (cond b names (insert_by name_before m names)) → In n (m ∷ names)) [
      | true ↦ λ k. inr k
      | false ↦ λ k. In-insert name_before n m names k
    ] k

named_member : {X : Type 0} (n : Name) (said : List (OfRoute X)) → In n (routes_named said) → (r : OfRoute X) × In r said × (r.route ≡ n)
named_member n [] m = absurd m
named_member n (r ∷ said) m = by (with_name_member n r.route (routes_named said) m) (named_member n said)
  where
    by : In n (r.route ∷ routes_named said) → (In n (routes_named said) → (s : OfRoute _) × In s said × (s.route ≡ n)) → (s : OfRoute _) × In s (r ∷ said) × (s.route ≡ n)
    by (inl e) later = (r, inl refl, sym e)
    by (inr k) later = let found = later k in (found.0, inr found.1, found.2)

-- ---- the image

module _ (t : Tables) (i : Image) (r : IsRead t i) where
  value_of : (a : Asset) → In a i.assets → is_value a.value ≡ true
  value_of a m =
      let bare = map_found (with_edit i.entered) a r.assets_read (subst (In a) r.with_edits m) in
      let row = row_of asset_before asset_of t.asset r.assets_read bare.0 r.asset bare.1 in
      subst (λ (a : Asset). is_value a.value ≡ true) (sym bare.2) (value_known row.0 bare.0 row.2)

  route_of : (e : RouteRow) → In e i.routes → is_route_name e.route.name ≡ true
  route_of e m =
      let s = named_member e.route.name (piece_read t i r).0 (subst (In e.route.name) (to_courses t i r ∙ course_names t i r) (In-map name_of e i.routes m)) in
      let row = each_member piece_of t.piece (piece_read t i r).0 s.0 (piece_read t i r).1 s.1 in
      subst (λ n. is_route_name n ≡ true) s.2 (says_piece row.0 s.0 row.2).named

  referents_of_entry : (e : RouteRow) → In e i.routes → (x : Referent) → In x e.route.refs → is_referent_name x.name ≡ true
  referents_of_entry e m x k =
      let said = (ref_read t i r).0 in
      let known = are_known referent_of (is_measured t i r) t.ref said (ref_read t i r).1 in
      let s = said_member e.route.name said x (In-sorted referent_before x (said_of e.route.name said) (subst (In x) (has_own t i r e m).refs k)) in
      let row = each_member referent_of t.ref said s.0 known.each s.1 in
      subst (λ (x : Referent). is_referent_name x.name ≡ true) s.2 (referent_named row.0 s.0 row.2)

  texts_of_edit : (e : Edit) → In e i.edits → (is_key e.key && is_utf8 e.line) ≡ true
  texts_of_edit e m =
      let in_order = bind_some (each_sorted number_before edit_of t.edit) _ i.edits r.edit in
      let s = counted_member 1 in_order.0 i.edits e in_order.2 m in
      let row = row_of number_before edit_of t.edit in_order.0 s.0 in_order.1 s.1 in
      subst (λ (e : Edit). (is_key e.key && is_utf8 e.line) ≡ true) s.2 (edit_texts row.0 s.0 row.2)

  has_texts : HasTexts i
  has_texts = record {
    classes = all_of (λ (c : Class). is_class_name c.name) i.classes (λ c m. let row = row_of class_before class_of t.class i.classes c r.class m in class_named row.0 c row.2);
    values = all_of (λ (a : Asset). is_value a.value) i.assets value_of;
    routes = all_of (λ (e : RouteRow). is_route_name e.route.name) i.routes route_of;
    referents = all_of (λ (e : RouteRow). list_all (λ x. is_referent_name x.name) e.route.refs) i.routes (λ e m. all_of (λ (x : Referent). is_referent_name x.name) e.route.refs (referents_of_entry e m));
    keys = all_of (λ (e : Edit). is_key e.key) i.edits (λ e m. (and_parts (is_key e.key) (is_utf8 e.line) (texts_of_edit e m)).0);
    lines = all_of (λ (e : Edit). is_utf8 e.line) i.edits (λ e m. (and_parts (is_key e.key) (is_utf8 e.line) (texts_of_edit e m)).1);
  }

-- ---- the store

nothing_has_texts : HasTexts nothing
nothing_has_texts = record { classes = refl; values = refl; routes = refl; referents = refl; keys = refl; lines = refl }

-- the image was read before its origins
before_origins : (t : Tables) (i : Image) (version : ℕ) (r : Result Image Table)
    → content.◌>>=◌ r (λ image. content.◌>>=◌ (read table.Origin (each_sorted origin_before origin_of t.origin) (λ os. are_origins image.entered image.assets && has_origins version image.assets os)) (λ origins. Ok image)) ≡ Ok i → r ≡ Ok i
before_origins t i version (Err e) h = absurd (cc)
before_origins t i version (Ok image) h =
    (was_read table.Origin (each_sorted origin_before origin_of t.origin) (λ os. are_origins image.entered image.assets && has_origins version image.assets os) (λ origins. Ok image) i h).next

image_has_texts : (t : Tables) (i : Image) → image_of t ≡ Ok i → HasTexts i
image_has_texts t i h =
    let version = was_read table.Version (version_of t.version) (λ v. true) _ i h in
    has_texts t i (is_read t i (before_origins t i version.value (inventory_of t) version.next))

pub content_has_texts : ContentHasTexts
unfolding content_of
content_has_texts t i h =
    elim (has_no_rows t) as (λ b. cond b (Ok nothing) (image_of t) ≡ Ok i → HasTexts i) [
      | true ↦ λ e. subst HasTexts (ok_is nothing i e) nothing_has_texts
      | false ↦ λ e. image_has_texts t i e
    ] h
