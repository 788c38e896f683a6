-- Stores with the same rows, in any order, hold the same.
use Rattle.std.proofs.Common.{◌≡◌, Bool, true, false, cond, List, [], ◌∷◌, map, length, Option, Some, None, Ok, Err, refl, sym, ap, ap₂, ◌∙◌}
use Rattle.std.specs.Prelude.{ℕ, ◌&&◌, Result, nat_eq, nat_lt, nat_le}
use Rattle.std.specs.List.{list_all}
use Rattle.std.proofs.lemmas.Bool.{false≢true, and_parts, eqb-true}
use Rattle.lrs_measure.specs.Lists.{each_two, is_nothing}
use Rattle.lrs_events.specs.declared.class.Class.{Class}
use Rattle.lrs_events.specs.declared.class.Asset.{Asset}
use Rattle.lrs_events.specs.Parts.{part_before}
use Rattle.lrs_machine.specs.declared.image.Image.{Image}
use Rattle.lrs_machine.specs.declared.table.Table.{Table}
use Rattle.lrs_machine.specs.declared.table.Table.TheVariants as table
use Rattle.lrs_measure.specs.Limits.{most_assets}
use Rattle.lrs_machine.specs.Image.{nothing}
use Rattle.lrs_machine.specs.Sound.{link_before, are_links, class_before, are_classes, asset_before, is_asset, are_assets, are_courses, are_all_marks, are_all_referents, are_spans, are_parts, are_entered, gone_before, parts_of, are_balanced, are_gone, are_edits, are_origins}
use Rattle.lrs_machine.proofs.Pairs.{each_two-map}
use Rattle.lrs_store_tables.specs.Contents.Tables.{Tables, AreSame}
use Rattle.lrs_store_tables.specs.Contents.Decoders.{each_sorted, link_of, class_of, asset_of, part_of, gone_of, Origin, origin_of}
use Rattle.lrs_store_tables.specs.Contents.Content.{read, courses_of, marks_of, measured_of, referents_of, routes_of, spans_of, entries_of, edits_of, with_edit, inventory_of, version_of, origin_before, are_origins_of, has_origins, image_of, has_no_rows, content_of}
use Rattle.lrs_store_tables.specs.Contents.Content as content
use Rattle.lrs_store_tables.specs.Contents.OrderLaws.{ContentIsOfRows}
use Rattle.lrs_store_tables.proofs.Contents.Unordered.{read_alike}
use Rattle.lrs_store_tables.proofs.Contents.Orders.{links_rank, classes_rank, assets_rank, parts_rank, gone_rank, origins_rank}
use Rattle.lrs_store_tables.proofs.Contents.Reading.{edits_alike, courses_alike, measured_alike, routes_alike, spans_alike, nothing_alike, version_alike}

-- Where a table is read the same, all that follows is the same if it is of each list that passes.
same_read : {A B : Type 0} (t : Table) (o p : Option A) (test : A → Bool) (f g : Result A Table → B) → read t o test ≡ read t p test → ((x : A) → test x ≡ true → f (Ok x) ≡ g (Ok x)) → f (Err t) ≡ g (Err t)
    → f (read t o test) ≡ g (read t p test)
same_read {A} {B} t o p test f g e h k = by o ∙ ap g e
  where
    by : (o : Option A) → f (read t o test) ≡ g (read t o test)
    by None = k
    by (Some x) = elim (test x) as (λ b. test x ≡ b → f (cond b (Ok x) (Err t)) ≡ g (cond b (Ok x) (Err t))) [ true ↦ λ passes. h x passes | false ↦ λ _. k ] refl

-- ... also with what follows at the end
then_same : {A : Type 0} (t : Table) (o p : Option A) (test : A → Bool) (f g : A → Result Image Table) (k l : Image → Result Image Table) → read t o test ≡ read t p test
    → ((x : A) → test x ≡ true → content.◌>>=◌ (f x) k ≡ content.◌>>=◌ (g x) l)
    → content.◌>>=◌ (content.◌>>=◌ (read t o test) f) k ≡ content.◌>>=◌ (content.◌>>=◌ (read t p test) g) l
then_same t o p test f g k l e h = same_read t o p test (λ r. content.◌>>=◌ (content.◌>>=◌ r f) k) (λ r. content.◌>>=◌ (content.◌>>=◌ r g) l) e h refl

-- ---- what the tests of assets and of origins ask

assets_rise : (classes : List Class) (assets : List Asset) → are_assets classes assets ≡ true → each_two asset_before assets ≡ true
assets_rise classes assets h =
    (and_parts (each_two asset_before assets) (list_all (is_asset classes) assets) (and_parts (each_two asset_before assets && list_all (is_asset classes) assets) (nat_le (length assets) most_assets) h).0).0

same_numbers : (assets : List Asset) (os : List Origin) → are_origins_of assets os ≡ true → map (λ (o : Origin). o.asset) os ≡ map (λ (a : Asset). a.number) assets
same_numbers [] [] h = refl
same_numbers [] (o ∷ os) h = absurd (false≢true h)
same_numbers (a ∷ assets) [] h = absurd (false≢true h)
same_numbers (a ∷ assets) (o ∷ os) h =
    let both = and_parts (nat_eq o.asset a.number && nat_eq o.edit a.entered_by) (are_origins_of assets os) h in
    ap₂ (λ n ns. n ∷ ns) (eqb-true o.asset a.number (and_parts (nat_eq o.asset a.number) (nat_eq o.edit a.entered_by) both.0).0) (same_numbers assets os both.1)

-- Origins that a version has are in the order of their assets.
origins_rise : (version : ℕ) (assets : List Asset) (os : List Origin) → each_two asset_before assets ≡ true → has_origins version assets os ≡ true → each_two origin_before os ≡ true
origins_rise version assets os rise h = by (nat_eq version 1) h
  where
    by_nothing : (os : List Origin) → is_nothing os ≡ true → each_two origin_before os ≡ true
    by_nothing [] k = refl
    by_nothing (o ∷ os) k = absurd (false≢true k)

    by : (b : Bool) → cond b (is_nothing os) (are_origins_of assets os) ≡ true → each_two origin_before os ≡ true
    by true k = by_nothing os k
    by false k =
        sym (each_two-map nat_lt (λ (o : Origin). o.asset) os) ∙ ap (each_two nat_lt) (same_numbers assets os k)
        ∙ each_two-map nat_lt (λ (a : Asset). a.number) assets ∙ rise

-- ---- the tables

-- the image of the rows beside version and origin, whose assets are in order, with what follows
inventory_alike : (a b : Tables) → AreSame a b → (k l : Image → Result Image Table) → ((i : Image) → each_two asset_before i.assets ≡ true → k i ≡ l i) → content.◌>>=◌ (inventory_of a) k ≡ content.◌>>=◌ (inventory_of b) l
inventory_alike a b same k l h =
    then_same table.Link (each_sorted link_before link_of a.link) (each_sorted link_before link_of b.link) are_links _ _ k l (read_alike link_before links_rank table.Link link_of are_links (λ xs rise. rise) a.link b.link same.link) (λ links _.
    then_same table.Class (each_sorted class_before class_of a.class) (each_sorted class_before class_of b.class) are_classes _ _ k l (read_alike class_before classes_rank table.Class class_of are_classes (λ xs rise. rise) a.class b.class same.class) (λ classes _.
    then_same table.Asset (each_sorted asset_before asset_of a.asset) (each_sorted asset_before asset_of b.asset) (are_assets classes) _ _ k l
    (read_alike asset_before assets_rank table.Asset asset_of (are_assets classes) (λ xs passes. assets_rise classes xs passes) a.asset b.asset same.asset) (λ assets asset.
    then_same table.Piece (courses_of a.piece) (courses_of b.piece) (are_courses links) _ _ k l (ap (λ o. read table.Piece o (are_courses links)) (courses_alike a.piece b.piece same.piece)) (λ courses _.
    then_same table.Mark (measured_of a.mark courses) (measured_of b.mark courses) (λ ms. are_all_marks (map marks_of ms)) _ _ k l
    (ap (λ o. read table.Mark o (λ ms. are_all_marks (map marks_of ms))) (measured_alike a.mark b.mark courses same.mark)) (λ ms _.
    then_same table.Ref (routes_of a.ref ms) (routes_of b.ref ms) (λ rs. are_all_referents (map referents_of rs)) _ _ k l
    (ap (λ o. read table.Ref o (λ rs. are_all_referents (map referents_of rs))) (routes_alike a.ref b.ref ms same.ref)) (λ rs _.
    then_same table.Span (entries_of assets a.span rs) (entries_of assets b.span rs) (λ es. are_spans links classes assets (map spans_of es)) _ _ k l (spans_alike assets links classes a.span b.span rs same.span) (λ es _.
    then_same table.Entered (each_sorted part_before part_of a.entered) (each_sorted part_before part_of b.entered) (are_entered links assets) _ _ k l
    (read_alike part_before parts_rank table.Entered part_of (are_entered links assets) (λ xs passes. (and_parts (each_two part_before xs) (are_parts links assets xs) passes).0) a.entered b.entered same.entered) (λ entered _.
    then_same table.Gone (each_sorted gone_before gone_of a.gone) (each_sorted gone_before gone_of b.gone) (are_gone links assets (map spans_of es) entered) _ _ k l
    (read_alike gone_before gone_rank table.Gone gone_of (are_gone links assets (map spans_of es) entered)
    (λ xs passes. (and_parts (each_two gone_before xs) (are_parts links assets (parts_of xs)) (and_parts (each_two gone_before xs && are_parts links assets (parts_of xs)) (are_balanced links assets (map spans_of es) entered (parts_of xs)) passes).0).0)
    a.gone b.gone same.gone) (λ gone _.
    then_same table.Edit (edits_of a.edit) (edits_of b.edit) (are_edits entered gone) _ _ k l (ap (λ o. read table.Edit o (are_edits entered gone)) (edits_alike a.edit b.edit same.edit)) (λ edits _.
    h _ (each_two-map asset_before (with_edit entered) assets ∙ assets_rise classes assets asset)))))))))))

-- the last table, and all tables behind version
abbrev last : Tables → ℕ → Image → Result Image Table
last t version image =
    content.◌>>=◌ (read table.Origin (each_sorted origin_before origin_of t.origin) (λ os. are_origins image.entered image.assets && has_origins version image.assets os)) (λ origins. Ok image)

abbrev rest : Tables → ℕ → Result Image Table
rest t version = content.◌>>=◌ (inventory_of t) (last t version)

image_alike : (a b : Tables) → AreSame a b → image_of a ≡ image_of b
image_alike a b same =
    same_read table.Version (version_of a.version) (version_of b.version) (λ v. true) (λ r. content.◌>>=◌ r (rest a)) (λ r. content.◌>>=◌ r (rest b))
    (ap (λ o. read table.Version o (λ v. true)) (version_alike a.version b.version same.version))
    (λ version _. inventory_alike a b same (last a version) (last b version) (λ image rise.
    ap (λ r. content.◌>>=◌ r (λ origins. Ok image))
    (read_alike origin_before origins_rank table.Origin origin_of (λ os. are_origins image.entered image.assets && has_origins version image.assets os)
    (λ os passes. origins_rise version image.assets os rise (and_parts (are_origins image.entered image.assets) (has_origins version image.assets os) passes).1) a.origin b.origin same.origin))) refl

no_rows_alike : (a b : Tables) → AreSame a b → has_no_rows a ≡ has_no_rows b
no_rows_alike a b same =
    λ j. nothing_alike a.version b.version same.version j && nothing_alike a.link b.link same.link j && nothing_alike a.class b.class same.class j && nothing_alike a.asset b.asset same.asset j
    && nothing_alike a.piece b.piece same.piece j && nothing_alike a.mark b.mark same.mark j && nothing_alike a.ref b.ref same.ref j && nothing_alike a.span b.span same.span j
    && nothing_alike a.entered b.entered same.entered j && nothing_alike a.gone b.gone same.gone j && nothing_alike a.edit b.edit same.edit j && nothing_alike a.origin b.origin same.origin j

pub content_is_of_rows : ContentIsOfRows
unfolding content_of
content_is_of_rows a b same = λ j. cond (no_rows_alike a b same j) (Ok nothing) (image_alike a b same j)
