-- A store of version 1 that is brought up to version 2 holds the image that it held.
use Rattle.std.proofs.Common.{◌≡◌, ℕ, Bool, true, false, cond, List, [], ◌∷◌, map, length, pos, Option, Some, None, Ok, Err, refl, sym, ap, ◌∙◌, arith}
use Rattle.std.specs.Prelude.{◌&&◌, ◌^◌, nat_eq, nat_le, nat_lt, Result}
use Rattle.std.specs.List.{list_all}
use Rattle.std.proofs.lemmas.Bool.{and_parts, and_from, leb-true, lt-ltb, eqb-true, eq-eqb}
use Rattle.lrs_measure.specs.Lists.{In, each_two}
use Rattle.lrs_measure.specs.OrderedLists.{insert_by}
use Rattle.lrs_events.specs.declared.class.Asset.{Asset}
use Rattle.lrs_machine.specs.declared.image.Image.{Image}
use Rattle.lrs_machine.specs.declared.table.Table.{Table}
use Rattle.lrs_machine.specs.declared.table.Table.TheVariants as table
use Rattle.lrs_measure.specs.Limits.{most_edits}
use Rattle.lrs_measure.proofs.Members.{any_found, all_at, all_of}
use Rattle.lrs_machine.specs.EnteredNumbers.{is_asset_number, is_lateral_offset}
use Rattle.lrs_machine.specs.Sound.{is_asset, are_origins, is_named_by}
use Rattle.lrs_machine.proofs.Pairs.{each_two-map}
use Rattle.lrs_machine.proofs.SoundImages.{Tested, tested, origin_of, entered_by_entry}
use Rattle.lrs_store_tables.specs.Contents.Tables.{Tables}
use Rattle.lrs_store_tables.specs.Contents.Decoders.{each_of, each_sorted, sorted, Origin}
use Rattle.lrs_store_tables.specs.Contents.Decoders as option
use Rattle.lrs_store_tables.specs.Contents.Content.{read, version_of, inventory_of, origin_before, are_origins_of, has_origins, has_no_rows, image_of, content_of}
use Rattle.lrs_store_tables.specs.Contents.Content as content
use Rattle.lrs_store_tables.specs.Contents.Laws.{origin_row, BroughtUpHoldsTheSame}
use Rattle.lrs_store_tables.proofs.Contents.Contents.{content_is_sound}

-- an asset and the edit that entered it
abbrev origin : Asset → Origin
origin a = record { asset = a.number; edit = a.entered_by }

-- ---- what a sound image says of its assets

-- its number and its edit can be stored
abbrev is_stored : Asset → Bool
is_stored a = nat_lt a.number (2 ^ 63) && nat_lt a.entered_by (2 ^ 63)

module _ (i : Image) (t : Tested i) where
  number_fits : (a : Asset) → In a i.assets → nat_lt a.number (2 ^ 63) ≡ true
  number_fits a m =
      let test = and_parts (is_asset_number a.number && is_lateral_offset a.lateral) _ (all_at (is_asset i.classes) a i.assets t.assets m) in
      let number = and_parts (is_asset_number a.number) (is_lateral_offset a.lateral) test.0 in
      let most = leb-true _ _ (and_parts (nat_le 1 a.number) (nat_le a.number 1_000_000_000_000) number.0).1 in
      lt-ltb _ _ (omega (arith, most))

  entry_fits : (a : Asset) → In a i.assets → nat_lt a.entered_by (2 ^ 63) ≡ true
  entry_fits a m =
      let part = any_found (λ p. nat_eq p.asset a.number) i.entered (origin_of i t a m).0 in
      let edit = entered_by_entry i t a part.0 m part.1 (eqb-true _ _ part.2) in
      let named = and_parts (nat_le 1 part.0.edit) (nat_le part.0.edit (length i.edits)) (all_at (is_named_by i.edits) part.0 i.entered t.entered_named part.1) in
      lt-ltb _ _ (omega (arith, edit, leb-true _ _ named.1, leb-true (length i.edits) most_edits t.few_edits))

  all_stored : list_all is_stored i.assets ≡ true
  all_stored = all_of is_stored i.assets (λ a m. and_from _ _ (number_fits a m) (entry_fits a m))

-- ---- what the rows that are written say

said_back : (assets : List Asset) → list_all is_stored assets ≡ true → each_of option.origin_of (map origin_row assets) ≡ Some (map origin assets)
said_back [] h = refl
said_back (a ∷ assets) h =
    let here = and_parts (is_stored a) (list_all is_stored assets) h in
    let fits = and_parts (nat_lt a.number (2 ^ 63)) (nat_lt a.entered_by (2 ^ 63)) here.0 in
    by (nat_lt a.number (2 ^ 63)) (nat_lt a.entered_by (2 ^ 63)) (each_of option.origin_of (map origin_row assets)) fits.0 fits.1 (said_back assets here.1)
  where
    by : (b c : Bool) (o : Option (List Origin)) → b ≡ true → c ≡ true → o ≡ Some (map origin assets)
        → option.◌>>=◌ (option.◌>>=◌ (option.only_if b a.number) (λ asset. option.◌>>=◌ (option.only_if c a.entered_by) (λ edit. Some (let x : Origin = record { asset = asset; edit = edit } in x))))
        (λ x. option.◌>>=◌ o (λ xs. Some (x ∷ xs))) ≡ Some (map origin (a ∷ assets))
    by true true o f g is = ap (λ r. option.◌>>=◌ r (λ xs. Some (origin a ∷ xs))) is
    by true false o f g is = absurd (cc)
    by false c o f g is = absurd (cc)

-- what is in order stays as it is
sorted-same : {X : Type 0} (before : X → X → Bool) (xs : List X) → each_two before xs ≡ true → sorted before xs ≡ xs
sorted-same before [] h = refl
sorted-same before (x ∷ xs) h =
    let both = and_parts (list_all (before x) xs) (each_two before xs) h in
    ap (insert_by before x) (sorted-same before xs both.1) ∙ first xs both.0
  where
    first : (ys : List _) → list_all (before x) ys ≡ true → insert_by before x ys ≡ x ∷ ys
    first [] k = refl
    first (y ∷ ys) k = ap (λ b. cond b (x ∷ y ∷ ys) (y ∷ insert_by before x ys)) (and_parts (before x y) (list_all (before x) ys) k).0

theirs : (assets : List Asset) → are_origins_of assets (map origin assets) ≡ true
theirs [] = refl
theirs (a ∷ assets) = and_from _ _ (and_from _ _ (eq-eqb a.number a.number refl) (eq-eqb a.entered_by a.entered_by refl)) (theirs assets)

-- ---- the last table

-- the image, where its origins are those of this version
abbrev last : ℕ → Option (List Origin) → Image → Result Image Table
last version os image = content.◌>>=◌ (read table.Origin os (λ os. are_origins image.entered image.assets && has_origins version image.assets os)) (λ origins. Ok image)

-- it does not change the image
passed_on : (b : Bool) (os : List Origin) (image i : Image) (r : Result Image Table) → r ≡ Ok image → content.◌>>=◌ (cond b (Ok os) (Err table.Origin)) (λ origins. Ok image) ≡ Ok i → r ≡ Ok i
passed_on true os image i r is h = is ∙ h
passed_on false os image i r is h = absurd (cc)

was_read : (r : Result Image Table) (version : ℕ) (os : Option (List Origin)) (i : Image) → content.◌>>=◌ r (last version os) ≡ Ok i → r ≡ Ok i
was_read (Err t) version os i h = absurd (cc)
was_read (Ok image) version None i h = absurd (cc)
was_read (Ok image) version (Some os) i h = passed_on (are_origins image.entered image.assets && has_origins version image.assets os) os image i (Ok image) refl h

is_read : (i : Image) (os : Option (List Origin)) → are_origins i.entered i.assets ≡ true → os ≡ Some (map origin i.assets) → last 2 os i ≡ Ok i
is_read i os passes is =
    ap (λ o. last 2 o i) is
    ∙ ap (λ b. content.◌>>=◌ (cond b (Ok (map origin i.assets)) (Err table.Origin)) (λ origins. Ok i)) (and_from (are_origins i.entered i.assets) (are_origins_of i.assets (map origin i.assets)) passes (theirs i.assets))

-- the rows of a store of version 1 hold what those beside version and origin do
inventory_was_read : (t : Tables) (i : Image) → t.version ≡ pos 1 ∷ [] → content_of t ≡ Ok i → inventory_of t ≡ Ok i
unfolding content_of
inventory_was_read t i one is = was_read (inventory_of t) 1 (each_sorted origin_before option.origin_of t.origin) i (sym first ∙ is)
  where
    first : content_of t ≡ content.◌>>=◌ (inventory_of t) (last 1 (each_sorted origin_before option.origin_of t.origin))
    first = ap (λ v. content_of (record t { version = v })) one

pub brought_up_holds_the_same : BroughtUpHoldsTheSame
unfolding content_of
brought_up_holds_the_same t i one is =
    let sound = tested i (content_is_sound t i is) in
    let said = ap (λ o. option.◌>>=◌ o (λ xs. Some (sorted origin_before xs))) (said_back i.assets (all_stored i sound)) in
    let order = sorted-same origin_before (map origin i.assets) (each_two-map origin_before origin i.assets ∙ sound.asset_order) in
    ap (λ r. content.◌>>=◌ r (last 2 (each_sorted origin_before option.origin_of (map origin_row i.assets)))) (inventory_was_read t i one is)
    ∙ is_read i _ sound.origins (said ∙ ap Some order)
