-- Rows that hold an image hold it as rows of version 2 too.
use Rattle.std.proofs.Common.{◌≡◌, ℕ, Bool, true, false, cond, List, [], ◌∷◌, pos, Option, Some, None, Ok, Err, refl, sym, ap, subst, ◌∙◌}
use Rattle.std.specs.Prelude.{◌&&◌, Result}
use Rattle.std.proofs.lemmas.Bool.{false≢true, and_parts, and_from}
use Rattle.lrs_measure.specs.Lists.{is_nothing}
use Rattle.lrs_machine.specs.declared.image.Image.{Image}
use Rattle.lrs_machine.specs.declared.table.Table.{Table}
use Rattle.lrs_machine.specs.declared.table.Table.TheVariants as table
use Rattle.lrs_machine.specs.Image.{nothing}
use Rattle.lrs_machine.specs.Sound.{are_origins}
use Rattle.lrs_store_tables.specs.Contents.Tables.{Tables, no_rows}
use Rattle.lrs_store_tables.specs.Contents.Decoders.{each_sorted, Origin, origin_of}
use Rattle.lrs_store_tables.specs.Contents.Content.{read, version_of, inventory_of, origin_before, has_origins, has_no_rows, image_of, content_of}
use Rattle.lrs_store_tables.specs.Contents.Content as content
use Rattle.lrs_store_tables.specs.Contents.Laws.{brought_up}
use Rattle.lrs_store_tables.proofs.Contents.BroughtUp.{brought_up_holds_the_same}

-- ---- a store without any row

none_in : {X : Type 0} (xs : List X) → is_nothing xs ≡ true → xs ≡ []
none_in [] h = refl
none_in (x ∷ xs) h = absurd (false≢true h)

without_rows : (t : Tables) → has_no_rows t ≡ true → t ≡ no_rows
without_rows t h =
    let origin = and_parts _ (is_nothing t.origin) h in
    let edit = and_parts _ (is_nothing t.edit) origin.0 in
    let gone = and_parts _ (is_nothing t.gone) edit.0 in
    let entered = and_parts _ (is_nothing t.entered) gone.0 in
    let span = and_parts _ (is_nothing t.span) entered.0 in
    let ref = and_parts _ (is_nothing t.ref) span.0 in
    let mark = and_parts _ (is_nothing t.mark) ref.0 in
    let piece = and_parts _ (is_nothing t.piece) mark.0 in
    let asset = and_parts _ (is_nothing t.asset) piece.0 in
    let class = and_parts _ (is_nothing t.class) asset.0 in
    let link = and_parts (is_nothing t.version) (is_nothing t.link) class.0 in
    λ j. record {
      version = none_in t.version link.0 j;
      link = none_in t.link link.1 j;
      class = none_in t.class class.1 j;
      asset = none_in t.asset asset.1 j;
      piece = none_in t.piece piece.1 j;
      mark = none_in t.mark mark.1 j;
      ref = none_in t.ref ref.1 j;
      span = none_in t.span span.1 j;
      entered = none_in t.entered entered.1 j;
      gone = none_in t.gone gone.1 j;
      edit = none_in t.edit edit.1 j;
      origin = none_in t.origin origin.1 j;
    }

new_holds : content_of (brought_up [] no_rows) ≡ Ok nothing
unfolding content_of
new_holds = refl

-- ---- one with rows

-- the image, where its origins are those of this version
abbrev last : ℕ → Option (List Origin) → Image → Result Image Table
last version os image = content.◌>>=◌ (read table.Origin os (λ os. are_origins image.entered image.assets && has_origins version image.assets os)) (λ origins. Ok image)

-- the rows beside those of version and origin hold this image, whose assets were entered
record HoldsBeside (t : Tables) (i : Image) : Type 0 where
  holds : inventory_of t ≡ Ok i
  origins : are_origins i.entered i.assets ≡ true

passed_last : (version : ℕ) (os : Option (List Origin)) (image i : Image) → last version os image ≡ Ok i → (image ≡ i) × (are_origins image.entered image.assets ≡ true)
passed_last version None image i h = absurd (cc)
passed_last version (Some os) image i h = by (are_origins image.entered image.assets && has_origins version image.assets os) refl h
  where
    by : (b : Bool) → are_origins image.entered image.assets && has_origins version image.assets os ≡ b → content.◌>>=◌ (cond b (Ok os) (Err table.Origin)) (λ origins. Ok image) ≡ Ok i
        → (image ≡ i) × (are_origins image.entered image.assets ≡ true)
    by true e k = let same : image ≡ i = cc in (same, (and_parts (are_origins image.entered image.assets) (has_origins version image.assets os) e).0)
    by false e k = absurd (cc)

holds_beside : (t : Tables) (i : Image) → image_of t ≡ Ok i → HoldsBeside t i
holds_beside t i h = by (version_of t.version) h
  where
    then : (version : ℕ) (r : Result Image Table) → inventory_of t ≡ r → content.◌>>=◌ r (last version (each_sorted origin_before origin_of t.origin)) ≡ Ok i → HoldsBeside t i
    then version (Err u) e k = absurd (cc)
    then version (Ok image) e k =
        let p = passed_last version (each_sorted origin_before origin_of t.origin) image i k in
        record { holds = e ∙ ap (λ x. Ok x) p.0; origins = subst (λ (x : Image). are_origins x.entered x.assets ≡ true) p.0 p.1 }

    by : (o : Option ℕ) → content.◌>>=◌ (read table.Version o (λ v. true)) (λ version. content.◌>>=◌ (inventory_of t) (last version (each_sorted origin_before origin_of t.origin))) ≡ Ok i → HoldsBeside t i
    by None k = absurd (cc)
    by (Some version) k = then version (inventory_of t) refl k

-- the same rows as those of version 1
abbrev as_first : Tables → Tables
as_first t = record t { version = pos 1 ∷ []; origin = [] }

first_holds : (t : Tables) (i : Image) → HoldsBeside t i → content_of (as_first t) ≡ Ok i
unfolding content_of
first_holds t i h =
    ap (λ r. content.◌>>=◌ r (last 1 (Some []))) h.holds
    ∙ ap (λ b. content.◌>>=◌ {A = List Origin} {B = Image} (cond b (Ok []) (Err table.Origin)) (λ origins. Ok i)) (and_from (are_origins i.entered i.assets) true h.origins refl)

pub brought_up_holds : (t : Tables) (i : Image) → content_of t ≡ Ok i → content_of (brought_up i.assets t) ≡ Ok i
unfolding content_of
brought_up_holds t i h = by (has_no_rows t) refl h
  where
    by : (b : Bool) → has_no_rows t ≡ b → cond b (Ok nothing) (image_of t) ≡ Ok i → content_of (brought_up i.assets t) ≡ Ok i
    by true e k =
        let same : nothing ≡ i = cc in
        subst (λ (x : Image). content_of (brought_up x.assets t) ≡ Ok x) same (subst (λ (u : Tables). content_of (brought_up [] u) ≡ Ok nothing) (sym (without_rows t e)) new_holds)
    by false e k = brought_up_holds_the_same (as_first t) i refl (first_holds t i (holds_beside t i k))
