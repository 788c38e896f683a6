-- The assets that hold stretches of a class and a value are those of the class and the value with a row on the routes.
use Rattle.std.proofs.Common.{◌≡◌, ℕ, ◌+◌, Bool, true, false, cond, ◌⊎◌, inl, inr, List, [], ◌∷◌, Option, Some, None, find, refl, sym, ap, ◌∙◌, arith}
use Rattle.std.specs.Prelude.{◌&&◌, ◌||◌, nat_eq, nat_le, count_by}
use Rattle.std.specs.List.{list_all, list_any}
use Rattle.std.specs.Cmp.Lexicographic.{bytes_decides}
use Rattle.std.proofs.lemmas.Bool.{both_ways, and_parts, and_from, eq-eqb, eqb-true, ltb-true}
use Rattle.std.proofs.lemmas.List.Folds.{list_any-append, list_all-append}
use Rattle.lrs_measure.specs.Lists.{In, each_two}
use Rattle.lrs_measure.specs.Texts.{Name, same_name}
use Rattle.lrs_measure.proofs.Counts.{count_cons}
use Rattle.lrs_measure.proofs.Members.{any_found, any_of, two_at}
use Rattle.lrs_events.specs.declared.class.Asset.{Asset}
use Rattle.lrs_events.specs.declared.span.Span.{Span}
use Rattle.lrs_machine.specs.declared.image.RouteRow.{RouteRow}
use Rattle.lrs_machine.specs.Sound.{asset_before, is_span}
use Rattle.lrs_report_lists.specs.Lines.{asset_numbered}
use Rattle.lrs_report_lists.specs.declared.length_lists.entries.LengthEntry.{LengthEntry}
use Rattle.lrs_report_lists.specs.Length.Lengths.{assets_of, has_row}
use Rattle.lrs_report_lists.specs.Length.Parts.{entries_of, entries_on, entry_of, holders_by, is_entry_of, is_held_by, is_number_of, known_entry, route_length, row_entry}
use Rattle.lrs_report_lists.proofs.Length.Tests.{and_nothing, or_nothing}

-- ---- members

count-members : {X : Type 0} (p q : X → Bool) (xs : List X) → ((x : X) → In x xs → p x ≡ q x) → count_by p xs ≡ count_by q xs
count-members p q [] h = refl
count-members p q (x ∷ xs) h =
    count_cons p x xs ∙ (λ i. cond (h x (inl refl) i) 1 0 + count-members p q xs (λ y m. h y (inr m)) i) ∙ sym (count_cons q x xs)

-- the one member that passes is found
found_member : {X : Type 0} (p : X → Bool) (xs : List X) (x : X) → In x xs → p x ≡ true → ((y : X) → In y xs → p y ≡ true → y ≡ x) → find p xs ≡ Some x
found_member p [] x m h one = absurd m
found_member p (z ∷ zs) x m h one = by (p z) refl m (λ k. found_member p zs x k h (λ y l. one y (inr l)))
  where
    by : (b : Bool) → p z ≡ b → In x (z ∷ zs) → (In x zs → find p zs ≡ Some x) → cond b (Some z) (find p zs) ≡ Some x
    by true e k rest = ap Some (one z (inl refl) e)
    by false e (inl s) rest = absurd (both_ways (p z) e (ap p (sym s) ∙ h))
    by false e (inr k) rest = rest k

and_or : (a b c : Bool) → ((a && b) || (a && c)) ≡ (a && (b || c))
and_or true b c = refl
and_or false b c = refl

-- ---- rows of known assets

-- the rows of a route are those of its assets
abbrev pub has_known : List Asset → RouteRow → Bool
has_known assets e = list_all (is_span assets (route_length e)) e.spans

module _ (assets : List Asset) where
  span_known : (len : ℕ) (r : Span) → is_span assets len r ≡ true → is_number_of assets r.asset ≡ true
  span_known len r span =
      let found = any_found (λ a. nat_eq a.number r.asset && same_name a.class r.class) assets (and_parts (nat_le r.to len) _ span).1 in
      any_of (λ a. nat_eq a.number r.asset) found.0 assets found.1 (and_parts (nat_eq found.0.number r.asset) (same_name found.0.class r.class) found.2).0

  known_held : (start : ℕ) (r : Span) (a : Option Asset) → is_number_of assets r.asset ≡ true → list_all (is_held_by assets) (known_entry start r a) ≡ true
  known_held start r None h = refl
  known_held start r (Some a) h = and_from (is_number_of assets r.asset) true h refl

  rows_held : (start len : ℕ) (rows : List Span) → list_all (is_span assets len) rows ≡ true → list_all (is_held_by assets) (entries_on assets start rows) ≡ true
  rows_held start len [] h = refl
  rows_held start len (r ∷ rows) h =
      let both = and_parts (is_span assets len r) (list_all (is_span assets len) rows) h in
      list_all-append (is_held_by assets) (row_entry assets start r) (entries_on assets start rows)
      ∙ and_from _ _ (known_held start r (asset_numbered assets r.asset) (span_known len r both.0)) (rows_held start len rows both.1)

  -- Each stretch is held by one of the assets.
  pub routes_held_by : (start : ℕ) (routes : List RouteRow) → list_all (has_known assets) routes ≡ true → list_all (is_held_by assets) (entries_of assets start routes) ≡ true
  routes_held_by start [] h = refl
  routes_held_by start (e ∷ es) h =
      let both = and_parts (has_known assets e) (list_all (has_known assets) es) h in
      list_all-append (is_held_by assets) (entries_on assets start e.spans) (entries_of assets (start + route_length e) es)
      ∙ and_from _ _ (rows_held start (route_length e) e.spans both.0) (routes_held_by (start + route_length e) es both.1)

-- ---- the assets of the rows

module _ (assets : List Asset) (order : each_two asset_before assets ≡ true) where
  same_number : (a b : Asset) → In a assets → In b assets → a.number ≡ b.number → a ≡ b
  same_number a b m n e = by (two_at asset_before a b assets order m n)
    where
      by : (a ≡ b) ⊎ ((asset_before a b ≡ true) ⊎ (asset_before b a ≡ true)) → a ≡ b
      by (inl s) = s
      by (inr (inl l)) = let less = ltb-true a.number b.number l in absurd (omega (arith, less, e))
      by (inr (inr l)) = let less = ltb-true b.number a.number l in absurd (omega (arith, less, e))

  -- the row of an asset is of its class, and the asset is found by its number
  row_class : (len : ℕ) (r : Span) (a : Asset) → In a assets → is_span assets len r ≡ true → r.asset ≡ a.number → r.class ≡ a.class
  row_class len r a m span e =
      let found = any_found (λ b. nat_eq b.number r.asset && same_name b.class r.class) assets (and_parts (nat_le r.to len) _ span).1 in
      let both = and_parts (nat_eq found.0.number r.asset) (same_name found.0.class r.class) found.2 in
      let is = same_number found.0 a found.1 m (eqb-true found.0.number r.asset both.0 ∙ e) in
      sym ((bytes_decides found.0.class r.class).0 both.1) ∙ ap (λ (b : Asset). b.class) is

  row_asset : (r : Span) (a : Asset) → In a assets → r.asset ≡ a.number → asset_numbered assets r.asset ≡ Some a
  row_asset r a m e =
      found_member (λ b. nat_eq b.number r.asset) assets a m (eq-eqb a.number r.asset (sym e)) (λ b n h. same_number b a n m (eqb-true b.number r.asset h ∙ e))

  module _ (class value : Name) (a : Asset) (m : In a assets) where
    -- the asset has the class and the value
    abbrev is_asset_of : Bool
    is_asset_of = same_name a.class class && same_name a.value value

    abbrev holds : LengthEntry → Bool
    holds e = is_entry_of class value e && nat_eq e.asset a.number

    other_row : (start : ℕ) (r : Span) (b : Option Asset) → nat_eq r.asset a.number ≡ false → list_any holds (known_entry start r b) ≡ (is_asset_of && nat_eq r.asset a.number)
    other_row start r None e = sym (ap (λ c. is_asset_of && c) e ∙ and_nothing is_asset_of)
    other_row start r (Some b) e =
        or_nothing (holds (entry_of start r b)) ∙ ap (λ c. (same_name r.class class && same_name b.value value) && c) e ∙ and_nothing (same_name r.class class && same_name b.value value)
        ∙ sym (ap (λ c. is_asset_of && c) e ∙ and_nothing is_asset_of)

    row_held : (start len : ℕ) (r : Span) → is_span assets len r ≡ true → list_any holds (row_entry assets start r) ≡ (is_asset_of && nat_eq r.asset a.number)
    row_held start len r span = by (nat_eq r.asset a.number) refl
      where
        by : (b : Bool) → nat_eq r.asset a.number ≡ b → list_any holds (row_entry assets start r) ≡ (is_asset_of && nat_eq r.asset a.number)
        by true e =
            let same = eqb-true r.asset a.number e in
            ap (λ o. list_any holds (known_entry start r o)) (row_asset r a m same)
            ∙ or_nothing (holds (entry_of start r a))
            ∙ ap (λ c. (same_name c class && same_name a.value value) && nat_eq r.asset a.number) (row_class len r a m span same)
        by false e = other_row start r (asset_numbered assets r.asset) e

    rows_of_asset : (start len : ℕ) (rows : List Span) → list_all (is_span assets len) rows ≡ true
        → list_any holds (entries_on assets start rows) ≡ (is_asset_of && list_any (λ r. nat_eq r.asset a.number) rows)
    rows_of_asset start len [] h = sym (and_nothing is_asset_of)
    rows_of_asset start len (r ∷ rows) h =
        let both = and_parts (is_span assets len r) (list_all (is_span assets len) rows) h in
        list_any-append holds (row_entry assets start r) (entries_on assets start rows)
        ∙ (λ i. row_held start len r both.0 i || rows_of_asset start len rows both.1 i)
        ∙ and_or is_asset_of (nat_eq r.asset a.number) (list_any (λ s. nat_eq s.asset a.number) rows)

    routes_of_asset : (start : ℕ) (routes : List RouteRow) → list_all (has_known assets) routes ≡ true → list_any holds (entries_of assets start routes) ≡ (is_asset_of && has_row routes a.number)
    routes_of_asset start [] h = sym (and_nothing is_asset_of)
    routes_of_asset start (e ∷ es) h =
        let both = and_parts (has_known assets e) (list_all (has_known assets) es) h in
        list_any-append holds (entries_on assets start e.spans) (entries_of assets (start + route_length e) es)
        ∙ (λ i. rows_of_asset start (route_length e) e.spans both.0 i || routes_of_asset (start + route_length e) es both.1 i)
        ∙ and_or is_asset_of (list_any (λ r. nat_eq r.asset a.number) e.spans) (has_row es a.number)

  -- The assets that hold stretches of the class and the value are those with a row on the routes.
  pub all_holders : (class value : Name) (routes : List RouteRow) → list_all (has_known assets) routes ≡ true → holders_by class value (entries_of assets 0 routes) assets ≡ assets_of assets routes class value
  all_holders class value routes known =
      count-members (λ a. list_any (λ e. is_entry_of class value e && nat_eq e.asset a.number) (entries_of assets 0 routes))
      (λ a. same_name a.class class && same_name a.value value && has_row routes a.number) assets (λ a m. routes_of_asset class value a m 0 routes known)
