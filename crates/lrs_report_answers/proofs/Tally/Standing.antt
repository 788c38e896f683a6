-- What an image knows of assets and classes stays where one more of them comes.
use Rattle.std.proofs.Common.{◌≡◌, ℕ, Bool, true, false, cond, ◌⊎◌, inl, inr, List, [], ◌∷◌, Option, Some, None, refl, sym, ap, ◌∙◌, arith}
use Rattle.std.specs.Prelude.{◌&&◌, ◌||◌, nat_eq, nat_le, length}
use Rattle.std.specs.Cmp.{unsigned_tied}
use Rattle.std.specs.Cmp.Lexicographic.{bytes_decides}
use Rattle.std.specs.List.{list_any, list_all}
use Rattle.std.specs.List as list
use Rattle.std.specs.Ordering.{nat_cmp, is_eq}
use Rattle.std.proofs.lemmas.Bool.{both_ways, and_parts, and_from, or_cases, or_left, or_right, eqb-true, ltb-true}
use Rattle.lrs_measure.specs.Lists.{each_two}
use Rattle.lrs_measure.specs.OrderedLists.{insert_by, insert_some}
use Rattle.lrs_measure.specs.Texts.{Name, name_before, same_name}
use Rattle.lrs_events.specs.declared.class.Asset.{Asset}
use Rattle.lrs_events.specs.declared.class.Class.{Class}
use Rattle.lrs_machine.specs.declared.image.Image.{Image}
use Rattle.lrs_measure.specs.Limits.{most_assets}
use Rattle.lrs_measure.proofs.Members.{any_found, all_at, all_weaker}
use Rattle.lrs_machine.specs.EnteredNumbers.{is_asset_number, is_lateral_offset}
use Rattle.lrs_machine.specs.Sound.{IsSound, is_asset, asset_before, class_before}
use Rattle.lrs_image.proofs.Named.{name_apart}
use Rattle.lrs_image.proofs.Tables.{passes}
use Rattle.lrs_image_laws.proofs.InOrder.{is_comparable, find-insert_by}
use Rattle.lrs_report_answers.proofs.Asked.{found_in}
use Rattle.lrs_report_answers.proofs.Joined.{is_false}
use Rattle.lrs_report_answers.proofs.Tally.Summed.{class_is}

-- ---- one more in an order

module _ {X : Type 0} (before : X → X → Bool) where
  one_passes : (p : X → Bool) (x : X) (xs : List X) → list_all p (insert_by before x xs) ≡ true → p x ≡ true
  one_passes p x [] h = (and_parts (p x) true h).0
  one_passes p x (y ∷ ys) h =
      elim (before x y) as (λ b. list_all p (cond b (x ∷ y ∷ ys) (y ∷ insert_by before x ys)) ≡ true → p x ≡ true) [
        | true ↦ λ k. (and_parts (p x) (list_all p (y ∷ ys)) k).0
        | false ↦ λ k. one_passes p x ys (and_parts (p y) (list_all p (insert_by before x ys)) k).1
      ] h

  -- who stands among others in order is in an order with each
  pub comparable : (x : X) (xs : List X) → each_two before (insert_by before x xs) ≡ true → is_comparable before x xs ≡ true
  comparable x [] h = refl
  comparable x (y ∷ ys) h =
      elim (before x y) as (λ b. before x y ≡ b → each_two before (cond b (x ∷ y ∷ ys) (y ∷ insert_by before x ys)) ≡ true → is_comparable before x (y ∷ ys) ≡ true) [
        | true ↦ λ e k. all_weaker (before x) (λ z. before x z || before z x) (y ∷ ys) (λ z first. or_left (before x z) (before z x) first) (and_parts (list_all (before x) (y ∷ ys)) (each_two before (y ∷ ys)) k).0
        | false ↦ λ e k.
            let both = and_parts (list_all (before y) (insert_by before x ys)) (each_two before (insert_by before x ys)) k in
            and_from (before x y || before y x) (is_comparable before x ys) (or_right (before x y) (before y x) (one_passes (before y) x ys both.0)) (comparable x ys both.1)
      ] refl h

-- ---- assets and classes of a sound image

abbrev pub asset_of : ℕ → List Asset → Option Asset
asset_of n assets = list.find (λ (a : Asset). is_eq (nat_cmp a.number n)) assets

abbrev pub is_known : ℕ → List Asset → Bool
is_known n assets = list_any (λ (a : Asset). nat_eq a.number n) assets

module _ (i : Image) (sound : IsSound i) where
  -- an asset more has a number of its own
  other_number : (x : Asset) → each_two asset_before (insert_by asset_before x i.assets) ≡ true → (n : ℕ) → is_known n i.assets ≡ true → is_eq (nat_cmp x.number n) ≡ false
  other_number x order n known = is_false (is_eq (nat_cmp x.number n)) (λ t.
      let its = eqb-true x.number n (sym (unsigned_tied x.number n) ∙ t) in
      let y = any_found (λ (a : Asset). nat_eq a.number n) i.assets known in
      apart y.0 its (eqb-true y.0.number n y.2)
      (or_cases (asset_before x y.0) (asset_before y.0 x) (all_at (λ (z : Asset). asset_before x z || asset_before z x) y.0 i.assets (comparable asset_before x i.assets order) y.1)))
    where
      apart : (y : Asset) → x.number ≡ n → y.number ≡ n → (asset_before x y ≡ true) ⊎ (asset_before y x ≡ true) → ⊥
      apart y e f (inl h) = let less = ltb-true x.number y.number h in omega (arith, e, f, less)
      apart y e f (inr h) = let less = ltb-true y.number x.number h in omega (arith, e, f, less)

  -- so a number that is known finds the same asset beside it
  pub still_found : (o : Option Asset) → each_two asset_before (insert_some asset_before o i.assets) ≡ true → (n : ℕ) → is_known n i.assets ≡ true → asset_of n i.assets ≡ asset_of n (insert_some asset_before o i.assets)
  still_found None order n known = refl
  still_found (Some x) order n known =
      let p : Asset → Bool = λ a. is_eq (nat_cmp a.number n) in
      let other = other_number x order n known in
      sym (find-insert_by p asset_before x i.assets (λ t. absurd (both_ways (p x) other t)) ∙ ap (λ b. cond b (Some x) (list.find p i.assets)) other)

  -- no asset is of a class that comes
  pub of_other_class : (k : Class) → each_two class_before (insert_by class_before k i.classes) ≡ true → (n : ℕ) → class_is (asset_of n i.assets) k.name ≡ false
  of_other_class k order n = by (asset_of n i.assets) refl
    where
      not_itself : (m : Name) → name_before m m ≡ true → ⊥
      not_itself m h = both_ways (name_before m m) (name_apart m m h) h

      apart : (c : Class) → c.name ≡ k.name → (class_before k c ≡ true) ⊎ (class_before c k ≡ true) → ⊥
      apart c e (inl h) = not_itself k.name (sym (ap (name_before k.name) e) ∙ h)
      apart c e (inr h) = not_itself k.name (sym (ap (λ m. name_before m k.name) e) ∙ h)

      each : list_all (is_asset i.classes) i.assets ≡ true
      each =
          let order = each_two asset_before i.assets in
          let all = list_all (is_asset i.classes) i.assets in
          (and_parts order all (and_parts (order && all) (nat_le (length i.assets) most_assets) (passes i sound).assets).0).1

      by : (o : Option Asset) → asset_of n i.assets ≡ o → class_is o k.name ≡ false
      by None e = refl
      by (Some a) e = is_false (same_name a.class k.name) (λ t.
          let member = found_in (λ (x : Asset). is_eq (nat_cmp x.number n)) a i.assets e in
          let known = (and_parts (is_asset_number a.number && is_lateral_offset a.lateral) (list_any (λ (c : Class). same_name c.name a.class) i.classes) (all_at (is_asset i.classes) a i.assets each member)).1 in
          let c = any_found (λ (x : Class). same_name x.name a.class) i.classes known in
          let named = (bytes_decides c.0.name a.class).0 c.2 ∙ (bytes_decides a.class k.name).0 t in
          apart c.0 named (or_cases (class_before k c.0) (class_before c.0 k) (all_at (λ (x : Class). class_before k x || class_before x k) c.0 i.classes (comparable class_before k i.classes order) c.1)))
