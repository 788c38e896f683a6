-- Balanced is: as often held or gone as entered.
use Rattle.std.proofs.Common.{◌≡◌, ◌↔◌, ℕ, ◌+◌, Bool, true, false, cond, ◌⊎◌, inl, inr, List, [], ◌∷◌, ◌++◌, refl, sym, ap, subst, ◌∙◌, arith}
use Rattle.std.specs.Prelude.{◌||◌, ◌&&◌, not}
use Rattle.std.specs.List.{AllByRecursion, list_all}
use Rattle.std.proofs.lemmas.Bool.{false≢true, and_parts, cases_Bool, ltb-true}
use Rattle.lrs_measure.specs.Lists.{In, same_bool}
use Rattle.lrs_measure.proofs.Members.{any_found, all_at, all_of}
use Rattle.lrs_measure.proofs.Counts.{count_append, some_counted, none_counted}
use Rattle.lrs_element.specs.declared.link.Link.{Link}
use Rattle.lrs_events.specs.declared.class.Asset.{Asset}
use Rattle.lrs_events.specs.declared.part.Part.{Part}
use Rattle.lrs_events.specs.Places.{Place}
use Rattle.lrs_machine.specs.Sound.{RouteSpans, has_asset_place, is_part, are_balanced, is_balanced_at, places_of}
use Rattle.lrs_machine.proofs.Pairs.{place_had, part_on, part_asset}
use Rattle.lrs_image_sound.specs.SweptParts.{IsFilled}
use Rattle.lrs_events.specs.Parts.{has_for, times_had, IsHadOnce}
use Rattle.lrs_image_sound.specs.Pairs.{AreHadAlike}
use Rattle.lrs_image_sound.specs.Balance.{AreHeld, IsLedger, ApartIsOnce, BalancedIsAlike}
use Rattle.lrs_image_sound.proofs.Had.{once_from_apart, apart_from_once}

pub apart_is_once : ApartIsOnce
apart_is_once parts f = (once_from_apart parts, apart_from_once parts f)

-- parts of known assets on known links are filled
pub filled : (links : List Link) (assets : List Asset) (parts : List Part) → list_all (is_part links assets) parts ≡ true → AllByRecursion IsFilled parts
filled links assets [] h = tt
filled links assets (x ∷ xs) h =
    let both = and_parts (is_part links assets x) (list_all (is_part links assets) xs) h in
    let known = and_parts _ _ both.0 in
    let on = and_parts _ _ known.0 in
    (ltb-true x.from x.to on.0, filled links assets xs both.1)

-- what is had once is counted as it is had
shown : (xs : List Part) (a : ℕ) (p : Place) → IsHadOnce xs → times_had a p xs ≡ cond (has_asset_place xs a p) 1 0
shown xs a p once = by (cases_Bool (has_asset_place xs a p))
  where
    by : (has_asset_place xs a p ≡ true) ⊎ (has_asset_place xs a p ≡ false) → times_had a p xs ≡ cond (has_asset_place xs a p) 1 0
    by (inl h) = let c = some_counted (has_for a p) xs h in let o = once a p in let one : times_had a p xs ≡ 1 = omega (arith, c, o) in one ∙ sym (ap (λ b. cond b 1 0) h)
    by (inr h) = none_counted (has_for a p) xs h ∙ sym (ap (λ b. cond b 1 0) h)

abbrev balance : Bool → Bool → Bool → Bool
balance h e g = same_bool h (e && not g) && (e || not g)

abbrev Adds : Bool → Bool → Bool → Type 0
Adds h e g = cond h 1 0 + cond g 1 0 ≡ cond e 1 0

adds : (h e g : Bool) → balance h e g ≡ true → Adds h e g
adds true true true k = absurd (false≢true k)
adds true true false k = refl
adds true false true k = absurd (false≢true k)
adds true false false k = absurd (false≢true k)
adds false true true k = refl
adds false true false k = absurd (false≢true k)
adds false false true k = absurd (false≢true k)
adds false false false k = refl

balances : (h e g : Bool) → Adds h e g → balance h e g ≡ true
balances true true true k = absurd (omega (arith, k))
balances true true false k = refl
balances true false true k = absurd (omega (arith, k))
balances true false false k = absurd (omega (arith, k))
balances false true true k = refl
balances false true false k = absurd (omega (arith, k))
balances false false true k = absurd (omega (arith, k))
balances false false false k = refl

module _ (links : List Link) (assets : List Asset) (routes : List RouteSpans) (held entered gone : List Part)
    (h : AreHeld links assets routes held) (e : IsLedger links assets entered) (g : IsLedger links assets gone) where
  abbrev Known : ℕ → Place → Type 0
  Known a p = (x : Asset) × In x assets × (x.number ≡ a) × In p (places_of links)

  known : (xs : List Part) (a : ℕ) (p : Place) → list_all (is_part links assets) xs ≡ true → has_asset_place xs a p ≡ true → Known a p
  known xs a p inside has =
      let found = any_found (has_for a p) xs has in
      let test = all_at (is_part links assets) found.0 xs inside found.1 in
      let place = place_had found.0 a p found.2 in
      let asset = part_asset links assets found.0 test in
      (asset.0, asset.1, asset.2 ∙ place.of_asset, part_on links assets found.0 a p test place)

  entered_once : IsHadOnce entered
  entered_once = once_from_apart entered e.apart

  gone_once : IsHadOnce gone
  gone_once = once_from_apart gone g.apart

  both_counted : (a : ℕ) (p : Place) → times_had a p (held ++ gone) ≡ cond (has_asset_place held a p) 1 0 + cond (has_asset_place gone a p) 1 0
  both_counted a p =
      let c = count_append (has_for a p) held gone in
      let d = shown held a p h.once in
      let f = shown gone a p gone_once in
      omega (arith, c, d, f)

  at_pair : (a : ℕ) (p : Place) → is_balanced_at routes entered gone a p ≡ true → times_had a p (held ++ gone) ≡ times_had a p entered
  at_pair a p k =
      let b = adds (has_asset_place held a p) (has_asset_place entered a p) (has_asset_place gone a p)
      (ap (λ t. balance t (has_asset_place entered a p) (has_asset_place gone a p)) (sym (h.shows a p)) ∙ k) in
      both_counted a p ∙ b ∙ sym (shown entered a p entered_once)

  at_place : (a : ℕ) (p : Place) → times_had a p (held ++ gone) ≡ times_had a p entered → is_balanced_at routes entered gone a p ≡ true
  at_place a p k =
      ap (λ t. balance t (has_asset_place entered a p) (has_asset_place gone a p)) (h.shows a p)
      ∙ balances (has_asset_place held a p) (has_asset_place entered a p) (has_asset_place gone a p) (sym (both_counted a p) ∙ k ∙ shown entered a p entered_once)

  alike_known : are_balanced links assets routes entered gone ≡ true → (a : ℕ) (p : Place) → Known a p → times_had a p (held ++ gone) ≡ times_had a p entered
  alike_known k a p n =
      let here = all_at (λ x. list_all (is_balanced_at routes entered gone x.number) (places_of links)) n.0 assets k n.1 in
      at_pair a p (subst (λ m. is_balanced_at routes entered gone m p ≡ true) n.2 (all_at (is_balanced_at routes entered gone n.0.number) p (places_of links) here n.3))

  alike : are_balanced links assets routes entered gone ≡ true → AreHadAlike (held ++ gone) entered
  alike k a p = one (cases_Bool (has_asset_place held a p)) (cases_Bool (has_asset_place gone a p)) (cases_Bool (has_asset_place entered a p))
    where
      one : (has_asset_place held a p ≡ true) ⊎ (has_asset_place held a p ≡ false) → (has_asset_place gone a p ≡ true) ⊎ (has_asset_place gone a p ≡ false)
          → (has_asset_place entered a p ≡ true) ⊎ (has_asset_place entered a p ≡ false) → times_had a p (held ++ gone) ≡ times_had a p entered
      one (inl x) y z = alike_known k a p (known held a p h.inside x)
      one (inr x) (inl y) z = alike_known k a p (known gone a p g.inside y)
      one (inr x) (inr y) (inl z) = alike_known k a p (known entered a p e.inside z)
      one (inr x) (inr y) (inr z) =
          let c = count_append (has_for a p) held gone in
          let d = none_counted (has_for a p) held x in
          let f = none_counted (has_for a p) gone y in
          let n = none_counted (has_for a p) entered z in
          omega (arith, c, d, f, n)

  balanced : AreHadAlike (held ++ gone) entered → are_balanced links assets routes entered gone ≡ true
  balanced k =
      all_of (λ a. list_all (is_balanced_at routes entered gone a.number) (places_of links)) assets (λ a m.
      all_of (is_balanced_at routes entered gone a.number) (places_of links) (λ p n. at_place a.number p (k a.number p)))

  pub balanced_alike : (are_balanced links assets routes entered gone ≡ true) ↔ AreHadAlike (held ++ gone) entered
  balanced_alike = (alike, balanced)

pub balanced_is_alike : BalancedIsAlike
balanced_is_alike = balanced_alike

-- two tests are one where each holds if the other does
pub one_test : (b t : Bool) {P : Type 0} → (b ≡ true) ↔ P → (t ≡ true) ↔ P → b ≡ t
one_test true t f g = sym (g.1 (f.0 refl))
one_test false true f g = f.1 (g.0 refl)
one_test false false f g = refl
