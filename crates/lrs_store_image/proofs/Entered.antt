-- Assets with the edit that entered each, part by part.
use Rattle.std.proofs.Common.{◌≡◌, ℕ, zero, suc, ◌<◌, Bool, true, false, cond, List, [], ◌∷◌, map, set, length, get_or, refl, sym, ap, ap₂, ◌∙◌, arith}
use Rattle.std.specs.Prelude.{◌||◌, nat_eq}
use Rattle.std.specs.List.{list_any, list_all}
use Rattle.std.proofs.lemmas.Bool.{and_parts, eq-eqb, ne_eqb, ltb-true, true≢false}
use Rattle.lrs_measure.specs.Lists.{each_two}
use Rattle.lrs_events.specs.declared.class.Asset.{Asset}
use Rattle.lrs_events.specs.declared.part.Part.{Part}
use Rattle.lrs_machine.specs.Sound.{asset_before}
use Rattle.lrs_machine.proofs.Pairs.{each_two-map}
use Rattle.lrs_store_tables.specs.Contents.Content.{with_edit}
use Rattle.lrs_store_image.specs.EnteringEdits.{entered_by, entered_all}

module _ (p : Part) where
  entered_as : (a : Asset) (b : Bool) → nat_eq p.asset a.number ≡ b → entered_by p a ≡ record a { entered_by = cond b p.edit a.entered_by }
  entered_as a b e = ap (λ c. let x : Asset = record a { entered_by = cond c p.edit a.entered_by } in x) e

  other : (m : ℕ) → (p.asset ≡ m → ⊥) → (a : Asset) → a.number ≡ m → entered_by p a ≡ a
  other m n a e = entered_as a false (ne_eqb p.asset a.number (λ k. n (k ∙ e)))

  others_behind : (a : Asset) (assets : List Asset) → a.number ≡ p.asset → list_all (asset_before a) assets ≡ true → map (entered_by p) assets ≡ assets
  others_behind a [] e h = refl
  others_behind a (b ∷ assets) e h =
      let both = and_parts (asset_before a b) (list_all (asset_before a) assets) h in
      let less = ltb-true a.number b.number both.0 in
      ap₂ (λ x xs. x ∷ xs) (other b.number (λ k. omega (arith, less, e, k)) b refl) (others_behind a assets e both.1)

  before_place : (a : Asset) (assets : List Asset) (at : ℕ) (d : Asset) → at < length assets → list_all (asset_before a) assets ≡ true → a.number < (get_or assets at d).number
  before_place a [] at d within h = absurd (omega (arith, within))
  before_place a (b ∷ assets) zero d within h = ltb-true a.number b.number (and_parts (asset_before a b) (list_all (asset_before a) assets) h).0
  before_place a (b ∷ assets) (suc at) d within h = before_place a assets at d (omega (arith, within)) (and_parts (asset_before a b) (list_all (asset_before a) assets) h).1

  pub entered_at : (assets : List Asset) (at : ℕ) (d : Asset) → each_two asset_before assets ≡ true → at < length assets → (get_or assets at d).number ≡ p.asset
      → set assets at (record (get_or assets at d) { entered_by = p.edit }) ≡ map (entered_by p) assets
  entered_at [] at d up within is = absurd (omega (arith, within))
  entered_at (a ∷ assets) zero d up within is =
      let both = and_parts (list_all (asset_before a) assets) (each_two asset_before assets) up in
      ap₂ (λ x xs. x ∷ xs) (sym (entered_as a true (eq-eqb p.asset a.number (sym is)))) (sym (others_behind a assets is both.0))
  entered_at (a ∷ assets) (suc at) d up within is =
      let both = and_parts (list_all (asset_before a) assets) (each_two asset_before assets) up in
      let less = before_place a assets at d (omega (arith, within)) both.0 in
      ap₂ (λ x xs. x ∷ xs) (sym (other a.number (λ k. omega (arith, less, is, k)) a refl)) (entered_at assets at d both.1 (omega (arith, within)) is)

  pub entered_none : (assets : List Asset) → list_any (λ (a : Asset). nat_eq a.number p.asset) assets ≡ false → assets ≡ map (entered_by p) assets
  entered_none [] f = refl
  entered_none (a ∷ assets) f = by (nat_eq a.number p.asset) refl f (λ g. entered_none assets g)
    where
      by : (b : Bool) → nat_eq a.number p.asset ≡ b → (b || list_any (λ (x : Asset). nat_eq x.number p.asset) assets) ≡ false → (list_any (λ (x : Asset). nat_eq x.number p.asset) assets ≡ false → assets ≡ map (entered_by p) assets)
          → a ∷ assets ≡ map (entered_by p) (a ∷ assets)
      by true e g more = absurd (true≢false g)
      by false e g more = ap₂ (λ x xs. x ∷ xs) (sym (other a.number (λ k. true≢false (sym (eq-eqb a.number p.asset (sym k)) ∙ e)) a refl)) (more g)

pub order_kept : (ps : List Part) (assets : List Asset) → each_two asset_before (entered_all ps assets) ≡ each_two asset_before assets
order_kept [] assets = refl
order_kept (p ∷ ps) assets = each_two-map asset_before (entered_by p) (entered_all ps assets) ∙ order_kept ps assets

-- the first part of an asset tells its edit
by_first : (p : Part) (ps : List Part) (assets : List Asset) → map (entered_by p) (map (with_edit ps) assets) ≡ map (with_edit (p ∷ ps)) assets
by_first p ps [] = refl
by_first p ps (a ∷ assets) = ap (λ xs. with_edit (p ∷ ps) a ∷ xs) (by_first p ps assets)

pub all_entered : (ps : List Part) (assets : List Asset) → entered_all ps (map (with_edit []) assets) ≡ map (with_edit ps) assets
all_entered [] assets = refl
all_entered (p ∷ ps) assets = ap (map (entered_by p)) (all_entered ps assets) ∙ by_first p ps assets

pub order_without : (assets : List Asset) → each_two asset_before (map (with_edit []) assets) ≡ each_two asset_before assets
order_without assets = each_two-map asset_before (with_edit []) assets
