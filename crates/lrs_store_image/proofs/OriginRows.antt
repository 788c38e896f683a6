-- The origins of assets, and a version, row by row.
use Rattle.std.proofs.Common.{◌≡◌, ℕ, zero, suc, ◌+◌, ◌<◌, ◌≤◌, Bool, true, false, cond, List, [], ◌∷◌, map, drop, length, get_or, None, refl, sym, ap, ap₂, ◌∙◌, arith}
use Rattle.std.specs.Prelude.{◌&&◌, ℤ, nat_eq, nat_lt}
use Rattle.std.proofs.lemmas.Bool.{false≢true, true≢false, and_parts, and_right, eq-eqb, eqb-true}
use Rattle.lrs_measure.specs.Lists.{each_two, is_nothing}
use Rattle.lrs_events.specs.declared.class.Asset.{Asset}
use Rattle.lrs_events.specs.declared.part.Part.{Part}
use Rattle.lrs_machine.specs.Sound.{asset_before, are_origins}
use Rattle.lrs_machine.proofs.Pairs.{each_two-map}
use Rattle.lrs_store_tables.specs.Contents.Decoders.{Origin}
use Rattle.lrs_store_tables.specs.Contents.Content.{origin_before, are_origins_of, has_origins, version_of}

abbrev pub is_of : Asset → Origin → Bool
is_of a o = nat_eq o.asset a.number && nat_eq o.edit a.entered_by

not_so_many : (assets : List Asset) (os : List Origin) → (length assets ≡ length os → ⊥) → are_origins_of assets os ≡ false
not_so_many [] [] f = absurd (f refl)
not_so_many [] (o ∷ os) f = refl
not_so_many (a ∷ assets) [] f = refl
not_so_many (a ∷ assets) (o ∷ os) f = and_right (is_of a o) (are_origins_of assets os) (not_so_many assets os (λ e. f (omega (arith, e))))

pub not_as_many : (assets : List Asset) (os : List Origin) → nat_eq (length assets) (length os) ≡ false → are_origins_of assets os ≡ false
not_as_many assets os f = not_so_many assets os (λ e. true≢false (sym (eq-eqb (length assets) (length os) e) ∙ f))

from_here : (assets : List Asset) (os : List Origin) (i : ℕ) (a : Asset) (o : Origin) → i < length assets → i < length os
    → are_origins_of (drop i assets) (drop i os) ≡ (is_of (get_or assets i a) (get_or os i o) && are_origins_of (drop (suc i) assets) (drop (suc i) os))
from_here [] os i a o h k = absurd (omega (arith, h))
from_here (b ∷ assets) [] i a o h k = absurd (omega (arith, k))
from_here (b ∷ assets) (p ∷ os) zero a o h k = refl
from_here (b ∷ assets) (p ∷ os) (suc i) a o h k = from_here assets os i a o (omega (arith, h)) (omega (arith, k))

module _ (assets : List Asset) (os : List Origin) (i : ℕ) (a : Asset) (o : Origin) (in_assets : i < length assets) (in_os : i < length os) (rest : are_origins_of assets os ≡ are_origins_of (drop i assets) (drop i os)) where
  pub next_origin : is_of (get_or assets i a) (get_or os i o) ≡ true → are_origins_of assets os ≡ are_origins_of (drop (i + 1) assets) (drop (i + 1) os)
  next_origin t =
      let next : suc i ≡ i + 1 = omega arith in
      rest ∙ from_here assets os i a o in_assets in_os ∙ ap (λ b. b && are_origins_of (drop (suc i) assets) (drop (suc i) os)) t ∙ ap (λ k. are_origins_of (drop k assets) (drop k os)) next

  pub wrong_origin : is_of (get_or assets i a) (get_or os i o) ≡ false → are_origins_of assets os ≡ false
  wrong_origin f = rest ∙ from_here assets os i a o in_assets in_os ∙ ap (λ b. b && are_origins_of (drop (suc i) assets) (drop (suc i) os)) f

-- behind the last asset there is no origin
pub all_origins : (assets : List Asset) (os : List Origin) (i : ℕ) → length assets ≡ length os → length assets ≤ i → are_origins_of (drop i assets) (drop i os) ≡ true
all_origins [] [] zero e l = refl
all_origins [] [] (suc i) e l = refl
all_origins [] (o ∷ os) i e l = absurd (omega (arith, e))
all_origins (a ∷ assets) [] i e l = absurd (omega (arith, e))
all_origins (a ∷ assets) (o ∷ os) zero e l = absurd (omega (arith, l))
all_origins (a ∷ assets) (o ∷ os) (suc i) e l = all_origins assets os i (omega (arith, e)) (omega (arith, l))

-- ---- what their test asks

same_numbers : (assets : List Asset) (os : List Origin) → are_origins_of assets os ≡ true → map (λ (o : Origin). o.asset) os ≡ map (λ (a : Asset). a.number) assets
same_numbers [] [] h = refl
same_numbers [] (o ∷ os) h = absurd (false≢true h)
same_numbers (a ∷ assets) [] h = absurd (false≢true h)
same_numbers (a ∷ assets) (o ∷ os) h =
    let both = and_parts (is_of a o) (are_origins_of assets os) h in
    ap₂ (λ n ns. n ∷ ns) (eqb-true o.asset a.number (and_parts (nat_eq o.asset a.number) (nat_eq o.edit a.entered_by) both.0).0) (same_numbers assets os both.1)

-- origins that a version has are in the order of their assets
pub origins_ask : (version : ℕ) (assets : List Asset) (entered : List Part) → each_two asset_before assets ≡ true → (os : List Origin) → (are_origins entered assets && has_origins version assets os) ≡ true → each_two origin_before os ≡ true
origins_ask version assets entered up os h = by (nat_eq version 1) (and_parts (are_origins entered assets) (has_origins version assets os) h).1
  where
    by_nothing : (os : List Origin) → is_nothing os ≡ true → each_two origin_before os ≡ true
    by_nothing [] k = refl
    by_nothing (o ∷ os) k = absurd (false≢true k)

    by : (b : Bool) → cond b (is_nothing os) (are_origins_of assets os) ≡ true → each_two origin_before os ≡ true
    by true k = by_nothing os k
    by false k =
        sym (each_two-map nat_lt (λ (o : Origin). o.asset) os) ∙ ap (each_two nat_lt) (same_numbers assets os k)
        ∙ each_two-map nat_lt (λ (a : Asset). a.number) assets ∙ up

-- ---- a version

module _ {Cells : Type 0} (cells : Cells → ℤ) where
  pub not_one : (rows : List Cells) → nat_eq (length rows) 1 ≡ false → version_of (map cells rows) ≡ None
  not_one [] f = refl
  not_one (r ∷ []) f = absurd (true≢false f)
  not_one (r ∷ q ∷ rs) f = refl
