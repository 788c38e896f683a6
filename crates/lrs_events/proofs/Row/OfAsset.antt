-- The rows of one asset.
use Rattle.std.proofs.Common.{◌≡◌, ℕ, Bool, true, false, List, refl, sym, ◌∙◌}
use Rattle.std.specs.Prelude.{nat_eq}
use Rattle.std.specs.List.{filter}
use Rattle.std.specs.Cmp.Lexicographic.{bytes_decides}
use Rattle.std.proofs.lemmas.Bool.{false≢true, and_parts, and_from, eqb-true, eq-eqb}
use Rattle.lrs_measure.specs.Texts.{Name, same_name}
use Rattle.lrs_measure.proofs.Members.{any_found, any_of, In-filter, filter-In}
use Rattle.lrs_events.specs.declared.side.LinkSide.{LinkSide}
use Rattle.lrs_events.specs.declared.span.Span.{Span}
use Rattle.lrs_events.specs.Members.{has_member, is_member}
use Rattle.lrs_events.specs.Row.Members.{is_of, AssetRowsAreOne}
use Rattle.lrs_events.proofs.Row.Unique.{over, rows_are_one}
use Rattle.lrs_events.proofs.Row.Replaced.{found_rows}

abbrev Agrees : List Span → List Span → Name → ℕ → Type 0
Agrees xs ys class asset = (j : ℕ) (s : LinkSide) → is_member xs class asset j s ≡ is_member ys class asset j s

-- a row of an asset that stands for a millimetre of some asset
at_asset : (class : Name) (asset : ℕ) (r : Span) (c : Name) (a j : ℕ) (s : LinkSide) → is_of class asset r ≡ true → has_member r c a j s ≡ true → (c ≡ class) × (a ≡ asset)
at_asset class asset r c a j s h e =
    let o = over r c a j s e in
    let p = and_parts (same_name r.class class) (nat_eq r.asset asset) h in
    (sym o.of_class ∙ (bytes_decides r.class class).0 p.0, sym o.of_asset ∙ eqb-true r.asset asset p.1)

of_asset : (class : Name) (asset : ℕ) (r : Span) (j : ℕ) (s : LinkSide) → has_member r class asset j s ≡ true → is_of class asset r ≡ true
of_asset class asset r j s e =
    let o = over r class asset j s e in
    and_from (same_name r.class class) (nat_eq r.asset asset) ((bytes_decides r.class class).1 o.of_class) (eq-eqb r.asset asset o.of_asset)

carries : (xs ys : List Span) (class : Name) (asset : ℕ) → Agrees xs ys class asset → (c : Name) (a j : ℕ) (s : LinkSide)
    → is_member (filter (is_of class asset) xs) c a j s ≡ true → is_member (filter (is_of class asset) ys) c a j s ≡ true
carries xs ys class asset same c a j s h =
    let g = any_found (λ r. has_member r c a j s) (filter (is_of class asset) xs) h in
    let q = In-filter (is_of class asset) g.0 xs g.1 in
    let w = at_asset class asset g.0 c a j s q.1 g.2 in
    let mine : has_member g.0 class asset j s ≡ true = (λ i. has_member g.0 (sym w.0 i) (sym w.1 i) j s) ∙ g.2 in
    let f = any_found (λ r. has_member r class asset j s) ys (sym (same j s) ∙ any_of (λ r. has_member r class asset j s) g.0 xs q.0 mine) in
    any_of (λ r. has_member r c a j s) f.0 (filter (is_of class asset) ys) (filter-In (is_of class asset) f.0 ys f.1 (of_asset class asset f.0 j s f.2))
    ((λ i. has_member f.0 (w.0 i) (w.1 i) j s) ∙ f.2)

both_same : (a b : Bool) → (a ≡ true → b ≡ true) → (b ≡ true → a ≡ true) → a ≡ b
both_same true b f g = sym (f refl)
both_same false true f g = absurd (false≢true (g refl))
both_same false false f g = refl

pub asset_rows_are_one : AssetRowsAreOne
asset_rows_are_one xs ys class asset h k same =
    rows_are_one (filter (is_of class asset) xs) (filter (is_of class asset) ys) (found_rows (is_of class asset) xs h) (found_rows (is_of class asset) ys k)
    (λ c a j s. both_same (is_member (filter (is_of class asset) xs) c a j s) (is_member (filter (is_of class asset) ys) c a j s)
    (carries xs ys class asset same c a j s) (carries ys xs class asset (λ j s. sym (same j s)) c a j s))
