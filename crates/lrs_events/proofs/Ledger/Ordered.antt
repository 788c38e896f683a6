-- How the rows of one asset lie.
use Rattle.std.proofs.Common.{◌≡◌, ℕ, ◌<◌, ◌≤◌, Bool, true, ◌⊎◌, inl, inr, Ordering, Less, Equal, Greater, sym, subst, ◌∙◌, arith}
use Rattle.std.specs.Prelude.{◌||◌, ◌&&◌, not, nat_eq, nat_le, nat_lt}
use Rattle.std.specs.Ordering.{is_lt, ordering_reverse}
use Rattle.std.specs.Cmp.Lexicographic.{bytes_decides, nat_list_cmp_total}
use Rattle.std.proofs.lemmas.Bool.{false≢true, both_ways, not-true, and_parts, or_cases, eqb-true, eq-eqb, leb-true, ltb-true}
use Rattle.lrs_measure.specs.Texts.{Name, name_cmp, name_before, same_name}
use Rattle.lrs_events.specs.declared.side.LinkSide.{LinkSide}
use Rattle.lrs_events.specs.declared.span.Span.{Span}
use Rattle.lrs_events.specs.Members.{has_side, stands_for}
use Rattle.lrs_events.specs.Spans.{span_before, are_apart, same_side}

-- one row comes before another
pub data Before (r s : Span) : Type 0 where
  by_class : name_before r.class s.class ≡ true → Before r s
  by_asset : r.class ≡ s.class → r.asset < s.asset → Before r s
  by_start : r.class ≡ s.class → r.asset ≡ s.asset → r.from < s.from → Before r s

pub before : (r s : Span) → span_before r s ≡ true → Before r s
before r s h = first (or_cases (name_before r.class s.class) (same_name r.class s.class && (nat_lt r.asset s.asset || (nat_eq r.asset s.asset && nat_lt r.from s.from))) h)
  where
    second : r.class ≡ s.class → (nat_lt r.asset s.asset ≡ true) ⊎ ((nat_eq r.asset s.asset && nat_lt r.from s.from) ≡ true) → Before r s
    second c (inl l) = by_asset c (ltb-true r.asset s.asset l)
    second c (inr l) = let both = and_parts (nat_eq r.asset s.asset) (nat_lt r.from s.from) l in by_start c (eqb-true r.asset s.asset both.0) (ltb-true r.from s.from both.1)

    first : (name_before r.class s.class ≡ true) ⊎ ((same_name r.class s.class && (nat_lt r.asset s.asset || (nat_eq r.asset s.asset && nat_lt r.from s.from))) ≡ true) → Before r s
    first (inl n) = by_class n
    first (inr n) =
        let both = and_parts (same_name r.class s.class) (nat_lt r.asset s.asset || (nat_eq r.asset s.asset && nat_lt r.from s.from)) n in
        second ((bytes_decides r.class s.class).0 both.0) (or_cases (nat_lt r.asset s.asset) (nat_eq r.asset s.asset && nat_lt r.from s.from) both.1)

not_both : (o p : Ordering) → o ≡ ordering_reverse p → is_lt o ≡ true → is_lt p ≡ true → ⊥
not_both Less Less e h k = absurd cc
not_both Less Equal e h k = false≢true k
not_both Less Greater e h k = false≢true k
not_both Equal p e h k = false≢true h
not_both Greater p e h k = false≢true h

not_back : (a b : Name) → name_before a b ≡ true → name_before b a ≡ true → ⊥
not_back a b h k = not_both (name_cmp a b) (name_cmp b a) (nat_list_cmp_total.antisymm a b) h k

-- rows of one class and asset are in the order of their starts
pub starts_later : (r s : Span) → Before r s → r.class ≡ s.class → r.asset ≡ s.asset → r.from < s.from
starts_later r s (by_class n) c e = let k = subst (λ z. name_before r.class z ≡ true) (sym c) n in absurd (not_back r.class r.class k k)
starts_later r s (by_asset d l) c e = absurd (omega (arith, l, e))
starts_later r s (by_start d f l) c e = l

-- what stands between two rows of an asset is of it
pub record IsBetween (r f : Span) : Type 0 where
  pub asset : r.asset ≡ f.asset
  pub class : r.class ≡ f.class

pub between : (r f s : Span) → Before r f → Before f s → r.class ≡ s.class → r.asset ≡ s.asset → IsBetween r f
between r f s (by_class n) (by_class m) c e = absurd (not_back r.class f.class n (subst (λ z. name_before f.class z ≡ true) (sym c) m))
between r f s (by_class n) (by_asset d l) c e = let k = subst (λ z. name_before r.class z ≡ true) (d ∙ sym c) n in absurd (not_back r.class r.class k k)
between r f s (by_class n) (by_start d g l) c e = let k = subst (λ z. name_before r.class z ≡ true) (d ∙ sym c) n in absurd (not_back r.class r.class k k)
between r f s (by_asset d l) (by_class m) c e = let k = subst (λ z. name_before f.class z ≡ true) (sym c ∙ d) m in absurd (not_back f.class f.class k k)
between r f s (by_asset d l) (by_asset b m) c e = absurd (omega (arith, l, m, e))
between r f s (by_asset d l) (by_start b g m) c e = absurd (omega (arith, l, g, e))
between r f s (by_start d g l) (by_class m) c e = let k = subst (λ z. name_before f.class z ≡ true) (sym c ∙ d) m in absurd (not_back f.class f.class k k)
between r f s (by_start d g l) (by_asset b m) c e = absurd (omega (arith, g, m, e))
between r f s (by_start d g l) (by_start b k m) c e = record { asset = g; class = d }

-- rows of one asset are of one class, and have no millimetre in common
pub record AreOff (r s : Span) : Type 0 where
  pub class : r.class ≡ s.class
  pub off : (r.to ≤ s.from) ⊎ (s.to ≤ r.from)

pub apart : (r s : Span) → are_apart r s ≡ true → r.asset ≡ s.asset → AreOff r s
apart r s h e = first (or_cases (not (nat_eq r.asset s.asset)) (same_name r.class s.class && rest) h)
  where
    touch : Bool
    touch = (nat_eq r.to s.from || nat_eq s.to r.from) && not (same_side r.side s.side)

    rest : Bool
    rest = nat_lt r.to s.from || nat_lt s.to r.from || touch

    fourth : (nat_eq r.to s.from ≡ true) ⊎ (nat_eq s.to r.from ≡ true) → (r.to ≤ s.from) ⊎ (s.to ≤ r.from)
    fourth (inl k) = let l = eqb-true r.to s.from k in inl (omega (arith, l))
    fourth (inr k) = let l = eqb-true s.to r.from k in inr (omega (arith, l))

    third : (nat_lt r.to s.from ≡ true) ⊎ (nat_lt s.to r.from ≡ true) → (r.to ≤ s.from) ⊎ (s.to ≤ r.from)
    third (inl k) = let l = ltb-true r.to s.from k in inl (omega (arith, l))
    third (inr k) = let l = ltb-true s.to r.from k in inr (omega (arith, l))

    second : ((nat_lt r.to s.from || nat_lt s.to r.from) ≡ true) ⊎ (touch ≡ true) → (r.to ≤ s.from) ⊎ (s.to ≤ r.from)
    second (inl k) = third (or_cases (nat_lt r.to s.from) (nat_lt s.to r.from) k)
    second (inr k) = fourth (or_cases (nat_eq r.to s.from) (nat_eq s.to r.from) (and_parts (nat_eq r.to s.from || nat_eq s.to r.from) (not (same_side r.side s.side)) k).0)

    first : (not (nat_eq r.asset s.asset) ≡ true) ⊎ ((same_name r.class s.class && rest) ≡ true) → AreOff r s
    first (inl k) = absurd (both_ways (nat_eq r.asset s.asset) (not-true (nat_eq r.asset s.asset) k) (eq-eqb r.asset s.asset e))
    first (inr k) =
        let both = and_parts (same_name r.class s.class) rest k in
        record { class = (bytes_decides r.class s.class).0 both.0; off = second (or_cases (nat_lt r.to s.from || nat_lt s.to r.from) touch both.1) }

-- a row has the millimetre on the side for the asset
pub record Stands (r : Span) (a j : ℕ) (s : LinkSide) : Type 0 where
  pub asset : r.asset ≡ a
  pub low : r.from ≤ j
  pub high : j < r.to
  pub side : has_side r.side s ≡ true

pub stands : (r : Span) (a j : ℕ) (s : LinkSide) → stands_for r a j s ≡ true → Stands r a j s
stands r a j s h =
    let one = and_parts (nat_eq r.asset a) ((nat_le r.from j && nat_lt j r.to) && has_side r.side s) h in
    let two = and_parts (nat_le r.from j && nat_lt j r.to) (has_side r.side s) one.1 in
    let three = and_parts (nat_le r.from j) (nat_lt j r.to) two.0 in
    record { asset = eqb-true r.asset a one.0; low = leb-true r.from j three.0; high = ltb-true j r.to three.1; side = two.1 }
