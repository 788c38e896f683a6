-- What rows of spans stand for, by class, asset, chainage and side.
use Rattle.std.specs.Prelude.{◌≡◌, ℕ, ◌≤◌, length, min, max, Bool, true, ◌||◌, ◌&&◌, not, nat_le, nat_eq, List, filter}
use Rattle.std.specs.List.{list_any, list_all}
use Rattle.lrs_events.specs.declared.side.LinkSide.{LinkSide}
use Rattle.lrs_events.specs.declared.span.Span.{Span}
use Rattle.lrs_measure.specs.Lists.{each_two}
use Rattle.lrs_measure.specs.Texts.{Name, same_name}
use Rattle.lrs_events.specs.Spans.{are_rows, same_side}
use Rattle.lrs_events.specs.Members.{has_member, is_member, SameMembers}

-- Rows in order, apart and merged are determined by what they stand for.
abbrev pub RowsAreOne : Type 0
RowsAreOne = (xs ys : List Span) → are_rows xs ≡ true → are_rows ys ≡ true → SameMembers xs ys → xs ≡ ys

-- whether the row is of the asset of the class
abbrev pub is_of : Name → ℕ → Span → Bool
is_of class asset r = same_name r.class class && nat_eq r.asset asset

-- The rows of an asset are determined by what they stand for of it.
abbrev pub AssetRowsAreOne : Type 0
AssetRowsAreOne = (xs ys : List Span) (class : Name) (asset : ℕ) → are_rows xs ≡ true → are_rows ys ≡ true
    → ((j : ℕ) (s : LinkSide) → is_member xs class asset j s ≡ is_member ys class asset j s) → filter (is_of class asset) xs ≡ filter (is_of class asset) ys

-- whether the row leaves the span its millimetres, and is of its class if it is of its asset
abbrev pub leaves_free : Span → Span → Bool
leaves_free span r = not (nat_eq r.asset span.asset) || (same_name r.class span.class && (nat_le r.to span.from || nat_le span.to r.from))

abbrev pub is_free : List Span → Span → Bool
is_free rows span = list_all (leaves_free span) rows

-- the rows with what one more stands for
abbrev pub IsMore : List Span → Span → List Span → Type 0
IsMore rows span new = (class : Name) (asset j : ℕ) (s : LinkSide) → is_member new class asset j s ≡ (is_member rows class asset j s || has_member span class asset j s)

-- whether the second goes on with the same where the first ends
abbrev pub joins : Span → Span → Bool
joins r s = same_name r.class s.class && nat_eq r.asset s.asset && nat_eq r.to s.from && same_side r.side s.side

-- no millimetre has two of these of one asset
abbrev pub are_off : Span → Span → Bool
are_off r s = not (nat_eq r.asset s.asset) || nat_le (min r.to s.to) (max r.from s.from)

-- whether a row of the asset begins there
abbrev pub begins_at : List Span → Span → Bool
begins_at rows r = list_any (λ s. nat_eq s.asset r.asset && nat_eq s.from r.from) rows

-- Rows in order, apart and merged are as few as what they stand for can be written in: where no asset has two of other
-- rows over one millimetre, each row begins with one of those, and there are not fewer of them.
pub record IsFewest (xs ys : List Span) : Type 0 where
  pub starts : list_all (begins_at ys) xs ≡ true
  pub fewest : length xs ≤ length ys

abbrev pub NoneIsShorter : Type 0
NoneIsShorter = (xs ys : List Span) → are_rows xs ≡ true → each_two are_off ys ≡ true → SameMembers xs ys → IsFewest xs ys
