-- What the rows of a route say of each of its millimetres on one side, and what its segments ask of them.
use Rattle.std.specs.Prelude.{◌≡◌, ℕ, ◌<◌, ◌≤◌, Bool, true, ◌&&◌, nat_le, nat_lt, nat_eq, List, [], ◌∷◌, map, Option, Some, None, Result, Ok, Err}
use Rattle.std.specs.List.{find, range_with_len}
use Rattle.std.specs.Option.{option_map, option_and_then}
use Rattle.lrs_measure.specs.Texts.{Name}
use Rattle.lrs_events.specs.declared.class.Asset.{Asset}
use Rattle.lrs_events.specs.declared.class.Class.{Class}
use Rattle.lrs_events.specs.declared.side.LinkSide.{LinkSide}
use Rattle.lrs_events.specs.declared.span.Span.{Span}
use Rattle.lrs_events.specs.Members.{is_member}
use Rattle.lrs_events.specs.Row.CourseMembers.{is_held}
use Rattle.lrs_machine.specs.declared.segment.SegFault.{SegFault}
use Rattle.lrs_machine.specs.declared.segment.SegFault.TheVariants.{Memory}
use Rattle.lrs_machine.specs.Segments.{is_exclusive_class}

-- whether the rows say that the asset holds the millimetre on the side
abbrev pub is_holder : List Span → LinkSide → ℕ → ℕ → Bool
is_holder rows side j asset = is_held rows asset j side

-- which assets hold each millimetre of a route of this length
abbrev pub holders_along : List Span → LinkSide → ℕ → List (ℕ → Bool)
holders_along rows side len = map (is_holder rows side) (range_with_len 0 len)

-- no two assets of the class hold one millimetre on one side
abbrev pub HasOneHolder : List Span → Name → Type 0
HasOneHolder rows class = (a b j : ℕ) (side : LinkSide) → is_member rows class a j side ≡ true → is_member rows class b j side ≡ true → a ≡ b

-- ... and that for each exclusive class
abbrev pub AreExclusive : List Class → List Span → Type 0
AreExclusive classes rows = (class : Name) → is_exclusive_class classes class ≡ true → HasOneHolder rows class

-- the fault is answered where there is one, else what passes the test, or lack of memory
abbrev pub IsAnswer : {A : Type 0} → Option SegFault → (A → Type 0) → Result A SegFault → Type 0
IsAnswer (Some fault) Passes result = result ≡ Err fault
IsAnswer None Passes (Ok found) = Passes found
IsAnswer None Passes (Err fault) = fault ≡ Memory

-- rows that follow one another from a chainage up to another
abbrev pub FollowOn : ℕ → ℕ → List Span → Type 0
FollowOn from to [] = from ≤ to
FollowOn from to (r ∷ rs) = (from ≤ r.from) × (r.from < r.to) × FollowOn r.to to rs

-- whether the row is over the millimetre
abbrev pub is_at : ℕ → Span → Bool
is_at j r = nat_le r.from j && nat_lt j r.to

-- the value of the asset of a number
abbrev pub asset_value : List Asset → ℕ → Option Name
asset_value assets number = option_map (λ a. a.value) (find (λ a. nat_eq a.number number) assets)

-- the value of the first row over the millimetre
abbrev pub row_value : List Asset → List Span → ℕ → Option Name
row_value assets rows j = option_and_then (λ r. asset_value assets r.asset) (find (is_at j) rows)
