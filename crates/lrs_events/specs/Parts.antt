-- Parts: which pairs of asset and place a row of a ledger stands for.
use Rattle.std.specs.Prelude.{ℕ, ◌≤◌, Bool, ◌&&◌, nat_lt, nat_le, nat_eq, List, [], ◌∷◌}
use Rattle.std.specs.List.{count_by}
use Rattle.std.specs.Ordering.{nat_cmp, is_lt}
use Rattle.std.specs.Cmp.Lexicographic.{slice_cmp}
use Rattle.lrs_events.specs.declared.part.Part.{Part}
use Rattle.lrs_events.specs.declared.side.LinkSide.{LinkSide}
use Rattle.lrs_events.specs.declared.side.LinkSide.TheVariants.{Left, Right}
use Rattle.lrs_events.specs.Places.{Place, same_link_side}

-- whether a part has the place
abbrev pub has_place : Part → Place → Bool
has_place part p = nat_eq part.link p.link && nat_le part.from p.mm && nat_lt p.mm part.to && same_link_side part.side p.side

-- whether it tells that this edit entered the place for the asset, or took it away
abbrev pub has_pair : Part → ℕ → ℕ → Place → Bool
has_pair part edit asset p = nat_eq part.edit edit && nat_eq part.asset asset && has_place part p

-- whether the part has the asset's place
abbrev pub has_for : ℕ → Place → Part → Bool
has_for asset p part = nat_eq part.asset asset && has_place part p

-- how many of the parts have the asset's place
abbrev pub times_had : ℕ → Place → List Part → ℕ
times_had asset p parts = count_by (has_for asset p) parts

-- no part has what another has
abbrev pub IsHadOnce : List Part → Type 0
IsHadOnce parts = (asset : ℕ) (p : Place) → times_had asset p parts ≤ 1

-- the order of a ledger

abbrev pub side_number : LinkSide → ℕ
side_number Left = 0
side_number Right = 1

-- in the order of edit, asset, link, start and side
abbrev pub part_key : Part → List ℕ
part_key p = p.edit ∷ p.asset ∷ p.link ∷ p.from ∷ side_number p.side ∷ []

abbrev pub part_before : Part → Part → Bool
part_before x y = is_lt (slice_cmp nat_cmp (part_key x) (part_key y))
