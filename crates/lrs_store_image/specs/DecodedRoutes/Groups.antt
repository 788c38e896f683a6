-- What rows say of routes, in the order of their names.
use Rattle.std.specs.Prelude.{Bool, ◌&&◌, ◌-◌, nat_lt, List, [], length, slice_index_or}
use Rattle.lrs_measure.specs.Texts.{Name, same_name, name_before}
use Rattle.lrs_store_tables.specs.Contents.Decoders.{OfRoute}

-- of a route before the other's
abbrev pub route_before : {X : Type 0} → OfRoute X → OfRoute X → Bool
route_before a b = name_before a.route b.route

-- the name is the last of these
abbrev pub ends_with : Name → List Name → Bool
ends_with a names = nat_lt 0 (length names) && same_name (slice_index_or names (length names - 1) []) a
