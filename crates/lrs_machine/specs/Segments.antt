-- Linear segments: the maximal runs of a route over which each class asked for has one value (ISO 19148: linear segment).
use Rattle.std.specs.Prelude.{ℕ, ◌&&◌, Bool, true, false, not, List, map, Option, Some, None, if◌then◌else◌}
use Rattle.std.specs.List.{list_any, find, position}
use Rattle.std.specs.Option.{option_map}
use Rattle.std.specs.Cmp.Lexicographic.{pointwise}
use Rattle.lrs_measure.specs.Texts.{Name, same_name}
use Rattle.lrs_measure.specs.Runs.{Run, runs_of, same_option}
use Rattle.lrs_events.specs.declared.class.Asset.{Asset}
use Rattle.lrs_events.specs.declared.class.Class.{Class}
use Rattle.lrs_events.specs.declared.class.Kind.{Kind}
use Rattle.lrs_events.specs.declared.class.Kind.TheVariants.{Point, Stretch, Exclusive}
use Rattle.lrs_events.specs.declared.side.Side.{Side}
use Rattle.lrs_events.specs.declared.side.Side.TheVariants.{B}
use Rattle.lrs_events.specs.Spans.{same_side}
use Rattle.lrs_machine.specs.declared.segment.SegFault.{SegFault}
use Rattle.lrs_machine.specs.declared.segment.SegFault.TheVariants.{NoClass, NotExclusive, SideB}

-- the value of the asset of a class that is among those which hold something
abbrev pub value_of : List Asset → (ℕ → Bool) → Name → Option Name
value_of assets holds class = option_map (λ a. a.value) (find (λ a. same_name a.class class && holds a.number) assets)

-- one value or none for each class asked for
abbrev pub Values : Type 0
Values = List (Option Name)

abbrev pub values_of : List Asset → List Name → (ℕ → Bool) → Values
values_of assets wanted holds = map (value_of assets holds) wanted

abbrev pub same_values : Values → Values → Bool
same_values = pointwise (same_option same_name)

-- The segments of a route, by the assets that hold each of its millimetres.
abbrev pub segments_of : List Asset → List Name → List (ℕ → Bool) → List (Run Values)
segments_of assets wanted holders = runs_of same_values (map (values_of assets wanted) holders)

abbrev pub is_exclusive : Kind → Bool
is_exclusive Point = false
is_exclusive Stretch = false
is_exclusive Exclusive = true

abbrev pub is_class : List Class → Name → Bool
is_class classes name = list_any (λ c. same_name c.name name) classes

abbrev pub is_exclusive_class : List Class → Name → Bool
is_exclusive_class classes name = list_any (λ c. same_name c.name name && is_exclusive c.kind) classes

-- the first fault that one of these places tells, or else the next test
abbrev pub fault_at : Option ℕ → (ℕ → SegFault) → Option SegFault → Option SegFault
fault_at None fault next = next
fault_at (Some i) fault next = Some (fault i)

-- why the segments of these classes on this side are refused: each unknown class before any that is not exclusive, and both sides last
abbrev pub segment_fault : List Class → List Name → Side → Option SegFault
segment_fault classes wanted side =
    fault_at (position (λ name. not (is_class classes name)) wanted) NoClass
    (fault_at (position (λ name. not (is_exclusive_class classes name)) wanted) NotExclusive
    (if same_side side B then Some SideB else None))
