-- Totals of classes, counted over lists: the assets, the rows of the ledgers, and the rows of the routes. They are in side millimetres: a millimetre on both sides is two.
use Rattle.std.specs.Prelude.{ℕ, ◌-◌, ◌*◌, ◌^◌, min, ◌&&◌, Bool, false, not, nat_eq, if◌then◌else◌, List, map, sum_by, Option}
use Rattle.std.specs.List.{find}
use Rattle.std.specs.Option.{option_map, option_map_or}
use Rattle.lrs_measure.specs.Texts.{Name, same_name}
use Rattle.lrs_events.specs.declared.class.Asset.{Asset}
use Rattle.lrs_events.specs.declared.class.Class.{Class}
use Rattle.lrs_events.specs.declared.part.Gone.{Gone}
use Rattle.lrs_events.specs.declared.part.Part.{Part}
use Rattle.lrs_events.specs.declared.side.Side.{Side}
use Rattle.lrs_events.specs.declared.side.Side.TheVariants.{L, R, B}
use Rattle.lrs_events.specs.declared.span.Span.{Span}
use Rattle.lrs_machine.specs.declared.total.Total.{Total}

-- the class of the asset of a number
abbrev pub asset_class : List Asset → ℕ → Option Name
asset_class assets number = option_map (λ a. a.class) (find (λ a. nat_eq a.number number) assets)

-- whether the asset of the number is of the class
abbrev pub is_of_class : Name → List Asset → ℕ → Bool
is_of_class class assets number = option_map_or (λ its. same_name class its) (asset_class assets number) false

-- how many millimetres of one side a part has
abbrev pub part_length : Part → ℕ
part_length p = p.to - p.from

-- on how many sides it is
abbrev pub side_count : Side → ℕ
side_count L = 1
side_count R = 1
side_count B = 2

-- how many side millimetres a row of a route has
abbrev pub row_length : Span → ℕ
row_length r = (r.to - r.from) * side_count r.side

-- what was entered of the class
abbrev pub entered_of : Name → List Asset → List Part → ℕ
entered_of class assets entered = sum_by (λ p. if is_of_class class assets p.asset then part_length p else 0) entered

-- ... what of it is gone, and was not abandoned with its ground
abbrev pub retired_of : Name → List Asset → List Gone → ℕ
retired_of class assets gone = sum_by (λ g. if not g.abandoned && is_of_class class assets g.part.asset then part_length g.part else 0) gone

-- ... and what was
abbrev pub abandoned_of : Name → List Asset → List Gone → ℕ
abandoned_of class assets gone = sum_by (λ g. if g.abandoned && is_of_class class assets g.part.asset then part_length g.part else 0) gone

-- what of the class lies on a route with these rows
abbrev pub present_on : Name → List Span → ℕ
present_on class rows = sum_by (λ r. if same_name class r.class then row_length r else 0) rows

-- ... and on all routes
abbrev pub present_of : Name → List (List Span) → ℕ
present_of class routes = sum_by (λ rows. present_on class rows) routes

-- a sum as 64 bits keep it: no sum over a sound image comes near the greatest number
abbrev pub kept_sum : ℕ → ℕ
kept_sum n = min n (2 ^ 64 - 1)

-- the total of each class
abbrev pub list_totals : List Class → List Asset → List (List Span) → List Part → List Gone → List Total
list_totals classes assets routes entered gone = map (λ c. record {
  class = c.name;
  entered = kept_sum (entered_of c.name assets entered);
  retired = kept_sum (retired_of c.name assets gone);
  abandoned = kept_sum (abandoned_of c.name assets gone);
  present = kept_sum (present_of c.name routes);
}) classes
