-- How many assets of one class and one value have a row on routes, and how much of the routes they hold: each millimetre of a route once, however many of these assets hold it.
use Rattle.std.specs.Prelude.{◌≡◌, ℕ, Bool, true, false, ◌||◌, ◌&&◌, nat_eq, nat_le, nat_lt, List, length, filter, sum_by, count_by, Option}
use Rattle.std.specs.List.{list_any, range_with_len, AllByRecursion}
use Rattle.std.specs.Option.{option_map_or}
use Rattle.lrs_measure.specs.Lists.{each_two}
use Rattle.lrs_measure.specs.Texts.{Name, name_before, same_name}
use Rattle.lrs_events.specs.declared.class.Asset.{Asset}
use Rattle.lrs_events.specs.declared.side.Side.{Side}
use Rattle.lrs_events.specs.declared.side.LinkSide.TheVariants.{Left, Right}
use Rattle.lrs_events.specs.declared.span.Span.{Span}
use Rattle.lrs_events.specs.Members.{has_side}
use Rattle.lrs_machine.specs.declared.image.Image.{Image}
use Rattle.lrs_machine.specs.declared.image.RouteRow.{RouteRow}
use Rattle.lrs_report_lists.specs.Lines.{asset_numbered}
use Rattle.lrs_report_lists.specs.WantedRows.{is_of_route}
use Rattle.lrs_report_lists.specs.declared.length_lists.table.ValueLength.{ValueLength}

-- a side, or sides, that are counted: with the left one, with the right one, or any
abbrev pub has_left : Side → Bool
has_left side = has_side side Left

abbrev pub has_right : Side → Bool
has_right side = has_side side Right

abbrev pub has_either : Side → Bool
has_either side = true

-- the row is of the class, and its asset has the value
abbrev pub tells : List Asset → Name → Name → Span → Bool
tells assets class value r = same_name r.class class && option_map_or (λ a. same_name a.value value) (asset_numbered assets r.asset) false

-- the row holds the millimetre, on a side that is counted
abbrev pub holds_at : (Side → Bool) → ℕ → Span → Bool
holds_at counted j r = nat_le r.from j && nat_lt j r.to && counted r.side

-- how many millimetres of a route some row of the class and the value holds, on a side that is counted
abbrev pub length_on : (Side → Bool) → List Asset → Name → Name → RouteRow → ℕ
length_on counted assets class value e = count_by (λ j. list_any (λ r. tells assets class value r && holds_at counted j r) e.spans) (range_with_len 0 (length e.route.course))

-- ... of several routes
abbrev pub length_of : (Side → Bool) → List Asset → List RouteRow → Name → Name → ℕ
length_of counted assets routes class value = sum_by (length_on counted assets class value) routes

-- some row on these routes is of the class and the value
abbrev pub is_told : List Asset → List RouteRow → Name → Name → Bool
is_told assets routes class value = list_any (λ e. list_any (tells assets class value) e.spans) routes

-- some row on these routes is of the asset
abbrev pub has_row : List RouteRow → ℕ → Bool
has_row routes asset = list_any (λ e. list_any (λ r. nat_eq r.asset asset) e.spans) routes

-- how many assets of the class and the value have a row on these routes
abbrev pub assets_of : List Asset → List RouteRow → Name → Name → ℕ
assets_of assets routes class value = count_by (λ a. same_name a.class class && same_name a.value value && has_row routes a.number) assets

-- by class and then by value, each by the bytes of its text
abbrev pub key_before : Name → Name → Name → Name → Bool
key_before class value other_class other_value = name_before class other_class || (same_name class other_class && name_before value other_value)

abbrev pub length_before : ValueLength → ValueLength → Bool
length_before a b = key_before a.class a.value b.class b.value

abbrev pub is_length_of : Name → Name → ValueLength → Bool
is_length_of class value l = same_name l.class class && same_name l.value value

-- The lengths, and the count of assets, are those of the class and the value.
pub record HasLengths (assets : List Asset) (routes : List RouteRow) (l : ValueLength) : Type 0 where
  pub left_is : l.left ≡ length_of has_left assets routes l.class l.value
  pub right_is : l.right ≡ length_of has_right assets routes l.class l.value
  pub length_is : l.length ≡ length_of has_either assets routes l.class l.value
  pub assets_is : l.assets ≡ assets_of assets routes l.class l.value

-- In order, one for each class and value that some row tells and for no others, with their lengths and the counts of their assets.
pub record AreLengthsOn (assets : List Asset) (routes : List RouteRow) (lengths : List ValueLength) : Type 0 where
  pub order : each_two length_before lengths ≡ true
  pub exact : (class value : Name) → list_any (is_length_of class value) lengths ≡ is_told assets routes class value
  pub counts : AllByRecursion (HasLengths assets routes) lengths

-- ... on the route of a name, or on all routes
abbrev pub AreLengths : Option Name → Image → List ValueLength → Type 0
AreLengths route i lengths = AreLengthsOn i.assets (filter (is_of_route route) i.routes) lengths
