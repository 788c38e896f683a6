-- How much of routes has each combination of the values of exclusive classes: on the left side, on the right side, and on either, each millimetre of a route once.
use Rattle.std.specs.Prelude.{◌≡◌, ℕ, Bool, true, false, ◌||◌, ◌&&◌, List, [], ◌∷◌, ◌++◌, codes, map, filter, sum_by, count_by, Option, Some, None, Result}
use Rattle.std.specs.List.{flat_map, list_any, AllByRecursion}
use Rattle.lrs_measure.specs.FractionTexts.{metres_text}
use Rattle.lrs_measure.specs.Lists.{each_two}
use Rattle.lrs_measure.specs.Runs.{same_option}
use Rattle.lrs_measure.specs.Texts.{Name, name_before, same_name}
use Rattle.lrs_element.specs.declared.link.Ground.{Ground}
use Rattle.lrs_events.specs.Places.{beside}
use Rattle.lrs_events.specs.declared.side.LinkSide.{LinkSide}
use Rattle.lrs_events.specs.declared.side.LinkSide.TheVariants.{Left, Right}
use Rattle.lrs_events.specs.declared.side.Side.TheVariants.{L}
use Rattle.lrs_machine.specs.declared.image.Image.{Image}
use Rattle.lrs_machine.specs.declared.image.RouteRow.{RouteRow}
use Rattle.lrs_machine.specs.Image.{state_of}
use Rattle.lrs_machine.specs.Lines.{Text}
use Rattle.lrs_machine.specs.Readings.{asset_list}
use Rattle.lrs_machine.specs.Segments.{Values, same_values, segment_fault, values_of}
use Rattle.lrs_machine.specs.State.{State}
use Rattle.lrs_report_lists.specs.Lines.{csv_line}
use Rattle.lrs_report_lists.specs.WantedRows.{is_of_route}
use Rattle.lrs_report_answers.specs.declared.combinations.Combination.{Combination}
use Rattle.lrs_report_answers.specs.declared.fault.AskFault.{AskFault}
use Rattle.lrs_report_answers.specs.Answers.{UnlessMemory, UnlessMissing}
use Rattle.lrs_report_answers.specs.Listings.{missing_route}
use Rattle.lrs_report_answers.specs.Overlay.{value_field}
use Rattle.lrs_report_answers.specs.RouteSegments.{UnlessRefused, class_list}

-- on this side, seen along the course, the millimetre has these values of the classes
abbrev pub has_on : State → List Name → Values → LinkSide → Ground → Bool
has_on s classes values side g = same_values (values_of (asset_list s) classes (λ asset. s.holds asset (beside g side))) values

-- ... on one side or the other
abbrev pub has_either : State → List Name → Values → Ground → Bool
has_either s classes values g = has_on s classes values Left g || has_on s classes values Right g

-- how many millimetres of routes are so
abbrev pub count_on : (Ground → Bool) → List RouteRow → ℕ
count_on is_so routes = sum_by (λ e. count_by is_so e.route.course) routes

-- The lengths are those of the values.
pub record HasLengths (s : State) (classes : List Name) (routes : List RouteRow) (c : Combination) : Type 0 where
  pub left_is : c.left ≡ count_on (has_on s classes c.values Left) routes
  pub right_is : c.right ≡ count_on (has_on s classes c.values Right) routes
  pub length_is : c.length ≡ count_on (has_either s classes c.values) routes

-- no value before each value, and values by the bytes of their texts
abbrev pub value_before : Option Name → Option Name → Bool
value_before None None = false
value_before None (Some other) = true
value_before (Some value) None = false
value_before (Some value) (Some other) = name_before value other

-- by the first class whose values differ
abbrev pub values_before : Values → Values → Bool
values_before [] others = false
values_before (x ∷ xs) [] = false
values_before (x ∷ xs) (y ∷ ys) = value_before x y || (same_option same_name x y && values_before xs ys)

abbrev pub combination_before : Combination → Combination → Bool
combination_before a b = values_before a.values b.values

-- In order, one for each combination that some millimetre has on some side, and for no others, with their lengths.
pub record AreCombinationsOn (s : State) (classes : List Name) (routes : List RouteRow) (combinations : List Combination) : Type 0 where
  pub order : each_two combination_before combinations ≡ true
  pub exact : (values : Values) → list_any (λ c. same_values c.values values) combinations ≡ list_any (λ e. list_any (has_either s classes values) e.route.course) routes
  pub counts : AllByRecursion (HasLengths s classes routes) combinations

-- ... on the route of a name, or on all routes
abbrev pub AreCombinations : Image → Option Name → List Name → List Combination → Type 0
AreCombinations i route classes = AreCombinationsOn (state_of i) classes (filter (is_of_route route) i.routes)

-- no two lists are the combinations of the same classes on the same routes
abbrev pub CombinationsAreUnique : Type 0
CombinationsAreUnique = (i : Image) (route : Option Name) (classes : List Name) (xs ys : List Combination) → AreCombinations i route classes xs → AreCombinations i route classes ys → xs ≡ ys

-- The answer is the combinations; or the route is missing, or the first fault of the classes.
abbrev pub AreCombinationsOf : Image → Option Name → List Name → Result (List Combination) AskFault → Type 0
AreCombinationsOf i route classes =
    UnlessMissing (missing_route i route) (UnlessRefused (segment_fault (class_list (state_of i)) classes L) (UnlessMemory (AreCombinations i route classes)))

-- ---- their lines

-- fields, a comma behind each
abbrev pub fields_behind : List Text → Text
fields_behind fs = flat_map (λ f. f ++ 44 ∷ []) fs

-- the lengths in metres
abbrev pub lengths_line : Combination → Text
lengths_line c = csv_line (metres_text c.left ∷ metres_text c.right ∷ metres_text c.length ∷ [])

-- the value of each class, empty where there is none, and the lengths
abbrev pub combination_line : Combination → Text
combination_line c = fields_behind (map value_field c.values) ++ lengths_line c

abbrev pub combinations_header : List Name → Text
combinations_header classes = fields_behind classes ++ csv_line (codes "left" ∷ codes "right" ∷ codes "length" ∷ [])

abbrev pub combinations_text : List Name → List Combination → Text
combinations_text classes combinations = combinations_header classes ++ flat_map combination_line combinations
