-- How combinations are counted: entries of values that may stand more than once, of both sides of each stretch, and added up.
use Rattle.std.specs.Prelude.{◌≡◌, ℕ, ◌+◌, ◌-◌, ◌<◌, ◌≤◌, ◌^◌, min, Bool, true, false, ◌||◌, not, nat_le, if◌then◌else◌, List, [], ◌∷◌, ◌++◌, length, take, drop, sum_by, count_by, Option, Some, None, slice_get}
use Rattle.std.specs.List.{list_all, list_any}
use Rattle.std.specs.Option.{option_cmp}
use Rattle.std.specs.Cmp.Lexicographic.{slice_cmp}
use Rattle.std.specs.declared.cmp.Ordering.{Ordering}
use Rattle.std.specs.Ordering.{is_lt}
use Rattle.lrs_measure.specs.Lists.{each_two}
use Rattle.lrs_measure.specs.Texts.{Name, name_cmp}
use Rattle.lrs_element.specs.declared.link.Ground.{Ground}
use Rattle.lrs_events.specs.Places.{beside}
use Rattle.lrs_events.specs.declared.side.LinkSide.{LinkSide}
use Rattle.lrs_events.specs.declared.side.LinkSide.TheVariants as side
use Rattle.lrs_machine.specs.declared.image.RouteRow.{RouteRow}
use Rattle.lrs_machine.specs.declared.segment.Segment.{Segment}
use Rattle.lrs_machine.specs.Readings.{asset_list}
use Rattle.lrs_machine.specs.Segments.{Values, same_values, values_of}
use Rattle.lrs_machine.specs.State.{State}
use Rattle.lrs_report_answers.specs.declared.combinations.Combination.{Combination}
use Rattle.lrs_report_answers.specs.declared.combinations.table.Part.{Part}
use Rattle.lrs_report_answers.specs.declared.combinations.table.Part.TheVariants.{Left, Right, Either}
use Rattle.lrs_report_answers.specs.Combinations.{count_on, has_either, has_on}

-- ---- entries

abbrev pub entry_of : Values → ℕ → ℕ → ℕ → Combination
entry_of values left right length = record { values = values; left = left; right = right; length = length }

-- what so many millimetres have, with these values on the left side and on the right one
abbrev pub entries_over : Values → Values → ℕ → List Combination
entries_over a b n = if same_values a b then entry_of a n n n ∷ [] else entry_of a n 0 n ∷ entry_of b 0 n n ∷ []

abbrev pub has_values : Values → Combination → Bool
has_values values c = same_values c.values values

abbrev pub part_of : Part → Combination → ℕ
part_of Left c = c.left
part_of Right c = c.right
part_of Either c = c.length

-- what the entries of these values have together
abbrev pub total_of : Part → Values → List Combination → ℕ
total_of part values entries = sum_by (λ c. if has_values values c then part_of part c else 0) entries

-- ---- what they are to count

-- on the left side, on the right one, or on either, the millimetre has these values of the classes
abbrev pub is_counted : State → List Name → Part → Values → Ground → Bool
is_counted s classes Left values = has_on s classes values side.Left
is_counted s classes Right values = has_on s classes values side.Right
is_counted s classes Either values = has_either s classes values

-- Together with what is left to count the entries count what others did with all that is to be counted.
pub record Count (s : State) (classes : List Name) (before : List Combination) (all : List Ground) (entries : List Combination) (left : List Ground) : Type 0 where
  pub totals : (part : Part) (values : Values) → total_of part values entries + count_by (is_counted s classes part values) left ≡ total_of part values before + count_by (is_counted s classes part values) all
  pub exact : (values : Values) → (list_any (has_values values) entries || list_any (has_either s classes values) left) ≡ (list_any (has_values values) before || list_any (has_either s classes values) all)

-- ... of whole routes
pub record CountRoutes (s : State) (classes : List Name) (entries : List Combination) (left all : List RouteRow) : Type 0 where
  pub totals : (part : Part) (values : Values) → total_of part values entries + count_on (is_counted s classes part values) left ≡ count_on (is_counted s classes part values) all
  pub exact : (values : Values) → (list_any (has_values values) entries || list_any (λ e. list_any (has_either s classes values) e.route.course) left) ≡ list_any (λ e. list_any (has_either s classes values) e.route.course) all

-- ---- two sides of a route

-- From a chainage on both sides have these entries up to the end of the first of the two segments.
pub record Joins (at : ℕ) (left right : Segment) (before after : List Combination) (to : ℕ) : Type 0 where
  pub end : to ≡ min left.to right.to
  pub more : after ≡ before ++ entries_over left.values right.values (to - at)

-- the first segment ends at the chainage or before
abbrev pub has_ended : ℕ → Option Segment → Bool
has_ended at None = false
has_ended at (Some s) = nat_le s.to at

-- without the first segment where it has ended
abbrev pub unless_ended : ℕ → List Segment → List Segment
unless_ended at segments = if has_ended at (slice_get segments 0) then drop 1 segments else segments

-- The segments go on from a chainage to the end of the course, and each of its millimetres has the values of its segment.
abbrev pub LieOn : (Ground → Values) → List Ground → ℕ → List Segment → Type 0
LieOn values course at [] = at ≡ length course
LieOn values course at (s ∷ ss) =
    (at < s.to) × (s.to ≤ length course) × ((k : ℕ) (g : Ground) → at ≤ k → k < s.to → slice_get course k ≡ Some g → values g ≡ s.values) × LieOn values course s.to ss

-- the values of the classes on a side of a millimetre
abbrev pub values_beside : State → List Name → LinkSide → Ground → Values
values_beside s classes side g = values_of (asset_list s) classes (λ asset. s.holds asset (beside g side))

-- Both sides go on from a chainage, and what is before it is counted.
pub record Walks (s : State) (classes : List Name) (course : List Ground) (before entries : List Combination) (at : ℕ) (lefts rights : List Segment) : Type 0 where
  pub left : LieOn (values_beside s classes side.Left) course at lefts
  pub right : LieOn (values_beside s classes side.Right) course at rights
  pub count : Count s classes before course entries (drop at course)

-- ---- their order

-- the first values that differ decide, where one is none it comes first
abbrev pub values_cmp : Values → Values → Ordering
values_cmp = slice_cmp (option_cmp name_cmp)

abbrev pub is_ahead : Combination → Combination → Bool
is_ahead a b = is_lt (values_cmp a.values b.values)

abbrev pub not_behind : Combination → Combination → Bool
not_behind a b = not (is_ahead b a)

-- The first so many have the values of the first one, and the others come later.
pub record IsGroup (first : Combination) (entries : List Combination) (count : ℕ) : Type 0 where
  pub some : 0 < count
  pub within : count ≤ length entries
  pub has_first : list_any (has_values first.values) (take count entries) ≡ true
  pub alike : list_all (has_values first.values) (take count entries) ≡ true
  pub later : list_all (is_ahead first) (drop count entries) ≡ true
  pub order : each_two not_behind (drop count entries) ≡ true

-- ---- the table

-- no sum is too great
abbrev pub Fit : List Combination → Type 0
Fit entries = (part : Part) (values : Values) → total_of part values entries < 2 ^ 64

-- In order, one for each values that some entry has and for no others, with what these entries have together.
pub record IsTable (entries rows : List Combination) : Type 0 where
  pub order : each_two is_ahead rows ≡ true
  pub exact : (values : Values) → list_any (has_values values) rows ≡ list_any (has_values values) entries
  pub totals : (part : Part) (values : Values) → total_of part values rows ≡ total_of part values entries
