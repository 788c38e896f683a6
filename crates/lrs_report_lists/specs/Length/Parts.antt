-- How lengths are counted: what rows hold, as stretches of one axis along which the routes lie one behind the other.
use Rattle.std.specs.Prelude.{◌≡◌, ℕ, ◌+◌, ◌-◌, ◌<◌, ◌≤◌, ◌^◌, max, Bool, true, ◌||◌, ◌&&◌, not, nat_eq, nat_le, nat_lt, if◌then◌else◌, List, [], ◌∷◌, ◌++◌, length, take, drop, count_by, Option, Some, None}
use Rattle.std.specs.List.{list_all, list_any, flat_map, range_with_len, AllByRecursion}
use Rattle.std.specs.Option.{option_map_or}
use Rattle.lrs_measure.specs.Lists.{each_two}
use Rattle.lrs_measure.specs.Texts.{Name, same_name}
use Rattle.lrs_events.specs.declared.class.Asset.{Asset}
use Rattle.lrs_events.specs.declared.side.Side.{Side}
use Rattle.lrs_events.specs.declared.span.Span.{Span}
use Rattle.lrs_machine.specs.declared.image.RouteRow.{RouteRow}
use Rattle.lrs_report_lists.specs.Lines.{asset_numbered}
use Rattle.lrs_report_lists.specs.declared.length_lists.entries.LengthEntry.{LengthEntry}
use Rattle.lrs_report_lists.specs.declared.length_lists.held_lengths.HeldLength.{HeldLength}
use Rattle.lrs_report_lists.specs.declared.length_lists.held_lengths.Reach.{Reach}
use Rattle.lrs_report_lists.specs.declared.length_lists.held_lengths.Reach.TheVariants.{Left, Right, Either}
use Rattle.lrs_report_lists.specs.declared.length_lists.table.ValueLength.{ValueLength}
use Rattle.lrs_report_lists.specs.Length.Lengths.{has_either, has_left, has_right, is_length_of, key_before, length_before}

-- ---- stretches

-- what an asset holds by a row of the route that begins there
abbrev pub entry_of : ℕ → Span → Asset → LengthEntry
entry_of start r a = record { asset = r.asset; class = r.class; value = a.value; from = start + r.from; to = start + r.to; side = r.side }

abbrev pub known_entry : ℕ → Span → Option Asset → List LengthEntry
known_entry start r None = []
known_entry start r (Some a) = entry_of start r a ∷ []

abbrev pub row_entry : List Asset → ℕ → Span → List LengthEntry
row_entry assets start r = known_entry start r (asset_numbered assets r.asset)

-- what the rows of a route hold
abbrev pub entries_on : List Asset → ℕ → List Span → List LengthEntry
entries_on assets start rows = flat_map (row_entry assets start) rows

abbrev pub route_length : RouteRow → ℕ
route_length e = length e.route.course

-- ... of routes, the first of which begins there
abbrev pub entries_of : List Asset → ℕ → List RouteRow → List LengthEntry
entries_of assets start [] = []
entries_of assets start (e ∷ es) = entries_on assets start e.spans ++ entries_of assets (start + route_length e) es

-- a row that lies on its route fits behind the routes before it
pub record FitsFrom (start : ℕ) (r : Span) : Type 0 where
  pub from_fits : start + r.from < 2 ^ 64
  pub to_fits : start + r.to < 2 ^ 64

-- the rows lie on their route
abbrev pub lies_on : ℕ → Span → Bool
lies_on len r = nat_le r.from r.to && nat_le r.to len

abbrev pub has_rows_on : RouteRow → Bool
has_rows_on e = list_all (lies_on (route_length e)) e.spans

-- the route alone, where there is one
abbrev pub list_of : Option RouteRow → List RouteRow
list_of o = option_map_or (λ e. e ∷ []) o []

-- ---- their order

abbrev pub is_entry_of : Name → Name → LengthEntry → Bool
is_entry_of class value e = same_name e.class class && same_name e.value value

-- by class, then value, then start
abbrev pub entry_before : LengthEntry → LengthEntry → Bool
entry_before a b = key_before a.class a.value b.class b.value || (is_entry_of b.class b.value a && nat_lt a.from b.from)

abbrev pub not_behind : LengthEntry → LengthEntry → Bool
not_behind a b = not (entry_before b a)

abbrev pub begins_by : LengthEntry → LengthEntry → Bool
begins_by a b = nat_le a.from b.from

-- the stretch is of a later class and value
abbrev pub is_later : LengthEntry → LengthEntry → Bool
is_later first e = key_before first.class first.value e.class e.value

-- The first so many have the class and the value of the first one, and rise; the others come later.
pub record IsGroup (first : LengthEntry) (entries : List LengthEntry) (count : ℕ) : Type 0 where
  pub some : 0 < count
  pub within : count ≤ length entries
  pub has_first : list_any (is_entry_of first.class first.value) (take count entries) ≡ true
  pub alike : list_all (is_entry_of first.class first.value) (take count entries) ≡ true
  pub rises : each_two begins_by (take count entries) ≡ true
  pub later : list_all (is_later first) (drop count entries) ≡ true
  pub order : each_two not_behind (drop count entries) ≡ true

-- ---- counts

abbrev pub reaches : Reach → Side → Bool
reaches Left = has_left
reaches Right = has_right
reaches Either = has_either

abbrev pub is_over : (Side → Bool) → ℕ → LengthEntry → Bool
is_over counted x e = nat_le e.from x && nat_lt x e.to && counted e.side

-- how many of the first n millimetres some stretch holds, on a side that is counted
abbrev pub held : (Side → Bool) → List LengthEntry → ℕ → ℕ
held counted entries n = count_by (λ x. list_any (is_over counted x) entries) (range_with_len 0 n)

-- ... some stretch of the class and the value
abbrev pub held_by : (Side → Bool) → Name → Name → List LengthEntry → ℕ → ℕ
held_by counted class value entries n = count_by (λ x. list_any (λ e. is_entry_of class value e && is_over counted x e) entries) (range_with_len 0 n)

-- the stretch ends within the first n millimetres
abbrev pub ends_by : ℕ → LengthEntry → Bool
ends_by n e = nat_le e.to n

-- one stretch more, which begins no earlier than those before it
abbrev pub longer : (Side → Bool) → HeldLength → LengthEntry → HeldLength
longer counted t e = if counted e.side then record { total = t.total + (e.to - max e.from t.end); end = max t.end e.to } else t

abbrev pub nothing_held : HeldLength
nothing_held = record { total = 0; end = 0 }

-- ---- assets

-- the number is that of one of these assets
abbrev pub is_number_of : List Asset → ℕ → Bool
is_number_of assets n = list_any (λ a. nat_eq a.number n) assets

-- how many of these assets have one of the numbers
abbrev pub numbered : List ℕ → List Asset → ℕ
numbered numbers assets = count_by (λ a. list_any (λ n. nat_eq n a.number) numbers) assets

-- the stretch is held by one of these assets
abbrev pub is_held_by : List Asset → LengthEntry → Bool
is_held_by assets e = is_number_of assets e.asset

-- how many of these assets hold some stretch
abbrev pub holders : List LengthEntry → List Asset → ℕ
holders entries assets = count_by (λ a. list_any (λ e. nat_eq e.asset a.number) entries) assets

-- ... some stretch of the class and the value
abbrev pub holders_by : Name → Name → List LengthEntry → List Asset → ℕ
holders_by class value entries assets = count_by (λ a. list_any (λ e. is_entry_of class value e && nat_eq e.asset a.number) entries) assets

-- ---- the table

-- The lengths are what stretches of the class and the value hold of the first n millimetres, and the count of assets is of those that hold them.
pub record HasHeld (n : ℕ) (assets : List Asset) (entries : List LengthEntry) (l : ValueLength) : Type 0 where
  pub left_is : l.left ≡ held_by has_left l.class l.value entries n
  pub right_is : l.right ≡ held_by has_right l.class l.value entries n
  pub length_is : l.length ≡ held_by has_either l.class l.value entries n
  pub assets_is : l.assets ≡ holders_by l.class l.value entries assets

pub record IsTable (n : ℕ) (assets : List Asset) (entries : List LengthEntry) (lengths : List ValueLength) : Type 0 where
  pub order : each_two length_before lengths ≡ true
  pub exact : (class value : Name) → list_any (is_length_of class value) lengths ≡ list_any (is_entry_of class value) entries
  pub counts : AllByRecursion (HasHeld n assets entries) lengths
