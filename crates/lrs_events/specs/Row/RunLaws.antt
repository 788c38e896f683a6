-- Canonical rows are the maximal runs of what they stand for and of what they hold.
use Rattle.std.specs.Prelude.{◌≡◌, ℕ, Bool, true, nat_le, nat_eq, List, map, length, Option}
use Rattle.std.specs.List.{range_with_len, list_all, filter, filter_map}
use Rattle.lrs_measure.specs.Lists.{each_two}
use Rattle.lrs_measure.specs.Texts.{Name, same_name}
use Rattle.lrs_measure.specs.Runs.{Run, runs_of, same_option}
use Rattle.lrs_element.specs.declared.link.Ground.{Ground}
use Rattle.lrs_events.specs.declared.side.Side.{Side}
use Rattle.lrs_events.specs.declared.side.LinkSide.TheVariants.{Left, Right}
use Rattle.lrs_events.specs.declared.span.Span.{Span}
use Rattle.lrs_events.specs.Canonical.{side_of, held_run, canonical_rows}
use Rattle.lrs_events.specs.Members.{is_member}
use Rattle.lrs_events.specs.Places.{Place}
use Rattle.lrs_events.specs.Spans.{are_rows, same_side, holds_by_spans}
use Rattle.lrs_events.specs.Row.Members.{is_of, are_off, IsFewest}
use Rattle.lrs_events.specs.Row.CourseMembers.{is_once}

-- a row without its class and asset
abbrev pub row_run : Span → Run Side
row_run r = record { from = r.from; to = r.to; value = r.side }

-- the rows of an asset of a class
abbrev pub rows_of_class : Name → ℕ → List Span → List Span
rows_of_class class asset rows = filter (is_of class asset) rows

-- the rows of an asset
abbrev pub rows_of_asset : ℕ → List Span → List Span
rows_of_asset asset rows = filter (λ r. nat_eq r.asset asset) rows

-- no row ends behind this chainage
abbrev pub end_within : ℕ → List Span → Bool
end_within len rows = list_all (λ r. nat_le r.to len) rows

-- on which side or sides of a millimetre the rows say that an asset of a class is
abbrev pub member_side : List Span → Name → ℕ → ℕ → Option Side
member_side rows class asset j = side_of (is_member rows class asset j Left) (is_member rows class asset j Right)

-- the maximal runs of millimetres, on a route of this length, where the rows say that it is on the same side or sides
abbrev pub member_runs : ℕ → List Span → Name → ℕ → List (Run Side)
member_runs len rows class asset = filter_map held_run (runs_of (same_option same_side) (map (member_side rows class asset) (range_with_len 0 len)))

-- The rows of each asset of each class are the maximal runs of what the rows stand for.
abbrev pub RowsAreRuns : Type 0
RowsAreRuns = (len : ℕ) (rows : List Span) → are_rows rows ≡ true → end_within len rows ≡ true
    → (class : Name) (asset : ℕ) → map row_run (rows_of_class class asset rows) ≡ member_runs len rows class asset

-- The rows of each asset are the canonical rows of what they hold on the course of their route.
abbrev pub RowsAreCanonical : Type 0
RowsAreCanonical = (course : List Ground) (rows : List Span) → is_once course ≡ true → are_rows rows ≡ true → end_within (length course) rows ≡ true
    → (asset : ℕ) → map row_run (rows_of_asset asset rows) ≡ canonical_rows (holds_by_spans course rows asset) course

-- two lists of rows hold the same on a course
abbrev pub HoldSame : List Ground → List Span → List Span → Type 0
HoldSame course xs ys = (asset : ℕ) (p : Place) → holds_by_spans course xs asset p ≡ holds_by_spans course ys asset p

-- The runs of the rows of each asset are determined by what is held on the course.
abbrev pub HeldRunsAreOne : Type 0
HeldRunsAreOne = (course : List Ground) (xs ys : List Span) → is_once course ≡ true
    → are_rows xs ≡ true → end_within (length course) xs ≡ true → are_rows ys ≡ true → end_within (length course) ys ≡ true
    → HoldSame course xs ys → (asset : ℕ) → map row_run (rows_of_asset asset xs) ≡ map row_run (rows_of_asset asset ys)

-- the rows have the classes of their assets
abbrev pub are_of_class : (ℕ → Name) → List Span → Bool
are_of_class class_of rows = list_all (λ r. same_name r.class (class_of r.asset)) rows

-- Rows are determined by the course of their route, by what is held on it, and by the classes of the assets.
abbrev pub HeldRowsAreOne : Type 0
HeldRowsAreOne = (course : List Ground) (class_of : ℕ → Name) (xs ys : List Span) → is_once course ≡ true
    → are_rows xs ≡ true → end_within (length course) xs ≡ true → are_of_class class_of xs ≡ true
    → are_rows ys ≡ true → end_within (length course) ys ≡ true → are_of_class class_of ys ≡ true
    → HoldSame course xs ys → xs ≡ ys

-- No rows that hold the same are fewer, where none ends behind the course and no asset has two of them over one millimetre:
-- each row begins where one of those of its asset does.
abbrev pub HeldRowsAreFewest : Type 0
HeldRowsAreFewest = (course : List Ground) (xs ys : List Span) → is_once course ≡ true
    → are_rows xs ≡ true → end_within (length course) xs ≡ true → each_two are_off ys ≡ true → end_within (length course) ys ≡ true
    → HoldSame course xs ys → IsFewest xs ys
