-- The sweep over columns: segments as runs, and what is passed in one step.
use Rattle.std.specs.Prelude.{◌≡◌, ℕ, ◌<◌, ◌≤◌, ◌-◌, ◌^◌, List, [], ◌∷◌, length, map, Option, Some, None, ⊤}
use Rattle.std.specs.List.{AllByRecursion, range_with_len}
use Rattle.lrs_measure.specs.Runs.{Run, runs_from}
use Rattle.lrs_machine.specs.Segments.{Values, same_values}
use Rattle.lrs_machine.specs.declared.segment.Segment.{Segment}
use Rattle.lrs_report.specs.declared.columns.ValueStretch.{ValueStretch}
use Rattle.lrs_report.specs.Columns.{IsColumn, values_at}

-- a segment as a run of values
abbrev pub run_of : Segment → Run Values
run_of s = record { from = s.from; to = s.to; value = s.values }

-- ... and back
abbrev pub segment_of : Run Values → Segment
segment_of r = record { from = r.from; to = r.to; values = r.value }

-- the segments of columns from a chainage up to another
abbrev pub segments_between : List (List ValueStretch) → ℕ → ℕ → List Segment
segments_between columns from to = map segment_of (runs_from same_values from (map (values_at columns) (range_with_len from (to - from))))

-- columns go on behind a segment, and have a value or none for each of its values
pub record CanGoOn (s : Segment) (cs : List (List ValueStretch)) (len : ℕ) : Type 0 where
  pub ahead : s.from < s.to
  pub within : s.to ≤ len
  pub columns : AllByRecursion (IsColumn s.to len) cs
  pub values : length s.values ≡ length cs
  pub fits : len < 2 ^ 64

-- a first segment, if there is one, and those of the columns behind it
abbrev pub segments_from : Option Segment → List (List ValueStretch) → ℕ → List Segment
segments_from None columns len = []
segments_from (Some s) columns len = s ∷ segments_between columns s.to len

abbrev pub HasBegun : Option Segment → List (List ValueStretch) → ℕ → Type 0
HasBegun None columns len = ⊤
HasBegun (Some s) columns len = CanGoOn s columns len

-- columns from a chainage on had these values up to another, and are now as they were from there on
pub record IsPassed (from len : ℕ) (values : Values) (old : List (List ValueStretch)) (to : ℕ) (new : List (List ValueStretch)) : Type 0 where
  pub ahead : from < to
  pub within : to ≤ len
  pub columns : AllByRecursion (IsColumn to len) new
  pub along : (j : ℕ) → from ≤ j → j < to → values_at old j ≡ values
  pub rest : (j : ℕ) → to ≤ j → values_at new j ≡ values_at old j
