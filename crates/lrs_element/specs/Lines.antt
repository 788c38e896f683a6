-- Marks place by place: what each of them keeps.
use Rattle.std.specs.Prelude.{◌≡◌, ℕ, ◌+◌, ◌-◌, ◌<◌, ◌≤◌, List, length, slice_index_or}
use Rattle.lrs_element.specs.declared.marks.Mark.{Mark}
use Rattle.lrs_measure.specs.Limits.{greatest_measure, most_marks}
use Rattle.lrs_element.specs.Marks.{no_mark}

abbrev pub mark_at : List Mark → ℕ → Mark
mark_at marks k = slice_index_or marks k no_mark

-- the second mark is above the first in both
pub record Rises (p q : Mark) : Type 0 where
  pub chainage : p.chainage < q.chainage
  pub measure : p.measure < q.measure

-- the marks of a course of this length
pub record IsLine (len : ℕ) (marks : List Mark) : Type 0 where
  pub enough : 2 ≤ length marks
  pub few : length marks ≤ most_marks
  pub starts : (mark_at marks 0).chainage ≡ 0
  pub rises : (k : ℕ) → k + 1 < length marks → Rises (mark_at marks k) (mark_at marks (k + 1))
  pub small : (k : ℕ) → k < length marks → (mark_at marks k).measure ≤ greatest_measure
  pub ends : (mark_at marks (length marks - 1)).chainage ≡ len

-- a mark of a second line that continues where the first line ends
abbrev pub moved_on : Mark → Mark → Mark → Mark
moved_on end start m = record { chainage = m.chainage + end.chainage; measure = (m.measure + end.measure) - start.measure }
