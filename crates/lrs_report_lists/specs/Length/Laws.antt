-- Laws of the lengths of values: neither side is longer than both together, and both together are no longer than the two sides; and there is one list of them.
use Rattle.std.specs.Prelude.{◌≡◌, ◌+◌, ◌≤◌, List, Option}
use Rattle.std.specs.List.{AllByRecursion}
use Rattle.lrs_measure.specs.Texts.{Name}
use Rattle.lrs_machine.specs.declared.image.Image.{Image}
use Rattle.lrs_report_lists.specs.declared.length_lists.table.ValueLength.{ValueLength}
use Rattle.lrs_report_lists.specs.Length.Lengths.{AreLengths}

pub record AreOfTwoSides (l : ValueLength) : Type 0 where
  pub left_within : l.left ≤ l.length
  pub right_within : l.right ≤ l.length
  pub no_longer : l.length ≤ l.left + l.right

-- so it is with all lengths, of one route or of all
abbrev pub LengthsAreOfTwoSides : Type 0
LengthsAreOfTwoSides = (route : Option Name) (i : Image) (lengths : List ValueLength) → AreLengths route i lengths → AllByRecursion AreOfTwoSides lengths

-- no two lists are the lengths of one route, or of all
abbrev pub LengthsAreUnique : Type 0
LengthsAreUnique = (route : Option Name) (i : Image) (xs ys : List ValueLength) → AreLengths route i xs → AreLengths route i ys → xs ≡ ys
