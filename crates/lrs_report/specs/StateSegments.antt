-- Segments in the state that an image stands for.
use Rattle.std.specs.Prelude.{◌≡◌, ℕ, true, List, length, Some, slice_get}
use Rattle.std.specs.List.{list_all}
use Rattle.lrs_measure.specs.Lists.{each_two}
use Rattle.lrs_measure.specs.Texts.{Name}
use Rattle.lrs_element.specs.declared.link.Ground.{Ground}
use Rattle.lrs_events.specs.declared.side.LinkSide.{LinkSide}
use Rattle.lrs_events.specs.declared.span.Span.{Span}
use Rattle.lrs_events.specs.Places.{beside}
use Rattle.lrs_events.specs.Row.CourseMembers.{is_held}
use Rattle.lrs_machine.specs.declared.image.Image.{Image}
use Rattle.lrs_machine.specs.State.{State}
use Rattle.lrs_machine.specs.Image.{state_of}
use Rattle.lrs_machine.specs.Laws.{IsExclusive}
use Rattle.lrs_machine.specs.Readings.{segments_on}
use Rattle.lrs_machine.specs.Sound.{asset_before, class_before, is_span}
use Rattle.lrs_machine.specs.Segments.{segments_of}
use Rattle.lrs_report.specs.SideValues.{holders_along, AreExclusive}

-- the rows of a route say who holds what lies beside its course
abbrev pub TellHolders : State → List Ground → List Span → Type 0
TellHolders s course rows = (asset j : ℕ) (g : Ground) (side : LinkSide) → slice_get course j ≡ Some g → s.holds asset (beside g side) ≡ is_held rows asset j side

-- Segments by such rows are those of the state.
abbrev pub SegmentsAreOfState : Type 0
SegmentsAreOfState = (i : Image) (course : List Ground) (rows : List Span) (wanted : List Name) (side : LinkSide) → TellHolders (state_of i) course rows
    → segments_of i.assets wanted (holders_along rows side (length course)) ≡ segments_on (state_of i) course wanted side

-- By such rows no two assets of an exclusive class hold one millimetre on one side, where that is so in the state.
abbrev pub ExclusiveByRows : Type 0
ExclusiveByRows = (i : Image) (course : List Ground) (rows : List Span) → IsExclusive (state_of i) → each_two asset_before i.assets ≡ true → each_two class_before i.classes ≡ true
    → list_all (is_span i.assets (length course)) rows ≡ true → TellHolders (state_of i) course rows → AreExclusive i.classes rows
