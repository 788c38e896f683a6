-- The headline: over every list of sheets, surveys and requests, tables and answers are those of the ground machine.
use Rattle.std.specs.Prelude.{◌≡◌, ◌⊎◌, ℕ, ◌+◌, false, true, List, [], ◌∷◌, ◌++◌, length, map, Some, None, Result, Ok, Err}
use Rattle.lrs_measure.specs.MaximalRuns.{HaveValues, IsChain, neighbours_differ}
use Rattle.lrs_measure.specs.Runs.{Run}
use Rattle.lrs_measure.specs.Texts.{Name, same_name}
use Rattle.lrs_element.specs.declared.link.Ground.{Ground}
use Rattle.lrs_events.specs.declared.side.LinkSide.{LinkSide}
use Rattle.lrs_events.specs.Places.{beside}
use Rattle.lrs_position.specs.Locations.{Alignment}
use Rattle.lrs_machine.specs.Image.{state_of}
use Rattle.lrs_machine.specs.Laws.{AddsUp, IsExclusive, IsLawful, SameAssets, is_route_edit, once}
use Rattle.lrs_machine.specs.Lines.{Text, line_of}
use Rattle.lrs_machine.specs.Machine.{Record, line_at, next, place_of_key, state_after, step_record}
use Rattle.lrs_machine.specs.Readings.{asset_list, segments_on}
use Rattle.lrs_machine.specs.Register.{get}
use Rattle.lrs_machine.specs.Segments.{Values, same_values, values_of}
use Rattle.lrs_machine.specs.State.{State}
use Rattle.lrs_machine.specs.declared.answer.Answer.TheVariants.{Refused}
use Rattle.lrs_machine.specs.declared.answer.Cause.{Cause}
use Rattle.lrs_machine.specs.declared.answer.Cause.TheVariants.{KeyUsed}
use Rattle.lrs_machine.specs.declared.answer.Limits.{Limits}
use Rattle.lrs_machine.specs.declared.image.Image.{Image}
use Rattle.lrs_machine.specs.declared.table.Table.{Table}
use Rattle.lrs_image.specs.KeeperCalls.{HoldsOnly}
use Rattle.lrs_desk.specs.DeskView.{DeskView}
use Rattle.lrs_sheet_records.specs.declared.sheet.Sheet.{Sheet}
use Rattle.lrs_sheet_records.specs.declared.sheet.Sheet.TheVariants as sheet
use Rattle.lrs_sheet.specs.Runs.{IsWholeRun}
use Rattle.lrs_sheet.specs.Sheets.{IsAfterCommands}
use Rattle.lrs_sheet_records.specs.declared.fault.SheetFault.{SheetFault}
use Rattle.lrs_web.specs.declared.request.WebFault.{WebFault}
use Rattle.lrs_promises.specs.declared.calls.Call.{Call}
use Rattle.lrs_promises.specs.declared.calls.Call.TheVariants as call
use Rattle.lrs_promises.specs.declared.calls.CallFault.{CallFault}
use Rattle.lrs_promises.specs.declared.calls.CallFault.TheVariants as why
use Rattle.lrs_promises.specs.Calls.{AllGive, Did, DidAll}
use Rattle.lrs_promises.specs.Safe.{RequestLeaves}

-- This is so of the state before the first of the commands, and after each.
abbrev pub Throughout : (State → Type 0) → Limits → List Record → State → Type 0
Throughout P limits commands start = (front behind : List Record) → commands ≡ front ++ behind → P (state_after limits front start)

-- This is so of each of the commands, in the state in which it is done.
abbrev pub AtEach : (Record → State → Type 0) → Limits → List Record → State → Type 0
AtEach P limits commands start = (front behind : List Record) (r : Record) → commands ≡ front ++ r ∷ behind → P r (state_after limits front start)

-- Segments begin at 0, each next one where the last ended, and the last ends at the end of the course; each has the values of its millimetres, and neighbours have different ones.
pub record CoverOnce (course : List Ground) (values : List Values) (segments : List (Run Values)) : Type 0 where
  pub chain : IsChain 0 (length course) segments
  pub valued : HaveValues 0 values segments
  pub differ : neighbours_differ same_values segments ≡ true

-- the values of each millimetre of a course on one side, for these classes
abbrev pub values_along : State → List Ground → List Name → LinkSide → List Values
values_along s course wanted side = map (values_of (asset_list s) wanted) (map (λ g. λ asset. s.holds asset (beside g side)) course)

-- So do the segments of every route, of any classes, on either side.
abbrev pub SegmentsCover : State → Type 0
SegmentsCover s = (route : Name) (a : Alignment) (wanted : List Name) (side : LinkSide) → get s.routes route ≡ Some a
    → CoverOnce a.course (values_along s a.course wanted side) (segments_on s a.course wanted side)

-- Split, join, renumber, recalibrate and turn leave what is held, with its sides, and the ledgers.
abbrev pub RouteEditLeaves : Limits → Record → State → Type 0
RouteEditLeaves limits r s = is_route_edit r.command ≡ true → SameAssets s (step_record limits r s).state

-- Why a command is refused: its key is that of another command, or it is new, and this is the first of its checks that fails.
abbrev pub IsCause : Limits → Record → State → Cause → Type 0
IsCause limits r s c =
    ((place : ℕ) × (place_of_key r.key s.done ≡ Some place) × (same_name (line_at place s.done) (line_of r.command) ≡ false) × (c ≡ KeyUsed (place + 1)))
    ⊎ ((place_of_key r.key s.done ≡ None) × (next limits r.command s ≡ Err c))

-- A command that is refused changes nothing, and names its cause.
abbrev pub RefusalLeaves : Limits → Record → State → Type 0
RefusalLeaves limits r s = (c : Cause) → (step_record limits r s).answer ≡ Refused c → ((step_record limits r s).state ≡ s) × IsCause limits r s c

-- What holds of these commands of the ground machine, from this state on.
pub record KeepsTheLaws (limits : Limits) (commands : List Record) (start : State) : Type 0 where
  -- each state is lawful: of each asset, each place that was entered is held, retired or abandoned, and only one of these
  pub lawful : Throughout IsLawful limits commands start
  -- so for each class, present is what was entered less what was retired and abandoned
  pub balance : Throughout AddsUp limits commands start
  -- no place is held by two assets of one exclusive class
  pub exclusive : Throughout IsExclusive limits commands start
  pub segments : Throughout SegmentsCover limits commands start
  pub route_edits : AtEach (RouteEditLeaves limits) limits commands start
  pub refusals : AtEach (RefusalLeaves limits) limits commands start
  -- a repeated key acts once: without each later command whose key was accepted before, the state is the same
  pub keys : state_after limits commands start ≡ state_after limits (once limits commands start) start

-- What a list of calls wrote, and what it left of the desk, is what the ground machine says.
pub record IsTheGroundMachines {K : Type 0} (holds : K → Result Image Table → Type 0) (clean : K → Type 0) (calls : List Call) (texts : List Text) (old new : DeskView K) : Type 0 where
  -- each call wrote the reply to what it read
  pub replies : DidAll holds calls texts old new
  -- the image stands for the fold of all commands that the calls gave
  pub commands : List Record
  pub given : AllGive old.limits (state_of old.image) calls commands
  pub image : state_of new.image ≡ state_after old.limits commands (state_of old.image)
  -- and the tables hold this image alone, unless a commit had failed before and they held another
  pub tables : (old.must_reopen ≡ false) ⊎ HoldsOnly (holds old.keeper) old.image → HoldsOnly (holds new.keeper) new.image
  -- ... and do hold it where the device is clean
  pub found : old.must_reopen ≡ false → clean new.keeper → holds new.keeper (Ok new.image)
  pub laws : KeepsTheLaws old.limits commands (state_of old.image)

-- ---- a list that is not done to its end

-- A sheet ended in this fault, its records done one after the other, and left what a sheet leaves. Its lines are lost.
pub record SheetLeft {K : Type 0} (holds : K → Result Image Table → Type 0) (kind : Sheet) (input : Text) (fault : CallFault) (old new : DeskView K) : Type 0 where
  pub ended : SheetFault
  pub is : fault ≡ why.Sheet ended
  pub lines : Text
  pub left : IsWholeRun holds kind 1 (Some input) old new (Some []) (Some lines) (Err ended)

-- A request ended in this fault, or with a 503, and left what a request leaves. Its reply is lost.
pub record RequestLeft {K : Type 0} (holds : K → Result Image Table → Type 0) (input : Text) (fault : CallFault) (old new : DeskView K) : Type 0 where
  pub ended : Result ℕ WebFault
  pub is : ((ended ≡ Ok 503) × (fault ≡ why.Unavailable)) ⊎ ((e : WebFault) × (ended ≡ Err e) × (fault ≡ why.Web e))
  pub reply : Text
  pub left : RequestLeaves holds (Some input) (Some []) (Some reply) old new ended

-- What a call left of a desk that ended so.
abbrev pub Left : {K : Type 0} → (K → Result Image Table → Type 0) → Call → CallFault → DeskView K → DeskView K → Type 0
Left holds (call.Edits bytes) = SheetLeft holds sheet.Edits bytes.items
Left holds (call.Survey bytes) = SheetLeft holds sheet.Survey bytes.items
Left holds (call.Request bytes) = RequestLeft holds bytes.items

-- A list of calls ended in a fault: those before one of them were done, and no other was begun behind that one.
pub record HasStopped {K : Type 0} (holds : K → Result Image Table → Type 0) (calls : List Call) (fault : CallFault) (old new : DeskView K) : Type 0 where
  pub before : List Call
  pub last : Call
  pub others : List Call
  pub are : calls ≡ before ++ last ∷ others
  pub texts : List Text
  pub mid : DeskView K
  pub replies : DidAll holds before texts old mid
  -- it ended so; or it was done too, and memory ran out behind it
  pub ended : Left holds last fault mid new ⊎ ((fault ≡ why.Memory) × (text : Text) × Did holds last text mid new)
  -- so commands were done in order, from the first call on
  pub commands : IsAfterCommands old.limits (state_of old.image) (state_of new.image)
