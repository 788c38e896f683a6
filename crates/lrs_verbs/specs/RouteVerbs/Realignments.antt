-- What the checks of a realignment give, and what it changes.
use Rattle.std.specs.Prelude.{◌-◌, filter, ◌≡◌, ℕ, ◌+◌, ◌||◌, ◌&&◌, true, false, nat_lt, nat_eq, List, [], map, length, slice_range, Option, Some, None, Result, Ok}
use Rattle.std.specs.List.{AllByRecursion, list_all}
use Rattle.lrs_inventory.specs.Prelude.{each_two, Name, Ground, Piece, Mark, course_of, is_too_long, IsFilled, Referent, has_row, Span, are_rows, span_before, holds_by_spans, is_within, Cause, RouteRow, ◌>>=◌, ◌>>◌, State, Difference, spans_after, AreGone, rerouting}
use Rattle.lrs_measure.specs.Lists.{is_nothing}
use Rattle.lrs_events.specs.Row.Removals.{IsThat}
use Rattle.lrs_events.specs.RouteSpans.Realignment.{IsRealigned}
use Rattle.lrs_machine.specs.declared.answer.Cause.TheVariants as cause
use Rattle.lrs_machine.specs.Machine.{refuse_if, check_pieces, check_free}
use Rattle.lrs_machine.specs.State.{Abandoned}
use Rattle.lrs_image.specs.declared.change.ReferentChange.{ReferentChange}
use Rattle.lrs_image_laws.specs.Realignments.{replaced}
use Rattle.lrs_inventory.specs.declared.plan.GroundChange.{GroundChange}
use Rattle.lrs_inventory.specs.declared.plan.ReferentPlaces.{ReferentPlaces}
use Rattle.lrs_inventory.specs.declared.plan.Plan.{Plan}
use Rattle.lrs_verbs.specs.declared.routes.realign.NewLine.{NewLine}
use Rattle.lrs_verbs.specs.declared.routes.realign.Realigned.{Realigned}
use Rattle.lrs_inventory.specs.NewCourses.{new_marks}
use Rattle.lrs_verbs.specs.RouteVerbs.Splits.{refs_behind}

-- The stretch lies on a course of this length, and something comes for it or something goes.
abbrev pub check_stretch : ℕ → ℕ → ℕ → List Piece → Result (Unit {0}) Cause
check_stretch len from to pieces = do
  refuse_if (nat_lt len from || nat_lt len to) cause.OffRoute
  refuse_if (nat_lt to from || (nat_eq from to && is_nothing pieces)) cause.Empty

-- This course, where it is not too long.
abbrev pub short_course : List Ground → Result (List Ground) Cause
short_course course = do
  refuse_if (is_too_long course) cause.TooLong
  Ok course

-- The course of these pieces, over which no route runs.
abbrev pub free_course : State → List Piece → Result (List Ground) Cause
free_course s pieces = do
  check_pieces s pieces
  check_free s pieces
  short_course (course_of pieces)

-- The new course and its marks, where these pieces come for a stretch of a course.
abbrev pub new_line : State → List Ground → ℕ → ℕ → List Piece → List Mark → Result NewLine Cause
new_line s old from to pieces marks = do
  come ← free_course s pieces
  course ← short_course (replaced from to come old)
  refuse_if (is_nothing course) cause.NothingLeft
  line ← new_marks (length course) marks
  Ok (record { come = come; course = course; marks = line })

-- the referents that stand on a stretch
abbrev pub refs_on : ℕ → ℕ → List Referent → List Referent
refs_on from to refs = filter (λ q. is_within from to q.at) refs

-- a referent as far behind one chainage as it stands behind another
abbrev pub on_from : ℕ → ℕ → Referent → Referent
on_from to at q = record q { at = at + (q.at - to) }

-- the referents from a stretch on go, and those behind it come again, behind what replaces it
abbrev pub referents_moved : ℕ → ℕ → ℕ → List Referent → ReferentChange
referents_moved from to len refs = record { gone = map (λ q. q.name) (refs_behind from refs); come = map (on_from to (from + len)) (refs_behind to refs) }

-- What becomes of the route of an entry on a new line, by an edit, and of what lay and stood on the stretch.
pub record IsOnNewLine (edit : ℕ) (e : RouteRow) (from to : ℕ) (line : NewLine) (h : Realigned) : Type 0 where
  pub route : h.change.route ≡ e.route.name
  pub name : h.change.name ≡ e.route.name
  pub course : h.change.course ≡ Some line.course
  pub short : is_too_long line.course ≡ false
  pub marks : h.change.marks ≡ Some line.marks
  pub refs : h.change.refs ≡ referents_moved from to (length line.come) e.route.refs
  pub rows : are_rows (spans_after h.change e.spans) ≡ true
  pub spans_gone : each_two span_before h.change.spans_gone ≡ true
  pub spans_there : list_all (has_row e.spans) h.change.spans_gone ≡ true
  pub realigned : IsRealigned from to (length line.come) e.spans (spans_after h.change e.spans)
  pub left : List Span
  pub left_are : IsThat (λ class asset j s. is_within from to j) e.spans left
  pub abandoned : AreGone edit Abandoned (holds_by_spans e.route.course left) h.abandoned
  pub freed : course_of h.freed ≡ slice_range e.route.course from to
  pub freed_filled : AllByRecursion IsFilled h.freed
  pub come : course_of h.come ≡ line.come
  pub come_filled : AllByRecursion IsFilled h.come
  pub names : h.names ≡ map (λ q. q.name) (refs_on from to e.route.refs)

-- the plan of a difference, with what it changes of the ground and of referents
abbrev pub plan_with : (ground : Option GroundChange) (referents : ReferentPlaces) (d : Difference) → Plan
plan_with ground referents d = record { difference = d; ground = ground; referents = referents }

-- the plan by which a route is realigned: the ground of the stretch is free, and its referents stand nowhere any more
abbrev pub realigned_plan : Name → Realigned → Plan
realigned_plan route h = plan_with (Some (record { route = route; gone = h.freed; passed = []; come = h.come })) (record { come = None; gone = h.names }) (record (rerouting (Some h.change) None None) { gone = h.abandoned })
