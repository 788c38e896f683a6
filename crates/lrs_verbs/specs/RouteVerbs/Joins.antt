-- A route that continues as another.
use Rattle.std.specs.Prelude.{◌++◌, ◌≡◌, true, nat_lt, List, [], map, length, Some, Result, Ok}
use Rattle.std.specs.List.{list_all}
use Rattle.lrs_inventory.specs.Prelude.{each_two, Ground, Mark, is_too_long, has_row, are_rows, span_before, end_by, Cause, RouteRow, ◌>>◌, RouteChange, spans_after}
use Rattle.lrs_measure.specs.Limits.{most_marks}
use Rattle.lrs_element.specs.Marks.{joined_marks, is_out_of_range}
use Rattle.lrs_events.specs.Row.Joins.{have_room, are_of_one_class, IsJoin}
use Rattle.lrs_machine.specs.declared.answer.Cause.TheVariants as cause
use Rattle.lrs_machine.specs.Machine.{refuse_if}
use Rattle.lrs_image_laws.specs.Joins.{on_by}

-- The course of two routes as one.
abbrev pub joined_course : List Ground → List Ground → Result (List Ground) Cause
joined_course first second = do
  refuse_if (is_too_long (first ++ second)) cause.TooLong
  Ok (first ++ second)

-- Their marks as those of one.
abbrev pub joined_line : List Mark → List Mark → Result (List Mark) Cause
joined_line first second = do
  refuse_if (nat_lt most_marks (length (joined_marks first second))) cause.TooLong
  refuse_if (is_out_of_range (joined_marks first second)) cause.MeasureRange
  Ok (joined_marks first second)

-- The rows of the first end with its course, those of the second have room behind it, and an asset is of one class on both.
pub record CanGoOn (a b : RouteRow) : Type 0 where
  pub ends : end_by (length a.route.course) a.spans ≡ true
  pub room : have_room (length a.route.course) b.spans ≡ true
  pub one_class : are_of_one_class a.spans b.spans ≡ true

-- What becomes of the first route of two: it goes on as the second.
pub record GoesOn (a b : RouteRow) (c : RouteChange) : Type 0 where
  pub route : c.route ≡ a.route.name
  pub name : c.name ≡ a.route.name
  pub course : c.course ≡ Some (a.route.course ++ b.route.course)
  pub marks : c.marks ≡ Some (joined_marks a.route.marks b.route.marks)
  pub refs_gone : c.refs.gone ≡ []
  pub refs_come : c.refs.come ≡ map (on_by (length a.route.course)) b.route.refs
  pub rows : are_rows (spans_after c a.spans) ≡ true
  pub spans_gone : each_two span_before c.spans_gone ≡ true
  pub spans_there : list_all (has_row a.spans) c.spans_gone ≡ true
  pub join : IsJoin (length a.route.course) a.spans b.spans (spans_after c a.spans)
