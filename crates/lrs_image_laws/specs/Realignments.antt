-- What a realignment makes of a route.
use Rattle.std.specs.Prelude.{◌≡◌, ℕ, ◌+◌, ◌-◌, ◌≤◌, Bool, true, false, not, nat_lt, if◌then◌else◌, List, [], ◌∷◌, ◌++◌, take, drop, length, slice_range, Option, Ok, unwrap_or}
use Rattle.std.specs.List.{list_all}
use Rattle.lrs_measure.specs.Lists.{In, each_two}
use Rattle.lrs_element.specs.declared.link.Ground.{Ground}
use Rattle.lrs_element.specs.declared.link.Piece.{Piece}
use Rattle.lrs_element.specs.declared.marks.Mark.{Mark}
use Rattle.lrs_element.specs.Course.{course_of, meets}
use Rattle.lrs_position.specs.declared.route.Referent.{Referent}
use Rattle.lrs_events.specs.declared.class.Asset.{Asset}
use Rattle.lrs_events.specs.declared.part.Gone.{Gone}
use Rattle.lrs_events.specs.declared.span.Span.{Span}
use Rattle.lrs_events.specs.Places.{differs}
use Rattle.lrs_events.specs.Spans.{are_rows, holds_by_spans}
use Rattle.lrs_events.specs.Row.Removals.{is_within, IsThat}
use Rattle.lrs_events.specs.RouteSpans.Realignment.{IsRealigned}
use Rattle.lrs_machine.specs.declared.command.Command.TheVariants as verb
use Rattle.lrs_machine.specs.declared.image.RouteRow.{RouteRow}
use Rattle.lrs_machine.specs.declared.image.Image.{Image}
use Rattle.lrs_machine.specs.Machine.{do_realign, set_route, abandon}
use Rattle.lrs_machine.specs.Image.{state_of}
use Rattle.lrs_machine.specs.Sound.{are_spans_of, is_on_a_link, IsSound}
use Rattle.lrs_machine.specs.State.{Abandoned}
use Rattle.lrs_image_laws.specs.CommandChanges.{Makes}
use Rattle.lrs_image_laws.specs.GoneRows.{AreGone}
use Rattle.lrs_image_laws.specs.Closures.{with_left}

-- a course with other ground for its millimetres from `from` up to `to`
abbrev pub replaced : ℕ → ℕ → List Ground → List Ground → List Ground
replaced from to come course = take from course ++ come ++ drop to course

-- whether a referent stands off the stretch
abbrev pub is_off : ℕ → ℕ → Referent → Bool
is_off from to q = not (is_within from to q.at)

-- where it stands when len millimetres come for those of the stretch
abbrev pub moved : ℕ → ℕ → ℕ → Referent → Referent
moved from to len q = record q { at = if nat_lt q.at from then q.at else (from + len) + (q.at - to) }

-- what the rows that are taken held of the stretch, as rows of the ledger
pub record IsTaken (i : Image) (r : RouteRow) (from to : ℕ) (gone : List Gone) : Type 0 where
  pub rows : List Span
  pub taken : IsThat (λ class asset j s. is_within from to j) r.spans rows
  pub gone_are : AreGone (length i.edits + 1) Abandoned (holds_by_spans r.route.course rows) gone

-- A route with other ground, known and free, for a stretch; what stood or lay on the stretch goes, and the verb's checks pass.
pub record IsRealignment (i : Image) (r w : RouteRow) (from to : ℕ) (come : List Piece) (marks : List Mark) : Type 0 where
  pub route : In r i.routes
  pub low : from ≤ to
  pub high : to ≤ length r.route.course
  pub linked : list_all (is_on_a_link i.links) (course_of come) ≡ true
  pub once : each_two differs (course_of come) ≡ true
  pub free : (e : RouteRow) → In e i.routes → meets (course_of come) e.route.course ≡ false
  pub name : w.route.name ≡ r.route.name
  pub course : w.route.course ≡ replaced from to (course_of come) r.route.course
  pub marks_are : w.route.marks ≡ marks
  pub refs_of : (q : Referent) → In q w.route.refs → (x : Referent) × In x r.route.refs × (is_off from to x ≡ true) × (q ≡ moved from to (length (course_of come)) x)
  pub refs_are : (x : Referent) → In x r.route.refs → is_off from to x ≡ true → In (moved from to (length (course_of come)) x) w.route.refs
  pub spans : are_spans_of i.assets (record { course = w.route.course; rows = w.spans }) ≡ true
  pub realigned : IsRealigned from to (length (course_of come)) r.spans w.spans
  pub done : do_realign (length i.edits + 1) r.route.name (record { from = from; to = to }) come marks (state_of i)
      ≡ Ok (set_route r.route.name (replaced from to (course_of come) r.route.course) marks (abandon (length i.edits + 1) (slice_range r.route.course from to) (state_of i)))

-- It is what the realignment makes, in the place of the route, with what lay on the stretch gone.
abbrev pub RealignMakes : Type 0
RealignMakes = (i : Image) (r w : RouteRow) (from to : ℕ) (pieces : Option (List Piece)) (marks : List Mark) (gone : List Gone) → IsSound i
    → IsRealignment i r w from to (unwrap_or pieces []) marks → IsTaken i r from to gone
    → Makes (verb.Realign r.route.name from to pieces marks) i (with_left (r.route.name ∷ []) (w ∷ []) gone i)

-- Canonical rows of a realigned route lie on its course, and are of known assets, where those of the route were.
abbrev pub RealignedHasRows : Type 0
RealignedHasRows = (assets : List Asset) (course come : List Ground) (from to : ℕ) (rows new : List Span) → from ≤ to → to ≤ length course → are_rows new ≡ true → IsRealigned from to (length come) rows new
    → are_spans_of assets (record { course = course; rows = rows }) ≡ true → are_spans_of assets (record { course = replaced from to come course; rows = new }) ≡ true
