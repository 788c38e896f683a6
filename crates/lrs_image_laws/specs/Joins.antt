-- What a join makes of two routes.
use Rattle.std.specs.Prelude.{◌≡◌, ℕ, ◌+◌, ◌≤◌, false, true, ◌⊎◌, List, [], ◌∷◌, ◌++◌, map, length, Ok}
use Rattle.lrs_measure.specs.OrderedLists.{insert_all}
use Rattle.lrs_measure.specs.Texts.{same_name}
use Rattle.lrs_element.specs.declared.link.Ground.{Ground}
use Rattle.lrs_element.specs.Course.{is_too_long}
use Rattle.lrs_measure.specs.Limits.{most_marks}
use Rattle.lrs_measure.specs.Lists.{In}
use Rattle.lrs_element.specs.Marks.{joined_marks, is_out_of_range}
use Rattle.lrs_position.specs.declared.route.Referent.{Referent}
use Rattle.lrs_position.specs.Routes.{is_route, referent_before}
use Rattle.lrs_events.specs.declared.class.Asset.{Asset}
use Rattle.lrs_events.specs.declared.span.Span.{Span}
use Rattle.lrs_events.specs.Spans.{are_rows}
use Rattle.lrs_events.specs.Row.Joins.{IsJoin}
use Rattle.lrs_machine.specs.declared.command.Command.TheVariants as verb
use Rattle.lrs_machine.specs.declared.image.RouteRow.{RouteRow}
use Rattle.lrs_machine.specs.declared.image.Image.{Image}
use Rattle.lrs_machine.specs.Machine.{do_join, set_route, drop_route}
use Rattle.lrs_machine.specs.Image.{state_of}
use Rattle.lrs_machine.specs.Sound.{are_spans_of, IsSound}
use Rattle.lrs_image_laws.specs.CommandChanges.{Makes}
use Rattle.lrs_image_laws.specs.Rewrites.{rewritten, with_routes}

-- a referent of a course behind a number of millimetres
abbrev pub on_by : ℕ → Referent → Referent
on_by n q = record q { at = n + q.at }

-- the referents of a course of this length that continues as another
abbrev pub joined_refs : ℕ → List Referent → List Referent → List Referent
joined_refs n first second = insert_all referent_before (map (on_by n) second) first

-- no referent of the first has the name of one of the second
abbrev pub AreUnlike : List Referent → List Referent → Type 0
AreUnlike first second = (q p : Referent) → In q first → In p second → same_name q.name p.name ≡ false

-- the route that two become, one behind the other, under the name of the first; the verb's checks pass
pub record IsJoined (i : Image) (a b w : RouteRow) : Type 0 where
  pub first : In a i.routes
  pub second : In b i.routes
  pub different : same_name a.route.name b.route.name ≡ false
  pub name : w.route.name ≡ a.route.name
  pub course : w.route.course ≡ a.route.course ++ b.route.course
  pub marks : w.route.marks ≡ joined_marks a.route.marks b.route.marks
  pub refs_of : (q : Referent) → In q w.route.refs → In q a.route.refs ⊎ In q (map (on_by (length a.route.course)) b.route.refs)
  pub refs_front : (q : Referent) → In q a.route.refs → In q w.route.refs
  pub refs_rear : (q : Referent) → In q b.route.refs → In (on_by (length a.route.course) q) w.route.refs
  pub spans : are_spans_of i.assets (record { course = w.route.course; rows = w.spans }) ≡ true
  pub join : IsJoin (length a.route.course) a.spans b.spans w.spans
  pub done : do_join a.route.name b.route.name (state_of i) ≡ Ok (set_route a.route.name (a.route.course ++ b.route.course) (joined_marks a.route.marks b.route.marks) (drop_route b.route.name (state_of i)))

-- It is what the join makes, in the place of both.
abbrev pub JoinMakes : Type 0
JoinMakes = (i : Image) (a b w : RouteRow) → IsSound i → IsJoined i a b w
    → Makes (verb.Join a.route.name b.route.name) i (with_routes (rewritten (a.route.name ∷ b.route.name ∷ []) (w ∷ []) i.routes) i)

-- Two routes as one are a route, where that is not too long, has not too many marks and none out of range, and where their referents have names of their own.
abbrev pub JoinsAreRoutes : Type 0
JoinsAreRoutes = (a b : RouteRow) → is_too_long (a.route.course ++ b.route.course) ≡ false → length (joined_marks a.route.marks b.route.marks) ≤ most_marks
    → is_out_of_range (joined_marks a.route.marks b.route.marks) ≡ false → AreUnlike a.route.refs b.route.refs
    → is_route (a.route.course ++ b.route.course) (joined_marks a.route.marks b.route.marks) (joined_refs (length a.route.course) a.route.refs b.route.refs) ≡ true

-- Canonical rows that are those of two routes as one lie on it, and are of known assets, where those of both are.
abbrev pub JoinsHaveRows : Type 0
JoinsHaveRows = (assets : List Asset) (course more : List Ground) (first second rows : List Span) → are_rows rows ≡ true → IsJoin (length course) first second rows
    → are_spans_of assets (record { course = course; rows = first }) ≡ true → are_spans_of assets (record { course = more; rows = second }) ≡ true
    → are_spans_of assets (record { course = course ++ more; rows = rows }) ≡ true
