-- The ground machine: what each command asks, in order, and what it changes.
use Rattle.std.specs.Prelude.{ℕ, ◌+◌, Bool, true, false, ◌||◌, ◌&&◌, not, nat_lt, nat_le, nat_eq, if◌then◌else◌, List, [], ◌∷◌, ◌++◌, length, take, drop, slice_range, slice_get, Option, Some, None, is_some, is_none, Result, Ok, Err, unwrap_or}
use Rattle.std.specs.List.{list_any, position, find}
use Rattle.std.specs.Option.{option_map, option_map_or, option_and_then, ok_or}
use Rattle.lrs_measure.specs.Lists.{is_nothing}
use Rattle.lrs_measure.specs.Texts.{Name, same_name}
use Rattle.lrs_element.specs.declared.link.Link.{Link}
use Rattle.lrs_element.specs.declared.link.Piece.{Piece}
use Rattle.lrs_element.specs.declared.link.Ground.{Ground}
use Rattle.lrs_element.specs.declared.marks.Mark.{Mark}
use Rattle.lrs_measure.specs.Limits.{most_marks}
use Rattle.lrs_element.specs.Course.{Millimetre, expand, course_of, meets, runs_over, ground_at, chainage_on, turned, is_too_long, first_repeated}
use Rattle.lrs_element.specs.Marks.{bad_mark, is_out_of_range, is_inner_mark, marks_to, marks_from, joined_marks, mirrored}
use Rattle.lrs_position.specs.declared.expression.Expr.{Expr}
use Rattle.lrs_position.specs.Expressions.{Ends}
use Rattle.lrs_position.specs.Locations.{Alignment, lacks_referent, located, snap, cell}
use Rattle.lrs_events.specs.declared.class.Class.{Class}
use Rattle.lrs_events.specs.declared.class.Kind.{Kind}
use Rattle.lrs_events.specs.declared.class.Kind.TheVariants.{Point, Stretch, Exclusive}
use Rattle.lrs_events.specs.declared.side.Side.TheVariants.{B}
use Rattle.lrs_events.specs.Places.{Place, places_on, is_among, lies_on}
use Rattle.lrs_machine.specs.Segments.{is_exclusive}
use Rattle.lrs_machine.specs.declared.answer.Limits.{Limits}
use Rattle.lrs_machine.specs.declared.answer.What.TheVariants.{Edits, Assets, Routes}
use Rattle.lrs_machine.specs.declared.answer.Cause.{Cause}
use Rattle.lrs_machine.specs.declared.answer.Cause.TheVariants as cause
use Rattle.lrs_machine.specs.declared.answer.Answer.{Answer}
use Rattle.lrs_machine.specs.declared.answer.Answer.TheVariants.{Done, Again, Refused}
use Rattle.lrs_machine.specs.declared.command.NewAsset.{NewAsset}
use Rattle.lrs_machine.specs.declared.command.Command.{Command}
use Rattle.lrs_machine.specs.declared.command.Command.TheVariants as verb
use Rattle.lrs_machine.specs.Register.{get, insert, remove, contains_key, entries, len}
use Rattle.lrs_machine.specs.State.{State, Edit, Reason, Retired, Abandoned, same_reason}
use Rattle.lrs_machine.specs.Lines.{line_of}

-- One check after another: the first that fails is the answer.
infixl 10 ◌>>=◌
abbrev pub ◌>>=◌ : {A B : Type 0} → Result A Cause → (A → Result B Cause) → Result B Cause
(Ok x) >>= f = f x
(Err c) >>= f = Err c

infixl 10 ◌>>◌
abbrev pub ◌>>◌ : {A B : Type 0} → Result A Cause → Result B Cause → Result B Cause
(Ok x) >> r = r
(Err c) >> r = Err c

-- refused for this cause where the test passes
abbrev pub refuse_if : Bool → Cause → Result (Unit {0}) Cause
refuse_if true c = Err c
refuse_if false c = Ok tt

-- refused for a cause about what was found, if anything was
abbrev pub refuse_at : {A : Type 0} → Option A → (A → Cause) → Result (Unit {0}) Cause
refuse_at None c = Ok tt
refuse_at (Some x) c = Err (c x)

-- the route of this name
abbrev pub route_named : State → Name → Result Alignment Cause
route_named s name = ok_or (get s.routes name) cause.NoRoute

abbrev pub length_of_link : State → ℕ → ℕ
length_of_link s number = unwrap_or (get s.links number) 0

-- at which entry of a course a referent stands
abbrev pub referent_chainage : State → Alignment → Name → Option ℕ
referent_chainage s a name = option_and_then (chainage_on a.course) (s.referents name)

-- the chainage that a position expression locates; one that can be entered is never too fine
abbrev pub located_chainage : State → Alignment → Expr → Result (ℕ × ℕ) Cause
located_chainage s a e = do
  refuse_if (lacks_referent (referent_chainage s a) e) cause.NoRef
  ok_or (located a (referent_chainage s a) e) cause.OffRoute

-- the piece has no millimetre, or ends behind the end of its link
abbrev pub is_bad_piece : State → Piece → Bool
is_bad_piece s p = nat_le p.to p.from || nat_lt (length_of_link s p.link) p.to

-- some route runs over a millimetre of the course
abbrev pub is_taken : State → List Ground → Bool
is_taken s course = list_any (λ route. meets course route.1.course) (entries s.routes)

-- the pieces are parts of known links, and share no millimetre with each other
abbrev pub check_pieces : State → List Piece → Result (Unit {0}) Cause
check_pieces s pieces = do
  refuse_if (list_any (λ p. is_none (get s.links p.link)) pieces) cause.NoLink
  refuse_at (position (is_bad_piece s) pieces) cause.BadPiece
  refuse_at (first_repeated [] pieces) cause.Taken

-- ... and none with a route
abbrev pub check_free : State → List Piece → Result (Unit {0}) Cause
check_free s pieces = refuse_at (position (λ p. is_taken s (expand p)) pieces) cause.Taken

-- the marks are those of a course of this length
abbrev pub check_marks : ℕ → List Mark → Result (Unit {0}) Cause
check_marks len marks = refuse_at (bad_mark len marks) cause.BadMarks

-- a class of points has no end, and any other one has
abbrev pub is_wrong_kind : Kind → Option Expr → Bool
is_wrong_kind Point None = false
is_wrong_kind Point (Some e) = true
is_wrong_kind Stretch None = true
is_wrong_kind Stretch (Some e) = false
is_wrong_kind Exclusive None = true
is_wrong_kind Exclusive (Some e) = false

-- the millimetres from <= j < to of a course
pub record EventStretch : Type 0 where
  pub from : ℕ
  pub to : ℕ

-- over which millimetres something lies: a point over one, a stretch between its snapped ends
abbrev pub stretch_between : State → Alignment → Expr → Option Expr → Result EventStretch Cause
stretch_between s a first None = do
  x ← located_chainage s a first
  let j = cell (length a.course) x
  Ok (record { from = j; to = j + 1 })
stretch_between s a first (Some end) = do
  x ← located_chainage s a first
  y ← located_chainage s a end
  Ok (record { from = snap x; to = snap y })

abbrev pub located_stretch : State → Alignment → Ends → Result EventStretch Cause
located_stretch s a ends = stretch_between s a ends.from ends.to

abbrev pub is_empty_stretch : EventStretch → Bool
is_empty_stretch e = nat_le e.to e.from

-- the entries of a course that an extent has
abbrev pub part_of : List Ground → EventStretch → List Ground
part_of course e = slice_range course e.from e.to

-- the least asset of a class that holds one of the places
abbrev pub first_holder : State → Name → List Place → Option ℕ
first_holder s class places = option_map (λ a. a.0) (find (λ a. same_name a.1.class class && list_any (s.holds a.0) places) (entries s.assets))

-- The asset comes to hold the places, by edit n.
abbrev pub enter_places : ℕ → ℕ → List Place → State → State
enter_places n asset places s = record s {
  holds = λ a p. s.holds a p || (nat_eq a asset && is_among places p);
  entered = λ m a p. s.entered m a p || (nat_eq m n && nat_eq a asset && is_among places p);
}

-- The held pairs that pass the test go, by edit n and for this reason.
abbrev pub take_away : ℕ → Reason → (ℕ → Place → Bool) → State → State
take_away n reason taken s = record s {
  holds = λ a p. s.holds a p && not (taken a p);
  gone = λ m why a p. s.gone m why a p || (nat_eq m n && same_reason why reason && s.holds a p && taken a p);
}

-- a millimetre that is not one of these
abbrev pub elsewhere : List Ground → Option Millimetre → Option Millimetre
elsewhere part None = None
elsewhere part (Some m) = if runs_over part m then None else Some m

-- The millimetres leave their route, by edit n: what is held there is abandoned, and referents there go.
abbrev pub abandon : ℕ → List Ground → State → State
abandon n part s = record (take_away n Abandoned (λ a p. lies_on part p) s) {
  referents = λ name. elsewhere part (s.referents name);
}

abbrev pub set_route : Name → List Ground → List Mark → State → State
set_route name course marks s = record s { routes = insert s.routes name (record { course = course; marks = marks }) }

abbrev pub drop_route : Name → State → State
drop_route name s = record s { routes = remove s.routes name }

-- The referent of this name stands there, or nowhere.
abbrev pub set_referent : Name → Option Millimetre → State → State
set_referent name place s = record s { referents = λ other. if same_name other name then place else s.referents other }

-- Each verb by itself: its checks in order, and what edit n then changes.

abbrev pub do_link : Link → State → Result State Cause
do_link l s = do
  refuse_if (contains_key s.links l.number) cause.LinkKnown
  Ok (record s { links = insert s.links l.number l.length })

abbrev pub do_class : Class → State → Result State Cause
do_class c s = do
  refuse_if (contains_key s.classes c.name) cause.ClassKnown
  Ok (record s { classes = insert s.classes c.name c.kind })

abbrev pub do_route : Name → List Piece → List Mark → State → Result State Cause
do_route name pieces marks s = do
  refuse_if (contains_key s.routes name) cause.RouteKnown
  check_pieces s pieces
  let course = course_of pieces
  refuse_if (is_too_long course) cause.TooLong
  check_free s pieces
  check_marks (length course) marks
  Ok (set_route name course marks s)

abbrev pub do_ref : Name → Name → Expr → State → Result State Cause
do_ref name route at s = do
  refuse_if (is_some (s.referents name)) cause.RefKnown
  a ← route_named s route
  x ← located_chainage s a at
  Ok (set_referent name (ground_at a.course (cell (length a.course) x)) s)

abbrev pub do_unref : Name → State → Result State Cause
do_unref name s = do
  refuse_if (is_none (s.referents name)) cause.NoRef
  Ok (set_referent name None s)

-- what an entry asks for: places, for an asset of this kind
pub record Wanted : Type 0 where
  pub kind : Kind
  pub places : List Place

-- what a new asset is to hold; some kinds are not taken
abbrev pub wanted_of : (Kind → Bool) → NewAsset → State → Result Wanted Cause
wanted_of is_not_taken e s = do
  refuse_if (contains_key s.assets e.asset) cause.AssetKnown
  kind ← ok_or (get s.classes e.class) cause.NoClass
  a ← route_named s e.route
  refuse_if (is_wrong_kind kind e.location.to || is_not_taken kind) cause.WrongKind
  stretch ← located_stretch s a e.location
  let part = part_of a.course stretch
  refuse_if (is_nothing part) cause.Empty
  Ok (record { kind = kind; places = places_on e.side part })

-- The asset is known from now on as entered by edit n, and holds the places.
abbrev pub enter_asset : ℕ → NewAsset → List Place → State → State
enter_asset n e places s = enter_places n e.asset places (record s { assets = insert s.assets e.asset (record { class = e.class; value = e.value; lateral = e.offset; entered_by = n }) })

abbrev pub do_enter : ℕ → NewAsset → State → Result State Cause
do_enter n e s = do
  wanted ← wanted_of (λ kind. false) e s
  refuse_at (if is_exclusive wanted.kind then first_holder s e.class wanted.places else None) cause.Overlap
  Ok (enter_asset n e wanted.places s)

-- the asset's places on a part of a course
abbrev pub belongs_to : ℕ → List Ground → ℕ → Place → Bool
belongs_to asset part a p = nat_eq a asset && lies_on part p

-- the kind of an asset's class
abbrev pub kind_of_asset : State → ℕ → Option Kind
kind_of_asset s asset = option_and_then (λ a. get s.classes a.class) (get s.assets asset)

abbrev pub do_retire : ℕ → ℕ → Name → Ends → State → Result State Cause
do_retire n asset route location s = do
  kind ← ok_or (kind_of_asset s asset) cause.NoAsset
  a ← route_named s route
  refuse_if (is_wrong_kind kind location.to) cause.WrongKind
  stretch ← located_stretch s a location
  let part = part_of a.course stretch
  refuse_if (is_empty_stretch stretch || not (list_any (s.holds asset) (places_on B part))) cause.Empty
  Ok (take_away n Retired (belongs_to asset part) s)

abbrev pub do_split : Name → ℕ → Name → State → Result State Cause
do_split route at name s = do
  a ← route_named s route
  refuse_if (contains_key s.routes name) cause.RouteKnown
  refuse_if (not (is_inner_mark a.marks at)) cause.NoMark
  Ok (set_route route (take at a.course) (marks_to at a.marks) (set_route name (drop at a.course) (marks_from at a.marks) s))

-- two routes of these names become one
abbrev pub do_join_of : Name → Name → Alignment → Alignment → State → Result State Cause
do_join_of first second a b s = do
  refuse_if (same_name first second) cause.SameRoute
  let course = a.course ++ b.course
  let marks = joined_marks a.marks b.marks
  refuse_if (is_too_long course || nat_lt most_marks (length marks)) cause.TooLong
  refuse_if (is_out_of_range marks) cause.MeasureRange
  Ok (set_route first course marks (drop_route second s))

abbrev pub do_join : Name → Name → State → Result State Cause
do_join first second s = do
  a ← route_named s first
  b ← route_named s second
  do_join_of first second a b s

abbrev pub do_renumber : Name → Name → State → Result State Cause
do_renumber route name s = do
  a ← route_named s route
  refuse_if (contains_key s.routes name) cause.RouteKnown
  Ok (set_route name a.course a.marks (drop_route route s))

abbrev pub do_recalibrate : Name → List Mark → State → Result State Cause
do_recalibrate route marks s = do
  a ← route_named s route
  check_marks (length a.course) marks
  Ok (set_route route a.course marks s)

-- `Taken` looks at all routes as they are, the stretch that is replaced included
abbrev pub do_realign : ℕ → Name → EventStretch → List Piece → List Mark → State → Result State Cause
do_realign n route e pieces marks s = do
  a ← route_named s route
  refuse_if (nat_lt (length a.course) e.from || nat_lt (length a.course) e.to) cause.OffRoute
  refuse_if (nat_lt e.to e.from || (nat_eq e.from e.to && is_nothing pieces)) cause.Empty
  check_pieces s pieces
  check_free s pieces
  let course = take e.from a.course ++ course_of pieces ++ drop e.to a.course
  refuse_if (is_too_long course) cause.TooLong
  refuse_if (is_nothing course) cause.NothingLeft
  check_marks (length course) marks
  Ok (set_route route course marks (abandon n (part_of a.course e) s))

abbrev pub do_close : ℕ → Name → State → Result State Cause
do_close n route s = do
  a ← route_named s route
  Ok (drop_route route (abandon n a.course s))

-- whether the asset is of the class
abbrev pub is_of_class : State → Name → ℕ → Bool
is_of_class s class asset = option_map_or (λ a. same_name a.class class) (get s.assets asset) false

abbrev pub do_supersede : ℕ → NewAsset → State → Result State Cause
do_supersede n e s = do
  wanted ← wanted_of (λ kind. not (is_exclusive kind)) e s
  Ok (enter_asset n e wanted.places (take_away n Retired (λ a p. is_of_class s e.class a && is_among wanted.places p) s))

abbrev pub do_turn : Name → State → Result State Cause
do_turn route s = do
  a ← route_named s route
  Ok (set_route route (turned a.course) (mirrored a.marks) s)

-- The state that edit n would make, or the first check of the verb that fails.
unfoldable pub attempt : ℕ → Command → State → Result State Cause
attempt n (verb.Link l) = do_link l
attempt n (verb.Class c) = do_class c
attempt n (verb.Route name pieces marks) = do_route name pieces marks
attempt n (verb.Ref name route at) = do_ref name route at
attempt n (verb.Unref name) = do_unref name
attempt n (verb.Enter e) = do_enter n e
attempt n (verb.Retire asset route location) = do_retire n asset route location
attempt n (verb.Split route at name) = do_split route at name
attempt n (verb.Join first second) = do_join first second
attempt n (verb.Renumber route name) = do_renumber route name
attempt n (verb.Recalibrate route marks) = do_recalibrate route marks
attempt n (verb.Realign route first end pieces marks) = do_realign n route (record { from = first; to = end }) (unwrap_or pieces []) marks
attempt n (verb.Close route) = do_close n route
attempt n (verb.Supersede e) = do_supersede n e
attempt n (verb.Turn route) = do_turn route

-- whether a verb needs room for one more asset
abbrev pub needs_asset : Command → Bool
needs_asset (verb.Enter e) = true
needs_asset (verb.Supersede e) = true
needs_asset _ = false

-- ... for one more route
abbrev pub needs_route : Command → Bool
needs_route (verb.Route name pieces marks) = true
needs_route (verb.Split route at name) = true
needs_route _ = false

-- the limits leave room for the command
abbrev pub check_room : Limits → Command → State → Result (Unit {0}) Cause
check_room limits command s = do
  refuse_if (nat_le limits.edits (length s.done)) (cause.TooMany Edits)
  refuse_if (needs_asset command && nat_le limits.assets (len s.assets)) (cause.TooMany Assets)
  refuse_if (needs_route command && nat_le limits.routes (len s.routes)) (cause.TooMany Routes)

-- The next state of a command whose key is new, or why it is refused.
abbrev pub next : Limits → Command → State → Result State Cause
next limits command s = do
  check_room limits command s
  attempt (length s.done + 1) command s

-- at which place among the edits a key is; the edit's number is one more
abbrev pub place_of_key : Name → List Edit → Option ℕ
place_of_key key done = position (λ e. same_name e.key key) done

abbrev pub line_at : ℕ → List Edit → List ℕ
line_at place done = option_map_or (λ e. e.line) (slice_get done place) []

-- a known key: the same command is answered as before, and another one refused
abbrev pub answer_known : ℕ → List ℕ → List ℕ → Answer
answer_known n kept line = if same_name kept line then Again n else Refused (cause.KeyUsed n)

-- Only an accepted command is kept, with its key and its line.
abbrev pub accept : Name → Command → State → State
accept key command t = record t { done = t.done ++ record { key = key; line = line_of command } ∷ [] }

-- an answer, and the state after it
pub record Outcome : Type 0 where
  pub answer : Answer
  pub state : State

abbrev pub outcome_of : Name → Command → State → Result State Cause → Outcome
outcome_of key command s (Ok t) = record { answer = Done (length s.done + 1); state = accept key command t }
outcome_of key command s (Err c) = record { answer = Refused c; state = s }

abbrev pub step_by_key : Limits → Name → Command → State → Option ℕ → Outcome
step_by_key limits key command s (Some place) = record { answer = answer_known (place + 1) (line_at place s.done) (line_of command); state = s }
step_by_key limits key command s None = outcome_of key command s (next limits command s)

-- The answer to a command under its key, and the state after it: a known key first, then the limits, then the verb's own checks.
unfoldable pub step : Limits → Name → Command → State → Outcome
step limits key command s = step_by_key limits key command s (place_of_key key s.done)

-- a command under its key
pub record Record : Type 0 where
  pub key : Name
  pub command : Command

abbrev pub step_record : Limits → Record → State → Outcome
step_record limits r s = step limits r.key r.command s

-- the answers to a list of records, one after another
abbrev pub answers : Limits → List Record → State → List Answer
answers limits [] s = []
answers limits (r ∷ rs) s = (step_record limits r s).answer ∷ answers limits rs (step_record limits r s).state

-- and the state after them
abbrev pub state_after : Limits → List Record → State → State
state_after limits [] s = s
state_after limits (r ∷ rs) s = state_after limits rs (step_record limits r s).state
