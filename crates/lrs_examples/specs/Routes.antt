-- Routes: what each route edit makes of courses, marks and referents, and what it leaves of the assets.
use Rattle.std.specs.Prelude.{◌≡◌, true, false, List, [], ◌∷◌, ◌++◌, map, codes, Some, None, refl}
use Rattle.std.specs.Fmt.{digits}
use Rattle.lrs_element.specs.Course.{course_of, piece_count}
use Rattle.lrs_element.specs.Marks.{mirrored}
use Rattle.lrs_events.specs.declared.side.Side.TheVariants.{L, R, B}
use Rattle.lrs_events.specs.declared.side.LinkSide.TheVariants.{Right}
use Rattle.lrs_machine.specs.declared.answer.Answer.TheVariants.{Done, Refused}
use Rattle.lrs_machine.specs.declared.answer.Cause.TheVariants as cause
use Rattle.lrs_machine.specs.declared.command.Command.{Command}
use Rattle.lrs_machine.specs.declared.command.Command.TheVariants as verb
use Rattle.lrs_machine.specs.Machine.{Record, attempt, step}
use Rattle.lrs_machine.specs.Readings.{rows_of, places_of}
use Rattle.lrs_examples.specs.Sheet.{a1, a2, b1, nowhere, km2, km5, speed, rail, sign, abs, past, short_of, between, forth, back, mark, plain, enter, split, join, realign, realign_away, adding, after, holders, replies, totals_of, totals, row, route_of, over, referent_at, place, both_sides_along, first_pieces, first_marks, sheet, with_speed, with_sign, second_kilometre, with_referent}

-- A piece that is run backwards begins with its last millimetre.
pub backward_piece : course_of (forth 1 3 5 ∷ back 2 0 3 ∷ [])
    ≡ record { link = 1; mm = 3; forward = true } ∷ record { link = 1; mm = 4; forward = true }
    ∷ record { link = 2; mm = 2; forward = false } ∷ record { link = 2; mm = 1; forward = false } ∷ record { link = 2; mm = 0; forward = false } ∷ []
backward_piece = refl

-- Pieces of one link that continue each other in one direction are one piece; a turn or a gap begins a new one.
pub fewest_pieces : map (λ pieces. piece_count (course_of pieces)) (
    (forth 1 0 3 ∷ forth 1 3 5 ∷ []) ∷ (back 1 3 5 ∷ back 1 0 3 ∷ [])
    ∷ (forth 1 0 3 ∷ back 1 3 5 ∷ []) ∷ (forth 1 0 3 ∷ forth 1 4 5 ∷ []) ∷ (forth 1 3 5 ∷ forth 1 0 3 ∷ []) ∷ [])
    ≡ 1 ∷ 1 ∷ 2 ∷ 2 ∷ 2 ∷ []
fewest_pieces = refl

-- Split at the seam of the links, where a mark is: the speed limit goes on over both routes.
abbrev pub split_route : List Record
split_route = adding with_speed (split 10 ∷ [])

-- Each part has its marks and its share of the speed limit, and nothing is lost.
abbrev pub SplitAtMark : Type 0
SplitAtMark =
    (replies with_speed (split 10 ∷ []) ≡ Done 9 ∷ [])
    × (route_of (after split_route) a1 ≡ over (forth 1 0 10 ∷ []) (mark 0 0 ∷ mark 10 12 ∷ []))
    × (route_of (after split_route) a2 ≡ over (back 2 0 6 ∷ []) (mark 0 12 ∷ mark 6 18 ∷ []))
    × (rows_of (after split_route) a1 10 ≡ row 5 10 B ∷ [])
    × (rows_of (after split_route) a2 10 ≡ row 0 6 B ∷ [])
    × (totals_of speed (after split_route) ≡ totals 22 0 0 22)

-- Joined again, the route, its marks and the one row of the speed limit are as before.
abbrev pub joined_route : List Record
joined_route = adding split_route (join ∷ [])

-- The second name is free, and there is no seam in the speed limit.
abbrev pub JoinedAgain : Type 0
JoinedAgain =
    (replies split_route (join ∷ []) ≡ Done 10 ∷ [])
    × (route_of (after joined_route) a1 ≡ over first_pieces first_marks)
    × (route_of (after joined_route) a2 ≡ None)
    × (rows_of (after joined_route) a1 10 ≡ row 5 16 B ∷ [])
    × (totals_of speed (after joined_route) ≡ totals 22 0 0 22)

-- The second part is measured anew from 10 and joined: its measures go on where the first part's end, and the chainages are those of before.
abbrev pub joined_after_recalibration : List Record
joined_after_recalibration = adding split_route (verb.Recalibrate a2 (mark 0 10 ∷ mark 6 16 ∷ []) ∷ join ∷ [])

-- The measures of the second part move by two.
pub recalibrated_part_joined : route_of (after joined_after_recalibration) a1 ≡ over first_pieces (mark 0 0 ∷ mark 10 12 ∷ mark 16 18 ∷ [])
unfolding digits step attempt
recalibrated_part_joined = refl

-- The speed limit is one row again.
pub recalibrated_part_joined_row : rows_of (after joined_after_recalibration) a1 10 ≡ row 5 16 B ∷ []
unfolding digits step attempt
recalibrated_part_joined_row = refl

-- Joined the other way round, the second part comes first.
pub joined_in_reverse : route_of (after (adding split_route (verb.Join a2 a1 ∷ []))) a2 ≡ over (back 2 0 6 ∷ forth 1 0 10 ∷ []) (mark 0 12 ∷ mark 6 18 ∷ mark 16 30 ∷ [])
unfolding digits step attempt
joined_in_reverse = refl

-- The route is measured anew, from 0 to 16: the assets stay where they are, and other measures find them.
abbrev pub recalibrated_route : List Record
recalibrated_route = adding with_speed (verb.Recalibrate a1 (plain 16) ∷ [])

-- Measure 5 is now where measure 6 was; at measure 4 there is nothing.
abbrev pub Recalibrated : Type 0
Recalibrated =
    (replies with_speed (verb.Recalibrate a1 (plain 16) ∷ []) ≡ Done 9 ∷ [])
    × (rows_of (after recalibrated_route) a1 10 ≡ row 5 16 B ∷ [])
    × (holders recalibrated_route (abs 5) ≡ Some ((10, 8, B) ∷ []))
    × (holders recalibrated_route (abs 4) ≡ Some [])
    × (totals_of speed (after recalibrated_route) ≡ totals 22 0 0 22)

-- The mark at the seam is gone, so the route can no longer be split there.
pub split_without_mark : replies recalibrated_route (split 10 ∷ []) ≡ Refused cause.NoMark ∷ []
unfolding digits step attempt
split_without_mark = refl

-- Four millimetres about the seam are replaced by the third link: the speed limit is abandoned there and stays on both sides of them.
abbrev pub replace_middle : Command
replace_middle = realign 8 12 (forth 3 0 4 ∷ []) (plain 16)

abbrev pub realigned_route : List Record
realigned_route = adding recalibrated_route (replace_middle ∷ [])

-- Eight side millimetres are abandoned, and fourteen stay.
abbrev pub Realigned : Type 0
Realigned =
    (replies recalibrated_route (replace_middle ∷ []) ≡ Done 10 ∷ [])
    × (route_of (after realigned_route) a1 ≡ over (forth 1 0 8 ∷ forth 3 0 4 ∷ back 2 0 4 ∷ []) (plain 16))
    × (rows_of (after realigned_route) a1 10 ≡ row 5 8 B ∷ row 12 16 B ∷ [])
    × (places_of (after realigned_route) 10 ≡ both_sides_along 1 5 3 ++ both_sides_along 2 0 4)
    × (totals_of speed (after realigned_route) ≡ totals 22 0 8 14)

-- Nothing may be left of no route; it is closed instead.
pub realigned_to_nothing : replies with_speed (realign_away 0 16 (plain 1) ∷ []) ≡ Refused cause.NothingLeft ∷ []
unfolding digits step attempt
realigned_to_nothing = refl

-- The end of a route is cut off, and what lay there is abandoned.
abbrev pub shortened : List Record
shortened = adding with_speed (realign_away 10 16 (mark 0 0 ∷ mark 10 12 ∷ []) ∷ [])

-- The first link is what is left.
pub shortened_route : route_of (after shortened) a1 ≡ over (forth 1 0 10 ∷ []) (mark 0 0 ∷ mark 10 12 ∷ [])
unfolding digits step attempt
shortened_route = refl

-- Six millimetres on both sides are abandoned.
pub shortened_totals : totals_of speed (after shortened) ≡ totals 22 0 12 10
unfolding digits step attempt
shortened_totals = refl

-- The third link comes between: nothing is abandoned, and the speed limit goes on behind it.
abbrev pub insert_piece : Command
insert_piece = realign 8 8 (forth 3 0 4 ∷ []) (plain 20)

abbrev pub longer_route : List Record
longer_route = adding with_speed (insert_piece ∷ [])

-- The speed limit has a gap where the new piece is.
abbrev pub InsertedPiece : Type 0
InsertedPiece =
    (replies with_speed (insert_piece ∷ []) ≡ Done 9 ∷ [])
    × (route_of (after longer_route) a1 ≡ over (forth 1 0 8 ∷ forth 3 0 4 ∷ forth 1 8 10 ∷ back 2 0 6 ∷ []) (plain 20))
    × (rows_of (after longer_route) a1 10 ≡ row 5 8 B ∷ row 12 20 B ∷ [])
    × (totals_of speed (after longer_route) ≡ totals 22 0 0 22)

-- A piece can be put on in front of a route ...
pub put_on_in_front : route_of (after (adding with_speed (realign 0 0 (back 3 0 4 ∷ []) (plain 20) ∷ []))) a1 ≡ over (back 3 0 4 ∷ forth 1 0 10 ∷ back 2 0 6 ∷ []) (plain 20)
unfolding digits step attempt
put_on_in_front = refl

-- ... and behind it.
pub put_on_behind : route_of (after (adding with_speed (realign 16 16 (back 3 0 4 ∷ []) (plain 20) ∷ []))) a1 ≡ over (forth 1 0 10 ∷ back 2 0 6 ∷ back 3 0 4 ∷ []) (plain 20)
unfolding digits step attempt
put_on_behind = refl

-- A second route may run over what the first has left, and over no millimetre more.
abbrev pub TakenGround : Type 0
TakenGround =
    replies realigned_route (verb.Route b1 (forth 1 7 10 ∷ []) (plain 3) ∷ verb.Route b1 (back 1 8 10 ∷ []) (plain 2) ∷ [])
    ≡ Refused (cause.Taken 0) ∷ Done 11 ∷ []

-- The stretch that is replaced counts as taken, so a route cannot be realigned over the ground that it leaves.
pub replaced_stretch_is_taken : replies with_speed (realign 8 10 (forth 1 8 10 ∷ []) first_marks ∷ realign 8 10 (back 1 8 10 ∷ []) first_marks ∷ []) ≡ Refused (cause.Taken 0) ∷ Refused (cause.Taken 0) ∷ []
unfolding digits step attempt
replaced_stretch_is_taken = refl

-- A route cannot be joined to itself, nor where a measure would come out above the greatest; the other way round it can.
abbrev pub high_route : List Record
high_route = adding sheet (verb.Route b1 (forth 3 0 4 ∷ []) (mark 0 99_999_999_000 ∷ mark 4 100_000_000_000 ∷ []) ∷ [])

-- The measures of the second go on from the last of the first: 18 and 1,000 more.
abbrev pub JoinRefusals : Type 0
JoinRefusals =
    (replies high_route (verb.Join a1 a1 ∷ verb.Join b1 a1 ∷ verb.Join a1 b1 ∷ []) ≡ Refused cause.SameRoute ∷ Refused cause.MeasureRange ∷ Done 9 ∷ [])
    × (route_of (after (adding high_route (verb.Join a1 b1 ∷ []))) a1
    ≡ over (forth 1 0 10 ∷ back 2 0 6 ∷ forth 3 0 4 ∷ []) (mark 0 0 ∷ mark 10 12 ∷ mark 16 18 ∷ mark 20 1018 ∷ []))

-- With the route its sign is abandoned.
abbrev pub closed : List Record
closed = adding with_sign (verb.Close a1 ∷ [])

-- Nothing lies on the route any more, and no position on it can be asked for.
abbrev pub ClosedRoute : Type 0
ClosedRoute =
    (replies with_sign (verb.Close a1 ∷ []) ≡ Done 9 ∷ [])
    × (totals_of sign (after closed) ≡ totals 1 0 1 0)
    × (route_of (after closed) a1 ≡ None)
    × (places_of (after closed) 20 ≡ [])
    × (holders closed (abs 0) ≡ None)

-- A closed route takes its referents with it, and leaves its ground and its name free; the links stay.
pub closed_and_made_anew : replies (adding with_referent (verb.Close a1 ∷ [])) (verb.Close a1 ∷ verb.Unref km2 ∷ verb.Route a1 first_pieces first_marks ∷ second_kilometre ∷ []) ≡ Refused cause.NoRoute ∷ Refused cause.NoRef ∷ Done 10 ∷ Done 11 ∷ []
unfolding digits step attempt
closed_and_made_anew = refl

-- The places of an asset do not come back with the ground.
pub gone_with_the_route : places_of (after (adding closed (verb.Route a1 first_pieces first_marks ∷ []))) 20 ≡ []
unfolding digits step attempt
gone_with_the_route = refl

-- Turned, the route runs over the second link first; the speed limit holds the same places.
abbrev pub turned : List Record
turned = adding with_speed (verb.Turn a1 ∷ [])

-- Course and marks begin at the other end, and so does the row; places and totals stay.
abbrev pub TurnedRoute : Type 0
TurnedRoute =
    (replies with_speed (verb.Turn a1 ∷ []) ≡ Done 9 ∷ [])
    × (route_of (after turned) a1 ≡ over (forth 2 0 6 ∷ back 1 0 10 ∷ []) (mark 0 0 ∷ mark 6 6 ∷ mark 16 18 ∷ []))
    × (rows_of (after turned) a1 10 ≡ row 0 11 B ∷ [])
    × (places_of (after turned) 10 ≡ both_sides_along 1 5 5 ++ both_sides_along 2 0 6)
    × (totals_of speed (after turned) ≡ totals 22 0 0 22)

-- A sign on the left at the end of the route is then on its right at the start, in the same place.
abbrev pub turned_sign : List Record
turned_sign = adding with_sign (verb.Turn a1 ∷ [])

-- At the start of the route it is found on the right.
pub turned_sign_hit : holders turned_sign (abs 0) ≡ Some ((20, 8, R) ∷ [])
unfolding digits step attempt
turned_sign_hit = refl

-- Its place on the link is as before.
pub turned_sign_place : places_of (after turned_sign) 20 ≡ place 2 0 Right ∷ []
unfolding digits step attempt
turned_sign_place = refl

-- Turned twice, course, marks and rows are as before.
abbrev pub turned_twice : List Record
turned_twice = adding with_sign (verb.Turn a1 ∷ verb.Turn a1 ∷ [])

-- Course and marks are those of the first sheet.
pub turned_twice_route : route_of (after turned_twice) a1 ≡ over first_pieces first_marks
unfolding digits step attempt
turned_twice_route = refl

-- The sign is on the left of the last millimetre again.
pub turned_twice_row : rows_of (after turned_twice) a1 20 ≡ row 15 16 L ∷ []
unfolding digits step attempt
turned_twice_row = refl

-- The measures of a turned route run between the same two ends.
pub mirrored_marks : mirrored (mark 0 100 ∷ mark 1 110 ∷ mark 4 200 ∷ []) ≡ mark 0 100 ∷ mark 3 190 ∷ mark 4 200 ∷ []
mirrored_marks = refl

-- A new name: what lies on the route, and its referents, go with it, and the old name is free.
abbrev pub renumbered : List Record
renumbered = adding with_speed (second_kilometre ∷ verb.Renumber a1 b1 ∷ [])

-- No route has the old name.
pub renumbered_old_name : route_of (after renumbered) a1 ≡ None
unfolding digits step attempt
renumbered_old_name = refl

-- The new name has the course and the marks.
pub renumbered_new_name : route_of (after renumbered) b1 ≡ over first_pieces first_marks
unfolding digits step attempt
renumbered_new_name = refl

-- The speed limit lies on it.
pub renumbered_row : rows_of (after renumbered) b1 10 ≡ row 5 16 B ∷ []
unfolding digits step attempt
renumbered_row = refl

-- The referent stands on it.
pub renumbered_referent : referent_at (after renumbered) b1 km2 ≡ Some 2
unfolding digits step attempt
renumbered_referent = refl

-- It cannot get the name that it has, and it can get its old one back.
pub renumbered_back : replies renumbered (verb.Renumber b1 b1 ∷ verb.Renumber b1 a1 ∷ []) ≡ Refused cause.RouteKnown ∷ Done 11 ∷ []
unfolding digits step attempt
renumbered_back = refl

-- referents

-- KM2 stands in the third millimetre; a barrier from 3 to 8 past it lies from 5 to 10.
abbrev pub barrier_by_referent : Command
barrier_by_referent = enter 30 rail L (between (past km2 3) (past km2 8)) (codes "STEEL")

abbrev pub with_barrier : List Record
with_barrier = adding with_referent (barrier_by_referent ∷ [])

-- Before the start of the route, and from a referent that is not there, nothing is entered.
abbrev pub ReferentPositions : Type 0
ReferentPositions =
    (replies sheet (second_kilometre ∷ barrier_by_referent ∷ []) ≡ Done 8 ∷ Done 9 ∷ [])
    × (referent_at (after with_barrier) a1 km2 ≡ Some 2)
    × (rows_of (after with_barrier) a1 30 ≡ row 5 10 L ∷ [])
    × (replies with_barrier (
    enter 31 rail L (between (short_of km2 3) (past km2 8)) (codes "STEEL")
    ∷ enter 31 rail L (between (past nowhere 0) (past km2 8)) (codes "STEEL")
    ∷ enter 31 rail L (between (short_of km2 2) (past km2 14)) (codes "STEEL") ∷ [])
    ≡ Refused cause.OffRoute ∷ Refused cause.NoRef ∷ Done 10 ∷ [])

-- A referent beyond the split goes to the new route; on the old one nothing can be counted from it any more.
abbrev pub second_referent : Command
second_referent = verb.Ref km5 a1 (abs 14)

abbrev pub split_referents : List Record
split_referents = adding with_referent (second_referent ∷ split 10 ∷ [])

-- KM2 stays on the first part.
pub first_part_keeps : referent_at (after split_referents) a1 km2 ≡ Some 2
unfolding digits step attempt
first_part_keeps = refl

-- KM5, in the thirteenth millimetre, is in the third of the second part.
pub second_part_gets : referent_at (after split_referents) a2 km5 ≡ Some 2
unfolding digits step attempt
second_part_gets = refl

-- From KM5 one counts on the second part, and not on the first.
pub not_on_the_first_part : replies split_referents (verb.Ref nowhere a1 (past km5 0) ∷ verb.Ref nowhere a2 (past km5 0) ∷ []) ≡ Refused cause.NoRef ∷ Done 11 ∷ []
unfolding digits step attempt
not_on_the_first_part = refl

-- After a join its place rises by the first route's length.
pub joined_referent : referent_at (after (adding split_referents (join ∷ []))) a1 km5 ≡ Some 12
unfolding digits step attempt
joined_referent = refl

-- A referent goes with its ground, and its name is free.
pub realigned_referent : replies with_referent (realign 0 4 (forth 3 0 4 ∷ []) first_marks ∷ verb.Unref km2 ∷ second_kilometre ∷ []) ≡ Done 9 ∷ Refused cause.NoRef ∷ Done 10 ∷ []
unfolding digits step attempt
realigned_referent = refl

-- What is put in before a referent moves it along; its ground stays.
abbrev pub moved_along : List Record
moved_along = adding sheet (verb.Ref km5 a1 (abs 11) ∷ insert_piece ∷ [])

-- It stands in the tenth millimetre.
pub before_insertion : referent_at (after (adding sheet (verb.Ref km5 a1 (abs 11) ∷ []))) a1 km5 ≡ Some 9
unfolding digits step attempt
before_insertion = refl

-- Behind four new ones, that is the fourteenth.
pub after_insertion : referent_at (after moved_along) a1 km5 ≡ Some 13
unfolding digits step attempt
after_insertion = refl

-- On the link it is the tenth as before.
pub ground_of_referent : (after moved_along).referents km5 ≡ Some (1, 9)
unfolding digits step attempt
ground_of_referent = refl

-- On a turned route it counts from the other end: 13 millimetres are before its own.
pub turned_referent : referent_at (after (adding with_referent (verb.Turn a1 ∷ []))) a1 km2 ≡ Some 13
unfolding digits step attempt
turned_referent = refl

-- A referent that is taken up can be set elsewhere; at the end of the route it stands in the last millimetre.
pub set_anew : referent_at (after (adding with_referent (verb.Unref km2 ∷ verb.Ref km2 a1 (abs 18) ∷ []))) a1 km2 ≡ Some 15
unfolding digits step attempt
set_anew = refl
