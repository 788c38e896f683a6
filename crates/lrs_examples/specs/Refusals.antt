-- Refusals: each cause, and which of two faults is named.
use Rattle.std.specs.Prelude.{◌≡◌, ℕ, IsTrue, List, [], ◌∷◌, ◌++◌, map, codes, Some, None, replicate, refl}
use Rattle.std.specs.Fmt.{digits}
use Rattle.lrs_measure.specs.Texts.{Name}
use Rattle.lrs_element.specs.declared.link.Piece.{Piece}
use Rattle.lrs_element.specs.declared.marks.Mark.{Mark}
use Rattle.lrs_element.specs.Marks.{bad_mark}
use Rattle.lrs_position.specs.declared.expression.Expr.{Expr}
use Rattle.lrs_events.specs.declared.class.Kind.TheVariants.{Point}
use Rattle.lrs_events.specs.declared.side.Side.TheVariants.{L, B}
use Rattle.lrs_machine.specs.declared.answer.Limits.{Limits}
use Rattle.lrs_machine.specs.declared.answer.What.TheVariants.{Edits, Assets, Routes}
use Rattle.lrs_machine.specs.declared.answer.Answer.TheVariants.{Done, Again, Refused}
use Rattle.lrs_machine.specs.declared.answer.Cause.TheVariants as cause
use Rattle.lrs_machine.specs.declared.command.Command.{Command}
use Rattle.lrs_machine.specs.declared.command.Command.TheVariants as verb
use Rattle.lrs_measure.specs.Limits.{are_limits}
use Rattle.lrs_machine.specs.State.{nothing_known}
use Rattle.lrs_machine.specs.Machine.{Record, answers, attempt, step}
use Rattle.lrs_examples.specs.Sheet.{a1, a2, b1, nowhere, km2, km5, speed, rail, sign, abs, past, short_of, between, at, link, class, forth, back, mark, plain, enter, supersede, split, realign, realign_away, retire, keyed, under, adding, after, replies, first_marks, sheet, speed_limit, with_speed, lower_limit, second_kilometre}

-- The state that is asked: a speed limit, a referent and the third link free.
abbrev pub busy : List Record
busy = adding with_speed (second_kilometre ∷ [])

abbrev pub new_route : List Piece → List Mark → Command
new_route = verb.Route b1

-- a new barrier
abbrev pub barrier : Expr → Expr → Command
barrier from to = enter 40 rail L (between from to) (codes "STEEL")

abbrev pub tree : Name
tree = codes "TREE"

-- Causes one after another: what is refused changes nothing, so the first command that is done is edit 10.
abbrev pub EveryRefusal : Type 0
EveryRefusal =
    replies busy (
    link 1 7 refl ∷ class rail Point
    ∷ verb.Route a1 (forth 9 0 1 ∷ []) (plain 1) ∷ new_route (forth 9 0 1 ∷ []) (plain 1) ∷ new_route (forth 3 2 2 ∷ []) (plain 1)
    ∷ new_route (forth 3 0 3 ∷ back 3 2 4 ∷ []) (plain 5)
    ∷ second_kilometre ∷ verb.Unref nowhere
    ∷ enter 40 tree L (between (abs 1) (abs 2)) (codes "OAK") ∷ enter 40 sign L (between (abs 1) (abs 2)) (codes "STOP")
    ∷ barrier (abs 19) (abs 20) ∷ barrier (abs 5) (abs 5)
    ∷ retire 99 (between (abs 0) (abs 1)) ∷ verb.Recalibrate a1 (mark 0 0 ∷ mark 16 0 ∷ []) ∷ verb.Renumber a1 a1
    ∷ verb.Renumber a1 (codes "M4") ∷ verb.Unref km2 ∷ [])
    ≡ Refused cause.LinkKnown ∷ Refused cause.ClassKnown
    ∷ Refused cause.RouteKnown ∷ Refused cause.NoLink ∷ Refused (cause.BadPiece 0)
    ∷ Refused (cause.Taken 1)
    ∷ Refused cause.RefKnown ∷ Refused cause.NoRef
    ∷ Refused cause.NoClass ∷ Refused cause.WrongKind
    ∷ Refused cause.OffRoute ∷ Refused cause.Empty
    ∷ Refused cause.NoAsset ∷ Refused (cause.BadMarks 1) ∷ Refused cause.RouteKnown
    ∷ Done 10 ∷ Done 11 ∷ []

-- Some causes that the first list leaves out.
pub more_refusals : replies busy (
    enter 40 speed L (between (abs 5) (abs 7)) (codes "60") ∷ split 5 ∷ verb.Join a1 a1 ∷ verb.Join a1 nowhere
    ∷ realign_away 0 16 (plain 1) ∷ new_route (forth 3 0 4 ∷ back 2 0 1 ∷ []) (plain 5) ∷ [])
    ≡ Refused (cause.Overlap 10) ∷ Refused cause.NoMark ∷ Refused cause.SameRoute ∷ Refused cause.NoRoute
    ∷ Refused cause.NothingLeft ∷ Refused (cause.Taken 1) ∷ []
unfolding digits step attempt
more_refusals = refl

-- Every verb that names a route asks for one that is there.
pub no_such_route : replies busy (
    verb.Ref km5 nowhere (abs 3) ∷ verb.Split nowhere 10 a2 ∷ verb.Join nowhere a1 ∷ verb.Join a1 nowhere
    ∷ verb.Renumber nowhere a2 ∷ verb.Recalibrate nowhere (plain 16) ∷ verb.Realign nowhere 0 4 None (plain 12)
    ∷ verb.Close nowhere ∷ verb.Turn nowhere ∷ [])
    ≡ replicate 9 (Refused cause.NoRoute)
unfolding digits step attempt
no_such_route = refl

-- A new route: a known name before a link that is not there, that before a bad piece, that before a millimetre twice in the list, that before a millimetre of another route, that before bad marks.
pub order_of_route : replies busy (
    verb.Route a1 (forth 9 0 1 ∷ []) (plain 1)
    ∷ new_route (forth 3 2 2 ∷ forth 9 0 1 ∷ []) (plain 1)
    ∷ new_route (forth 3 0 3 ∷ back 3 2 4 ∷ forth 3 1 1 ∷ []) (plain 5)
    ∷ new_route (forth 1 0 2 ∷ forth 3 0 3 ∷ back 3 2 4 ∷ []) (plain 7)
    ∷ new_route (forth 3 0 4 ∷ forth 1 0 2 ∷ []) (plain 5)
    ∷ new_route (forth 3 0 4 ∷ []) (plain 5) ∷ [])
    ≡ Refused cause.RouteKnown ∷ Refused cause.NoLink ∷ Refused (cause.BadPiece 2) ∷ Refused (cause.Taken 2) ∷ Refused (cause.Taken 1) ∷ Refused (cause.BadMarks 1) ∷ []
unfolding digits step attempt
order_of_route = refl

-- A piece is bad that has no millimetre or ends behind its link; of several faults of one kind the first in the list is named.
pub first_in_the_list : replies busy (
    new_route (forth 3 0 1 ∷ forth 3 2 2 ∷ forth 3 3 2 ∷ []) (plain 1)
    ∷ new_route (forth 3 0 5 ∷ forth 2 0 7 ∷ []) (plain 12)
    ∷ new_route (forth 3 0 1 ∷ forth 3 1 2 ∷ forth 3 0 1 ∷ forth 3 1 2 ∷ []) (plain 4)
    ∷ new_route (forth 3 0 1 ∷ back 2 0 1 ∷ forth 1 0 1 ∷ []) (plain 3)
    ∷ new_route (forth 3 0 4 ∷ []) (mark 0 0 ∷ mark 1 1 ∷ mark 1 2 ∷ mark 5 2 ∷ []) ∷ [])
    ≡ Refused (cause.BadPiece 1) ∷ Refused (cause.BadPiece 0) ∷ Refused (cause.Taken 2) ∷ Refused (cause.Taken 1) ∷ Refused (cause.BadMarks 2) ∷ []
unfolding digits step attempt
first_in_the_list = refl

-- Each rule of marks: the first at chainage 0, chainages and measures rising, no measure above the greatest, the last at the end of a course of 16, no fewer than two.
pub rules_of_marks : map (bad_mark 16) (
    (mark 1 0 ∷ mark 16 16 ∷ []) ∷ (mark 0 0 ∷ mark 8 8 ∷ mark 8 9 ∷ mark 16 16 ∷ []) ∷ (mark 0 0 ∷ mark 8 8 ∷ mark 16 8 ∷ [])
    ∷ (mark 0 0 ∷ mark 16 100_000_000_001 ∷ []) ∷ (mark 0 0 ∷ mark 15 16 ∷ []) ∷ (mark 0 0 ∷ mark 8 8 ∷ mark 17 16 ∷ []) ∷ (mark 0 0 ∷ []) ∷ [] ∷ (mark 0 5 ∷ mark 16 100_000_000_000 ∷ []) ∷ [])
    ≡ Some 0 ∷ Some 2 ∷ Some 2 ∷ Some 1 ∷ Some 1 ∷ Some 2 ∷ Some 0 ∷ Some 0 ∷ None ∷ []
rules_of_marks = refl

-- A referent: a known name before a route that is not there, that before a referent that is not there, that before a place off the route.
pub order_of_ref : replies busy (
    verb.Ref km2 nowhere (abs 3) ∷ verb.Ref km5 nowhere (past nowhere 0) ∷ verb.Ref km5 a1 (past nowhere 99) ∷ verb.Ref km5 a1 (past km2 15) ∷ [])
    ≡ Refused cause.RefKnown ∷ Refused cause.NoRoute ∷ Refused cause.NoRef ∷ Refused cause.OffRoute ∷ []
unfolding digits step attempt
order_of_ref = refl

-- A referent of another route is none of this one.
pub referent_of_another_route : replies busy (new_route (forth 3 0 4 ∷ []) (plain 4) ∷ verb.Ref km5 b1 (past km2 0) ∷ verb.Ref km2 b1 (abs 0) ∷ [])
    ≡ Done 10 ∷ Refused cause.NoRef ∷ Refused cause.RefKnown ∷ []
unfolding digits step attempt
referent_of_another_route = refl

-- a stretch on a route that is not there
abbrev pub enter_nowhere : ℕ → Name → Command
enter_nowhere asset class =
    verb.Enter (record { asset = asset; class = class; route = nowhere; side = L; location = between (abs 1) (abs 2); value = codes "STEEL"; offset = 0 })

-- Entering: a known asset before an unknown class, that before a route that is not there, that before a wrong kind, that before a place that is not there.
pub order_of_enter : replies busy (
    enter_nowhere 10 tree ∷ enter_nowhere 40 tree ∷ enter_nowhere 40 sign
    ∷ enter 40 sign L (between (past nowhere 0) (abs 99)) (codes "STOP") ∷ enter 40 rail L (at (abs 99)) (codes "STEEL") ∷ [])
    ≡ Refused cause.AssetKnown ∷ Refused cause.NoClass ∷ Refused cause.NoRoute ∷ Refused cause.WrongKind ∷ Refused cause.WrongKind ∷ []
unfolding digits step attempt
order_of_enter = refl

-- ... the start before the end, of each a missing referent before a place off the route, and an empty stretch last; it overlaps nothing.
pub order_of_ends : replies busy (
    barrier (past nowhere 99) (past km2 99) ∷ barrier (short_of km2 3) (past nowhere 0)
    ∷ barrier (past km2 8) (past nowhere 99) ∷ barrier (past km2 8) (past km2 15)
    ∷ barrier (past km2 8) (past km2 3) ∷ enter 40 speed L (between (abs 12) (abs 6)) (codes "60") ∷ [])
    ≡ Refused cause.NoRef ∷ Refused cause.OffRoute ∷ Refused cause.NoRef ∷ Refused cause.OffRoute ∷ Refused cause.Empty ∷ Refused cause.Empty ∷ []
unfolding digits step attempt
order_of_ends = refl

-- Of several speed limits in the way it is the least number, wherever it lies.
pub least_in_the_way : replies sheet (
    enter 30 speed B (between (abs 0) (abs 6)) (codes "80") ∷ enter 20 speed B (between (abs 6) (abs 18)) (codes "60")
    ∷ enter 40 speed B (between (abs 0) (abs 18)) (codes "50") ∷ enter 40 speed B (between (abs 0) (abs 1)) (codes "50") ∷ [])
    ≡ Done 8 ∷ Done 9 ∷ Refused (cause.Overlap 20) ∷ Refused (cause.Overlap 30) ∷ []
unfolding digits step attempt
least_in_the_way = refl

-- Retiring: an unknown asset before a route that is not there, that before a wrong kind, that before a place off the route, start before end, and that before nothing held there.
pub order_of_retire : replies busy (
    verb.Retire 99 nowhere (between (abs 0) (abs 1)) ∷ verb.Retire 10 nowhere (at (abs 99)) ∷ retire 10 (at (abs 99))
    ∷ retire 10 (between (short_of km2 3) (past nowhere 0)) ∷ retire 10 (between (past nowhere 0) (past km2 99))
    ∷ retire 10 (between (past km2 0) (past nowhere 0)) ∷ retire 10 (between (abs 0) (abs 19))
    ∷ retire 10 (between (abs 0) (abs 6)) ∷ retire 10 (between (abs 9) (abs 9)) ∷ retire 10 (between (abs 12) (abs 6)) ∷ [])
    ≡ Refused cause.NoAsset ∷ Refused cause.NoRoute ∷ Refused cause.WrongKind
    ∷ Refused cause.OffRoute ∷ Refused cause.NoRef
    ∷ Refused cause.NoRef ∷ Refused cause.OffRoute
    ∷ Refused cause.Empty ∷ Refused cause.Empty ∷ Refused cause.Empty ∷ []
unfolding digits step attempt
order_of_retire = refl

-- Superseding asks what entering asks, in the same order, but for the overlap; a class that is not exclusive is of the wrong kind.
pub order_of_supersede : replies busy (
    supersede 10 tree L (between (abs 6) (abs 12)) (codes "50") ∷ supersede 40 tree L (between (abs 6) (abs 12)) (codes "50")
    ∷ verb.Supersede (record { asset = 40; class = rail; route = nowhere; side = L; location = between (abs 1) (abs 2); value = codes "STEEL"; offset = 0 })
    ∷ supersede 40 rail L (between (abs 19) (abs 20)) (codes "STEEL") ∷ supersede 40 sign L (at (abs 6)) (codes "STOP")
    ∷ supersede 40 speed L (at (abs 19)) (codes "50") ∷ supersede 40 speed L (between (past nowhere 0) (past km2 99)) (codes "50")
    ∷ supersede 40 speed L (between (abs 19) (abs 0)) (codes "50") ∷ supersede 40 speed L (between (abs 12) (abs 6)) (codes "50") ∷ [])
    ≡ Refused cause.AssetKnown ∷ Refused cause.NoClass ∷ Refused cause.NoRoute ∷ Refused cause.WrongKind ∷ Refused cause.WrongKind
    ∷ Refused cause.WrongKind ∷ Refused cause.NoRef ∷ Refused cause.OffRoute ∷ Refused cause.Empty ∷ []
unfolding digits step attempt
order_of_supersede = refl

-- Splitting: a route that is not there before a known name, that before a chainage without a mark. The first mark and the last are none to split at, and the route's own name is known.
pub order_of_split : replies busy (
    verb.Split nowhere 5 a1 ∷ verb.Split a1 5 a1 ∷ split 5 ∷ split 0 ∷ split 16 ∷ split 17 ∷ verb.Split a1 10 a1 ∷ split 10 ∷ [])
    ≡ Refused cause.NoRoute ∷ Refused cause.RouteKnown ∷ Refused cause.NoMark ∷ Refused cause.NoMark ∷ Refused cause.NoMark ∷ Refused cause.NoMark ∷ Refused cause.RouteKnown ∷ Done 10 ∷ []
unfolding digits step attempt
order_of_split = refl

-- Joining: a route that is not there before one with itself, that before a measure out of range.
pub order_of_join : replies (adding sheet (new_route (forth 3 0 4 ∷ []) (mark 0 99_999_999_000 ∷ mark 4 100_000_000_000 ∷ []) ∷ []))
    (verb.Join nowhere nowhere ∷ verb.Join b1 b1 ∷ verb.Join b1 a1 ∷ []) ≡ Refused cause.NoRoute ∷ Refused cause.SameRoute ∷ Refused cause.MeasureRange ∷ []
unfolding digits step attempt
order_of_join = refl

-- Renumbering and recalibrating: a route that is not there before the rest.
pub order_of_names : replies busy (verb.Renumber nowhere a1 ∷ verb.Renumber nowhere nowhere ∷ verb.Recalibrate nowhere (plain 1) ∷ verb.Recalibrate a1 (plain 15) ∷ [])
    ≡ Refused cause.NoRoute ∷ Refused cause.NoRoute ∷ Refused cause.NoRoute ∷ Refused (cause.BadMarks 1) ∷ []
unfolding digits step attempt
order_of_names = refl

-- Realigning: a route that is not there before a chainage off the route, that before an empty stretch, that before a link that is not there, ...
pub order_of_realign : replies busy (
    verb.Realign nowhere 0 17 None (plain 1) ∷ realign_away 18 17 (plain 1) ∷ realign 17 8 (forth 3 0 4 ∷ []) (plain 1)
    ∷ realign 8 4 (forth 9 0 1 ∷ []) (plain 1) ∷ realign_away 8 8 first_marks
    ∷ realign 0 4 (forth 3 2 2 ∷ forth 9 0 1 ∷ []) (plain 1) ∷ [])
    ≡ Refused cause.NoRoute ∷ Refused cause.OffRoute ∷ Refused cause.OffRoute ∷ Refused cause.Empty ∷ Refused cause.Empty ∷ Refused cause.NoLink ∷ []
unfolding digits step attempt
order_of_realign = refl

-- Some that are refused for one fault: an end before its start, an end off the route, and ground of the route itself.
pub realign_refusals : replies with_speed (realign_away 10 8 (plain 1) ∷ realign_away 0 17 (plain 1) ∷ realign 0 4 (forth 1 5 7 ∷ []) first_marks ∷ [])
    ≡ Refused cause.Empty ∷ Refused cause.OffRoute ∷ Refused (cause.Taken 0) ∷ []
unfolding digits step attempt
realign_refusals = refl

-- ... that before a bad piece, that before a millimetre twice in the list, that before a millimetre of a route, that before bad marks; an empty route before bad marks too.
pub order_of_realign_pieces : replies busy (
    realign 0 4 (forth 3 0 4 ∷ forth 3 2 4 ∷ forth 3 1 1 ∷ []) (plain 1)
    ∷ realign 0 4 (forth 1 0 2 ∷ forth 3 0 4 ∷ forth 3 2 4 ∷ []) (plain 1)
    ∷ realign 0 4 (forth 3 0 4 ∷ forth 1 0 2 ∷ []) (plain 1)
    ∷ realign 0 4 (forth 3 0 4 ∷ []) (plain 1) ∷ realign_away 0 16 (plain 1) ∷ realign_away 0 4 (plain 16) ∷ [])
    ≡ Refused (cause.BadPiece 2) ∷ Refused (cause.Taken 2) ∷ Refused (cause.Taken 1) ∷ Refused (cause.BadMarks 1) ∷ Refused cause.NothingLeft ∷ Refused (cause.BadMarks 1) ∷ []
unfolding digits step attempt
order_of_realign_pieces = refl

-- how much there may be

-- room for one route and one asset, and for this many edits
abbrev pub tight : (edits : ℕ) → IsTrue (are_limits 1 1 edits) → Limits
tight edits fits = record { routes = 1; assets = 1; edits = edits; bounds = fits }

-- With room for eight edits, the ninth is refused, whatever it asks; a key of before is answered as before, or refused as used.
pub no_room_for_edits : answers (tight 8 refl) (sheet ++
    under (codes "K1") (new_route (forth 3 0 4 ∷ []) (plain 4)) ∷ under (codes "K2") speed_limit
    ∷ under (codes "K3") (link 9 1 refl) ∷ under (codes "K4") lower_limit ∷ under (codes "K5") (link 1 1 refl)
    ∷ under (codes "K2") speed_limit ∷ under (codes "K2") lower_limit ∷ []) nothing_known
    ≡ Done 1 ∷ Done 2 ∷ Done 3 ∷ Done 4 ∷ Done 5 ∷ Done 6 ∷ Done 7
    ∷ Refused (cause.TooMany Routes) ∷ Done 8
    ∷ Refused (cause.TooMany Edits) ∷ Refused (cause.TooMany Edits) ∷ Refused (cause.TooMany Edits)
    ∷ Again 8 ∷ Refused (cause.KeyUsed 8) ∷ []
unfolding digits step attempt
no_room_for_edits = refl

-- With room for one asset, a second one is refused before any check of its own, also in the place of the first; retired, the first still counts.
pub no_room_for_assets : answers (tight 20 refl) (keyed 8 (
    lower_limit ∷ speed_limit ∷ enter_nowhere 40 tree ∷ supersede 12 speed B (between (abs 6) (abs 18)) (codes "50")
    ∷ retire 10 (between (abs 0) (abs 18)) ∷ lower_limit ∷ [])) (after with_speed)
    ≡ Refused (cause.TooMany Assets) ∷ Refused (cause.TooMany Assets) ∷ Refused (cause.TooMany Assets) ∷ Refused (cause.TooMany Assets)
    ∷ Done 9 ∷ Refused (cause.TooMany Assets) ∷ []
unfolding digits step attempt
no_room_for_assets = refl

-- With room for one route, a second one is refused before any check of its own, and so is a split; a new name is not, and when the route is closed there is room again.
pub no_room_for_routes : answers (tight 20 refl) (keyed 7 (
    verb.Route a1 (forth 9 0 1 ∷ []) (plain 1) ∷ split 10 ∷ verb.Renumber a1 b1 ∷ verb.Close b1 ∷ new_route (forth 3 0 4 ∷ []) (plain 4) ∷ [])) (after sheet)
    ≡ Refused (cause.TooMany Routes) ∷ Refused (cause.TooMany Routes) ∷ Done 8 ∷ Done 9 ∷ Done 10 ∷ []
unfolding digits step attempt
no_room_for_routes = refl

-- The greatest link is done.
pub greatest_link : replies sheet (link 999_999 1_000_000_000 refl ∷ []) ≡ Done 8 ∷ []
unfolding digits step attempt
greatest_link = refl
