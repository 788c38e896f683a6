-- The first sheet of the examples, in which a millimetre stands for half a metre, and the words of the examples: commands, answers and readings.
use Rattle.std.specs.Prelude.{ℕ, pos, neg_ℤ, ◌+◌, true, false, IsTrue, List, [], ◌∷◌, ◌++◌, length, map, codes, Option, Some, None, refl}
use Rattle.std.specs.List.{range_with_len, flat_map}
use Rattle.std.specs.Option.{option_map, option_and_then}
use Rattle.lrs_measure.specs.Texts.{Name}
use Rattle.lrs_measure.specs.Runs.{Run}
use Rattle.lrs_element.specs.declared.link.Piece.{Piece}
use Rattle.lrs_element.specs.declared.marks.Mark.{Mark}
use Rattle.lrs_measure.specs.Limits.{is_link}
use Rattle.lrs_element.specs.Course.{course_of}
use Rattle.lrs_position.specs.declared.expression.Expr.{Expr}
use Rattle.lrs_position.specs.declared.expression.Expr.TheVariants.{Abs, Rel, Int}
use Rattle.lrs_position.specs.Expressions.{Ends}
use Rattle.lrs_position.specs.Locations.{Alignment}
use Rattle.lrs_events.specs.declared.class.Class.{Class}
use Rattle.lrs_events.specs.declared.class.Kind.{Kind}
use Rattle.lrs_events.specs.declared.class.Kind.TheVariants.{Point, Stretch, Exclusive}
use Rattle.lrs_events.specs.declared.side.Side.{Side}
use Rattle.lrs_events.specs.declared.side.Side.TheVariants.{L, B}
use Rattle.lrs_events.specs.declared.side.LinkSide.{LinkSide}
use Rattle.lrs_events.specs.declared.side.LinkSide.TheVariants.{Left, Right}
use Rattle.lrs_events.specs.Places.{Place}
use Rattle.lrs_machine.specs.declared.answer.Limits.{Limits}
use Rattle.lrs_machine.specs.declared.answer.Answer.{Answer}
use Rattle.lrs_machine.specs.declared.command.Command.{Command}
use Rattle.lrs_machine.specs.declared.command.Command.TheVariants as verb
use Rattle.lrs_machine.specs.Register.{get}
use Rattle.lrs_machine.specs.State.{State, Retired, Abandoned, nothing_known}
use Rattle.lrs_machine.specs.Machine.{Record, answers, state_after, referent_chainage}
use Rattle.lrs_machine.specs.Readings.{total_present, total_entered, total_gone, hits_at}

-- names: three routes and two referents

abbrev pub a1 : Name
a1 = codes "A1"

abbrev pub a2 : Name
a2 = codes "A2"

abbrev pub b1 : Name
b1 = codes "B1"

-- a route and a referent that are nowhere
abbrev pub nowhere : Name
nowhere = codes "ZZ"

abbrev pub km2 : Name
km2 = codes "KM2"

abbrev pub km5 : Name
km5 = codes "KM5"

-- speed limits, of which no two lie on one place
abbrev pub speed : Name
speed = codes "SPEED"

-- safety barriers, over stretches
abbrev pub rail : Name
rail = codes "RAIL"

-- road signs, at points
abbrev pub sign : Name
sign = codes "SIGN"

-- positions

-- at a measure
abbrev pub abs : ℕ → Expr
abs measure = Abs (record { num = pos measure; den = 1 })

-- this many millimetres after a referent
abbrev pub past : Name → ℕ → Expr
past referent distance = Rel referent (record { num = pos distance; den = 1 })

-- this many before it
abbrev pub short_of : Name → ℕ → Expr
short_of referent distance = Rel referent (record { num = neg_ℤ (pos distance); den = 1 })

-- at a proportion of the route's length
abbrev pub share : ℕ → ℕ → Expr
share n d = Int (record { num = pos n; den = d })

-- a stretch, and a point
abbrev pub between : Expr → Expr → Ends
between from to = record { from = from; to = Some to }

abbrev pub at : Expr → Ends
at position = record { from = position; to = None }

-- commands

-- a link: its number, its length, and that a link can have them
abbrev pub link : (number length : ℕ) → IsTrue (is_link number length) → Command
link number length fits = verb.Link (record { number = number; length = length; limits = fits })

abbrev pub class : Name → Kind → Command
class name kind = verb.Class (record { name = name; kind = kind })

-- a piece that is run forwards, and one that is run backwards
abbrev pub forth : ℕ → ℕ → ℕ → Piece
forth link a b = record { link = link; from = a; to = b; forward = true }

abbrev pub back : ℕ → ℕ → ℕ → Piece
back link a b = record { link = link; from = a; to = b; forward = false }

-- a chainage and its measure
abbrev pub mark : ℕ → ℕ → Mark
mark chainage measure = record { chainage = chainage; measure = measure }

-- a route of this length, measured from 0 in millimetres
abbrev pub plain : ℕ → List Mark
plain length = mark 0 0 ∷ mark length length ∷ []

-- an asset on route A1, beside which it lies at no distance
abbrev pub enter : ℕ → Name → Side → Ends → Name → Command
enter asset class side location value =
    verb.Enter (record { asset = asset; class = class; route = a1; side = side; location = location; value = value; offset = 0 })

-- the same, in the place of what its class has there
abbrev pub supersede : ℕ → Name → Side → Ends → Name → Command
supersede asset class side location value =
    verb.Supersede (record { asset = asset; class = class; route = a1; side = side; location = location; value = value; offset = 0 })

-- A1 is split, and its second part is A2; they are joined again
abbrev pub split : ℕ → Command
split chainage = verb.Split a1 chainage a2

abbrev pub join : Command
join = verb.Join a1 a2

-- pieces in the place of a stretch, and none
abbrev pub realign : ℕ → ℕ → List Piece → List Mark → Command
realign from to pieces marks = verb.Realign a1 from to (Some pieces) marks

abbrev pub realign_away : ℕ → ℕ → List Mark → Command
realign_away from to marks = verb.Realign a1 from to None marks

-- what an asset holds of A1 there is retired
abbrev pub retire : ℕ → Ends → Command
retire asset location = verb.Retire asset a1 location

-- records and answers

-- as much room as an inventory can have
abbrev pub full : Limits
full = record { routes = 10_000; assets = 1_000_000; edits = 10_000_000; bounds = refl }

-- commands that follow a number of others, each under a key of its own: xA, xB and so on
abbrev pub keyed : ℕ → List Command → List Record
keyed n [] = []
keyed n (c ∷ cs) = record { key = 120 ∷ (n + 65) ∷ []; command = c } ∷ keyed (n + 1) cs

-- a command under this key
abbrev pub under : Name → Command → Record
under key command = record { key = key; command = command }

-- records, and commands after them
abbrev pub adding : List Record → List Command → List Record
adding before commands = before ++ keyed (length before) commands

-- the state after records
abbrev pub after : List Record → State
after records = state_after full records nothing_known

-- the answers to these commands after those records
abbrev pub replies : List Record → List Command → List Answer
replies before commands = answers full (keyed (length before) commands) (after before)

-- readings

-- side millimetres of a class
pub record Totals : Type 0 where
  pub entered : ℕ
  pub retired : ℕ
  pub abandoned : ℕ
  pub present : ℕ

abbrev pub totals_of : Name → State → Totals
totals_of class s = record { entered = total_entered class s; retired = total_gone Retired class s; abandoned = total_gone Abandoned class s; present = total_present class s }

-- entered, retired, abandoned and present
abbrev pub totals : ℕ → ℕ → ℕ → ℕ → Totals
totals entered retired abandoned present = record { entered = entered; retired = retired; abandoned = abandoned; present = present }

-- what an asset holds: a side from one chainage to another
abbrev pub row : ℕ → ℕ → Side → Run Side
row from to side = record { from = from; to = to; value = side }

abbrev pub route_of : State → Name → Option Alignment
route_of s name = get s.routes name

abbrev pub alignment : List Piece → List Mark → Alignment
alignment pieces marks = record { course = course_of pieces; marks = marks }

-- a route over these pieces
abbrev pub over : List Piece → List Mark → Option Alignment
over pieces marks = Some (alignment pieces marks)

-- the millimetre of a route that a referent stands in
abbrev pub referent_at : State → Name → Name → Option ℕ
referent_at s route referent = option_and_then (λ a. referent_chainage s a referent) (route_of s route)

-- who lies at a position of A1: an asset, the edit that entered it, and its side
abbrev pub holders : List Record → Expr → Option (List (ℕ × ℕ × Side))
holders records position = option_map (map (λ h. (h.asset.number, h.asset.entered_by, h.side))) (hits_at (after records) a1 position)

-- a millimetre of a link, and a side of it
abbrev pub place : ℕ → ℕ → LinkSide → Place
place link mm side = record { link = link; mm = mm; side = side }

-- this many places of a link from a millimetre on, on one side and on both
abbrev pub places_along : ℕ → ℕ → ℕ → LinkSide → List Place
places_along link lo count side = map (λ k. place link k side) (range_with_len lo count)

abbrev pub both_sides_along : ℕ → ℕ → ℕ → List Place
both_sides_along link lo count = flat_map (λ k. place link k Left ∷ place link k Right ∷ []) (range_with_len lo count)

-- the first sheet: three links, three classes, and a route whose second part runs backwards

abbrev pub first_pieces : List Piece
first_pieces = forth 1 0 10 ∷ back 2 0 6 ∷ []

abbrev pub first_marks : List Mark
first_marks = mark 0 0 ∷ mark 10 12 ∷ mark 16 18 ∷ []

abbrev pub first_alignment : Alignment
first_alignment = alignment first_pieces first_marks

abbrev pub first_classes : List Class
first_classes = record { name = rail; kind = Stretch } ∷ record { name = sign; kind = Point } ∷ record { name = speed; kind = Exclusive } ∷ []

abbrev pub sheet : List Record
sheet = adding [] (
    link 1 10 refl ∷ link 2 6 refl ∷ link 3 4 refl
    ∷ class speed Exclusive ∷ class rail Stretch ∷ class sign Point
    ∷ verb.Route a1 first_pieces first_marks ∷ [])

-- a speed limit over the second half of the first link and all of the second, on both sides
abbrev pub speed_limit : Command
speed_limit = enter 10 speed B (between (abs 6) (abs 18)) (codes "80")

-- the first sheet and the speed limit
abbrev pub with_speed : List Record
with_speed = adding sheet (speed_limit ∷ [])

-- a sign at the end of the route, where it runs backwards
abbrev pub stop_sign : Command
stop_sign = enter 20 sign L (at (abs 18)) (codes "STOP")

abbrev pub with_sign : List Record
with_sign = adding sheet (stop_sign ∷ [])

-- a speed limit over the first six units of measure, in 5 millimetres, where the other begins
abbrev pub lower_limit : Command
lower_limit = enter 11 speed B (between (abs 0) (abs 6)) (codes "60")

-- a referent in the third millimetre
abbrev pub second_kilometre : Command
second_kilometre = verb.Ref km2 a1 (abs 3)

abbrev pub with_referent : List Record
with_referent = adding sheet (second_kilometre ∷ [])
