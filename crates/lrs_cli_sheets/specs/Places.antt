-- Which places a question or a command names, at which chainages they are, and which measures are said of them.
use Rattle.std.specs.Prelude.{◌≡◌, ℕ, pos, ◌*ℤ◌, unsigned_abs, length, Option, Some, None}
use Rattle.lrs_measure.specs.Fraction.{Fraction, IsNearest, IsQuotient}
use Rattle.lrs_measure.specs.Texts.{Name}
use Rattle.lrs_element.specs.Line.{HasMeasure}
use Rattle.lrs_position.specs.declared.expression.Expr.{Expr}
use Rattle.lrs_position.specs.declared.expression.Expr.TheVariants.{Abs, Rel, Int}
use Rattle.lrs_position.specs.declared.route.Route.{Route}
use Rattle.lrs_position.specs.Locations.{cell, snap}
use Rattle.lrs_position.specs.Readings.{whole}
use Rattle.lrs_position.specs.Translations.{alignment_of, referent_at, LocatesAt}
use Rattle.lrs_machine.specs.declared.command.Command.{Command}
use Rattle.lrs_machine.specs.declared.command.Command.TheVariants as command
use Rattle.lrs_machine.specs.declared.question.AskedPlace.TheVariants as asked
use Rattle.lrs_machine.specs.declared.question.Place.{Place}
use Rattle.lrs_machine.specs.declared.question.Place.TheVariants.{Chainage, Position}
use Rattle.lrs_machine.specs.declared.question.Question.{Question}
use Rattle.lrs_machine.specs.declared.question.Question.TheVariants as question
use Rattle.lrs_cli_sheets.specs.declared.places.Places.{Places}
use Rattle.lrs_cli_sheets.specs.declared.places.Places.TheVariants.{At, From, To, Between}

-- the ends of a stretch, where one is given
abbrev pub ends : Option Place → Option Place → Option Places
ends (Some from) (Some to) = Some (Between from to)
ends (Some from) None = Some (From from)
ends None (Some to) = Some (To to)
ends None None = None

-- places of a route, where both are given
abbrev pub on_route : Option Name → Option Places → Option (Name × Places)
on_route (Some route) (Some places) = Some (route, places)
on_route (Some route) None = None
on_route None places = None

-- the place that `where` asks for, and the stretch of a diagram, of rows or of an overlay of a route
abbrev pub places_in : Question → Option (Name × Places)
places_in (question.Where (asked.OnRoute route place)) = Some (route, At place)
places_in (question.Diagram route classes from to) = on_route (Some route) (ends from to)
places_in (question.Rows wanted) = on_route wanted.route (ends wanted.from wanted.to)
places_in (question.Overlay wanted) = on_route wanted.route (ends wanted.from wanted.to)
places_in _ = None

-- where a route is split, and what of it is realigned
abbrev pub places_of : Command → Option (Name × Places)
places_of (command.Split route at name) = Some (route, At (Chainage at))
places_of (command.Realign route from to pieces marks) = Some (route, Between (Chainage from) (Chainage to))
places_of _ = None

-- a position locates the chainage x of a route
abbrev pub IsLocated : Route → Expr → Fraction → Type 0
IsLocated route e x = LocatesAt (alignment_of route) (referent_at route.refs) e x

-- a position goes to this whole millimetre of a route, as an end of a stretch does
abbrev pub GoesTo : Route → Expr → ℕ → Type 0
GoesTo route e at = (x : Fraction) × IsLocated route e x × (at ≡ snap (unsigned_abs x.num, x.den))

-- a position stands in this millimetre of a route
abbrev pub StandsIn : Route → Expr → ℕ → Type 0
StandsIn route e at = (x : Fraction) × IsLocated route e x × (at ≡ cell (length route.course) (unsigned_abs x.num, x.den))

-- A place is this chainage, by what is true of a position.
abbrev pub IsAt : (Expr → ℕ → Type 0) → Place → ℕ → Type 0
IsAt P (Chainage c) at = at ≡ c
IsAt P (Position e) at = P e at

-- the measure that a place at this chainage states, or else the one there
abbrev pub IsSaid : Route → Place → ℕ → Fraction → Type 0
IsSaid route (Position (Abs m)) at said = said ≡ m
IsSaid route (Position (Rel name t)) at said = HasMeasure route.marks (whole (pos at)) said
IsSaid route (Position (Int p)) at said = HasMeasure route.marks (whole (pos at)) said
IsSaid route (Chainage c) at said = HasMeasure route.marks (whole (pos at)) said

-- the nearest thousandth, a half going up
abbrev pub IsThousandths : Fraction → ℕ → Type 0
IsThousandths m n = (q : Fraction) × IsQuotient q (m.num *ℤ pos 1000) m.den × IsNearest q (pos n)
