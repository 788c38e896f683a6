-- Laws of places: both ways to ask lead to one place, and a chainage is found exactly where an expression locates one.
use Rattle.std.specs.Prelude.{◌≡◌, ℕ, ◌*◌, ◌<◌, Option, Some, Ok, slice_get}
use Rattle.lrs_measure.specs.Texts.{Name}
use Rattle.lrs_element.specs.declared.link.Ground.{Ground}
use Rattle.lrs_position.specs.declared.expression.Expr.{Expr}
use Rattle.lrs_position.specs.declared.route.Route.{Route}
use Rattle.lrs_position.specs.Locations.{Alignment, Locates, located}
use Rattle.lrs_position.specs.Translations.{alignment_of, number_of}
use Rattle.lrs_machine.specs.declared.image.Image.{Image}
use Rattle.lrs_machine.specs.declared.image.RouteRow.{RouteRow}
use Rattle.lrs_machine.specs.Sound.{IsSound}
use Rattle.lrs_report_answers.specs.Answers.{IsRouteIn}
use Rattle.lrs_machine.specs.declared.question.AskedPlace.TheVariants.{OnLink}
use Rattle.lrs_report_answers.specs.Place.Places.{place_of}

-- Whatever millimetre of a link a route has at a chainage: asked for on the link, it is at that chainage of that route.
abbrev pub LinksLeadBack : Type 0
LinksLeadBack =
    (i : Image) → IsSound i → (e : RouteRow) (chainage : ℕ) (g : Ground) → IsRouteIn i e → slice_get e.route.course chainage ≡ Some g → place_of i (OnLink g.link g.mm) ≡ Ok (e, chainage)

-- What is found is a chainage that the expression locates; and wherever it locates one, one of the same value is found.
pub record IsExact (a : Alignment) (chainage_on : Name → Option ℕ) (e : Expr) : Type 0 where
  pub locates : (x : ℕ × ℕ) → located a chainage_on e ≡ Some x → Locates a chainage_on e x
  pub found : (x : ℕ × ℕ) → Locates a chainage_on e x → (y : ℕ × ℕ) × (located a chainage_on e ≡ Some y) × (x.0 * y.1 ≡ y.0 * x.1)

-- so it is on each route, wherever its referents stand
abbrev pub LocatedIsExact : Type 0
LocatedIsExact = (route : Route) (chainage_on : Name → Option ℕ) (e : Expr) → 0 < (number_of e).den → IsExact (alignment_of route) chainage_on e
