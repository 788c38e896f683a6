-- What a route becomes by a change that fits.
use Rattle.std.proofs.Common.{◌≡◌, Bool, true, false, refl, sym, ◌∙◌}
use Rattle.std.proofs.Math.Path.{PathP, to_path_p}
use Rattle.std.proofs.Math.Bool.{Bool-set}
use Rattle.std.proofs.lemmas.Bool.{false≢true}
use Rattle.lrs_position.specs.declared.route.Route.{Route}
use Rattle.lrs_position.specs.Routes.{is_route}
use Rattle.lrs_image.specs.declared.change.RouteChange.{RouteChange}
use Rattle.lrs_image.specs.Change.{course_after, marks_after, changed_refs, fits_after, route_if, route_after}

-- its name, course, marks and referents are those of the change
pub record HasBecome (c : RouteChange) (r new : Route) : Type 0 where
  pub name : new.name ≡ c.name
  pub course : new.course ≡ course_after c r
  pub marks : new.marks ≡ marks_after c r
  pub refs : new.refs ≡ changed_refs c.refs r.refs

pub becomes : (c : RouteChange) (r : Route) → fits_after c r ≡ true → HasBecome c r (route_after c r)
becomes c r h = by (fits_after c r) (λ i. fits_after c r) h
  where
    by : (b : Bool) (e : fits_after c r ≡ b) → b ≡ true → HasBecome c r (route_if c r b e)
    by true e k = record { name = refl; course = refl; marks = refl; refs = refl }
    by false e k = absurd (false≢true k)

-- whichever proofs two routes fit by
fits_alike : (a b : Route) (course : a.course ≡ b.course) (marks : a.marks ≡ b.marks) (refs : a.refs ≡ b.refs) → PathP (λ k. is_route (course k) (marks k) (refs k) ≡ true) a.fits b.fits
fits_alike a b course marks refs = to_path_p (λ k. is_route (course k) (marks k) (refs k) ≡ true) (Bool-set (is_route b.course b.marks b.refs) true (coe 0 1 (k. is_route (course k) (marks k) (refs k) ≡ true) a.fits) b.fits)

-- Routes with equal parts are equal.
pub same_route : (a b : Route) → a.name ≡ b.name → a.course ≡ b.course → a.marks ≡ b.marks → a.refs ≡ b.refs → a ≡ b
same_route a b name course marks refs = λ j. record { name = name j; course = course j; marks = marks j; refs = refs j; fits = fits_alike a b course marks refs j }

-- A route with the parts of the change is the route after it.
pub has_become : (c : RouteChange) (r new : Route) → fits_after c r ≡ true → HasBecome c r new → new ≡ route_after c r
has_become c r new h b =
    let after = becomes c r h in
    same_route new (route_after c r) (b.name ∙ sym after.name) (b.course ∙ sym after.course) (b.marks ∙ sym after.marks) (b.refs ∙ sym after.refs)
