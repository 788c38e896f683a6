use Rattle.std.proofs.Common.{◌≡◌, true, refl}
use Rattle.std.proofs.Math.Path.{PathP, to_path_p}
use Rattle.std.proofs.Math.Bool.{Bool-set}
use Rattle.std.proofs.lemmas.Result.{err_from_is_err_and}
use Rattle.lrs_position.specs.declared.route.Route.{Route}
use Rattle.lrs_position.specs.Routes.{is_route}
use Rattle.lrs_position.proofs.route.Route.copy.Goals as goal

-- whichever proofs two routes fit by
fits_alike : (a b : Route) (course : a.course ≡ b.course) (marks : a.marks ≡ b.marks) (refs : a.refs ≡ b.refs) → PathP (λ k. is_route (course k) (marks k) (refs k) ≡ true) a.fits b.fits
fits_alike a b course marks refs = to_path_p (λ k. is_route (course k) (marks k) (refs k) ≡ true) (Bool-set (is_route b.course b.marks b.refs) true (coe 0 1 (k. is_route (course k) (marks k) (refs k) ≡ true) a.fits) b.fits)

-- Routes with equal parts are equal.
same_route : (a b : Route) → a.name ≡ b.name → a.course ≡ b.course → a.marks ≡ b.marks → a.refs ≡ b.refs → a ≡ b
same_route a b name course marks refs = λ j. record { name = name j; course = course j; marks = marks j; refs = refs j; fits = fits_alike a b course marks refs j }

pub returns-in_err-copy : goal.returns-in_err-copy
returns-in_err-copy c =
    let e = err_from_is_err_and c.from_residual.result c.from_residual.ensures.1 in
    rw e.1 tt

pub returns-in_err-copy-2 : goal.returns-in_err-copy-2
returns-in_err-copy-2 c =
    let e = err_from_is_err_and c.from_residual-in_err-copy-2.result c.from_residual-in_err-copy-2.ensures.1 in
    rw e.1 tt

pub returns-in_err-copy-3 : goal.returns-in_err-copy-3
returns-in_err-copy-3 c =
    let e = err_from_is_err_and c.from_residual-in_err-copy-3.result c.from_residual-in_err-copy-3.ensures.1 in
    rw e.1 tt

pub invariant_of-result : goal.invariant_of-result
invariant_of-result c = record { fits = rw (c.in_ok-copy.ensures, c.in_ok-copy-2.ensures, c.in_ok-copy-3.ensures) c.args.self.now.fits }

pub returns : goal.returns
returns c = same_route _ c.args.self.now refl c.in_ok-copy.ensures c.in_ok-copy-2.ensures c.in_ok-copy-3.ensures
