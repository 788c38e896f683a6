use Rattle.std.proofs.Common.{◌∙◌, sym, ap}
use Rattle.std.specs.List.{list_all}
use Rattle.std.specs.Option.{option_map}
use Rattle.lrs_store_image.specs.DecodedRoutes.Courses.{fit_together}
use Rattle.lrs_store_image.proofs.DecodedRoutes.Reading.{own, none_good, each_once, not_fit, fit}
use Rattle.lrs_store_image.proofs.route_decoder.courses.sound_courses.Goals as goal

pub returns-in_default : goal.returns-in_default
returns-in_default c = none_good c.args.links.now c.args.rows.now (ap (option_map (λ v. v.items)) (sym c.in_default.is) ∙ c.in_ok-courses.ensures)

pub fit_together-requires : goal.fit_together-requires
fit_together-requires c =
    ap (list_all own) c.deref.ensures.value ∙ each_once c.args.links.now c.args.rows.now c.in-Some.courses.items (ap (option_map (λ v. v.items)) (sym c.in-Some.is) ∙ c.in_ok-courses.ensures)

pub returns-then-not-fit : goal.returns-then-not-fit
returns-then-not-fit c =
    not_fit c.args.links.now c.args.rows.now c.in-Some.courses.items (ap (option_map (λ v. v.items)) (sym c.in-Some.is) ∙ c.in_ok-courses.ensures)
    (ap fit_together (sym c.deref.ensures.value) ∙ sym c.in_ok-fit.ensures ∙ c.if-not-fit.true)

pub returns : goal.returns
returns c =
    fit c.args.links.now c.args.rows.now c.in-Some.courses.items (ap (option_map (λ v. v.items)) (sym c.in-Some.is) ∙ c.in_ok-courses.ensures)
    (ap fit_together (sym c.deref.ensures.value) ∙ sym c.in_ok-fit.ensures ∙ c.if-not-fit.false)
