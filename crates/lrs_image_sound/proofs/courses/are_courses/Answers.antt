use Rattle.std.proofs.Common.{ap, sym, ◌∙◌}
use Rattle.std.specs.Prelude.{is_some, []}
use Rattle.lrs_element.specs.Course.{first_repeated}
use Rattle.lrs_image_sound.proofs.Laid.{out_of_order, off_links, too_many, courses_answer}
use Rattle.lrs_image_sound.proofs.courses.are_courses.Goals as goal

pub returns-then-not-routes_rise : goal.returns-then-not-routes_rise
returns-then-not-routes_rise c = out_of_order c.args.links.now c.args.routes.now (sym c.routes_rise.ensures ∙ c.if-not-routes_rise.true)

pub returns-then-not-lie_on_links : goal.returns-then-not-lie_on_links
returns-then-not-lie_on_links c = off_links c.args.links.now c.args.routes.now (sym c.lie_on_links.ensures ∙ c.if-not-lie_on_links.true)

pub returns-then-routes-gt-MOST_ROUTES : goal.returns-then-routes-gt-MOST_ROUTES
returns-then-routes-gt-MOST_ROUTES c = too_many c.args.links.now c.args.routes.now c.if-routes-gt-MOST_ROUTES.true

pub returns : goal.returns
returns c =
    courses_answer c.args.links.now c.args.routes.now c.in_ok-pieces.pieces.items c.in_ok-repeat.repeat
    (sym c.routes_rise.ensures ∙ c.if-not-routes_rise.false) (sym c.lie_on_links.ensures ∙ c.if-not-lie_on_links.false)
    c.if-routes-gt-MOST_ROUTES.false c.in_ok-pieces.ensures.course (c.in_ok-repeat.ensures ∙ ap (λ l. is_some (first_repeated [] l)) c.deref.ensures.value)
