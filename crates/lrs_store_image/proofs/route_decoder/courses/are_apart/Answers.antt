use Rattle.std.proofs.Common.{ap, ◌∙◌}
use Rattle.std.specs.Prelude.{is_some, []}
use Rattle.lrs_element.specs.Course.{first_repeated}
use Rattle.lrs_store_image.proofs.DecodedRoutes.Reading.{apart_answer}
use Rattle.lrs_store_image.proofs.route_decoder.courses.are_apart.Goals as goal

pub returns : goal.returns
returns c =
    apart_answer c.args.courses.now c.in_ok-pieces.pieces.items c.in_ok-repeat.repeat c.requires c.in_ok-pieces.ensures.course (c.in_ok-repeat.ensures ∙ ap (λ l. is_some (first_repeated [] l)) c.deref.ensures.value)
