use Rattle.std.proofs.Common.{◌≡◌, ◌∙◌, List, Option, sym, ap}
use Rattle.std.proofs.lemmas.Result.{IfOk-weaker}
use Rattle.std.specs.Option.{option_map}
use Rattle.lrs_element.specs.declared.link.Piece.{Piece}
use Rattle.lrs_machine.specs.Sound.{RouteCourse}
use Rattle.lrs_store_tables.specs.Contents.Decoders as option
use Rattle.lrs_store_image.specs.DecodedRoutes.Courses.{good_route, good_route_over}
use Rattle.lrs_store_image.proofs.route_decoder.courses.course_of_route.Goals as goal

pub returns-in_default : goal.returns-in_default
returns-in_default c =
    let onwards : Option (List Piece) → Option RouteCourse = λ o. option.◌>>=◌ o (good_route_over c.args.links.now c.args.route.now) in
    ap onwards (ap (option_map (λ v. v.items)) (sym c.in_default.is) ∙ c.in_ok-pieces.ensures)

pub returns : goal.returns
returns c =
    let over = good_route_over c.args.links.now c.args.route.now in
    let onwards : Option (List Piece) → Option RouteCourse = λ o. option.◌>>=◌ o over in
    IfOk-weaker c.course_with.result (λ found. found ≡ over c.deref.result.now) (λ found. found ≡ good_route c.args.links.now c.args.rows.now c.args.route.now)
    (λ found h. h ∙ ap over c.deref.ensures.value ∙ ap onwards (ap (option_map (λ v. v.items)) (sym c.in-Some.is) ∙ c.in_ok-pieces.ensures))
    c.course_with.ensures
