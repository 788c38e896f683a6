use Rattle.std.proofs.Common.{◌≡◌, ◌∙◌, List, sym, ap}
use Rattle.std.specs.Option.{option_map}
use Rattle.std.proofs.lemmas.Result.{IfOk-weaker}
use Rattle.lrs_element.specs.declared.link.Piece.{Piece}
use Rattle.lrs_machine.specs.Sound.{are_courses}
use Rattle.lrs_store_tables.specs.Contents.Decoders.{each_of, OfRoute, Numbered}
use Rattle.lrs_store_tables.specs.Contents.Content.{routes_named, course_of_route, courses_of}
use Rattle.lrs_store_image.specs.DecodedRoutes.Courses.{passing}
use Rattle.lrs_store_image.proofs.DecodedRoutes.Reading.{none_said, courses_said}
use Rattle.lrs_store_image.proofs.route_decoder.courses.courses_said.Goals as goal

pub returns-in_default : goal.returns-in_default
returns-in_default c = none_said c.args.rows.now (are_courses c.args.links.now) (ap (option_map (λ v. v.items)) (sym c.in_default.is) ∙ c.in_ok-said.ensures)

pub returns : goal.returns
returns c =
    let test = are_courses c.args.links.now in
    let ys = c.sort_by_route.new.rows.items in
    IfOk-weaker c.sound_courses.result
    (λ found. option_map (λ v. v.items) found ≡ passing (each_of (course_of_route c.deref.result.now) (routes_named c.deref.result.now)) test)
    (λ found. option_map (λ v. v.items) found ≡ passing (courses_of c.args.rows.now) test)
    (λ found h. h ∙ ap (λ (l : List (OfRoute (Numbered Piece))). passing (each_of (course_of_route l) (routes_named l)) test) c.deref.ensures.value
    ∙ courses_said c.args.rows.now test c.in-Some.said.items ys (ap (option_map (λ v. v.items)) (sym c.in-Some.is) ∙ c.in_ok-said.ensures) c.sort_by_route.ensures.same)
    c.sound_courses.ensures
