use Rattle.std.proofs.Common.{◌∙◌, Err, sym, ap}
use Rattle.std.specs.Option.{option_map}
use Rattle.lrs_machine.specs.declared.table.Table.TheVariants as table
use Rattle.lrs_machine.specs.Sound.{are_courses}
use Rattle.lrs_store_tables.specs.Contents.Content.{courses_of}
use Rattle.lrs_store_image.proofs.DecodedRoutes.Reading.{read_some, read_none}
use Rattle.lrs_store_image.proofs.DecodedRoutes.Measuring.{route_courses, passed}
use Rattle.lrs_store_image.proofs.route_decoder.courses.read_courses.Goals as goal

pub returns-in-Some-clause-courses : goal.returns-in-Some-clause-courses
returns-in-Some-clause-courses c =
    read_some table.Piece (courses_of c.args.rows.now) (are_courses c.args.links.now) c.in-Some.courses.items (ap (option_map (λ v. v.items)) (sym c.in-Some.is) ∙ c.in_ok-found.ensures)

pub returns-in-None-clause-unsound : goal.returns-in-None-clause-unsound
returns-in-None-clause-unsound c t e =
    read_none table.Piece (courses_of c.args.rows.now) (are_courses c.args.links.now) (ap (option_map (λ v. v.items)) (sym c.in-None.is) ∙ c.in_ok-found.ensures) ∙ ap Err (cc e)

pub returns-in-Some-clause-fit : goal.returns-in-Some-clause-fit
returns-in-Some-clause-fit c =
    route_courses c.args.links.now c.in-Some.courses.items
    (passed (are_courses c.args.links.now) (courses_of c.args.rows.now) c.in-Some.courses.items (ap (option_map (λ v. v.items)) (sym c.in-Some.is) ∙ c.in_ok-found.ensures)).1
