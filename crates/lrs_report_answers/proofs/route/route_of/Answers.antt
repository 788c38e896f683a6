use denote.Bor.{Bor}
use Rattle.std.proofs.Common.{◌≡◌, Option, Some, None, refl, ◌∙◌}
use Rattle.std.specs.Prelude.{IfSome}
use Rattle.std.specs.List.{find}
use Rattle.std.specs.Option.{option_map}
use Rattle.std.specs.Ordering.{is_eq}
use Rattle.lrs_measure.specs.Texts.{name_cmp}
use Rattle.lrs_report_answers.specs.Answers.{IsRouteIn}
use Rattle.lrs_position.specs.Translations.{alignment_of}
use Rattle.lrs_machine.specs.declared.image.RouteRow.{RouteRow}
use Rattle.lrs_image.specs.OpenLists.{image_of}
use Rattle.lrs_image.proofs.Tables.{routes_in_order}
use Rattle.lrs_report_answers.proofs.Asked.{route_is, found_known}
use Rattle.lrs_report_answers.proofs.route.route_of.Goals as goal

pub find-requires : goal.find-requires
find-requires c = record { order = routes_in_order (image_of c.args.kept.now) c.requires.sound }

both : (o : Option (Bor RouteRow)) → option_map (λ (row : Bor RouteRow). alignment_of row.now.route) o ≡ option_map (λ (e : RouteRow). alignment_of e.route) (option_map (λ (row : Bor RouteRow). row.now) o)
both None = refl
both (Some row) = refl

pub returns-clause-route : goal.returns-clause-route
returns-clause-route c = both c.find.result ∙ route_is (image_of c.args.kept.now) c.args.name.now (option_map (λ (row : Bor RouteRow). row.now) c.find.result) c.find.ensures

pub returns-clause-known : goal.returns-clause-known
returns-clause-known c = by c.find.result c.find.ensures
  where
    by : (o : Option (Bor RouteRow)) → option_map (λ (row : Bor RouteRow). row.now) o ≡ find (λ row. is_eq (name_cmp row.route.name c.args.name.now)) c.args.kept.now.routes.rows → IfSome o (λ row. IsRouteIn (image_of c.args.kept.now) row.now)
    by None h = tt
    by (Some row) h = found_known (image_of c.args.kept.now) c.args.name.now row.now h
