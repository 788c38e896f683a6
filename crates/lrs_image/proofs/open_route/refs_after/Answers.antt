use Rattle.std.proofs.Common.{◌≡◌, List, [], ◌∷◌, length, refl, sym, ap, ◌∙◌, arith, not, filter, true}
use Rattle.std.specs.Prelude.{◌&&◌, nat_lt}
use Rattle.std.proofs.lemmas.Bool.{and_parts}
use Rattle.std.specs.List.{list_all, list_any}
use Rattle.lrs_measure.specs.OrderedLists.{insert_all}
use Rattle.lrs_measure.specs.Texts.{same_name}
use Rattle.lrs_position.specs.declared.route.Referent.{Referent}
use Rattle.lrs_measure.specs.Lists.{each_two}
use Rattle.lrs_position.specs.declared.route.Route.{Route}
use Rattle.lrs_position.specs.Routes.{are_referents, have_marks, is_route_course, referent_before}
use Rattle.lrs_image.proofs.Named.{others-none}
use Rattle.lrs_image.proofs.open_route.refs_after.Goals as goal

nothing_from : {X : Type 0} (xs : List X) → length xs ≡ 0 → xs ≡ []
nothing_from [] h = refl
nothing_from (x ∷ xs) h = absurd (omega (arith, h))

pub returns-then-is_empty-2 : goal.returns-then-is_empty-2
returns-then-is_empty-2 c =
    let gone = nothing_from c.args.change.now.gone (c.if-is_empty.ensures.0 refl) in
    let come = nothing_from c.args.change.now.come (c.if-is_empty-2.ensures.0 refl) in
    let refs = c.args.route.now.refs in
    sym ((λ j. insert_all referent_before (come j) (filter (λ (r : Referent). not (list_any (same_name r.name) (gone j))) refs)) ∙ others-none (λ (r : Referent). r.name) refs)

-- The referents of a route are in order.
in_order : (route : Route) → each_two referent_before route.refs ≡ true
in_order route =
    let course = route.course in
    let refs = (and_parts (is_route_course course && have_marks course route.marks) (are_referents (length course) route.refs) route.fits).1 in
    (and_parts (each_two referent_before route.refs) (list_all (λ (r : Referent). nat_lt r.at (length course)) route.refs) refs).0

pub remove_named-requires : goal.remove_named-requires
remove_named-requires c =
    record {
      order =
          ap (each_two referent_before) (c.in_ok-reserve.ensures.rows ∙ c.in_ok-refs.ensures ∙ c.into_vec.ensures ∙ c.in_ok-copied.ensures)
          ∙ in_order c.args.route.now;
    }
