use Rattle.std.proofs.Common.{arith, ◌≡◌, ◌∷◌, ◌∙◌, Some, true, sym, ap}
use Rattle.std.proofs.lemmas.Grind.{common_steps}
use Rattle.std.specs.List.{list_all}
use Rattle.std.proofs.lemmas.Bool.{and_parts}
use Rattle.lrs_store_tables.specs.Contents.Decoders.{each_of}
use Rattle.lrs_store_tables.specs.Contents.Content.{route_with}
use Rattle.lrs_store_image.specs.DecodedRoutes.Referents.{is_measured}
use Rattle.lrs_store_image.proofs.DecodedRoutes.Each.{and_then, left_more}
use Rattle.lrs_store_image.proofs.route_decoder.referents.refer_all.Goals as goal

pub loop-route-preserved : goal.loop-route-preserved
loop-route-preserved c =
    let said = route_with c.args.rows.now in
    let left = c.next.new.self.rest.items in
    let found = c.loop-route.found.items in
    let e : c.loop-route.route-iterator.rest.items ≡ c.in-Some.route ∷ left = c.in-Some.ensures.steps.0 in
    let is : said c.in-Some.route ≡ Some c.in-Some-2.referred = sym c.in_ok-referred.ensures ∙ c.in-Some-2.is in
    let ready : list_all is_measured (c.in-Some.route ∷ left) ≡ true = sym (ap (list_all is_measured) e) ∙ c.loop-route.invariant.ready in
    record {
      ready = (and_parts (is_measured c.in-Some.route) (list_all is_measured left) ready).1;
      left = c.loop-route.invariant.left ∙ ap (λ rest. and_then found (each_of said rest)) e ∙ left_more said found c.in-Some.route left c.in-Some-2.referred is ∙ sym (ap (λ zs. and_then zs (each_of said left)) c.in_ok-push.ensures.items);
    }

pub returns-in_default : goal.returns-in_default
returns-in_default c = grind (arith, common_steps)

pub returns : goal.returns
returns c = grind (arith, common_steps)
