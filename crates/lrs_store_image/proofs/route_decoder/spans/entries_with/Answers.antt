use Rattle.std.proofs.Common.{◌≡◌, ◌∷◌, [], ◌++◌, List, Some, length, sym, ap, subst, ◌∙◌, append_assoc, arith}
use Rattle.std.specs.Vec.Iter.{into_iter_items}
use Rattle.lrs_position.specs.declared.route.Route.{Route}
use Rattle.lrs_store_tables.specs.Contents.Decoders.{each_of}
use Rattle.lrs_store_image.proofs.DecodedRoutes.Each.{each_of-push, each_of-fails}
use Rattle.lrs_store_image.specs.DecodedRoutes.Spans.{canonical_entry}
use Rattle.lrs_store_image.proofs.route_decoder.spans.entries_with.Goals as goal

pub returns-in_default : goal.returns-in_default
returns-in_default c =
    let at = c.loop-route in
    let x = c.in-Some.route in
    let left = into_iter_items c.next.new.self in
    let made = canonical_entry c.args.said.now in
    let steps : into_iter_items at.route-iterator ≡ x ∷ left = c.in-Some.ensures.steps.0 in
    let all : at.yielded ++ x ∷ left ≡ c.args.routes.items = ap (λ (l : List Route). at.yielded ++ l) (sym steps) ∙ at.invariant.0 ∙ c.into_iter-route-iterator.ensures.into_iter_gives.0 in
    sym (ap (each_of made) (sym all) ∙ each_of-fails made at.yielded x left (sym c.in_ok-route_row.ensures ∙ c.in_default.is))

pub loop-route-preserved : goal.loop-route-preserved
loop-route-preserved c =
    let at = c.loop-route in
    let x = c.in-Some.route in
    let left = into_iter_items c.next.new.self in
    let made = canonical_entry c.args.said.now in
    let steps : into_iter_items at.route-iterator ≡ x ∷ left = c.in-Some.ensures.steps.0 in
    let gone = c.in-Some.ensures.steps.1 in
    let was = at.invariant.2 in
    let short = ap length steps in (
      append_assoc at.yielded (x ∷ []) left ∙ ap (λ (l : List Route). at.yielded ++ l) (sym steps) ∙ at.invariant.0,
      subst (λ zs. each_of made (at.yielded ++ x ∷ []) ≡ Some zs) (sym c.in_ok-push.ensures.items)
          (each_of-push made at.yielded x c.in-Some-2.route_row at.entries.items at.invariant.1 (sym c.in_ok-route_row.ensures ∙ c.in-Some-2.is)),
      omega (arith, gone, was, short),
    )
