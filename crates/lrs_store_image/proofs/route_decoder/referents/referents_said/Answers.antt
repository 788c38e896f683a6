use Rattle.std.proofs.Common.{arith, ◌≡◌, ◌<◌, ◌+◌, ◌∙◌, length, take, Some, sym, ap, subst, rules}
use Rattle.std.proofs.lemmas.Grind.{common_steps}
use Rattle.lrs_store_tables.specs.Contents.Decoders.{each_of, referent_of}
use Rattle.lrs_store_image.specs.DecodedRoutes.Marks.{known, is_name_of}
use Rattle.lrs_store_image.proofs.DecodedRoutes.Each.{each_of-more, each_of-at}
use Rattle.lrs_store_image.proofs.route_decoder.referents.referents_said.Goals as goal

pub returns-in_default : goal.returns-in_default
returns-in_default c =
    let rows = c.args.rows.now in
    let i = c.loop-row.row-index in
    let bound : i < length rows = search rules in
    let said = known referent_of (is_name_of c.args.names.now) in
    sym (each_of-at said rows i c.row-item.result bound (ap said (sym c.row-item.is) ∙ sym c.known_referent.ensures ∙ c.in_default.is))

pub loop-row-preserved : goal.loop-row-preserved
loop-row-preserved c =
    let rows = c.args.rows.now in
    let i = c.loop-row.row-index in
    let bound : i < length rows = search rules in
    let said = known referent_of (is_name_of c.args.names.now) in
    let more = each_of-more said rows i c.row-item.result c.in-Some.said c.loop-row.found.items bound c.loop-row.invariant (ap said (sym c.row-item.is) ∙ sym c.known_referent.ensures ∙ c.in-Some.is) in
    subst (λ zs. each_of said (take (i + 1) rows) ≡ Some zs) (sym c.in_ok-push.ensures.items) more

pub returns : goal.returns
returns c = grind (arith, common_steps)
