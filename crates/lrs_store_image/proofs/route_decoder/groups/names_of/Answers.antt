use Rattle.std.proofs.Common.{arith, ◌≡◌, ◌∙◌, ◌<◌, length, take, true, ap, sym, subst, rules}
use Rattle.std.proofs.lemmas.Grind.{common_steps}
use Rattle.lrs_measure.specs.Lists.{each_two}
use Rattle.lrs_measure.specs.Texts.{name_before}
use Rattle.lrs_store_tables.specs.Contents.Content.{with_name, routes_named}
use Rattle.lrs_store_image.proofs.DecodedRoutes.Naming.{is_last, routes_named_rise, last_named, named_more}
use Rattle.lrs_store_image.proofs.route_decoder.groups.names_of.Goals as goal

pub push_name-requires-clause-order : goal.push_name-requires-clause-order
push_name-requires-clause-order g c = ap (each_two name_before) c.loop-row.invariant ∙ routes_named_rise (take c.loop-row.row-index c.args.rows.now)

pub push_name-requires-clause-last : goal.push_name-requires-clause-last
push_name-requires-clause-last g c =
    let rows = c.args.rows.now in
    let i = c.loop-row.row-index in
    let bound : i < length rows = search rules in
    let view : c.row-item.result.route ≡ c.row.inside.route = search rules in
    subst (λ a. is_last a c.loop-row.names.items ≡ true) view (ap (is_last c.row-item.result.route) c.loop-row.invariant ∙ last_named rows c.requires i c.row-item.result bound c.row-item.is)

pub loop-row-preserved : goal.loop-row-preserved
loop-row-preserved g c =
    let rows = c.args.rows.now in
    let i = c.loop-row.row-index in
    let bound : i < length rows = search rules in
    let view : c.row-item.result.route ≡ c.row.inside.route = search rules in
    c.in_ok-push_name.ensures ∙ ap (with_name c.row.inside.route) c.loop-row.invariant ∙ ap (λ a. with_name a (routes_named (take i rows))) (sym view) ∙ sym (named_more rows c.requires i c.row-item.result bound c.row-item.is)

pub returns : goal.returns
returns g c = grind (arith, common_steps)
