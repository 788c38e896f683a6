use Rattle.std.proofs.Common.{◌≡◌, ◌<◌, ◌+◌, ◌∙◌, length, take, Some, sym, ap, subst, rules}
use Rattle.std.proofs.lemmas.List.{take_all}
use Rattle.lrs_store_tables.specs.Contents.Decoders.{each_of}
use Rattle.lrs_store_image.proofs.DecodedRoutes.Each.{each_of-more, each_of-at}
use Rattle.lrs_store_image.specs.DecodedRoutes.Spans.{known_span}
use Rattle.lrs_store_image.proofs.DecodedRoutes.Found.{each_known}
use Rattle.lrs_store_image.proofs.route_decoder.decode_spans.spans_said.Goals as goal

pub returns-in_default : goal.returns-in_default
returns-in_default c =
    let assets = c.args.assets.now in
    let routes = c.args.routes.now in
    let rows = c.args.rows.now in
    let i = c.loop-row.row-index in
    let bound : i < length rows = search rules in
    let known = known_span assets routes in
    sym (each_of-at known rows i c.row-item.result bound (ap known (sym c.row-item.is) ∙ sym c.span_of.ensures ∙ c.in_default.is)) ∙ each_known assets routes rows

pub loop-row-preserved : goal.loop-row-preserved
loop-row-preserved c =
    let known = known_span c.args.assets.now c.args.routes.now in
    let rows = c.args.rows.now in
    let i = c.loop-row.row-index in
    let bound : i < length rows = search rules in
    let more = each_of-more known rows i c.row-item.result c.in-Some.said c.loop-row.found.items bound c.loop-row.invariant (ap known (sym c.row-item.is) ∙ sym c.span_of.ensures ∙ c.in-Some.is) in
    subst (λ zs. each_of known (take (i + 1) rows) ≡ Some zs) (sym c.in_ok-push.ensures.items) more

pub returns : goal.returns
returns c =
    let assets = c.args.assets.now in
    let routes = c.args.routes.now in
    let rows = c.args.rows.now in
    sym c.loop-row.invariant ∙ ap (each_of (known_span assets routes)) (take_all c.loop-row.row-index rows c.loop-row-test.false) ∙ each_known assets routes rows
