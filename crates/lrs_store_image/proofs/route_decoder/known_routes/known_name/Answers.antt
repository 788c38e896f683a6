use Rattle.std.proofs.Common.{◌≡◌, ◌<◌, ◌∙◌, length, get_or, sym, rules}
use Rattle.std.proofs.lemmas.List.{get_or_default}
use Rattle.lrs_measure.specs.Texts.{Name}
use Rattle.lrs_store_image.proofs.DecodedRoutes.Searching.{past_all, other_name, this_name}
use Rattle.lrs_store_image.proofs.route_decoder.known_routes.known_name.Goals as goal

pub returns-then-at-names : goal.returns-then-at-names
returns-then-at-names c = past_all c.args.names.now c.requires c.args.text.now c.names_before-at.result c.names_before-at.ensures.point c.if-at-names.true

pub returns-then-not-has_text : goal.returns-then-not-has_text
returns-then-not-has_text c =
    let names = c.args.names.now in
    let at = c.names_before-at.result in
    let name = c.index-names-at.result in
    let inside : at < length names = search rules in
    let is : (d : Name) → get_or names at d ≡ name = λ d. get_or_default names at d name inside ∙ sym c.index-names-at.is in
    other_name names c.requires c.args.text.now at c.names_before-at.ensures.point name inside is (sym c.has_text.ensures ∙ c.if-not-has_text.true)

pub returns : goal.returns
returns c =
    let names = c.args.names.now in
    let at = c.names_before-at.result in
    let name = c.index-names-at.result in
    let inside : at < length names = search rules in
    let is : (d : Name) → get_or names at d ≡ name = λ d. get_or_default names at d name inside ∙ sym c.index-names-at.is in
    this_name names c.requires c.args.text.now at c.names_before-at.ensures.point name inside is (sym c.has_text.ensures ∙ c.if-not-has_text.false)
