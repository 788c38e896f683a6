use Rattle.std.proofs.Common.{◌≡◌, ◌<◌, ◌≤◌, true, false, length, sym, ap₂, ◌∙◌, rules}
use Rattle.std.specs.Prelude.{nat_eq}
use Rattle.std.proofs.lemmas.Bool.{eqb-true}
use Rattle.lrs_store_image.proofs.OriginRows.{is_of, not_as_many, next_origin, wrong_origin, all_origins}
use Rattle.lrs_store_image.proofs.origins.are_origins_of.Goals as goal

pub returns-then-not-are_as_many : goal.returns-then-not-are_as_many
returns-then-not-are_as_many c = sym (not_as_many c.args.assets.now c.args.origins.now (search rules))

pub returns-then-not-is_of : goal.returns-then-not-is_of
returns-then-not-is_of c =
    let assets = c.args.assets.now in
    let os = c.args.origins.now in
    let i = c.loop-i.i in
    let a = c.index-assets-i.result in
    let o = c.index-origins-i.result in
    let in_assets : i < length assets = search rules in
    let in_os : i < length os = search rules in
    let here : is_of a o ≡ false = search rules in
    sym (wrong_origin assets os i a o in_assets in_os c.loop-i.invariant (ap₂ is_of (sym c.index-assets-i.is) (sym c.index-origins-i.is) ∙ here))

pub loop-i-preserved : goal.loop-i-preserved
loop-i-preserved c =
    let assets = c.args.assets.now in
    let os = c.args.origins.now in
    let i = c.loop-i.i in
    let a = c.index-assets-i.result in
    let o = c.index-origins-i.result in
    let in_assets : i < length assets = search rules in
    let in_os : i < length os = search rules in
    let here : is_of a o ≡ true = search rules in
    next_origin assets os i a o in_assets in_os c.loop-i.invariant (ap₂ is_of (sym c.index-assets-i.is) (sym c.index-origins-i.is) ∙ here)

pub returns : goal.returns
returns c =
    let assets = c.args.assets.now in
    let os = c.args.origins.now in
    let past : length assets ≤ c.loop-i.i = search rules in
    let many : nat_eq (length assets) (length os) ≡ true = search rules in
    sym (c.loop-i.invariant ∙ all_origins assets os c.loop-i.i (eqb-true (length assets) (length os) many) past)
