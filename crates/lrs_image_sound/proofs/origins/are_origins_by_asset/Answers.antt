use Rattle.std.proofs.Common.{ap, sym, ◌∙◌}
use Rattle.std.specs.Prelude.{◌&&◌}
use Rattle.std.specs.List.{list_all}
use Rattle.lrs_image_sound.specs.Origins.{is_named, agrees_with_all}
use Rattle.lrs_image_sound.proofs.Originated.{origins_answer}
use Rattle.lrs_image_sound.proofs.origins.are_origins_by_asset.Goals as goal

pub returns-then-not-are_named : goal.returns-then-not-are_named
returns-then-not-are_named c =
    let assets = c.args.assets.now in
    let entered = c.args.entered.now in
    sym (λ j. (ap (λ l. list_all (is_named l) assets) (sym c.deref.ensures.value) ∙ sym c.are_named.ensures ∙ c.if-not-are_named.true) j && list_all (agrees_with_all assets) entered)
    ∙ origins_answer entered assets c.in_ok-numbers.numbers.items c.in_ok-numbers.ensures.permutation

pub returns : goal.returns
returns c =
    let assets = c.args.assets.now in
    let entered = c.args.entered.now in
    c.all_agree.ensures
    ∙ sym (λ j. (ap (λ l. list_all (is_named l) assets) (sym c.deref.ensures.value) ∙ sym c.are_named.ensures ∙ c.if-not-are_named.false) j && list_all (agrees_with_all assets) entered)
    ∙ origins_answer entered assets c.in_ok-numbers.numbers.items c.in_ok-numbers.ensures.permutation
