use Rattle.std.proofs.Common.{true, sym, ap, subst, ◌≡◌, ◌++◌, ◌∙◌}
use Rattle.std.specs.List.{AllByRecursion}
use Rattle.lrs_machine.specs.Sound.{are_parts, are_balanced}
use Rattle.lrs_image_sound.specs.Balance.{AreHeld, IsLedger}
use Rattle.lrs_image_sound.specs.SweptParts.{IsFilled}
use Rattle.lrs_image_sound.specs.Tables.{route_spans}
use Rattle.lrs_image_sound.proofs.Laid.{all-append}
use Rattle.lrs_image_sound.proofs.Fitting.{ok_so}
use Rattle.lrs_image_sound.proofs.Spanned.{filled_of, parts_entered, gone_answer}
use Rattle.lrs_image_sound.proofs.ledgers.are_gone.Goals as goal

pub do_balance-requires : goal.do_balance-requires
do_balance-requires c =
    let links = c.args.links.now in
    let assets = c.args.assets.now in
    let parts = c.in_ok-parts.parts.items in
    let are : are_parts links assets parts ≡ true = ap (are_parts links assets) (sym c.deref.ensures.value) ∙ sym c.in_ok-are_parts.ensures ∙ c.if-not-branch.false in
    record {
      present = subst (AllByRecursion IsFilled) (λ j. sym c.deref-2.ensures.value j ++ sym c.deref-3.ensures.value j) (all-append IsFilled c.in_ok-held.held.items parts c.in_ok-held.ensures.filled (filled_of links assets parts are));
      entered = filled_of links assets c.args.entered.now (parts_entered links assets c.args.entered.now c.requires.entered);
    }

pub returns : goal.returns
returns c =
    let links = c.args.links.now in
    let assets = c.args.assets.now in
    let routes = route_spans c.args.routes.now in
    let entered = c.args.entered.now in
    ok_so _ _ c.do_balance.result (λ balanced h. gone_answer links assets c.args.routes.now c.in_ok-held.held.items entered c.args.gone.now balanced
    (sym c.gone_rise.ensures ∙ c.if-not-gone_rise.false)
    (ap (are_parts links assets) (sym c.in_ok-parts.ensures ∙ sym c.deref.ensures.value) ∙ sym c.in_ok-are_parts.ensures ∙ c.if-not-branch.false)
    c.requires.courses c.requires.spans c.requires.entered c.in_ok-held.ensures.filled c.in_ok-held.ensures.held
    (λ held first second. h links assets routes (subst (AreHeld links assets routes) (sym c.deref-2.ensures.value) held) first (subst (IsLedger links assets) (sym (c.deref-3.ensures.value ∙ c.in_ok-parts.ensures)) second)
    ∙ ap (are_balanced links assets routes entered) (c.deref-3.ensures.value ∙ c.in_ok-parts.ensures))) c.do_balance.ensures
