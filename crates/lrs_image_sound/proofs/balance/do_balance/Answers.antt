use Rattle.std.proofs.Common.{◌≡◌, ◌↔◌, List, ◌++◌}
use Rattle.std.specs.Prelude.{IsTrue}
use Rattle.std.proofs.lemmas.Result.{IfOk-weaker}
use Rattle.lrs_element.specs.declared.link.Link.{Link}
use Rattle.lrs_events.specs.declared.class.Asset.{Asset}
use Rattle.lrs_machine.specs.Sound.{RouteSpans, are_balanced}
use Rattle.lrs_image_sound.specs.Pairs.{AreHadAlike}
use Rattle.lrs_image_sound.specs.Balance.{AreHeld, IsLedger}
use Rattle.lrs_image_sound.proofs.Balancing.{balanced_alike, one_test}
use Rattle.lrs_image_sound.proofs.balance.do_balance.Goals as goal

pub returns : goal.returns
returns c =
    let held = c.args.held.now in
    let entered = c.args.entered.now in
    let gone = c.args.gone.now in
    IfOk-weaker _ (λ b. IsTrue b ↔ AreHadAlike (held ++ gone) entered)
    (λ b. (links : List Link) (assets : List Asset) (routes : List RouteSpans) → AreHeld links assets routes held → IsLedger links assets entered → IsLedger links assets gone → b ≡ are_balanced links assets routes entered gone)
    (λ b h links assets routes x y z. one_test b (are_balanced links assets routes entered gone) h (balanced_alike links assets routes held entered gone x y z)) c.are_had_alike.ensures
