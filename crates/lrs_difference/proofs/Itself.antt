-- No inventory differs from itself.
use Rattle.std.proofs.Common.{◌≡◌, Bool, true, false, not, refl}
use Rattle.std.specs.Prelude.{◌&&◌}
use Rattle.lrs_machine.specs.declared.image.Image.{Image}
use Rattle.lrs_machine.specs.Image.{state_of}
use Rattle.lrs_machine.specs.Register.{entries}
use Rattle.lrs_difference.specs.Difference.{difference, facts_in, in_order, referents_in}
use Rattle.lrs_difference.specs.Items.{same_asset, same_class, same_link, same_referent, same_route}
use Rattle.lrs_difference.specs.Laws.{NothingDiffersFromItself}
use Rattle.lrs_difference.proofs.Lacking.{HasNoMore, lacks_nothing, only_none}
use Rattle.lrs_difference.proofs.Same as decided
use Rattle.lrs_difference.proofs.Stretches.{no_stretches}

pub not_both : (b : Bool) → (b && not b) ≡ false
not_both true = refl
not_both false = refl

no_more_than_itself : (i : Image) → HasNoMore i i
no_more_than_itself i =
    let s = state_of i in
    record {
      links = lacks_nothing same_link decided.links (entries s.links) (entries s.links) refl;
      classes = lacks_nothing same_class decided.classes (entries s.classes) (entries s.classes) refl;
      routes = lacks_nothing same_route decided.routes (entries s.routes) (entries s.routes) refl;
      referents = lacks_nothing same_referent decided.referents (referents_in i) (referents_in i) refl;
      assets = lacks_nothing same_asset decided.assets (facts_in s) (facts_in s) refl;
      held = no_stretches s s (λ asset p. not_both (s.holds asset p));
    }

pub nothing_differs : NothingDiffersFromItself
unfolding difference
nothing_differs i = let none = only_none i i (no_more_than_itself i) in λ k. in_order (none k) (none k)
