-- The lines of a difference lead from the first inventory to the second.
use Rattle.std.proofs.Common.{◌≡◌, ℕ, Bool, true, false, not, refl, sym, ap, ◌∙◌}
use Rattle.std.specs.Prelude.{◌||◌, ◌&&◌}
use Rattle.std.specs.List.{list_any}
use Rattle.lrs_events.specs.Places.{Place}
use Rattle.lrs_machine.specs.declared.image.Image.{Image}
use Rattle.lrs_machine.specs.Image.{state_of}
use Rattle.lrs_machine.specs.Sound.{IsSound}
use Rattle.lrs_difference.specs.declared.line.Sign.TheVariants.{Removed, Added}
use Rattle.lrs_difference.specs.Difference.{difference, holds_only}
use Rattle.lrs_difference.specs.Laws.{LinesLeadToTheOther, gives, gives_some}
use Rattle.lrs_difference.proofs.Given.{given_alone}
use Rattle.lrs_difference.proofs.Signs.{added_between, removed_between}

leads : (h k : Bool) → k ≡ (h && not (h && not k) || (k && not h))
leads true true = refl
leads true false = refl
leads false true = refl
leads false false = refl

module _ (a b : Image) (asset : ℕ) (p : Place) where
  pub removed_given : IsSound a → gives_some Removed (difference a b) asset p ≡ holds_only (state_of a) (state_of b) asset p
  removed_given sound = ap (list_any (λ x. gives x asset p)) (removed_between a b) ∙ given_alone a b sound asset p

  pub added_given : IsSound b → gives_some Added (difference a b) asset p ≡ holds_only (state_of b) (state_of a) asset p
  added_given sound = ap (list_any (λ x. gives x asset p)) (added_between a b) ∙ given_alone b a sound asset p

pub lines_lead : LinesLeadToTheOther
lines_lead a b sa sb asset p =
    leads ((state_of a).holds asset p) ((state_of b).holds asset p)
    ∙ sym (λ i. (state_of a).holds asset p && not (removed_given a b asset p sa i) || added_given a b asset p sb i)
