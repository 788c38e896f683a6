-- What is asked of parts does not turn on their order.
use Rattle.std.proofs.Common.{◌≡◌, ℕ, Bool, cond, List, sym, ap, ◌∙◌, IsPermutation}
use Rattle.std.specs.Prelude.{◌&&◌, ◌||◌, not, nat_eq, nat_le, ◌-◌}
use Rattle.std.specs.List.{AllByRecursion, list_all}
use Rattle.std.proofs.lemmas.List.Elements.{All-from_recursion, recursion_from_All}
use Rattle.std.proofs.lemmas.List.Sorted.{All-permutation, list_any-IsPermutation, sum_by-IsPermutation}
use Rattle.lrs_element.specs.declared.link.Link.{Link}
use Rattle.lrs_events.specs.declared.class.Asset.{Asset}
use Rattle.lrs_events.specs.declared.part.Part.{Part}
use Rattle.lrs_events.specs.Parts.{has_for, has_place}
use Rattle.lrs_measure.specs.Limits.{most_pairs}
use Rattle.lrs_measure.proofs.Members.{not_any}
use Rattle.lrs_machine.specs.Sound.{RouteSpans, is_part, share_nothing, pairs_of, are_parts, is_origin, are_origins}
use Rattle.lrs_image_sound.specs.SweptParts.{IsFilled}
use Rattle.lrs_image_sound.specs.Balance.{AreHeld}
use Rattle.lrs_image_sound.proofs.Sweeping.{each_two-permutation, share_nothing-comm}

pub all_alike : {X : Type 0} (p : X → Bool) (xs ys : List X) → IsPermutation xs ys → list_all p xs ≡ list_all p ys
all_alike p xs ys same = not_any p xs ∙ ap not (list_any-IsPermutation (λ x. not (p x)) xs ys same) ∙ sym (not_any p ys)

module _ (xs ys : List Part) (same : IsPermutation xs ys) where
  alike_pairs : (a : ℕ) → pairs_of a xs ≡ pairs_of a ys
  alike_pairs a = sym (sum_by-IsPermutation (λ p. cond (nat_eq p.asset a) (p.to - p.from) 0) xs ys same)

  pub same_parts : (links : List Link) (assets : List Asset) → are_parts links assets xs ≡ are_parts links assets ys
  same_parts links assets = λ j. all_alike (is_part links assets) xs ys same j && (each_two-permutation share_nothing share_nothing-comm xs ys same).0 j
      && list_all (λ a. nat_le (alike_pairs a.number j) most_pairs) assets

  pub same_filled : AllByRecursion IsFilled xs → AllByRecursion IsFilled ys
  same_filled full = recursion_from_All IsFilled ys (All-permutation IsFilled xs ys same (All-from_recursion IsFilled xs full))

  same_origin : (a : Asset) → is_origin xs a ≡ is_origin ys a
  same_origin a = λ j. list_any-IsPermutation (λ p. nat_eq p.asset a.number) xs ys same j && all_alike (λ p. not (nat_eq p.asset a.number) || nat_eq p.edit a.entered_by) xs ys same j

  pub same_origins : (assets : List Asset) → are_origins xs assets ≡ are_origins ys assets
  same_origins assets = λ j. list_all (λ a. same_origin a j) assets

  pub same_held : (links : List Link) (assets : List Asset) (routes : List RouteSpans) → AreHeld links assets routes xs → AreHeld links assets routes ys
  same_held links assets routes h = record {
    inside = sym (all_alike (is_part links assets) xs ys same) ∙ h.inside;
    once = λ a p. rw (sum_by-IsPermutation (λ x. cond (has_for a p x) 1 0) xs ys same) (h.once a p);
    shows = λ a p. h.shows a p ∙ list_any-IsPermutation (λ part. nat_eq part.asset a && has_place part p) xs ys same;
  }
