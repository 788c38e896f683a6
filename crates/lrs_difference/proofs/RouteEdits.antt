-- Route edits are told by no line of an asset.
use Rattle.std.proofs.Common.{◌≡◌, ℕ, false, not, [], map, refl, sym, ap, ◌∙◌}
use Rattle.std.specs.Prelude.{◌&&◌}
use Rattle.std.specs.List.{list_any}
use Rattle.lrs_events.specs.Places.{Place}
use Rattle.lrs_machine.specs.declared.image.Image.{Image}
use Rattle.lrs_machine.specs.Image.{state_of}
use Rattle.lrs_machine.proofs.Keeping.{route_edits_keep}
use Rattle.lrs_difference.specs.declared.line.Item.TheVariants as item
use Rattle.lrs_difference.specs.declared.line.Sign.TheVariants.{Removed, Added}
use Rattle.lrs_difference.specs.Difference.{difference, facts_in, facts_of, lacking, only_in}
use Rattle.lrs_difference.specs.Items.{same_asset}
use Rattle.lrs_difference.specs.Laws.{RouteEditsTellNoAsset, is_of_assets, items_of}
use Rattle.lrs_difference.proofs.Given.{of_stretches}
use Rattle.lrs_difference.proofs.Itself.{not_both}
use Rattle.lrs_difference.proofs.Lacking.{lacks_nothing}
use Rattle.lrs_difference.proofs.Same as decided
use Rattle.lrs_difference.proofs.Signs.{added_between, removed_between}
use Rattle.lrs_difference.proofs.Stretches.{no_stretches}

-- two inventories of the same assets, which hold the same
record SameHolders (a b : Image) : Type 0 where
  pub assets : facts_in (state_of a) ≡ facts_in (state_of b)
  pub holds : (asset : ℕ) (p : Place) → (state_of a).holds asset p ≡ (state_of b).holds asset p

other_way : (a b : Image) → SameHolders a b → SameHolders b a
other_way a b h = record { assets = sym h.assets; holds = λ asset p. sym (h.holds asset p) }

none_of_assets : (a b : Image) → SameHolders a b → list_any is_of_assets (only_in a b) ≡ false
none_of_assets a b h =
    let s = state_of a in
    let t = state_of b in
    let none : lacking same_asset (facts_in s) (facts_in t) ≡ [] = lacks_nothing same_asset decided.assets (facts_in s) (facts_in t) h.assets in
    of_stretches is_of_assets a b (λ x. refl) (λ x. refl) (λ x. refl) (λ x. refl) (ap (λ xs. list_any is_of_assets (map item.Asset xs)) none)
    ∙ ap (list_any is_of_assets) (no_stretches s t (λ asset p. ap (λ b. s.holds asset p && not b) (sym (h.holds asset p)) ∙ not_both (s.holds asset p)))

pub tell_no_asset : RouteEditsTellNoAsset
tell_no_asset limits key command a b is e =
    let kept = route_edits_keep limits key command (state_of a) is in
    let same : SameHolders a b = record {
      assets = ap (λ r. map facts_of r.rows) (sym kept.assets ∙ ap (λ s. s.assets) (sym e));
      holds = λ asset p. ap (λ f. f asset p) (sym kept.holds ∙ ap (λ s. s.holds) (sym e));
    } in
    λ sign. by same sign
  where
    by : SameHolders a b → (sign : _) → list_any is_of_assets (items_of sign (difference a b)) ≡ false
    by same Removed = ap (list_any is_of_assets) (removed_between a b) ∙ none_of_assets a b same
    by same Added = ap (list_any is_of_assets) (added_between a b) ∙ none_of_assets b a (other_way a b same)
