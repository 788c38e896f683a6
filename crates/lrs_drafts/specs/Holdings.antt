-- What assets hold, as it is compared: the stretches of one asset, and stretches whichever asset holds them.
use Rattle.std.specs.Prelude.{ℕ, Bool, ◌&&◌, not, nat_eq, List, [], ◌∷◌, map, if◌then◌else◌}
use Rattle.std.specs.List.{flat_map, list_all}
use Rattle.std.specs.List.Sorted.{IsPermutation}
use Rattle.lrs_events.specs.Spans.{same_side}
use Rattle.lrs_machine.specs.declared.image.Image.{Image}
use Rattle.lrs_machine.specs.Image.{state_of}
use Rattle.lrs_report_lists.specs.declared.link_rows.LinkStretch.{LinkStretch}
use Rattle.lrs_difference.specs.declared.held_rows.HeldRow.{HeldRow}
use Rattle.lrs_difference.specs.declared.line.Item.{Item}
use Rattle.lrs_difference.specs.declared.line.Item.TheVariants as item
use Rattle.lrs_difference.specs.declared.link_stretches.HeldStretch.{HeldStretch}
use Rattle.lrs_difference.specs.Difference.{stretches}
use Rattle.lrs_drafts.specs.declared.holdings.ToldStretch.{ToldStretch}

-- ---- the stretches of one asset

-- no stretch is of the asset
abbrev pub none_of : ℕ → List HeldStretch → Bool
none_of asset held = list_all (λ h. not (nat_eq h.asset asset)) held

-- the stretch, if it is of the asset
abbrev pub stretch_of : ℕ → HeldStretch → List LinkStretch
stretch_of asset h = if nat_eq h.asset asset then h.stretch ∷ [] else []

-- the stretches of the asset, in their order
abbrev pub stretches_of : ℕ → List HeldStretch → List LinkStretch
stretches_of asset held = flat_map (stretch_of asset) held

abbrev pub same_stretch : LinkStretch → LinkStretch → Bool
same_stretch s t = nat_eq s.link t.link && nat_eq s.from t.from && nat_eq s.to t.to && same_side s.side t.side

-- ---- whichever asset holds them

-- what a row tells of its stretch, whichever asset holds it
abbrev pub told : HeldRow → ToldStretch
told r = record { class = r.asset.class; value = r.asset.value; lateral = r.asset.lateral; stretch = r.stretch }

-- ... as an item of asset 0, which no asset is
abbrev pub told_item : ToldStretch → Item
told_item t = item.Holds (record { number = 0; class = t.class; value = t.value; lateral = t.lateral }) t.stretch.link t.stretch.from t.stretch.to t.stretch.side

-- an item of whichever asset
abbrev pub nameless : Item → Item
nameless (item.Holds a link from to side) = item.Holds (record { number = 0; class = a.class; value = a.value; lateral = a.lateral }) link from to side
nameless other = other

-- What is held in the one inventory alone is held in the other alone, if by assets of other numbers: each stretch with its class, value and offset.
abbrev pub AreExchanged : Image → Image → Type 0
AreExchanged before after = IsPermutation (map nameless (stretches (state_of before) (state_of after))) (map nameless (stretches (state_of after) (state_of before)))
