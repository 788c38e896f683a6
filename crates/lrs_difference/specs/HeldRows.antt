-- What an asset holds of a link in one inventory alone, as it is gathered.
use Rattle.std.specs.Prelude.{◌≡◌, ℕ, ◌<◌, Bool, true, ◌||◌, ◌&&◌, not, nat_eq, nat_lt, List, [], map}
use Rattle.std.specs.List.{cons_option, list_any}
use Rattle.std.specs.Option.{option_map}
use Rattle.lrs_measure.specs.Lists.{In, each_two}
use Rattle.lrs_events.specs.declared.class.Asset.{Asset}
use Rattle.lrs_events.specs.Places.{Place}
use Rattle.lrs_events.specs.Spans.{same_side}
use Rattle.lrs_machine.specs.declared.image.Image.{Image}
use Rattle.lrs_machine.specs.Image.{asset_entry, state_of}
use Rattle.lrs_machine.specs.Sound.{IsSound}
use Rattle.lrs_machine.specs.State.{State}
use Rattle.lrs_report_lists.specs.Lines.{asset_numbered}
use Rattle.lrs_difference.specs.declared.link_stretches.HeldStretch.{HeldStretch}
use Rattle.lrs_difference.specs.declared.held_rows.HeldRow.{HeldRow}
use Rattle.lrs_difference.specs.declared.line.Item.{Item}
use Rattle.lrs_difference.specs.declared.line.Item.TheVariants.{Holds}
use Rattle.lrs_difference.specs.Difference.{facts_in, facts_of, holds_only, stretches}
use Rattle.lrs_difference.specs.Held.{has_place}
use Rattle.lrs_difference.specs.Items.{item_before}

abbrev pub held_item : HeldRow → Item
held_item r = Holds r.asset r.stretch.link r.stretch.from r.stretch.to r.stretch.side

-- by asset, link and start
abbrev pub row_before : HeldRow → HeldRow → Bool
row_before r s = item_before (held_item r) (held_item s)

-- both are of one asset and one link
abbrev pub same_line : HeldRow → HeldRow → Bool
same_line r s = nat_eq r.asset.number s.asset.number && nat_eq r.stretch.link s.stretch.link

-- two of one line do not meet, and where they touch their sides differ
abbrev pub are_apart : HeldRow → HeldRow → Bool
are_apart r s = not (same_line r s) || nat_lt r.stretch.to s.stretch.from || (nat_eq r.stretch.to s.stretch.from && not (same_side r.stretch.side s.stretch.side))

-- the row has the place for the asset
abbrev pub row_has : ℕ → Place → HeldRow → Bool
row_has asset p r = nat_eq r.asset.number asset && has_place r.stretch p

-- The rows are of known assets, in their order, filled and apart, and have what the first state holds and the second does not.
pub record AreOnly (s t : State) (rows : List HeldRow) : Type 0 where
  pub known : (r : HeldRow) → In r rows → In r.asset (facts_in s)
  pub filled : (r : HeldRow) → In r rows → r.stretch.from < r.stretch.to
  pub order : each_two row_before rows ≡ true
  pub apart : each_two are_apart rows ≡ true
  pub places : (asset : ℕ) (p : Place) → list_any (row_has asset p) rows ≡ holds_only s t asset p

-- Such rows are the stretches that the first of two inventories holds alone.
abbrev pub RowsAreStretches : Type 0
RowsAreStretches = (a b : Image) → IsSound a → (rows : List HeldRow) → AreOnly (state_of a) (state_of b) rows → map held_item rows ≡ stretches (state_of a) (state_of b)

-- a stretch with what is known of its asset
abbrev pub known_row : List Asset → HeldStretch → List HeldRow
known_row assets h = cons_option (option_map (λ a. record { asset = facts_of (asset_entry a); stretch = h.stretch }) (asset_numbered assets h.asset)) []
