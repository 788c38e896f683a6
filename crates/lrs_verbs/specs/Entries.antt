-- What an entry changes: an asset, a row on its route, and the rows of a ledger for it.
use Rattle.std.specs.Prelude.{◌≡◌, ℕ, ◌&&◌, true, false, nat_eq, nat_lt, List, [], ◌∷◌, Some, None}
use Rattle.std.specs.List.{list_any, list_all}
use Rattle.lrs_inventory.specs.Prelude.{each_two, Name, Ground, alignment_of, Asset, Kind, Part, Span, Place, NewAsset, Image, RouteRow, state_of, contains_key, EventStretch, Difference, RouteChange, no_difference, no_keys}
use Rattle.lrs_events.specs.Parts.{has_pair, IsHadOnce, part_before}
use Rattle.lrs_events.specs.Spans.{holds_by_span}
use Rattle.lrs_machine.specs.EnteredNumbers.{is_asset_number, is_lateral_offset}
use Rattle.lrs_machine.specs.Register.{get}
use Rattle.lrs_inventory.specs.declared.plan.Plan.{Plan}
use Rattle.lrs_inventory.specs.RouteStretches.{IsRouteIn}
use Rattle.lrs_inventory.specs.Plans.{plan_of}

-- the asset that an edit enters
abbrev pub asset_of : ℕ → NewAsset → Asset
asset_of edit e = record { number = e.asset; class = e.class; value = e.value; lateral = e.offset; entered_by = edit }

-- its number and its lateral offset can be those of an asset
pub record AreInLimits (e : NewAsset) : Type 0 where
  pub number : is_asset_number e.asset ≡ true
  pub lateral : is_lateral_offset e.offset ≡ true

-- the row that says what it holds
abbrev pub row_of : NewAsset → EventStretch → Span
row_of e x = record { asset = e.asset; class = e.class; from = x.from; to = x.to; side = e.side }

-- a route with one more row
abbrev pub with_row : Name → Span → RouteChange
with_row route row = record { route = route; name = route; keys = no_keys; course = None; marks = None; refs = record { gone = []; come = [] }; spans_gone = []; spans_come = row ∷ [] }

-- what an edit changes that enters an asset
abbrev pub entering : ℕ → NewAsset → EventStretch → List Part → Difference
entering edit e x parts = record no_difference { asset = Some (asset_of edit e); changed = Some (with_row e.route (row_of e x)); entered = parts }

-- The rows of a ledger by which an edit enters what a row holds: each pair once, in their order, and none is empty.
pub record AreEntered (edit : ℕ) (course : List Ground) (row : Span) (parts : List Part) : Type 0 where
  pub edit_is : list_all (λ x. nat_eq x.edit edit) parts ≡ true
  pub pairs : (m asset : ℕ) (p : Place) → list_any (λ x. has_pair x m asset p) parts ≡ (nat_eq m edit && holds_by_span course row asset p)
  pub once : IsHadOnce parts
  pub order : each_two part_before parts ≡ true
  pub filled : list_all (λ x. nat_lt x.from x.to) parts ≡ true

-- the plan that enters an asset by these rows of a ledger
pub record IsEntering (edit : ℕ) (e : NewAsset) (x : EventStretch) (course : List Ground) (p : Plan) : Type 0 where
  pub parts : List Part
  pub entered : AreEntered edit course (row_of e x) parts
  pub plan_is : p ≡ plan_of (entering edit e x parts)

-- The asset of an entry is new, and its class and its route are these.
pub record HasBegun (i : Image) (e : NewAsset) (kind : Kind) (r : RouteRow) : Type 0 where
  pub fresh : contains_key (state_of i).assets e.asset ≡ false
  pub class : get (state_of i).classes e.class ≡ Some kind
  pub route : IsRouteIn i r
  pub name : r.route.name ≡ e.route
  pub alignment : get (state_of i).routes e.route ≡ Some (alignment_of r.route)
