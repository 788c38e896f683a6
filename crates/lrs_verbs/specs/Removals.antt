-- What an edit takes away on a route: rows removed and inserted there, and the rows of a ledger for what is handed back.
use Rattle.std.specs.Prelude.{◌≡◌, ℕ, ◌&&◌, nat_eq, List, Some}
use Rattle.lrs_inventory.specs.Prelude.{Name, same_name, Asset, Kind, Gone, holds_by_spans, Removal, is_within, Image, RouteRow, state_of, asset_entry, EventStretch, RouteChange, Difference, no_difference, AreGone}
use Rattle.lrs_events.specs.declared.change.SpanChange.{SpanChange}
use Rattle.lrs_events.specs.Row.Removals.{Taken}
use Rattle.lrs_machine.specs.Register.{get}
use Rattle.lrs_machine.specs.State.{Reason}
use Rattle.lrs_image_laws.specs.Differences.{no_change}
use Rattle.lrs_inventory.specs.declared.plan.Plan.{Plan}
use Rattle.lrs_inventory.specs.RouteStretches.{IsRouteIn}
use Rattle.lrs_inventory.specs.Plans.{plan_of}

-- a route of which these rows go and come
abbrev pub with_rows : Name → SpanChange → RouteChange
with_rows route change = record (no_change route) { spans_gone = change.gone.items; spans_come = change.come.items }

-- what an edit changes that takes away: rows of a route, and the ledger of what is gone
abbrev pub taking : Name → SpanChange → List Gone → Difference
taking route change gone = record no_difference { changed = Some (with_rows route change); gone = gone }

-- the plan by which an edit takes away, for a reason, what a removal hands back
pub record IsTaking (edit : ℕ) (why : Reason) (r : RouteRow) (removal : Removal) (p : Plan) : Type 0 where
  pub gone : List Gone
  pub are_gone : AreGone edit why (holds_by_spans r.route.course removal.left.items) gone
  pub plan_is : p ≡ plan_of (taking r.route.name removal.change gone)

-- what of an asset lies within a stretch, by class, asset, chainage and side
abbrev pub of_asset_within : Asset → EventStretch → Taken
of_asset_within asset x class a j s = same_name class asset.class && nat_eq a asset.number && is_within x.from x.to j

-- The asset is known, its class is of this kind, and the route is one of the inventory's.
pub record HasAsset (i : Image) (asset : Asset) (kind : Kind) (r : RouteRow) : Type 0 where
  pub known : get (state_of i).assets asset.number ≡ Some (asset_entry asset).1
  pub class : get (state_of i).classes asset.class ≡ Some kind
  pub route : IsRouteIn i r
