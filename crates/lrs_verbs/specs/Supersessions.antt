-- What an asset changes that takes the places of others of its class.
use Rattle.std.specs.Prelude.{◌++◌, ◌≡◌, ℕ, ◌&&◌, List, [], ◌∷◌, Some}
use Rattle.lrs_inventory.specs.Prelude.{Name, same_name, Ground, Part, Gone, Span, holds_by_spans, Removal, is_within, NewAsset, EventStretch, Retired, Difference, RouteChange, AreGone}
use Rattle.lrs_events.specs.declared.change.SpanChange.{SpanChange}
use Rattle.lrs_events.specs.Members.{has_side}
use Rattle.lrs_events.specs.Row.Removals.{Taken}
use Rattle.lrs_image_laws.specs.Differences.{no_change}
use Rattle.lrs_inventory.specs.declared.plan.Plan.{Plan}
use Rattle.lrs_verbs.specs.Entries.{row_of, entering, AreEntered}
use Rattle.lrs_inventory.specs.Plans.{plan_of}

-- what assets of the entry's class have of the stretch that it wants, on its side
abbrev pub of_class_there : NewAsset → EventStretch → Taken
of_class_there e x class asset j s = same_name class e.class && (is_within x.from x.to j && has_side e.side s)

-- a route of which these rows go and come, and one more comes
abbrev pub with_rows_and_one : Name → SpanChange → Span → RouteChange
with_rows_and_one route change row = record (no_change route) { spans_gone = change.gone.items; spans_come = change.come.items ++ row ∷ [] }

-- what an edit changes that enters an asset in the place of others: these rows of the ledger are what they lose
abbrev pub superseding : ℕ → NewAsset → EventStretch → SpanChange → List Part → List Gone → Difference
superseding edit e x change parts gone = record (entering edit e x parts) { changed = Some (with_rows_and_one e.route change (row_of e x)); gone = gone }

-- the plan by which an edit retires what a removal hands back, and enters an asset
pub record IsSuperseding (edit : ℕ) (e : NewAsset) (x : EventStretch) (course : List Ground) (removal : Removal) (p : Plan) : Type 0 where
  pub parts : List Part
  pub entered : AreEntered edit course (row_of e x) parts
  pub gone : List Gone
  pub are_gone : AreGone edit Retired (holds_by_spans course removal.left.items) gone
  pub plan_is : p ≡ plan_of (superseding edit e x removal.change parts gone)
