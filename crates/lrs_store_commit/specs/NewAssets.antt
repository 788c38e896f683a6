-- Entries: changes that only enter an asset, with one span of it. What several of them make of the rows of a store, table by table.
use Rattle.std.specs.Prelude.{◌≡◌, ℕ, List, [], ◌∷◌, ◌++◌, length, take, drop, map, Option, Some, None, option_to_list}
use Rattle.std.specs.List.{flat_map}
use Rattle.lrs_measure.specs.Texts.{Name}
use Rattle.lrs_events.specs.declared.class.Asset.{Asset}
use Rattle.lrs_events.specs.declared.span.Span.{Span}
use Rattle.lrs_events.specs.declared.part.Part.{Part}
use Rattle.lrs_image.specs.declared.change.RouteChange.{RouteChange}
use Rattle.lrs_image.specs.declared.change.Difference.{Difference}
use Rattle.lrs_image.specs.declared.change.Change.{Change}
use Rattle.lrs_image.specs.Change.{no_keys, no_difference}
use Rattle.lrs_store_tables.specs.Contents.Tables.{Tables, AssetRow, OriginRow, SpanRow, EnteredRow}
use Rattle.lrs_store_tables.specs.Contents.Laws.{origin_row}
use Rattle.lrs_store_tables.specs.Contents.Encoders.{asset_row, span_row, entered_row, edit_row, numbered}

-- a route that gets one span, and stays as it is otherwise
abbrev pub with_one_span : Name → Span → RouteChange
with_one_span route span = record { route = route; name = route; keys = no_keys; course = None; marks = None; refs = record { gone = []; come = [] }; spans_gone = []; spans_come = span ∷ [] }

pub record BringsOneSpan (r : RouteChange) : Type 0 where
  pub span : Span
  pub is : r ≡ with_one_span r.route span

-- an asset comes, and nothing else but what changes on one route and is entered
pub record BringsOneAsset (d : Difference) : Type 0 where
  pub asset : Asset
  pub is : d ≡ record no_difference { asset = Some asset; changed = d.changed; entered = d.entered }

-- the difference of an entry
abbrev pub entered_with : Asset → Name → Span → List Part → Difference
entered_with asset route span parts = record no_difference { asset = Some asset; changed = Some (with_one_span route span); entered = parts }

-- The change only enters an asset, with one span of it: one part of the ledger or more.
pub record IsNewAsset (c : Change) : Type 0 where
  pub asset : Asset
  pub route : Name
  pub span : Span
  pub first : Part
  pub others : List Part
  pub is : c.difference ≡ entered_with asset route span (first ∷ others)

abbrev pub HasTwoParts : Change → Type 0
HasTwoParts c = length c.difference.entered ≡ 2

-- the rows that it brings into some tables

abbrev pub asset_rows : Change → List AssetRow
asset_rows c = map asset_row (option_to_list c.difference.asset)

abbrev pub origin_rows : Change → List OriginRow
origin_rows c = map origin_row (option_to_list c.difference.asset)

abbrev pub spans_on : Option RouteChange → List SpanRow
spans_on None = []
spans_on (Some r) = map (span_row r.route) r.spans_come

abbrev pub span_rows : Change → List SpanRow
span_rows c = spans_on c.difference.changed

abbrev pub entered_rows : Change → List EnteredRow
entered_rows c = map entered_row c.difference.entered

-- of these the first, and the others
abbrev pub first_rows : Change → List EnteredRow
first_rows c = take 1 (entered_rows c)

abbrev pub other_rows : Change → List EnteredRow
other_rows c = drop 1 (entered_rows c)

-- those of several, table by table

abbrev pub with_assets_of : List Change → Tables → Tables
with_assets_of cs t = record t { asset = flat_map asset_rows cs ++ t.asset }

abbrev pub with_origins_of : List Change → Tables → Tables
with_origins_of cs t = record t { origin = flat_map origin_rows cs ++ t.origin }

abbrev pub with_spans_of : List Change → Tables → Tables
with_spans_of cs t = record t { span = flat_map span_rows cs ++ t.span }

abbrev pub with_parts_of : List Change → Tables → Tables
with_parts_of cs t = record t { entered = flat_map entered_rows cs ++ t.entered }

abbrev pub with_firsts_of : List Change → Tables → Tables
with_firsts_of cs t = record t { entered = flat_map first_rows cs ++ t.entered }

abbrev pub with_others_of : List Change → Tables → Tables
with_others_of cs t = record t { entered = flat_map other_rows cs ++ t.entered }

-- the edit of the first has this number
abbrev pub with_edits_of : ℕ → List Change → Tables → Tables
with_edits_of n cs t = record t { edit = numbered (λ k c. edit_row k c.edit) n cs ++ t.edit }

-- The rows of entries, table by table: as each by itself would leave them, but for their order.
abbrev pub with_new_assets : ℕ → List Change → Tables → Tables
with_new_assets n cs t = with_edits_of n cs (with_parts_of cs (with_spans_of cs (with_origins_of cs (with_assets_of cs t))))
