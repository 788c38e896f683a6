-- Which rows are asked for. What is not asked leaves out nothing.
use Rattle.std.specs.Prelude.{ℕ, max, min, Bool, true, false, ◌&&◌, nat_eq, nat_le, nat_lt, List, Option, Some, None}
use Rattle.std.specs.Option.{option_map_or}
use Rattle.lrs_measure.specs.Texts.{Name, same_name}
use Rattle.lrs_events.specs.declared.class.Asset.{Asset}
use Rattle.lrs_events.specs.declared.part.Gone.{Gone}
use Rattle.lrs_events.specs.declared.part.Part.{Part}
use Rattle.lrs_events.specs.declared.span.Span.{Span}
use Rattle.lrs_machine.specs.declared.image.RouteRow.{RouteRow}
use Rattle.lrs_image.specs.Change.{is_named}
use Rattle.lrs_machine.specs.declared.question.GoneWanted.{GoneWanted}
use Rattle.lrs_machine.specs.declared.question.RowsWanted.{RowsWanted}
use Rattle.lrs_report_lists.specs.Lines.{asset_numbered}

-- the route is of the name
abbrev pub is_of_route : Option Name → RouteRow → Bool
is_of_route None e = true
is_of_route (Some name) e = is_named name e

-- where a row begins behind the start of the stretch that is asked for, and where it ends before its end
abbrev pub later : Option ℕ → ℕ → ℕ
later None n = n
later (Some from) n = max from n

abbrev pub earlier : Option ℕ → ℕ → ℕ
earlier None n = n
earlier (Some to) n = min to n

-- the row has a millimetre at or behind `from` and before `to`
abbrev pub has_between : Option ℕ → Option ℕ → Span → Bool
has_between from to r = nat_lt (later from r.from) (earlier to r.to)

-- the row is of the class
abbrev pub is_of_class : Option Name → Span → Bool
is_of_class None r = true
is_of_class (Some class) r = same_name r.class class

-- the number is the one that is asked for: of an asset, or of an edit
abbrev pub is_number : Option ℕ → ℕ → Bool
is_number None n = true
is_number (Some asked) n = nat_eq n asked

-- A row is asked for: it has a millimetre of the stretch, and is of the class and of the asset.
abbrev pub is_wanted : RowsWanted → Span → Bool
is_wanted w r = has_between w.from w.to r && is_of_class w.class r && is_number w.asset r.asset

-- the number is at least the one that is asked for, or at most
abbrev pub is_since : Option ℕ → ℕ → Bool
is_since None n = true
is_since (Some first) n = nat_le first n

abbrev pub is_until : Option ℕ → ℕ → Bool
is_until None n = true
is_until (Some last) n = nat_le n last

-- the edit is asked for: by its number, and by those that it lies between
abbrev pub is_edit_wanted : GoneWanted → ℕ → Bool
is_edit_wanted w n = is_number w.edit n && is_since w.since n && is_until w.until n

-- the asset is of the class
abbrev pub is_asset_of : Option Name → Option Asset → Bool
is_asset_of None a = true
is_asset_of (Some class) a = option_map_or (λ x. same_name x.class class) a false

-- A part that is gone is asked for: an edit that is asked for took it away, and its asset is of the class.
abbrev pub is_gone_wanted : GoneWanted → List Asset → Gone → Bool
is_gone_wanted w assets g = is_edit_wanted w g.part.edit && is_asset_of w.class (asset_numbered assets g.part.asset)

-- the part is of the asset
abbrev pub is_part_of : ℕ → Part → Bool
is_part_of asset p = nat_eq p.asset asset

abbrev pub is_gone_of : ℕ → Gone → Bool
is_gone_of asset g = is_part_of asset g.part
