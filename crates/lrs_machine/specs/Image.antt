-- What an image stands for: the ground state of its rows.
use Rattle.std.specs.Prelude.{ℕ, Bool, List, [], map, Option}
use Rattle.std.specs.List.{list_any, flat_map, filter_map}
use Rattle.std.specs.Option.{option_map}
use Rattle.std.specs.FinMap.{find}
use Rattle.lrs_measure.specs.Texts.{Name, name_cmp}
use Rattle.lrs_element.specs.declared.link.Link.{Link}
use Rattle.lrs_element.specs.declared.link.Ground.{Ground}
use Rattle.lrs_element.specs.Course.{Millimetre, ground_at}
use Rattle.lrs_position.specs.declared.route.Referent.{Referent}
use Rattle.lrs_position.specs.Locations.{Alignment}
use Rattle.lrs_events.specs.declared.class.Asset.{Asset}
use Rattle.lrs_events.specs.declared.part.Gone.{Gone}
use Rattle.lrs_events.specs.Places.{Place}
use Rattle.lrs_events.specs.Spans.{holds_by_spans}
use Rattle.lrs_events.specs.Parts.{has_pair}
use Rattle.lrs_machine.specs.declared.image.RouteRow.{RouteRow}
use Rattle.lrs_machine.specs.declared.image.Image.{Image}
use Rattle.lrs_machine.specs.State.{State, Reason, Retired, Abandoned, same_reason}
use Rattle.lrs_machine.specs.State as state
use Rattle.std.specs.Prelude.{if◌then◌else◌, ◌&&◌}

-- the image without entries
abbrev pub nothing : Image
nothing = record { links = []; classes = []; assets = []; routes = []; entered = []; gone = []; edits = [] }

-- the name of a referent and its ground millimetre
abbrev pub referent_entry : List Ground → Referent → Option (Name × Millimetre)
referent_entry course r = option_map (λ m. (r.name, m)) (ground_at course r.at)

abbrev pub referents_on : RouteRow → List (Name × Millimetre)
referents_on e = filter_map (referent_entry e.route.course) e.route.refs

abbrev pub holds_on : RouteRow → ℕ → Place → Bool
holds_on e asset p = holds_by_spans e.route.course e.spans asset p

abbrev pub link_entry : Link → ℕ × ℕ
link_entry l = (l.number, l.length)

abbrev pub asset_entry : Asset → ℕ × state.Asset
asset_entry a = (a.number, record { class = a.class; value = a.value; lateral = a.lateral; entered_by = a.entered_by })

abbrev pub route_entry : RouteRow → Name × Alignment
route_entry e = (e.route.name, record { course = e.route.course; marks = e.route.marks })

abbrev pub reason_of : Gone → Reason
reason_of g = if g.abandoned then Abandoned else Retired

-- The state that an image stands for: its courses expanded, each referent at its millimetre, the places of all rows, and the pairs of all parts.
unfoldable pub state_of : Image → State
state_of i = record {
  links = record { rows = map link_entry i.links };
  classes = record { rows = map (λ c. (c.name, c.kind)) i.classes };
  assets = record { rows = map asset_entry i.assets };
  routes = record { rows = map route_entry i.routes };
  referents = λ name. find name_cmp name (flat_map referents_on i.routes);
  holds = λ asset p. list_any (λ e. holds_on e asset p) i.routes;
  entered = λ edit asset p. list_any (λ part. has_pair part edit asset p) i.entered;
  gone = λ edit why asset p. list_any (λ g. same_reason (reason_of g) why && has_pair g.part edit asset p) i.gone;
  done = map (λ e. record { key = e.key; line = e.line }) i.edits;
}
