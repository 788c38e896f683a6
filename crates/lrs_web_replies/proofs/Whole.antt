-- What is shown has no float.
use Rattle.std.proofs.Common.{◌≡◌, ℕ, List, [], ◌∷◌, Bool, false, ◌||◌, map, codes, refl, ap, ◌∙◌, Option, None, Some}
use Rattle.serde_json.specs.Data.{Data, Members, no_members, object, put}
use Rattle.serde_json.specs.Written.{has_float}
use Rattle.lrs_measure.specs.Runs.{Run}
use Rattle.lrs_measure.specs.Texts.{Name}
use Rattle.lrs_element.specs.declared.link.Ground.{Ground}
use Rattle.lrs_element.specs.declared.link.Piece.{Piece}
use Rattle.lrs_position.specs.declared.route.Route.{Route}
use Rattle.lrs_events.specs.declared.class.Asset.{Asset}
use Rattle.lrs_events.specs.declared.side.LinkSide.{LinkSide}
use Rattle.lrs_events.specs.declared.part.Gone.{Gone}
use Rattle.lrs_events.specs.declared.part.Part.{Part}
use Rattle.lrs_events.specs.declared.span.Span.{Span}
use Rattle.lrs_machine.specs.declared.segment.Segment.{Segment}
use Rattle.lrs_machine.specs.declared.hit.Hit.{Hit}
use Rattle.lrs_machine.specs.Segments.{Values}
use Rattle.lrs_report_answers.specs.declared.combinations.Combination.{Combination}
use Rattle.lrs_report_answers.specs.declared.places.answer.Whereabouts.{Whereabouts}
use Rattle.lrs_machine.specs.declared.image.Edit.{Edit}
use Rattle.lrs_report_lists.specs.declared.link_rows.LinkStretch.{LinkStretch}
use Rattle.lrs_web_replies.specs.Listings.{event_data_with, gone_data_with, link_row_data, named_list, row_data_with}
use Rattle.lrs_web_replies.specs.JsonParts.{each}
use Rattle.lrs_web_replies.specs.Combinations.{combination_data}
use Rattle.lrs_web_replies.specs.Overlay.{held_data, overlay_item}
use Rattle.lrs_web_replies.specs.Answers.{at_data, hit_data, mark_data, piece_data, referent_data, route_data, ShowsRoute, value_data, segment_data, place_data, whereabouts_data}

neither : (a b : Bool) → a ≡ false → b ≡ false → (a || b) ≡ false
neither a b p q = ap (λ x. x || b) p ∙ q

-- a list of what has none
each_whole : {A : Type 0} (shown : A → Data) → ((x : A) → has_float (shown x) ≡ false) → (xs : List A) → has_float (each shown xs) ≡ false
each_whole shown whole [] = refl
each_whole shown whole (x ∷ xs) = neither (has_float (shown x)) (has_float (each shown xs)) (whole x) (each_whole shown whole xs)

value_whole : (o : Option Name) → has_float (value_data o) ≡ false
value_whole None = refl
value_whole (Some value) = refl

pub segment_whole : (s : Segment) → has_float (segment_data s) ≡ false
segment_whole s = neither (has_float (each value_data s.values)) false (each_whole value_data value_whole s.values) refl

pub at_whole : (d : Data) (route : Name) (at : ℕ) (entry : Ground) (hits : List Hit) → d ≡ at_data route at entry hits → has_float d ≡ false
at_whole d route at entry hits is =
    ap has_float is ∙ neither (has_float (each hit_data hits)) false (each_whole hit_data (λ h. refl) hits) refl

route_with : (r : Route) (pieces : List Piece) → has_float (route_data r pieces) ≡ false
route_with r pieces =
    let refs = neither (has_float (each referent_data r.refs)) false (each_whole referent_data (λ x. refl) r.refs) refl in
    let both = neither (has_float (each piece_data pieces)) (has_float (each referent_data r.refs) || false) (each_whole piece_data (λ p. refl) pieces) refs in
    neither (has_float (each mark_data r.marks)) (has_float (each piece_data pieces) || (has_float (each referent_data r.refs) || false)) (each_whole mark_data (λ m. refl) r.marks) both

pub route_whole : (d : Data) (r : Route) → ShowsRoute r d → has_float d ≡ false
route_whole d r shows = ap has_float shows.is ∙ route_with r shows.pieces

pub list_whole : {A : Type 0} (d : Data) (name : List ℕ) (shown : A → Data) (xs : List A) → ((x : A) → has_float (shown x) ≡ false) → d ≡ named_list name (map shown xs) → has_float d ≡ false
list_whole d name shown xs whole is = ap has_float is ∙ neither (has_float (each shown xs)) false (each_whole shown whole xs) refl

-- the members of an object; any other value has none
members_in : Data → Members
members_in (object ms) = ms
members_in _ = no_members

-- an answer at a position, with the positions there
pub with_positions : (ms : Members) (w : Whereabouts) → object ms ≡ at_data w.route w.found.at w.found.ground w.found.hits → object (put (codes "positions") (each place_data w.positions) ms) ≡ whereabouts_data w
unfolding members_in
with_positions ms w is = ap (λ d. object (put (codes "positions") (each place_data w.positions) (members_in d))) is

pub whereabouts_whole : (d : Data) (w : Whereabouts) → d ≡ whereabouts_data w → has_float d ≡ false
whereabouts_whole d w is =
    let positions = neither (has_float (each place_data w.positions)) false (each_whole place_data (λ e. refl) w.positions) refl in
    ap has_float is ∙ neither (has_float (each hit_data w.found.hits)) (has_float (each place_data w.positions) || false) (each_whole hit_data (λ h. refl) w.found.hits) positions

-- ---- entries of lists, of a known asset or of none

pub row_whole : (a : Option Asset) (route : Route) (r : Span) → has_float (row_data_with a route r) ≡ false
row_whole None route r = refl
row_whole (Some a) route r = refl

pub link_row_whole : (a : Option Asset) (route : Route) (r : Span) (s : LinkStretch) → has_float (link_row_data a route r s) ≡ false
link_row_whole None route r s = refl
link_row_whole (Some a) route r s = refl

pub gone_whole : (e : Option Edit) (a : Option Asset) (g : Gone) → has_float (gone_data_with e a g) ≡ false
gone_whole None None g = refl
gone_whole None (Some a) g = refl
gone_whole (Some e) None g = refl
gone_whole (Some e) (Some a) g = refl

pub event_whole : (e : Option Edit) (event : List ℕ) (p : Part) → has_float (event_data_with e event p) ≡ false
event_whole None event p = refl
event_whole (Some e) event p = refl

-- ---- segments of an overlay

held_whole : (o : Option Name) → has_float (held_data o) ≡ false
held_whole None = refl
held_whole (Some value) = refl

pub overlay_whole : (route : Route) (side : LinkSide) (s : Run Values) → has_float (overlay_item route side s) ≡ false
overlay_whole route side s = neither (has_float (each held_data s.value)) false (each_whole held_data held_whole s.value) refl

-- ---- combinations of values

pub combination_whole : (c : Combination) → has_float (combination_data c) ≡ false
combination_whole c = neither (has_float (each held_data c.values)) false (each_whole held_data held_whole c.values) refl
