-- The tests that a sound image passes, one for each table, the order of its tables, and its edits.
use Rattle.std.proofs.Common.{◌≡◌, ◌≤◌, true, inl, inr, length, refl, sym, ◌∙◌}
use Rattle.std.specs.Prelude.{◌&&◌, not, nat_le}
use Rattle.std.specs.List.{list_all}
use Rattle.std.proofs.lemmas.Bool.{and_parts, leb-true}
use Rattle.lrs_measure.specs.Lists.{each_two}
use Rattle.lrs_measure.specs.Texts.{same_name}
use Rattle.lrs_element.specs.Course.{meets}
use Rattle.lrs_machine.specs.declared.image.Image.{Image}
use Rattle.lrs_machine.specs.declared.image.RouteRow.{RouteRow}
use Rattle.lrs_machine.specs.declared.table.Table.TheVariants as table
use Rattle.lrs_measure.specs.Limits.{most_routes, most_assets, most_edits}
use Rattle.lrs_machine.specs.Sound.{link_before, class_before, asset_before, route_before, course_before, is_asset, is_course, are_links, are_classes, are_assets, are_courses, courses_of, are_all_marks, marks_of, are_all_referents, referents_of, are_spans, spans_of, are_entered, are_gone, are_edits, are_origins, is_named_by, parts_of, IsSound, first_unsound, tests}
use Rattle.lrs_machine.proofs.SoundImages.{passed}
use Rattle.lrs_machine.proofs.Pairs.{each_two-map}

pub record Passes (i : Image) : Type 0 where
  pub links : are_links i.links ≡ true
  pub classes : are_classes i.classes ≡ true
  pub assets : are_assets i.classes i.assets ≡ true
  pub courses : are_courses i.links (courses_of i) ≡ true
  pub marks : are_all_marks (marks_of i) ≡ true
  pub referents : are_all_referents (referents_of i) ≡ true
  pub spans : are_spans i.links i.classes i.assets (spans_of i) ≡ true
  pub entered : are_entered i.links i.assets i.entered ≡ true
  pub gone : are_gone i.links i.assets (spans_of i) i.entered i.gone ≡ true
  pub edits : are_edits i.entered i.gone i.edits ≡ true
  pub origins : are_origins i.entered i.assets ≡ true

pub passes : (i : Image) → IsSound i → Passes i
unfolding first_unsound
passes i h = record {
  links = passed (record { table = table.Link; passes = are_links i.links }) (tests i) h (inl refl);
  classes = passed (record { table = table.Class; passes = are_classes i.classes }) (tests i) h (inr (inl refl));
  assets = passed (record { table = table.Asset; passes = are_assets i.classes i.assets }) (tests i) h (inr (inr (inl refl)));
  courses = passed (record { table = table.Piece; passes = are_courses i.links (courses_of i) }) (tests i) h (inr (inr (inr (inl refl))));
  marks = passed (record { table = table.Mark; passes = are_all_marks (marks_of i) }) (tests i) h (inr (inr (inr (inr (inl refl)))));
  referents = passed (record { table = table.Ref; passes = are_all_referents (referents_of i) }) (tests i) h (inr (inr (inr (inr (inr (inl refl))))));
  spans = passed (record { table = table.Span; passes = are_spans i.links i.classes i.assets (spans_of i) }) (tests i) h (inr (inr (inr (inr (inr (inr (inl refl)))))));
  entered = passed (record { table = table.Entered; passes = are_entered i.links i.assets i.entered }) (tests i) h (inr (inr (inr (inr (inr (inr (inr (inl refl))))))));
  gone = passed (record { table = table.Gone; passes = are_gone i.links i.assets (spans_of i) i.entered i.gone }) (tests i) h (inr (inr (inr (inr (inr (inr (inr (inr (inl refl)))))))));
  edits = passed (record { table = table.Edit; passes = are_edits i.entered i.gone i.edits }) (tests i) h (inr (inr (inr (inr (inr (inr (inr (inr (inr (inl refl))))))))));
  origins = passed (record { table = table.Origin; passes = are_origins i.entered i.assets }) (tests i) h (inr (inr (inr (inr (inr (inr (inr (inr (inr (inr (inl refl)))))))))));
}

-- The tables of a sound image are in order.
pub links_in_order : (i : Image) → IsSound i → each_two link_before i.links ≡ true
links_in_order i h = (passes i h).links

pub classes_in_order : (i : Image) → IsSound i → each_two class_before i.classes ≡ true
classes_in_order i h = (passes i h).classes

pub assets_in_order : (i : Image) → IsSound i → each_two asset_before i.assets ≡ true
assets_in_order i h =
    let order = each_two asset_before i.assets in
    let each = list_all (is_asset i.classes) i.assets in
    (and_parts order each (and_parts (order && each) (nat_le (length i.assets) most_assets) (passes i h).assets).0).0

pub routes_in_order : (i : Image) → IsSound i → each_two route_before i.routes ≡ true
routes_in_order i h =
    let courses = courses_of i in
    let order = each_two course_before courses in
    let each = list_all (is_course i.links) courses in
    let free = each_two (λ c d. not (meets c.entries d.entries)) courses in
    let few = nat_le (length courses) most_routes in
    sym (each_two-map course_before (λ (e : RouteRow). record { route = e.route.name; entries = e.route.course }) i.routes)
    ∙ (and_parts order each (and_parts (order && each) free (and_parts (order && each && free) few (passes i h).courses).0).0).0

-- a sound image has no more edits than there may be
pub few_edits : (i : Image) → IsSound i → length i.edits ≤ most_edits
few_edits i h = leb-true (length i.edits) most_edits (and_parts (each_two (λ d e. not (same_name d.key e.key)) i.edits && list_all (is_named_by i.edits) i.entered && list_all (is_named_by i.edits) (parts_of i.gone)) (nat_le (length i.edits) most_edits) (passes i h).edits).1

-- ... and each key once
pub keys_once : (i : Image) → IsSound i → each_two (λ d e. not (same_name d.key e.key)) i.edits ≡ true
keys_once i h =
    let keys = each_two (λ d e. not (same_name d.key e.key)) i.edits in
    let named = list_all (is_named_by i.edits) i.entered in
    let taken = list_all (is_named_by i.edits) (parts_of i.gone) in
    (and_parts keys named (and_parts (keys && named) taken (and_parts (keys && named && taken) (nat_le (length i.edits) most_edits) (passes i h).edits).0).0).0
