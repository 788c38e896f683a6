-- An image in which the referents of one route change, and nothing else.
use Rattle.std.proofs.Common.{◌≡◌, ℕ, ◌+◌, Bool, true, List, length, Option, Some, Ok, refl, sym, ap, subst, ◌∙◌}
use Rattle.std.specs.List.{find, list_all, flat_map}
use Rattle.std.specs.FinMap as entries
use Rattle.std.proofs.lemmas.Bool.{and_parts, and_from}
use Rattle.std.proofs.lemmas.List.{append-nil}
use Rattle.std.proofs.lemmas.List.Folds.{list_all-map, flat_map-map}
use Rattle.std.specs.Option.{option_map}
use Rattle.lrs_inventory.specs.Prelude.{each_two, Name, name_cmp, insert_by, Millimetre, is_route, is_route_course, have_marks, are_referents, Place, are_rows, holds_by_spans, Command, Image, RouteRow, state_of, route_entry, referents_on, holds_on, attempt, are_courses, are_spans_of, is_span, route_before, IsSound, RouteChange, changed_refs, entry_after, is_named, without, with_difference, CanDiffer, are_names_of, IsOrderly}
use Rattle.lrs_measure.specs.OrderedLists.{insert_some}
use Rattle.lrs_measure.specs.Lists.{In}
use Rattle.lrs_measure.proofs.Members.{In-map, all_at}
use Rattle.lrs_measure.proofs.Filters.{filter_all}
use Rattle.lrs_machine.specs.Sound.{RouteReferents, RouteSpans, are_all_marks, are_all_referents, referents_of, spans_of}
use Rattle.lrs_machine.proofs.SoundImages.{and_three}
use Rattle.lrs_image.specs.declared.change.ReferentChange.{ReferentChange}
use Rattle.lrs_image.specs.Change.{CanBecome}
use Rattle.lrs_image.proofs.Becoming.{HasBecome, becomes}
use Rattle.lrs_image.proofs.Tables.{routes_in_order}
use Rattle.lrs_image_laws.proofs.Ordering.{sound_is_orderly}
use Rattle.lrs_inventory.specs.declared.plan.ReferentPlaces.{ReferentPlaces}
use Rattle.lrs_inventory.specs.Changes.{route_on, referents_after, IsNewReferent}
use Rattle.lrs_inventory.specs.Plans.{TellsGround, IsPlanOf}
use Rattle.lrs_verbs.specs.RouteReferents.{change_of_referents, difference_of_referents, plan_of_referents}
use Rattle.lrs_image_laws.proofs.FromReferents.{other_names, refs_of}
use Rattle.lrs_inventory.proofs.KeptName.{keeps_name}
use Rattle.lrs_verbs.proofs.InPlace.{DifferAt, found_by_name, in_place, map_same, any_same, all_still, names_stay, ground_stays}

some_is : (a b : RouteRow) → Some a ≡ Some b → a ≡ b
some_is a b h = cc

module _ (i : Image) (r : RouteRow) (c : ReferentChange) (s : IsSound i) (m : In r i.routes) (fits : is_route r.route.course r.route.marks (changed_refs c r.route.refs) ≡ true) where
  abbrev change : RouteChange
  change = change_of_referents r.route.name c

  -- the route after the change
  abbrev pub new : RouteRow
  new = entry_after change r

  pub became : HasBecome change r.route new.route
  became = becomes change r.route fits

  same_rows : new.spans ≡ r.spans
  same_rows = filter_all (λ row. true) r.spans (λ row k. refl)

  order : each_two route_before i.routes ≡ true
  order = routes_in_order i s

  found_there : find (is_named r.route.name) i.routes ≡ Some r
  found_there = found_by_name r i.routes order m

  -- the routes after the change
  abbrev pub after : List RouteRow
  after = insert_by route_before new (without r.route.name i.routes)

  pub in_its_place : DifferAt r new i.routes after
  in_its_place = in_place r.route.name r new became.name i.routes order found_there

  abbrev next : Image
  next = record i { routes = after }

  is_next : with_difference (difference_of_referents r.route.name c) i ≡ next
  is_next = λ j. record next {
    routes = insert_some route_before (option_map (entry_after change) (found_there j)) (without r.route.name i.routes);
    entered = append-nil i.entered j;
    gone = append-nil i.gone j;
  }

  -- ---- the state has other referents

  same_entry : route_entry new ≡ route_entry r
  same_entry = λ j. (became.name j, record { course = became.course j; marks = became.marks j })

  same_held : (a : ℕ) (p : Place) → holds_on new a p ≡ holds_on r a p
  same_held a p = λ j. holds_by_spans (became.course j) (same_rows j) a p

  state-with : (stands : Name → Option Millimetre) → ((q : Name) → entries.find name_cmp q (flat_map referents_on after) ≡ stands q) → record (state_of i) { referents = stands } ≡ state_of next
  unfolding state_of
  state-with stands h = λ j. record (state_of i) {
    routes = record { rows = sym (map_same r new i.routes after in_its_place route_entry same_entry) j };
    referents = λ q. sym (h q) j;
    holds = λ a p. sym (any_same r new i.routes after in_its_place (λ f. holds_on f a p) (same_held a p)) j;
  }

  -- ---- the image stays in order

  own_refs : are_referents (length r.route.course) (changed_refs c r.route.refs) ≡ true
  own_refs = (and_three (is_route_course r.route.course) (have_marks r.route.course r.route.marks) (are_referents (length r.route.course) (changed_refs c r.route.refs)) fits).2

  abbrev refs_entry : RouteRow → RouteReferents
  refs_entry e = record { length = length e.route.course; refs = e.route.refs }

  abbrev are_fitting : RouteReferents → Bool
  are_fitting q = are_referents q.length q.refs

  still_referents : each_two other_names (flat_map refs_of after) ≡ true → are_all_referents (referents_of i) ≡ true → are_all_referents (referents_of next) ≡ true
  still_referents once h =
      let its : are_fitting (refs_entry new) ≡ true = (λ j. are_referents (length (became.course j)) (became.refs j)) ∙ own_refs in
      let each = (and_parts (list_all are_fitting (referents_of i)) (each_two other_names (flat_map (λ q. q.refs) (referents_of i))) h).0 in
      and_from (list_all are_fitting (referents_of next)) (each_two other_names (flat_map (λ q. q.refs) (referents_of next)))
      (list_all-map are_fitting refs_entry after ∙ all_still r new i.routes after in_its_place (λ e. are_fitting (refs_entry e)) its (sym (list_all-map are_fitting refs_entry i.routes) ∙ each))
      (ap (each_two other_names) (flat_map-map (λ (q : RouteReferents). q.refs) refs_entry after) ∙ once)

  stays_orderly : each_two other_names (flat_map refs_of after) ≡ true → IsOrderly i → IsOrderly next
  stays_orderly once o = record {
    links = o.links;
    classes = o.classes;
    assets = o.assets;
    courses = ap (are_courses i.links) (map_same r new i.routes after in_its_place (λ e. record { route = e.route.name; entries = e.route.course }) (λ j. record { route = became.name j; entries = became.course j })) ∙ o.courses;
    marks = ap are_all_marks (map_same r new i.routes after in_its_place (λ e. record { course = e.route.course; marks = e.route.marks }) (λ j. record { course = became.course j; marks = became.marks j })) ∙ o.marks;
    referents = still_referents once o.referents;
    spans = ap (list_all (are_spans_of i.assets)) (map_same r new i.routes after in_its_place (λ e. record { course = e.route.course; rows = e.spans }) (λ j. record { course = became.course j; rows = same_rows j })) ∙ o.spans;
    entered_order = o.entered_order;
    entered_filled = o.entered_filled;
    entered_apart = o.entered_apart;
    entered_few = o.entered_few;
    gone_order = o.gone_order;
    gone_filled = o.gone_filled;
    gone_apart = o.gone_apart;
    keys = o.keys;
    few_edits = o.few_edits;
  }

  -- ---- the difference can be made

  own_rows : are_rows r.spans ≡ true
  own_rows =
      let entry : RouteRow → RouteSpans = λ e. record { course = e.route.course; rows = e.spans } in
      (and_parts (are_rows r.spans) (list_all (is_span i.assets (length r.route.course)) r.spans)
      (all_at (are_spans_of i.assets) (entry r) (spans_of i) (sound_is_orderly i s).spans (In-map entry r i.routes m))).0

  names_in_order : each_two route_before after ≡ true
  names_in_order = names_stay r new i.routes after in_its_place became.name order

  can_become : are_names_of r c.gone ≡ true → CanBecome change r
  can_become own = record { fits = fits; rows = ap are_rows same_rows ∙ own_rows; gone = refl; there = refl; named = own; renamed = keeps_name change r refl }

  can_differ : are_names_of r c.gone ≡ true → CanDiffer (difference_of_referents r.route.name c) i
  can_differ own = record {
    route = record { row = r; found = found_there; becomes = can_become own };
    apart = tt;
    whole = tt;
    names = ap (λ o. each_two route_before (insert_some route_before (option_map (entry_after change) o) (without r.route.name i.routes))) found_there ∙ names_in_order;
  }

  -- ---- the plan

  tells : (places : ReferentPlaces) → ((q : Name) → entries.find name_cmp q (flat_map referents_on after) ≡ referents_after places (state_of i).referents q)
      → IsNewReferent places.come (state_of i).referents → TellsGround (plan_of_referents r.route.name c places) i
  unfolding state_of
  tells places h fresh = record {
    ground = λ m. ap (λ (k : Image). route_on k.routes m) is_next ∙ ground_stays r new i.routes after in_its_place became.name became.course m;
    can_ground = tt;
    referents = λ q. ap (λ (k : Image). (state_of k).referents q) is_next ∙ h q;
    new_referent = fresh;
  }

  -- Where the command makes referents stand as the plan tells, and no two of one name, the plan is one of the command.
  pub is_plan : are_names_of r c.gone ≡ true → (command : Command) (places : ReferentPlaces) (stands : Name → Option Millimetre)
      → attempt (length i.edits + 1) command (state_of i) ≡ Ok (record (state_of i) { referents = stands })
      → ((q : Name) → entries.find name_cmp q (flat_map referents_on after) ≡ stands q) → ((q : Name) → stands q ≡ referents_after places (state_of i).referents q)
      → IsNewReferent places.come (state_of i).referents → each_two other_names (flat_map refs_of after) ≡ true → IsPlanOf command i (plan_of_referents r.route.name c places)
  is_plan own command places stands acts found told fresh once = record {
    makes = record {
      state = acts ∙ ap Ok (state-with stands found ∙ ap state_of (sym is_next));
      edits = refl;
      orderly = λ room. subst IsOrderly (sym is_next) (stays_orderly once (sound_is_orderly i s));
    };
    differ = can_differ own;
    tells = tells places (λ q. found q ∙ told q) fresh;
  }
