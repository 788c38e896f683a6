-- A route from its other end.
use Rattle.std.proofs.Common.{◌≡◌, ℕ, Bool, true, cond, inl, inr, List, [], ◌∷◌, map, filter, length, Some, None, Ok, Err, refl, sym, ap, subst, ◌∙◌}
use Rattle.std.specs.Prelude.{◌⊎◌, ◌&&◌, not, nat_lt, nat_le, nat_eq, unwrap_or}
use Rattle.std.specs.List.{find, list_any, list_all}
use Rattle.std.proofs.lemmas.Bool.{and_parts}
use Rattle.std.specs.Option.{option_map, ok_or}
use Rattle.std.specs.Cmp.Lexicographic.{nat_list_cmp_total, bytes_decides}
use Rattle.lrs_inventory.specs.Prelude.{each_two, Name, same_name, Referent, Alignment, is_route, is_route_course, have_marks, are_referents, referent_before, Asset, Span, has_row, are_rows, span_before, end_by, Image, RouteRow, state_of, route_entry, attempt, ◌>>=◌, set_route, is_span, are_spans_of, IsSound, Makes, RouteChange, is_named, changed_refs, fits_after, route_after, are_names_of, rerouting, IsPlan}
use Rattle.lrs_measure.specs.OrderedLists.{insert_all}
use Rattle.lrs_measure.specs.Lists.{In}
use Rattle.lrs_measure.proofs.Members.{any_of, all_at, all_of, all_weaker, In-map}
use Rattle.lrs_measure.proofs.Filters.{each_two-filter}
use Rattle.lrs_element.specs.Course.{turned}
use Rattle.lrs_element.specs.Marks.{mirrored}
use Rattle.lrs_events.specs.declared.change.SpanChange.{SpanChange}
use Rattle.lrs_events.specs.Changes.{changed_rows}
use Rattle.lrs_events.specs.Row.Changes.{IsChange, missing}
use Rattle.lrs_events.proofs.Row.Changing.{rows_sorted}
use Rattle.lrs_events.proofs.Row.Sorted.{IsStrict, one_list, put_all}
use Rattle.lrs_events.proofs.Row.Unique.{less_one}
use Rattle.lrs_machine.specs.declared.answer.Cause.TheVariants as cause
use Rattle.lrs_machine.specs.declared.command.Command.TheVariants as verb
use Rattle.lrs_image.proofs.Becoming.{HasBecome, becomes}
use Rattle.lrs_image_laws.specs.Turns.{from_end, IsTurnedRoute}
use Rattle.lrs_image_laws.proofs.InOrder.{before-chain}
use Rattle.lrs_image_laws.proofs.Naming.{found_in}
use Rattle.lrs_image_laws.proofs.Rewriting.{old_spans}
use Rattle.lrs_image_laws.proofs.Turning.{alike, turn_makes, turned_is_route, turned_has_rows}
use Rattle.lrs_machine.proofs.Pairs.{each_two-map}
use Rattle.lrs_inventory.proofs.KeptName.{keeps_name}
use Rattle.lrs_inventory.specs.Plans.{plan_of, IsPlanOf}
use Rattle.lrs_verbs.specs.Turns.{IsTurnedBy}
use Rattle.lrs_inventory.proofs.ChangedRoute.{after, new, at, plans_alike}
use Rattle.lrs_inventory.proofs.Known.{route_value}
use Rattle.lrs_inventory.proofs.Going.{names_there}

-- ---- what the verb does

pub refuses_route : (route : Name) (i : Image) (n : ℕ) → find (is_named route) i.routes ≡ None → attempt n (verb.Turn route) (state_of i) ≡ Err cause.NoRoute
unfolding attempt
refuses_route route i n none =
    ap (λ g. ok_or g cause.NoRoute >>= (λ (a : Alignment). Ok (set_route route (turned a.course) (mirrored a.marks) (state_of i)))) (route_value i route ∙ ap (option_map (λ (e : RouteRow). (route_entry e).1)) none)

-- no row of a route ends behind it
pub rows_end : (i : Image) (r : RouteRow) (name : Name) → IsSound i → find (is_named name) i.routes ≡ Some r → end_by (length r.route.course) r.spans ≡ true
rows_end i r name s found =
    all_weaker (is_span i.assets (length r.route.course)) (λ (q : Span). nat_le q.to (length r.route.course)) r.spans
    (λ q h. (and_parts (nat_le q.to (length r.route.course)) (list_any (λ (a : Asset). nat_eq a.number q.asset && same_name a.class q.class) i.assets) h).0)
    (and_parts (are_rows r.spans) (list_all (is_span i.assets (length r.route.course)) r.spans) (all_at (λ (e : RouteRow). are_spans_of i.assets (record { course = e.route.course; rows = e.spans })) r i.routes (old_spans i s) (found_in name r i.routes found).0)).1

-- the difference of canonical rows is a plan
pub plan_of_rows : (rows new : List Span) (change : SpanChange) → are_rows rows ≡ true → are_rows new ≡ true → change.gone.items ≡ missing new rows → IsChange rows change.gone.items change.come.items new → changed_rows change rows ≡ new → IsPlan rows change
plan_of_rows rows new change h k gone differ made = record {
  kept = ap are_rows made ∙ k;
  change = subst (λ (after : List Span). IsChange rows change.gone.items change.come.items after) (sym made) differ;
  in_order = ap (each_two span_before) gone ∙ each_two-filter span_before (λ r. not (has_row new r)) rows (rows_sorted rows h);
}

-- ---- referents that all go and come

-- what is in order comes in its order where there was nothing
all_come : {X : Type 0} (before : X → X → Bool) → IsStrict before → (xs : List X) → each_two before xs ≡ true → insert_all before xs [] ≡ xs
all_come {X = X} before strict xs h =
    let put = put_all before strict xs xs [] h h refl (λ x m. m) (λ x m. absurd m) (λ x m n. n) in
    one_list before strict (insert_all before xs []) xs put.in_order h (λ x m. only x (put.from x m)) (λ x m. put.to x (inl m))
  where
    only : (x : X) → In x xs ⊎ In x [] → In x xs
    only x (inl m) = m
    only x (inr m) = absurd m

all_go : {X : Type 0} (p : X → Bool) (xs : List X) → list_all p xs ≡ true → filter (λ x. not (p x)) xs ≡ []
all_go p [] h = refl
all_go p (x ∷ xs) h =
    let both = and_parts (p x) (list_all p xs) h in
    ap (λ b. cond (not b) (x ∷ filter (λ x. not (p x)) xs) (filter (λ x. not (p x)) xs)) both.0 ∙ all_go p xs both.1

chain : (x y z : Referent) → referent_before x y ≡ true → referent_before y z ≡ true → referent_before x z ≡ true
chain = before-chain nat_list_cmp_total (λ (q : Referent). q.name)

referents_strict : IsStrict referent_before
referents_strict = record { never_both = λ x y h k. less_one x.name x.name (chain x y x h k) refl; through = chain }

all_turn : (r : RouteRow) → changed_refs (record { gone = map (λ (q : Referent). q.name) r.route.refs; come = map (from_end (length r.route.course)) r.route.refs }) r.route.refs ≡ map (from_end (length r.route.course)) r.route.refs
all_turn r =
    ap (insert_all referent_before (map (from_end len) refs)) (all_go (λ (q : Referent). list_any (same_name q.name) (map named refs)) refs
    (all_of (λ (q : Referent). list_any (same_name q.name) (map named refs)) refs (λ q m. any_of (same_name q.name) q.name (map named refs) (In-map named q refs m) ((bytes_decides q.name q.name).1 refl))))
    ∙ all_come referent_before referents_strict (map (from_end len) refs) (each_two-map referent_before (from_end len) refs ∙ (and_parts (each_two referent_before refs) (list_all (λ (q : Referent). nat_lt q.at len) refs) on_it).0)
  where
    named : Referent → Name
    named q = q.name

    len : ℕ
    len = length r.route.course

    refs : List Referent
    refs = r.route.refs

    on_it : are_referents len refs ≡ true
    on_it = (and_parts (is_route_course r.route.course && have_marks r.route.course r.route.marks) (are_referents len refs) r.route.fits).1

-- ---- The plan of the verb.
module _ (route : Name) (i : Image) (r : RouteRow) (c : RouteChange) (s : IsSound i) (found : find (is_named route) i.routes ≡ Some r) (is : IsTurnedBy r c) where
  own : r.route.name ≡ route
  own = (found_in route r i.routes found).1

  found_by : find (is_named c.route) i.routes ≡ Some r
  found_by = ap (λ n. find (is_named n) i.routes) (is.route ∙ own) ∙ found

  abbrev w : RouteRow
  w = after c i r s found_by

  refs_are : changed_refs c.refs r.route.refs ≡ map (from_end (length r.route.course)) r.route.refs
  refs_are = (λ j. changed_refs (record { gone = is.refs_gone j; come = is.refs_come j }) r.route.refs) ∙ all_turn r

  stays_fit : fits_after c r.route ≡ true
  stays_fit = (λ j. is_route (unwrap_or (is.course j) r.route.course) (unwrap_or (is.marks j) r.route.marks) (refs_are j)) ∙ turned_is_route r.route is.short

  become : HasBecome c r.route (route_after c r.route)
  become = becomes c r.route stays_fit

  there : In r i.routes
  there = at c i r s found_by

  course : w.route.course ≡ turned r.route.course
  course = become.course ∙ ap (λ o. unwrap_or o r.route.course) is.course

  turn : IsTurnedRoute i r w
  turn = record {
    route = there;
    name = become.name ∙ is.name;
    course = course;
    marks = become.marks ∙ ap (λ o. unwrap_or o r.route.marks) is.marks;
    refs = become.refs ∙ refs_are;
    spans = ap (λ c. are_spans_of i.assets (record { course = c; rows = w.spans })) course
        ∙ turned_has_rows i.assets r.route.course r.spans w.spans is.rows is.turned (all_at (λ (e : RouteRow). are_spans_of i.assets (record { course = e.route.course; rows = e.spans })) r i.routes (old_spans i s) there);
    turned = is.turned;
  }

  pub turns : IsPlanOf (verb.Turn route) i (plan_of (rerouting (Some c) None None))
  turns = plans_alike c i r s found_by turn.name (alike i r w s turn) (record { fits = stays_fit; rows = is.rows; gone = is.spans_gone; there = is.spans_there; named = ap (are_names_of r) is.refs_gone ∙ names_there r.route.refs r.route.refs (λ q m. m); renamed = keeps_name c r (is.route ∙ sym is.name) }) (verb.Turn route)
      (subst (λ (n : Name). Makes (verb.Turn n) i (new c i r s found_by)) own (turn_makes i r w s turn))
