-- A referent goes.
use Rattle.std.proofs.Common.{◌≡◌, ℕ, ◌+◌, Bool, true, false, cond, inl, inr, List, [], ◌∷◌, ◌++◌, filter, length, Option, Some, None, Ok, Err, refl, sym, ap, ◌∙◌}
use Rattle.std.specs.Prelude.{is_none, ◌||◌, ◌&&◌, not, nat_lt}
use Rattle.std.specs.List.{find, list_any, list_all, flat_map, filter_map, cons_option}
use Rattle.std.specs.Cmp.{Equal-is}
use Rattle.std.specs.FinMap as entries
use Rattle.std.proofs.lemmas.Bool.{both_ways, not-true, and_parts, and_from}
use Rattle.std.proofs.lemmas.List.Concat.{flat_map-append}
use Rattle.std.proofs.lemmas.Map.Lookups.{exact_bytes}
use Rattle.std.specs.Option.{option_map}
use Rattle.std.specs.Ordering.{eq_by_cmp}
use Rattle.std.specs.Cmp.Lexicographic.{bytes_decides}
use Rattle.lrs_measure.specs.Lists.{In}
use Rattle.lrs_measure.proofs.Members.{any_found, any_of, all_at, In-append_left, In-flat_map, flat_map_found}
use Rattle.lrs_measure.proofs.Filters.{all-filter, each_two-filter}
use Rattle.lrs_inventory.specs.Prelude.{each_two, Name, name_cmp, same_name, Ground, Millimetre, meets, runs_over, Referent, is_route, is_route_course, have_marks, are_referents, referent_before, Image, RouteRow, state_of, referent_entry, referents_on, attempt, ◌>>◌, IsSound, changed_refs}
use Rattle.lrs_element.specs.Course.{ground_at, is_at}
use Rattle.lrs_machine.specs.declared.answer.Cause.TheVariants as cause
use Rattle.lrs_machine.specs.declared.command.Command.TheVariants as verb
use Rattle.lrs_machine.specs.Machine.{refuse_if, set_referent}
use Rattle.lrs_machine.proofs.SoundImages.{and_three}
use Rattle.lrs_machine.proofs.Finding.{find_found}
use Rattle.lrs_image.specs.Change.{refers_to}
use Rattle.lrs_inventory.specs.Changes.{route_on}
use Rattle.lrs_inventory.specs.Plans.{IsPlanOf}
use Rattle.lrs_verbs.specs.RouteReferents.{plan_of_referents, without_one, nowhere}
use Rattle.lrs_image_laws.proofs.FromReferents.{row_of, cross, rear_of, apart_courses, other_names, refs_of, courses_apart, names_once}
use Rattle.lrs_image_laws.proofs.InOrder.{is_false}
use Rattle.lrs_inventory.proofs.NamedEntries.{names_exact}
use Rattle.lrs_image_laws.proofs.Apart.{at_is}
use Rattle.lrs_verbs.proofs.InPlace.{DifferAt, made_filtered}
use Rattle.lrs_verbs.proofs.RouteReferents.{new, became, after, in_its_place, is_plan}

-- ---- the route on which a referent stands

-- what one course runs over another does not, where they have no millimetre in common
elsewhere : (c d : List Ground) (m : Millimetre) → meets c d ≡ false → runs_over d m ≡ true → runs_over c m ≡ false
elsewhere c d m far on = is_false (runs_over c m) (λ t.
    let g = any_found (is_at m) c t in
    both_ways (meets c d) far (any_of (λ g. runs_over d (g.link, g.mm)) g.0 c g.1 (ap (runs_over d) (sym (at_is m g.0 g.2)) ∙ on)))

over_found : (m : Millimetre) (r : RouteRow) (routes : List RouteRow) → each_two apart_courses routes ≡ true → In r routes → runs_over r.route.course m ≡ true → find (λ e. runs_over e.route.course m) routes ≡ Some r
over_found m r [] apart k on = absurd k
over_found m r (y ∷ ys) apart (inl e) on =
    ap (λ b. cond b (Some y) (find (λ z. runs_over z.route.course m) ys)) (ap (λ (z : RouteRow). runs_over z.route.course m) (sym e) ∙ on) ∙ ap (λ (z : RouteRow). Some z) (sym e)
over_found m r (y ∷ ys) apart (inr k) on =
    let both = and_parts (list_all (apart_courses y) ys) (each_two apart_courses ys) apart in
    let far = not-true (meets y.route.course r.route.course) (all_at (apart_courses y) r ys both.0 k) in
    ap (λ b. cond b (Some y) (find (λ z. runs_over z.route.course m) ys)) (elsewhere y.route.course r.route.course m far on) ∙ over_found m r ys both.1 k on

-- The referent of the name is one of this route, which runs over its millimetre.
pub record IsOfRoute (name : Name) (place : Millimetre) (i : Image) : Type 0 where
  pub route_row : RouteRow
  pub known : In route_row i.routes
  pub ref : Referent
  pub own : In ref route_row.route.refs
  pub named : ref.name ≡ name
  pub over : route_on i.routes place ≡ Some route_row.route.name

pub of_route : (name : Name) (place : Millimetre) (i : Image) → IsSound i → (state_of i).referents name ≡ Some place → IsOfRoute name place i
unfolding state_of
of_route name place i s h =
    let there = flat_map_found referents_on (name, place) i.routes (find_found exact_bytes name place (flat_map referents_on i.routes) h) in
    let row = row_of there.0.route.course there.0.route.refs name place there.2 in
    record {
      route_row = there.0;
      known = there.1;
      ref = row.ref;
      own = row.is;
      named = row.named;
      over = ap (option_map (λ (e : RouteRow). e.route.name)) (over_found place there.0 i.routes (courses_apart i s) there.1 row.on);
    }

-- ---- rows of other names

module _ (name : Name) where
  abbrev is_gone : Name → Bool
  is_gone q = list_any (same_name q) (name ∷ [])

  abbrev pub is_kept : Referent → Bool
  is_kept q = not (is_gone q.name)

  abbrev pub is_kept_row : Name × Millimetre → Bool
  is_kept_row x = not (is_gone x.0)

  pub other_kept : (q : Name) → same_name q name ≡ false → not (is_gone q) ≡ true
  other_kept q h = ap (λ b. not (b || false)) h

  gone_alike : (q : Name) → same_name q name ≡ is_gone q
  gone_alike q = elim (same_name q name) as (λ b. b ≡ (b || false)) [ true ↦ refl | false ↦ refl ]

  abbrev rows : List Ground → List Referent → List (Name × Millimetre)
  rows course refs = filter_map (referent_entry course) refs

  abbrev row : Referent → Option Millimetre → Option (Name × Millimetre)
  row q o = option_map (λ m. (q.name, m)) o

  -- the rows of the referents that stay are the rows that stay
  pub rows_kept : (course : List Ground) (refs : List Referent) → rows course (filter is_kept refs) ≡ filter is_kept_row (rows course refs)
  rows_kept course [] = refl
  rows_kept course (q ∷ qs) =
      elim (is_kept q) as (λ b. rows course (cond b (q ∷ filter is_kept qs) (filter is_kept qs)) ≡ cond b (cons_option (row q (ground_at course q.at)) (rows course (filter is_kept qs))) (rows course (filter is_kept qs))) [ true ↦ refl | false ↦ refl ]
      ∙ by (is_kept q) (ground_at course q.at) (rows course (filter is_kept qs)) (rows course qs) refl (rows_kept course qs)
    where
      by : (b : Bool) (o : Option Millimetre) (left rest : List (Name × Millimetre)) → is_kept q ≡ b → left ≡ filter is_kept_row rest → cond b (cons_option (row q o) left) left ≡ filter is_kept_row (cons_option (row q o) rest)
      by true None left rest e h = h
      by false None left rest e h = h
      by true (Some m) left rest e h = ap (λ xs. (q.name, m) ∷ xs) h ∙ sym (ap (λ b. cond b ((q.name, m) ∷ filter is_kept_row rest) (filter is_kept_row rest)) e)
      by false (Some m) left rest e h = h ∙ sym (ap (λ b. cond b ((q.name, m) ∷ filter is_kept_row rest) (filter is_kept_row rest)) e)

  -- Among the rows that stay the name is not found, and another name is found as among all.
  pub found_kept : (rows : List (Name × Millimetre)) (q : Name) → entries.find name_cmp q (filter is_kept_row rows) ≡ cond (is_gone q) None (entries.find name_cmp q rows)
  found_kept [] q = elim (is_gone q) as (λ b. ◌≡◌ {A = Option Millimetre} None (cond b None None)) [ true ↦ refl | false ↦ refl ]
  found_kept (x ∷ xs) q =
      elim (is_gone x.0) as (λ b. is_gone x.0 ≡ b
      → entries.find name_cmp q (cond (not b) (x ∷ filter is_kept_row xs) (filter is_kept_row xs)) ≡ cond (is_gone q) None (cond (eq_by_cmp name_cmp q x.0) (Some x.1) (entries.find name_cmp q xs))) [
        | true ↦ λ g. found_kept xs q ∙ elim (eq_by_cmp name_cmp q x.0) as (λ b. eq_by_cmp name_cmp q x.0 ≡ b
            → cond (is_gone q) None (entries.find name_cmp q xs) ≡ cond (is_gone q) None (cond b (Some x.1) (entries.find name_cmp q xs))) [
              | true ↦ λ e. ap (λ b. cond b None (entries.find name_cmp q xs)) (alike e ∙ g) ∙ sym (ap (λ b. cond b None (Some x.1)) (alike e ∙ g))
              | false ↦ λ e. refl
            ] refl
        | false ↦ λ g. elim (eq_by_cmp name_cmp q x.0) as (λ b. eq_by_cmp name_cmp q x.0 ≡ b
            → cond b (Some x.1) (entries.find name_cmp q (filter is_kept_row xs)) ≡ cond (is_gone q) None (cond b (Some x.1) (entries.find name_cmp q xs))) [
              | true ↦ λ e. sym (ap (λ b. cond b None (Some x.1)) (alike e ∙ g))
              | false ↦ λ e. found_kept xs q
            ] refl
      ] refl
    where
      alike : eq_by_cmp name_cmp q x.0 ≡ true → is_gone q ≡ is_gone x.0
      alike e = ap is_gone (names_exact q x.0 ((Equal-is _).0 e))

-- ---- the verb

pub refuses_unknown : (name : Name) (i : Image) (n : ℕ) → (state_of i).referents name ≡ None → attempt n (verb.Unref name) (state_of i) ≡ Err cause.NoRef
unfolding attempt
refuses_unknown name i n h = ap (λ (o : Option Millimetre). refuse_if (is_none o) cause.NoRef >> Ok (set_referent name None (state_of i))) h

module _ (name : Name) (place : Millimetre) (i : Image) (s : IsSound i) (h : (state_of i).referents name ≡ Some place) where
  abbrev on : IsOfRoute name place i
  on = of_route name place i s h

  abbrev r : RouteRow
  r = on.route_row

  within : Referent → Bool
  within q = nat_lt q.at (length r.route.course)

  fits : is_route r.route.course r.route.marks (changed_refs (without_one name) r.route.refs) ≡ true
  fits =
      let len = length r.route.course in
      let its = and_three (is_route_course r.route.course) (have_marks r.route.course r.route.marks) (are_referents len r.route.refs) r.route.fits in
      let refs = and_parts (each_two referent_before r.route.refs) (list_all (λ q. nat_lt q.at len) r.route.refs) its.2 in
      and_from (is_route_course r.route.course && have_marks r.route.course r.route.marks) (are_referents len (filter (is_kept name) r.route.refs))
      (and_from (is_route_course r.route.course) (have_marks r.route.course r.route.marks) its.0 its.1)
      (and_from (each_two referent_before (filter (is_kept name) r.route.refs)) (list_all (λ q. nat_lt q.at len) (filter (is_kept name) r.route.refs))
      (each_two-filter referent_before (is_kept name) r.route.refs refs.0) (all-filter (λ q. nat_lt q.at len) (is_kept name) r.route.refs refs.1))

  abbrev p : DifferAt r (new i r (without_one name) s on.known fits) i.routes (after i r (without_one name) s on.known fits)
  p = in_its_place i r (without_one name) s on.known fits

  abbrev routes_after : List RouteRow
  routes_after = after i r (without_one name) s on.known fits

  -- the referents of other routes have other names
  once : each_two other_names (flat_map refs_of p.front ++ (r.route.refs ++ flat_map refs_of p.rear)) ≡ true
  once = ap (each_two other_names) (sym (ap (flat_map refs_of) p.before ∙ flat_map-append refs_of p.front (r ∷ p.rear))) ∙ names_once i s

  ahead : (q : Referent) → In q (flat_map refs_of p.front) → is_kept name q ≡ true
  ahead q n = other_kept name q.name (ap (same_name q.name) (sym on.named)
      ∙ not-true (same_name q.name on.ref.name) (cross other_names q on.ref (flat_map refs_of p.front) (r.route.refs ++ flat_map refs_of p.rear) once n (In-append_left on.ref r.route.refs (flat_map refs_of p.rear) on.own)))

  behind : (q : Referent) → In q (flat_map refs_of p.rear) → is_kept name q ≡ true
  behind q n =
      let later = rear_of other_names (flat_map refs_of p.front) (r.route.refs ++ flat_map refs_of p.rear) once in
      let other = not-true (same_name on.ref.name q.name) (cross other_names on.ref q r.route.refs (flat_map refs_of p.rear) later on.own n) in
      other_kept name q.name (is_false (same_name q.name name) (λ t. both_ways (same_name on.ref.name q.name) other ((bytes_decides on.ref.name q.name).1 (on.named ∙ sym ((bytes_decides q.name name).0 t)))))

  refs_left : flat_map refs_of routes_after ≡ filter (is_kept name) (flat_map refs_of i.routes)
  refs_left = made_filtered r (new i r (without_one name) s on.known fits) i.routes routes_after p refs_of (is_kept name) (became i r (without_one name) s on.known fits).refs ahead behind

  rows_left : flat_map referents_on routes_after ≡ filter (is_kept_row name) (flat_map referents_on i.routes)
  rows_left =
      let b = became i r (without_one name) s on.known fits in
      made_filtered r (new i r (without_one name) s on.known fits) i.routes routes_after p referents_on (is_kept_row name) ((λ j. filter_map (referent_entry (b.course j)) (b.refs j)) ∙ rows_kept name r.route.course r.route.refs) (from p.front ahead) (from p.rear behind)
    where
      from : (routes : List RouteRow) → ((q : Referent) → In q (flat_map refs_of routes) → is_kept name q ≡ true) → (x : Name × Millimetre) → In x (flat_map referents_on routes) → is_kept_row name x ≡ true
      from routes others x n =
          let there = flat_map_found referents_on x routes n in
          let row = row_of there.0.route.course there.0.route.refs x.0 x.1 there.2 in
          ap (λ m. not (is_gone name m)) (sym row.named) ∙ others row.ref (In-flat_map refs_of there.0 row.ref routes there.1 row.is)

  abbrev stands : Name → Option Millimetre
  stands q = cond (same_name q name) None ((state_of i).referents q)

  stands_after : (q : Name) → entries.find name_cmp q (flat_map referents_on routes_after) ≡ stands q
  unfolding state_of
  stands_after q = ap (entries.find name_cmp q) rows_left ∙ found_kept name (flat_map referents_on i.routes) q ∙ ap (λ b. cond b None (entries.find name_cmp q (flat_map referents_on i.routes))) (sym (gone_alike name q))

  acts : (n : ℕ) → attempt n (verb.Unref name) (state_of i) ≡ Ok (record (state_of i) { referents = stands })
  unfolding attempt
  acts n = ap (λ (o : Option Millimetre). refuse_if (is_none o) cause.NoRef >> Ok (set_referent name None (state_of i))) h

  -- The referent goes from its route, and stands nowhere.
  pub makes : IsPlanOf (verb.Unref name) i (plan_of_referents r.route.name (without_one name) (nowhere name))
  makes = is_plan i r (without_one name) s on.known fits (and_from (list_any (refers_to name) r.route.refs) true (any_of (refers_to name) on.ref r.route.refs on.own ((bytes_decides on.ref.name name).1 on.named)) refl) (verb.Unref name) (nowhere name) stands (acts (length i.edits + 1)) stands_after
      (λ q. ap (λ b. cond b None ((state_of i).referents q)) (gone_alike name q)) tt
      (ap (each_two other_names) refs_left ∙ each_two-filter other_names (is_kept name) (flat_map refs_of i.routes) (names_once i s))
