-- A millimetre of a route leads back to the route and to its chainage.
use Rattle.std.proofs.Common.{◌≡◌, ℕ, zero, suc, ◌-◌, ◌<◌, min, Bool, true, false, cond, inl, inr, List, [], ◌∷◌, length, get_or, Option, Some, Err, refl, sym, ap, ◌∙◌, arith}
use Rattle.std.specs.Prelude.{◌&&◌, nat_eq, nat_lt, slice_get}
use Rattle.std.specs.List.{find, list_all}
use Rattle.std.specs.Option.{option_map, option_map_or, option_and_then, ok_or}
use Rattle.std.proofs.lemmas.Bool.{both_ways, not-true, and_parts, and_from, eqb-true, eq-eqb, ltb-true, le-ltb}
use Rattle.std.proofs.lemmas.Option.{slice_get_within, get_or_from_slice_get}
use Rattle.lrs_measure.specs.Lists.{In, each_two}
use Rattle.lrs_measure.proofs.Members.{any_found, all_at}
use Rattle.lrs_measure.proofs.Places.{two_pass}
use Rattle.lrs_element.specs.declared.link.Ground.{Ground}
use Rattle.lrs_element.specs.declared.link.Link.{Link}
use Rattle.lrs_element.specs.Course.{Millimetre, chainage_on, is_at, meets, runs_over}
use Rattle.lrs_position.proofs.Entries.{position_found}
use Rattle.lrs_events.specs.Places.{differs}
use Rattle.lrs_machine.specs.declared.image.Image.{Image}
use Rattle.lrs_machine.specs.declared.image.RouteRow.{RouteRow}
use Rattle.lrs_machine.specs.Sound.{IsSound, is_on_a_link, link_before}
use Rattle.lrs_image.proofs.Tables.{links_in_order}
use Rattle.lrs_image_laws.proofs.Apart.{at_same, meet_at}
use Rattle.lrs_image_laws.proofs.FromReferents.{apart_courses, run_over}
use Rattle.lrs_image_laws.proofs.Holding.{alone}
use Rattle.lrs_image_laws.proofs.InOrder.{is_false}
use Rattle.lrs_report_answers.specs.Answers.{IsRouteIn}
use Rattle.lrs_report_answers.proofs.Asked.{route_in}
use Rattle.lrs_machine.specs.declared.absence.Missing.TheVariants.{Link as NoLink, Place as NoPlace}
use Rattle.lrs_report_answers.specs.Place.Laws.{LinksLeadBack}
use Rattle.lrs_report_answers.specs.Place.Places.{Spot, place_within, place_over, place_along, unless_missing}

-- ---- the route

-- no other route runs over the millimetre
only_over : (m : Millimetre) (e : RouteRow) (routes : List RouteRow) → each_two apart_courses routes ≡ true → In e routes → runs_over e.route.course m ≡ true → find (λ r. runs_over r.route.course m) routes ≡ Some e
only_over m e [] h n over = absurd n
only_over m e (y ∷ ys) h (inl same) over =
    ap (λ (b : Bool). cond b (Some y) (find (λ r. runs_over r.route.course m) ys)) (ap (λ (r : RouteRow). runs_over r.route.course m) (sym same) ∙ over) ∙ ap (λ (r : RouteRow). Some r) (sym same)
only_over m e (y ∷ ys) h (inr n) over =
    let both = and_parts (list_all (apart_courses y) ys) (each_two apart_courses ys) h in
    let far : meets y.route.course e.route.course ≡ false = not-true (meets y.route.course e.route.course) (all_at (apart_courses y) e ys both.0 n) in
    let other : runs_over y.route.course m ≡ false = is_false (runs_over y.route.course m) (λ t. both_ways (meets y.route.course e.route.course) far (meet_at y.route.course e.route.course m t over)) in
    ap (λ (b : Bool). cond b (Some y) (find (λ r. runs_over r.route.course m) ys)) other ∙ only_over m e ys both.1 n over

-- ---- the chainage

at_itself : (g : Ground) → is_at (g.link, g.mm) g ≡ true
at_itself g = and_from (nat_eq g.link g.link) (nat_eq g.mm g.mm) (eq-eqb g.link g.link refl) (eq-eqb g.mm g.mm refl)

-- a course that has no millimetre twice has each one at its own entry
only_at : (c : List Ground) (j : ℕ) (g : Ground) → each_two differs c ≡ true → slice_get c j ≡ Some g → chainage_on c (g.link, g.mm) ≡ Some j
only_at c j g once h = sym (position_found (is_at (g.link, g.mm)) c j g within earlier (ap (is_at (g.link, g.mm)) is ∙ at_itself g))
  where
    within : j < length c
    within = slice_get_within c j g h

    is : get_or c j g ≡ g
    is = get_or_from_slice_get c j g g h

    earlier : (k : ℕ) → k < j → is_at (g.link, g.mm) (get_or c k g) ≡ false
    earlier k less =
        let x = get_or c k g in
        at_same g x ∙ not-true (is_at (x.link, x.mm) g) (ap (differs x) (sym is) ∙ two_pass differs c k j g once less within)

-- ---- the link

in_course : (c : List Ground) (j : ℕ) (g : Ground) → slice_get c j ≡ Some g → In g c
in_course [] j g h = absurd (cc h)
in_course (x ∷ xs) zero g h = inl (some_is g x h)
  where
    some_is : (a b : Ground) → Some b ≡ Some a → a ≡ b
    some_is a b w = cc
in_course (x ∷ xs) (suc j) g h = inr (in_course xs j g h)

-- one of the links is found by its number
found_by_number : (l : Link) (links : List Link) → each_two link_before links ≡ true → In l links → find (λ x. nat_eq x.number l.number) links ≡ Some l
found_by_number l [] h m = absurd m
found_by_number l (y ∷ ys) h (inl e) =
    ap (λ (b : Bool). cond b (Some y) (find (λ x. nat_eq x.number l.number) ys)) (eq-eqb y.number l.number (ap (λ (x : Link). x.number) (sym e))) ∙ ap (λ (x : Link). Some x) (sym e)
found_by_number l (y ∷ ys) h (inr m) =
    let both = and_parts (list_all (link_before y) ys) (each_two link_before ys) h in
    let less = ltb-true y.number l.number (all_at (link_before y) l ys both.0 m) in
    let other : nat_eq y.number l.number ≡ false = is_false (nat_eq y.number l.number) (λ t. let same = eqb-true y.number l.number t in omega (arith, less, same)) in
    ap (λ (b : Bool). cond b (Some y) (find (λ x. nat_eq x.number l.number) ys)) other ∙ found_by_number l ys both.1 m

-- the link of a millimetre of a route
record IsOnLink (links : List Link) (g : Ground) : Type 0 where
  link : Link
  found : find (λ l. nat_eq l.number g.link) links ≡ Some link
  number : link.number ≡ g.link
  inside : g.mm < link.length

on_link : (links : List Link) (g : Ground) → each_two link_before links ≡ true → is_on_a_link links g ≡ true → IsOnLink links g
on_link links g order h =
    let l = any_found (λ l. nat_eq l.number g.link && nat_lt g.mm l.length) links h in
    let both = and_parts (nat_eq l.0.number g.link) (nat_lt g.mm l.0.length) l.2 in
    let number : l.0.number ≡ g.link = eqb-true l.0.number g.link both.0 in
    record { link = l.0; found = ap (λ (n : ℕ). find (λ x. nat_eq x.number n) links) (sym number) ∙ found_by_number l.0 links order l.1; number = number; inside = ltb-true g.mm l.0.length both.1 }

-- ---- together

place_of_entry : (i : Image) (e : RouteRow) (chainage : ℕ) (g : Ground) → IsSound i → IsRouteIn i e → slice_get e.route.course chainage ≡ Some g → place_over i (g.link, g.mm) ≡ Some (e, chainage)
place_of_entry i e chainage g sound known h =
    let member = route_in i e known in
    let it = alone i e sound member in
    ap (option_and_then (place_within (g.link, g.mm))) (only_over (g.link, g.mm) e i.routes it.apart member (run_over e.route.course chainage g h))
    ∙ ap (option_map (λ (at : ℕ). (e, at))) (only_at e.route.course chainage g it.once h)

pub leads_back : LinksLeadBack
leads_back i sound e chainage g known h =
    let it = alone i e sound (route_in i e known) in
    let l = on_link i.links g (links_in_order i sound) (all_at (is_on_a_link i.links) g e.route.course it.on_links (in_course e.route.course chainage g h)) in
    let inside = l.inside in
    let mm : min g.mm (l.link.length - 1) ≡ g.mm = omega (arith, inside) in
    ap unless_missing
    (ap (λ (o : Option Link). option_map_or (λ (x : Link). place_along i x g.mm) o (Err NoLink)) l.found
    ∙ ap (λ (b : Bool). cond b (Err NoPlace) (ok_or (place_over i (l.link.number, min g.mm (l.link.length - 1))) NoPlace)) (le-ltb l.link.length g.mm (omega (arith, inside)))
    ∙ (λ j. ok_or (place_over i (l.number j, mm j)) NoPlace)
    ∙ ap (λ (o : Option Spot). ok_or o NoPlace) (place_of_entry i e chainage g sound known h))
