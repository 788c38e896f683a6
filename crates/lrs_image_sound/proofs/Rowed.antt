-- Parts made route by route are what the routes hold, each pair once.
use Rattle.std.proofs.Common.{◌≡◌, ℕ, ◌+◌, ◌-◌, ◌<◌, ◌≤◌, Bool, true, false, ◌⊎◌, inl, inr, List, [], ◌∷◌, ◌++◌, take, get_or, length, refl, sym, ap, subst, ◌∙◌, arith}
use Rattle.std.specs.Prelude.{◌||◌, ◌&&◌, not, nat_lt, nat_le, nat_eq}
use Rattle.std.specs.List.{AllByRecursion, list_any, list_all}
use Rattle.std.proofs.lemmas.Bool.{both_ways, not-true, and_parts, and_from, cases_Bool, eqb-true, eq-eqb, lt-ltb, le-leb, ltb-true, false_from_ne_true}
use Rattle.std.proofs.lemmas.List.{take_more, map-append}
use Rattle.std.proofs.lemmas.List.Folds.{list_any-append, list_all-append}
use Rattle.lrs_measure.specs.Lists.{In, each_two}
use Rattle.lrs_element.specs.declared.link.Link.{Link}
use Rattle.lrs_element.specs.declared.link.Ground.{Ground}
use Rattle.lrs_element.specs.Course.{is_at, runs_over, meets}
use Rattle.lrs_events.specs.declared.class.Asset.{Asset}
use Rattle.lrs_events.specs.declared.part.Part.{Part}
use Rattle.lrs_events.specs.declared.span.Span.{Span}
use Rattle.lrs_events.specs.Places.{Place}
use Rattle.lrs_events.specs.Parts.{has_place, has_pair}
use Rattle.lrs_events.specs.Spans.{holds_by_spans, are_rows}
use Rattle.lrs_machine.specs.declared.image.RouteRow.{RouteRow}
use Rattle.lrs_events.specs.Places.{differs}
use Rattle.lrs_machine.specs.Sound.{RouteSpans, holds_in, has_asset_place, is_part, is_span, is_on_a_link, is_course, are_courses, course_before}
use Rattle.lrs_measure.specs.Limits.{most_routes}
use Rattle.lrs_measure.proofs.Members.{any_found, any_of, all_at, map_found, all_of}
use Rattle.lrs_measure.proofs.Counts.{count_append, none_counted}
use Rattle.lrs_measure.proofs.EachTwo.{two_front, across_of}
use Rattle.lrs_machine.proofs.Pairs.{held, held_asset, each_two-map, entered_by, has_entered}
use Rattle.lrs_image_sound.specs.SweptParts.{IsFilled}
use Rattle.lrs_events.specs.Parts.{has_for, times_had}
use Rattle.lrs_image_sound.specs.Balance.{AreHeld}
use Rattle.lrs_image_sound.specs.HeldParts.{AreRoutes, AreOfRoute, AreOfRoutes}
use Rattle.lrs_image_sound.specs.CourseRepeats.{is_on_links}
use Rattle.lrs_image_sound.specs.Tables.{route_courses, route_spans, fits_route}
use Rattle.lrs_image_sound.proofs.Had.{has_it}
use Rattle.lrs_image_sound.proofs.Laid.{off_is, all-append}

-- courses that do not meet hold no place in common
no_place_on_both : (s t : RouteSpans) (a : ℕ) (p : Place) → not (meets s.course t.course) ≡ true → holds_by_spans s.course s.rows a p ≡ true → holds_by_spans t.course t.rows a p ≡ true → ⊥
no_place_on_both s t a p apart h k =
    let x = held s.course s.rows a p h in
    let y = held t.course t.rows a p k in
    let over : runs_over t.course (x.ground.link, x.ground.mm) ≡ true =
    any_of (is_at (x.ground.link, x.ground.mm)) y.ground t.course y.on_course
    (and_from (nat_eq y.ground.link x.ground.link) (nat_eq y.ground.mm x.ground.mm) (eq-eqb y.ground.link x.ground.link (y.on_link ∙ sym x.on_link)) (eq-eqb y.ground.mm x.ground.mm (y.at ∙ sym x.at))) in
    both_ways (meets s.course t.course) (not-true (meets s.course t.course) apart) (any_of (λ g. runs_over t.course (g.link, g.mm)) x.ground s.course x.on_course over)

-- ---- one route

module _ (course : List Ground) (rows : List Span) (parts : List Part) (edit : ℕ) where
  pub shown : ((m asset : ℕ) (p : Place) → list_any (λ part. has_pair part m asset p) parts ≡ (nat_eq m edit && holds_by_spans course rows asset p)) → (asset : ℕ) (p : Place) → has_asset_place parts asset p ≡ holds_by_spans course rows asset p
  shown pairs asset p = Rattle.std.specs.Cmp.both_ways (has_asset_place parts asset p) (holds_by_spans course rows asset p) there back
    where
      there : has_asset_place parts asset p ≡ true → holds_by_spans course rows asset p ≡ true
      there h = let by = entered_by parts asset p h in (and_parts (nat_eq by.0 edit) (holds_by_spans course rows asset p) (sym (pairs by.0 asset p) ∙ by.1)).1

      back : holds_by_spans course rows asset p ≡ true → has_asset_place parts asset p ≡ true
      back h = has_entered parts edit asset p (pairs edit asset p ∙ and_from (nat_eq edit edit) (holds_by_spans course rows asset p) (eq-eqb edit edit refl) h)

pub filled_each : (parts : List Part) → list_all (λ part. nat_lt part.from part.to) parts ≡ true → AllByRecursion IsFilled parts
filled_each [] h = tt
filled_each (x ∷ xs) h = let both = and_parts (nat_lt x.from x.to) (list_all (λ part. nat_lt part.from part.to) xs) h in (ltb-true x.from x.to both.0, filled_each xs both.1)

-- ---- one more route

abbrev apart : RouteSpans → RouteSpans → Bool
apart s t = not (meets s.course t.course)

module _ (routes : List RouteSpans) (s : RouteSpans) where
  front : AreRoutes (routes ++ s ∷ []) → AreRoutes routes
  front are = record {
    once = (and_parts (list_all (λ t. each_two differs t.course) routes) (list_all (λ t. each_two differs t.course) (s ∷ [])) (sym (list_all-append (λ t. each_two differs t.course) routes (s ∷ [])) ∙ are.once)).0;
    apart = two_front apart routes (s ∷ []) are.apart;
    rows = (and_parts (list_all (λ t. are_rows t.rows) routes) (list_all (λ t. are_rows t.rows) (s ∷ [])) (sym (list_all-append (λ t. are_rows t.rows) routes (s ∷ [])) ∙ are.rows)).0;
  }

  last_once : AreRoutes (routes ++ s ∷ []) → each_two differs s.course ≡ true
  last_once are =
      all_at (λ t. each_two differs t.course) s (s ∷ [])
      (and_parts (list_all (λ t. each_two differs t.course) routes) (list_all (λ t. each_two differs t.course) (s ∷ [])) (sym (list_all-append (λ t. each_two differs t.course) routes (s ∷ [])) ∙ are.once)).1 (inl refl)

  pub one_more : (parts more : List Part) → AreOfRoutes routes parts → AreOfRoute s.course s.rows more → AreOfRoutes (routes ++ s ∷ []) (parts ++ more)
  one_more parts more before one = record {
    once = λ are a p. once are a p (cases_Bool (has_asset_place more a p));
    shows = λ a p. list_any-append (λ x. nat_eq x.asset a && has_place x p) parts more ∙ (λ j. before.shows a p j || one.shows a p j) ∙ sym (list_any-append (λ t. holds_by_spans t.course t.rows a p) routes (s ∷ []) ∙ ap (λ b. holds_in routes a p || b) (alone (holds_by_spans s.course s.rows a p)));
  }
    where
      alone : (b : Bool) → (b || false) ≡ b
      alone true = refl
      alone false = refl

      once : AreRoutes (routes ++ s ∷ []) → (a : ℕ) (p : Place) → (has_asset_place more a p ≡ true) ⊎ (has_asset_place more a p ≡ false) → times_had a p (parts ++ more) ≤ 1
      once are a p (inl h) =
          let here : holds_by_spans s.course s.rows a p ≡ true = sym (one.shows a p) ∙ h in
          let none : has_asset_place parts a p ≡ false = false_from_ne_true (has_asset_place parts a p) (λ k.
          let there = any_found (λ t. holds_by_spans t.course t.rows a p) routes (sym (before.shows a p) ∙ k) in
          no_place_on_both there.0 s a p (across_of apart routes (s ∷ []) are.apart there.0 s there.1 (inl refl)) there.2 here) in
          let e = count_append (has_for a p) parts more in
          let f = none_counted (has_for a p) parts none in
          let g = one.once (last_once are) a p in
          omega (arith, e, f, g)
      once are a p (inr h) =
          let e = count_append (has_for a p) parts more in
          let f = none_counted (has_for a p) more h in
          let g = before.once (front are) a p in
          omega (arith, e, f, g)

-- ---- the parts of the first routes

abbrev pub of_entry : RouteRow → RouteSpans
of_entry e = record { course = e.route.course; rows = e.spans }

pub record AreMade (routes : List RouteRow) (parts : List Part) : Type 0 where
  pub filled : AllByRecursion IsFilled parts
  pub held : AreOfRoutes (route_spans routes) parts

none_made : AreMade [] []
none_made = record { filled = tt; held = record { once = λ are a p. omega arith; shows = λ a p. refl } }

pub made_none : (parts : List Part) → parts ≡ [] → AreMade [] parts
made_none parts none = subst (AreMade []) (sym none) none_made

pub made_more : (routes : List RouteRow) (i : ℕ) (e : RouteRow) (parts more all : List Part) → i < length routes → e ≡ get_or routes i e → AreMade (take i routes) parts → AllByRecursion IsFilled more
    → AreOfRoute e.route.course e.spans more → all ≡ parts ++ more → AreMade (take (i + 1) routes) all
made_more routes i e parts more all lt here before full one is = record {
  filled = subst (AllByRecursion IsFilled) (sym is) (all-append IsFilled parts more before.filled full);
  held = subst (AreOfRoutes (route_spans (take (i + 1) routes))) (sym is) (subst (λ rs. AreOfRoutes rs (parts ++ more)) (sym along) (one_more (route_spans (take i routes)) (of_entry e) parts more before.held one));
}
  where
    along : route_spans (take (i + 1) routes) ≡ route_spans (take i routes) ++ of_entry e ∷ []
    along = ap route_spans (take_more routes i e lt) ∙ map-append of_entry (take i routes) (get_or routes i e ∷ []) ∙ ap (λ r. route_spans (take i routes) ++ of_entry r ∷ []) (sym here)

-- ---- all of them, where the tables before have passed

filled_at : (x : Part) (xs : List Part) → AllByRecursion IsFilled xs → In x xs → IsFilled x
filled_at x [] f m = absurd m
filled_at x (y ∷ ys) f (inl e) = subst (λ z. z.from < z.to) (sym e) f.0
filled_at x (y ∷ ys) f (inr m) = filled_at x ys f.1 m

module _ (links : List Link) (assets : List Asset) (routes : List RouteRow) (courses : are_courses links (route_courses routes) ≡ true) (spans : list_all (fits_route assets) routes ≡ true) where
  abbrev ordered : Bool
  ordered = each_two course_before (route_courses routes)

  abbrev each : Bool
  each = list_all (is_course links) (route_courses routes)

  abbrev meeting : Bool
  meeting = each_two (λ c d. not (meets c.entries d.entries)) (route_courses routes)

  abbrev few : Bool
  few = nat_le (length (route_courses routes)) most_routes

  three : (ordered && each && meeting) ≡ true
  three = (and_parts (ordered && each && meeting) few courses).0

  each_good : each ≡ true
  each_good = (and_parts ordered each (and_parts (ordered && each) meeting three).0).1

  on_links : list_all (is_on_links links) routes ≡ true
  on_links = off_is links routes routes each_good

  own : (rs : List RouteRow) → list_all (is_course links) (route_courses rs) ≡ true → list_all (λ s. each_two differs s.course) (route_spans rs) ≡ true
  own [] h = refl
  own (e ∷ rest) h =
      let both = and_parts (is_course links (record { route = e.route.name; entries = e.route.course })) (list_all (is_course links) (route_courses rest)) h in
      and_from (each_two differs e.route.course) (list_all (λ s. each_two differs s.course) (route_spans rest)) (and_parts _ (each_two differs e.route.course) both.0).1 (own rest both.1)

  rows_good : (rs : List RouteRow) → list_all (fits_route assets) rs ≡ true → list_all (λ s. are_rows s.rows) (route_spans rs) ≡ true
  rows_good [] h = refl
  rows_good (e ∷ rest) h =
      let both = and_parts (fits_route assets e) (list_all (fits_route assets) rest) h in
      and_from (are_rows e.spans) (list_all (λ s. are_rows s.rows) (route_spans rest)) (and_parts (are_rows e.spans) (list_all (is_span assets (length e.route.course)) e.spans) both.0).0 (rows_good rest both.1)

  are_routes : AreRoutes (route_spans routes)
  are_routes = record {
    once = own routes each_good;
    apart = each_two-map apart of_entry routes ∙ sym (each_two-map (λ c d. not (meets c.entries d.entries)) (λ e. record { route = e.route.name; entries = e.route.course }) routes) ∙ (and_parts (ordered && each) meeting three).1;
    rows = rows_good routes spans;
  }

  module _ (parts : List Part) (full : AllByRecursion IsFilled parts) (are : AreOfRoutes (route_spans routes) parts) where
    inside : (x : Part) → In x parts → is_part links assets x ≡ true
    inside x m =
        let lt : x.from < x.to = filled_at x parts full m in
        let p : Place = record { link = x.link; mm = x.to - 1; side = x.side } in
        let has : has_asset_place parts x.asset p ≡ true = any_of (λ y. nat_eq y.asset x.asset && has_place y p) x parts m (has_it x x.asset p refl refl refl (omega (arith, lt)) (omega (arith, lt))) in
        let on = any_found (λ s. holds_by_spans s.course s.rows x.asset p) (route_spans routes) (sym (are.shows x.asset p) ∙ has) in
        let entry = map_found of_entry on.0 routes on.1 in
        let e = entry.0 in
        let holds : holds_by_spans e.route.course e.spans x.asset p ≡ true = subst (λ s. holds_by_spans s.course s.rows x.asset p ≡ true) entry.2 on.2 in
        let is = held e.route.course e.spans x.asset p holds in
        let rows = (and_parts (are_rows e.spans) (list_all (is_span assets (length e.route.course)) e.spans) (all_at (fits_route assets) e routes spans entry.1)).1 in
        let asset = held_asset assets (length e.route.course) e.route.course e.spans x.asset p rows is in
        let link = any_found (λ l. nat_eq l.number is.ground.link && nat_lt is.ground.mm l.length) links (all_at (is_on_a_link links) is.ground e.route.course (all_at (is_on_links links) e routes on_links entry.1) is.on_course) in
        let both = and_parts (nat_eq link.0.number is.ground.link) (nat_lt is.ground.mm link.0.length) link.2 in
        let reach = ltb-true is.ground.mm link.0.length both.1 in
        let mm : is.ground.mm ≡ x.to - 1 = is.at in
        and_from (nat_lt x.from x.to && list_any (λ l. nat_eq l.number x.link && nat_le x.to l.length) links) (list_any (λ a. nat_eq a.number x.asset) assets)
        (and_from (nat_lt x.from x.to) (list_any (λ l. nat_eq l.number x.link && nat_le x.to l.length) links) (lt-ltb x.from x.to lt)
        (any_of (λ l. nat_eq l.number x.link && nat_le x.to l.length) link.0 links link.1
        (and_from (nat_eq link.0.number x.link) (nat_le x.to link.0.length) (eq-eqb link.0.number x.link (eqb-true link.0.number is.ground.link both.0 ∙ is.on_link)) (le-leb x.to link.0.length (omega (arith, reach, mm, lt))))))
        (any_of (λ a. nat_eq a.number x.asset) asset.0 assets asset.1 (eq-eqb asset.0.number x.asset asset.2))

    pub are_held : AreHeld links assets (route_spans routes) parts
    are_held = record {
      inside = all_of (is_part links assets) parts inside;
      once = are.once are_routes;
      shows = λ a p. sym (are.shows a p);
    }
