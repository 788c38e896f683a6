-- A route's rows change in place to what a removal leaves, and the ledger grows by what the removal hands back.
use Rattle.std.proofs.Common.{◌≡◌, ℕ, zero, suc, ◌+◌, ◌-◌, Bool, true, false, ◌⊎◌, inl, inr, List, [], ◌∷◌, ◌++◌, drop, length, Some, None, Ok, refl, sym, ap, subst, ◌∙◌}
use Rattle.std.specs.FinMap.{find}
use Rattle.std.proofs.Math.Bool.{and-true}
use Rattle.std.proofs.lemmas.Bool.{false≢true, both_ways, and_parts, and_from, or_cases, cases_Bool, eqb-true, eq-eqb}
use Rattle.std.proofs.lemmas.List.{append-nil}
use Rattle.std.proofs.lemmas.List.Folds.{list_all-map, list_any-append}
use Rattle.std.specs.Prelude.{◌||◌, ◌&&◌, not, nat_eq, slice_get, slice_range}
use Rattle.std.specs.List.{list_any, list_all}
use Rattle.std.specs.Cmp.Lexicographic.{bytes_decides}
use Rattle.lrs_measure.specs.Lists.{In}
use Rattle.lrs_measure.proofs.Members.{any_found, any_of, In-append_right, In-take, In-drop}
use Rattle.lrs_inventory.specs.Prelude.{each_two, insert_by, Name, name_cmp, same_name, Ground, meets, Asset, Gone, B, Span, Place, places_on, is_among, differs, holds_by_spans, Removal, IsRemoval, IsPlan, Command, Image, RouteRow, state_of, holds_on, route_entry, referents_on, attempt, route_before, are_spans_of, are_courses, IsSound, RouteCourse, without, with_difference, IsOrderly, AreGone}
use Rattle.lrs_element.specs.Course.{is_at}
use Rattle.lrs_events.specs.declared.side.Side.{Side}
use Rattle.lrs_events.specs.declared.side.LinkSide.{LinkSide}
use Rattle.lrs_events.specs.declared.side.LinkSide.TheVariants.{Left, Right}
use Rattle.lrs_events.specs.Changes.{changed_rows}
use Rattle.lrs_events.specs.Members.{between, stands_for, has_member, is_member}
use Rattle.lrs_events.specs.Parts.{has_pair}
use Rattle.lrs_events.specs.Places.{same_link_side, along_link, beside, lies_on}
use Rattle.lrs_events.specs.Row.CourseMembers.{is_held}
use Rattle.lrs_events.specs.Row.Removals.{Taken}
use Rattle.lrs_events.proofs.Row.Picked.{row_holds}
use Rattle.lrs_machine.specs.State.{Reason, same_reason}
use Rattle.lrs_machine.specs.Image.{reason_of}
use Rattle.lrs_machine.specs.Machine.{take_away}
use Rattle.lrs_machine.specs.Sound.{spans_of, are_all_marks, are_all_referents, RouteMarks, RouteReferents}
use Rattle.lrs_machine.proofs.Pairs.{held, each_two-map}
use Rattle.lrs_image.proofs.Tables.{routes_in_order}
use Rattle.lrs_image_laws.proofs.Ordering.{sound_is_orderly}
use Rattle.lrs_image_laws.specs.GoneRows.{AreInOrder}
use Rattle.lrs_image_laws.proofs.GoneInOrder.{gone_stays_in_order}
use Rattle.lrs_image_laws.proofs.Apart.{nat_eq-comm}
use Rattle.lrs_image_laws.proofs.Halved.{fewer_have_rows}
use Rattle.lrs_image_laws.proofs.InOrder.{is_false}
use Rattle.lrs_image_laws.proofs.Parted.{held_alike}
use Rattle.lrs_inventory.specs.RouteStretches.{IsRouteIn}
use Rattle.lrs_inventory.specs.Plans.{plan_of, IsPlanOf}
use Rattle.lrs_verbs.specs.Removals.{taking}
use Rattle.lrs_inventory.proofs.FirstHolder.{spans_entry, row_tests, asset_of}
use Rattle.lrs_image_laws.proofs.FromReferents.{apart_courses}
use Rattle.lrs_image_laws.proofs.Holding.{IsAlone, alone, picked_at, rows_held_at, held_among}
use Rattle.lrs_verbs.proofs.InPlace.{DifferAt, map_same, made_same, any_same, all_still, in_place}
use Rattle.lrs_inventory.proofs.Located.{route_in}
use Rattle.lrs_verbs.proofs.RowsInPlace.{routes_are, can, tells}
use Rattle.lrs_inventory.proofs.Going.{rows_there}

-- ---- places beside a course

-- the entry of a course beside which a place is
pub record IsBeside (c : List Ground) (p : Place) : Type 0 where
  pub at : ℕ
  pub ground : Ground
  pub side : LinkSide
  pub entry : slice_get c at ≡ Some ground
  pub is : p ≡ beside ground side

and_back : (f : Bool) (s : LinkSide) → s ≡ along_link f (along_link f s)
and_back true s = refl
and_back false Left = refl
and_back false Right = refl

-- a place on a course is beside one of its entries
pub beside_entry : (c : List Ground) (p : Place) → lies_on c p ≡ true → IsBeside c p
beside_entry [] p h = absurd (false≢true h)
beside_entry (g ∷ gs) p h = by (or_cases (is_at (p.link, p.mm) g) (lies_on gs p) h) (beside_entry gs p)
  where
    by : (is_at (p.link, p.mm) g ≡ true) ⊎ (lies_on gs p ≡ true) → (lies_on gs p ≡ true → IsBeside gs p) → IsBeside (g ∷ gs) p
    by (inl e) rest =
        let both = and_parts (nat_eq g.link p.link) (nat_eq g.mm p.mm) e in
        record {
          at = zero;
          ground = g;
          side = along_link g.forward p.side;
          entry = refl;
          is = λ i. record { link = sym (eqb-true g.link p.link both.0) i; mm = sym (eqb-true g.mm p.mm both.1) i; side = and_back g.forward p.side i };
        }
    by (inr e) rest = let k = rest e in record { at = suc k.at; ground = k.ground; side = k.side; entry = k.entry; is = k.is }

-- what rows hold on a course lies on it
pub held_lies : (c : List Ground) (rows : List Span) (a : ℕ) (p : Place) → holds_by_spans c rows a p ≡ true → lies_on c p ≡ true
held_lies c rows a p h =
    let k = held c rows a p h in
    any_of (is_at (p.link, p.mm)) k.ground c k.on_course (and_from (nat_eq k.ground.link p.link) (nat_eq k.ground.mm p.mm) (eq-eqb k.ground.link p.link k.on_link) (eq-eqb k.ground.mm p.mm k.at))

-- The places beside a stretch of a course are told by chainage and side.
pub among_at : (c : List Ground) (from to : ℕ) (side : Side) (j : ℕ) (g : Ground) (s : LinkSide) → each_two differs c ≡ true → slice_get c j ≡ Some g → is_among (places_on side (slice_range c from to)) (beside g s) ≡ between from to side j s
among_at c from to side j g s once h =
    let q : Span = record { asset = 0; class = []; from = from; to = to; side = side } in
    row_holds c q 0 (beside g s) ∙ picked_at (stands_for q 0) c j g s once h

-- a place lies on a course where it is beside it
pub on_both_sides : (c : List Ground) (p : Place) → is_among (places_on B c) p ≡ lies_on c p
on_both_sides [] p = refl
on_both_sides (g ∷ gs) p =
    one (nat_eq p.link g.link && nat_eq p.mm g.mm) (same_link_side p.side (along_link g.forward Left)) (same_link_side p.side (along_link g.forward Right)) (is_among (places_on B gs) p) (on_one g.forward p.side)
    ∙ (λ i. (nat_eq-comm p.link g.link i && nat_eq-comm p.mm g.mm i) || on_both_sides gs p i)
  where
    one : (o l r rest : Bool) → (l || r) ≡ true → ((o && l) || ((o && r) || rest)) ≡ (o || rest)
    one true true r rest h = refl
    one true false true rest h = refl
    one true false false rest h = absurd (false≢true h)
    one false l r rest h = refl

    on_one : (f : Bool) (t : LinkSide) → (same_link_side t (along_link f Left) || same_link_side t (along_link f Right)) ≡ true
    on_one true Left = refl
    on_one true Right = refl
    on_one false Left = refl
    on_one false Right = refl

-- what lies on a stretch of a course lies on the course
pub on_stretch : (c : List Ground) (from to : ℕ) (p : Place) → lies_on (slice_range c from to) p ≡ true → lies_on c p ≡ true
on_stretch c from to p h =
    let g = any_found (is_at (p.link, p.mm)) (slice_range c from to) h in
    any_of (is_at (p.link, p.mm)) g.0 c (In-drop g.0 from c (In-take g.0 (to - from) (drop from c) g.1)) g.2

-- ---- what is taken

-- What is taken on a course by class, asset, chainage and side is what is taken by asset and place.
pub record IsTakenSo (i : Image) (c : List Ground) (taken : Taken) (takes : ℕ → Place → Bool) : Type 0 where
  pub there : (x : Asset) → In x i.assets → (j : ℕ) (g : Ground) (s : LinkSide) → slice_get c j ≡ Some g → takes x.number (beside g s) ≡ taken x.class x.number j s
  pub only_there : (a : ℕ) (p : Place) → takes a p ≡ true → lies_on c p ≡ true

same_where : (b t u : Bool) → (b ≡ true → t ≡ u) → (b && t) ≡ (b && u)
same_where true t u h = h refl
same_where false t u h = refl

module _ (i : Image) (r : RouteRow) (taken : Taken) (takes : ℕ → Place → Bool) (removal : Removal) (s : IsSound i) (m : In r i.routes) (is : IsRemoval taken r.spans removal) (so : IsTakenSo i r.route.course taken takes) where
  abbrev c : List Ground
  c = r.route.course

  -- the route with what the removal leaves
  abbrev pub rest : RouteRow
  rest = record r { spans = changed_rows removal.change r.spans }

  it : IsAlone i r
  it = alone i r s m

  -- what is taken of the rows is told by their assets and places
  told : (class : Name) (a j : ℕ) (g : Ground) (t : LinkSide) → slice_get c j ≡ Some g → is_member r.spans class a j t ≡ true → taken class a j t ≡ takes a (beside g t)
  told class a j g t at h =
      let q = any_found (λ q. has_member q class a j t) r.spans h in
      let both = and_parts (same_name q.0.class class) (stands_for q.0 a j t) q.2 in
      let x = asset_of i r s m q.0 q.1 in
      let number : x.0.number ≡ a = x.2 ∙ eqb-true q.0.asset a (and_parts (nat_eq q.0.asset a) (between q.0.from q.0.to q.0.side j t) both.1).0 in
      let named : x.0.class ≡ class = x.3 ∙ (bytes_decides q.0.class class).0 both.0 in
      sym (λ k. taken (named k) (number k) j t) ∙ sym (so.there x.0 x.1 j g t at) ∙ ap (λ n. takes n (beside g t)) number

  rest_held : (a j : ℕ) (g : Ground) (t : LinkSide) → slice_get c j ≡ Some g → is_held rest.spans a j t ≡ (is_held r.spans a j t && not (takes a (beside g t)))
  rest_held a j g t at = held_alike a j j t rest.spans r.spans (not (takes a (beside g t)))
      (λ class. is.rest class a j t ∙ same_where (is_member r.spans class a j t) (not (taken class a j t)) (not (takes a (beside g t))) (λ h. ap not (told class a j g t at h)))

  left_held : (a j : ℕ) (g : Ground) (t : LinkSide) → slice_get c j ≡ Some g → is_held removal.left.items a j t ≡ (is_held r.spans a j t && takes a (beside g t))
  left_held a j g t at = held_alike a j j t removal.left.items r.spans (takes a (beside g t))
      (λ class. is.left class a j t ∙ same_where (is_member r.spans class a j t) (taken class a j t) (takes a (beside g t)) (told class a j g t at))

  -- off the course nothing is taken
  none_off : (a : ℕ) (p : Place) → lies_on c p ≡ false → takes a p ≡ false
  none_off a p off = is_false (takes a p) (λ t. both_ways (lies_on c p) off (so.only_there a p t))

  none_held : (rows : List Span) (a : ℕ) (p : Place) → lies_on c p ≡ false → holds_by_spans c rows a p ≡ false
  none_held rows a p off = is_false (holds_by_spans c rows a p) (λ t. both_ways (lies_on c p) off (held_lies c rows a p t))

  -- The removal hands back what is held and taken.
  pub handed_back : (a : ℕ) (p : Place) → (list_any (λ e. holds_on e a p) i.routes && takes a p) ≡ holds_by_spans c removal.left.items a p
  handed_back a p = by (cases_Bool (lies_on c p))
    where
      at_entry : (j : ℕ) (g : Ground) (t : LinkSide) → slice_get c j ≡ Some g → (list_any (λ e. holds_on e a (beside g t)) i.routes && takes a (beside g t)) ≡ holds_by_spans c removal.left.items a (beside g t)
      at_entry j g t at =
          ap (λ b. b && takes a (beside g t)) (held_among r i.routes it.apart m it.once j g t at a)
          ∙ sym (left_held a j g t at)
          ∙ sym (rows_held_at c removal.left.items j g t it.once at a)

      by : (lies_on c p ≡ true) ⊎ (lies_on c p ≡ false) → (list_any (λ e. holds_on e a p) i.routes && takes a p) ≡ holds_by_spans c removal.left.items a p
      by (inl on) =
          let b = beside_entry c p on in
          subst (λ (q : Place). (list_any (λ e. holds_on e a q) i.routes && takes a q) ≡ holds_by_spans c removal.left.items a q) (sym b.is) (at_entry b.at b.ground b.side b.entry)
      by (inr off) = ap (λ b. list_any (λ e. holds_on e a p) i.routes && b) (none_off a p off) ∙ and_false (list_any (λ e. holds_on e a p) i.routes) ∙ sym (none_held removal.left.items a p off)
        where
          and_false : (b : Bool) → (b && false) ≡ false
          and_false true = refl
          and_false false = refl

  -- What the removal leaves are rows of the route.
  pub rest_rows : are_spans_of i.assets (spans_entry rest) ≡ true
  rest_rows = fewer_have_rows i.assets c r.spans (row_tests i r s m) rest.spans is.kept
      (λ class a j t h. (and_parts (is_member r.spans class a j t) (not (taken class a j t)) (sym (is.rest class a j t) ∙ h)).0)

  -- ---- the routes after it

  module _ (routes : List RouteRow) (differ : DifferAt r rest i.routes routes) where
    there : In rest routes
    there = subst (In rest) (sym differ.after) (In-append_right rest differ.front (rest ∷ differ.rear) (inl refl))

    abbrev course : RouteRow → List Ground
    course e = e.route.course

    abbrev apart : List Ground → List Ground → Bool
    apart d e = not (meets d e)

    still_apart : each_two apart_courses routes ≡ true
    still_apart = sym (each_two-map apart course routes) ∙ ap (each_two apart) (map_same r rest i.routes routes differ course refl) ∙ each_two-map apart course i.routes ∙ it.apart

    -- What was held and is not taken is held.
    pub still_held : (a : ℕ) (p : Place) → list_any (λ e. holds_on e a p) routes ≡ (list_any (λ e. holds_on e a p) i.routes && not (takes a p))
    still_held a p = by (cases_Bool (lies_on c p))
      where
        at_entry : (j : ℕ) (g : Ground) (t : LinkSide) → slice_get c j ≡ Some g → list_any (λ e. holds_on e a (beside g t)) routes ≡ (list_any (λ e. holds_on e a (beside g t)) i.routes && not (takes a (beside g t)))
        at_entry j g t at =
            held_among rest routes still_apart there it.once j g t at a
            ∙ rest_held a j g t at
            ∙ ap (λ b. b && not (takes a (beside g t))) (sym (held_among r i.routes it.apart m it.once j g t at a))

        by : (lies_on c p ≡ true) ⊎ (lies_on c p ≡ false) → list_any (λ e. holds_on e a p) routes ≡ (list_any (λ e. holds_on e a p) i.routes && not (takes a p))
        by (inl on) =
            let b = beside_entry c p on in
            subst (λ (q : Place). list_any (λ e. holds_on e a q) routes ≡ (list_any (λ e. holds_on e a q) i.routes && not (takes a q))) (sym b.is) (at_entry b.at b.ground b.side b.entry)
        by (inr off) =
            any_same r rest i.routes routes differ (λ e. holds_on e a p) (none_held rest.spans a p off ∙ sym (none_held r.spans a p off))
            ∙ sym (ap (λ b. list_any (λ e. holds_on e a p) i.routes && not b) (none_off a p off) ∙ and-true (list_any (λ e. holds_on e a p) i.routes))

-- ---- the image

module _ (i : Image) (r : RouteRow) (why : Reason) (taken : Taken) (takes : ℕ → Place → Bool) (removal : Removal) (gone : List Gone) (s : IsSound i) (route : IsRouteIn i r)
    (is : IsRemoval taken r.spans removal) (so : IsTakenSo i r.route.course taken takes) (led : AreGone (length i.edits + 1) why (holds_by_spans r.route.course removal.left.items) gone) where
  abbrev n : ℕ
  n = length i.edits + 1

  abbrev name : Name
  name = r.route.name

  in_routes : In r i.routes
  in_routes = route_in i r route

  -- the route with what the removal leaves
  abbrev pub less : RouteRow
  less = record r { spans = changed_rows removal.change r.spans }

  abbrev new_routes : List RouteRow
  new_routes = insert_by route_before less (without name i.routes)

  abbrev pub new : Image
  new = record i { routes = new_routes; gone = i.gone ++ gone }

  pub differ : DifferAt r less i.routes new_routes
  differ = in_place name r less refl i.routes (routes_in_order i s) route

  -- ---- the state

  pairs : (m : ℕ) (because : Reason) (a : ℕ) (p : Place)
      → list_any (λ g. same_reason (reason_of g) because && has_pair g.part m a p) (i.gone ++ gone)
      ≡ (list_any (λ g. same_reason (reason_of g) because && has_pair g.part m a p) i.gone || (nat_eq m n && same_reason because why && list_any (λ e. holds_on e a p) i.routes && takes a p))
  pairs m because a p =
      let was = list_any (λ g. same_reason (reason_of g) because && has_pair g.part m a p) i.gone in
      list_any-append (λ g. same_reason (reason_of g) because && has_pair g.part m a p) i.gone gone
      ∙ ap (λ b. was || b)
      (led.pairs m because a p
      ∙ ap (λ b. (nat_eq m n && same_reason because why) && b) (sym (handed_back i r taken takes removal s in_routes is so a p))
      ∙ regroup (nat_eq m n && same_reason because why) (list_any (λ e. holds_on e a p) i.routes) (takes a p))
    where
      regroup : (a b c : Bool) → (a && (b && c)) ≡ ((a && b) && c)
      regroup true b c = refl
      regroup false b c = refl

  -- What is taken away leaves the state that the image without it stands for.
  pub state : take_away n why takes (state_of i) ≡ state_of new
  unfolding state_of
  state = λ j. record (state_of i) {
    routes = record { rows = sym (map_same r less i.routes new_routes differ route_entry refl) j };
    referents = λ name. find name_cmp name (sym (made_same r less i.routes new_routes differ referents_on refl) j);
    holds = λ a p. sym (still_held i r taken takes removal s in_routes is so new_routes differ a p) j;
    gone = λ m because a p. sym (pairs m because a p) j;
  }

  -- ---- the rows are in order

  o : IsOrderly i
  o = sound_is_orderly i s

  after : AreInOrder (i.gone ++ gone)
  after = gone_stays_in_order i why (holds_by_spans r.route.course removal.left.items) gone s led

  spans : list_all (are_spans_of i.assets) (spans_of new) ≡ true
  spans =
      list_all-map (are_spans_of i.assets) spans_entry new_routes
      ∙ all_still r less i.routes new_routes differ (λ f. are_spans_of i.assets (spans_entry f)) (rest_rows i r taken takes removal s in_routes is so)
      (sym (list_all-map (are_spans_of i.assets) spans_entry i.routes) ∙ o.spans)

  pub orderly : IsOrderly new
  orderly = record {
    links = o.links;
    classes = o.classes;
    assets = o.assets;
    courses = ap (are_courses i.links) (map_same r less i.routes new_routes differ (λ f. let c : RouteCourse = record { route = f.route.name; entries = f.route.course } in c) refl) ∙ o.courses;
    marks = ap are_all_marks (map_same r less i.routes new_routes differ (λ f. let c : RouteMarks = record { course = f.route.course; marks = f.route.marks } in c) refl) ∙ o.marks;
    referents = ap are_all_referents (map_same r less i.routes new_routes differ (λ f. let c : RouteReferents = record { length = length f.route.course; refs = f.route.refs } in c) refl) ∙ o.referents;
    spans = spans;
    entered_order = o.entered_order;
    entered_filled = o.entered_filled;
    entered_apart = o.entered_apart;
    entered_few = o.entered_few;
    gone_order = after.order;
    gone_filled = after.filled;
    gone_apart = after.apart;
    keys = o.keys;
    few_edits = o.few_edits;
  }

-- ---- the plan

module _ (command : Command) (i : Image) (r : RouteRow) (why : Reason) (taken : Taken) (takes : ℕ → Place → Bool) (removal : Removal) (gone : List Gone) (s : IsSound i) (route : IsRouteIn i r)
    (plan : IsPlan r.spans removal.change) (is : IsRemoval taken r.spans removal) (so : IsTakenSo i r.route.course taken takes)
    (led : AreGone (length i.edits + 1) why (holds_by_spans r.route.course removal.left.items) gone)
    (done : attempt (length i.edits + 1) command (state_of i) ≡ Ok (take_away (length i.edits + 1) why takes (state_of i))) where
  abbrev gone_rows : List Span
  gone_rows = removal.change.gone.items

  abbrev come_rows : List Span
  come_rows = removal.change.come.items

  abbrev rows_left : List Span
  rows_left = changed_rows removal.change r.spans

  is_new : with_difference (taking r.route.name removal.change gone) i ≡ new i r why taken takes removal gone s route is so led
  is_new = λ j. record i { routes = routes_are i (routes_in_order i s) r.route.name gone_rows come_rows r refl route rows_left refl j; entered = append-nil i.entered j; gone = i.gone ++ gone }

  pub takes_in_place : IsPlanOf command i (plan_of (taking r.route.name removal.change gone))
  takes_in_place = record {
    makes = record {
      state = done ∙ ap Ok (state i r why taken takes removal gone s route is so led ∙ ap state_of (sym is_new));
      edits = refl;
      orderly = λ room. subst IsOrderly (sym is_new) (orderly i r why taken takes removal gone s route is so led);
    };
    differ = can i (routes_in_order i s) r.route.name gone_rows come_rows r refl route rows_left refl None [] gone plan.kept plan.in_order (rows_there r.spans gone_rows plan.change.were);
    tells = tells i (routes_in_order i s) r.route.name gone_rows come_rows r refl route rows_left refl None [] gone;
  }
