-- An asset has rows only on routes that run over ground where it was entered.
use Rattle.std.proofs.Common.{◌≡◌, ℕ, zero, suc, ◌<◌, ◌≤◌, Bool, true, false, cond, ◌⊎◌, inl, inr, List, [], ◌∷◌, map, length, Some, refl, sym, ap, subst, ◌∙◌, arith}
use Rattle.std.specs.Prelude.{◌&&◌, ◌||◌, not, nat_eq, nat_lt, nat_le, filter}
use Rattle.std.specs.List.{list_any, list_all, Any}
use Rattle.std.proofs.lemmas.Bool.{both_ways, and_parts, and_from, or_cases, not-true, ltb-true, lt-ltb, leb-true, le-leb, eq-eqb, cases_Bool}
use Rattle.lrs_measure.specs.Texts.{same_name}
use Rattle.lrs_element.specs.declared.link.Ground.{Ground}
use Rattle.lrs_element.specs.Course.{runs_over}
use Rattle.lrs_events.specs.declared.class.Asset.{Asset}
use Rattle.lrs_events.specs.declared.part.Part.{Part}
use Rattle.lrs_events.specs.declared.side.Side.{Side}
use Rattle.lrs_events.specs.declared.side.Side.TheVariants.{L, R, B}
use Rattle.lrs_events.specs.declared.side.LinkSide.{LinkSide}
use Rattle.lrs_events.specs.declared.side.LinkSide.TheVariants.{Left, Right}
use Rattle.lrs_events.specs.declared.span.Span.{Span}
use Rattle.lrs_events.specs.Members.{has_side, between, stands_for}
use Rattle.lrs_events.specs.Parts.{has_pair}
use Rattle.lrs_events.specs.Places.{Place, beside}
use Rattle.lrs_events.specs.Spans.{is_row, span_before, are_apart, are_rows}
use Rattle.lrs_measure.specs.Lists.{In, each_two}
use Rattle.lrs_measure.proofs.Members.{any_found, any_of, all_at}
use Rattle.lrs_measure.proofs.Places.{place_in}
use Rattle.lrs_events.specs.Row.Members.{is_of}
use Rattle.lrs_events.specs.Row.CourseMembers.{is_held}
use Rattle.lrs_position.specs.Index.MetRoutes.{RunsBetween}
use Rattle.lrs_position.proofs.Index.Routes.{over_entry}
use Rattle.lrs_machine.specs.declared.image.Image.{Image}
use Rattle.lrs_machine.specs.declared.image.RouteRow.{RouteRow}
use Rattle.lrs_machine.specs.Image.{state_of}
use Rattle.lrs_machine.specs.Sound.{IsSound, is_span, is_origin}
use Rattle.lrs_machine.proofs.Pairs.{HasPlace, pair_had}
use Rattle.lrs_machine.proofs.SoundImages.{and_three, sound_is_lawful}
use Rattle.lrs_image.proofs.Tables.{passes}
use Rattle.lrs_image_laws.proofs.FromReferents.{ground_there, run_over, courses_apart}
use Rattle.lrs_image_laws.proofs.Holding.{held_at}
use Rattle.lrs_report_answers.specs.AssetStretches.{row_of_span, rows_on}
use Rattle.lrs_report_answers.proofs.OfState.{row_tests}
use Rattle.lrs_inventory.specs.Changes.{route_on}
use Rattle.lrs_report_answers.specs.Ground.{RunsOverPart}

-- ---- one of a list, by its place

any_kept : {X : Type 0} (P : X → Type 0) (p : X → Bool) (x : X) (xs : List X) → In x xs → p x ≡ true → P x → Any P (filter p xs)
any_kept P p x [] m h t = absurd m
any_kept {X} P p x (y ∷ ys) (inl e) h t = subst (λ b. Any P (cond b (y ∷ filter p ys) (filter p ys))) (sym (ap p (sym e) ∙ h)) (zero, y, omega arith, refl, subst P e t)
any_kept {X} P p x (y ∷ ys) (inr m) h t = by (p y) (any_kept P p x ys m h t)
  where
    by : (b : Bool) → Any P (filter p ys) → Any P (cond b (y ∷ filter p ys) (filter p ys))
    by true a = (suc a.0, a.1, let l = a.2 in omega (arith, l), a.3, a.4)
    by false a = a

-- ---- the route that runs over its own millimetre

own_route : (i : Image) (r : RouteRow) (link mm : ℕ) → IsSound i → In r i.routes → runs_over r.route.course (link, mm) ≡ true → route_on i.routes (link, mm) ≡ Some r.route.name
own_route i r link mm sound m runs =
    let at = place_in r i.routes m in
    let is = at.2 r in
    over_entry (λ (e : RouteRow). e.route.name) (λ e. e.route.course) (link, mm) i.routes at.0 r (courses_apart i sound) at.1 (ap (λ (e : RouteRow). runs_over e.route.course (link, mm)) is ∙ runs)
    ∙ ap (λ (e : RouteRow). Some e.route.name) is

-- a side has the left or the right
some_side : (side : Side) → (s : LinkSide) × (has_side side s ≡ true)
some_side L = (Left, refl)
some_side R = (Right, refl)
some_side B = (Left, refl)

module _ (i : Image) (sound : IsSound i) (a : Asset) (known : In a i.assets) where
  abbrev by_entry : Part → Bool
  by_entry part = nat_eq part.edit a.entered_by

  -- what was entered for the asset was entered by its entry
  entry_is : (part : Part) → In part i.entered → part.asset ≡ a.number → by_entry part ≡ true
  entry_is part m e = by (or_cases (not (nat_eq part.asset a.number)) (by_entry part) (all_at (λ p. not (nat_eq p.asset a.number) || by_entry p) part i.entered origin m))
    where
      origin : list_all (λ p. not (nat_eq p.asset a.number) || by_entry p) i.entered ≡ true
      origin = (and_parts (list_any (λ p. nat_eq p.asset a.number) i.entered) (list_all (λ p. not (nat_eq p.asset a.number) || by_entry p) i.entered) (all_at (is_origin i.entered) a i.assets (passes i sound).origins known)).1

      by : (not (nat_eq part.asset a.number) ≡ true) ⊎ (by_entry part ≡ true) → by_entry part ≡ true
      by (inl other) = absurd (both_ways (nat_eq part.asset a.number) (not-true (nat_eq part.asset a.number) other) (eq-eqb part.asset a.number e))
      by (inr own) = own

  -- a place that the asset holds is one of a part that its entry entered
  entered_place : (p : Place) → (state_of i).holds a.number p ≡ true → (part : Part) × In part i.entered × HasPlace part a.number p
  unfolding state_of
  entered_place p h =
      let entered = (sound_is_lawful i sound).balanced.held_entered a.number p h in
      let found = any_found (λ part. has_pair part entered.0 a.number p) i.entered entered.1 in
      (found.0, found.1, (pair_had found.0 entered.0 a.number p found.2).1)

  module _ (r : RouteRow) (m : In r i.routes) where
    -- a row has a millimetre of the route's course
    row_on_course : (q : Span) → In q r.spans → (q.from < q.to) × (q.to ≤ length r.route.course)
    row_on_course q n =
        let tests = and_parts (are_rows r.spans) (list_all (is_span i.assets (length r.route.course)) r.spans) (row_tests i r sound m) in
        let rows = and_three (list_all is_row r.spans) (each_two span_before r.spans) (each_two are_apart r.spans) tests.0 in
        let row = and_parts _ _ (all_at is_row q r.spans rows.0 n) in
        let span = and_parts _ _ (all_at (is_span i.assets (length r.route.course)) q r.spans tests.1 n) in
        (ltb-true _ _ row.0, leb-true _ _ span.0)

    -- where a place beside the course is one of a part, the route runs over the part
    met_there : (part : Part) (g : Ground) (s : LinkSide) → HasPlace part a.number (beside g s) → runs_over r.route.course (g.link, g.mm) ≡ true → RunsBetween (route_on i.routes) part.link part.from part.to r.route.name
    met_there part g s has runs = record {
      mm = g.mm;
      low = has.low;
      high = has.high;
      runs = ap (λ link. route_on i.routes (link, g.mm)) has.on_link ∙ own_route i r g.link g.mm sound m runs;
    }

    -- A route on which the asset has a row runs over a part that its entry entered.
    pub runs_over_part : (q : Span) → In q r.spans → is_of a.class a.number q ≡ true → RunsOverPart (route_on i.routes) (filter by_entry i.entered) r.route.name
    runs_over_part q n of =
        let bounds = row_on_course q n in
        let filled = bounds.0 in
        let ends = bounds.1 in
        let g = ground_there r.route.course q.from (omega (arith, filled, ends)) in
        let s = some_side q.side in
        let own = (and_parts (same_name q.class a.class) (nat_eq q.asset a.number) of).1 in
        let within : between q.from q.to q.side q.from s.0 ≡ true = and_from (nat_le q.from q.from && nat_lt q.from q.to) (has_side q.side s.0) (and_from (nat_le q.from q.from) (nat_lt q.from q.to) (le-leb q.from q.from (omega arith)) (lt-ltb q.from q.to filled)) s.1 in
        let held : is_held r.spans a.number q.from s.0 ≡ true = any_of (λ q'. stands_for q' a.number q.from s.0) q r.spans n (and_from (nat_eq q.asset a.number) (between q.from q.to q.side q.from s.0) own within) in
        let part = entered_place (beside g.0 s.0) (held_at i r sound m q.from g.0 s.0 g.1 a.number ∙ held) in
        any_kept (λ part. RunsBetween (route_on i.routes) part.link part.from part.to r.route.name) by_entry part.0 i.entered part.1 (entry_is part.0 part.1 part.2.of_asset)
        (met_there part.0 g.0 s.0 part.2 (run_over r.route.course q.from g.0 g.1))

    -- On other routes it has no rows.
    pub no_rows_elsewhere : (RunsOverPart (route_on i.routes) (filter by_entry i.entered) r.route.name → ⊥) → rows_on a.class a.number r ≡ []
    no_rows_elsewhere not_met = ap (map (row_of_span r.route.name)) (none r.spans (λ q n. by q n (cases_Bool (is_of a.class a.number q))))
      where
        by : (q : Span) → In q r.spans → (is_of a.class a.number q ≡ true) ⊎ (is_of a.class a.number q ≡ false) → is_of a.class a.number q ≡ false
        by q n (inl t) = absurd (not_met (runs_over_part q n t))
        by q n (inr f) = f

        none : (rows : List Span) → ((q : Span) → In q rows → is_of a.class a.number q ≡ false) → filter (is_of a.class a.number) rows ≡ []
        none [] h = refl
        none (q ∷ qs) h = ap (λ b. cond b (q ∷ filter (is_of a.class a.number) qs) (filter (is_of a.class a.number) qs)) (h q (inl refl)) ∙ none qs (λ k n. h k (inr n))
