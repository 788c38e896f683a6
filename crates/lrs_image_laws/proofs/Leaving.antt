-- The image whose routes leave a part of their ground: its state and its order.
use Rattle.std.proofs.Common.{◌≡◌, ℕ, ◌+◌, Bool, true, false, cond, ◌⊎◌, inl, inr, List, [], ◌∷◌, ◌++◌, map, filter, length, Option, Some, None, refl, sym, ap, ◌∙◌}
use Rattle.std.specs.Prelude.{◌||◌, ◌&&◌, not, nat_eq, slice_get}
use Rattle.std.specs.Option.{option_map}
use Rattle.std.specs.List.{list_any, list_all, flat_map}
use Rattle.std.specs.Ordering.{eq_by_cmp}
use Rattle.std.specs.FinMap.{find}
use Rattle.std.specs.Cmp.Lexicographic.{bytes_decides, texts_ties}
use Rattle.std.proofs.lemmas.Bool.{false≢true, not-true, and_parts, and_from, cases_Bool, eq-eqb}
use Rattle.std.proofs.lemmas.List.Folds.{list_any-append, list_any_at}
use Rattle.std.proofs.lemmas.Option.{slice_get_within, get_or_from_slice_get}
use Rattle.lrs_measure.specs.Lists.{In, each_two}
use Rattle.lrs_measure.specs.Texts.{Name, name_cmp, same_name}
use Rattle.lrs_measure.proofs.Members.{any_found, any_of, all_at, In-flat_map, flat_map_found, In-filter, filter-In}
use Rattle.lrs_measure.proofs.Filters.{each_two-filter}
use Rattle.lrs_measure.proofs.Insertions.{In-insert_all, insert_all-In}
use Rattle.lrs_element.specs.declared.link.Ground.{Ground}
use Rattle.lrs_element.specs.Course.{Millimetre, is_at, runs_over}
use Rattle.lrs_position.specs.declared.route.Referent.{Referent}
use Rattle.lrs_events.specs.declared.part.Gone.{Gone}
use Rattle.lrs_events.specs.Places.{Place, lies_on}
use Rattle.lrs_events.specs.Parts.{has_pair}
use Rattle.lrs_events.proofs.Row.Changing.{any_insert_all}
use Rattle.lrs_machine.specs.declared.image.RouteRow.{RouteRow}
use Rattle.lrs_machine.specs.declared.image.Image.{Image}
use Rattle.lrs_machine.specs.Image.{state_of, holds_on, referents_on, referent_entry, route_entry, reason_of}
use Rattle.lrs_machine.specs.Machine.{abandon, elsewhere}
use Rattle.lrs_machine.specs.Sound.{route_before, IsSound}
use Rattle.lrs_machine.specs.State.{Reason, Abandoned, same_reason}
use Rattle.lrs_machine.proofs.Pairs.{held}
use Rattle.lrs_image_laws.specs.GoneRows.{AreGone}
use Rattle.lrs_image_laws.proofs.GoneInOrder.{gone_stays_in_order}
use Rattle.lrs_image_laws.specs.Rewrites.{routes_named, routes_left, rewritten, AreFit}
use Rattle.lrs_image_laws.proofs.Listed.{any-parted}
use Rattle.lrs_image_laws.proofs.Rewriting.{old_unlike, new_unlike, stays_far, orderly}
use Rattle.lrs_image_laws.proofs.Standing.{option_found, named_once, found_alike}
use Rattle.lrs_image_laws.specs.Closures.{with_left, is_held_on, LeaveGround, LeavingMakesState, LeavingIsOrderly}

-- ---- what is held on a route, or stands there, is on its course

pub held_lies : (e : RouteRow) (a : ℕ) (p : Place) → holds_on e a p ≡ true → lies_on e.route.course p ≡ true
held_lies e a p h =
    let k = held e.route.course e.spans a p h in
    any_of (is_at (p.link, p.mm)) k.ground e.route.course k.on_course (and_from (nat_eq k.ground.link p.link) (nat_eq k.ground.mm p.mm) (eq-eqb k.ground.link p.link k.on_link) (eq-eqb k.ground.mm p.mm k.at))

-- what a referent of this name is in a ground entry, if there is one
abbrev entry : Name → Option Ground → Option (Name × Millimetre)
entry name o = option_map (λ m. (name, m)) (option_map (λ (g : Ground). (g.link, g.mm)) o)

pub stands_on : (e : RouteRow) (q : Name × Millimetre) → In q (referents_on e) → runs_over e.route.course q.1 ≡ true
stands_on e q m = let x = option_found (referent_entry e.route.course) q e.route.refs m in by x.0 (slice_get e.route.course x.0.at) refl x.2
  where
    some_is : (a b : Name × Millimetre) → Some a ≡ Some b → a ≡ b
    some_is a b h = cc

    by : (x : Referent) (o : Option Ground) → slice_get e.route.course x.at ≡ o → referent_entry e.route.course x ≡ Some q → runs_over e.route.course q.1 ≡ true
    by x None h k = absurd (none (entry x.name (slice_get e.route.course x.at)) (ap (entry x.name) h) k)
      where
        none : (o : Option (Name × Millimetre)) → o ≡ None → o ≡ Some q → ⊥
        none o a b = cc
    by x (Some g) h k =
        let its : ◌≡◌ {A = Name × Millimetre} (x.name, (g.link, g.mm)) q = some_is (x.name, (g.link, g.mm)) q (sym (ap (entry x.name) h) ∙ k) in
        ap (λ (w : Name × Millimetre). runs_over e.route.course w.1) (sym its)
        ∙ list_any_at (is_at (g.link, g.mm)) e.route.course x.at g (slice_get_within e.route.course x.at g h)
        (ap (is_at (g.link, g.mm)) (get_or_from_slice_get e.route.course x.at g g h) ∙ and_from (nat_eq g.link g.link) (nat_eq g.mm g.mm) (eq-eqb g.link g.link refl) (eq-eqb g.mm g.mm refl))

-- ---- rows found among those off the ground

abbrev are_other : Name × Millimetre → Name × Millimetre → Bool
are_other a b = not (same_name a.0 b.0)

abbrev is_off : List Ground → Name × Millimetre → Bool
is_off part q = not (runs_over part q.1)

none_named : (name : Name) (rows : List (Name × Millimetre)) → ((q : Name × Millimetre) → In q rows → same_name name q.0 ≡ false) → find name_cmp name rows ≡ None
none_named name [] w = refl
none_named name (r ∷ rs) w = ap (λ b. cond b (Some r.1) (find name_cmp name rs)) (sym (texts_ties name r.0) ∙ w r (inl refl)) ∙ none_named name rs (λ q m. w q (inr m))

found_off : (part : List Ground) (name : Name) (rows : List (Name × Millimetre)) → each_two are_other rows ≡ true → find name_cmp name (filter (is_off part) rows) ≡ elsewhere part (find name_cmp name rows)
found_off part name [] once = refl
found_off part name (r ∷ rs) once = by (eq_by_cmp name_cmp name r.0) (runs_over part r.1) refl refl (found_off part name rs both.1)
  where
    both : (list_all (are_other r) rs ≡ true) × (each_two are_other rs ≡ true)
    both = and_parts (list_all (are_other r) rs) (each_two are_other rs) once

    no_other : eq_by_cmp name_cmp name r.0 ≡ true → find name_cmp name (filter (is_off part) rs) ≡ None
    no_other e = none_named name (filter (is_off part) rs) (λ q m.
        let k = In-filter (is_off part) q rs m in
        ap (λ n. same_name n q.0) ((bytes_decides name r.0).0 (texts_ties name r.0 ∙ e)) ∙ not-true (same_name r.0 q.0) (all_at (are_other r) q rs both.0 k.0))

    -- what is found of those off the ground, where it runs over the first or not
    first : (b : Bool) → runs_over part r.1 ≡ b → find name_cmp name (filter (is_off part) (r ∷ rs)) ≡ find name_cmp name (cond (not b) (r ∷ filter (is_off part) rs) (filter (is_off part) rs))
    first b f = ap (λ b. find name_cmp name (cond (not b) (r ∷ filter (is_off part) rs) (filter (is_off part) rs))) f

    last : (a : Bool) → eq_by_cmp name_cmp name r.0 ≡ a → elsewhere part (find name_cmp name (r ∷ rs)) ≡ elsewhere part (cond a (Some r.1) (find name_cmp name rs))
    last a e = ap (λ b. elsewhere part (cond b (Some r.1) (find name_cmp name rs))) e

    by : (a b : Bool) → eq_by_cmp name_cmp name r.0 ≡ a → runs_over part r.1 ≡ b → find name_cmp name (filter (is_off part) rs) ≡ elsewhere part (find name_cmp name rs)
        → find name_cmp name (filter (is_off part) (r ∷ rs)) ≡ elsewhere part (find name_cmp name (r ∷ rs))
    by true true e f rest = first true f ∙ no_other e ∙ sym (last true e ∙ ap (λ b. cond b None (Some r.1)) f)
    by true false e f rest = first false f ∙ ap (λ b. cond b (Some r.1) (find name_cmp name (filter (is_off part) rs))) e ∙ sym (last true e ∙ ap (λ b. cond b None (Some r.1)) f)
    by false true e f rest = first true f ∙ rest ∙ sym (last false e)
    by false false e f rest = first false f ∙ ap (λ b. cond b (Some r.1) (find name_cmp name (filter (is_off part) rs))) e ∙ rest ∙ sym (last false e)

-- ---- the state

module _ (i : Image) (dropped : List Name) (written : List RouteRow) (gone : List Gone) (part : List Ground) (taken : ℕ → Place → Bool) (s : IsSound i) (fit : AreFit i dropped written)
    (led : AreGone (length i.edits + 1) Abandoned taken gone) (leave : LeaveGround part taken dropped written i.routes) where
  abbrev n : ℕ
  n = length i.edits + 1

  abbrev goes : RouteRow → Bool
  goes e = list_any (same_name e.route.name) dropped

  abbrev those : List RouteRow
  those = routes_named dropped i.routes

  abbrev kept : List RouteRow
  kept = routes_left dropped i.routes

  abbrev routes : List RouteRow
  routes = rewritten dropped written i.routes

  -- a route that stays does not run over the part
  not_there : (e : RouteRow) (m : Millimetre) → In e kept → runs_over e.route.course m ≡ true → runs_over part m ≡ true → ⊥
  not_there e m k h on = stays_far i dropped written s fit e (record { link = m.0; mm = m.1; forward = true }) k h (inl (leave.theirs m on))

  kept_off : (a : ℕ) (p : Place) → (is_held_on kept a p && lies_on part p) ≡ false
  kept_off a p = by (is_held_on kept a p) (lies_on part p) refl refl
    where
      by : (x y : Bool) → is_held_on kept a p ≡ x → lies_on part p ≡ y → (is_held_on kept a p && lies_on part p) ≡ false
      by true true e f = let k = any_found (λ e. holds_on e a p) kept e in absurd (not_there k.0 (p.link, p.mm) k.1 (held_lies k.0 a p k.2) f)
      by true false e f = λ j. e j && f j
      by false y e f = ap (λ b. b && lies_on part p) e

  -- what is held before: on a route that goes or on one that stays
  held_before : (a : ℕ) (p : Place) → is_held_on i.routes a p ≡ (is_held_on those a p || is_held_on kept a p)
  held_before a p = any-parted (λ e. holds_on e a p) goes i.routes

  held_now : (a : ℕ) (p : Place) → is_held_on routes a p ≡ (is_held_on i.routes a p && not (lies_on part p))
  held_now a p =
      any_insert_all (λ e. holds_on e a p) route_before written kept
      ∙ ap (λ b. is_held_on kept a p || b) (leave.holds a p)
      ∙ hold (is_held_on those a p) (is_held_on kept a p) (lies_on part p) (kept_off a p)
      ∙ ap (λ b. b && not (lies_on part p)) (sym (held_before a p))
    where
      hold : (d k l : Bool) → (k && l) ≡ false → (k || (d && not l)) ≡ ((d || k) && not l)
      hold true true true h = absurd (false≢true (sym h))
      hold true true false h = refl
      hold true false true h = refl
      hold true false false h = refl
      hold false true true h = absurd (false≢true (sym h))
      hold false true false h = refl
      hold false false l h = refl

  taken_is : (a : ℕ) (p : Place) → taken a p ≡ (is_held_on i.routes a p && lies_on part p)
  taken_is a p =
      leave.goes a p
      ∙ lose (is_held_on those a p) (is_held_on kept a p) (lies_on part p) (kept_off a p)
      ∙ ap (λ b. b && lies_on part p) (sym (held_before a p))
    where
      lose : (d k l : Bool) → (k && l) ≡ false → (d && l) ≡ ((d || k) && l)
      lose true k l h = refl
      lose false true true h = absurd (false≢true (sym h))
      lose false true false h = refl
      lose false false l h = refl

  abbrev tells : ℕ → Reason → ℕ → Place → Gone → Bool
  tells m why a p g = same_reason (reason_of g) why && has_pair g.part m a p

  gone_now : (m : ℕ) (why : Reason) (a : ℕ) (p : Place) → list_any (tells m why a p) (i.gone ++ gone)
      ≡ (list_any (tells m why a p) i.gone || (((nat_eq m n && same_reason why Abandoned) && is_held_on i.routes a p) && lies_on part p))
  gone_now m why a p =
      list_any-append (tells m why a p) i.gone gone
      ∙ ap (λ b. list_any (tells m why a p) i.gone || b)
      (led.pairs m why a p ∙ ap (λ b. (nat_eq m n && same_reason why Abandoned) && b) (taken_is a p) ∙ regroup (nat_eq m n && same_reason why Abandoned) (is_held_on i.routes a p) (lies_on part p))
    where
      regroup : (a b c : Bool) → (a && (b && c)) ≡ ((a && b) && c)
      regroup true b c = refl
      regroup false b c = refl

  -- ---- where referents stand

  abbrev olds : List (Name × Millimetre)
  olds = flat_map referents_on i.routes

  abbrev news : List (Name × Millimetre)
  news = flat_map referents_on routes

  old_once : each_two are_other olds ≡ true
  old_once = named_once i.routes (old_unlike i s)

  to : (q : Name × Millimetre) → In q news → In q (filter (is_off part) olds)
  to q m = let r = flat_map_found referents_on q routes m in by r.0 (In-insert_all route_before r.0 written kept r.1) r.2
    where
      clear : (r : RouteRow) → In r kept → In q (referents_on r) → (runs_over part q.1 ≡ true) ⊎ (runs_over part q.1 ≡ false) → runs_over part q.1 ≡ false
      clear r k h (inl on) = absurd (not_there r q.1 k (stands_on r q h) on)
      clear r k h (inr f) = f

      by : (r : RouteRow) → In r written ⊎ In r kept → In q (referents_on r) → In q (filter (is_off part) olds)
      by r (inl k) h =
          let both = leave.to q (In-flat_map referents_on r q written k h) in
          let d = flat_map_found referents_on q those both.0 in
          filter-In (is_off part) q olds (In-flat_map referents_on d.0 q i.routes (In-filter goes d.0 i.routes d.1).0 d.2) (ap not both.1)
      by r (inr k) h = filter-In (is_off part) q olds (In-flat_map referents_on r q i.routes (In-filter (λ e. not (goes e)) r i.routes k).0 h) (ap not (clear r k h (cases_Bool (runs_over part q.1))))

  back : (q : Name × Millimetre) → In q (filter (is_off part) olds) → In q news
  back q m =
      let k = In-filter (is_off part) q olds m in
      let r = flat_map_found referents_on q i.routes k.0 in
      by r.0 (not-true (runs_over part q.1) k.1) (cases_Bool (goes r.0)) r.1 r.2
    where
      new : (r : RouteRow) → In r written ⊎ In r kept → In q (referents_on r) → In q news
      new r k h = In-flat_map referents_on r q routes (insert_all-In route_before r written kept k) h

      by : (r : RouteRow) → runs_over part q.1 ≡ false → (goes r ≡ true) ⊎ (goes r ≡ false) → In r i.routes → In q (referents_on r) → In q news
      by r f (inl g) k h =
          let w = flat_map_found referents_on q written (leave.back q (In-flat_map referents_on r q those (filter-In goes r i.routes k g) h) f) in
          new w.0 (inl w.1) w.2
      by r f (inr g) k h = new r (inr (filter-In (λ e. not (goes e)) r i.routes k (ap not g))) h

  found : (name : Name) → find name_cmp name news ≡ elsewhere part (find name_cmp name olds)
  found name =
      found_alike news (filter (is_off part) olds) (named_once routes (new_unlike i dropped written s fit)) (each_two-filter are_other (is_off part) olds old_once) to back name
      ∙ found_off part name olds old_once

  pub leaves : state_of (with_left dropped written gone i) ≡ record (abandon n part (state_of i)) { routes = record { rows = map route_entry routes } }
  unfolding state_of
  leaves = λ j. record (state_of i) {
    routes = record { rows = map route_entry routes };
    referents = λ name. found name j;
    holds = λ a p. held_now a p j;
    gone = λ m why a p. gone_now m why a p j;
  }

pub leaving_makes_state : LeavingMakesState
leaving_makes_state i dropped written gone part taken s fit led leave = leaves i dropped written gone part taken s fit led leave

-- ---- the order

pub leaving_is_orderly : LeavingIsOrderly
leaving_is_orderly i dropped written why taken gone s fit led few =
    let o = orderly i dropped written s fit few in
    let g = gone_stays_in_order i why taken gone s led in
    record {
      links = o.links;
      classes = o.classes;
      assets = o.assets;
      courses = o.courses;
      marks = o.marks;
      referents = o.referents;
      spans = o.spans;
      entered_order = o.entered_order;
      entered_filled = o.entered_filled;
      entered_apart = o.entered_apart;
      entered_few = o.entered_few;
      gone_order = g.order;
      gone_filled = g.filled;
      gone_apart = g.apart;
      keys = o.keys;
      few_edits = o.few_edits;
    }
