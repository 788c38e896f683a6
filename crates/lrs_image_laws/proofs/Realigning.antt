-- A realignment.
use Rattle.std.proofs.Common.{◌≡◌, ℕ, zero, suc, ◌+◌, ◌-◌, ◌<◌, ◌≤◌, Bool, true, false, cond, ◌⊎◌, inl, inr, List, [], ◌∷◌, ◌++◌, map, take, drop, length, Option, Some, None, Ok, refl, sym, ap, subst, ◌∙◌, arith, length-append}
use Rattle.std.proofs.Math.Bool.{or-false}
use Rattle.std.specs.Prelude.{◌&&◌, not, nat_lt, nat_le, nat_eq, slice_get, unwrap_or}
use Rattle.std.specs.Option.{option_map}
use Rattle.std.specs.List.{list_any, list_all, flat_map, filter_map}
use Rattle.std.specs.Cmp.Lexicographic.{bytes_decides}
use Rattle.std.proofs.lemmas.Bool.{both_ways, and_parts, and_from, leb-true, or_left, cases_Bool, cases_lt, lt-ltb, le-ltb, le-leb, lt-leb, eq-eqb}
use Rattle.std.proofs.lemmas.List.{append-nil}
use Rattle.std.proofs.lemmas.List.Folds.{list_all-append, list_any-append}
use Rattle.lrs_measure.specs.Lists.{In, each_two}
use Rattle.lrs_measure.specs.Texts.{Name, name_cmp, same_name}
use Rattle.lrs_element.specs.declared.link.Piece.{Piece}
use Rattle.lrs_element.specs.declared.link.Ground.{Ground}
use Rattle.lrs_element.specs.declared.marks.Mark.{Mark}
use Rattle.lrs_element.specs.Course.{Millimetre, course_of, is_at, runs_over, meets}
use Rattle.lrs_position.proofs.Index.Pieces.{across, behind}
use Rattle.lrs_position.specs.declared.route.Referent.{Referent}
use Rattle.lrs_position.specs.Locations.{Alignment}
use Rattle.lrs_events.specs.declared.class.Asset.{Asset}
use Rattle.lrs_events.specs.declared.part.Gone.{Gone}
use Rattle.lrs_events.specs.declared.side.LinkSide.{LinkSide}
use Rattle.lrs_events.specs.declared.span.Span.{Span}
use Rattle.lrs_events.specs.Members.{is_member}
use Rattle.lrs_events.specs.Places.{Place, differs, lies_on}
use Rattle.lrs_events.specs.Spans.{are_rows, holds_by_spans}
use Rattle.lrs_events.proofs.Row.Rows.{rows_from}
use Rattle.lrs_events.proofs.Row.Unique.{some_side}
use Rattle.lrs_events.specs.RouteSpans.Realignment.{IsRealigned}
use Rattle.lrs_events.proofs.RouteSpans.Said.{its_end, said_by}
use Rattle.lrs_machine.specs.declared.command.Command.TheVariants as verb
use Rattle.lrs_machine.specs.declared.image.RouteRow.{RouteRow}
use Rattle.lrs_machine.specs.declared.image.Image.{Image}
use Rattle.lrs_measure.specs.Limits.{most_routes}
use Rattle.lrs_measure.proofs.Members.{any_found, any_of, all_at, all_of, In-take, In-drop, In-append_right, In-append_cases, In-flat_map, flat_map_found}
use Rattle.lrs_measure.proofs.EachTwo.{two_front, two_rear, joined, across_of}
use Rattle.lrs_machine.specs.Register.{put}
use Rattle.lrs_machine.specs.State.{State, Abandoned}
use Rattle.lrs_machine.specs.Image.{state_of, holds_on, referents_on, referent_entry, route_entry}
use Rattle.lrs_machine.specs.Machine.{attempt, abandon, set_route, do_realign}
use Rattle.lrs_machine.specs.Sound.{is_on_a_link, is_span, are_spans_of, IsSound}
use Rattle.lrs_image_laws.specs.CommandChanges.{Makes}
use Rattle.lrs_image.proofs.Tables.{routes_in_order}
use Rattle.lrs_image_laws.specs.Rewrites.{routes_named, routes_left, rewritten, has_referent, runs_at, IsLeft, AreFit}
use Rattle.lrs_image_laws.proofs.Apart.{at_same}
use Rattle.lrs_image_laws.proofs.InOrder.{is_false}
use Rattle.lrs_image_laws.proofs.Joining.{get_first, get_last}
use Rattle.lrs_image_laws.proofs.Listed.{length-parted}
use Rattle.lrs_image_laws.proofs.Naming.{same_either, only_one, put_rewrites}
use Rattle.lrs_image_laws.proofs.Renaming.{own_names}
use Rattle.lrs_image_laws.proofs.Rewriting.{are_unlike, its_course, old_few}
use Rattle.lrs_image_laws.proofs.Splitting.{get_front, get_rear}
use Rattle.lrs_image_laws.proofs.Standing.{option_found, found_option}
use Rattle.lrs_image_laws.specs.Closures.{with_left, LeaveGround}
use Rattle.lrs_image_laws.specs.Realignments.{replaced, is_off, moved, IsTaken, IsRealignment, RealignMakes, RealignedHasRows}
use Rattle.lrs_image_laws.proofs.Leaving.{leaving_makes_state, leaving_is_orderly}
use Rattle.lrs_image_laws.proofs.Replaced.{front, part, rear, three_parts, front_length, replaced_length, stretch_holds, realigned_holds}

-- a referent off the stretch stands before or behind it
pub off_from : (from to : ℕ) (q : Referent) → is_off from to q ≡ true → (q.at < from) ⊎ (to ≤ q.at)
off_from from to q h = by (cases_lt q.at from) (cases_lt q.at to)
  where
    by : (q.at < from) ⊎ (from ≤ q.at) → (q.at < to) ⊎ (to ≤ q.at) → (q.at < from) ⊎ (to ≤ q.at)
    by (inl a) b = inl a
    by (inr a) (inr b) = inr b
    by (inr a) (inl b) = absurd (both_ways (is_off from to q) (λ j. not (le-leb from q.at a j && lt-ltb q.at to b j)) h)

pub off_is : (from to : ℕ) (q : Referent) → (q.at < from) ⊎ (to ≤ q.at) → is_off from to q ≡ true
off_is from to q (inl a) = λ j. not (lt-leb from q.at a j && nat_lt q.at to)
off_is from to q (inr a) = (λ j. not (nat_le from q.at && le-ltb q.at to a j)) ∙ neither (nat_le from q.at)
  where
    neither : (b : Bool) → not (b && false) ≡ true
    neither true = refl
    neither false = refl

-- an entry of a list is in it
get_in : {X : Type 0} (k : ℕ) (x : X) (xs : List X) → slice_get xs k ≡ Some x → In x xs
get_in k x [] h = absurd (cc h)
get_in zero x (y ∷ ys) h = let e : y ≡ x = cc h in inl (sym e)
get_in (suc k) x (y ∷ ys) h = inr (get_in k x ys h)

module _ (i : Image) (r w : RouteRow) (from to : ℕ) (come : List Piece) (marks : List Mark) (gone : List Gone) (s : IsSound i) (is : IsRealignment i r w from to come marks) (led : IsTaken i r from to gone) where
  abbrev dropped : List Name
  dropped = r.route.name ∷ []

  abbrev written : List RouteRow
  written = w ∷ []

  abbrev n : ℕ
  n = length i.edits + 1

  abbrev c : List Ground
  c = r.route.course

  abbrev ground : List Ground
  ground = course_of come

  abbrev len : ℕ
  len = length ground

  abbrev before : List Ground
  before = front c from to is.low is.high

  abbrev stretch : List Ground
  stretch = part c from to is.low is.high

  abbrev after : List Ground
  after = rear c from to is.low is.high

  abbrev now : List Ground
  now = replaced from to ground c

  ours : routes_named dropped i.routes ≡ r ∷ []
  ours = only_one r i.routes (routes_in_order i s) is.route

  the_course : (list_all (is_on_a_link i.links) c ≡ true) × (each_two differs c ≡ true)
  the_course = its_course i s r is.route

  parted_once : each_two differs (before ++ (stretch ++ after)) ≡ true
  parted_once = ap (each_two differs) (three_parts c from to is.low is.high) ∙ the_course.1

  only : (P : RouteRow → Type 0) → P w → (v : RouteRow) → In v written → P v
  only P a v (inl e) = subst P (sym e) a
  only P a v (inr e) = absurd e

  -- ---- it fits

  left : (told : RouteRow → Bool) → told r ≡ true → IsLeft told dropped i.routes
  left told h = inl (ap (list_any told) ours ∙ or_left (told r) false h)

  runs_there : (g : Ground) (d : List Ground) → In g d → runs_over d (g.link, g.mm) ≡ true
  runs_there g d m = any_of (is_at (g.link, g.mm)) g d m (and_from (nat_eq g.link g.link) (nat_eq g.mm g.mm) (eq-eqb g.link g.link refl) (eq-eqb g.mm g.mm refl))

  new_far : (e : RouteRow) (g : Ground) → In e i.routes → In g ground → runs_at g e ≡ true → ⊥
  new_far e g m k h = both_ways (meets ground e.route.course) (is.free e m) (any_of (λ (g : Ground). runs_over e.route.course (g.link, g.mm)) g ground k h)

  new_differs : (g h : Ground) → In g ground → In h c → is_at (g.link, g.mm) h ≡ false
  new_differs g h m k = is_false (is_at (g.link, g.mm) h) (λ e. new_far r g is.route m (any_of (is_at (g.link, g.mm)) h c k e))

  fresh_ground : (g : Ground) → In g ground → list_any (runs_at g) i.routes ≡ false
  fresh_ground g m = is_false (list_any (runs_at g) i.routes) (λ h. let e = any_found (runs_at g) i.routes h in new_far e.0 g e.1 m e.2)

  ground_left : (g : Ground) → In g now → IsLeft (runs_at g) dropped i.routes
  ground_left g m = by (In-append_cases g (before ++ ground) after m)
    where
      old : In g c → IsLeft (runs_at g) dropped i.routes
      old k = left (runs_at g) (runs_there g c k)

      first : In g before ⊎ In g ground → IsLeft (runs_at g) dropped i.routes
      first (inl k) = old (In-take g from c k)
      first (inr k) = inr (fresh_ground g k)

      by : In g (before ++ ground) ⊎ In g after → IsLeft (runs_at g) dropped i.routes
      by (inl k) = first (In-append_cases g before ground k)
      by (inr k) = old (In-drop g to c k)

  pub once_now : each_two differs now ≡ true
  once_now =
      joined differs (before ++ ground) after
      (joined differs before ground (two_front differs before (stretch ++ after) parted_once) is.once (λ g h m k. ap not (at_same g h ∙ new_differs h g k (In-take g from c m))))
      (two_rear differs stretch after (two_rear differs before (stretch ++ after) parted_once))
      (λ g h m k. last g h (In-append_cases g before ground m) k)
    where
      last : (g h : Ground) → In g before ⊎ In g ground → In h after → differs g h ≡ true
      last g h (inl m) k = across_of differs before (stretch ++ after) parted_once g h m (In-append_right h stretch after k)
      last g h (inr m) k = ap not (new_differs g h m (In-drop h to c k))

  old_linked : (d : List Ground) → ((g : Ground) → In g d → In g c) → list_all (is_on_a_link i.links) d ≡ true
  old_linked d w = all_of (is_on_a_link i.links) d (λ g m. all_at (is_on_a_link i.links) g c the_course.0 (w g m))

  linked_now : list_all (is_on_a_link i.links) now ≡ true
  linked_now =
      list_all-append (is_on_a_link i.links) (before ++ ground) after
      ∙ and_from (list_all (is_on_a_link i.links) (before ++ ground)) (list_all (is_on_a_link i.links) after)
      (list_all-append (is_on_a_link i.links) before ground ∙ and_from (list_all (is_on_a_link i.links) before) (list_all (is_on_a_link i.links) ground) (old_linked before (λ g m. In-take g from c m)) is.linked)
      (old_linked after (λ g m. In-drop g to c m))

  pub fit : AreFit i dropped written
  fit = record {
    fresh = λ v e m k h. only (λ v. same_name v.route.name e.route.name ≡ true → list_any (same_name e.route.name) dropped ≡ true)
        (λ h. or_left (same_name e.route.name r.route.name) false (same_either e.route.name r.route.name ∙ ((λ j. same_name (sym is.name j) e.route.name) ∙ h))) v m h;
    names = refl;
    linked = only (λ v. list_all (is_on_a_link i.links) v.route.course ≡ true) (ap (list_all (is_on_a_link i.links)) is.course ∙ linked_now);
    once = only (λ v. each_two differs v.route.course ≡ true) (ap (each_two differs) is.course ∙ once_now);
    apart = refl;
    ground = λ v g m k. only (λ v. In g v.route.course → IsLeft (runs_at g) dropped i.routes) (λ k. ground_left g (subst (In g) is.course k)) v m k;
    referents = λ v q m k. only (λ v. In q v.route.refs → IsLeft (has_referent q.name) dropped i.routes)
        (λ k. let x = is.refs_of q k in
        left (has_referent q.name) (any_of (λ (r : Referent). same_name r.name q.name) x.0 r.route.refs x.1 ((bytes_decides x.0.name q.name).1 (sym (ap (λ (w : Referent). w.name) x.3))))) v m k;
    referents_once = ap (each_two are_unlike) (append-nil w.route.refs) ∙ own_names w;
    spans = only (λ v. are_spans_of i.assets (record { course = v.route.course; rows = v.spans }) ≡ true) is.spans;
  }

  -- ---- what is held

  holder : (a : ℕ) (p : Place) → list_any (λ e. holds_on e a p) (routes_named dropped i.routes) ≡ holds_on r a p
  holder a p = ap (list_any (λ e. holds_on e a p)) ours ∙ or-false (holds_on r a p)

  -- ---- referents

  abbrev stands : Referent → Option Ground → Option (Name × Millimetre)
  stands q o = option_map (λ m. (q.name, m)) (option_map (λ (g : Ground). (g.link, g.mm)) o)

  abbrev move : Referent → Referent
  move = moved from to len

  place_now : (q : Referent) → is_off from to q ≡ true → slice_get now (move q).at ≡ slice_get c q.at
  place_now q h = by (off_from from to q h) (cases_lt q.at from)
    where
      chosen : (b : Bool) → nat_lt q.at from ≡ b → slice_get now (move q).at ≡ slice_get now (cond b q.at ((from + len) + (q.at - to)))
      chosen b e = ap (λ t. slice_get now (cond t q.at ((from + len) + (q.at - to)))) e

      whole : length (before ++ ground) ≡ from + len
      whole = let a = length-append before ground in let b = front_length c from to is.low is.high in omega (arith, a, b)

      by : (q.at < from) ⊎ (to ≤ q.at) → (q.at < from) ⊎ (from ≤ q.at) → slice_get now (move q).at ≡ slice_get c q.at
      by k (inl l) =
          let f = front_length c from to is.low is.high in
          let t = whole in
          chosen true (lt-ltb q.at from l)
          ∙ get_first q.at (before ++ ground) after (omega (arith, l, t))
          ∙ get_first q.at before ground (omega (arith, l, f))
          ∙ get_front from q.at c l
      by (inl k) (inr l) = absurd (omega (arith, k, l))
      by (inr k) (inr l) =
          chosen false (le-ltb q.at from l)
          ∙ ap (λ k. slice_get now (k + (q.at - to))) (sym whole)
          ∙ get_last (q.at - to) (before ++ ground) after
          ∙ get_rear to (q.at - to) c
          ∙ ap (slice_get c) (omega (arith, k))

  entry_now : (q : Referent) → is_off from to q ≡ true → referent_entry now (move q) ≡ referent_entry c q
  entry_now q h = ap (stands q) (place_now q h)

  on_w : referents_on w ≡ filter_map (referent_entry now) w.route.refs
  on_w = λ j. filter_map (referent_entry (is.course j)) w.route.refs

  -- the ground under a referent
  pub under : (x : Referent) (q : Name × Millimetre) → referent_entry c x ≡ Some q → (g : Ground) × (slice_get c x.at ≡ Some g) × (q ≡ (x.name, (g.link, g.mm)))
  under x q h = by (slice_get c x.at) refl
    where
      none : (o : Option (Name × Millimetre)) → o ≡ None → o ≡ Some q → ⊥
      none o a b = cc

      some_is : (a b : Name × Millimetre) → Some a ≡ Some b → a ≡ b
      some_is a b h = cc

      by : (o : Option Ground) → slice_get c x.at ≡ o → (g : Ground) × (slice_get c x.at ≡ Some g) × (q ≡ (x.name, (g.link, g.mm)))
      by None e = absurd (none (referent_entry c x) (ap (stands x) e) h)
      by (Some g) e = (g, e, some_is q (x.name, (g.link, g.mm)) (sym h ∙ ap (stands x) e))

  in_stretch : (x : Referent) (g : Ground) → from ≤ x.at → x.at < to → slice_get c x.at ≡ Some g → In g stretch
  in_stretch x g low high h =
      get_in (x.at - from) g stretch
      (get_front (to - from) (x.at - from) (drop from c) (omega (arith, low, high)) ∙ get_rear from (x.at - from) c ∙ ap (slice_get c) (omega (arith, low)) ∙ h)

  -- the ground of a referent off the stretch is none of it
  pub is_clear : (x : Referent) (g : Ground) → is_off from to x ≡ true → slice_get c x.at ≡ Some g → runs_over stretch (g.link, g.mm) ≡ false
  is_clear x g h at = is_false (runs_over stretch (g.link, g.mm)) (λ on. by on (off_from from to x h))
    where
      by : runs_over stretch (g.link, g.mm) ≡ true → (x.at < from) ⊎ (to ≤ x.at) → ⊥
      by on (inl l) =
          across (g.link, g.mm) before (stretch ++ after) parted_once (runs_there g before (get_in x.at g before (get_front from x.at c l ∙ at)))
          (list_any-append (is_at (g.link, g.mm)) stretch after ∙ or_left (runs_over stretch (g.link, g.mm)) (runs_over after (g.link, g.mm)) on)
      by on (inr l) =
          across (g.link, g.mm) stretch after (behind before (stretch ++ after) parted_once) on
          (runs_there g after (get_in (x.at - to) g after (get_rear to (x.at - to) c ∙ ap (slice_get c) (omega (arith, l)) ∙ at)))

  -- ... and that of one on it is
  pub is_on : (x : Referent) (g : Ground) → is_off from to x ≡ false → slice_get c x.at ≡ Some g → runs_over stretch (g.link, g.mm) ≡ true
  is_on x g h at = by (cases_lt x.at from) (cases_lt x.at to)
    where
      by : (x.at < from) ⊎ (from ≤ x.at) → (x.at < to) ⊎ (to ≤ x.at) → runs_over stretch (g.link, g.mm) ≡ true
      by (inl a) b = absurd (both_ways (is_off from to x) h (off_is from to x (inl a)))
      by (inr a) (inr b) = absurd (both_ways (is_off from to x) h (off_is from to x (inr b)))
      by (inr a) (inl b) = runs_there g stretch (in_stretch x g a b at)

  theirs : List RouteRow
  theirs = routes_named dropped i.routes

  to_old : (q : Name × Millimetre) → In q (flat_map referents_on written) → In q (flat_map referents_on (routes_named dropped i.routes)) × (runs_over stretch q.1 ≡ false)
  to_old q m = let v = flat_map_found referents_on q written m in only (λ v. In q (referents_on v) → In q (flat_map referents_on (routes_named dropped i.routes)) × (runs_over stretch q.1 ≡ false)) of v.0 v.1 v.2
    where
      of : In q (referents_on w) → In q (flat_map referents_on (routes_named dropped i.routes)) × (runs_over stretch q.1 ≡ false)
      of k =
          let y = option_found (referent_entry now) q w.route.refs (subst (In q) on_w k) in
          let x = is.refs_of y.0 y.1 in
          let stood = sym (entry_now x.0 x.2) ∙ ap (referent_entry now) (sym x.3) ∙ y.2 in
          let g = under x.0 q stood in (
            subst (λ l. In q (flat_map referents_on l)) (sym ours) (In-flat_map referents_on r q (r ∷ []) (inl refl) (found_option (referent_entry c) x.0 q r.route.refs x.1 stood)),
            ap (λ (e : Name × Millimetre). runs_over stretch e.1) g.2 ∙ is_clear x.0 g.0 x.2 g.1,
          )

  back : (q : Name × Millimetre) → In q (flat_map referents_on (routes_named dropped i.routes)) → runs_over stretch q.1 ≡ false → In q (flat_map referents_on written)
  back q m f =
      let v = flat_map_found referents_on q (r ∷ []) (subst (λ l. In q (flat_map referents_on l)) ours m) in
      let x = option_found (referent_entry c) q r.route.refs (its v.0 v.1 v.2) in
      by x.0 x.1 x.2 (under x.0 q x.2) (cases_Bool (is_off from to x.0))
    where
      its : (v : RouteRow) → In v (r ∷ []) → In q (referents_on v) → In q (referents_on r)
      its v (inl h) k = subst (λ v. In q (referents_on v)) h k
      its v (inr h) k = absurd h

      by : (x : Referent) → In x r.route.refs → referent_entry c x ≡ Some q → (g : Ground) × (slice_get c x.at ≡ Some g) × (q ≡ (x.name, (g.link, g.mm))) → (is_off from to x ≡ true) ⊎ (is_off from to x ≡ false)
          → In q (flat_map referents_on written)
      by x k h g (inr off) = absurd (both_ways (runs_over stretch q.1) f (ap (λ (e : Name × Millimetre). runs_over stretch e.1) g.2 ∙ is_on x g.0 off g.1))
      by x k h g (inl off) =
          In-flat_map referents_on w q written (inl refl) (subst (In q) (sym on_w)
          (found_option (referent_entry now) (move x) q w.route.refs (is.refs_are x k off) (entry_now x off ∙ h)))

  leave : LeaveGround stretch (holds_by_spans c led.rows) dropped written i.routes
  leave = record {
    holds = λ a p.
        or-false (holds_on w a p)
        ∙ ap (λ d. holds_by_spans d w.spans a p) is.course
        ∙ realigned_holds c from to is.low is.high the_course.1 p r.spans a ground w.spans is.realigned
        ∙ ap (λ b. b && not (lies_on stretch p)) (sym (holder a p));
    to = to_old;
    back = back;
    theirs = λ x on.
        let g = any_found (is_at x) stretch on in
        ap (list_any (λ (e : RouteRow). runs_over e.route.course x)) ours
        ∙ or_left (runs_over c x) false (any_of (is_at x) g.0 c (In-drop g.0 from c (In-take g.0 (to - from) (drop from c) g.1)) g.2);
    goes = λ a p. stretch_holds c from to is.low is.high the_course.1 p r.spans a led.rows led.taken ∙ ap (λ b. b && lies_on stretch p) (sym (holder a p));
  }

  -- ---- the register, and all of it

  routes_are : put name_cmp r.route.name (let x : Alignment = record { course = now; marks = marks } in x) (map route_entry i.routes) ≡ map route_entry (rewritten dropped written i.routes)
  routes_are =
      sym (λ j. put name_cmp (is.name j) (record { course = is.course j; marks = is.marks_are j }) (map route_entry i.routes))
      ∙ put_rewrites w i.routes (routes_in_order i s)
      ∙ ap (λ m. map route_entry (rewritten (m ∷ []) written i.routes)) is.name

  abbrev result : State
  result = set_route r.route.name now marks (abandon n stretch (state_of i))

  state_rows : result ≡ record (abandon n stretch (state_of i)) { routes = record { rows = map route_entry (rewritten dropped written i.routes) } }
  unfolding state_of
  state_rows = λ j. record (abandon n stretch (state_of i)) { routes = record { rows = routes_are j } }

  few : 1 + length (routes_left dropped i.routes) ≤ most_routes
  few =
      let a = length-parted (λ (e : RouteRow). list_any (same_name e.route.name) dropped) i.routes in
      let b : length (routes_named dropped i.routes) ≡ 1 = ap length ours in
      let d = old_few i s in
      omega (arith, a, b, d)

  attempts : (pieces : Option (List Piece)) → unwrap_or pieces [] ≡ come → attempt n (verb.Realign r.route.name from to pieces marks) (state_of i) ≡ Ok result
  unfolding attempt
  attempts pieces e = ap (λ l. do_realign n r.route.name (record { from = from; to = to }) l marks (state_of i)) e ∙ is.done

  pub same_state : state_of (with_left dropped written gone i) ≡ record (abandon n stretch (state_of i)) { routes = record { rows = map route_entry (rewritten dropped written i.routes) } }
  same_state = leaving_makes_state i dropped written gone stretch (holds_by_spans c led.rows) s fit led.gone_are leave

  pub makes : (pieces : Option (List Piece)) → unwrap_or pieces [] ≡ come → Makes (verb.Realign r.route.name from to pieces marks) i (with_left dropped written gone i)
  makes pieces e = record {
    state = attempts pieces e ∙ ap Ok (state_rows ∙ sym same_state);
    edits = refl;
    orderly = λ room. leaving_is_orderly i dropped written Abandoned (holds_by_spans c led.rows) gone s fit led.gone_are few;
  }

pub realign_makes : RealignMakes
realign_makes i r w from to pieces marks gone s is led = makes i r w from to (unwrap_or pieces []) marks gone s is led pieces refl

-- ---- rows on a realigned route

module _ (assets : List Asset) (course ground : List Ground) (from to : ℕ) (rows new : List Span) (low : from ≤ to) (high : to ≤ length course) (canonical : are_rows new ≡ true) (is : IsRealigned from to (length ground) rows new)
    (spans : are_spans_of assets (record { course = course; rows = rows }) ≡ true) where
  abbrev size : ℕ
  size = length (replaced from to ground course)

  size_is : size ≡ (from + length ground) + (length course - to)
  size_is = replaced_length course from to low high ground

  all_spans : list_all (is_span assets (length course)) rows ≡ true
  all_spans = (and_parts (are_rows rows) (list_all (is_span assets (length course)) rows) spans).1

  -- a row of the class and asset of one of the old rows
  is_theirs : (q : Span) (j : ℕ) (s : LinkSide) → is_member rows q.class q.asset j s ≡ true → (j < length course → q.to ≤ size) → is_span assets size q ≡ true
  is_theirs q j s h ends =
      let r = said_by rows q.class q.asset j s h in
      let both = and_parts (nat_le r.0.to (length course)) (list_any (λ a. nat_eq a.number r.0.asset && same_name a.class r.0.class) assets) (all_at (is_span assets (length course)) r.0 rows all_spans r.1) in
      let short = leb-true r.0.to (length course) both.0 in
      let over = r.2.high in
      and_from (nat_le q.to size) (list_any (λ a. nat_eq a.number q.asset && same_name a.class q.class) assets) (le-leb q.to size (ends (omega (arith, over, short))))
      ((λ k. list_any (λ a. nat_eq a.number (sym r.2.of_asset k) && same_name a.class (sym r.2.of_class k)) assets) ∙ both.1)

  each : (q : Span) → In q new → is_span assets size q ≡ true
  each q m = by (cases_lt (q.to - 1) from) (cases_lt (q.to - 1) (from + length ground))
    where
      some : q.from < q.to
      some = ((rows_from new canonical).full q m).some

      side : LinkSide
      side = some_side q.side

      says : is_member new q.class q.asset (q.to - 1) side ≡ true
      says = its_end q new m some

      by : (q.to - 1 < from) ⊎ (from ≤ q.to - 1) → (q.to - 1 < from + length ground) ⊎ (from + length ground ≤ q.to - 1) → is_span assets size q ≡ true
      by (inl a) b = let e = size_is in is_theirs q (q.to - 1) side (sym (is.before q.class q.asset (q.to - 1) side a) ∙ says) (λ l. omega (arith, a, e, some))
      by (inr a) (inl b) =
          let at : (q.to - 1 - from) + from ≡ q.to - 1 = omega (arith, a) in
          absurd (both_ways (is_member new q.class q.asset (q.to - 1) side) (ap (λ j. is_member new q.class q.asset j side) (sym at) ∙ is.inside q.class q.asset (q.to - 1 - from) side (omega (arith, a, b))) says)
      by (inr a) (inr b) =
          let at : (q.to - 1 - (from + length ground)) + (from + length ground) ≡ q.to - 1 = omega (arith, b) in
          let e = size_is in
          is_theirs q ((q.to - 1 - (from + length ground)) + to) side
          (sym (is.behind q.class q.asset (q.to - 1 - (from + length ground)) side) ∙ ap (λ j. is_member new q.class q.asset j side) at ∙ says) (λ l. omega (arith, l, b, e, some))

  pub on_it : are_spans_of assets (record { course = replaced from to ground course; rows = new }) ≡ true
  on_it = and_from (are_rows new) (list_all (is_span assets size) new) canonical (all_of (is_span assets size) new each)

pub realigned_has_rows : RealignedHasRows
realigned_has_rows assets course ground from to rows new low high canonical is spans = on_it assets course ground from to rows new low high canonical is spans
