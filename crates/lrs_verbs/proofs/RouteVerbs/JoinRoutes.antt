-- Two routes become one.
use Rattle.std.proofs.Common.{◌≡◌, ℕ, ◌+◌, ◌-◌, ◌≤◌, Bool, true, false, cond, ◌⊎◌, inl, inr, List, [], ◌∷◌, ◌++◌, map, drop, length, Option, Some, None, Result, Ok, Err, refl, sym, ap, subst, ◌∙◌, arith}
use Rattle.std.specs.List.{find, list_any, list_all, cons_option, AllByRecursion}
use Rattle.std.proofs.lemmas.Bool.{false≢true, both_ways, not-true, and_parts, or_left, or_right, or_parts, ltb-true, ltb-false, lt-ltb, leb-true, le-leb, eqb-true, ne_eqb, cases_eq}
use Rattle.std.proofs.lemmas.List.{length-append, length-map, length-drop}
use Rattle.std.specs.Prelude.{◌||◌, ◌&&◌, not, is_some, nat_lt, nat_le, nat_eq, unwrap_or}
use Rattle.std.specs.Option.{option_map, ok_or}
use Rattle.std.specs.Cmp.Lexicographic.{bytes_decides}
use Rattle.lrs_inventory.specs.Prelude.{each_two, Name, same_name, Ground, Piece, Mark, course_of, runs_over, is_too_long, longest_route, IsFilled, Referent, Alignment, is_route, referent_before, Asset, Span, are_rows, Cause, Image, RouteRow, state_of, route_entry, State, attempt, ◌>>◌, ◌>>=◌, set_route, asset_before, is_span, are_spans_of, route_before, IsSound, Makes, RouteChange, RouteKeys, keys_of, Difference, is_named, changed_refs, fits_after, route_after, entry_after, with_difference, CanDiffer, are_names_of, rerouting}
use Rattle.lrs_measure.specs.OrderedLists.{insert_all}
use Rattle.lrs_element.specs.Course.{piece_count}
use Rattle.lrs_measure.specs.Limits.{most_marks, most_pieces}
use Rattle.lrs_measure.specs.Lists.{In}
use Rattle.lrs_measure.proofs.Members.{any_found, all_at, all_of, two_at, In-map}
use Rattle.lrs_measure.proofs.Filters.{filter_all}
use Rattle.lrs_measure.proofs.Insertions.{In-insert_all, insert_all-In}
use Rattle.lrs_element.specs.Lines.{moved_on}
use Rattle.lrs_element.specs.Marks.{joined_marks, is_out_of_range, first_mark, last_mark}
use Rattle.lrs_events.specs.Row.Joins.{is_of_one_class}
use Rattle.lrs_machine.specs.declared.answer.Cause.TheVariants as cause
use Rattle.lrs_machine.specs.declared.command.Command.TheVariants as verb
use Rattle.lrs_machine.specs.Machine.{refuse_if, drop_route, do_join, do_join_of}
use Rattle.lrs_image_sound.proofs.Fitting.{fits}
use Rattle.lrs_image.proofs.Becoming.{HasBecome, becomes}
use Rattle.lrs_image.proofs.Tables.{assets_in_order, routes_in_order}
use Rattle.lrs_image_laws.specs.Differences.{changed_route, KeepsFromDropped}
use Rattle.lrs_image_laws.specs.Joins.{on_by, joined_refs, AreUnlike, IsJoined}
use Rattle.lrs_image_laws.specs.Rewrites.{rewritten, with_routes}
use Rattle.lrs_image_laws.proofs.Differences.{difference_rewrites, reroutes}
use Rattle.lrs_image_laws.proofs.Joined.{joins_are_routes, joins_have_rows}
use Rattle.lrs_image_laws.proofs.Joining.{join_makes, moves, same_state}
use Rattle.lrs_image_laws.proofs.Listed.{made_two}
use Rattle.lrs_image_laws.proofs.Naming.{same_either, found_in, order_stays}
use Rattle.lrs_image_laws.proofs.Rewriting.{are_unlike, refs_at, old_spans, old_unlike}
use Rattle.lrs_image_laws.proofs.Running.{runs_there}
use Rattle.lrs_inventory.specs.Changes.{route_on}
use Rattle.lrs_verbs.specs.RouteVerbs.Checks.{joining, join_plan}
use Rattle.lrs_verbs.specs.RouteVerbs.Joins.{joined_course, joined_line, CanGoOn, GoesOn}
use Rattle.lrs_inventory.specs.Plans.{IsPlanOf}
use Rattle.lrs_inventory.proofs.KeptName.{keeps_name}
use Rattle.lrs_inventory.proofs.Known.{route_value}

-- ---- what the checks say

-- a course is not too long where it is the course of two routes as one
pub course_is : (first second c : List Ground) → joined_course first second ≡ Ok c → (c ≡ first ++ second) × (is_too_long (first ++ second) ≡ false)
course_is first second c = by (is_too_long (first ++ second))
  where
    by : (long : Bool) → (refuse_if long cause.TooLong >> Ok (first ++ second)) ≡ Ok c → (c ≡ first ++ second) × (long ≡ false)
    by true h = absurd (cc h)
    by false h = (cc h, refl)

-- the marks of two routes as those of one
pub record IsJoinedLine (first second l : List Mark) : Type 0 where
  pub marks : l ≡ joined_marks first second
  pub few : nat_lt most_marks (length (joined_marks first second)) ≡ false
  pub small : is_out_of_range (joined_marks first second) ≡ false

pub line_is : (first second l : List Mark) → joined_line first second ≡ Ok l → IsJoinedLine first second l
line_is first second l h = let p = by (nat_lt most_marks (length (joined_marks first second))) (is_out_of_range (joined_marks first second)) h in record { marks = p.0; few = p.1; small = p.2 }
  where
    by : (many out : Bool) → (refuse_if many cause.TooLong >> (refuse_if out cause.MeasureRange >> Ok (joined_marks first second))) ≡ Ok l → (l ≡ joined_marks first second) × (many ≡ false) × (out ≡ false)
    by true out h = absurd (cc h)
    by false true h = absurd (cc h)
    by false false h = (cc h, refl, refl)

-- how many marks two routes as one have
pub length_joined : (xs ys : List Mark) → length (joined_marks xs ys) ≡ length xs + (length ys - 1)
length_joined xs ys =
    let f : Mark → Mark = moved_on (last_mark xs) (first_mark ys) in
    length-append xs (map f (drop 1 ys)) ∙ ap (λ k. length xs + k) (length-map (drop 1 ys) f ∙ length-drop 1 ys)

-- ---- what the verb does

module _ (first second : Name) (i : Image) where
  abbrev s : State
  s = state_of i

  abbrev then_first : Alignment → Result State Cause
  then_first a = ok_or (option_map (λ e. (route_entry e).1) (find (is_named second) i.routes)) cause.NoRoute >>= (λ b. do_join_of first second a b s)

  join_is : (o : Option RouteRow) → find (is_named first) i.routes ≡ o → do_join first second s ≡ (ok_or (option_map (λ e. (route_entry e).1) o) cause.NoRoute >>= then_first)
  join_is o is = (λ j. ok_or (route_value i first j) cause.NoRoute >>= (λ a. ok_or (route_value i second j) cause.NoRoute >>= (λ b. do_join_of first second a b s)))
      ∙ ap (λ g. ok_or (option_map (λ (e : RouteRow). (route_entry e).1) g) cause.NoRoute >>= then_first) is

  -- what the verb does of an image is what an edit does
  module _ (n : ℕ) where
    tries : attempt n (verb.Join first second) s ≡ do_join first second s
    unfolding attempt
    tries = refl

  pub refuses_first : (n : ℕ) → find (is_named first) i.routes ≡ None → attempt n (verb.Join first second) s ≡ Err cause.NoRoute
  refuses_first n none = tries n ∙ join_is None none

  module _ (a : RouteRow) (found : find (is_named first) i.routes ≡ Some a) where
    abbrev then_second : Alignment → Result State Cause
    then_second b = do_join_of first second (route_entry a).1 b s

    second_is : (o : Option RouteRow) → find (is_named second) i.routes ≡ o → do_join first second s ≡ (ok_or (option_map (λ e. (route_entry e).1) o) cause.NoRoute >>= then_second)
    second_is o is = join_is (Some a) found ∙ ap (λ g. ok_or (option_map (λ (e : RouteRow). (route_entry e).1) g) cause.NoRoute >>= then_second) is

    pub refuses_second : (n : ℕ) → find (is_named second) i.routes ≡ None → attempt n (verb.Join first second) s ≡ Err cause.NoRoute
    refuses_second n none = tries n ∙ second_is None none

    module _ (b : RouteRow) (also : find (is_named second) i.routes ≡ Some b) where
      abbrev course : List Ground
      course = a.route.course ++ b.route.course

      abbrev line : List Mark
      line = joined_marks a.route.marks b.route.marks

      abbrev outcome : State
      outcome = set_route first course line (drop_route second s)

      -- the checks one after another
      abbrev checked : Bool → Bool → Bool → Bool → Result State Cause
      checked same long many out = refuse_if same cause.SameRoute >> (refuse_if (long || many) cause.TooLong >> (refuse_if out cause.MeasureRange >> Ok outcome))

      checks : do_join first second s ≡ checked (same_name first second) (is_too_long course) (nat_lt most_marks (length line)) (is_out_of_range line)
      checks = second_is (Some b) also

      pub refuses_same : (n : ℕ) → same_name first second ≡ true → attempt n (verb.Join first second) s ≡ Err cause.SameRoute
      refuses_same n same = tries n ∙ checks ∙ ap (λ x. checked x (is_too_long course) (nat_lt most_marks (length line)) (is_out_of_range line)) same

      module _ (apart : same_name first second ≡ false) where
        others : do_join first second s ≡ checked false (is_too_long course) (nat_lt most_marks (length line)) (is_out_of_range line)
        others = checks ∙ ap (λ x. checked x (is_too_long course) (nat_lt most_marks (length line)) (is_out_of_range line)) apart

        pub refuses_course : (n : ℕ) (d : Cause) → joined_course a.route.course b.route.course ≡ Err d → attempt n (verb.Join first second) s ≡ Err d
        refuses_course n d h = tries n ∙ others ∙ by (is_too_long course) (nat_lt most_marks (length line)) (is_out_of_range line) h
          where
            by : (long many out : Bool) → (refuse_if long cause.TooLong >> Ok course) ≡ Err d → checked false long many out ≡ Err d
            by true many out h = let same : cause.TooLong ≡ d = cc h in ap Err same
            by false many out h = absurd (cc h)

        module _ (short : is_too_long course ≡ false) where
          pub refuses_marks : (n : ℕ) (d : Cause) → joined_line a.route.marks b.route.marks ≡ Err d → attempt n (verb.Join first second) s ≡ Err d
          refuses_marks n d h = tries n ∙ others ∙ ap (λ x. checked false x (nat_lt most_marks (length line)) (is_out_of_range line)) short ∙ by (nat_lt most_marks (length line)) (is_out_of_range line) h
            where
              by : (many out : Bool) → (refuse_if many cause.TooLong >> (refuse_if out cause.MeasureRange >> Ok line)) ≡ Err d → checked false false many out ≡ Err d
              by true out h = let same : cause.TooLong ≡ d = cc h in ap Err same
              by false true h = let same : cause.MeasureRange ≡ d = cc h in ap Err same
              by false false h = absurd (cc h)

          does : nat_lt most_marks (length line) ≡ false → is_out_of_range line ≡ false → do_join first second s ≡ Ok outcome
          does few small = others ∙ (λ j. checked false (short j) (few j) (small j))

-- ---- what is known of two routes of an inventory

module _ (i : Image) (a b : RouteRow) (s : IsSound i) (m : In a i.routes) (n : In b i.routes) where
  pub its_spans : (e : RouteRow) → In e i.routes → are_spans_of i.assets (record { course = e.route.course; rows = e.spans }) ≡ true
  its_spans e k = all_at (λ (e : RouteRow). are_spans_of i.assets (record { course = e.route.course; rows = e.spans })) e i.routes (old_spans i s) k

  abbrev is_its : Span → Asset → Bool
  is_its r x = nat_eq x.number r.asset && same_name x.class r.class

  -- a row ends with the course of its route, and is of a known asset
  known : (e : RouteRow) (r : Span) → In e i.routes → In r e.spans → (r.to ≤ length e.route.course) × (list_any (is_its r) i.assets ≡ true)
  known e r k l =
      let all = and_parts (are_rows e.spans) (list_all (is_span i.assets (length e.route.course)) e.spans) (its_spans e k) in
      let both = and_parts (nat_le r.to (length e.route.course)) (list_any (is_its r) i.assets) (all_at (is_span i.assets (length e.route.course)) r e.spans all.1 l) in
      (leb-true r.to (length e.route.course) both.0, both.1)

  -- rows of one asset are of one class
  one_class : (r t : Span) → In r a.spans → In t b.spans → is_of_one_class r t ≡ true
  one_class r t k l = by (cases_eq r.asset t.asset)
    where
      x : (x : Asset) × In x i.assets × (is_its r x ≡ true)
      x = any_found (is_its r) i.assets (known a r m k).1

      y : (y : Asset) × In y i.assets × (is_its t y ≡ true)
      y = any_found (is_its t) i.assets (known b t n l).1

      of_r : (x.0.number ≡ r.asset) × (x.0.class ≡ r.class)
      of_r = let both = and_parts (nat_eq x.0.number r.asset) (same_name x.0.class r.class) x.2 in (eqb-true x.0.number r.asset both.0, (bytes_decides x.0.class r.class).0 both.1)

      of_t : (y.0.number ≡ t.asset) × (y.0.class ≡ t.class)
      of_t = let both = and_parts (nat_eq y.0.number t.asset) (same_name y.0.class t.class) y.2 in (eqb-true y.0.number t.asset both.0, (bytes_decides y.0.class t.class).0 both.1)

      one : x.0.number ≡ y.0.number → (x.0 ≡ y.0) ⊎ ((asset_before x.0 y.0 ≡ true) ⊎ (asset_before y.0 x.0 ≡ true)) → x.0 ≡ y.0
      one e (inl h) = h
      one e (inr (inl h)) = let h = ltb-true x.0.number y.0.number h in absurd (omega (arith, e, h))
      one e (inr (inr h)) = let h = ltb-true y.0.number x.0.number h in absurd (omega (arith, e, h))

      by : (r.asset ≡ t.asset) ⊎ (r.asset ≡ t.asset → ⊥) → is_of_one_class r t ≡ true
      by (inr apart) = or_left (not (nat_eq r.asset t.asset)) (same_name r.class t.class) (ap not (ne_eqb r.asset t.asset apart))
      by (inl same) =
          let asset = one (of_r.0 ∙ same ∙ sym of_t.0) (two_at asset_before x.0 y.0 i.assets (assets_in_order i s) x.1 y.1) in
          or_right (not (nat_eq r.asset t.asset)) (same_name r.class t.class) ((bytes_decides r.class t.class).1 (sym of_r.1 ∙ ap (λ (x : Asset). x.class) asset ∙ of_t.1))

  pub can_go_on : length a.route.course + length b.route.course ≤ longest_route → CanGoOn a b
  can_go_on room = record {
    ends = all_of (λ (r : Span). nat_le r.to (length a.route.course)) a.spans (λ r k. le-leb r.to (length a.route.course) (known a r m k).0);
    room = all_of (λ (r : Span). nat_le (r.to + length a.route.course) longest_route) b.spans (λ r k. let e = (known b r n k).0 in le-leb (r.to + length a.route.course) longest_route (omega (arith, e, room)));
    one_class = all_of (λ (r : Span). list_all (is_of_one_class r) b.spans) a.spans (λ r k. all_of (is_of_one_class r) b.spans (λ t l. one_class r t k l));
  }

-- two routes that are not too long as one
pub room_for : (first second : List Ground) → is_too_long (first ++ second) ≡ false → length first + length second ≤ longest_route
room_for first second h =
    let both = or_parts (nat_lt most_pieces (piece_count (first ++ second))) (nat_lt longest_route (length (first ++ second))) h in
    let low = ltb-false longest_route (length (first ++ second)) both.1 in
    let n = length-append first second in
    omega (arith, low, n)

-- behind so long a course no referent stands past the longest route
pub refs_have_room : (b : RouteRow) (n : ℕ) → n + length b.route.course ≤ longest_route → list_all (λ q. nat_lt (n + q.at) longest_route) b.route.refs ≡ true
refs_have_room b n room = all_of (λ (q : Referent). nat_lt (n + q.at) longest_route) b.route.refs (λ q k.
    let low = ltb-true q.at (length b.route.course) (all_at (λ (q : Referent). nat_lt q.at (length b.route.course)) q b.route.refs
    (and_parts (each_two referent_before b.route.refs) (list_all (λ (q : Referent). nat_lt q.at (length b.route.course)) b.route.refs) (fits b).2).1 k) in
    lt-ltb (n + q.at) longest_route (omega (arith, low, room)))

-- ---- The plan of the verb, where its checks pass.
module _ (first second : Name) (i : Image) (a b : RouteRow) (c : RouteChange) (s : IsSound i) (found : find (is_named first) i.routes ≡ Some a) (also : find (is_named second) i.routes ≡ Some b)
    (apart : same_name first second ≡ false) (short : is_too_long (a.route.course ++ b.route.course) ≡ false) (few : nat_lt most_marks (length (joined_marks a.route.marks b.route.marks)) ≡ false)
    (small : is_out_of_range (joined_marks a.route.marks b.route.marks) ≡ false) (is : GoesOn a b c) (keys : RouteKeys) (whole : keys ≡ keys_of b.route.refs b.spans) where
  abbrev w : RouteRow
  w = entry_after c a

  abbrev d : Difference
  d = joining c second keys

  abbrev len : ℕ
  len = length a.route.course

  abbrev moved : List Referent
  moved = map (on_by len) b.route.refs

  at_first : In a i.routes × (a.route.name ≡ first)
  at_first = found_in first a i.routes found

  at_second : In b i.routes × (b.route.name ≡ second)
  at_second = found_in second b i.routes also

  names_differ : same_name a.route.name b.route.name ≡ false
  names_differ = (λ j. same_name (at_first.1 j) (at_second.1 j)) ∙ apart

  unlike : AreUnlike a.route.refs b.route.refs
  unlike q p k l = by (made_two are_unlike refs_at a b i.routes q p (old_unlike i s) at_first.0 at_second.0 k l)
    where
      by : (a ≡ b) ⊎ ((are_unlike q p ≡ true) ⊎ (are_unlike p q ≡ true)) → same_name q.name p.name ≡ false
      by (inl e) = absurd (both_ways (same_name a.route.name b.route.name) names_differ ((bytes_decides a.route.name b.route.name).1 (ap (λ (e : RouteRow). e.route.name) e)))
      by (inr (inl h)) = not-true (same_name q.name p.name) h
      by (inr (inr h)) = same_either q.name p.name ∙ not-true (same_name p.name q.name) h

  refs_are : changed_refs c.refs a.route.refs ≡ joined_refs len a.route.refs b.route.refs
  refs_are = (λ j. changed_refs (record { gone = is.refs_gone j; come = is.refs_come j }) a.route.refs) ∙ ap (insert_all referent_before moved) (filter_all (λ q. true) a.route.refs (λ q k. refl))

  stays_fit : fits_after c a.route ≡ true
  stays_fit = (λ j. is_route (unwrap_or (is.course j) a.route.course) (unwrap_or (is.marks j) a.route.marks) (refs_are j))
      ∙ joins_are_routes a b short (ltb-false most_marks (length (joined_marks a.route.marks b.route.marks)) few) small unlike

  become : HasBecome c a.route (route_after c a.route)
  become = becomes c a.route stays_fit

  course_after : w.route.course ≡ a.route.course ++ b.route.course
  course_after = become.course ∙ ap (λ o. unwrap_or o a.route.course) is.course

  refs_after : w.route.refs ≡ joined_refs len a.route.refs b.route.refs
  refs_after = become.refs ∙ refs_are

  joined : IsJoined i a b w
  joined = record {
    first = at_first.0;
    second = at_second.0;
    different = names_differ;
    name = become.name ∙ is.name;
    course = course_after;
    marks = become.marks ∙ ap (λ o. unwrap_or o a.route.marks) is.marks;
    refs_of = λ q k. either q (In-insert_all referent_before q moved a.route.refs (subst (In q) refs_after k));
    refs_front = λ q k. subst (In q) (sym refs_after) (insert_all-In referent_before q moved a.route.refs (inr k));
    refs_rear = λ q k. subst (In (on_by len q)) (sym refs_after) (insert_all-In referent_before (on_by len q) moved a.route.refs (inl (In-map (on_by len) q b.route.refs k)));
    spans = ap (λ c. are_spans_of i.assets (record { course = c; rows = w.spans })) course_after
        ∙ joins_have_rows i.assets a.route.course b.route.course a.spans b.spans w.spans is.rows is.join (its_spans i a b s at_first.0 at_second.0 a at_first.0) (its_spans i a b s at_first.0 at_second.0 b at_second.0);
    join = is.join;
    done = (λ j. do_join (at_first.1 j) (at_second.1 j) (state_of i)) ∙ does first second i a found b also apart short few small
        ∙ sym (λ j. Ok (set_route (at_first.1 j) (a.route.course ++ b.route.course) (joined_marks a.route.marks b.route.marks) (drop_route (at_second.1 j) (state_of i))));
  }
    where
      either : (q : Referent) → In q moved ⊎ In q a.route.refs → In q a.route.refs ⊎ In q moved
      either q (inl k) = inr k
      either q (inr k) = inl k

  found_by : find (is_named c.route) i.routes ≡ Some a
  found_by = ap (λ n. find (is_named n) i.routes) (is.route ∙ at_first.1) ∙ found

  becomes_this : changed_route i.routes c ≡ Some w
  becomes_this = ap (option_map (entry_after c)) found_by

  -- the route that changes keeps its name, which is not that of the one that goes
  keeps : KeepsFromDropped d i.routes
  keeps v n was e =
      let one : w ≡ v = cc (sym becomes_this ∙ was) in
      let name : second ≡ n = cc e in
      (λ j. same_name (sym one j).route.name (sym name j)) ∙ ap (λ n. same_name n second) (joined.name ∙ at_first.1) ∙ apart

  abbrev new : Image
  new = with_routes (rewritten (a.route.name ∷ b.route.name ∷ []) (w ∷ []) i.routes) i

  image_is : with_difference d i ≡ new
  image_is = reroutes (Some c) (Some second) None i s keeps ∙ (λ j. with_routes (rewritten (is.route j ∷ sym at_second.1 j ∷ []) (cons_option (option_map (entry_after c) (found_by j)) []) i.routes) i)

  changes_so : CanDiffer d i
  changes_so = record {
    route = record { row = a; found = found_by; becomes = record { fits = stays_fit; rows = is.rows; gone = is.spans_gone; there = is.spans_there; named = ap (are_names_of a) is.refs_gone; renamed = keeps_name c a (is.route ∙ sym is.name) } };
    apart = (ap (λ n. same_name n second) (is.route ∙ at_first.1) ∙ apart, ap (λ n. same_name n second) (is.name ∙ at_first.1) ∙ apart);
    whole = record { row = b; found = also; keys_are = whole };
    names = ap (each_two route_before) (difference_rewrites (rerouting (Some c) None None) i s (λ w n is e. absurd (cc e)) ∙ (λ j. rewritten (is.route j ∷ []) (cons_option (option_map (entry_after c) (found_by j)) []) i.routes))
        ∙ order_stays w a.route.name i.routes joined.name (routes_in_order i s);
  }

  pub makes_one : (passed : List Piece) → course_of passed ≡ b.route.course → AllByRecursion IsFilled passed → IsPlanOf (verb.Join first second) i (join_plan second keys c passed)
  makes_one passed of filled = record {
    makes = subst (λ (j : Image). Makes (verb.Join first second) i j) (sym image_is)
        (subst (λ (n : Name). Makes (verb.Join n second) i new) at_first.1 (subst (λ (n : Name). Makes (verb.Join a.route.name n) i new) at_second.1 (join_makes i a b w s joined)));
    differ = changes_so;
    tells = record {
      ground = λ m. ap (λ (j : Image). route_on j.routes m) image_is ∙ moves i a b w s joined m ∙ (λ j. cond (runs_over (sym of j) m) (Some (sym is.name j)) (route_on i.routes m));
      can_ground = record {
        gone_filled = tt;
        passed_filled = filled;
        come_filled = tt;
        gone = λ m on. absurd (false≢true on);
        passed = λ m on. ap is_some (runs_there i b m s at_second.0 (ap (λ c. runs_over c m) (sym of) ∙ on));
        apart = λ m on. refl;
        come = λ m on. absurd (false≢true on);
        once = refl;
      };
      referents = λ n. ap (λ (t : State). t.referents n) (ap state_of image_is ∙ same_state i a b w s joined);
      new_referent = tt;
    };
  }
