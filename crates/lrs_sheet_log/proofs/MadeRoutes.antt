-- The commands of a route make it.
use Rattle.std.proofs.Common.{◌≡◌, ℕ, zero, suc, ◌+◌, ◌<◌, ◌≤◌, Bool, true, false, cond, List, [], ◌∷◌, ◌++◌, length, map, Option, Some, None, Ok, Ordering, Less, Equal, Greater, is_lt, refl, sym, ap, subst, ◌∙◌, append_assoc, append-nil, arith, length-append}
use Rattle.std.specs.Prelude.{Result, if◌then◌else◌, ◌||◌, ◌&&◌, not, is_some, is_none, nat_eq, nat_le, nat_lt}
use Rattle.std.specs.List.{AllByRecursion, find, list_all, list_any, position}
use Rattle.std.specs.Option.{ok_or, option_and_then, option_map, option_or}
use Rattle.std.specs.Ordering.{is_eq}
use Rattle.std.specs.Cmp.{Equal-is, tied_itself}
use Rattle.std.specs.Cmp.Lexicographic.{bytes_decides, nat_list_cmp_total, nat_list_eq_equiv, texts_ties}
use Rattle.std.proofs.lemmas.Bool.{and_from, and_parts, false≢true, not-true}
use Rattle.std.proofs.lemmas.Bool.Decides.{nat_tests}
use Rattle.std.proofs.lemmas.List.Folds.{list_any-append}
use Rattle.std.proofs.lemmas.Map.Lookups.{exact_bytes}
use Rattle.lrs_measure.specs.Limits.{greatest_measure, longest_route}
use Rattle.lrs_measure.specs.Lists.{each_two, is_nothing}
use Rattle.lrs_measure.specs.Texts.{Name, name_before, name_cmp, same_name}
use Rattle.lrs_element.specs.declared.link.Ground.{Ground}
use Rattle.lrs_element.specs.declared.link.Piece.{Piece}
use Rattle.lrs_element.specs.declared.marks.Mark.{Mark}
use Rattle.lrs_element.specs.Course.{Millimetre, course_of, expand, ground_at, is_too_long, meets}
use Rattle.lrs_element.specs.Marks.{bad_mark}
use Rattle.lrs_position.specs.Locations.{Alignment, cell, located}
use Rattle.lrs_position.specs.Routes.{are_referents, have_marks, is_route_course, referent_before}
use Rattle.lrs_position.specs.Translations.{referent_at}
use Rattle.lrs_position.specs.declared.route.Referent.{Referent}
use Rattle.lrs_position.specs.declared.route.Route.{Route}
use Rattle.lrs_machine.specs.Machine.{Record, accept, attempt, check_free, check_marks, check_pieces, check_room, do_recalibrate, do_ref, do_route, is_taken, outcome_of, place_of_key, refuse_at, refuse_if, referent_chainage, set_referent, set_route, state_after, step, step_by_key, step_record, ◌>>=◌, ◌>>◌}
use Rattle.lrs_machine.specs.Register.{Register, by_order, contains_key, get, insert, len, put}
use Rattle.lrs_machine.specs.State.{Edit, State}
use Rattle.lrs_machine.specs.declared.answer.Cause.{Cause}
use Rattle.lrs_machine.specs.declared.answer.Cause.TheVariants as cause
use Rattle.lrs_machine.specs.declared.answer.Limits.{Limits}
use Rattle.lrs_machine.specs.declared.answer.What.TheVariants.{Edits, Routes}
use Rattle.lrs_machine.specs.declared.command.Command.TheVariants as verb
use Rattle.lrs_machine.proofs.Registers.{find-put}
use Rattle.lrs_machine.proofs.Stop.Edits.{none_still}
use Rattle.lrs_report_lists.proofs.CoursePieces.{pieces_make}
use Rattle.lrs_sheet_log.proofs.LaidCourses.{both-false, neither, none-found, pieces_pass}
use Rattle.lrs_sheet_log.proofs.SetReferents.{set_exactly}
use Rattle.lrs_report_lists.specs.CoursePieces.{pieces_of}
use Rattle.lrs_sheet_log.specs.Laws.{CommandsMakeTheRoute, HasRoomFor, edit_of, with_route}
use Rattle.lrs_sheet_log.specs.RouteSheets.{at_chainage, calibrated, chainage_marks, laid, laid_with_referents, makes_route, set_on}

-- ---- a command that is done

-- the step of a command whose key is new, for which there is room, and whose verb makes a state
done-as : (limits : Limits) (c : Record) (s t : State) → place_of_key c.key s.done ≡ None → check_room limits c.command s ≡ Ok tt → attempt (length s.done + 1) c.command s ≡ Ok t
    → (step_record limits c s).state ≡ accept c.key c.command t
unfolding step
done-as limits c s t new room made =
    ap (λ (o : Option ℕ). (step_by_key limits c.key c.command s o).state) new
    ∙ ap (λ (r : Result (Unit {0}) Cause). (outcome_of c.key c.command s (r >> attempt (length s.done + 1) c.command s)).state) room
    ∙ ap (λ (r : Result State Cause). (outcome_of c.key c.command s r).state) made

-- there is room for one more
not-full : (n most : ℕ) → n < most → nat_le most n ≡ false
not-full n most h = grind (arith, nat_tests)

-- ---- keys

-- no edit has the key of one of these commands
abbrev AreNew : List Record → List Edit → Type 0
AreNew cs done = AllByRecursion (λ c. place_of_key c.key done ≡ None) cs

-- two commands have different keys
abbrev differ : Record → Record → Bool
differ a b = not (same_name a.key b.key)

-- no edit has a key of these with one edit more, of another key
new-still : (c : Record) (cs : List Record) (done : List Edit) → AreNew cs done → list_all (differ c) cs ≡ true → AreNew cs (done ++ edit_of c ∷ [])
new-still c [] done new apart = tt
new-still c (d ∷ cs) done new apart =
    let both = and_parts (differ c d) (list_all (differ c) cs) apart in
    (none_still (λ (e : Edit). same_name e.key d.key) done (edit_of c) new.0 (not-true (same_name c.key d.key) both.0), new-still c cs done new.1 both.1)

-- a name that is before another is not that one
before-differs : (a b : Name) → name_before a b ≡ true → same_name a b ≡ false
before-differs a b h = by (name_cmp a b) refl
  where
    by : (o : Ordering) → name_cmp a b ≡ o → same_name a b ≡ false
    by Less e = texts_ties a b ∙ ap is_eq e
    by Equal e = absurd (false≢true (sym (ap is_lt e) ∙ h))
    by Greater e = absurd (false≢true (sym (ap is_lt e) ∙ h))

-- ... nor the other that one
behind-differs : (a b : Name) → name_before b a ≡ true → same_name a b ≡ false
behind-differs a b h = nat_list_eq_equiv.symm a b ∙ before-differs b a h

-- the keys of referents in the order of their names, and of one last command
refs-differ : (route : Name) (x : Referent) (xs : List Referent) (last : Record) → list_all (referent_before x) xs ≡ true → differ (set_on route x) last ≡ true → list_all (differ (set_on route x)) (map (set_on route) xs ++ last ∷ []) ≡ true
refs-differ route x [] last before other = and_from (differ (set_on route x) last) true other refl
refs-differ route x (y ∷ xs) last before other =
    let both = and_parts (referent_before x y) (list_all (referent_before x) xs) before in
    let one : differ (set_on route x) (set_on route y) ≡ true = ap not (before-differs x.name y.name both.0) in
    and_from (differ (set_on route x) (set_on route y)) (list_all (differ (set_on route x)) (map (set_on route) xs ++ last ∷ [])) one (refs-differ route x xs last both.1 other)

laid-differs : (r : Route) (marks : List Mark) (xs : List Referent) → list_all (differ (laid r marks)) (map (set_on r.name) xs ++ calibrated r ∷ []) ≡ true
laid-differs r marks [] = refl
laid-differs r marks (x ∷ xs) = laid-differs r marks xs

-- ---- what is true of a route

module _ (r : Route) where
  its-parts : (is_route_course r.course ≡ true) × (have_marks r.course r.marks ≡ true) × (are_referents (length r.course) r.refs ≡ true)
  its-parts =
      let two = and_parts (is_route_course r.course && have_marks r.course r.marks) (are_referents (length r.course) r.refs) r.fits in
      let one = and_parts (is_route_course r.course) (have_marks r.course r.marks) two.0 in
      (one.0, one.1, two.1)

  not-long : is_too_long r.course ≡ false
  not-long = not-true (is_too_long r.course) (and_parts (not (is_nothing r.course)) (not (is_too_long r.course)) its-parts.0).1

  some-length : 0 < length r.course
  some-length = by r.course (and_parts (not (is_nothing r.course)) (not (is_too_long r.course)) its-parts.0).0
    where
      by : (course : List Ground) → not (is_nothing course) ≡ true → 0 < length course
      by [] h = absurd (false≢true h)
      by (g ∷ course) h = omega arith

none-of : {A : Type 0} (o : Option A) → is_none o ≡ true → o ≡ None
none-of None h = refl
none-of (Some x) h = absurd (false≢true h)

-- marks by which the measure is the chainage are marks
chainage-marks-good : (end : ℕ) → 0 < end → end ≤ longest_route → bad_mark end (chainage_marks end) ≡ None
chainage-marks-good end some short =
    let above : nat_lt 0 end ≡ true = grind (arith, nat_tests) in
    let small : nat_lt greatest_measure end ≡ false = grind (arith, nat_tests) in
    let there : nat_eq end end ≡ true = grind (arith, nat_tests) in
    let one : ℕ → ℕ = λ i. i + 1 in
    let fits : ((not (nat_lt 0 end && nat_lt 0 end) || nat_lt greatest_measure end) || not (nat_eq end end)) ≡ false = (λ i. (not (above i && above i) || small i) || not (there i)) in
    ap (λ (b : Bool). option_map one (if b then Some 0 else None)) fits

short-enough : (course : List Ground) → is_too_long course ≡ false → length course ≤ longest_route
short-enough course h = grind (arith, nat_tests)

-- ---- the route is laid

-- what meets neither of two parts
taken-parts : (rows : List (Name × Alignment)) (xs ys : List Ground) → list_any (λ route. meets (xs ++ ys) route.1.course) rows ≡ false
    → (list_any (λ route. meets xs route.1.course) rows ≡ false) × (list_any (λ route. meets ys route.1.course) rows ≡ false)
taken-parts [] xs ys h = (refl, refl)
taken-parts (e ∷ rows) xs ys h =
    let one = neither (meets (xs ++ ys) e.1.course) (list_any (λ route. meets (xs ++ ys) route.1.course) rows) h in
    let two = neither (meets xs e.1.course) (meets ys e.1.course) (sym (list_any-append _ xs ys) ∙ one.0) in
    let rest = taken-parts rows xs ys one.1 in
    (both-false _ _ two.0 rest.0, both-false _ _ two.1 rest.1)

no-piece-taken : (s : State) (pieces : List Piece) → is_taken s (course_of pieces) ≡ false → list_any (λ p. is_taken s (expand p)) pieces ≡ false
no-piece-taken s [] h = refl
no-piece-taken s (p ∷ pieces) h =
    let both = taken-parts s.routes.rows (expand p) (course_of pieces) h in
    both-false (is_taken s (expand p)) (list_any (λ p. is_taken s (expand p)) pieces) both.0 (no-piece-taken s pieces both.1)

-- a route of new ground under a new name
lay : (name : Name) (pieces : List Piece) (marks : List Mark) (s : State) → contains_key s.routes name ≡ false → check_pieces s pieces ≡ Ok tt → is_too_long (course_of pieces) ≡ false
    → is_taken s (course_of pieces) ≡ false → bad_mark (length (course_of pieces)) marks ≡ None → do_route name pieces marks s ≡ Ok (set_route name (course_of pieces) marks s)
lay name pieces marks s unknown parts short free good =
    let course = course_of pieces in
    let apart : position (λ p. is_taken s (expand p)) pieces ≡ None = none-found (λ p. is_taken s (expand p)) pieces (no-piece-taken s pieces free) in
    let C : Type 0 = Result (Unit {0}) Cause in
    ap (λ (b : Bool). refuse_if b cause.RouteKnown >> (check_pieces s pieces >> (refuse_if (is_too_long course) cause.TooLong >> (check_free s pieces >> (check_marks (length course) marks >> Ok (set_route name course marks s)))))) unknown
    ∙ ap (λ (c : C). c >> (refuse_if (is_too_long course) cause.TooLong >> (check_free s pieces >> (check_marks (length course) marks >> Ok (set_route name course marks s))))) parts
    ∙ ap (λ (b : Bool). refuse_if b cause.TooLong >> (check_free s pieces >> (check_marks (length course) marks >> Ok (set_route name course marks s)))) short
    ∙ ap (λ (o : Option ℕ). refuse_at o cause.Taken >> (check_marks (length course) marks >> Ok (set_route name course marks s))) apart
    ∙ ap (λ (o : Option ℕ). refuse_at o cause.BadMarks >> Ok (set_route name course marks s)) good

-- ---- a referent is set

set-as : (s : State) (r : Route) (x : Referent) → s.referents x.name ≡ None → get s.routes r.name ≡ Some (record { course = r.course; marks = chainage_marks (length r.course) }) → x.at < length r.course
    → do_ref x.name r.name (at_chainage x.at) s ≡ Ok (set_referent x.name (ground_at r.course x.at) s)
set-as s r x unknown known within =
    let a : Alignment = record { course = r.course; marks = chainage_marks (length r.course) } in
    ap (λ (o : Option Millimetre). refuse_if (is_some o) cause.RefKnown >> (ok_or (get s.routes r.name) cause.NoRoute >>= on)) unknown
    ∙ ap (λ (o : Option Alignment). ok_or o cause.NoRoute >>= on) known
    ∙ by (located a (referent_chainage s a) (at_chainage x.at)) (set_exactly r (referent_chainage s a) x within)
  where
    on : Alignment → Result State Cause
    on a = ok_or (located a (referent_chainage s a) (at_chainage x.at)) cause.OffRoute >>= (λ p. Ok (set_referent x.name (ground_at a.course (cell (length a.course) p)) s))

    by : (o : Option (ℕ × ℕ)) → option_map (cell (length r.course)) o ≡ Some x.at
        → (ok_or o cause.OffRoute >>= (λ p. Ok (set_referent x.name (ground_at r.course (cell (length r.course) p)) s))) ≡ Ok (set_referent x.name (ground_at r.course x.at) s)
    by None h = absurd (cc h)
    by (Some p) h = let e : cell (length r.course) p ≡ x.at = cc in ap (λ (n : ℕ). Ok (set_referent x.name (ground_at r.course n) s)) e

-- ---- the route gets its marks

calibrate : (s : State) (name : Name) (a : Alignment) (marks : List Mark) → get s.routes name ≡ Some a → bad_mark (length a.course) marks ≡ None → do_recalibrate name marks s ≡ Ok (set_route name a.course marks s)
calibrate s name a marks known good =
    ap (λ (o : Option Alignment). ok_or o cause.NoRoute >>= (λ a. check_marks (length a.course) marks >> Ok (set_route name a.course marks s))) known
    ∙ ap (λ (o : Option ℕ). refuse_at o cause.BadMarks >> Ok (set_route name a.course marks s)) good

-- a row that is put twice is put once, as it was put last
put-twice : (k : Name) (v w : Alignment) (rows : List (Name × Alignment)) → put name_cmp k w (put name_cmp k v rows) ≡ put name_cmp k w rows
put-twice k v w [] = ap (λ (o : Ordering). by_order o ((k, w) ∷ (k, v) ∷ []) ((k, w) ∷ []) ((k, v) ∷ put name_cmp k w [])) (tied_itself nat_list_cmp_total k)
put-twice k v w (e ∷ rows) = by (name_cmp k e.0) refl (put-twice k v w rows)
  where
    by : (o : Ordering) → name_cmp k e.0 ≡ o → put name_cmp k w (put name_cmp k v rows) ≡ put name_cmp k w rows → put name_cmp k w (by_order o ((k, v) ∷ e ∷ rows) ((e.0, v) ∷ rows) (e ∷ put name_cmp k v rows)) ≡ by_order o ((k, w) ∷ e ∷ rows) ((e.0, w) ∷ rows) (e ∷ put name_cmp k w rows)
    by Less is more = ap (λ (o : Ordering). by_order o ((k, w) ∷ (k, v) ∷ e ∷ rows) ((k, w) ∷ e ∷ rows) ((k, v) ∷ put name_cmp k w (e ∷ rows))) (tied_itself nat_list_cmp_total k)
    by Equal is more = ap (λ (o : Ordering). by_order o ((k, w) ∷ (e.0, v) ∷ rows) ((e.0, w) ∷ rows) ((e.0, v) ∷ put name_cmp k w rows)) is
    by Greater is rest =
        ap (λ (o : Ordering). by_order o ((k, w) ∷ e ∷ put name_cmp k v rows) ((e.0, w) ∷ put name_cmp k v rows) (e ∷ put name_cmp k w (put name_cmp k v rows))) is
        ∙ ap (λ (more : List (Name × Alignment)). e ∷ more) rest

-- a row that is put is found
put-found : (k : Name) (v : Alignment) (t : Register name_cmp Alignment) → get (insert t k v) k ≡ Some v
put-found k v t = find-put nat_list_cmp_total exact_bytes k k v t.rows ∙ ap (λ (b : Bool). cond b (Some v) (get t k)) ((Equal-is _).1 (tied_itself nat_list_cmp_total k))

-- ---- all referents are set

-- where the referents of a list stand on a course, and the others as before
abbrev set_all : List Ground → List Referent → (Name → Option Millimetre) → Name → Option Millimetre
set_all course [] before = before
set_all course (x ∷ xs) before = set_all course xs (λ other. if same_name other x.name then ground_at course x.at else before other)

-- no later referent has the name of the first
none-later : (x : Referent) (xs : List Referent) (name : Name) → list_all (referent_before x) xs ≡ true → same_name x.name name ≡ true → referent_at xs name ≡ None
none-later x [] name h same = refl
none-later x (y ∷ xs) name h same =
    let both = and_parts (referent_before x y) (list_all (referent_before x) xs) h in
    let is : x.name ≡ name = (bytes_decides x.name name).0 same in
    let other : same_name y.name name ≡ false = behind-differs y.name name (subst (λ (n : Name). name_before n y.name ≡ true) is both.0) in
    ap (λ (b : Bool). option_map (λ r. r.at) (cond b (Some y) (find (λ r. same_name r.name name) xs))) other ∙ none-later x xs name both.1 same

some-ground : (course : List Ground) (at : ℕ) → at < length course → (m : Millimetre) × (ground_at course at ≡ Some m)
some-ground [] at h = absurd (omega (arith, h))
some-ground (g ∷ course) zero h = ((g.link, g.mm), refl)
some-ground (g ∷ course) (suc at) h = some-ground course at (omega (arith, h))

abbrev on-course : List Ground → List Referent → (Name → Option Millimetre) → Name → Option Millimetre
on-course course xs before name = option_or (option_and_then (ground_at course) (referent_at xs name)) (before name)

all-set : (course : List Ground) (xs : List Referent) (before : Name → Option Millimetre) → each_two referent_before xs ≡ true → list_all (λ x. nat_lt x.at (length course)) xs ≡ true
    → (name : Name) → set_all course xs before name ≡ on-course course xs before name
all-set course [] before sorted on name = refl
all-set course (x ∷ xs) before sorted on name =
    let names = and_parts (list_all (referent_before x) xs) (each_two referent_before xs) sorted in
    let places = and_parts (nat_lt x.at (length course)) (list_all (λ x. nat_lt x.at (length course)) xs) on in
    all-set course xs (λ other. if same_name other x.name then ground_at course x.at else before other) names.1 places.1 name
    ∙ ap (λ (b : Bool). option_or (option_and_then (ground_at course) (referent_at xs name)) (if b then ground_at course x.at else before name)) (nat_list_eq_equiv.symm name x.name)
    ∙ by (same_name x.name name) (find (λ r. same_name r.name name) xs) (λ same. none-later x xs name names.0 same) (some-ground course x.at (let low = places.0 in grind (arith, nat_tests)))
  where
    by : (b : Bool) (o : Option Referent) → (b ≡ true → option_map (λ r. r.at) o ≡ None) → (m : Millimetre) × (ground_at course x.at ≡ Some m)
        → option_or (option_and_then (ground_at course) (option_map (λ r. r.at) o)) (if b then ground_at course x.at else before name) ≡ option_or (option_and_then (ground_at course) (option_map (λ r. r.at) (cond b (Some x) o))) (before name)
    by true o none (m, is) =
        ap (λ (o : Option ℕ). option_or (option_and_then (ground_at course) o) (ground_at course x.at)) (none refl)
        ∙ is ∙ sym (ap (λ (o : Option Millimetre). option_or o (before name)) is)
    by false o none m = refl

-- ---- the commands of a route, one after another

-- no edit has a key of these commands, each of these has a key of its own, and there is room for as many edits
record Waits (limits : Limits) (cs : List Record) (done : List Edit) : Type 0 where
  new : AreNew cs done
  apart : each_two differ cs ≡ true
  room : length done + length cs ≤ limits.edits

-- ... when the first one is done
waits-on : (limits : Limits) (c : Record) (cs : List Record) (done : List Edit) → Waits limits (c ∷ cs) done → Waits limits cs (done ++ edit_of c ∷ [])
waits-on limits c cs done h =
    let both = and_parts (list_all (differ c) cs) (each_two differ cs) h.apart in
    let longer = length-append done (edit_of c ∷ []) in
    let room : length done + length (c ∷ cs) ≤ limits.edits = h.room in
    record { new = new-still c cs done h.new.1 both.0; apart = both.1; room = omega (arith, longer, room) }

refs-apart : (route : Name) (xs : List Referent) (last : Record) → each_two referent_before xs ≡ true → ((x : Referent) → differ (set_on route x) last ≡ true) → each_two differ (map (set_on route) xs ++ last ∷ []) ≡ true
refs-apart route [] last sorted other = refl
refs-apart route (x ∷ xs) last sorted other =
    let both = and_parts (list_all (referent_before x) xs) (each_two referent_before xs) sorted in
    and_from (list_all (differ (set_on route x)) (map (set_on route) xs ++ last ∷ [])) (each_two differ (map (set_on route) xs ++ last ∷ []))
    (refs-differ route x xs last both.0 (other x)) (refs-apart route xs last both.1 other)

room-for-more : (limits : Limits) (s : State) (name route : Name) (x : ℕ) → length s.done < limits.edits → check_room limits (verb.Ref name route (at_chainage x)) s ≡ Ok tt
room-for-more limits s name route x h = ap (λ (b : Bool). refuse_if b (cause.TooMany Edits) >> Ok tt) (not-full (length s.done) limits.edits h)

room-for-marks : (limits : Limits) (s : State) (name : Name) (marks : List Mark) → length s.done < limits.edits → check_room limits (verb.Recalibrate name marks) s ≡ Ok tt
room-for-marks limits s name marks h = ap (λ (b : Bool). refuse_if b (cause.TooMany Edits) >> Ok tt) (not-full (length s.done) limits.edits h)

room-for-route : (limits : Limits) (s : State) (name : Name) (pieces : List Piece) (marks : List Mark) → length s.done < limits.edits → len s.routes < limits.routes → check_room limits (verb.Route name pieces marks) s ≡ Ok tt
room-for-route limits s name pieces marks h k =
    let edits = not-full (length s.done) limits.edits h in
    let routes = not-full (len s.routes) limits.routes k in
    λ i. refuse_if (edits i) (cause.TooMany Edits) >> refuse_if (routes i) (cause.TooMany Routes)

-- ---- the first command

laid-made : (limits : Limits) (s : State) (r : Route) (marks : List Mark) → HasRoomFor limits s r → bad_mark (length r.course) marks ≡ None → attempt (length s.done + 1) (laid r marks).command s ≡ Ok (set_route r.name r.course marks s)
unfolding attempt
laid-made limits s r marks h good =
    subst (λ (course : List Ground). is_too_long course ≡ false → is_taken s course ≡ false → bad_mark (length course) marks ≡ None → do_route r.name (pieces_of r.course) marks s ≡ Ok (set_route r.name course marks s))
    (pieces_make r.course).0 (lay r.name (pieces_of r.course) marks s h.name (pieces_pass s r.course h.known h.once)) (not-long r) h.free good

laid-as : (limits : Limits) (s : State) (r : Route) (marks : List Mark) → HasRoomFor limits s r → bad_mark (length r.course) marks ≡ None → place_of_key (laid r marks).key s.done ≡ None → length s.done < limits.edits
    → (step_record limits (laid r marks) s).state ≡ accept (laid r marks).key (laid r marks).command (set_route r.name r.course marks s)
laid-as limits s r marks h good new more =
    done-as limits (laid r marks) s (set_route r.name r.course marks s) new (room-for-route limits s r.name (pieces_of r.course) marks more h.routes) (laid-made limits s r marks h good)

-- ---- the referents

-- the route as it is before it gets its marks
abbrev by_chainage : Route → Alignment
by_chainage r = record { course = r.course; marks = chainage_marks (length r.course) }

-- the state with the referents of a list, whose commands are the edits that came
abbrev referred : Route → List Referent → State → State
referred r xs s = record s { referents = set_all r.course xs s.referents; done = s.done ++ map edit_of (map (set_on r.name) xs) }

-- the others of a list are not known still
still-unknown : (s : State) (c : Record) (x : Referent) (place : Option Millimetre) (xs : List Referent) → list_all (referent_before x) xs ≡ true → AllByRecursion (λ y. s.referents y.name ≡ None) xs
    → AllByRecursion (λ y. (accept c.key c.command (set_referent x.name place s)).referents y.name ≡ None) xs
still-unknown s c x place [] sorted h = tt
still-unknown s c x place (y ∷ xs) sorted h =
    let both = and_parts (referent_before x y) (list_all (referent_before x) xs) sorted in
    (ap (λ (b : Bool). if b then place else s.referents y.name) (behind-differs y.name x.name both.0) ∙ h.0, still-unknown s c x place xs both.1 h.1)

set-made : (s : State) (r : Route) (x : Referent) → s.referents x.name ≡ None → get s.routes r.name ≡ Some (by_chainage r) → x.at < length r.course
    → attempt (length s.done + 1) (set_on r.name x).command s ≡ Ok (set_referent x.name (ground_at r.course x.at) s)
unfolding attempt
set-made s r x unknown known within = set-as s r x unknown known within

-- the commands of referents, before others that wait
run-refs : (limits : Limits) (r : Route) (more : List Record) (xs : List Referent) (s : State) → get s.routes r.name ≡ Some (by_chainage r) → AllByRecursion (λ x. s.referents x.name ≡ None) xs
    → each_two referent_before xs ≡ true → list_all (λ x. nat_lt x.at (length r.course)) xs ≡ true → Waits limits (map (set_on r.name) xs ++ more) s.done
    → (state_after limits (map (set_on r.name) xs ++ more) s ≡ state_after limits more (referred r xs s)) × Waits limits more (referred r xs s).done
run-refs limits r more [] s known unknown sorted on w =
    (ap (λ (t : State). state_after limits more t) (λ i. record s { done = sym (append-nil s.done) i }), subst (λ (d : List Edit). Waits limits more d) (sym (append-nil s.done)) w)
run-refs limits r more (x ∷ xs) s known unknown sorted on w =
    let c = set_on r.name x in
    let names = and_parts (list_all (referent_before x) xs) (each_two referent_before xs) sorted in
    let places = and_parts (nat_lt x.at (length r.course)) (list_all (λ x. nat_lt x.at (length r.course)) xs) on in
    let t : State = set_referent x.name (ground_at r.course x.at) s in
    let u : State = accept c.key c.command t in
    let room : length s.done + length (c ∷ (map (set_on r.name) xs ++ more)) ≤ limits.edits = w.room in
    let low : x.at < length r.course = let test = places.0 in grind (arith, nat_tests) in
    let step : (step_record limits c s).state ≡ u = done-as limits c s t w.new.0 (room-for-more limits s x.name r.name x.at (omega (arith, room))) (set-made s r x unknown.0 known low) in
    let rest = run-refs limits r more xs u known (still-unknown s c x (ground_at r.course x.at) xs names.0 unknown.1) names.1 places.1 (waits-on limits c (map (set_on r.name) xs ++ more) s.done w) in
    let same : u.done ++ map edit_of (map (set_on r.name) xs) ≡ s.done ++ map edit_of (map (set_on r.name) (x ∷ xs)) = append_assoc s.done (edit_of c ∷ []) (map edit_of (map (set_on r.name) xs)) in (
      ap (λ (t : State). state_after limits (map (set_on r.name) xs ++ more) t) step ∙ rest.0
          ∙ ap (λ (t : State). state_after limits more t) (λ i. record s { referents = set_all r.course (x ∷ xs) s.referents; done = same i }),
      subst (λ (d : List Edit). Waits limits more d) same rest.1,
    )

-- ---- all of them

edits-append : (xs ys : List Record) → map edit_of (xs ++ ys) ≡ map edit_of xs ++ map edit_of ys
edits-append [] ys = refl
edits-append (x ∷ xs) ys = ap (λ (es : List Edit). edit_of x ∷ es) (edits-append xs ys)

three-parts : (d es : List Edit) (first last : Edit) → ((d ++ first ∷ []) ++ es) ++ last ∷ [] ≡ d ++ first ∷ (es ++ last ∷ [])
three-parts d es first last = simp append_assoc

calibrate-made : (s : State) (r : Route) → get s.routes r.name ≡ Some (by_chainage r) → attempt (length s.done + 1) (calibrated r).command s ≡ Ok (set_route r.name r.course r.marks s)
unfolding attempt
calibrate-made s r known = calibrate s r.name (by_chainage r) r.marks known (none-of (bad_mark (length r.course) r.marks) (its-parts r).1)

made-with : (limits : Limits) (s : State) (r : Route) → HasRoomFor limits s r → Waits limits (laid_with_referents r) s.done
    → state_after limits (laid_with_referents r) s ≡ record (with_route r s) { done = s.done ++ map edit_of (laid_with_referents r) }
made-with limits s r h w =
    let first = laid r (chainage_marks (length r.course)) in
    let last = calibrated r in
    let sets = map (set_on r.name) r.refs in
    let room : length s.done + length (first ∷ (sets ++ last ∷ [])) ≤ limits.edits = w.room in
    let one : State = accept first.key first.command (set_route r.name r.course (chainage_marks (length r.course)) s) in
    let two : State = referred r r.refs one in
    let good = chainage-marks-good (length r.course) (some-length r) (short-enough r.course (not-long r)) in
    let refs = and_parts (each_two referent_before r.refs) (list_all (λ x. nat_lt x.at (length r.course)) r.refs) (its-parts r).2 in
    let known : get one.routes r.name ≡ Some (by_chainage r) = put-found r.name (by_chainage r) s.routes in
    let middle = run-refs limits r (last ∷ []) r.refs one known h.refs refs.0 refs.1 (waits-on limits first (sets ++ last ∷ []) s.done w) in
    let left : length two.done + 1 ≤ limits.edits = middle.1.room in
    let dones : ((s.done ++ edit_of first ∷ []) ++ map edit_of sets) ++ edit_of last ∷ [] ≡ s.done ++ map edit_of (first ∷ (sets ++ last ∷ [])) =
    three-parts s.done (map edit_of sets) (edit_of first) (edit_of last) ∙ ap (λ (es : List Edit). s.done ++ edit_of first ∷ es) (sym (edits-append sets (last ∷ []))) in
    ap (λ (t : State). state_after limits (sets ++ last ∷ []) t) (laid-as limits s r (chainage_marks (length r.course)) h good w.new.0 (omega (arith, room)))
    ∙ middle.0
    ∙ done-as limits last two (set_route r.name r.course r.marks two) middle.1.new.0 (room-for-marks limits two r.name r.marks (omega (arith, left))) (calibrate-made two r known)
    ∙ (λ i. record s {
      routes = record { rows = put-twice r.name (by_chainage r) (record { course = r.course; marks = r.marks }) s.routes.rows i };
      referents = λ name. all-set r.course r.refs s.referents refs.0 refs.1 name i;
      done = dones i;
    })

nothing-is : (xs : List Referent) → is_nothing xs ≡ true → xs ≡ []
nothing-is [] h = refl
nothing-is (x ∷ xs) h = absurd (false≢true h)

made-without : (limits : Limits) (s : State) (r : Route) → HasRoomFor limits s r → Waits limits (laid r r.marks ∷ []) s.done → r.refs ≡ []
    → state_after limits (laid r r.marks ∷ []) s ≡ record (with_route r s) { done = s.done ++ map edit_of (laid r r.marks ∷ []) }
made-without limits s r h w none =
    let c = laid r r.marks in
    let room : length s.done + 1 ≤ limits.edits = w.room in
    let good = none-of (bad_mark (length r.course) r.marks) (its-parts r).1 in
    laid-as limits s r r.marks h good w.new.0 (omega (arith, room))
    ∙ (λ i. record (accept c.key c.command (set_route r.name r.course r.marks s)) { referents = λ name. on-course r.course (sym none i) s.referents name })

pub commands_make_the_route : CommandsMakeTheRoute
commands_make_the_route limits s r h = by (is_nothing r.refs) refl
  where
    waits : (cs : List Record) → makes_route r ≡ cs → each_two differ cs ≡ true → Waits limits cs s.done
    waits cs is apart = record {
      new = subst (λ (cs : List Record). AreNew cs s.done) is h.keys;
      apart = apart;
      room = subst (λ (cs : List Record). length s.done + length cs ≤ limits.edits) is h.edits;
    }

    others : each_two differ (laid_with_referents r) ≡ true
    others =
        let marks = chainage_marks (length r.course) in
        let sorted = (and_parts (each_two referent_before r.refs) (list_all (λ x. nat_lt x.at (length r.course)) r.refs) (its-parts r).2).0 in
        and_from (list_all (differ (laid r marks)) (map (set_on r.name) r.refs ++ calibrated r ∷ [])) (each_two differ (map (set_on r.name) r.refs ++ calibrated r ∷ []))
        (laid-differs r marks r.refs) (refs-apart r.name r.refs (calibrated r) sorted (λ x. refl))

    so : (cs : List Record) → makes_route r ≡ cs → state_after limits cs s ≡ record (with_route r s) { done = s.done ++ map edit_of cs }
        → state_after limits (makes_route r) s ≡ record (with_route r s) { done = s.done ++ map edit_of (makes_route r) }
    so cs is made = subst (λ (cs : List Record). state_after limits cs s ≡ record (with_route r s) { done = s.done ++ map edit_of cs }) (sym is) made

    by : (b : Bool) → is_nothing r.refs ≡ b → state_after limits (makes_route r) s ≡ record (with_route r s) { done = s.done ++ map edit_of (makes_route r) }
    by true e =
        let is : makes_route r ≡ laid r r.marks ∷ [] = ap (λ (b : Bool). if b then laid r r.marks ∷ [] else laid_with_referents r) e in
        so (laid r r.marks ∷ []) is (made-without limits s r h (waits (laid r r.marks ∷ []) is refl) (nothing-is r.refs e))
    by false e =
        let is : makes_route r ≡ laid_with_referents r = ap (λ (b : Bool). if b then laid r r.marks ∷ [] else laid_with_referents r) e in
        so (laid_with_referents r) is (made-with limits s r h (waits (laid_with_referents r) is others))
