-- The checks of a realignment, in their order.
use Rattle.std.proofs.Common.{◌≡◌, ℕ, ◌+◌, ◌-◌, ◌≤◌, Bool, true, false, cond, ◌⊎◌, inl, inr, List, [], ◌∷◌, ◌++◌, take, drop, length, Option, Some, None, Result, Ok, Err, refl, sym, ap, subst, ◌∙◌, arith, length-append}
use Rattle.std.specs.List.{find, list_all}
use Rattle.std.proofs.lemmas.Bool.{not-true, and_parts, or_left, or_right, or_cases, or_parts, ltb-true, ltb-false, lt-ltb, leb-true, le-leb}
use Rattle.std.specs.Prelude.{◌||◌, ◌&&◌, not, nat_lt, nat_le, nat_eq, slice_range, unwrap_or}
use Rattle.std.specs.Option.{option_map, ok_or}
use Rattle.lrs_inventory.specs.Prelude.{each_two, Name, Ground, Piece, Mark, course_of, is_too_long, longest_route, Referent, Alignment, referent_before, Span, are_rows, end_by, Cause, Image, RouteRow, state_of, route_entry, attempt, ◌>>=◌, ◌>>◌, set_route, is_span, are_spans_of, IsSound, State, is_named}
use Rattle.lrs_measure.specs.Lists.{is_nothing, In}
use Rattle.lrs_element.specs.Course.{continues, piece_count}
use Rattle.lrs_measure.specs.Limits.{most_pieces}
use Rattle.lrs_measure.proofs.Members.{all_at, all_of}
use Rattle.lrs_events.specs.RouteSpans.Realignment.{have_room_behind}
use Rattle.lrs_machine.specs.declared.answer.Cause.TheVariants as cause
use Rattle.lrs_machine.specs.declared.command.Command.TheVariants as verb
use Rattle.lrs_machine.specs.Machine.{refuse_if, check_pieces, check_free, check_marks, abandon}
use Rattle.lrs_image_sound.proofs.Fitting.{fits}
use Rattle.lrs_image_laws.proofs.Rewriting.{old_spans}
use Rattle.lrs_image_laws.specs.Realignments.{replaced}
use Rattle.lrs_image_laws.proofs.Replaced.{replaced_length}
use Rattle.lrs_inventory.specs.declared.plan.Stop.{Stop}
use Rattle.lrs_inventory.specs.declared.plan.Stop.TheVariants.{Refused, Memory}
use Rattle.lrs_verbs.specs.declared.routes.realign.NewLine.{NewLine}
use Rattle.lrs_inventory.specs.NewCourses.{new_course, new_marks}
use Rattle.lrs_inventory.specs.Plans.{Answers}
use Rattle.lrs_verbs.specs.RouteVerbs.Realignments.{check_stretch, short_course, free_course, new_line}
use Rattle.lrs_inventory.proofs.Known.{route_value}
use Rattle.lrs_inventory.proofs.Stopping.{refusal}

-- ---- one answer after another

pub stops_there : {X Y : Type 0} (r : Result X Cause) (x : X) (f : X → Result Y Cause) (e : Stop) → r ≡ Ok x → Answers (f x) (Err e) → Answers (r >>= f) (Err e)
stops_there r x f (Refused c) is h = ap (λ q. q >>= f) is ∙ h
stops_there r x f Memory is h = tt

-- a check that fails, as `refuse_if` tells it
pub refused_there : {Y : Type 0} (fails test : Bool) (c : Cause) (r : Result (Unit {0}) Stop) (rest : Result Y Cause) (e : Stop) → r ≡ refusal fails c → r ≡ Err e → (fails ≡ true → test ≡ true) → Answers (refuse_if test c >> rest) (Err e)
refused_there false test c r rest e is err why = absurd (cc (sym is ∙ err))
refused_there true test c r rest e is err why = by e (sym is ∙ err)
  where
    by : (e : Stop) → refusal true c ≡ Err e → Answers (refuse_if test c >> rest) (Err e)
    by Memory h = tt
    by (Refused d) h = let same : c ≡ d = cc h in ap (λ b. refuse_if b c >> rest) (why refl) ∙ ap Err same

-- ---- a longer course is in no fewer pieces

one_more : (g : Ground) (rest : List Ground) → piece_count rest ≤ piece_count (g ∷ rest)
one_more g [] = omega arith
one_more g (h ∷ rest) = elim (continues g h) as (λ b. piece_count (h ∷ rest) ≤ cond b (piece_count (h ∷ rest)) (piece_count (h ∷ rest) + 1)) [ true ↦ omega arith | false ↦ omega arith ]

some_piece : (g : Ground) (rest : List Ground) → 1 ≤ piece_count (g ∷ rest)
some_piece g [] = omega arith
some_piece g (h ∷ rest) = let a = some_piece h rest in let b = one_more g (h ∷ rest) in omega (arith, a, b)

rear_fewer : (xs ys : List Ground) → piece_count ys ≤ piece_count (xs ++ ys)
rear_fewer [] ys = omega arith
rear_fewer (x ∷ xs) ys = let a = rear_fewer xs ys in let b = one_more x (xs ++ ys) in omega (arith, a, b)

front_fewer : (xs ys : List Ground) → piece_count xs ≤ piece_count (xs ++ ys)
front_fewer [] ys = omega arith
front_fewer (x ∷ []) ys = some_piece x ys
front_fewer (x ∷ z ∷ zs) ys =
    let a = front_fewer (z ∷ zs) ys in
    elim (continues x z) as (λ b. cond b (piece_count (z ∷ zs)) (piece_count (z ∷ zs) + 1) ≤ cond b (piece_count ((z ∷ zs) ++ ys)) (piece_count ((z ∷ zs) ++ ys) + 1)) [ true ↦ a | false ↦ omega (arith, a) ]

pub still_too_long : (a b c : List Ground) → is_too_long b ≡ true → is_too_long (a ++ b ++ c) ≡ true
still_too_long a b c h = by (or_cases (nat_lt most_pieces (piece_count b)) (nat_lt longest_route (length b)) h)
  where
    by : (nat_lt most_pieces (piece_count b) ≡ true) ⊎ (nat_lt longest_route (length b) ≡ true) → is_too_long (a ++ b ++ c) ≡ true
    by (inl e) =
        let l = ltb-true most_pieces (piece_count b) e in
        let x = rear_fewer a b in
        let y = front_fewer (a ++ b) c in
        or_left _ _ (lt-ltb most_pieces (piece_count (a ++ b ++ c)) (omega (arith, l, x, y)))
    by (inr e) =
        let l = ltb-true longest_route (length b) e in
        let x = length-append a b in
        let y = length-append (a ++ b) c in
        or_right _ _ (lt-ltb longest_route (length (a ++ b ++ c)) (omega (arith, l, x, y)))

-- ---- the ground that comes

module _ (s : State) (pieces : List Piece) where
  abbrev first : Result (Unit {0}) Cause → Result (Unit {0}) Cause → Bool → Result (List Ground) Cause
  first k f long = k >> (f >> (refuse_if long cause.TooLong >> Ok (course_of pieces)))

  abbrev alone : Result (Unit {0}) Cause → Bool → Result (List Ground) Cause
  alone k long = k >> (refuse_if long cause.TooLong >> Ok (course_of pieces))

  -- a free course is a course, and free
  pub free_is : (g : List Ground) → free_course s pieces ≡ Ok g → (new_course s pieces ≡ Ok g) × (check_free s pieces ≡ Ok tt)
  free_is g h = by (check_pieces s pieces) (check_free s pieces) (is_too_long (course_of pieces)) h
    where
      by : (k f : Result (Unit {0}) Cause) (long : Bool) → first k f long ≡ Ok g → (alone k long ≡ Ok g) × (f ≡ Ok tt)
      by (Err x) f long is = absurd (cc is)
      by (Ok u) (Err x) long is = absurd (cc is)
      by (Ok u) (Ok v) true is = absurd (cc is)
      by (Ok u) (Ok v) false is = (is, refl)

-- ---- the new line

-- what is known of a line that is given
pub record IsLine (s : State) (old : List Ground) (from to : ℕ) (pieces : List Piece) (marks : List Mark) (l : NewLine) : Type 0 where
  pub ground : free_course s pieces ≡ Ok l.come
  pub course : l.course ≡ replaced from to l.come old
  pub short : is_too_long l.course ≡ false
  pub marked : new_marks (length l.course) marks ≡ Ok l.marks

module _ (s : State) (old : List Ground) (from to : ℕ) (pieces : List Piece) (marks : List Mark) where
  abbrev pub then_marks : List Ground → List Ground → Result NewLine Cause
  then_marks ground course = refuse_if (is_nothing course) cause.NothingLeft >> (new_marks (length course) marks >>= (λ line. Ok (record { come = ground; course = course; marks = line })))

  abbrev pub then_course : List Ground → Result NewLine Cause
  then_course ground = short_course (replaced from to ground old) >>= then_marks ground

  pub line_is : (l : NewLine) → new_line s old from to pieces marks ≡ Ok l → IsLine s old from to pieces marks l
  line_is l h = on_ground (free_course s pieces) refl h
    where
      on_marks : (ground : List Ground) → free_course s pieces ≡ Ok ground → is_too_long (replaced from to ground old) ≡ false → (none : Bool) (m : Result (List Mark) Cause) → new_marks (length (replaced from to ground old)) marks ≡ m
          → (refuse_if none cause.NothingLeft >> (m >>= (λ line. Ok (record { come = ground; course = replaced from to ground old; marks = line })))) ≡ Ok l → IsLine s old from to pieces marks l
      on_marks ground free short true m em is = absurd (cc is)
      on_marks ground free short false (Err c) em is = absurd (cc is)
      on_marks ground free short false (Ok line) em is =
          let same : (let x : NewLine = record { come = ground; course = replaced from to ground old; marks = line } in x) ≡ l = cc is in
          subst (IsLine s old from to pieces marks) same (record { ground = free; course = refl; short = short; marked = em })

      on_course : (ground : List Ground) → free_course s pieces ≡ Ok ground → (long : Bool) → is_too_long (replaced from to ground old) ≡ long
          → ((refuse_if long cause.TooLong >> Ok (replaced from to ground old)) >>= then_marks ground) ≡ Ok l → IsLine s old from to pieces marks l
      on_course ground free true el is = absurd (cc is)
      on_course ground free false el is = on_marks ground free el (is_nothing (replaced from to ground old)) (new_marks (length (replaced from to ground old)) marks) refl is

      on_ground : (r : Result (List Ground) Cause) → free_course s pieces ≡ r → (r >>= then_course) ≡ Ok l → IsLine s old from to pieces marks l
      on_ground (Err c) er is = absurd (cc is)
      on_ground (Ok ground) er is = on_course ground er (is_too_long (replaced from to ground old)) refl is

-- ---- where the stretch lies, and what is behind it

pub lies : (len from to : ℕ) (pieces : List Piece) → check_stretch len from to pieces ≡ Ok tt → (from ≤ to) × (to ≤ len)
lies len from to pieces h = by (nat_lt len from) (nat_lt len to) (nat_lt to from) (nat_eq from to && is_nothing pieces) refl refl h
  where
    by : (a b c d : Bool) → nat_lt len to ≡ b → nat_lt to from ≡ c → (refuse_if (a || b) cause.OffRoute >> refuse_if (c || d) cause.Empty) ≡ Ok tt → (from ≤ to) × (to ≤ len)
    by true b c d eb ec is = absurd (cc is)
    by false true c d eb ec is = absurd (cc is)
    by false false true d eb ec is = absurd (cc is)
    by false false false true eb ec is = absurd (cc is)
    by false false false false eb ec is = (ltb-false to from ec, ltb-false len to eb)

module _ (old come new : List Ground) (from to : ℕ) (low : from ≤ to) (high : to ≤ length old) (new_is : new ≡ replaced from to come old) (short : is_too_long new ≡ false) where
  total : length new ≡ (from + length come) + (length old - to)
  total = ap length new_is ∙ replaced_length old from to low high come

  longest : length new ≤ longest_route
  longest = ltb-false longest_route (length new) (or_parts (nat_lt most_pieces (piece_count new)) (nat_lt longest_route (length new)) short).1

  pub limit : from + length come ≤ longest_route
  limit = let a = total in let b = longest in omega (arith, a, b)

  -- rows on the old course end on the new one
  pub room : (rows : List Span) → end_by (length old) rows ≡ true → have_room_behind to (from + length come) rows ≡ true
  room rows ends = all_of (λ r. nat_le ((r.to - to) + (from + length come)) longest_route) rows (λ r m.
      let a = total in
      let b = longest in
      let e = leb-true r.to (length old) (all_at (λ r. nat_le r.to (length old)) r rows ends m) in
      le-leb ((r.to - to) + (from + length come)) longest_route (omega (arith, a, b, e, high)))

-- the referents of a route stand before the end of the longest one
pub in_limits : (r : RouteRow) → list_all (λ q. nat_lt q.at longest_route) r.route.refs ≡ true
in_limits r = all_of (λ q. nat_lt q.at longest_route) r.route.refs (λ q m.
    let short = not-true (is_too_long r.route.course) (and_parts (not (is_nothing r.route.course)) (not (is_too_long r.route.course)) (fits r).0).1 in
    let most = ltb-false longest_route (length r.route.course) (or_parts (nat_lt most_pieces (piece_count r.route.course)) (nat_lt longest_route (length r.route.course)) short).1 in
    let low = ltb-true q.at (length r.route.course) (all_at (λ (q : Referent). nat_lt q.at (length r.route.course)) q r.route.refs
    (and_parts (each_two referent_before r.route.refs) (list_all (λ (q : Referent). nat_lt q.at (length r.route.course)) r.route.refs) (fits r).2).1 m) in
    lt-ltb q.at longest_route (omega (arith, most, low)))

-- the rows of a route end on it
pub end_there : (i : Image) (r : RouteRow) → IsSound i → In r i.routes → end_by (length r.route.course) r.spans ≡ true
end_there i r s m =
    let spans = all_at (λ (e : RouteRow). are_spans_of i.assets (record { course = e.route.course; rows = e.spans })) r i.routes (old_spans i s) m in
    let each = (and_parts (are_rows r.spans) (list_all (is_span i.assets (length r.route.course)) r.spans) spans).1 in
    all_of (λ q. nat_le q.to (length r.route.course)) r.spans (λ q k. (and_parts (nat_le q.to (length r.route.course)) _ (all_at (is_span i.assets (length r.route.course)) q r.spans each k)).0)

-- ---- what the verb does

-- one check after another, where what is too long alone is too long in the whole
in_steps : (x y k f : Result (Unit {0}) Cause) (long : Bool) (c : List Ground) (g : List Ground → Result NewLine Cause) (t : NewLine → Result State Cause) (rest : Result State Cause) → (g c >>= t) ≡ rest → (long ≡ true → rest ≡ Err cause.TooLong)
    → (x >> (y >> (k >> (f >> rest)))) ≡ ((x >> y) >> (((k >> (f >> (refuse_if long cause.TooLong >> Ok c))) >>= g) >>= t))
in_steps (Err a) y k f long c g t rest h w = refl
in_steps (Ok u) (Err a) k f long c g t rest h w = refl
in_steps (Ok u) (Ok v) (Err a) f long c g t rest h w = refl
in_steps (Ok u) (Ok v) (Ok p) (Err a) long c g t rest h w = refl
in_steps (Ok u) (Ok v) (Ok p) (Ok q) true c g t rest h w = w refl
in_steps (Ok u) (Ok v) (Ok p) (Ok q) false c g t rest h w = sym h

then_one : (long : Bool) (new : List Ground) (g : List Ground → Result NewLine Cause) (t : NewLine → Result State Cause)
    → (((refuse_if long cause.TooLong >> Ok new) >>= g) >>= t) ≡ (refuse_if long cause.TooLong >> (g new >>= t))
then_one true new g t = refl
then_one false new g t = refl

then_last : (none : Bool) (m : Result (Unit {0}) Cause) (marks : List Mark) (f : List Mark → NewLine) (t : NewLine → Result State Cause)
    → ((refuse_if none cause.NothingLeft >> ((m >> Ok marks) >>= (λ line. Ok (f line)))) >>= t) ≡ (refuse_if none cause.NothingLeft >> (m >> t (f marks)))
then_last true m marks f t = refl
then_last false (Err c) marks f t = refl
then_last false (Ok u) marks f t = refl

module _ (route : Name) (from to : ℕ) (given : Option (List Piece)) (marks : List Mark) (i : Image) (n : ℕ) where
  abbrev pieces : List Piece
  pieces = unwrap_or given []

  abbrev written : Alignment → NewLine → Result State Cause
  written a l = Ok (set_route route l.course l.marks (abandon n (slice_range a.course from to) (state_of i)))

  abbrev then_line : Alignment → Result State Cause
  then_line a = check_stretch (length a.course) from to pieces >> (new_line (state_of i) a.course from to pieces marks >>= written a)

  abbrev does : Alignment → Result State Cause
  does a =
      refuse_if (nat_lt (length a.course) from || nat_lt (length a.course) to) cause.OffRoute
      >> (refuse_if (nat_lt to from || (nat_eq from to && is_nothing pieces)) cause.Empty
      >> (check_pieces (state_of i) pieces
      >> (check_free (state_of i) pieces
      >> (refuse_if (is_too_long (replaced from to (course_of pieces) a.course)) cause.TooLong
      >> (refuse_if (is_nothing (replaced from to (course_of pieces) a.course)) cause.NothingLeft
      >> (check_marks (length (replaced from to (course_of pieces) a.course)) marks
      >> Ok (set_route route (replaced from to (course_of pieces) a.course) marks (abandon n (slice_range a.course from to) (state_of i)))))))))

  same : (a : Alignment) → does a ≡ then_line a
  same a =
      let new = replaced from to (course_of pieces) a.course in
      let rest = refuse_if (is_too_long new) cause.TooLong >> (refuse_if (is_nothing new) cause.NothingLeft >> (check_marks (length new) marks >> Ok (set_route route new marks (abandon n (slice_range a.course from to) (state_of i))))) in
      in_steps (refuse_if (nat_lt (length a.course) from || nat_lt (length a.course) to) cause.OffRoute) (refuse_if (nat_lt to from || (nat_eq from to && is_nothing pieces)) cause.Empty)
      (check_pieces (state_of i) pieces) (check_free (state_of i) pieces) (is_too_long (course_of pieces)) (course_of pieces) (then_course (state_of i) a.course from to pieces marks) (written a) rest
      (then_one (is_too_long new) new (then_marks (state_of i) a.course from to pieces marks (course_of pieces)) (written a)
      ∙ ap (λ r. refuse_if (is_too_long new) cause.TooLong >> r)
      (then_last (is_nothing new) (check_marks (length new) marks) marks (λ line. record { come = course_of pieces; course = new; marks = line }) (written a)))
      (λ h. ap (λ b. refuse_if b cause.TooLong >> (refuse_if (is_nothing new) cause.NothingLeft >> (check_marks (length new) marks >> Ok (set_route route new marks (abandon n (slice_range a.course from to) (state_of i))))))
      (still_too_long (take from a.course) (course_of pieces) (drop to a.course) h))

  attempt_is : (o : Option RouteRow) → find (is_named route) i.routes ≡ o → attempt n (verb.Realign route from to given marks) (state_of i) ≡ (ok_or (option_map (λ e. (route_entry e).1) o) cause.NoRoute >>= then_line)
  unfolding attempt
  attempt_is o is = ap (λ g. ok_or g cause.NoRoute >>= does) (route_value i route ∙ ap (option_map (λ (e : RouteRow). (route_entry e).1)) is) ∙ (λ j. ok_or (option_map (λ (e : RouteRow). (route_entry e).1) o) cause.NoRoute >>= (λ a. same a j))

  pub refuses_route : find (is_named route) i.routes ≡ None → attempt n (verb.Realign route from to given marks) (state_of i) ≡ Err cause.NoRoute
  refuses_route none = attempt_is None none

  module _ (r : RouteRow) (found : find (is_named route) i.routes ≡ Some r) where
    pub refuses_stretch : (c : Cause) → check_stretch (length r.route.course) from to pieces ≡ Err c → attempt n (verb.Realign route from to given marks) (state_of i) ≡ Err c
    refuses_stretch c bad = attempt_is (Some r) found ∙ ap (λ q. q >> (new_line (state_of i) r.route.course from to pieces marks >>= written (route_entry r).1)) bad

    module _ (good : check_stretch (length r.route.course) from to pieces ≡ Ok tt) where
      pub refuses_line : (c : Cause) → new_line (state_of i) r.route.course from to pieces marks ≡ Err c → attempt n (verb.Realign route from to given marks) (state_of i) ≡ Err c
      refuses_line c bad = attempt_is (Some r) found ∙ (λ j. good j >> (bad j >>= written (route_entry r).1))

      pub writes : (l : NewLine) → new_line (state_of i) r.route.course from to pieces marks ≡ Ok l
          → attempt n (verb.Realign route from to given marks) (state_of i) ≡ Ok (set_route route l.course l.marks (abandon n (slice_range r.route.course from to) (state_of i)))
      writes l made = attempt_is (Some r) found ∙ (λ j. good j >> (made j >>= written (route_entry r).1))
