-- Routes run over known links, and what is entered lies on them, after every command.
use Rattle.std.proofs.Common.{◌≡◌, ℕ, ◌+◌, ◌-◌, ◌<◌, ◌≤◌, Bool, true, false, cond, ◌⊎◌, inl, inr, ⊎_elim, List, [], ◌∷◌, ◌++◌, map, take, drop, length, get_or, Option, Some, None, position, refl, sym, ap, subst, ◌∙◌, arith}
use Rattle.std.specs.Prelude.{Result, IfOk, ◌&&◌, ◌||◌, not, nat_eq, nat_lt, nat_le, is_some, is_none, if◌then◌else◌, unwrap_or}
use Rattle.std.specs.List.{list_any, list_all, position_or_len}
use Rattle.std.specs.Option.{ok_or}
use Rattle.std.specs.declared.cmp.Ordering.{Ordering}
use Rattle.std.specs.declared.cmp.Ordering.TheVariants.{Less, Equal, Greater}
use Rattle.std.specs.Ordering.{nat_cmp, eq_by_cmp}
use Rattle.std.proofs.lemmas.Bool.{false≢true, both_ways, not-true, eq-eqb, cases_order, and_parts, and_from, or_parts, or_cases, ltb-true, ltb-false, lt-ltb, eqb-true, false_from_ne_true}
use Rattle.std.proofs.lemmas.Cmp.{nat_cmp_total}
use Rattle.std.proofs.lemmas.List.{length-map, length-reverse, get_or-map, get_or-reverse}
use Rattle.std.proofs.lemmas.List.Folds.{list_all-append}
use Rattle.std.proofs.lemmas.List.Sums.{fails_before_first}
use Rattle.std.proofs.lemmas.Map.Lookups.{exact_unsigned, exact_bytes}
use Rattle.lrs_measure.specs.Texts.{Name, name_cmp, same_name}
use Rattle.lrs_measure.specs.Lists.{is_nothing}
use Rattle.lrs_element.specs.declared.link.Ground.{Ground}
use Rattle.lrs_element.specs.declared.link.Piece.{Piece}
use Rattle.lrs_element.specs.declared.marks.Mark.{Mark}
use Rattle.lrs_element.specs.Course.{expand, course_of, turned, is_too_long, first_repeated}
use Rattle.lrs_element.specs.Marks.{is_inner_mark, joined_marks, is_out_of_range, mirrored, marks_to, marks_from}
use Rattle.lrs_measure.specs.Limits.{most_marks}
use Rattle.lrs_measure.proofs.Members.{all_weaker, any_found, all_at, all_of, In-take, In-drop, flat_map_found}
use Rattle.lrs_measure.proofs.Places.{all_places, passes_at}
use Rattle.lrs_measure.proofs.Filters.{all-filter}
use Rattle.lrs_element.specs.Pieces.{piece_len}
use Rattle.lrs_element.proofs.Expanding.{length-expand, get_or-expand}
use Rattle.lrs_position.specs.Locations.{Alignment}
use Rattle.lrs_events.specs.declared.class.Kind.{Kind}
use Rattle.lrs_events.specs.declared.side.Side.{Side}
use Rattle.lrs_events.specs.declared.side.Side.TheVariants.{B}
use Rattle.lrs_events.specs.Places.{Place, same_place, is_among, places_at, places_on}
use Rattle.lrs_machine.specs.Segments.{is_exclusive}
use Rattle.lrs_machine.specs.declared.answer.Cause.{Cause}
use Rattle.lrs_machine.specs.declared.answer.Cause.TheVariants as cause
use Rattle.lrs_machine.specs.declared.command.NewAsset.{NewAsset}
use Rattle.lrs_machine.specs.declared.command.Command.{Command}
use Rattle.lrs_machine.specs.declared.command.Command.TheVariants as verb
use Rattle.lrs_machine.specs.Register.{Register, by_order, put, get, insert, contains_key, entries}
use Rattle.lrs_machine.specs.State.{State, Asset, Retired}
use Rattle.lrs_machine.specs.Machine.{◌>>=◌, ◌>>◌, refuse_if, refuse_at, route_named, is_wrong_kind, is_bad_piece, check_pieces, check_free, check_marks, located_chainage, kind_of_asset, part_of, abandon, take_away, is_of_class, set_route, drop_route}
use Rattle.lrs_machine.specs.Machine.{located_stretch, is_empty_stretch, Wanted, wanted_of, first_holder, enter_asset, do_join_of, attempt, length_of_link}
use Rattle.lrs_machine.specs.Laws.{IsGrounded, is_known, are_numbered}
use Rattle.lrs_machine.proofs.Checks.{behind, bind, bind_known, unless, unless_at, given}
use Rattle.lrs_machine.proofs.Pairs.{beside_ground}
use Rattle.lrs_machine.proofs.Registers.{find-put, same_key}
use Rattle.lrs_machine.proofs.Finding.{find_found}

-- ---- tests of all

module _ {X : Type 0} (p : X → Bool) where
  all-take : (n : ℕ) (xs : List X) → list_all p xs ≡ true → list_all p (take n xs) ≡ true
  all-take n xs h = all_of p (take n xs) (λ x m. all_at p x xs h (In-take x n xs m))

  all-drop : (n : ℕ) (xs : List X) → list_all p xs ≡ true → list_all p (drop n xs) ≡ true
  all-drop n xs h = all_of p (drop n xs) (λ x m. all_at p x xs h (In-drop x n xs m))

  all-both : (xs ys : List X) → list_all p xs ≡ true → list_all p ys ≡ true → list_all p (xs ++ ys) ≡ true
  all-both xs ys h k = list_all-append p xs ys ∙ and_from (list_all p xs) (list_all p ys) h k

  -- a search that finds nothing: each fails
  all_fail : (xs : List X) → position p xs ≡ None → list_all (λ x. not (p x)) xs ≡ true
  all_fail xs h = all_places (λ x. not (p x)) xs (λ k d lt. ap not (fails_before_first p xs k d (let n = past in omega (arith, n, lt))))
    where
      past : length xs ≤ position_or_len p xs
      past = ltb-false _ _ (false_from_ne_true _ (λ t. absurd (cc (sym (ap (λ (b : Bool). if b then Some (position_or_len p xs) else None) t) ∙ h))))

-- ---- rows that are put

-- a test that the new row passes, and an old one with the new value
all-put : {K X : Type 0} (R : K → K → Ordering) (p : K × X → Bool) (k : K) (v : X) (rows : List (K × X)) → list_all p rows ≡ true → p (k, v) ≡ true → ((e : K × X) → p e ≡ true → p (e.0, v) ≡ true)
    → list_all p (put R k v rows) ≡ true
all-put R p k v [] h is still = and_from (p (k, v)) true is refl
all-put {K = K} {X = X} R p k v (e ∷ es) h is still = by (R k e.0) (and_parts (p e) (list_all p es) h) (λ both. all-put R p k v es both is still)
  where
    by : (o : Ordering) → (p e ≡ true) × (list_all p es ≡ true) → (list_all p es ≡ true → list_all p (put R k v es) ≡ true)
        → list_all p (by_order o ((k, v) ∷ e ∷ es) ((e.0, v) ∷ es) (e ∷ put R k v es)) ≡ true
    by Less both rest = and_from (p (k, v)) (list_all p (e ∷ es)) is h
    by Equal both rest = and_from (p (e.0, v)) (list_all p es) (still e both.0) both.1
    by Greater both rest = and_from (p e) (list_all p (put R k v es)) both.0 (rest both.1)

-- Rows stay in the order of their numbers.
numbered-put : {X : Type 0} (k : ℕ) (v : X) (rows : List (ℕ × X)) → are_numbered rows ≡ true → are_numbered (put nat_cmp k v rows) ≡ true
numbered-put k v [] h = refl
numbered-put {X = X} k v (e ∷ es) h = by (nat_lt k e.0) (nat_eq k e.0) refl refl both (numbered-put k v es both.1)
  where
    both : (list_all (λ f. nat_lt e.0 f.0) es ≡ true) × (are_numbered es ≡ true)
    both = and_parts (list_all (λ f. nat_lt e.0 f.0) es) (are_numbered es) h

    by : (b c : Bool) → nat_lt k e.0 ≡ b → nat_eq k e.0 ≡ c → (list_all (λ f. nat_lt e.0 f.0) es ≡ true) × (are_numbered es ≡ true) → are_numbered (put nat_cmp k v es) ≡ true
        → are_numbered (by_order (cond b Less (cond c Equal Greater)) ((k, v) ∷ e ∷ es) ((e.0, v) ∷ es) (e ∷ put nat_cmp k v es)) ≡ true
    by true c less is both rest =
        let low = ltb-true k e.0 less in
        and_from (list_all (λ f. nat_lt k f.0) (e ∷ es)) (are_numbered (e ∷ es))
        (and_from (nat_lt k e.0) (list_all (λ f. nat_lt k f.0) es) less
        (all_weaker (λ f. nat_lt e.0 f.0) (λ f. nat_lt k f.0) es (λ f l. let next = ltb-true e.0 f.0 l in lt-ltb k f.0 (omega (arith, low, next))) both.0)) h
    by false true less is both rest = and_from (list_all (λ f. nat_lt e.0 f.0) es) (are_numbered es) both.0 both.1
    by false false less is both rest =
        let above = ltb-false k e.0 less in
        let other : k ≡ e.0 → ⊥ = λ same. both_ways (nat_eq k e.0) is (subst (λ n. nat_eq k n ≡ true) same (eq-eqb k k refl)) in
        and_from (list_all (λ f. nat_lt e.0 f.0) (put nat_cmp k v es)) (are_numbered (put nat_cmp k v es))
        (all-put nat_cmp (λ (f : ℕ × X). nat_lt e.0 f.0) k v es both.0 (lt-ltb e.0 k (before (cases_order k e.0) above other)) (λ f later. later)) rest
      where
        before : (k ≡ e.0) ⊎ ((k < e.0) ⊎ (e.0 < k)) → e.0 ≤ k → (k ≡ e.0 → ⊥) → e.0 < k
        before (inl same) above other = absurd (other same)
        before (inr (inl less)) above other = absurd (omega arith)
        before (inr (inr more)) above other = more

-- ---- courses

-- whether the ground is of a known link
abbrev on : Register nat_cmp ℕ → Ground → Bool
on links g = nat_lt g.mm (unwrap_or (get links g.link) 0)

on_turned : (links : Register nat_cmp ℕ) (course : List Ground) → list_all (on links) course ≡ true → list_all (on links) (turned course) ≡ true
on_turned links course h = all_places (on links) (turned course) (λ j d lt. at j d lt)
  where
    back : Ground → Ground
    back g = record { link = g.link; mm = g.mm; forward = not g.forward }

    at : (j : ℕ) (d : Ground) → j < length (turned course) → on links (get_or (turned course) j d) ≡ true
    at j d lt =
        let n = length-reverse (map back course) in
        let m = length-map course back in
        let inside : j < length (map back course) = omega (arith, n, lt) in
        let place : length (map back course) - 1 - j < length course = omega (arith, m, inside) in
        ap (on links) (get_or-reverse (map back course) j d inside ∙ get_or-map back course (length (map back course) - 1 - j) d d place)
        ∙ passes_at (on links) course (length (map back course) - 1 - j) d h place

-- a piece that is not bad runs over its link
on_piece : (s : State) (p : Piece) → is_bad_piece s p ≡ false → list_all (on s.links) (expand p) ≡ true
on_piece s p good = all_places (on s.links) (expand p) (λ j d lt.
    let inside : j < piece_len p = omega (arith, lt, length-expand p) in
    ap (on s.links) (get_or-expand p j d inside) ∙ at p.forward j inside)
  where
    high : p.to ≤ length_of_link s p.link
    high = ltb-false (length_of_link s p.link) p.to (or_parts (nat_le p.to p.from) (nat_lt (length_of_link s p.link) p.to) good).1

    at : (f : Bool) (j : ℕ) → j < p.to - p.from → nat_lt (cond f (p.from + j) (p.to - 1 - j)) (length_of_link s p.link) ≡ true
    at true j lt = lt-ltb (p.from + j) (length_of_link s p.link) (omega (arith, lt, high))
    at false j lt = lt-ltb (p.to - 1 - j) (length_of_link s p.link) (omega (arith, lt, high))

on_course : (s : State) (pieces : List Piece) → list_all (λ p. not (is_bad_piece s p)) pieces ≡ true → list_all (on s.links) (course_of pieces) ≡ true
on_course s [] h = refl
on_course s (p ∷ pieces) h =
    let both = and_parts (not (is_bad_piece s p)) (list_all (λ q. not (is_bad_piece s q)) pieces) h in
    all-both (on s.links) (expand p) (course_of pieces) (on_piece s p (not-true (is_bad_piece s p) both.0)) (on_course s pieces both.1)

-- behind the checks of pieces their course runs over known links
checked : {B : Type 0} (P : B → Type 0) (s : State) (pieces : List Piece) (q : Result B Cause) → (list_all (on s.links) (course_of pieces) ≡ true → IfOk q P) → IfOk (check_pieces s pieces >> q) P
checked P s pieces q h = by (list_any (λ p. is_none (get s.links p.link)) pieces) (position (is_bad_piece s) pieces) (refuse_at (first_repeated [] pieces) cause.Taken) refl
  where
    by : (b : Bool) (o : Option ℕ) (r : Result (Unit {0}) Cause) → position (is_bad_piece s) pieces ≡ o → IfOk ((refuse_if b cause.NoLink >> (refuse_at o cause.BadPiece >> r)) >> q) P
    by true o r e = tt
    by false (Some i) r e = tt
    by false None r e = behind P r q (h (on_course s pieces (all_fail (is_bad_piece s) pieces e)))

-- the places beside a course lie where the course does
among_on : (s : State) (side : Side) (course : List Ground) (p : Place) → list_all (on s.links) course ≡ true → is_among (places_on side course) p ≡ true → is_known s (p.link, p.mm) ≡ true
among_on s side course p h k =
    let place = any_found (same_place p) (places_on side course) k in
    let ground = flat_map_found (places_at side) place.0 course place.1 in
    let is = beside_ground side ground.0 place.0 ground.2 in
    let same = and_parts _ _ (and_parts _ _ place.2).0 in
    let link : p.link ≡ ground.0.link = eqb-true _ _ same.0 ∙ is.0 in
    let mm : p.mm ≡ ground.0.mm = eqb-true _ _ same.1 ∙ is.1 in
    (λ i. nat_lt (mm i) (length_of_link s (link i))) ∙ all_at (on s.links) ground.0 course h ground.1

-- ---- what a command changes

module _ (s : State) (h : IsGrounded s) where
  -- what is given under a name runs over known links
  route_on : (name : Name) (a : Alignment) → get s.routes name ≡ Some a → list_all (on s.links) a.course ≡ true
  route_on name a is = all_at (λ (e : Name × Alignment). list_all (on s.links) e.1.course) (name, a) (entries s.routes) h.courses (find_found exact_bytes name a (entries s.routes) is)

  named : (P : State → Type 0) (name : Name) (f : Alignment → Result State Cause) → ((a : Alignment) → list_all (on s.links) a.course ≡ true → IfOk (f a) P) → IfOk (route_named s name >>= f) P
  named P name f k = bind P (route_named s name) f (λ a is. k a (route_on name a (given (get s.routes name) cause.NoRoute a is)))

  set : (name : Name) (course : List Ground) (marks : List Mark) → list_all (on s.links) course ≡ true → IsGrounded (set_route name course marks s)
  set name course marks is = record {
    courses = all-put name_cmp (λ (e : Name × Alignment). list_all (on s.links) e.1.course) name _ (entries s.routes) h.courses is (λ e _. is);
    places = h.places;
    links = h.links;
    assets = h.assets;
  }

  dropped : (name : Name) → IsGrounded (drop_route name s)
  dropped name = record { courses = all-filter _ _ (entries s.routes) h.courses; places = h.places; links = h.links; assets = h.assets }

  -- held pairs, referents and classes are of no matter
  beside : (t : State) → t.links ≡ s.links → t.routes ≡ s.routes → t.entered ≡ s.entered → t.assets ≡ s.assets → IsGrounded t
  beside t links routes entered assets = record {
    courses = (λ i. list_all (λ (e : Name × Alignment). list_all (on (links i)) e.1.course) (entries (routes i))) ∙ h.courses;
    places = λ m a p x. (λ i. nat_lt p.mm (unwrap_or (get (links i) p.link) 0)) ∙ h.places m a p ((λ i. sym entered i m a p) ∙ x);
    links = ap (λ (l : Register nat_cmp ℕ). are_numbered (entries l)) links ∙ h.links;
    assets = ap (λ (l : Register nat_cmp Asset). are_numbered (entries l)) assets ∙ h.assets;
  }

  -- places of known links are entered
  enters : (n : ℕ) (e : NewAsset) (places : List Place) → ((p : Place) → is_among places p ≡ true → is_known s (p.link, p.mm) ≡ true) → IsGrounded (enter_asset n e places s)
  enters n e places known = record {
    courses = h.courses;
    places = λ m a p x. ⊎_elim (h.places m a p) (λ new. known p (and_parts (nat_eq m n && nat_eq a e.asset) (is_among places p) new).1) (or_cases (s.entered m a p) (nat_eq m n && nat_eq a e.asset && is_among places p) x);
    links = h.links;
    assets = numbered-put e.asset _ (entries s.assets) h.assets;
  }

  -- the places that are asked for are of known links
  abbrev IsKnown : Wanted → Type 0
  IsKnown w = (p : Place) → is_among w.places p ≡ true → is_known s (p.link, p.mm) ≡ true

  asked : (test : Kind → Bool) (e : NewAsset) → IfOk (wanted_of test e s) IsKnown
  asked test e =
      unless IsKnown (contains_key s.assets e.asset) _ _ (λ _. bind IsKnown (ok_or (get s.classes e.class) cause.NoClass) _ (λ kind _. bind IsKnown (route_named s e.route) _ (λ a is.
      unless IsKnown (is_wrong_kind kind e.location.to || test kind) _ _ (λ _. bind IsKnown (located_stretch s a e.location) _ (λ stretch _. unless IsKnown (is_nothing (part_of a.course stretch)) _ _ (λ _.
      λ p. among_on s e.side (part_of a.course stretch) p (all-take (on s.links) (stretch.to - stretch.from) (drop stretch.from a.course)
      (all-drop (on s.links) stretch.from a.course (route_on e.route a (given (get s.routes e.route) cause.NoRoute a is))))))))))

  -- a link that was not known: what was known still is
  new_link : (n len : ℕ) → contains_key s.links n ≡ false → IsGrounded (record s { links = insert s.links n len })
  new_link n len unknown = record {
    courses = all_weaker _ _ (entries s.routes) (λ e. all_weaker (on s.links) (on (insert s.links n len)) e.1.course (λ g. still g.link g.mm)) h.courses;
    places = λ m a p x. still p.link p.mm (h.places m a p x);
    links = numbered-put n len (entries s.links) h.links;
    assets = h.assets;
  }
    where
      lacks : (mm : ℕ) (o : Option ℕ) → is_some o ≡ false → nat_lt mm (unwrap_or o 0) ≡ true → ⊥
      lacks mm None e k = let less = ltb-true mm 0 k in omega (arith, less)
      lacks mm (Some x) e k = false≢true (sym e)

      still : (link mm : ℕ) → nat_lt mm (unwrap_or (get s.links link) 0) ≡ true → nat_lt mm (unwrap_or (get (insert s.links n len) link) 0) ≡ true
      still link mm k = ap (λ o. nat_lt mm (unwrap_or o 0)) (find-put nat_cmp_total exact_unsigned link n len (entries s.links)) ∙ by (eq_by_cmp nat_cmp link n) refl
        where
          by : (b : Bool) → eq_by_cmp nat_cmp link n ≡ b → nat_lt mm (unwrap_or (cond b (Some len) (get s.links link)) 0) ≡ true
          by true e = absurd (lacks mm (get s.links link) (ap (λ l. is_some (get s.links l)) (same_key exact_unsigned link n e) ∙ unknown) k)
          by false e = k

-- What a command makes of a state stands on known links, where the state does.
pub attempt_grounded : (s : State) → IsGrounded s → (n : ℕ) (command : Command) → IfOk (attempt n command s) IsGrounded
unfolding attempt
attempt_grounded s h n (verb.Link l) = unless _ (contains_key s.links l.number) _ _ (λ unknown. new_link s h l.number l.length unknown)
attempt_grounded s h n (verb.Class c) = unless _ (contains_key s.classes c.name) _ _ (λ _. beside s h _ refl refl refl refl)
attempt_grounded s h n (verb.Route name pieces marks) =
    unless _ (contains_key s.routes name) _ _ (λ _. checked _ s pieces _ (λ runs. unless _ (is_too_long (course_of pieces)) _ _ (λ _. behind _ (check_free s pieces) _
    (behind _ (check_marks (length (course_of pieces)) marks) _ (set s h name (course_of pieces) marks runs)))))
attempt_grounded s h n (verb.Ref name route at) =
    unless _ (is_some (s.referents name)) _ _ (λ _. named s h _ route _ (λ a _. bind _ (located_chainage s a at) _ (λ x _. beside s h _ refl refl refl refl)))
attempt_grounded s h n (verb.Unref name) = unless _ (is_none (s.referents name)) _ _ (λ _. beside s h _ refl refl refl refl)
attempt_grounded s h n (verb.Enter e) = bind_known _ _ (wanted_of (λ kind. false) e s) _ (asked s h (λ kind. false) e) (λ w known.
    unless_at _ (if is_exclusive w.kind then first_holder s e.class w.places else None) _ _ (λ _. enters s h n e w.places known))
attempt_grounded s h n (verb.Retire asset route location) =
    bind _ (ok_or (kind_of_asset s asset) cause.NoAsset) _ (λ kind _. named s h _ route _ (λ a _. unless _ (is_wrong_kind kind location.to) _ _ (λ _.
    bind _ (located_stretch s a location) _ (λ stretch _. unless _ (is_empty_stretch stretch || not (list_any (s.holds asset) (places_on B (part_of a.course stretch)))) _ _ (λ _.
    beside s h _ refl refl refl refl)))))
attempt_grounded s h n (verb.Split route at name) =
    named s h _ route _ (λ a runs. unless _ (contains_key s.routes name) _ _ (λ _. unless _ (not (is_inner_mark a.marks at)) _ _ (λ _. two a runs)))
  where
    two : (a : Alignment) → list_all (on s.links) a.course ≡ true → IsGrounded (set_route route (take at a.course) (marks_to at a.marks) (set_route name (drop at a.course) (marks_from at a.marks) s))
    two a runs = set (set_route name (drop at a.course) (marks_from at a.marks) s) (set s h name (drop at a.course) (marks_from at a.marks) (all-drop (on s.links) at a.course runs)) route (take at a.course) (marks_to at a.marks) (all-take (on s.links) at a.course runs)
attempt_grounded s h n (verb.Join first second) = named s h _ first _ (λ a ra. named s h _ second _ (λ b rb. join a b ra rb))
  where
    join : (a b : Alignment) → list_all (on s.links) a.course ≡ true → list_all (on s.links) b.course ≡ true → IfOk (do_join_of first second a b s) IsGrounded
    join a b ra rb = unless _ (same_name first second) _ _ (λ _. unless _ (is_too_long (a.course ++ b.course) || nat_lt most_marks (length (joined_marks a.marks b.marks))) _ _ (λ _.
        unless _ (is_out_of_range (joined_marks a.marks b.marks)) _ _ (λ _. set (drop_route second s) (dropped s h second) first (a.course ++ b.course) (joined_marks a.marks b.marks) (all-both (on s.links) a.course b.course ra rb))))
attempt_grounded s h n (verb.Renumber route name) = named s h _ route _ (λ a runs. unless _ (contains_key s.routes name) _ _ (λ _. set (drop_route route s) (dropped s h route) name a.course a.marks runs))
attempt_grounded s h n (verb.Recalibrate route marks) = named s h _ route _ (λ a runs. behind _ (check_marks (length a.course) marks) _ (set s h route a.course marks runs))
attempt_grounded s h n (verb.Realign route first end pieces marks) = named s h _ route _ (λ a runs.
    unless _ (nat_lt (length a.course) first || nat_lt (length a.course) end) _ _ (λ _. unless _ (nat_lt end first || (nat_eq first end && is_nothing (unwrap_or pieces []))) _ _ (λ _.
    checked _ s (unwrap_or pieces []) _ (λ new. behind _ (check_free s (unwrap_or pieces [])) _
    (let course = take first a.course ++ course_of (unwrap_or pieces []) ++ drop end a.course in
    unless _ (is_too_long course) _ _ (λ _. unless _ (is_nothing course) _ _ (λ _. behind _ (check_marks (length course) marks) _
    (set (abandon n (part_of a.course (record { from = first; to = end })) s) (gone (part_of a.course (record { from = first; to = end }))) route course marks (all-both (on s.links) (take first a.course ++ course_of (unwrap_or pieces [])) (drop end a.course)
    (all-both (on s.links) (take first a.course) (course_of (unwrap_or pieces [])) (all-take (on s.links) first a.course runs) new) (all-drop (on s.links) end a.course runs))))))))))
  where
    gone : (part : List Ground) → IsGrounded (abandon n part s)
    gone part = beside s h _ refl refl refl refl
attempt_grounded s h n (verb.Close route) = named s h _ route _ (λ a _. dropped (abandon n a.course s) (beside s h _ refl refl refl refl) route)
attempt_grounded s h n (verb.Supersede e) = let other : Kind → Bool = λ kind. not (is_exclusive kind) in bind_known _ _ (wanted_of other e s) _ (asked s h other e) (λ w known.
    let taken : ℕ → Place → Bool = λ a p. is_of_class s e.class a && is_among w.places p in enters (take_away n Retired taken s) (beside s h _ refl refl refl refl) n e w.places known)
attempt_grounded s h n (verb.Turn route) = named s h _ route _ (λ a runs. set s h route (turned a.course) (mirrored a.marks) (on_turned s.links a.course runs))
