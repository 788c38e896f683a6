-- At which chainage of a course a millimetre of the ground is, and which route runs over it.
use Rattle.std.proofs.Common.{ℕ, ◌≡◌, ◌≢◌, ◌+◌, ◌-◌, ◌<◌, ◌≤◌, Bool, true, false, if◌then◌else◌, List, [], ◌∷◌, ◌++◌, length, get_or, take, drop, sym, ◌∙◌, ap, refl, subst, arith, Option, Some, None, Ok, pos, unsigned_abs, slice_get, ⊎_elim}
use Rattle.std.specs.Prelude.{is_some, is_none, not, nat_lt, position}
use Rattle.std.specs.List.{position_or_len}
use Rattle.std.specs.Option.{option_or}
use Rattle.std.proofs.lemmas.Bool.{cases_lt, lt-ltb, le-ltb, ltb-true, ltb-false, eq-eqb, ne_eqb, and_from, false_from_ne_true}
use Rattle.std.proofs.lemmas.Option.{cond_some, none-some, slice_get-get_or, slice_get_past}
use Rattle.std.proofs.lemmas.List.Folds.{prefix_len-append, find_at}
use Rattle.std.proofs.lemmas.List.{get_or_default, length-append, take-append-drop, take_more, take_all}
use Rattle.std.proofs.lemmas.List.Sums.{position_or_len_is, prefix_len-le-length}
use Rattle.std.proofs.lemmas.List.Concat.{flat_map-append}
use Rattle.lrs_measure.specs.Fraction.{Fraction, IsLowest, IsQuotient}
use Rattle.lrs_element.specs.declared.link.Link.{Link}
use Rattle.lrs_element.specs.declared.link.Piece.{Piece}
use Rattle.lrs_element.specs.declared.link.Ground.{Ground}
use Rattle.lrs_element.specs.Course.{Millimetre, expand, course_of, is_at, chainage_on}
use Rattle.lrs_element.specs.Pieces.{piece_len, ground_of, start_of}
use Rattle.lrs_position.specs.declared.route.Route.{Route}
use Rattle.lrs_position.specs.declared.location.PlaceFault.{PlaceFault}
use Rattle.lrs_position.specs.declared.location.PlaceFault.TheVariants.{OffRoute}
use Rattle.lrs_position.specs.Locations.{cell}
use Rattle.lrs_position.specs.Translations.{chainage_fault}
use Rattle.lrs_position.specs.LinkPositions.{across, millimetre_at, route_over, link_fault, LiesOnRoute, IsRoutePosition}
use Rattle.lrs_element.proofs.Expanding.{length-expand, get_or-expand}
use Rattle.lrs_element.proofs.Counting.{course_of-push}
use Rattle.lrs_element.proofs.Walking.{start_of_more, course_of-drop}

-- ---- the first place that passes a test

pub position_found : {X : Type 0} (p : X → Bool) (xs : List X) (i : ℕ) (d : X) → i < length xs → ((k : ℕ) → k < i → p (get_or xs k d) ≡ false) → p (get_or xs i d) ≡ true → Some i ≡ position p xs
position_found p xs i d h before it =
    let e : position_or_len p xs ≡ i = position_or_len_is p xs i d (omega arith) before (λ _. it) in
    sym (ap (λ (n : ℕ). if nat_lt n (length xs) then Some n else None) e ∙ ap (λ (b : Bool). if b then Some i else None) (lt-ltb i (length xs) h))

pub position_none : {X : Type 0} (p : X → Bool) (xs : List X) (d : X) → ((k : ℕ) → k < length xs → p (get_or xs k d) ≡ false) → None ≡ position p xs
position_none p xs d none =
    let e : position_or_len p xs ≡ length xs = position_or_len_is p xs (length xs) d (omega arith) none (λ h. absurd (omega arith)) in
    sym (ap (λ (n : ℕ). if nat_lt n (length xs) then Some n else None) e ∙ ap (λ (b : Bool). if b then Some (length xs) else None) (le-ltb (length xs) (length xs) (omega arith)))

-- ---- the place of a millimetre in a piece

-- the millimetre at place k
abbrev pub mm_of : Piece → ℕ → ℕ
mm_of p k = if p.forward then p.from + k else p.to - 1 - k

inside : (f : Bool) (a b k : ℕ) → k < b - a → (a ≤ (if f then a + k else b - 1 - k)) × ((if f then a + k else b - 1 - k) < b)
inside true a b k h = (omega arith, omega arith)
inside false a b k h = (omega arith, omega arith)

same_mm : (f : Bool) (a b i k : ℕ) → k < i → i < b - a → (if f then a + k else b - 1 - k) ≢ (if f then a + i else b - 1 - i)
same_mm true a b i k h l e = absurd (omega arith)
same_mm false a b i k h l e = absurd (omega arith)

other_mm : (p : Piece) (link mm k : ℕ) → k < piece_len p → (p.link ≡ link → mm_of p k ≢ mm) → is_at (link, mm) (ground_of p k) ≡ false
other_mm p link mm k h other = grind (arith, other, ne_eqb, eq-eqb)

pub none_in_piece : (p : Piece) (link mm : ℕ) → ((k : ℕ) → k < piece_len p → p.link ≡ link → mm_of p k ≢ mm) → None ≡ position (is_at (link, mm)) (expand p)
none_in_piece p link mm other =
    position_none (is_at (link, mm)) (expand p) (ground_of p 0) (λ k h.
    let l : k < piece_len p = omega (arith, length-expand p) in
    ap (is_at (link, mm)) (get_or-expand p k (ground_of p 0) l) ∙ other_mm p link mm k l (other k l))

pub none_below : (p : Piece) (link mm : ℕ) → mm < p.from → None ≡ position (is_at (link, mm)) (expand p)
none_below p link mm h = none_in_piece p link mm (λ k l _ e. let i = inside p.forward p.from p.to k l in omega (arith, i.0, e))

pub none_above : (p : Piece) (link mm : ℕ) → p.to ≤ mm → None ≡ position (is_at (link, mm)) (expand p)
none_above p link mm h = none_in_piece p link mm (λ k l _ e. let i = inside p.forward p.from p.to k l in omega (arith, i.1, e))

pub found_in_piece : (p : Piece) (link mm i : ℕ) → p.link ≡ link → i < piece_len p → mm_of p i ≡ mm → Some i ≡ position (is_at (link, mm)) (expand p)
found_in_piece p link mm i el h em =
    position_found (is_at (link, mm)) (expand p) i (ground_of p 0) (omega (arith, length-expand p))
    (λ k lt. let l : k < piece_len p = omega arith in ap (is_at (link, mm)) (get_or-expand p k (ground_of p 0) l) ∙ other_mm p link mm k l (λ _ e. same_mm p.forward p.from p.to i k lt h (e ∙ sym em)))
    (ap (is_at (link, mm)) (get_or-expand p i (ground_of p 0) h) ∙ and_from _ _ (eq-eqb _ _ el) (eq-eqb _ _ em))

pub place_is : (p : Piece) (mm i : ℕ) (f : Bool) → p.forward ≡ f → (if f then p.from + i else p.to - 1 - i) ≡ mm → mm_of p i ≡ mm
place_is p mm i f e h = rw e h

-- ---- the place of a millimetre in a course

some_is : (n l i : ℕ) → Some i ≡ (if nat_lt n l then Some n else None) → (n ≡ i) × (n < l)
some_is n l i h = let c = cond_some (nat_lt n l) n i (sym h) in (c.1, ltb-true n l c.0)

none_is : (n l : ℕ) → None ≡ (if nat_lt n l then Some n else None) → l ≤ n
none_is n l h = ltb-false n l (false_from_ne_true _ (λ t. none-some n (h ∙ ap (λ (b : Bool). if b then Some n else None) t)))

pub some_from : (n l i : ℕ) → n ≡ i → i < l → Some i ≡ (if nat_lt n l then Some n else None)
some_from n l i e h = sym (ap (λ (k : ℕ). if nat_lt k l then Some k else None) e ∙ ap (λ (b : Bool). if b then Some i else None) (lt-ltb i l h))

pub none_from : (n l : ℕ) → l ≤ n → None ≡ (if nat_lt n l then Some n else None)
none_from n l h = sym (ap (λ (b : Bool). if b then Some n else None) (le-ltb n l h))

pub position_below : {X : Type 0} (p : X → Bool) (xs : List X) (i : ℕ) → Some i ≡ position p xs → i < length xs
position_below p xs i h = let s = some_is (position_or_len p xs) (length xs) i h in omega (arith, s)

-- none in the front: the place is so far behind it
past : {X : Type 0} (p : X → Bool) (xs ys : List X) → None ≡ position p xs → position_or_len p (xs ++ ys) ≡ length xs + position_or_len p ys
past p xs ys h =
    let l = none_is (position_or_len p xs) (length xs) h in
    let e : position_or_len p xs ≡ length xs = omega (arith, l, prefix_len-le-length (λ x. not (p x)) xs) in
    prefix_len-append (λ x. not (p x)) xs ys ∙ ap (λ (b : Bool). if b then length xs + position_or_len p ys else position_or_len p xs) (eq-eqb _ _ e)

position_after : {X : Type 0} (p : X → Bool) (xs ys : List X) (i : ℕ) → None ≡ position p xs → Some i ≡ position p ys → Some (length xs + i) ≡ position p (xs ++ ys)
position_after p xs ys i h f =
    let s = some_is (position_or_len p ys) (length ys) i f in
    some_from _ _ _ (past p xs ys h ∙ ap (λ (k : ℕ). length xs + k) s.0) (omega (arith, s, length-append xs ys))

position_neither : {X : Type 0} (p : X → Bool) (xs ys : List X) → None ≡ position p xs → None ≡ position p ys → None ≡ position p (xs ++ ys)
position_neither p xs ys h f =
    let l = none_is (position_or_len p ys) (length ys) f in
    none_from _ _ (omega (arith, l, past p xs ys h, length-append xs ys))

position_before : {X : Type 0} (p : X → Bool) (xs ys : List X) (i : ℕ) → Some i ≡ position p xs → Some i ≡ position p (xs ++ ys)
position_before p xs ys i h =
    let s = some_is (position_or_len p xs) (length xs) i h in
    some_from _ _ _ (prefix_len-append (λ x. not (p x)) xs ys ∙ ap (λ (b : Bool). if b then length xs + position_or_len p ys else position_or_len p xs) (ne_eqb _ _ (λ e. absurd (omega (arith, s, e)))) ∙ s.0) (omega (arith, s, length-append xs ys))

-- a walk over the pieces of a course stands before the i-th one, which starts at this chainage, and has not met the millimetre
pub record HasWalked (ps : List Piece) (m : Millimetre) (i at : ℕ) : Type 0 where
  pub start : at ≡ start_of ps i
  pub none : None ≡ position (is_at m) (course_of (take i ps))

pub walk_more : (ps : List Piece) (m : Millimetre) (i at n : ℕ) (d : Piece) → i < length ps → HasWalked ps m i at → None ≡ position (is_at m) (expand (get_or ps i d)) → n ≡ piece_len (get_or ps i d) → HasWalked ps m (i + 1) (at + n)
walk_more ps m i at n d h w f l = record {
  start = start_of_more ps i at n d h w.start l;
  none = subst (λ (xs : List Ground). None ≡ position (is_at m) xs) (sym (ap course_of (take_more ps i d h) ∙ course_of-push (take i ps) (get_or ps i d))) (position_neither (is_at m) (course_of (take i ps)) (expand (get_or ps i d)) w.none f);
}

-- the course, as what lies before a piece, the piece, and what lies behind it
split_at : (ps : List Piece) (i : ℕ) (d : Piece) → i < length ps → course_of (take i ps) ++ (expand (get_or ps i d) ++ course_of (drop (i + 1) ps)) ≡ course_of ps
split_at ps i d h = ap (λ (xs : List Ground). course_of (take i ps) ++ xs) (sym (course_of-drop ps i d h)) ∙ sym (flat_map-append expand (take i ps) (drop i ps)) ∙ ap course_of (take-append-drop i ps)

pub walk_found : (ps : List Piece) (m : Millimetre) (i at k : ℕ) (d : Piece) → i < length ps → HasWalked ps m i at → Some k ≡ position (is_at m) (expand (get_or ps i d)) → Some (at + k) ≡ position (is_at m) (course_of ps)
walk_found ps m i at k d h w f =
    let p : Piece = get_or ps i d in
    let rest : List Ground = course_of (drop (i + 1) ps) in
    ap (λ (n : ℕ). Some (n + k)) w.start
    ∙ position_after (is_at m) (course_of (take i ps)) (expand p ++ rest) k w.none (position_before (is_at m) (expand p) rest k f)
    ∙ ap (position (is_at m)) (split_at ps i d h)

pub walk_done : (ps : List Piece) (m : Millimetre) (i at : ℕ) → length ps ≤ i → HasWalked ps m i at → None ≡ position (is_at m) (course_of ps)
walk_done ps m i at h w = w.none ∙ ap (λ (xs : List Piece). position (is_at m) (course_of xs)) (take_all i ps h)

-- a place in a piece is a place of the course
pub walk_fits : (ps : List Piece) (i at n : ℕ) (d : Piece) → i < length ps → at ≡ start_of ps i → n ≤ piece_len (get_or ps i d) → at + n ≤ length (course_of ps)
walk_fits ps i at n d h a l =
    omega (arith, ap length (split_at ps i d h), length-append (course_of (take i ps)) (expand (get_or ps i d) ++ course_of (drop (i + 1) ps)), length-append (expand (get_or ps i d)) (course_of (drop (i + 1) ps)), length-expand (get_or ps i d))

pub walk_inside : (ps : List Piece) (m : Millimetre) (i at k : ℕ) (d : Piece) → i < length ps → at ≡ start_of ps i → Some k ≡ position (is_at m) (expand (get_or ps i d)) → at + k ≤ length (course_of ps)
walk_inside ps m i at k d h a f =
    let b = position_below (is_at m) (expand (get_or ps i d)) k f in
    walk_fits ps i at k d h a (omega (arith, b, length-expand (get_or ps i d)))

pub walk_next : (ps : List Piece) (i at n : ℕ) (d : Piece) → i < length ps → at ≡ start_of ps i → n ≡ piece_len (get_or ps i d) → at + n ≤ length (course_of ps)
walk_next ps i at n d h a l = walk_fits ps i at n d h a (omega (arith, l))

-- ---- the route that runs over a millimetre

-- none of the first i routes runs over the millimetre
abbrev pub NoneBefore : List Route → Millimetre → ℕ → Type 0
NoneBefore routes m i = (k : ℕ) (d : Route) → k < i → chainage_on (get_or routes k d).course m ≡ None

pub route_found : (routes : List Route) (m : Millimetre) (i at : ℕ) (r : Route) → i < length routes → NoneBefore routes m i → r ≡ get_or routes i r → chainage_on r.course m ≡ Some at → route_over routes m ≡ Some r
route_found routes m i at r h before is e =
    let p : Route → Bool = λ x. is_some (chainage_on x.course m) in
    let it : p (get_or routes i r) ≡ true = ap p (sym is) ∙ ap (λ (o : Option ℕ). is_some o) e in
    let place : position_or_len p routes ≡ i = position_or_len_is p routes i r (omega arith) (λ k lt. ap (λ (o : Option ℕ). is_some o) (before k r lt)) (λ _. it) in
    find_at p routes ∙ ap (slice_get routes) place ∙ slice_get-get_or routes i r h ∙ ap Some (sym is)

pub route_none : (routes : List Route) (m : Millimetre) (i : ℕ) → length routes ≤ i → NoneBefore routes m i → route_over routes m ≡ None
route_none [] m i h before = refl
route_none (r ∷ rs) m i h before =
    let routes : List Route = r ∷ rs in
    let p : Route → Bool = λ x. is_some (chainage_on x.course m) in
    let place : position_or_len p routes ≡ length routes = position_or_len_is p routes (length routes) r (omega arith) (λ k lt. ap (λ (o : Option ℕ). is_some o) (before k r (omega arith))) (λ lt. absurd (omega arith)) in
    find_at p routes ∙ ap (slice_get routes) place ∙ slice_get_past routes (length routes) (omega arith)

pub none_more : (routes : List Route) (m : Millimetre) (i : ℕ) (r : Route) → i < length routes → NoneBefore routes m i → r ≡ get_or routes i r → chainage_on r.course m ≡ None → NoneBefore routes m (i + 1)
none_more routes m i r h before is e k d lt = ⊎_elim
    (λ (less : k < i). before k d less)
    (λ (ge : i ≤ k).
    let same : k ≡ i = omega arith in
    ap (λ (j : ℕ). chainage_on (get_or routes j d).course m) same ∙ ap (λ (x : Route). chainage_on x.course m) (get_or_default routes i d r h ∙ sym is) ∙ e)
    (cases_lt k i)

-- ---- the answer

pub is_route_position : (routes : List Route) (link : Link) (p x : Fraction) (mm at : ℕ) (r : Route) (ground : Ground) → chainage_fault link.length p ≡ None → mm ≡ cell link.length (unsigned_abs p.num, p.den)
    → route_over routes (link.number, mm) ≡ Some r → chainage_on r.course (link.number, mm) ≡ Some at → slice_get r.course at ≡ Some ground
    → IsQuotient x (pos (across ground.forward mm at (unsigned_abs p.num, p.den))) p.den → IsLowest x → IsRoutePosition routes link p (Ok (r.name, x))
is_route_position routes link p x mm at r ground fine is over e s q low =
    let there : route_over routes (millimetre_at link p) ≡ Some r = ap (λ (k : ℕ). route_over routes (link.number, k)) (sym is) ∙ over in
    let P : ℕ → Type 0 = λ k. IsQuotient x (pos (across ground.forward k at (unsigned_abs p.num, p.den))) p.den in
    let lies : LiesOnRoute routes link p r.name x = record {
      route = r;
      runs_over = there;
      same_name = refl;
      at = at;
      is_at_chainage = ap (λ (k : ℕ). chainage_on r.course (link.number, k)) (sym is) ∙ e;
      ground = ground;
      stands = s;
      value = subst P is q;
      lowest = low;
    } in
    let none : link_fault routes link p ≡ None = ap (λ (o : Option PlaceFault). option_or o (if is_none (route_over routes (millimetre_at link p)) then Some OffRoute else None)) fine ∙ ap (λ (o : Option Route). if is_none o then Some OffRoute else None) there in
    rw none lies
