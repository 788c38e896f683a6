-- From a route to a link and back: a place in the middle of a millimetre comes back to its chainage.
use Rattle.std.proofs.Common.{ℕ, ◌≡◌, ◌+◌, ◌-◌, ◌*◌, ◌/◌, ◌%◌, ◌<◌, ◌≤◌, ⊎_elim, Bool, true, false, if◌then◌else◌, min, sym, ◌∙◌, ap, refl, subst, arith, pos, unsigned_abs, List, [], ◌∷◌, length, get_or, Option, Some, None, Result, Ok, Err, slice_get}
use Rattle.std.specs.Prelude.{is_some, is_none, nat_lt, nat_le, ◌^◌, find, position}
use Rattle.std.specs.List.{position_or_len}
use Rattle.std.proofs.lemmas.Bool.{leb-true, cases_lt, eq-eqb, eqb-true, and_from, and_parts}
use Rattle.std.proofs.lemmas.Option.{none-some, same_Some, slice_get-get_or, slice_get_past}
use Rattle.std.proofs.lemmas.List.Folds.{find_at}
use Rattle.std.proofs.lemmas.List.Sums.{fails_before_first, passes_at_first}
use Rattle.lrs_element.specs.declared.link.Ground.{Ground}
use Rattle.lrs_element.specs.Course.{Millimetre, is_at, chainage_on}
use Rattle.lrs_position.specs.declared.route.Route.{Route}
use Rattle.lrs_position.proofs.Entries.{some_from, none_from}
use Rattle.std.proofs.Math.Nat.{div-add-mod', div-eq_of_lt-le, dvd-mul_left, le_of_dvd}
use Rattle.std.proofs.lemmas.Nat.{mod_below}
use Rattle.std.proofs.lemmas.Nat.Gcd.{dvd_refl}
use Rattle.std.specs.Int.{IsGcd, ◌∣◌}
use Rattle.std.specs.Option.{option_or}
use Rattle.std.specs.Result.{IsOkAnd}
use Rattle.lrs_measure.specs.Fraction.{Fraction, IsLowest, IsQuotient}
use Rattle.lrs_measure.specs.Texts.{Name}
use Rattle.lrs_measure.proofs.Lowest.{same_fraction}
use Rattle.lrs_element.specs.declared.link.Link.{Link}
use Rattle.lrs_element.proofs.LineLemmas.{natural_quotient}
use Rattle.lrs_position.specs.declared.location.PlaceFault.{PlaceFault}
use Rattle.lrs_position.specs.declared.location.PlaceFault.TheVariants.{TooFine, OffRoute}
use Rattle.lrs_position.specs.Locations.{cell}
use Rattle.lrs_position.specs.Translations.{chainage_fault}
use Rattle.lrs_position.proofs.Answering.{quotient_of_same}
use Rattle.lrs_position.proofs.OnLinks.{size_below}
use Rattle.lrs_position.proofs.Whole.{natural}
use Rattle.lrs_position.specs.LinkPositions.{across, millimetre_at, route_over, link_fault, LiesOnRoute, IsRoutePosition, ShareNoGround, ComesBack}

-- ---- the arithmetic: n/d stands in millimetre j, s/d behind its start, and p/q is its place on the link, where that is millimetre k

-- how far p/q is behind the start of its millimetre, in 1/dq
pub record StandsIn (k p q : ℕ) : Type 0 where
  pub start : k * q < p
  pub next : p < (k + 1) * q

below_by : (a b d : ℕ) → a * d < b * d → a < b
below_by a b d h = grind arith

stands_forward : (k s d p q : ℕ) → 0 < q → 0 < s → s < d → p * d ≡ (k * d + s) * q → StandsIn k p q
stands_forward k s d p q qp sp l e =
    let a : 0 < s * q = grind arith in
    let b : s * q < d * q = grind arith in
    record { start = below_by (k * q) p d (omega (arith, e, a)); next = below_by p ((k + 1) * q) d (omega (arith, e, b)) }

stands_backward : (k s d p q : ℕ) → 0 < q → 0 < s → s < d → p * d ≡ ((k + 1) * d - s) * q → StandsIn k p q
stands_backward k s d p q qp sp l e =
    let f : (k + 1) * d - s ≡ k * d + (d - s) = omega arith in
    stands_forward k (d - s) d p q qp (omega arith) (omega arith) (e ∙ ap (λ (x : ℕ). x * q) f)

back_forward : (j k s d p q : ℕ) → k * q ≤ p → p * d ≡ (k * d + s) * q → (j * q + (p - k * q)) * d ≡ (j * d + s) * q
back_forward j k s d p q l e =
    let w : ℕ = p - k * q in
    let split : p ≡ k * q + w = omega arith in
    let f : (k * q + w) * d ≡ (k * d + s) * q = ap (λ (x : ℕ). x * d) (sym split) ∙ e in
    omega (arith, f)

back_backward : (j k s d p q : ℕ) → k * q ≤ p → p < (k + 1) * q → s < d → p * d ≡ ((k + 1) * d - s) * q → ((j + 1) * q - (p - k * q)) * d ≡ (j * d + s) * q
back_backward j k s d p q l h sd e =
    let w : ℕ = p - k * q in
    let split : p ≡ k * q + w = omega arith in
    let v : ℕ = q - w in
    let whole : q ≡ w + v = omega arith in
    let r : ℕ = d - s in
    let parts : d ≡ s + r = omega arith in
    let f : (k + 1) * d - s ≡ k * d + r = omega arith in
    let g : (k * q + w) * d ≡ (k * d + r) * q = ap (λ (x : ℕ). x * d) (sym split) ∙ e ∙ ap (λ (x : ℕ). x * q) f in
    let i : w * d ≡ r * q = omega (arith, g) in
    let t : (j + 1) * q - w ≡ j * q + v = omega arith in
    let u : v * d ≡ s * q = (let a : q * d ≡ (w + v) * d = ap (λ (x : ℕ). x * d) whole in let b : d * q ≡ (s + r) * q = ap (λ (x : ℕ). x * q) parts in omega (arith, a, b, i)) in
    ap (λ (x : ℕ). x * d) t ∙ omega (arith, u)

-- ---- the first element that passes a test

at_index : {X : Type 0} (xs : List X) (i : ℕ) (x : X) → slice_get xs i ≡ Some x → (i < length xs) × (get_or xs i x ≡ x)
at_index xs i x e = ⊎_elim
    (λ (lt : i < length xs). (lt, same_Some _ _ (sym (slice_get-get_or xs i x lt) ∙ e)))
    (λ (ge : length xs ≤ i). absurd (none-some x (sym (slice_get_past xs i ge) ∙ e)))
    (cases_lt i (length xs))

-- where an element passes, there is a first one that does
record FirstOf {X : Type 0} (p : X → Bool) (xs : List X) : Type 0 where
  pub place : ℕ
  pub element : X
  pub stands : slice_get xs place ≡ Some element
  pub passes : p element ≡ true
  pub is_position : Some place ≡ position p xs
  pub is_found : find p xs ≡ Some element

first_of_test : {X : Type 0} (p : X → Bool) (xs : List X) (i : ℕ) (x : X) → slice_get xs i ≡ Some x → p x ≡ true → FirstOf p xs
first_of_test p xs i x e h =
    let a = at_index xs i x e in
    let k : ℕ = position_or_len p xs in
    let le : k ≤ i = ⊎_elim
    (λ (lt : i < k). absurd (cc (fails_before_first p xs i x lt, ap p a.1, h)))
    (λ (ge : k ≤ i). ge)
    (cases_lt i k) in
    let lt : k < length xs = omega (arith, a) in
    record {
      place = k;
      element = get_or xs k x;
      stands = slice_get-get_or xs k x lt;
      passes = passes_at_first p xs x lt;
      is_position = some_from k (length xs) k refl lt;
      is_found = find_at p xs ∙ slice_get-get_or xs k x lt;
    }

same_ground : (link mm : ℕ) (g : Ground) → is_at (link, mm) g ≡ true → (g.link ≡ link) × (g.mm ≡ mm)
same_ground link mm g h = let b = and_parts _ _ h in (eqb-true _ _ b.0, eqb-true _ _ b.1)

-- a test of an entry is passed at the first entry
first_entry : (course : List Ground) (m : Millimetre) (g : Ground) → is_some (chainage_on course m) ≡ true → FirstOf (is_at m) course
first_entry [] m g h = absurd (cc h)
first_entry (x ∷ xs) m g h = ⊎_elim
    (λ (lt : position_or_len (is_at m) (x ∷ xs) < length (x ∷ xs)). first_of_test (is_at m) (x ∷ xs) (position_or_len (is_at m) (x ∷ xs)) _ (slice_get-get_or (x ∷ xs) _ x lt) (passes_at_first (is_at m) (x ∷ xs) x lt))
    (λ (ge : length (x ∷ xs) ≤ position_or_len (is_at m) (x ∷ xs)). absurd (cc (h, ap (λ (o : Option ℕ). is_some o) (sym (none_from (position_or_len (is_at m) (x ∷ xs)) (length (x ∷ xs)) ge)))))
    (cases_lt (position_or_len (is_at m) (x ∷ xs)) (length (x ∷ xs)))

-- where routes share no ground, the route and the entry of a millimetre are found
shared_found : (routes : List Route) (i j : ℕ) (r : Route) (g : Ground) → ShareNoGround routes → slice_get routes i ≡ Some r → slice_get r.course j ≡ Some g → (route_over routes (g.link, g.mm) ≡ Some r) × (chainage_on r.course (g.link, g.mm) ≡ Some j)
shared_found routes i j r g share er eg =
    let m : Millimetre = (g.link, g.mm) in
    let a = first_of_test (is_at m) r.course j g eg (and_from _ _ (eq-eqb g.link g.link refl) (eq-eqb g.mm g.mm refl)) in
    let same = same_ground g.link g.mm a.element a.passes in
    let here = share i a.place r a.element i j r g er a.stands er eg same.0 same.1 in
    let entry : chainage_on r.course m ≡ Some j = sym a.is_position ∙ ap (λ (n : ℕ). Some n) here.1 in
    let runs : Route → Bool = λ x. is_some (chainage_on x.course m) in
    let b = first_of_test runs routes i r er (ap (λ (o : Option ℕ). is_some o) entry) in
    let c = first_entry b.element.course m g b.passes in
    let other = same_ground g.link g.mm c.element c.passes in
    let there = share b.place c.place b.element c.element i j r g b.stands c.stands er eg other.0 other.1 in
    let is : b.element ≡ r = same_Some _ _ (sym b.stands ∙ ap (slice_get routes) there.0 ∙ er) in
    (b.is_found ∙ ap (λ (x : Route). Some x) is, entry)

-- ---- the chainage comes back

-- what is known of a chainage n/d in the middle of the millimetre j of a route
record InMiddle (n d j s : ℕ) : Type 0 where
  pub parts : n ≡ j * d + s
  pub behind : 0 < s
  pub before : s < d

in_middle : (n d : ℕ) → IsGcd n d 1 → 0 < d → (d ≡ 1 → ⊥) → InMiddle n d (n / d) (n % d)
in_middle n d gcd p whole =
    let e : n / d * d + n % d ≡ n = div-add-mod' n d in
    record {
      parts = sym e;
      behind = ⊎_elim
          (λ (h : 0 < n % d). h)
          (λ (h : n % d ≤ 0).
          let z : n / d * d ≡ n = omega (arith, e) in
          let P : ℕ → Type 0 = λ k. d ∣ k in
          let one : d ∣ 1 = gcd.2 d (subst P z (dvd-mul_left d (n / d))) (dvd_refl d) in
          let small : d ≤ 1 = le_of_dvd (omega arith) one in
          absurd (whole (omega arith)))
          (cases_lt 0 (n % d));
      before = mod_below n d p;
    }

middle_cell : (len n d j s : ℕ) → InMiddle n d j s → j ≡ n / d → n ≤ len * d → min (n / d) (len - 1) ≡ j
middle_cell len n d j s m e h =
    let b : j * d < len * d = omega (arith, m.parts, m.behind) in
    let l : j < len = below_by j len d b in
    omega arith

place_cell : (len k p q : ℕ) → 0 < q → StandsIn k p q → p ≤ len * q → min (p / q) (len - 1) ≡ k
place_cell len k p q qp s h =
    let l : k * q ≤ p = omega (arith, s.start) in
    let e : p / q ≡ k = div-eq_of_lt-le q l s.next in
    let b : k * q < len * q = omega (arith, s.start) in
    let i : k < len = below_by k len q b in
    omega arith

stands_across : (f : Bool) (n d j s k p q : ℕ) → InMiddle n d j s → 0 < q → p * d ≡ across f j k (n, d) * q → StandsIn k p q
stands_across true n d j s k p q m qp e =
    let w : n - j * d ≡ s = omega (arith, m.parts) in
    stands_forward k s d p q qp m.behind m.before (e ∙ ap (λ (x : ℕ). (k * d + x) * q) w)
stands_across false n d j s k p q m qp e =
    let w : n - j * d ≡ s = omega (arith, m.parts) in
    stands_backward k s d p q qp m.behind m.before (e ∙ ap (λ (x : ℕ). ((k + 1) * d - x) * q) w)

back_across : (f : Bool) (n d j s k p q : ℕ) → InMiddle n d j s → 0 < q → StandsIn k p q → p * d ≡ across f j k (n, d) * q → across f k j (p, q) * d ≡ n * q
back_across true n d j s k p q m qp h e =
    let w : n - j * d ≡ s = omega (arith, m.parts) in
    back_forward j k s d p q (let l = h.start in omega arith) (e ∙ ap (λ (x : ℕ). (k * d + x) * q) w) ∙ ap (λ (x : ℕ). x * q) (sym m.parts)
back_across false n d j s k p q m qp h e =
    let w : n - j * d ≡ s = omega (arith, m.parts) in
    back_backward j k s d p q (let l = h.start in omega arith) h.next m.before (e ∙ ap (λ (x : ℕ). ((k + 1) * d - x) * q) w) ∙ ap (λ (x : ℕ). x * q) (sym m.parts)

-- a fraction in lowest terms whose value is that of another one is that one
same_value : (y x : Fraction) (n b q : ℕ) → IsLowest y → IsLowest x → x.num ≡ pos n → 0 < q → IsQuotient y (pos b) q → b * x.den ≡ n * q → y ≡ x
same_value y x n b q ly lx e qp v h =
    let w : IsQuotient y (pos n) x.den = quotient_of_same y (n, x.den) (b, q) qp v (sym h) in
    same_fraction y x ly lx (rw e w)

-- the distance stands on the link
on_link : (len : ℕ) (p : Fraction) (n : ℕ) → p.num ≡ pos n → chainage_fault len p ≡ None → n ≤ len * p.den
on_link len p n e h = by_case (nat_lt (10 ^ 16) p.den) (nat_le n (len * p.den)) refl (rw e at h)
  where
    by_case : (b c : Bool) → nat_le n (len * p.den) ≡ c → (if b then Some TooFine else if is_none {T = ℕ × ℕ} (if c then Some (n, p.den) else None) then Some OffRoute else None) ≡ None → n ≤ len * p.den
    by_case true c k f = absurd (cc f)
    by_case false true k f = leb-true n (len * p.den) k
    by_case false false k f = absurd (cc f)

-- where the route and the entry are found, the answer is the chainage
answer_back : (routes : List Route) (link : Link) (p x : Fraction) (answer : Result (Name × Fraction) PlaceFault) (r : Route) (g : Ground) (j : ℕ) → IsRoutePosition routes link p answer → chainage_fault link.length p ≡ None
    → millimetre_at link p ≡ (g.link, g.mm) → route_over routes (g.link, g.mm) ≡ Some r → chainage_on r.course (g.link, g.mm) ≡ Some j → slice_get r.course j ≡ Some g
    → ((y : Fraction) → IsLowest y → IsQuotient y (pos (across g.forward g.mm j (unsigned_abs p.num, p.den))) p.den → y ≡ x) → answer ≡ Ok (r.name, x)
answer_back routes link p x answer r g j h fine mm over entry stands value =
    let there : route_over routes (millimetre_at link p) ≡ Some r = ap (route_over routes) mm ∙ over in
    let none : link_fault routes link p ≡ None = ap (λ (o : Option PlaceFault). option_or o (if is_none (route_over routes (millimetre_at link p)) then Some OffRoute else None)) fine ∙ ap (λ (o : Option Route). if is_none o then Some OffRoute else None) there in
    by_case answer (rw none at h)
  where
    by_case : (answer : Result (Name × Fraction) PlaceFault) → IsOkAnd answer (λ a. LiesOnRoute routes link p a.0 a.1) → answer ≡ Ok (r.name, x)
    by_case (Err f) l = absurd l
    by_case (Ok a) l =
        let er : l.route ≡ r = same_Some _ _ (sym l.runs_over ∙ ap (route_over routes) mm ∙ over) in
        let ej : l.at ≡ j = same_Some _ _ (sym l.is_at_chainage ∙ ap (chainage_on l.route.course) mm ∙ ap (λ (s : Route). chainage_on s.course (g.link, g.mm)) er ∙ entry) in
        let eg : l.ground ≡ g = same_Some _ _ (sym l.stands ∙ ap (λ (s : Route). slice_get s.course l.at) er ∙ ap (slice_get r.course) ej ∙ stands) in
        let ek : cell link.length (unsigned_abs p.num, p.den) ≡ g.mm = ap (λ (m : Millimetre). m.1) mm in
        let P : Ground → Type 0 = λ e. IsQuotient a.1 (pos (across e.forward (cell link.length (unsigned_abs p.num, p.den)) l.at (unsigned_abs p.num, p.den))) p.den in
        let Q : ℕ → Type 0 = λ k. IsQuotient a.1 (pos (across g.forward k l.at (unsigned_abs p.num, p.den))) p.den in
        let R : ℕ → Type 0 = λ i. IsQuotient a.1 (pos (across g.forward g.mm i (unsigned_abs p.num, p.den))) p.den in
        let ex : a.1 ≡ x = value a.1 l.lowest (subst R ej (subst Q ek (subst P eg l.value))) in
        let en : a.0 ≡ r.name = l.same_name ∙ ap (λ (s : Route). s.name) er in
        λ i. Ok (en i, ex i)

pub comes_back : (routes : List Route) (link : Link) (p : Fraction) (answer : Result (Name × Fraction) PlaceFault) → IsRoutePosition routes link p answer → ComesBack routes link p answer
comes_back routes link p answer h share i r x er on low whole lies fine =
    let n : ℕ = unsigned_abs x.num in
    let is : x.num ≡ pos n = natural x.num on.from in
    let m = in_middle n x.den low.coprime low.positive whole in
    let j : ℕ = n / x.den in
    let c : cell (length r.course) (n, x.den) ≡ j = middle_cell (length r.course) n x.den j (n % x.den) m refl (size_below x.num _ on.from on.to) in
    let g : Ground = lies.ground in
    let stands : slice_get r.course j ≡ Some g = ap (slice_get r.course) (sym c) ∙ lies.stands in
    let V : ℕ → Type 0 = λ k. IsQuotient p (pos (across g.forward k g.mm (n, x.den))) x.den in
    let v = natural_quotient p (across g.forward j g.mm (n, x.den)) x.den low.positive (subst V c lies.value) in
    let qp : 0 < p.den = lies.lowest.positive in
    let s = stands_across g.forward n x.den j (n % x.den) g.mm (unsigned_abs p.num) p.den m qp v.1 in
    let k : cell link.length (unsigned_abs p.num, p.den) ≡ g.mm = place_cell link.length g.mm (unsigned_abs p.num) p.den qp s (on_link link.length p (unsigned_abs p.num) v.0 fine) in
    let f = shared_found routes i j r g share er stands in
    let back = back_across g.forward n x.den j (n % x.den) g.mm (unsigned_abs p.num) p.den m qp s v.1 in
    answer_back routes link p x answer r g j h fine (λ w. (lies.same_link w, k w)) f.0 f.1 stands
    (λ y ly q. same_value y x n (across g.forward g.mm j (unsigned_abs p.num, p.den)) p.den ly low is qp q back)
