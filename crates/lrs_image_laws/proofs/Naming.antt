-- Routes by their names, in the order of which they stand.
use Rattle.std.proofs.Common.{◌≡◌, Bool, true, false, cond, ◌⊎◌, inl, inr, List, [], ◌∷◌, map, filter, Some, None, refl, sym, ap, ◌∙◌}
use Rattle.std.proofs.Math.Bool.{or-false}
use Rattle.std.specs.Prelude.{◌||◌, not}
use Rattle.std.specs.List.{list_any, list_all}
use Rattle.std.specs.List as list
use Rattle.std.specs.declared.cmp.Ordering.{Ordering}
use Rattle.std.specs.declared.cmp.Ordering.TheVariants.{Less, Equal, Greater}
use Rattle.std.specs.Ordering.{is_eq, is_lt, eq_by_cmp, ordering_reverse}
use Rattle.std.specs.Cmp as cmp
use Rattle.std.specs.Cmp.Lexicographic.{nat_list_cmp_total, texts_ties, bytes_decides}
use Rattle.std.specs.FinMap.{find}
use Rattle.std.proofs.lemmas.Bool.{false≢true, not-true, and_parts, and_from, or_parts}
use Rattle.lrs_measure.specs.Lists.{In, each_two}
use Rattle.lrs_measure.specs.OrderedLists.{insert_by, insert_all}
use Rattle.lrs_measure.specs.Texts.{Name, name_cmp, name_before, same_name}
use Rattle.lrs_measure.proofs.Members.{all_at, all_of, In-filter}
use Rattle.lrs_measure.proofs.Filters.{each_two-filter}
use Rattle.lrs_measure.proofs.Insertions.{In-insert}
use Rattle.lrs_events.proofs.Row.Unique.{less_one}
use Rattle.lrs_machine.specs.declared.image.RouteRow.{RouteRow}
use Rattle.lrs_machine.specs.Image.{route_entry}
use Rattle.lrs_machine.specs.Register.{by_order, put}
use Rattle.lrs_machine.specs.Sound.{route_before}
use Rattle.lrs_image.specs.Change.{is_named, without}
use Rattle.lrs_image.proofs.PutBack.{none_goes}
use Rattle.lrs_image_laws.specs.Rewrites.{routes_named, routes_left, rewritten}
use Rattle.lrs_image_laws.proofs.InOrder.{is_false, each_two-insert_by, before-chain, before-comparable}

-- ---- names

pub same_either : (m n : Name) → same_name m n ≡ same_name n m
same_either m n = cmp.both_ways (same_name m n) (same_name n m) (λ t. (bytes_decides n m).1 (sym ((bytes_decides m n).0 t))) (λ t. (bytes_decides m n).1 (sym ((bytes_decides n m).0 t)))

pub earlier_name : (m n : Name) → name_before m n ≡ true → same_name m n ≡ false
earlier_name m n h = is_false (same_name m n) (λ t. less_one m n h ((bytes_decides m n).0 t))

pub later_name : (m n : Name) → name_before m n ≡ true → same_name n m ≡ false
later_name m n h = same_either n m ∙ earlier_name m n h

-- ---- routes of a name, and the others

pub without_one : (name : Name) (routes : List RouteRow) → without name routes ≡ routes_left (name ∷ []) routes
without_one name routes = λ j. filter (λ e. not (sym (or-false (same_name e.route.name name)) j)) routes

-- those of other names than a route's own
abbrev is_other : RouteRow → RouteRow → Bool
is_other e f = not (same_name e.route.name f.route.name)

others_left : (e : RouteRow) (routes : List RouteRow) → filter (is_other e) routes ≡ routes_left (e.route.name ∷ []) routes
others_left e routes = λ j. filter (λ f. not ((same_either e.route.name f.route.name ∙ sym (or-false (same_name f.route.name e.route.name))) j)) routes

-- the one route of a name
pub only_one : (r : RouteRow) (routes : List RouteRow) → each_two route_before routes ≡ true → In r routes → routes_named (r.route.name ∷ []) routes ≡ r ∷ []
only_one r [] h m = absurd m
only_one r (y ∷ ys) h (inl e) =
    let both = and_parts (list_all (route_before y) ys) (each_two route_before ys) h in
    ap (λ b. cond (b || false) (y ∷ routes_named (r.route.name ∷ []) ys) (routes_named (r.route.name ∷ []) ys)) ((bytes_decides y.route.name r.route.name).1 (ap (λ (w : RouteRow). w.route.name) (sym e)))
    ∙ (λ j. sym e j ∷ none ys (λ z m. ap (λ (w : RouteRow). same_name z.route.name w.route.name) e ∙ later_name y.route.name z.route.name (all_at (route_before y) z ys both.0 m)) j)
  where
    none : (zs : List RouteRow) → ((z : RouteRow) → In z zs → same_name z.route.name r.route.name ≡ false) → routes_named (r.route.name ∷ []) zs ≡ []
    none [] w = refl
    none (z ∷ zs) w = ap (λ b. cond (b || false) (z ∷ routes_named (r.route.name ∷ []) zs) (routes_named (r.route.name ∷ []) zs)) (w z (inl refl)) ∙ none zs (λ x m. w x (inr m))
only_one r (y ∷ ys) h (inr m) =
    let both = and_parts (list_all (route_before y) ys) (each_two route_before ys) h in
    ap (λ b. cond (b || false) (y ∷ routes_named (r.route.name ∷ []) ys) (routes_named (r.route.name ∷ []) ys)) (earlier_name y.route.name r.route.name (all_at (route_before y) r ys both.0 m)) ∙ only_one r ys both.1 m

-- a route that is found is one of them, and has the name
pub found_in : (name : Name) (r : RouteRow) (routes : List RouteRow) → list.find (is_named name) routes ≡ Some r → In r routes × (r.route.name ≡ name)
found_in name r [] h = absurd (cc h)
found_in name r (y ∷ ys) h =
    elim (is_named name y) as (λ b. is_named name y ≡ b → cond b (Some y) (list.find (is_named name) ys) ≡ Some r → In r (y ∷ ys) × (r.route.name ≡ name)) [
      | true ↦ λ here is. let same : r ≡ y = cc is in (inl same, ap (λ (w : RouteRow). w.route.name) same ∙ (bytes_decides y.route.name name).0 here)
      | false ↦ λ apart is. let k = found_in name r ys is in (inr k.0, k.1)
    ] refl h

-- ---- the register of routes

-- to remove a name from the register is to drop its route
pub removed : (name : Name) (routes : List RouteRow) → filter (λ e. not (eq_by_cmp name_cmp name e.0)) (map route_entry routes) ≡ map route_entry (routes_left (name ∷ []) routes)
removed name [] = refl
removed name (y ∷ ys) =
    let own : eq_by_cmp name_cmp name y.route.name ≡ (same_name y.route.name name || false) = sym (texts_ties name y.route.name) ∙ same_either name y.route.name ∙ sym (or-false (same_name y.route.name name)) in
    let rest = removed name ys in
    ap (λ b. cond (not b) (route_entry y ∷ filter (λ e. not (eq_by_cmp name_cmp name e.0)) (map route_entry ys)) (filter (λ e. not (eq_by_cmp name_cmp name e.0)) (map route_entry ys))) own
    ∙ elim (same_name y.route.name name || false) as (λ b. cond (not b) (route_entry y ∷ filter (λ e. not (eq_by_cmp name_cmp name e.0)) (map route_entry ys)) (filter (λ e. not (eq_by_cmp name_cmp name e.0)) (map route_entry ys))
    ≡ map route_entry (cond (not b) (y ∷ routes_left (name ∷ []) ys) (routes_left (name ∷ []) ys))) [
      | true ↦ rest
      | false ↦ ap (λ es. route_entry y ∷ es) rest
    ]

-- the value at a route's name is the route's
pub route_found : (r : RouteRow) (routes : List RouteRow) → each_two route_before routes ≡ true → In r routes → find name_cmp r.route.name (map route_entry routes) ≡ Some (route_entry r).1
route_found r [] h m = absurd m
route_found r (y ∷ ys) h (inl e) =
    ap (λ b. cond b (Some (route_entry y).1) (find name_cmp r.route.name (map route_entry ys)))
    (sym (texts_ties r.route.name y.route.name) ∙ (bytes_decides r.route.name y.route.name).1 (ap (λ (w : RouteRow). w.route.name) e))
    ∙ ap (λ w. Some (route_entry w).1) (sym e)
route_found r (y ∷ ys) h (inr m) =
    let both = and_parts (list_all (route_before y) ys) (each_two route_before ys) h in
    ap (λ b. cond b (Some (route_entry y).1) (find name_cmp r.route.name (map route_entry ys)))
    (sym (texts_ties r.route.name y.route.name) ∙ later_name y.route.name r.route.name (all_at (route_before y) r ys both.0 m))
    ∙ route_found r ys both.1 m

pub route_none : (name : Name) (routes : List RouteRow) → list_any (is_named name) routes ≡ false → find name_cmp name (map route_entry routes) ≡ None
route_none name [] h = refl
route_none name (y ∷ ys) h =
    let both = or_parts (same_name y.route.name name) (list_any (is_named name) ys) h in
    ap (λ b. cond b (Some (route_entry y).1) (find name_cmp name (map route_entry ys))) (sym (texts_ties name y.route.name) ∙ same_either name y.route.name ∙ both.0) ∙ route_none name ys both.1

-- all behind it have other names
others : (e : RouteRow) (ys : List RouteRow) → list_all (route_before e) ys ≡ true → list_all (is_other e) ys ≡ true
others e ys h = all_of (is_other e) ys (λ y m. ap not (earlier_name e.route.name y.route.name (all_at (route_before e) y ys h m)))

pub route_chain : (a b c : RouteRow) → route_before a b ≡ true → route_before b c ≡ true → route_before a c ≡ true
route_chain = before-chain nat_list_cmp_total (λ (f : RouteRow). f.route.name)

at_front : (e : RouteRow) (ys : List RouteRow) → list_all (route_before e) ys ≡ true → insert_by route_before e ys ≡ e ∷ ys
at_front e [] h = refl
at_front e (y ∷ ys) h = ap (λ b. cond b (e ∷ y ∷ ys) (y ∷ insert_by route_before e ys)) (and_parts (route_before e y) (list_all (route_before e) ys) h).0

none_drops : (e : RouteRow) (ys : List RouteRow) → list_all (route_before e) ys ≡ true → filter (is_other e) ys ≡ ys
none_drops e ys h = none_goes route_before (λ f. same_name e.route.name f.route.name) ys (others e ys h)

put_among : (e : RouteRow) (routes : List RouteRow) → each_two route_before routes ≡ true → put name_cmp e.route.name (route_entry e).1 (map route_entry routes) ≡ map route_entry (insert_by route_before e (filter (is_other e) routes))
put_among e [] h = refl
put_among e (y ∷ ys) h =
    by (name_cmp e.route.name y.route.name) refl (put_among e ys both.1)
  where
    both : (list_all (route_before y) ys ≡ true) × (each_two route_before ys ≡ true)
    both = and_parts (list_all (route_before y) ys) (each_two route_before ys) h

    put_is : (o : Ordering) → name_cmp e.route.name y.route.name ≡ o
        → put name_cmp e.route.name (route_entry e).1 (map route_entry (y ∷ ys)) ≡ by_order o (route_entry e ∷ route_entry y ∷ map route_entry ys) ((y.route.name, (route_entry e).1) ∷ map route_entry ys) (route_entry y ∷ put name_cmp e.route.name (route_entry e).1 (map route_entry ys))
    put_is o is = ap (λ p. by_order p (route_entry e ∷ route_entry y ∷ map route_entry ys) ((y.route.name, (route_entry e).1) ∷ map route_entry ys) (route_entry y ∷ put name_cmp e.route.name (route_entry e).1 (map route_entry ys))) is

    by : (o : Ordering) → name_cmp e.route.name y.route.name ≡ o
        → put name_cmp e.route.name (route_entry e).1 (map route_entry ys) ≡ map route_entry (insert_by route_before e (filter (is_other e) ys))
        → put name_cmp e.route.name (route_entry e).1 (map route_entry (y ∷ ys)) ≡ map route_entry (insert_by route_before e (filter (is_other e) (y ∷ ys)))
    by Less is rest =
        let first : route_before e y ≡ true = ap is_lt is in
        let all = and_from (route_before e y) (list_all (route_before e) ys) first (all_of (route_before e) ys (λ z m. route_chain e y z first (all_at (route_before y) z ys both.0 m))) in
        put_is Less is
        ∙ sym (ap (λ l. map route_entry (insert_by route_before e l)) (none_drops e (y ∷ ys) all) ∙ ap (map route_entry) (at_front e (y ∷ ys) all))
    by Equal is rest =
        let tied = texts_ties e.route.name y.route.name ∙ ap is_eq is in
        let same : e.route.name ≡ y.route.name = (bytes_decides e.route.name y.route.name).0 tied in
        let all : list_all (route_before e) ys ≡ true = ap (λ n. list_all (λ f. is_lt (name_cmp n f.route.name)) ys) same ∙ both.0 in
        put_is Equal is
        ∙ (λ j. (sym same j, (route_entry e).1) ∷ map route_entry ys)
        ∙ sym (ap (λ b. map route_entry (insert_by route_before e (cond (not b) (y ∷ filter (is_other e) ys) (filter (is_other e) ys)))) tied
        ∙ ap (λ l. map route_entry (insert_by route_before e l)) (none_drops e ys all) ∙ ap (map route_entry) (at_front e ys all))
    by Greater is rest =
        put_is Greater is
        ∙ ap (λ l. route_entry y ∷ l) rest
        ∙ sym (ap (λ b. map route_entry (insert_by route_before e (cond (not b) (y ∷ filter (is_other e) ys) (filter (is_other e) ys)))) (texts_ties e.route.name y.route.name ∙ ap is_eq is)
        ∙ ap (λ b. map route_entry (cond b (e ∷ y ∷ filter (is_other e) ys) (y ∷ insert_by route_before e (filter (is_other e) ys)))) (ap is_lt is))

-- To write a route at its name in the register is to drop the one of its name, and to write it.
pub put_rewrites : (e : RouteRow) (routes : List RouteRow) → each_two route_before routes ≡ true
    → put name_cmp e.route.name (route_entry e).1 (map route_entry routes) ≡ map route_entry (rewritten (e.route.name ∷ []) (e ∷ []) routes)
put_rewrites e routes h = put_among e routes h ∙ ap (λ l. map route_entry (insert_by route_before e l)) (others_left e routes)

-- ---- order

pub left_in_order : (names : List Name) (routes : List RouteRow) → each_two route_before routes ≡ true → each_two route_before (routes_left names routes) ≡ true
left_in_order names routes h = each_two-filter route_before (λ e. not (list_any (same_name e.route.name) names)) routes h

-- rows of other names put among rows in the order of their names
module _ {Row : Type 0} (name : Row → Name) where
  abbrev pub earlier : Row → Row → Bool
  earlier a b = name_before (name a) (name b)

  abbrev unlike : Row → Row → Bool
  unlike a b = not (same_name (name a) (name b))

  no_ties : (w : Row) (ys : List Row) → ((y : Row) → In y ys → same_name (name w) (name y) ≡ false) → list_any (λ (y : Row). eq_by_cmp name_cmp (name w) (name y)) ys ≡ false
  no_ties w [] h = refl
  no_ties w (y ∷ ys) h = λ i. (sym (texts_ties (name w) (name y)) ∙ h y (inl refl)) i || no_ties w ys (λ z m. h z (inr m)) i

  pub all_in_order : (xs ys : List Row) → each_two unlike xs ≡ true → each_two earlier ys ≡ true → ((w e : Row) → In w xs → In e ys → same_name (name w) (name e) ≡ false)
      → each_two earlier (insert_all earlier xs ys) ≡ true
  all_in_order [] ys h k w = k
  all_in_order (x ∷ xs) ys h k w =
      let heads = and_parts (list_all (unlike x) xs) (each_two unlike xs) h in
      all_in_order xs (insert_by earlier x ys) heads.1
      (each_two-insert_by earlier (before-chain nat_list_cmp_total name) x ys (before-comparable nat_list_cmp_total name x ys (no_ties x ys (λ y m. w x y (inl refl) m))) k)
      (λ z y m n. with z y m (other x z (all_at (unlike x) z xs heads.0 m)) (In-insert earlier x y ys n))
    where
      other : (x z : Row) → unlike x z ≡ true → same_name (name z) (name x) ≡ false
      other x z t = same_either (name z) (name x) ∙ not-true (same_name (name x) (name z)) t

      with : (z y : Row) → In z xs → same_name (name z) (name x) ≡ false → (y ≡ x) ⊎ In y ys → same_name (name z) (name y) ≡ false
      with z y m t (inl e) = ap (λ (q : Row). same_name (name z) (name q)) e ∙ t
      with z y m t (inr n) = w z y (inr m) n

pub in_order : (xs ys : List RouteRow) → each_two is_other xs ≡ true → each_two route_before ys ≡ true → ((w e : RouteRow) → In w xs → In e ys → same_name w.route.name e.route.name ≡ false)
    → each_two route_before (insert_all route_before xs ys) ≡ true
in_order xs ys h k w = all_in_order (λ (e : RouteRow). e.route.name) xs ys h k w

-- a route in the place of the one of its name leaves them in order
pub order_stays : (w : RouteRow) (name : Name) (routes : List RouteRow) → w.route.name ≡ name → each_two route_before routes ≡ true → each_two route_before (rewritten (name ∷ []) (w ∷ []) routes) ≡ true
order_stays w name routes same order = in_order (w ∷ []) (routes_left (name ∷ []) routes) refl (left_in_order (name ∷ []) routes order)
    (λ v e m n. one v e m (In-filter (λ (e : RouteRow). not (list_any (same_name e.route.name) (name ∷ []))) e routes n).1)
  where
    one : (v e : RouteRow) → In v (w ∷ []) → not (same_name e.route.name name || false) ≡ true → same_name v.route.name e.route.name ≡ false
    one v e (inl h) n = ap (λ (v : RouteRow). same_name v.route.name e.route.name) h ∙ ap (λ n. same_name n e.route.name) same ∙ same_either name e.route.name
        ∙ sym (or-false (same_name e.route.name name)) ∙ not-true (same_name e.route.name name || false) n
    one v e (inr h) n = absurd h

-- of two names one comes before the other
pub one_way : (a b : RouteRow) → same_name a.route.name b.route.name ≡ false → route_before a b ≡ not (route_before b a)
one_way a b apart = by (name_cmp a.route.name b.route.name) (name_cmp b.route.name a.route.name) (nat_list_cmp_total.antisymm a.route.name b.route.name) (sym (texts_ties a.route.name b.route.name) ∙ apart)
  where
    by : (o p : Ordering) → o ≡ ordering_reverse p → is_eq o ≡ false → is_lt o ≡ not (is_lt p)
    by o Less e h = ap is_lt e
    by o Equal e h = absurd (false≢true (sym h ∙ ap is_eq e))
    by o Greater e h = ap is_lt e

-- Two elements are inserted in either order.
pub insert_swap : {X : Type 0} (before : X → X → Bool) → ((a b c : X) → before a b ≡ true → before b c ≡ true → before a c ≡ true) → (x y : X) → before x y ≡ not (before y x) → (zs : List X)
    → insert_by before x (insert_by before y zs) ≡ insert_by before y (insert_by before x zs)
insert_swap before chain x y one [] = by (before x y) (before y x) one
  where
    by : (a b : Bool) → a ≡ not b → cond a (x ∷ y ∷ []) (y ∷ x ∷ []) ≡ cond b (y ∷ x ∷ []) (x ∷ y ∷ [])
    by a true e = ap (λ c. cond c (x ∷ y ∷ []) (y ∷ x ∷ [])) e
    by a false e = ap (λ c. cond c (x ∷ y ∷ []) (y ∷ x ∷ [])) e
insert_swap before chain x y one (z ∷ zs) = by (before x z) (before y z) (before x y) (before y x) refl refl refl refl one (insert_swap before chain x y one zs)
  where
    by : (a b p q : Bool) → before x z ≡ a → before y z ≡ b → before x y ≡ p → before y x ≡ q → p ≡ not q → insert_by before x (insert_by before y zs) ≡ insert_by before y (insert_by before x zs)
        → insert_by before x (cond b (y ∷ z ∷ zs) (z ∷ insert_by before y zs)) ≡ insert_by before y (cond a (x ∷ z ∷ zs) (z ∷ insert_by before x zs))
    by true true true false ea eb ep eq e rest = ap (λ c. cond c (x ∷ y ∷ z ∷ zs) (y ∷ insert_by before x (z ∷ zs))) ep
        ∙ sym (ap (λ c. cond c (y ∷ x ∷ z ∷ zs) (x ∷ insert_by before y (z ∷ zs))) eq ∙ ap (λ c. x ∷ cond c (y ∷ z ∷ zs) (z ∷ insert_by before y zs)) eb)
    by true true false true ea eb ep eq e rest = ap (λ c. cond c (x ∷ y ∷ z ∷ zs) (y ∷ insert_by before x (z ∷ zs))) ep ∙ ap (λ c. y ∷ cond c (x ∷ z ∷ zs) (z ∷ insert_by before x zs)) ea
        ∙ sym (ap (λ c. cond c (y ∷ x ∷ z ∷ zs) (x ∷ insert_by before y (z ∷ zs))) eq)
    by a b true true ea eb ep eq e rest = absurd (false≢true (sym e))
    by a b false false ea eb ep eq e rest = absurd (false≢true e)
    by true false p true ea eb ep eq e rest = absurd (false≢true (sym eb ∙ chain y x z eq ea))
    by true false true false ea eb ep eq e rest = ap (λ c. cond c (x ∷ z ∷ insert_by before y zs) (z ∷ insert_by before x (insert_by before y zs))) ea
        ∙ sym (ap (λ c. cond c (y ∷ x ∷ z ∷ zs) (x ∷ insert_by before y (z ∷ zs))) eq ∙ ap (λ c. x ∷ cond c (y ∷ z ∷ zs) (z ∷ insert_by before y zs)) eb)
    by false true true q ea eb ep eq e rest = absurd (false≢true (sym ea ∙ chain x y z ep eb))
    by false true false true ea eb ep eq e rest = ap (λ c. cond c (x ∷ y ∷ z ∷ zs) (y ∷ insert_by before x (z ∷ zs))) ep ∙ ap (λ c. y ∷ cond c (x ∷ z ∷ zs) (z ∷ insert_by before x zs)) ea
        ∙ sym (ap (λ c. cond c (y ∷ z ∷ insert_by before x zs) (z ∷ insert_by before y (insert_by before x zs))) eb)
    by false false p q ea eb ep eq e rest = ap (λ c. cond c (x ∷ z ∷ insert_by before y zs) (z ∷ insert_by before x (insert_by before y zs))) ea ∙ ap (λ l. z ∷ l) rest
        ∙ sym (ap (λ c. cond c (y ∷ z ∷ insert_by before x zs) (z ∷ insert_by before y (insert_by before x zs))) eb)
