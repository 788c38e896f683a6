-- The names of the routes of which rows say something, whatever the order of the rows.
use Rattle.std.proofs.Common.{◌≡◌, ℕ, suc, ◌+◌, ◌-◌, ◌<◌, ◌≤◌, Bool, true, false, cond, not, ◌⊎◌, inl, inr, List, [], ◌∷◌, ◌++◌, take, length, get_or, refl, sym, ap, subst, ◌∙◌, arith, length-take-le, get_or-take, IsPermutation}
use Rattle.std.specs.Prelude.{◌||◌, nat_lt}
use Rattle.std.specs.List.{list_any, list_all}
use Rattle.std.specs.List.Sorted.{IsSortedBy}
use Rattle.std.specs.Cmp.Lexicographic.{bytes_decides}
use Rattle.std.proofs.lemmas.Bool.{both_ways, and_parts, and_from, or_left, or_right, not-true, cases_lt, cases_Bool, false_from_ne_true, true_from_ne_false, ltb-true, lt-ltb}
use Rattle.std.proofs.lemmas.List.{get_or_default}
use Rattle.std.proofs.lemmas.List.Sorted.{sorted_far, IsPermutation-append_comm}
use Rattle.std.proofs.Math.Seq.{take-suc}
use Rattle.lrs_measure.specs.Lists.{In, each_two}
use Rattle.lrs_measure.specs.OrderedLists.{insert_by}
use Rattle.lrs_measure.specs.Texts.{Name, same_name, name_before}
use Rattle.lrs_measure.proofs.Members.{any_found, any_of, all_at, all_of}
use Rattle.lrs_measure.proofs.Places.{two_pass, place_in, member_at}
use Rattle.lrs_events.proofs.LaneLists.Inserted.{each_two-insert_by}
use Rattle.lrs_events.proofs.LaneLists.Ranks.{itself, before_trans}
use Rattle.lrs_image_sound.proofs.Along.{along_permutation}
use Rattle.lrs_store_tables.specs.Contents.Decoders.{OfRoute}
use Rattle.lrs_store_tables.specs.Contents.Content.{with_name, routes_named}
use Rattle.lrs_store_image.specs.DecodedRoutes.Groups.{route_before, ends_with}
use Rattle.lrs_store_tables.proofs.Contents.Unordered.{insert_by-comm}
use Rattle.lrs_store_image.proofs.DecodedRoutes.Grouped.{names_rank, names_tell, routes_rank}

any-insert_by : (p : Name → Bool) (x : Name) (xs : List Name) → list_any p (insert_by name_before x xs) ≡ (p x || list_any p xs)
any-insert_by p x [] = refl
any-insert_by p x (y ∷ ys) =
    elim (name_before x y) as (λ b. list_any p (cond b (x ∷ y ∷ ys) (y ∷ insert_by name_before x ys)) ≡ (p x || (p y || list_any p ys))) [
      | true ↦ refl
      | false ↦ ap (λ b. p y || b) (any-insert_by p x ys) ∙ turn (p y) (p x) (list_any p ys)
    ]
  where
    turn : (a b c : Bool) → (a || (b || c)) ≡ (b || (a || c))
    turn true true c = refl
    turn true false c = refl
    turn false b c = refl

-- whether the name is one of these
abbrev is_one : Name → List Name → Bool
is_one a ns = list_any (same_name a) ns

known : (a : Name) (ns : List Name) → is_one a ns ≡ true → with_name a ns ≡ ns
known a ns h = ap (λ b. cond b ns (insert_by name_before a ns)) h

new : (a : Name) (ns : List Name) → is_one a ns ≡ false → with_name a ns ≡ insert_by name_before a ns
new a ns h = ap (λ b. cond b ns (insert_by name_before a ns)) h

one_of_more : (a b : Name) (ns : List Name) → is_one a ns ≡ true → is_one a (insert_by name_before b ns) ≡ true
one_of_more a b ns h = any-insert_by (same_name a) b ns ∙ or_right (same_name a b) (is_one a ns) h

none_of_more : (a b : Name) (ns : List Name) → same_name a b ≡ false → is_one a ns ≡ false → is_one a (insert_by name_before b ns) ≡ false
none_of_more a b ns e h = any-insert_by (same_name a) b ns ∙ (λ j. e j || h j)

back : (a b : Name) → same_name a b ≡ false → same_name b a ≡ false
back a b e = false_from_ne_true (same_name b a) (λ t. both_ways (same_name a b) e ((bytes_decides a b).1 (sym ((bytes_decides b a).0 t))))

with_name-comm : (a b : Name) (ns : List Name) → with_name a (with_name b ns) ≡ with_name b (with_name a ns)
with_name-comm a b ns = by (cases_Bool (same_name a b)) (cases_Bool (is_one a ns)) (cases_Bool (is_one b ns))
  where
    Goal : Type 0
    Goal = with_name a (with_name b ns) ≡ with_name b (with_name a ns)

    both_new : same_name a b ≡ false → (name_before a b ≡ true) ⊎ (name_before a b ≡ false) → insert_by name_before a (insert_by name_before b ns) ≡ insert_by name_before b (insert_by name_before a ns)
    both_new e (inl h) = insert_by-comm name_before names_rank a b h ns
    both_new e (inr h) =
        sym (insert_by-comm name_before names_rank b a (true_from_ne_false (name_before b a) (λ k. both_ways (same_name a b) e (names_tell a b h k))) ns)

    by : (same_name a b ≡ true) ⊎ (same_name a b ≡ false) → (is_one a ns ≡ true) ⊎ (is_one a ns ≡ false) → (is_one b ns ≡ true) ⊎ (is_one b ns ≡ false) → with_name a (with_name b ns) ≡ with_name b (with_name a ns)
    by (inl e) p q = let one : a ≡ b = (bytes_decides a b).0 e in subst (λ c. with_name a (with_name c ns) ≡ with_name c (with_name a ns)) one refl
    by (inr e) (inl p) (inl q) = ap (with_name a) (known b ns q) ∙ known a ns p ∙ sym (ap (with_name b) (known a ns p) ∙ known b ns q)
    by (inr e) (inl p) (inr q) = ap (with_name a) (new b ns q) ∙ known a (insert_by name_before b ns) (one_of_more a b ns p) ∙ sym (ap (with_name b) (known a ns p) ∙ new b ns q)
    by (inr e) (inr p) (inl q) = ap (with_name a) (known b ns q) ∙ new a ns p ∙ sym (ap (with_name b) (new a ns p) ∙ known b (insert_by name_before a ns) (one_of_more b a ns q))
    by (inr e) (inr p) (inr q) =
        ap (with_name a) (new b ns q) ∙ new a (insert_by name_before b ns) (none_of_more a b ns e p) ∙ both_new e (cases_Bool (name_before a b))
        ∙ sym (ap (with_name b) (new a ns p) ∙ new b (insert_by name_before a ns) (none_of_more b a ns (back a b e) q))

-- Rows in any order name the same routes.
pub routes_named-permutation : {X : Type 0} (xs ys : List (OfRoute X)) → IsPermutation xs ys → routes_named xs ≡ routes_named ys
routes_named-permutation {X} = along_permutation (λ xs ys. routes_named xs ≡ routes_named ys)
    (λ xs. refl) (λ x xs ys h. ap (with_name x.route) h) (λ x y xs. with_name-comm x.route y.route (routes_named xs)) (λ xs ys zs h k. h ∙ k)

-- ---- they are in order

apart : (a : Name) (ns : List Name) → is_one a ns ≡ false → list_all (λ n. name_before a n || name_before n a) ns ≡ true
apart a ns h = all_of (λ n. name_before a n || name_before n a) ns (λ n m. by n m (cases_Bool (name_before a n)))
  where
    by : (n : Name) → In n ns → (name_before a n ≡ true) ⊎ (name_before a n ≡ false) → (name_before a n || name_before n a) ≡ true
    by n m (inl k) = or_left (name_before a n) (name_before n a) k
    by n m (inr k) = or_right (name_before a n) (name_before n a) (true_from_ne_false (name_before n a) (λ l. both_ways (is_one a ns) h (any_of (same_name a) n ns m (names_tell a n k l))))

with_name_rises : (a : Name) (ns : List Name) → each_two name_before ns ≡ true → each_two name_before (with_name a ns) ≡ true
with_name_rises a ns h = by (cases_Bool (is_one a ns))
  where
    by : (is_one a ns ≡ true) ⊎ (is_one a ns ≡ false) → each_two name_before (with_name a ns) ≡ true
    by (inl p) = ap (each_two name_before) (known a ns p) ∙ h
    by (inr p) = ap (each_two name_before) (new a ns p) ∙ each_two-insert_by name_before names_rank a ns (apart a ns p) h

pub routes_named_rise : {X : Type 0} (rows : List (OfRoute X)) → each_two name_before (routes_named rows) ≡ true
routes_named_rise [] = refl
routes_named_rise (r ∷ rs) = with_name_rises r.route (routes_named rs) (routes_named_rise rs)

all_with : (p : Name → Bool) (x : Name) (xs : List Name) → p x ≡ true → list_all p xs ≡ true → list_all p (insert_by name_before x xs) ≡ true
all_with p x [] here h = and_from (p x) true here refl
all_with p x (y ∷ ys) here h =
    let both = and_parts (p y) (list_all p ys) h in
    elim (name_before x y) as (λ b. list_all p (cond b (x ∷ y ∷ ys) (y ∷ insert_by name_before x ys)) ≡ true) [
      | true ↦ and_from (p x) (list_all p (y ∷ ys)) here h
      | false ↦ and_from (p y) (list_all p (insert_by name_before x ys)) both.0 (all_with p x ys here both.1)
    ]

all_with_name : (p : Name → Bool) (x : Name) (xs : List Name) → p x ≡ true → list_all p xs ≡ true → list_all p (with_name x xs) ≡ true
all_with_name p x xs here h = by (cases_Bool (is_one x xs))
  where
    by : (is_one x xs ≡ true) ⊎ (is_one x xs ≡ false) → list_all p (with_name x xs) ≡ true
    by (inl k) = ap (list_all p) (known x xs k) ∙ h
    by (inr k) = ap (list_all p) (new x xs k) ∙ all_with p x xs here h

all_named : {X : Type 0} (p : Name → Bool) (rows : List (OfRoute X)) → list_all (λ r. p r.route) rows ≡ true → list_all p (routes_named rows) ≡ true
all_named p [] h = refl
all_named p (r ∷ rs) h =
    let both = and_parts (p r.route) (list_all (λ r. p r.route) rs) h in
    all_with_name p r.route (routes_named rs) both.0 (all_named p rs both.1)

-- ---- one after the other

-- the name is before none of these
abbrev pub is_last : Name → List Name → Bool
is_last a ns = list_all (λ n. not (name_before a n)) ns

at_end : (a : Name) (ns : List Name) → is_last a ns ≡ true → insert_by name_before a ns ≡ ns ++ a ∷ []
at_end a [] h = refl
at_end a (n ∷ ns) h =
    let both = and_parts (not (name_before a n)) (is_last a ns) h in
    ap (λ b. cond b (a ∷ n ∷ ns) (n ∷ insert_by name_before a ns)) (not-true (name_before a n) both.0) ∙ ap (λ l. n ∷ l) (at_end a ns both.1)

pub named_again : (a : Name) (ns : List Name) → ends_with a ns ≡ true → ns ≡ with_name a ns
named_again a ns h =
    let both = and_parts (nat_lt 0 (length ns)) (same_name (get_or ns (length ns - 1) []) a) h in
    let some = ltb-true 0 (length ns) both.0 in
    let is : get_or ns (length ns - 1) [] ≡ a = (bytes_decides (get_or ns (length ns - 1) []) a).0 both.1 in
    sym (known a ns (any_of (same_name a) (get_or ns (length ns - 1) []) ns (member_at ns (length ns - 1) [] (omega (arith, some))) ((bytes_decides a (get_or ns (length ns - 1) [])).1 (sym is))))

module _ (a : Name) (ns : List Name) (up : each_two name_before ns ≡ true) (last : is_last a ns ≡ true) (ends : ends_with a ns ≡ false) where
  other : (d : Name) → 0 < length ns → get_or ns (length ns - 1) d ≡ a → ⊥
  other d some e =
      both_ways (ends_with a ns) ends (and_from (nat_lt 0 (length ns)) (same_name (get_or ns (length ns - 1) []) a) (lt-ltb 0 (length ns) some)
      ((bytes_decides (get_or ns (length ns - 1) []) a).1 (get_or_default ns (length ns - 1) [] d (omega (arith, some)) ∙ e)))

  last_before : (d : Name) → 0 < length ns → name_before (get_or ns (length ns - 1) d) a ≡ true
  last_before d some =
      let l = get_or ns (length ns - 1) d in
      let m = member_at ns (length ns - 1) d (omega (arith, some)) in
      true_from_ne_false (name_before l a) (λ k. other d some ((bytes_decides l a).0 (names_tell l a k (not-true (name_before a l) (all_at (λ n. not (name_before a n)) l ns last m)))))

  each_before : (n : Name) → In n ns → name_before n a ≡ true
  each_before n m = by (cases_lt at.0 (length ns - 1))
    where
      at : (k : ℕ) × (k < length ns) × ((d : Name) → get_or ns k d ≡ n)
      at = place_in n ns m

      by : (at.0 < length ns - 1) ⊎ (length ns - 1 ≤ at.0) → name_before n a ≡ true
      by (inl l) =
          before_trans name_before names_rank n (get_or ns (length ns - 1) n) a
          (subst (λ z. name_before z (get_or ns (length ns - 1) n) ≡ true) (at.2 n) (two_pass name_before ns at.0 (length ns - 1) n up l (omega (arith, l)))) (last_before n (omega (arith, l)))
      by (inr g) =
          let inside = at.1 in
          let e : length ns - 1 ≡ at.0 = omega (arith, g, inside) in
          subst (λ z. name_before z a ≡ true) (ap (λ k. get_or ns k n) e ∙ at.2 n) (last_before n (omega (arith, inside)))

  pub named_next : ns ++ a ∷ [] ≡ with_name a ns
  named_next =
      sym (new a ns (false_from_ne_true (is_one a ns) (λ t.
      let x = any_found (same_name a) ns t in
      both_ways (name_before a a) (itself name_before names_rank a) (subst (λ z. name_before z a ≡ true) (sym ((bytes_decides a x.0).0 x.2)) (each_before x.0 x.1)))) ∙ at_end a ns last)

module _ {X : Type 0} (rows : List (OfRoute X)) (up : IsSortedBy route_before rows) (i : ℕ) (row : OfRoute X) (inside : i < length rows) (is : row ≡ get_or rows i row) where
  pub last_named : is_last row.route (routes_named (take i rows)) ≡ true
  last_named = all_named (λ n. not (name_before row.route n)) (take i rows) (all_of (λ r. not (name_before row.route r.route)) (take i rows) (λ r m.
      let at = place_in r (take i rows) m in
      let low = at.1 in
      let short : length (take i rows) ≡ i = length-take-le i rows (omega (arith, inside)) in
      let less : at.0 < i = omega (arith, low, short) in
      let here : get_or rows at.0 row ≡ r = sym (get_or-take i rows at.0 row less) ∙ at.2 row in
      ap not (ap (λ z. name_before z r.route) (ap (λ (z : OfRoute X). z.route) is) ∙ ap (λ z. name_before (get_or rows i row).route z) (ap (λ (z : OfRoute X). z.route) (sym here))
      ∙ sorted_far route_before routes_rank rows up at.0 i row (omega (arith, less)) inside)))

  pub named_more : routes_named (take (i + 1) rows) ≡ with_name row.route (routes_named (take i rows))
  named_more =
      let next : i + 1 ≡ suc i = omega arith in
      ap (λ n. routes_named (take n rows)) next ∙ ap routes_named (take-suc rows i row inside) ∙ ap (λ z. routes_named (take i rows ++ z ∷ [])) (sym is)
      ∙ routes_named-permutation (take i rows ++ row ∷ []) (row ∷ take i rows) (IsPermutation-append_comm (take i rows) (row ∷ []))
