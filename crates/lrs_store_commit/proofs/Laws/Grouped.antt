-- What is said in any order is what is said in order, and what is said route by route.
use Rattle.std.proofs.Common.{◌≡◌, ℕ, ◌+◌, Bool, true, false, cond, inl, inr, List, [], ◌∷◌, ◌++◌, map, filter, Option, Some, refl, sym, ap, subst, ◌∙◌, IsPermutation, flat_map}
use Rattle.std.specs.Prelude.{nat_eq}
use Rattle.std.specs.List.{list_all}
use Rattle.std.specs.Ordering.{is_lt}
use Rattle.std.specs.Cmp.{tied_itself}
use Rattle.std.specs.Cmp.Lexicographic.{bytes_decides, nat_list_cmp_total}
use Rattle.std.proofs.lemmas.Bool.{false≢true, eqb-true, and_parts, false_from_ne_true}
use Rattle.std.proofs.lemmas.List.Sorted.{IsPermutation-refl, IsPermutation-sym, IsPermutation-trans, IsPermutation-cons, IsPermutation-middle, IsPermutation-map, IsPermutation-append, IsPermutation-append_right}
use Rattle.lrs_measure.specs.Lists.{In, each_two}
use Rattle.lrs_measure.specs.OrderedLists.{insert_by}
use Rattle.lrs_measure.specs.Texts.{Name, name_cmp, name_before, same_name}
use Rattle.lrs_measure.proofs.Members.{all_at}
use Rattle.lrs_store_tables.specs.Contents.Decoders.{only_if, each_of, each_sorted, sorted, OfRoute, said_of, Numbered, number_before, counted}
use Rattle.lrs_store_tables.specs.Contents.Encoders.{numbered}
use Rattle.lrs_store_commit.proofs.Laws.Decoded.{some_is, bind_some, only_some, rows_back}

-- ---- in order

module _ {X : Type 0} (before : X → X → Bool) where
  IsPermutation-insert_by : (x : X) (ys : List X) → IsPermutation (x ∷ ys) (insert_by before x ys)
  IsPermutation-insert_by x [] = IsPermutation-refl (x ∷ [])
  IsPermutation-insert_by x (y ∷ ys) =
      let later : IsPermutation (x ∷ y ∷ ys) (y ∷ insert_by before x ys) =
      IsPermutation-trans _ _ _ (IsPermutation-sym _ _ (IsPermutation-middle (y ∷ []) x ys)) (IsPermutation-cons y _ _ (IsPermutation-insert_by x ys)) in
      elim (before x y) as (λ b. IsPermutation (x ∷ y ∷ ys) (cond b (x ∷ y ∷ ys) (y ∷ insert_by before x ys))) [
        | true ↦ IsPermutation-refl (x ∷ y ∷ ys)
        | false ↦ later
      ]

  pub IsPermutation-sorted : (xs : List X) → IsPermutation xs (sorted before xs)
  IsPermutation-sorted [] = IsPermutation-refl []
  IsPermutation-sorted (x ∷ xs) = IsPermutation-trans _ _ _ (IsPermutation-cons x _ _ (IsPermutation-sorted xs)) (IsPermutation-insert_by x (sorted before xs))

  pub In-insert : (z x : X) (ys : List X) → In z (insert_by before x ys) → In z (x ∷ ys)
  In-insert z x [] m = m
  In-insert z x (y ∷ ys) m =
      elim (before x y) as (λ b. In z (cond b (x ∷ y ∷ ys) (y ∷ insert_by before x ys)) → In z (x ∷ y ∷ ys)) [
        | true ↦ λ k. k
        | false ↦ λ k. by k (In-insert z x ys)
      ] m
    where
      by : In z (y ∷ insert_by before x ys) → (In z (insert_by before x ys) → In z (x ∷ ys)) → In z (x ∷ y ∷ ys)
      by (inl e) later = inr (inl e)
      by (inr k) later = on (later k)
        where
          on : In z (x ∷ ys) → In z (x ∷ y ∷ ys)
          on (inl e) = inl e
          on (inr j) = inr (inr j)

  -- nothing more is there where it is sorted
  pub In-sorted : (z : X) (xs : List X) → In z (sorted before xs) → In z xs
  In-sorted z [] m = m
  In-sorted z (x ∷ xs) m = by (In-insert z x (sorted before xs) m) (In-sorted z xs)
    where
      by : In z (x ∷ sorted before xs) → (In z (sorted before xs) → In z xs) → In z (x ∷ xs)
      by (inl e) later = inl e
      by (inr k) later = inr (later k)

-- the rows of what is said in order
pub sorted_back : {X Row : Type 0} (row : X → Row) (before : X → X → Bool) (said xs : List X) → xs ≡ sorted before said → IsPermutation (map row xs) (map row said)
sorted_back row before said xs e =
    subst (λ ys. IsPermutation (map row ys) (map row said)) (sym e) (IsPermutation-map row (sorted before said) said (IsPermutation-sym said (sorted before said) (IsPermutation-sorted before said)))

-- the rows of a table are those of what it says in order
pub table_back : {Row X : Type 0} (before : X → X → Bool) (decoded : Row → Option X) (row : X → Row) → ((r : Row) (x : X) → decoded r ≡ Some x → row x ≡ r) → (rows : List Row) (xs : List X) → each_sorted before decoded rows ≡ Some xs
    → IsPermutation (map row xs) rows
table_back before decoded row back rows xs h =
    let said = bind_some (each_of decoded rows) _ xs h in
    subst (IsPermutation (map row xs)) (rows_back decoded row back rows said.0 said.1) (sorted_back row before said.0 xs (sym (some_is (sorted before said.0) xs said.2)))

-- ---- under their numbers

pub counted_back : {X Row : Type 0} (row : ℕ → X → Row) (k : ℕ) (rs : List (Numbered X)) (xs : List X) → counted k rs ≡ Some xs → numbered row k xs ≡ map (λ r. row r.n r.said) rs
counted_back row k [] xs h = ap (numbered row k) (sym (some_is [] xs h))
counted_back row k (r ∷ rs) xs h =
    let first = bind_some (only_if (nat_eq r.n k) r.said) _ xs h in
    let rest = bind_some (counted (k + 1) rs) _ xs first.2 in
    let made = some_is (first.0 ∷ rest.0) xs rest.2 in
    let here = only_some (nat_eq r.n k) r.said first.0 first.1 in
    let place : r.n ≡ k = eqb-true r.n k here.0 in
    sym (ap (numbered row k) made)
    ∙ ap (λ x. row k x ∷ numbered row (k + 1) rest.0) (sym here.1)
    ∙ ap (λ n. row n r.said ∷ numbered row (k + 1) rest.0) (sym place)
    ∙ ap (λ ys. row r.n r.said ∷ ys) (counted_back row (k + 1) rs rest.0 rest.1)

-- each was said under some number
pub counted_member : {X : Type 0} (k : ℕ) (rs : List (Numbered X)) (xs : List X) (x : X) → counted k rs ≡ Some xs → In x xs → (r : Numbered X) × In r rs × (r.said ≡ x)
counted_member k [] xs x h m = absurd (subst (In x) (sym (some_is [] xs h)) m)
counted_member k (r ∷ rs) xs x h m =
    let first = bind_some (only_if (nat_eq r.n k) r.said) _ xs h in
    let rest = bind_some (counted (k + 1) rs) _ xs first.2 in
    by first.0 rest.0 (only_some (nat_eq r.n k) r.said first.0 first.1).1 (counted_member (k + 1) rs rest.0 x rest.1) (subst (In x) (sym (some_is (first.0 ∷ rest.0) xs rest.2)) m)
  where
    by : (z : _) (zs : List _) → r.said ≡ z → (In x zs → (s : Numbered _) × In s rs × (s.said ≡ x)) → In x (z ∷ zs) → (s : Numbered _) × In s (r ∷ rs) × (s.said ≡ x)
    by z zs is later (inl e) = (r, inl refl, is ∙ sym e)
    by z zs is later (inr j) = let found = later j in (found.0, inr found.1, found.2)

-- the rows of a list are those of what is said under its numbers
pub numbered_back : {X Row : Type 0} (row : ℕ → X → Row) (k : ℕ) (said : List (Numbered X)) (xs : List X) → counted k (sorted number_before said) ≡ Some xs → IsPermutation (numbered row k xs) (map (λ r. row r.n r.said) said)
numbered_back row k said xs h =
    subst (λ rows. IsPermutation rows (map (λ r. row r.n r.said) said)) (sym (counted_back row k (sorted number_before said) xs h))
    (sorted_back (λ r. row r.n r.said) number_before said (sorted number_before said) refl)

-- ---- route by route

pub same_itself : (a b : Name) → a ≡ b → same_name a b ≡ true
same_itself a b e = (bytes_decides a b).1 e

pub differs_before : (a b : Name) → name_before a b ≡ true → a ≡ b → ⊥
differs_before a b h e =
    let itself : is_lt (name_cmp a a) ≡ false = ap is_lt (tied_itself nat_list_cmp_total a) in
    false≢true (sym itself ∙ subst (λ c. name_before a c ≡ true) (sym e) h)

pub other_name : (a b : Name) → (a ≡ b → ⊥) → same_name a b ≡ false
other_name a b apart = false_from_ne_true (same_name a b) (λ h. apart ((bytes_decides a b).0 h))

module _ {X Row : Type 0} (row : Name → X → Row) where
  -- the rows of what is said of a route
  abbrev pub rows_of : List (OfRoute X) → Name → List Row
  rows_of said n = map (row n) (said_of n said)

  abbrev pub row_said : OfRoute X → Row
  row_said r = row r.route r.said

  one_more : (r : OfRoute X) (said : List (OfRoute X)) (n : Name) → r.route ≡ n → rows_of (r ∷ said) n ≡ row_said r ∷ rows_of said n
  one_more r said n e =
      ap (λ b. map (row n) (map (λ (s : OfRoute X). s.said) (cond b (r ∷ filter (λ s. same_name s.route n) said) (filter (λ s. same_name s.route n) said)))) (same_itself r.route n e)
      ∙ ap (λ m. row m r.said ∷ rows_of said n) (sym e)

  no_more : (r : OfRoute X) (said : List (OfRoute X)) (n : Name) → (r.route ≡ n → ⊥) → rows_of (r ∷ said) n ≡ rows_of said n
  no_more r said n other =
      ap (λ b. map (row n) (map (λ (s : OfRoute X). s.said) (cond b (r ∷ filter (λ s. same_name s.route n) said) (filter (λ s. same_name s.route n) said)))) (other_name r.route n other)

  absent : (r : OfRoute X) (said : List (OfRoute X)) (names : List Name) → ((n : Name) → In n names → r.route ≡ n → ⊥) → flat_map (rows_of (r ∷ said)) names ≡ flat_map (rows_of said) names
  absent r said [] other = refl
  absent r said (n ∷ names) other =
      ap (λ xs. xs ++ flat_map (rows_of (r ∷ said)) names) (no_more r said n (other n (inl refl)))
      ∙ ap (λ ys. rows_of said n ++ ys) (absent r said names (λ m k. other m (inr k)))

  present : (r : OfRoute X) (said : List (OfRoute X)) (names : List Name) → each_two name_before names ≡ true → In r.route names → IsPermutation (flat_map (rows_of (r ∷ said)) names) (row_said r ∷ flat_map (rows_of said) names)
  present r said [] order m = absurd m
  present r said (n ∷ names) order m = by m (present r said names (and_parts _ _ order).1)
    where
      by : In r.route (n ∷ names) → (In r.route names → IsPermutation (flat_map (rows_of (r ∷ said)) names) (row_said r ∷ flat_map (rows_of said) names))
          → IsPermutation (flat_map (rows_of (r ∷ said)) (n ∷ names)) (row_said r ∷ flat_map (rows_of said) (n ∷ names))
      by (inl e) later =
          let none = absent r said names (λ m k same. differs_before n m (all_at (name_before n) m names (and_parts (list_all (name_before n) names) _ order).0 k) (sym e ∙ same)) in
          let same : flat_map (rows_of (r ∷ said)) (n ∷ names) ≡ row_said r ∷ flat_map (rows_of said) (n ∷ names) =
          ap (λ xs. xs ++ flat_map (rows_of (r ∷ said)) names) (one_more r said n e) ∙ ap (λ ys. row_said r ∷ (rows_of said n ++ ys)) none in
          subst (λ xs. IsPermutation xs (row_said r ∷ flat_map (rows_of said) (n ∷ names))) (sym same) (IsPermutation-refl _)
      by (inr k) later =
          let other : r.route ≡ n → ⊥ = λ e. differs_before n r.route (all_at (name_before n) r.route names (and_parts (list_all (name_before n) names) _ order).0 k) (sym e) in
          subst (λ xs. IsPermutation (xs ++ flat_map (rows_of (r ∷ said)) names) (row_said r ∷ flat_map (rows_of said) (n ∷ names))) (sym (no_more r said n other))
          (IsPermutation-trans _ _ _ (IsPermutation-append_right (rows_of said n) _ _ (later k)) (IsPermutation-middle (rows_of said n) (row_said r) (flat_map (rows_of said) names)))

  nothing_said : (names : List Name) → flat_map (rows_of []) names ≡ []
  nothing_said [] = refl
  nothing_said (n ∷ names) = nothing_said names

  -- the rows route by route are those of all that is said
  pub grouped : (said : List (OfRoute X)) (names : List Name) → each_two name_before names ≡ true → ((r : OfRoute X) → In r said → In r.route names) → IsPermutation (flat_map (rows_of said) names) (map row_said said)
  grouped [] names order known = subst (λ xs. IsPermutation xs []) (sym (nothing_said names)) (IsPermutation-refl [])
  grouped (r ∷ said) names order known =
      IsPermutation-trans _ _ _ (present r said names order (known r (inl refl))) (IsPermutation-cons (row_said r) _ _ (grouped said names order (λ s k. known s (inr k))))

  module _ {E : Type 0} (name : E → Name) (own : E → List Row) where
    each_own : (said : List (OfRoute X)) (es : List E) → ((e : E) → In e es → IsPermutation (own e) (rows_of said (name e))) → IsPermutation (flat_map own es) (flat_map (rows_of said) (map name es))
    each_own said [] is = IsPermutation-refl []
    each_own said (e ∷ es) is = IsPermutation-append _ _ _ _ (is e (inl refl)) (each_own said es (λ f k. is f (inr k)))

    -- the rows of some routes, of which each has its own
    pub rows_of_routes : (said : List (OfRoute X)) (rows : List Row) (es : List E) → map row_said said ≡ rows → each_two name_before (map name es) ≡ true → ((r : OfRoute X) → In r said → In r.route (map name es))
        → ((e : E) → In e es → IsPermutation (own e) (rows_of said (name e))) → IsPermutation (flat_map own es) rows
    rows_of_routes said rows es is order known each =
        subst (IsPermutation (flat_map own es)) is (IsPermutation-trans _ _ _ (each_own said es each) (grouped said (map name es) order known))

-- what is said of a route was said
pub said_member : {X : Type 0} (n : Name) (said : List (OfRoute X)) (x : X) → In x (said_of n said) → (s : OfRoute X) × In s said × (s.said ≡ x)
said_member n [] x m = absurd m
said_member n (r ∷ said) x m =
    elim (same_name r.route n) as (λ b. In x (map (λ (s : OfRoute _). s.said) (cond b (r ∷ filter (λ s. same_name s.route n) said) (filter (λ s. same_name s.route n) said))) → (s : OfRoute _) × In s (r ∷ said) × (s.said ≡ x)) [
      | true ↦ λ k. by k (said_member n said x)
      | false ↦ λ k. let found = said_member n said x k in (found.0, inr found.1, found.2)
    ] m
  where
    by : In x (r.said ∷ said_of n said) → (In x (said_of n said) → (s : OfRoute _) × In s said × (s.said ≡ x)) → (s : OfRoute _) × In s (r ∷ said) × (s.said ≡ x)
    by (inl e) later = (r, inl refl, sym e)
    by (inr k) later = let found = later k in (found.0, inr found.1, found.2)
