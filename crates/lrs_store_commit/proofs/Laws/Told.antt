-- What rows say that were made list by list and route by route.
use Rattle.std.proofs.Common.{◌≡◌, ℕ, ◌+◌, ◌<◌, Bool, true, false, cond, inl, inr, List, [], ◌∷◌, ◌++◌, map, filter, length, Option, Some, refl, sym, ap, ap₂, ◌∙◌, flat_map, arith}
use Rattle.std.specs.Prelude.{nat_eq, ◌||◌}
use Rattle.std.specs.List.{list_all, list_any}
use Rattle.std.proofs.lemmas.Bool.{true≢false, and_parts, and_from, eq-eqb, lt-ltb, false_from_ne_true}
use Rattle.std.proofs.lemmas.List.{map-append, append-nil}
use Rattle.std.proofs.lemmas.List.Elements.{filter-append}
use Rattle.std.specs.Cmp.Lexicographic.{bytes_decides}
use Rattle.lrs_measure.specs.Lists.{In, each_two, is_nothing}
use Rattle.lrs_measure.specs.OrderedLists.{insert_by}
use Rattle.lrs_measure.specs.Texts.{Name, name_before, same_name}
use Rattle.lrs_measure.proofs.Members.{In-map, all_at, all_of, any_found, flat_map_found, map_found}
use Rattle.lrs_store_tables.specs.Contents.Decoders.{only_if, each_of, sorted, OfRoute, said_of, Numbered, number_before, counted}
use Rattle.lrs_store_tables.specs.Contents.Content.{with_name, routes_named}
use Rattle.lrs_store_tables.specs.Contents.Encoders.{numbered}
use Rattle.lrs_store_commit.proofs.Laws.Decoded.{some_is, bind_some}
use Rattle.lrs_store_commit.proofs.Laws.Grouped.{same_itself, other_name, differs_before}
use Rattle.lrs_store_commit.proofs.Laws.Written.{bind_is, only_is, told}

-- ---- rows of lists

pub each_there : {Row X Y : Type 0} (decoded : Row → Option X) (row : Y → Row) (says : Y → X) (ys : List Y) → ((y : Y) → In y ys → decoded (row y) ≡ Some (says y)) → each_of decoded (map row ys) ≡ Some (map says ys)
each_there decoded row says [] h = refl
each_there decoded row says (y ∷ ys) h =
    bind_is (decoded (row y)) _ (says y) _ (h y (inl refl)) (bind_is (each_of decoded (map row ys)) _ (map says ys) _ (each_there decoded row says ys (λ z m. h z (inr m))) refl)

pub each_numbered : {Row X Y : Type 0} (decoded : Row → Option X) (row : ℕ → Y → Row) (says : ℕ → Y → X) (k : ℕ) (ys : List Y) → ((n : ℕ) (y : Y) → n < k + length ys → In y ys → decoded (row n y) ≡ Some (says n y))
    → each_of decoded (numbered row k ys) ≡ Some (numbered says k ys)
each_numbered decoded row says k [] h = refl
each_numbered decoded row says k (y ∷ ys) h =
    bind_is (decoded (row k y)) _ (says k y) _ (h k y (omega arith) (inl refl))
    (bind_is (each_of decoded (numbered row (k + 1) ys)) _ (numbered says (k + 1) ys) _ (each_numbered decoded row says (k + 1) ys (λ n z l m. h n z (omega (arith, l)) (inr m))) refl)

each_append : {Row X : Type 0} (decoded : Row → Option X) (rs ss : List Row) (xs ys : List X) → each_of decoded rs ≡ Some xs → each_of decoded ss ≡ Some ys → each_of decoded (rs ++ ss) ≡ Some (xs ++ ys)
each_append decoded [] ss xs ys h k = k ∙ ap (λ zs. Some (zs ++ ys)) (some_is [] xs h)
each_append decoded (r ∷ rs) ss xs ys h k =
    let first = bind_some (decoded r) _ xs h in
    let rest = bind_some (each_of decoded rs) _ xs first.2 in
    bind_is (decoded r) _ first.0 _ first.1
    (bind_is (each_of decoded (rs ++ ss)) _ (rest.0 ++ ys) _ (each_append decoded rs ss rest.0 ys rest.1 k)
    (ap (λ zs. Some (zs ++ ys)) (some_is (first.0 ∷ rest.0) xs rest.2)))

pub each_flat : {E Row X : Type 0} (decoded : Row → Option X) (own : E → List Row) (says : E → List X) (es : List E) → ((e : E) → In e es → each_of decoded (own e) ≡ Some (says e)) → each_of decoded (flat_map own es) ≡ Some (flat_map says es)
each_flat decoded own says [] h = refl
each_flat decoded own says (e ∷ es) h = each_append decoded (own e) (flat_map own es) (says e) (flat_map says es) (h e (inl refl)) (each_flat decoded own says es (λ f m. h f (inr m)))

-- what is in order stays as it is
pub sorted-same : {X : Type 0} (before : X → X → Bool) (xs : List X) → each_two before xs ≡ true → sorted before xs ≡ xs
sorted-same before [] h = refl
sorted-same before (x ∷ xs) h =
    let both = and_parts (list_all (before x) xs) (each_two before xs) h in
    ap (insert_by before x) (sorted-same before xs both.1) ∙ first xs both.0
  where
    first : (ys : List _) → list_all (before x) ys ≡ true → insert_by before x ys ≡ x ∷ ys
    first [] k = refl
    first (y ∷ ys) k = ap (λ b. cond b (x ∷ y ∷ ys) (y ∷ insert_by before x ys)) (and_parts (before x y) (list_all (before x) ys) k).0

-- ---- under numbers

abbrev pub under : {X : Type 0} → ℕ → X → Numbered X
under n x = record { n = n; said = x }

after_all : {X : Type 0} (j k : ℕ) (x : X) (xs : List X) → j < k → list_all (number_before (under j x)) (numbered under k xs) ≡ true
after_all j k x [] h = refl
after_all j k x (y ∷ ys) h = and_from _ _ (lt-ltb j k h) (after_all j (k + 1) x ys (omega (arith, h)))

numbered_order : {X : Type 0} (k : ℕ) (xs : List X) → each_two number_before (numbered under k xs) ≡ true
numbered_order k [] = refl
numbered_order k (x ∷ xs) = and_from _ _ (after_all k (k + 1) x xs (omega arith)) (numbered_order (k + 1) xs)

counts : {X : Type 0} (k : ℕ) (xs : List X) → counted k (numbered under k xs) ≡ Some xs
counts k [] = refl
counts k (x ∷ xs) = bind_is (only_if (nat_eq k k) x) _ x _ (only_is (nat_eq k k) x (eq-eqb k k refl)) (bind_is (counted (k + 1) (numbered under (k + 1) xs)) _ xs _ (counts (k + 1) xs) refl)

pub numbers_counted : {X : Type 0} (k : ℕ) (xs : List X) → counted k (sorted number_before (numbered under k xs)) ≡ Some xs
numbers_counted k xs = ap (counted k) (sorted-same number_before (numbered under k xs) (numbered_order k xs)) ∙ counts k xs

-- numbered rows of a route are what is told of it
pub numbered-told : {X : Type 0} (route : Name) (k : ℕ) (xs : List X) → numbered (λ n x. told route (under n x)) k xs ≡ map (told route) (numbered under k xs)
numbered-told route k [] = refl
numbered-told route k (x ∷ xs) = ap (λ t. told route (under k x) ∷ t) (numbered-told route (k + 1) xs)

-- ---- route by route

said-append : {X : Type 0} (n : Name) (xs ys : List (OfRoute X)) → said_of n (xs ++ ys) ≡ said_of n xs ++ said_of n ys
said-append n xs ys =
    ap (map (λ (r : OfRoute _). r.said)) (filter-append (λ (r : OfRoute _). same_name r.route n) xs ys)
    ∙ map-append (λ (r : OfRoute _). r.said) (filter (λ (r : OfRoute _). same_name r.route n) xs) (filter (λ (r : OfRoute _). same_name r.route n) ys)

said_own : {X : Type 0} (n m : Name) (xs : List X) → m ≡ n → said_of n (map (told m) xs) ≡ xs
said_own n m [] e = refl
said_own n m (x ∷ xs) e =
    ap (λ b. map (λ (r : OfRoute _). r.said) (cond b (told m x ∷ filter (λ r. same_name r.route n) (map (told m) xs)) (filter (λ r. same_name r.route n) (map (told m) xs)))) (same_itself m n e)
    ∙ ap (λ ys. x ∷ ys) (said_own n m xs e)

said_other : {X : Type 0} (n m : Name) (xs : List X) → (m ≡ n → ⊥) → said_of n (map (told m) xs) ≡ []
said_other n m [] h = refl
said_other n m (x ∷ xs) h =
    ap (λ b. map (λ (r : OfRoute _). r.said) (cond b (told m x ∷ filter (λ r. same_name r.route n) (map (told m) xs)) (filter (λ r. same_name r.route n) (map (told m) xs)))) (other_name m n h)
    ∙ said_other n m xs h

module _ {E X : Type 0} (name : E → Name) (own : E → List X) where
  abbrev pub all_told : List E → List (OfRoute X)
  all_told es = flat_map (λ e. map (told (name e)) (own e)) es

  said_none : (n : Name) (es : List E) → ((e : E) → In e es → name e ≡ n → ⊥) → said_of n (all_told es) ≡ []
  said_none n [] h = refl
  said_none n (e ∷ es) h =
      said-append n (map (told (name e)) (own e)) (all_told es)
      ∙ ap₂ (λ xs ys. xs ++ ys) (said_other n (name e) (own e) (h e (inl refl))) (said_none n es (λ f m. h f (inr m)))

  -- what is said of a route is its own
  pub said_back : (e : E) (es : List E) → each_two name_before (map name es) ≡ true → In e es → said_of (name e) (all_told es) ≡ own e
  said_back e [] order m = absurd m
  said_back e (f ∷ es) order m = by m (said_back e es (and_parts _ _ order).1)
    where
      after : (g : E) → In g es → name_before (name f) (name g) ≡ true
      after g k = all_at (name_before (name f)) (name g) (map name es) (and_parts _ _ order).0 (In-map name g es k)

      by : In e (f ∷ es) → (In e es → said_of (name e) (all_told es) ≡ own e) → said_of (name e) (all_told (f ∷ es)) ≡ own e
      by (inl same) later =
          said-append (name e) (map (told (name f)) (own f)) (all_told es)
          ∙ ap₂ (λ xs ys. xs ++ ys) (said_own (name e) (name f) (own f) (ap name (sym same)))
          (said_none (name e) es (λ g k is. differs_before (name f) (name g) (after g k) (ap name (sym same) ∙ sym is)))
          ∙ append-nil (own f)
          ∙ ap own (sym same)
      by (inr k) later =
          said-append (name e) (map (told (name f)) (own f)) (all_told es)
          ∙ ap (λ xs. xs ++ said_of (name e) (all_told es)) (said_other (name e) (name f) (own f) (differs_before (name f) (name e) (after e k)))
          ∙ later k

  -- all is told of the routes
  pub told_known : (is_known : Name → Bool) (es : List E) → ((e : E) → In e es → is_known (name e) ≡ true) → list_all (λ (r : OfRoute X). is_known r.route) (all_told es) ≡ true
  told_known is_known es h = all_of _ (all_told es) (λ r m.
      let e = flat_map_found (λ e. map (told (name e)) (own e)) r es m in
      let x = map_found (told (name e.0)) r (own e.0) e.2 in
      ap (λ (s : OfRoute X). is_known s.route) x.2 ∙ h e.0 e.1)

  -- ---- the names

  put_first : (n : Name) (names : List Name) → list_all (name_before n) names ≡ true → with_name n names ≡ n ∷ names
  put_first n names h =
      ap (λ b. cond b names (insert_by name_before n names)) (none names h) ∙ first names h
    where
      none : (ms : List Name) → list_all (name_before n) ms ≡ true → list_any (same_name n) ms ≡ false
      none ms k = false_from_ne_true _ (λ some. let found = any_found (same_name n) ms some in differs_before n found.0 (all_at (name_before n) found.0 ms k found.1) ((bytes_decides _ _).0 found.2))

      first : (ms : List Name) → list_all (name_before n) ms ≡ true → insert_by name_before n ms ≡ n ∷ ms
      first [] k = refl
      first (m ∷ ms) k = ap (λ b. cond b (n ∷ m ∷ ms) (m ∷ insert_by name_before n ms)) (and_parts _ _ k).0

  put_again : (n : Name) (names : List Name) → with_name n (n ∷ names) ≡ n ∷ names
  put_again n names = ap (λ b. cond (b || list_any (same_name n) names) (n ∷ names) (insert_by name_before n (n ∷ names))) (same_itself n n refl)

  one_name : (n : Name) (xs : List X) (more : List (OfRoute X)) (names : List Name) → is_nothing xs ≡ false → routes_named more ≡ names → list_all (name_before n) names ≡ true → routes_named (map (told n) xs ++ more) ≡ n ∷ names
  one_name n [] more names some is h = absurd (true≢false some)
  one_name n (x ∷ []) more names some is h = ap (with_name n) is ∙ put_first n names h
  one_name n (x ∷ y ∷ ys) more names some is h = ap (with_name n) (one_name n (y ∷ ys) more names refl is h) ∙ put_again n names

  -- the routes that are named are these, in the order of their names
  pub names_told : (es : List E) → each_two name_before (map name es) ≡ true → ((e : E) → In e es → is_nothing (own e) ≡ false) → routes_named (all_told es) ≡ map name es
  names_told [] order some = refl
  names_told (e ∷ es) order some =
      let both = and_parts (list_all (name_before (name e)) (map name es)) (each_two name_before (map name es)) order in
      one_name (name e) (own e) (all_told es) (map name es) (some e (inl refl)) (names_told es both.1 (λ f m. some f (inr m))) both.0
