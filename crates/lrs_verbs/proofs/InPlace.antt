-- A route of a list in the order of names is changed, and keeps its name and its place.
use Rattle.std.proofs.Common.{◌≡◌, Bool, true, false, cond, ◌⊎◌, inl, inr, List, [], ◌∷◌, ◌++◌, map, filter, Some, refl, sym, ap, ◌∙◌}
use Rattle.std.specs.List.{find, list_any, list_all, flat_map}
use Rattle.std.proofs.Math.Bool.{or-false}
use Rattle.std.proofs.lemmas.Bool.{both_ways, and_parts, and_from, cases_Bool}
use Rattle.std.proofs.lemmas.List.Elements.{filter-append}
use Rattle.std.proofs.lemmas.List.Concat.{flat_map-append}
use Rattle.std.specs.Prelude.{◌||◌, not}
use Rattle.std.specs.Option.{option_map}
use Rattle.std.specs.Cmp.Lexicographic.{bytes_decides}
use Rattle.lrs_inventory.specs.Prelude.{each_two, insert_by, Name, Millimetre, runs_over, RouteRow, route_before, is_named, without}
use Rattle.lrs_measure.specs.Texts.{name_before}
use Rattle.lrs_measure.specs.Lists.{In}
use Rattle.lrs_measure.proofs.Members.{all_at, all_of}
use Rattle.lrs_measure.proofs.Filters.{filter_all}
use Rattle.lrs_machine.proofs.Pairs.{each_two-map}
use Rattle.lrs_image.proofs.Named.{name_apart}
use Rattle.lrs_image.proofs.PutBack.{none_goes, found_passes}
use Rattle.lrs_inventory.specs.Changes.{route_on}
use Rattle.lrs_image_laws.proofs.InOrder.{is_false}

-- ---- lists that differ at one place

module _ {X : Type 0} where
  -- the one list has `old` where the other has `new`
  pub record DifferAt (old new : X) (xs ys : List X) : Type 0 where
    pub front : List X
    pub rear : List X
    pub before : xs ≡ front ++ old ∷ rear
    pub after : ys ≡ front ++ new ∷ rear

  same_map : {Y : Type 0} (g : X → Y) (a b : X) (front rear : List X) → g b ≡ g a → map g (front ++ b ∷ rear) ≡ map g (front ++ a ∷ rear)
  same_map g a b [] rear h = λ j. h j ∷ map g rear
  same_map g a b (x ∷ xs) rear h = λ j. g x ∷ same_map g a b xs rear h j

  same_made : {Y : Type 0} (g : X → List Y) (a b : X) (front rear : List X) → g b ≡ g a → flat_map g (front ++ b ∷ rear) ≡ flat_map g (front ++ a ∷ rear)
  same_made g a b [] rear h = λ j. h j ++ flat_map g rear
  same_made g a b (x ∷ xs) rear h = λ j. g x ++ same_made g a b xs rear h j

  same_found : {Y : Type 0} (g : X → Y) (p : X → Bool) (a b : X) (front rear : List X) → g b ≡ g a → p b ≡ p a → option_map g (find p (front ++ b ∷ rear)) ≡ option_map g (find p (front ++ a ∷ rear))
  same_found g p a b [] rear h k =
      ap (λ t. option_map g (cond t (Some b) (find p rear))) k
      ∙ elim (p a) as (λ t. option_map g (cond t (Some b) (find p rear)) ≡ option_map g (cond t (Some a) (find p rear))) [ true ↦ ap Some h | false ↦ refl ]
  same_found g p a b (x ∷ xs) rear h k =
      elim (p x) as (λ t. option_map g (cond t (Some x) (find p (xs ++ b ∷ rear))) ≡ option_map g (cond t (Some x) (find p (xs ++ a ∷ rear)))) [
        | true ↦ refl
        | false ↦ same_found g p a b xs rear h k
      ]

  one_more : (p : X → Bool) (more : Bool) (a b : X) (front rear : List X) → p b ≡ (p a || more) → list_any p (front ++ b ∷ rear) ≡ (list_any p (front ++ a ∷ rear) || more)
  one_more p more a b [] rear h = ap (λ t. t || list_any p rear) h ∙ swap (p a) more (list_any p rear)
    where
      swap : (a b c : Bool) → ((a || b) || c) ≡ ((a || c) || b)
      swap true b c = refl
      swap false true true = refl
      swap false true false = refl
      swap false false true = refl
      swap false false false = refl
  one_more p more a b (x ∷ xs) rear h = ap (λ t. p x || t) (one_more p more a b xs rear h) ∙ last (p x) (list_any p (xs ++ a ∷ rear)) more
    where
      last : (a b c : Bool) → (a || (b || c)) ≡ ((a || b) || c)
      last true b c = refl
      last false b c = refl

  still_all : (p : X → Bool) (a b : X) (front rear : List X) → p b ≡ true → list_all p (front ++ a ∷ rear) ≡ true → list_all p (front ++ b ∷ rear) ≡ true
  still_all p a b [] rear h all = and_from (p b) (list_all p rear) h (and_parts (p a) (list_all p rear) all).1
  still_all p a b (x ∷ xs) rear h all =
      let both = and_parts (p x) (list_all p (xs ++ a ∷ rear)) all in
      and_from (p x) (list_all p (xs ++ b ∷ rear)) both.0 (still_all p a b xs rear h both.1)

  module _ (old new : X) (xs ys : List X) (d : DifferAt old new xs ys) where
    pub map_same : {Y : Type 0} (g : X → Y) → g new ≡ g old → map g ys ≡ map g xs
    map_same g h = ap (map g) d.after ∙ same_map g old new d.front d.rear h ∙ ap (map g) (sym d.before)

    pub made_same : {Y : Type 0} (g : X → List Y) → g new ≡ g old → flat_map g ys ≡ flat_map g xs
    made_same g h = ap (flat_map g) d.after ∙ same_made g old new d.front d.rear h ∙ ap (flat_map g) (sym d.before)

    pub found_same : {Y : Type 0} (g : X → Y) (p : X → Bool) → g new ≡ g old → p new ≡ p old → option_map g (find p ys) ≡ option_map g (find p xs)
    found_same g p h k = ap (λ l. option_map g (find p l)) d.after ∙ same_found g p old new d.front d.rear h k ∙ ap (λ l. option_map g (find p l)) (sym d.before)

    pub any_more : (p : X → Bool) (more : Bool) → p new ≡ (p old || more) → list_any p ys ≡ (list_any p xs || more)
    any_more p more h = ap (list_any p) d.after ∙ one_more p more old new d.front d.rear h ∙ ap (λ l. list_any p l || more) (sym d.before)

    pub all_still : (p : X → Bool) → p new ≡ true → list_all p xs ≡ true → list_all p ys ≡ true
    all_still p h all = ap (list_all p) d.after ∙ still_all p old new d.front d.rear h (sym (ap (list_all p) d.before) ∙ all)

    pub any_same : (p : X → Bool) → p new ≡ p old → list_any p ys ≡ list_any p xs
    any_same p h = any_more p false (h ∙ sym (or-false (p old))) ∙ or-false (list_any p xs)

    -- Where the new one has what passes of the old one, and what is made of the rest passes, all have what passes.
    pub made_filtered : {Y : Type 0} (f : X → List Y) (test : Y → Bool) → f new ≡ filter test (f old)
        → ((y : Y) → In y (flat_map f d.front) → test y ≡ true) → ((y : Y) → In y (flat_map f d.rear) → test y ≡ true) → flat_map f ys ≡ filter test (flat_map f xs)
    made_filtered f test own ahead behind =
        let front = flat_map f d.front in
        let rear = flat_map f d.rear in
        ap (flat_map f) d.after ∙ flat_map-append f d.front (new ∷ d.rear)
        ∙ (λ j. sym (filter_all test front ahead) j ++ (own j ++ sym (filter_all test rear behind) j))
        ∙ sym (filter-append test front (f old ++ rear) ∙ ap (λ zs. filter test front ++ zs) (filter-append test (f old) rear))
        ∙ ap (filter test) (sym (ap (flat_map f) d.before ∙ flat_map-append f d.front (old ∷ d.rear)))

-- ---- routes

some_is : (a b : RouteRow) → Some a ≡ Some b → b ≡ a
some_is a b h = cc

not_itself : (n : Name) → name_before n n ≡ true → ⊥
not_itself n h = both_ways (name_before n n) (name_apart n n h) h

-- no route behind one of the name has it
others : (name : Name) (y : RouteRow) (ys : List RouteRow) → y.route.name ≡ name → list_all (route_before y) ys ≡ true → list_all (λ z. not (is_named name z)) ys ≡ true
others name y ys is h = all_of (λ z. not (is_named name z)) ys (λ z m. ap not (is_false (is_named name z) (λ t.
    let same : z.route.name ≡ name = (bytes_decides z.route.name name).0 t in
    not_itself name ((λ j. name_before (sym is j) (sym same j)) ∙ all_at (route_before y) z ys h m))))

at_front : (new y : RouteRow) (ys : List RouteRow) → new.route.name ≡ y.route.name → list_all (route_before y) ys ≡ true → insert_by route_before new ys ≡ new ∷ ys
at_front new y [] is h = refl
at_front new y (z ∷ zs) is h =
    ap (λ b. cond b (new ∷ z ∷ zs) (z ∷ insert_by route_before new zs)) (ap (λ n. name_before n z.route.name) is ∙ (and_parts (route_before y z) (list_all (route_before y) zs) h).0)

-- One of the routes is found by its name.
pub found_by_name : (r : RouteRow) (routes : List RouteRow) → each_two route_before routes ≡ true → In r routes → find (is_named r.route.name) routes ≡ Some r
found_by_name r [] h m = absurd m
found_by_name r (y ∷ ys) h (inl e) =
    ap (λ b. cond b (Some y) (find (is_named r.route.name) ys)) ((bytes_decides y.route.name r.route.name).1 (ap (λ (x : RouteRow). x.route.name) (sym e))) ∙ ap (λ (x : RouteRow). Some x) (sym e)
found_by_name r (y ∷ ys) h (inr m) =
    let both = and_parts (list_all (route_before y) ys) (each_two route_before ys) h in
    let other = is_false (is_named r.route.name y) (λ t.
    let same : y.route.name ≡ r.route.name = (bytes_decides y.route.name r.route.name).0 t in
    not_itself r.route.name (ap (λ n. name_before n r.route.name) (sym same) ∙ all_at (route_before y) r ys both.0 m)) in
    ap (λ b. cond b (Some y) (find (is_named r.route.name) ys)) other ∙ found_by_name r ys both.1 m

-- The route of a name, taken out and put back as one of the same name, is in its place.
pub in_place : (name : Name) (old new : RouteRow) → new.route.name ≡ old.route.name → (routes : List RouteRow) → each_two route_before routes ≡ true → find (is_named name) routes ≡ Some old
    → DifferAt old new routes (insert_by route_before new (without name routes))
in_place name old new same [] h f = absurd (cc f)
in_place name old new same (y ∷ ys) h f = by (cases_Bool (is_named name y)) (in_place name old new same ys both.1)
  where
    both : (list_all (route_before y) ys ≡ true) × (each_two route_before ys ≡ true)
    both = and_parts (list_all (route_before y) ys) (each_two route_before ys) h

    without_is : (b : Bool) → is_named name y ≡ b → without name (y ∷ ys) ≡ cond (not b) (y ∷ without name ys) (without name ys)
    without_is b e = ap (λ t. cond (not t) (y ∷ without name ys) (without name ys)) e

    found_is : (b : Bool) → is_named name y ≡ b → cond b (Some y) (find (is_named name) ys) ≡ Some old
    found_is b e = sym (ap (λ t. cond t (Some y) (find (is_named name) ys)) e) ∙ f

    by : (is_named name y ≡ true) ⊎ (is_named name y ≡ false) → (find (is_named name) ys ≡ Some old → DifferAt old new ys (insert_by route_before new (without name ys)))
        → DifferAt old new (y ∷ ys) (insert_by route_before new (without name (y ∷ ys)))
    by (inl e) rest =
        let is : old ≡ y = some_is y old (found_is true e) in
        let named = (bytes_decides y.route.name name).0 e in
        record {
          front = [];
          rear = ys;
          before = λ j. sym is j ∷ ys;
          after = ap (insert_by route_before new) (without_is true e ∙ none_goes route_before (is_named name) ys (others name y ys named both.0))
              ∙ at_front new y ys (same ∙ ap (λ (z : RouteRow). z.route.name) is) both.0;
        }
    by (inr e) rest =
        let found = found_is false e in
        let d = rest found in
        let behind = found_passes route_before (is_named name) (route_before y) old ys both.0 found in
        let later : route_before new y ≡ false = ap (λ n. name_before n y.route.name) same ∙ name_apart y.route.name old.route.name behind in
        record {
          front = y ∷ d.front;
          rear = d.rear;
          before = ap (λ l. y ∷ l) d.before;
          after = ap (insert_by route_before new) (without_is false e) ∙ ap (λ b. cond b (new ∷ y ∷ without name ys) (y ∷ insert_by route_before new (without name ys))) later ∙ ap (λ l. y ∷ l) d.after;
        }

-- the names stay in order
pub names_stay : (old new : RouteRow) (xs ys : List RouteRow) → DifferAt old new xs ys → new.route.name ≡ old.route.name → each_two route_before xs ≡ true → each_two route_before ys ≡ true
names_stay old new xs ys d same h =
    sym (each_two-map name_before (λ (e : RouteRow). e.route.name) ys) ∙ ap (each_two name_before) (map_same old new xs ys d (λ (e : RouteRow). e.route.name) same) ∙ each_two-map name_before (λ (e : RouteRow). e.route.name) xs ∙ h

-- which route runs over a millimetre stays too
pub ground_stays : (old new : RouteRow) (xs ys : List RouteRow) → DifferAt old new xs ys → new.route.name ≡ old.route.name → new.route.course ≡ old.route.course → (m : Millimetre) → route_on ys m ≡ route_on xs m
ground_stays old new xs ys d same course m = found_same old new xs ys d (λ (e : RouteRow). e.route.name) (λ e. runs_over e.route.course m) same (ap (λ c. runs_over c m) course)
