-- A referent comes.
use Rattle.std.proofs.Common.{◌≡◌, ℕ, ◌+◌, ◌<◌, Bool, true, false, cond, inl, inr, List, [], ◌∷◌, ◌++◌, length, Option, Some, None, Result, Ok, Err, refl, sym, ap, subst, ◌∙◌}
use Rattle.std.specs.Cmp.{Equal-is}
use Rattle.std.specs.FinMap.{find}
use Rattle.std.proofs.lemmas.Bool.{false≢true, both_ways, and_parts, and_from, ltb-true, lt-ltb}
use Rattle.std.proofs.lemmas.List.Folds.{list_all-append}
use Rattle.std.proofs.lemmas.List.Concat.{flat_map-append}
use Rattle.std.specs.Prelude.{◌&&◌, not, nat_lt, is_some}
use Rattle.std.specs.List.{list_any, list_all, flat_map, filter_map, cons_option}
use Rattle.std.specs.Option.{option_map, option_or, ok_or}
use Rattle.std.specs.Ordering.{eq_by_cmp}
use Rattle.std.specs.Cmp.Lexicographic.{nat_list_cmp_total, texts_ties, bytes_decides}
use Rattle.lrs_measure.specs.Lists.{In}
use Rattle.lrs_measure.proofs.Members.{any_found, all_at, all_of, In-flat_map, flat_map_found}
use Rattle.lrs_measure.proofs.Filters.{filter_all}
use Rattle.lrs_measure.proofs.Insertions.{all-insert_by}
use Rattle.lrs_inventory.specs.Prelude.{each_two, insert_by, Name, name_cmp, same_name, Ground, Millimetre, Referent, Alignment, is_route, is_route_course, have_marks, are_referents, referent_before, Cause, Image, RouteRow, state_of, referent_entry, referents_on, attempt, ◌>>◌, ◌>>=◌, IsSound, State, changed_refs}
use Rattle.lrs_element.specs.Course.{ground_at}
use Rattle.lrs_position.specs.declared.expression.Expr.{Expr}
use Rattle.lrs_position.specs.Locations.{cell}
use Rattle.lrs_machine.specs.declared.answer.Cause.TheVariants as cause
use Rattle.lrs_machine.specs.declared.command.Command.TheVariants as verb
use Rattle.lrs_machine.specs.Machine.{refuse_if, route_named, located_chainage, set_referent}
use Rattle.lrs_machine.specs.Register.{get}
use Rattle.lrs_machine.proofs.SoundImages.{and_three}
use Rattle.lrs_machine.proofs.Finding.{find_known}
use Rattle.lrs_inventory.specs.RouteStretches.{located_cell}
use Rattle.lrs_inventory.specs.Plans.{IsPlanOf}
use Rattle.lrs_verbs.specs.RouteReferents.{plan_of_referents, with_one, standing_at}
use Rattle.lrs_image_laws.proofs.FromReferents.{ground_there, other_names, refs_of, names_once}
use Rattle.lrs_image_laws.proofs.InOrder.{is_false, each_two-insert_by, before-chain, before-comparable}
use Rattle.lrs_inventory.proofs.NamedEntries.{names_exact}
use Rattle.lrs_verbs.proofs.InPlace.{DifferAt}
use Rattle.lrs_verbs.proofs.RouteReferents.{new, became, after, in_its_place, is_plan}

-- ---- one more among lists that follow each other

module _ {X : Type 0} (before : X → X → Bool) (x : X) where
  abbrev pub with_more : List X → List X → List X → List X
  with_more front xs rear = front ++ (insert_by before x xs ++ rear)

  all_with : (test : X → Bool) (front xs rear : List X) → test x ≡ true → list_all test (front ++ (xs ++ rear)) ≡ true → list_all test (with_more front xs rear) ≡ true
  all_with test front xs rear here h =
      let outer = and_parts (list_all test front) (list_all test (xs ++ rear)) (sym (list_all-append test front (xs ++ rear)) ∙ h) in
      let inner = and_parts (list_all test xs) (list_all test rear) (sym (list_all-append test xs rear) ∙ outer.1) in
      list_all-append test front (insert_by before x xs ++ rear)
      ∙ and_from (list_all test front) (list_all test (insert_by before x xs ++ rear)) outer.0
      (list_all-append test (insert_by before x xs) rear ∙ and_from (list_all test (insert_by before x xs)) (list_all test rear) (all-insert_by test before x xs here inner.0) inner.1)

  -- Each two pass still, where the new one passes with each of the others, on either side.
  pub each_two_with : (test : X → X → Bool) (front xs rear : List X) → ((y : X) → In y (front ++ (xs ++ rear)) → (test x y ≡ true) × (test y x ≡ true)) → each_two test (front ++ (xs ++ rear)) ≡ true
      → each_two test (with_more front xs rear) ≡ true
  each_two_with test [] [] rear others h = and_from (list_all (test x) rear) (each_two test rear) (all_of (test x) rear (λ y m. (others y m).0)) h
  each_two_with test [] (z ∷ zs) rear others h =
      let both = and_parts (list_all (test z) (zs ++ rear)) (each_two test (zs ++ rear)) h in
      elim (before x z) as (λ b. each_two test (cond b (x ∷ z ∷ zs) (z ∷ insert_by before x zs) ++ rear) ≡ true) [
        | true ↦ and_from (list_all (test x) (z ∷ (zs ++ rear))) (each_two test (z ∷ (zs ++ rear))) (all_of (test x) (z ∷ (zs ++ rear)) (λ y m. (others y m).0)) h
        | false ↦ and_from (list_all (test z) (insert_by before x zs ++ rear)) (each_two test (insert_by before x zs ++ rear))
            (all_with (test z) [] zs rear (others z (inl refl)).1 both.0) (each_two_with test [] zs rear (λ y m. others y (inr m)) both.1)
      ]
  each_two_with test (z ∷ zs) xs rear others h =
      let both = and_parts (list_all (test z) (zs ++ (xs ++ rear))) (each_two test (zs ++ (xs ++ rear))) h in
      and_from (list_all (test z) (with_more zs xs rear)) (each_two test (with_more zs xs rear))
      (all_with (test z) zs xs rear (others z (inl refl)).1 both.0) (each_two_with test zs xs rear (λ y m. others y (inr m)) both.1)

-- ---- rows with one more

find_append : (xs ys : List (Name × Millimetre)) (q : Name) → find name_cmp q (xs ++ ys) ≡ option_or (find name_cmp q xs) (find name_cmp q ys)
find_append [] ys q = refl
find_append (x ∷ xs) ys q =
    elim (eq_by_cmp name_cmp q x.0) as (λ b. cond b (Some x.1) (find name_cmp q (xs ++ ys)) ≡ option_or (cond b (Some x.1) (find name_cmp q xs)) (find name_cmp q ys)) [
      | true ↦ refl
      | false ↦ find_append xs ys q
    ]

neither : (a b : Option Millimetre) → option_or a b ≡ None → (a ≡ None) × (b ≡ None)
neither None b h = (refl, h)
neither (Some x) b h = absurd (cc h)

module _ (name : Name) (place : Millimetre) where
  -- the name is found there, and each other as before
  abbrev HasOneMore : List (Name × Millimetre) → List (Name × Millimetre) → Type 0
  HasOneMore old now = (q : Name) → find name_cmp q now ≡ cond (same_name q name) (Some place) (find name_cmp q old)

  one_more : (front old now rear : List (Name × Millimetre)) → find name_cmp name front ≡ None → HasOneMore old now → HasOneMore (front ++ (old ++ rear)) (front ++ (now ++ rear))
  one_more front old now rear none h q =
      find_append front (now ++ rear) q ∙ ap (option_or (find name_cmp q front)) (find_append now rear q ∙ ap (λ o. option_or o (find name_cmp q rear)) (h q))
      ∙ elim (same_name q name) as (λ b. same_name q name ≡ b
      → option_or (find name_cmp q front) (option_or (cond b (Some place) (find name_cmp q old)) (find name_cmp q rear))
      ≡ cond b (Some place) (option_or (find name_cmp q front) (option_or (find name_cmp q old) (find name_cmp q rear)))) [
        | true ↦ λ same. ap (λ o. option_or o (Some place)) (ap (λ n. find name_cmp n front) ((bytes_decides q name).0 same) ∙ none)
        | false ↦ λ apart. refl
      ] refl
      ∙ ap (cond (same_name q name) (Some place)) (sym (find_append front (old ++ rear) q ∙ ap (option_or (find name_cmp q front)) (find_append old rear q)))

  module _ (course : List Ground) (at : ℕ) (there : ground_at course at ≡ Some place) where
    abbrev comes : Referent
    comes = record { name = name; at = at }

    abbrev rows : List Referent → List (Name × Millimetre)
    rows refs = filter_map (referent_entry course) refs

    abbrev row : Referent → Option Millimetre → Option (Name × Millimetre)
    row q o = option_map (λ m. (q.name, m)) o

    own_row : (rest : List (Name × Millimetre)) → cons_option (row comes (ground_at course at)) rest ≡ (name, place) ∷ rest
    own_row rest = ap (λ o. cons_option (row comes o) rest) there

    first_found : (rest : List (Name × Millimetre)) → HasOneMore rest ((name, place) ∷ rest)
    first_found rest q = ap (λ b. cond b (Some place) (find name_cmp q rest)) (sym (texts_ties q name))

    -- behind a row of another name
    behind_other : (y : Name × Millimetre) (old now : List (Name × Millimetre)) → same_name name y.0 ≡ false → HasOneMore old now → HasOneMore (y ∷ old) (y ∷ now)
    behind_other y old now apart h q =
        ap (cond (eq_by_cmp name_cmp q y.0) (Some y.1)) (h q)
        ∙ elim (eq_by_cmp name_cmp q y.0) as (λ b. eq_by_cmp name_cmp q y.0 ≡ b
        → cond b (Some y.1) (cond (same_name q name) (Some place) (find name_cmp q old)) ≡ cond (same_name q name) (Some place) (cond b (Some y.1) (find name_cmp q old))) [
          | true ↦ λ same. sym (ap (λ b. cond b (Some place) (Some y.1)) (other (names_exact q y.0 ((Equal-is _).0 same))))
          | false ↦ λ e. refl
        ] refl
      where
        other : q ≡ y.0 → same_name q name ≡ false
        other e = is_false (same_name q name) (λ t. both_ways (same_name name y.0) apart ((bytes_decides name y.0).1 (sym ((bytes_decides q name).0 t) ∙ e)))

    -- The rows of the referents with the new one have one more.
    pub rows_with : (refs : List Referent) → ((q : Referent) → In q refs → same_name name q.name ≡ false) → HasOneMore (rows refs) (rows (insert_by referent_before comes refs))
    rows_with [] others q = ap (find name_cmp q) (own_row []) ∙ first_found [] q
    rows_with (y ∷ ys) others q =
        elim (referent_before comes y) as (λ b. find name_cmp q (rows (cond b (comes ∷ y ∷ ys) (y ∷ insert_by referent_before comes ys))) ≡ cond (same_name q name) (Some place) (find name_cmp q (rows (y ∷ ys)))) [
          | true ↦ ap (find name_cmp q) (own_row (rows (y ∷ ys))) ∙ first_found (rows (y ∷ ys)) q
          | false ↦ by (ground_at course y.at) (rows ys) (rows (insert_by referent_before comes ys)) (rows_with ys (λ z m. others z (inr m))) q
        ]
      where
        by : (o : Option Millimetre) (old now : List (Name × Millimetre)) → HasOneMore old now → HasOneMore (cons_option (row y o) old) (cons_option (row y o) now)
        by None old now h = h
        by (Some m) old now h = behind_other (y.name, m) old now (others y (inl refl)) h

-- ---- what the verb does

module _ (name route : Name) (e : Expr) (i : Image) (n : ℕ) where
  abbrev put_at : Alignment → ℕ → Result State Cause
  put_at a at = Ok (set_referent name (ground_at a.course at) (state_of i))

  abbrev on_route : Alignment → Result State Cause
  on_route a = located_cell (state_of i) a (length a.course) e >>= put_at a

  in_cell : (a : Alignment) → (located_chainage (state_of i) a e >>= (λ x. put_at a (cell (length a.course) x))) ≡ on_route a
  in_cell a = by (located_chainage (state_of i) a e)
    where
      by : (r : Result (ℕ × ℕ) Cause) → (r >>= (λ x. put_at a (cell (length a.course) x))) ≡ ((r >>= (λ x. Ok (cell (length a.course) x))) >>= put_at a)
      by (Ok x) = refl
      by (Err c) = refl

  attempt-ref : attempt n (verb.Ref name route e) (state_of i) ≡ (refuse_if (is_some ((state_of i).referents name)) cause.RefKnown >> (route_named (state_of i) route >>= on_route))
  unfolding attempt
  attempt-ref = λ j. refuse_if (is_some ((state_of i).referents name)) cause.RefKnown >> (route_named (state_of i) route >>= (λ a. in_cell a j))

  pub refuses_known : is_some ((state_of i).referents name) ≡ true → attempt n (verb.Ref name route e) (state_of i) ≡ Err cause.RefKnown
  refuses_known known = attempt-ref ∙ ap (λ b. refuse_if b cause.RefKnown >> (route_named (state_of i) route >>= on_route)) known

  module _ (fresh : is_some ((state_of i).referents name) ≡ false) where
    -- where the route is looked for
    looked_for : (o : Option Alignment) → get (state_of i).routes route ≡ o → attempt n (verb.Ref name route e) (state_of i) ≡ (ok_or o cause.NoRoute >>= on_route)
    looked_for o is = attempt-ref ∙ (λ j. refuse_if (fresh j) cause.RefKnown >> (ok_or (is j) cause.NoRoute >>= on_route))

    pub refuses_route : get (state_of i).routes route ≡ None → attempt n (verb.Ref name route e) (state_of i) ≡ Err cause.NoRoute
    refuses_route none = looked_for None none

    module _ (a : Alignment) (is : get (state_of i).routes route ≡ Some a) where
      pub refuses_position : (c : Cause) → located_cell (state_of i) a (length a.course) e ≡ Err c → attempt n (verb.Ref name route e) (state_of i) ≡ Err c
      refuses_position c h = looked_for (Some a) is ∙ ap (λ r. r >>= put_at a) h

      pub puts : (at : ℕ) → located_cell (state_of i) a (length a.course) e ≡ Ok at → attempt n (verb.Ref name route e) (state_of i) ≡ Ok (set_referent name (ground_at a.course at) (state_of i))
      puts at h = looked_for (Some a) is ∙ ap (λ r. r >>= put_at a) h

-- ---- the referents of all routes

-- a referent of a route has a row there
row_in : (course : List Ground) (refs : List Referent) (q : Referent) (m : Millimetre) → In q refs → ground_at course q.at ≡ Some m → In (q.name, m) (filter_map (referent_entry course) refs)
row_in course [] q m k h = absurd k
row_in course (y ∷ ys) q m (inl e) h =
    subst (λ o. In (q.name, m) (cons_option (option_map (λ n. (y.name, n)) o) (filter_map (referent_entry course) ys))) (sym (ap (λ (z : Referent). ground_at course z.at) (sym e) ∙ h)) (inl (ap (λ (z : Referent). (z.name, m)) e))
row_in course (y ∷ ys) q m (inr k) h = by (ground_at course y.at) (row_in course ys q m k h)
  where
    by : (o : Option Millimetre) → In (q.name, m) (filter_map (referent_entry course) ys) → In (q.name, m) (cons_option (option_map (λ n. (y.name, n)) o) (filter_map (referent_entry course) ys))
    by None later = later
    by (Some n) later = inr later

-- No referent has a name that stands nowhere.
other_name : (name : Name) (i : Image) → (state_of i).referents name ≡ None → (q : Referent) → In q (flat_map refs_of i.routes) → same_name name q.name ≡ false
unfolding state_of
other_name name i fresh q k = is_false (same_name name q.name) (λ t.
    let f = flat_map_found refs_of q i.routes k in
    let course = f.0.route.course in
    let fits = and_three (is_route_course course) (have_marks course f.0.route.marks) (are_referents (length course) f.0.route.refs) f.0.route.fits in
    let inside = (and_parts (each_two referent_before f.0.route.refs) (list_all (λ z. nat_lt z.at (length course)) f.0.route.refs) fits.2).1 in
    let g = ground_there course q.at (ltb-true q.at (length course) (all_at (λ z. nat_lt z.at (length course)) q f.0.route.refs inside f.2)) in
    let m : Millimetre = (g.0.link, g.0.mm) in
    let row = row_in course f.0.route.refs q m f.2 (ap (option_map (λ (h : Ground). (h.link, h.mm))) g.1) in
    let known = find_known nat_list_cmp_total q.name m (flat_map referents_on i.routes) (In-flat_map referents_on f.0 (q.name, m) i.routes f.1 row) in
    false≢true (sym (ap is_some (ap (λ n. find name_cmp n (flat_map referents_on i.routes)) (sym ((bytes_decides name q.name).0 t)) ∙ fresh)) ∙ known))

-- The verb puts a new referent on its route.
module _ (name : Name) (at : ℕ) (place : Millimetre) (i : Image) (r : RouteRow) (s : IsSound i) (m : In r i.routes) (fresh : (state_of i).referents name ≡ None)
    (there : ground_at r.route.course at ≡ Some place) (within : at < length r.route.course) where
  abbrev own : Referent
  own = record { name = name; at = at }

  abbrev refs : List Referent
  refs = r.route.refs

  abbrev refs_with : List Referent
  refs_with = insert_by referent_before own refs

  other : (q : Referent) → In q refs → same_name name q.name ≡ false
  other q k = other_name name i fresh q (In-flat_map refs_of r q i.routes m k)

  changed : changed_refs (with_one own) refs ≡ refs_with
  changed = ap (insert_by referent_before own) (filter_all (λ q. true) refs (λ q k. refl))

  no_ties : list_any (λ q. eq_by_cmp name_cmp name q.name) refs ≡ false
  no_ties = is_false (list_any (λ q. eq_by_cmp name_cmp name q.name) refs) (λ t.
      let f = any_found (λ q. eq_by_cmp name_cmp name q.name) refs t in
      both_ways (same_name name f.0.name) (other f.0 f.1) (texts_ties name f.0.name ∙ f.2))

  fits : is_route r.route.course r.route.marks (changed_refs (with_one own) refs) ≡ true
  fits =
      let course = r.route.course in
      let inside : Referent → Bool = λ q. nat_lt q.at (length course) in
      let its = and_three (is_route_course course) (have_marks course r.route.marks) (are_referents (length course) refs) r.route.fits in
      let own_refs = and_parts (each_two referent_before refs) (list_all inside refs) its.2 in
      ap (is_route course r.route.marks) changed
      ∙ and_from (is_route_course course && have_marks course r.route.marks) (are_referents (length course) refs_with)
      (and_from (is_route_course course) (have_marks course r.route.marks) its.0 its.1)
      (and_from (each_two referent_before refs_with) (list_all inside refs_with)
      (each_two-insert_by referent_before (before-chain nat_list_cmp_total (λ (q : Referent). q.name)) own refs (before-comparable nat_list_cmp_total (λ (q : Referent). q.name) own refs no_ties) own_refs.0)
      (all-insert_by inside referent_before own refs (lt-ltb at (length course) within) own_refs.1))

  abbrev now : RouteRow
  now = new i r (with_one own) s m fits

  abbrev routes_after : List RouteRow
  routes_after = after i r (with_one own) s m fits

  abbrev p : DifferAt r now i.routes routes_after
  p = in_its_place i r (with_one own) s m fits

  -- ---- no name stands twice

  abbrev front : List Referent
  front = flat_map refs_of p.front

  abbrev rear : List Referent
  rear = flat_map refs_of p.rear

  refs_before : flat_map refs_of i.routes ≡ front ++ (refs ++ rear)
  refs_before = ap (flat_map refs_of) p.before ∙ flat_map-append refs_of p.front (r ∷ p.rear)

  refs_after : flat_map refs_of routes_after ≡ with_more referent_before own front refs rear
  refs_after = ap (flat_map refs_of) p.after ∙ flat_map-append refs_of p.front (now ∷ p.rear) ∙ ap (λ qs. front ++ (qs ++ rear)) ((became i r (with_one own) s m fits).refs ∙ changed)

  once : each_two other_names (flat_map refs_of routes_after) ≡ true
  once = ap (each_two other_names) refs_after
      ∙ each_two_with referent_before own other_names front refs rear (λ q k. apart q (subst (In q) (sym refs_before) k)) (ap (each_two other_names) (sym refs_before) ∙ names_once i s)
    where
      apart : (q : Referent) → In q (flat_map refs_of i.routes) → (other_names own q ≡ true) × (other_names q own ≡ true)
      apart q k =
          let far = other_name name i fresh q k in
          (ap not far, ap not (is_false (same_name q.name name) (λ t. both_ways (same_name name q.name) far ((bytes_decides name q.name).1 (sym ((bytes_decides q.name name).0 t))))))

  -- ---- it is found in its millimetre

  abbrev ahead : List (Name × Millimetre)
  ahead = flat_map referents_on p.front

  abbrev behind : List (Name × Millimetre)
  behind = flat_map referents_on p.rear

  rows_before : flat_map referents_on i.routes ≡ ahead ++ (referents_on r ++ behind)
  rows_before = ap (flat_map referents_on) p.before ∙ flat_map-append referents_on p.front (r ∷ p.rear)

  rows_after : flat_map referents_on routes_after ≡ ahead ++ (filter_map (referent_entry r.route.course) refs_with ++ behind)
  rows_after =
      let b = became i r (with_one own) s m fits in
      ap (flat_map referents_on) p.after ∙ flat_map-append referents_on p.front (now ∷ p.rear) ∙ (λ j. ahead ++ (filter_map (referent_entry (b.course j)) ((b.refs ∙ changed) j) ++ behind))

  not_ahead : find name_cmp name ahead ≡ None
  unfolding state_of
  not_ahead = (neither (find name_cmp name ahead) (find name_cmp name (referents_on r ++ behind)) (sym (ap (find name_cmp name) rows_before ∙ find_append ahead (referents_on r ++ behind) name) ∙ fresh)).0

  abbrev stands : Name → Option Millimetre
  stands q = cond (same_name q name) (ground_at r.route.course at) ((state_of i).referents q)

  stands_after : (q : Name) → find name_cmp q (flat_map referents_on routes_after) ≡ stands q
  unfolding state_of
  stands_after q =
      ap (find name_cmp q) rows_after
      ∙ one_more name place ahead (referents_on r) (filter_map (referent_entry r.route.course) refs_with) behind not_ahead (rows_with name place r.route.course at there refs other) q
      ∙ (λ j. cond (same_name q name) (sym there j) (find name_cmp q (sym rows_before j)))

  pub makes : (e : Expr) → attempt (length i.edits + 1) (verb.Ref name r.route.name e) (state_of i) ≡ Ok (set_referent name (ground_at r.route.course at) (state_of i))
      → IsPlanOf (verb.Ref name r.route.name e) i (plan_of_referents r.route.name (with_one own) (standing_at name place))
  makes e acts = is_plan i r (with_one own) s m fits refl (verb.Ref name r.route.name e) (standing_at name place) stands acts stands_after
      (λ q. ap (λ o. cond (same_name q name) o ((state_of i).referents q)) there) fresh once
