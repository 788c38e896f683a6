-- The referents that positions on a route count from: those of the route itself.
use Rattle.std.proofs.Common.{◌≡◌, ℕ, ◌<◌, Bool, true, false, cond, ◌⊎◌, inl, inr, List, [], ◌∷◌, ◌++◌, length, Option, Some, None, refl, sym, ap, ◌∙◌, arith, get_or, zero, suc, subst}
use Rattle.std.specs.Prelude.{◌&&◌, not, nat_eq, nat_le, nat_lt, slice_get}
use Rattle.std.specs.List.{list_any, list_all, flat_map, filter_map, cons_option}
use Rattle.std.specs.List as list
use Rattle.std.specs.Option.{option_map, option_and_then}
use Rattle.std.specs.Ordering.{eq_by_cmp}
use Rattle.std.specs.Cmp.Lexicographic.{texts_ties, bytes_decides}
use Rattle.std.specs.FinMap.{find}
use Rattle.std.proofs.lemmas.Bool.{both_ways, not-true, and_parts, and_from, or_parts, or_left, or_right, cases_Bool, eqb-true, eq-eqb, ltb-true}
use Rattle.std.proofs.lemmas.List.Folds.{list_all-append, flat_map-map}
use Rattle.std.proofs.lemmas.Option.{slice_get_within, get_or_from_slice_get, slice_get-get_or}
use Rattle.std.proofs.lemmas.Map.Lookups.{exact_bytes}
use Rattle.lrs_measure.specs.Lists.{In, each_two}
use Rattle.lrs_measure.specs.Texts.{Name, name_cmp, same_name}
use Rattle.lrs_element.specs.declared.link.Ground.{Ground}
use Rattle.lrs_element.specs.Course.{Millimetre, ground_at, chainage_on, is_at, meets, runs_over}
use Rattle.lrs_position.proofs.Entries.{position_found, position_none}
use Rattle.lrs_position.specs.declared.route.Referent.{Referent}
use Rattle.lrs_position.specs.Routes.{is_route_course, are_referents, referent_before}
use Rattle.lrs_position.specs.Translations.{alignment_of, referent_at}
use Rattle.lrs_machine.specs.declared.image.RouteRow.{RouteRow}
use Rattle.lrs_machine.specs.declared.image.Image.{Image}
use Rattle.lrs_measure.specs.Limits.{most_routes}
use Rattle.lrs_measure.proofs.Members.{any_found, any_of, all_at, In-map, In-flat_map, flat_map_found}
use Rattle.lrs_measure.proofs.Places.{two_pass}
use Rattle.lrs_machine.specs.Machine.{referent_chainage}
use Rattle.lrs_machine.specs.Image.{state_of, referent_entry, referents_on}
use Rattle.lrs_events.specs.Places.{differs}
use Rattle.lrs_machine.specs.Sound.{IsSound, RouteCourse, RouteReferents, referents_of, courses_of, course_before, is_course, is_on_a_link}
use Rattle.lrs_machine.proofs.Pairs.{each_two-map}
use Rattle.lrs_machine.proofs.SoundImages.{and_three}
use Rattle.lrs_machine.proofs.Finding.{find_found}
use Rattle.lrs_image.proofs.Tables.{passes}
use Rattle.lrs_image_laws.proofs.Apart.{apart_too}

-- ---- lists

pub cross : {X : Type 0} (test : X → X → Bool) (x y : X) (xs ys : List X) → each_two test (xs ++ ys) ≡ true → In x xs → In y ys → test x y ≡ true
cross test x y [] ys h m n = absurd m
cross test x y (z ∷ zs) ys h (inl e) n =
    let both = and_parts (list_all (test z) (zs ++ ys)) (each_two test (zs ++ ys)) h in
    ap (λ w. test w y) e ∙ all_at (test z) y ys (and_parts (list_all (test z) zs) (list_all (test z) ys) (sym (list_all-append (test z) zs ys) ∙ both.0)).1 n
cross test x y (z ∷ zs) ys h (inr m) n = cross test x y zs ys (and_parts (list_all (test z) (zs ++ ys)) (each_two test (zs ++ ys)) h).1 m n

pub rear_of : {X : Type 0} (test : X → X → Bool) (xs ys : List X) → each_two test (xs ++ ys) ≡ true → each_two test ys ≡ true
rear_of test [] ys h = h
rear_of test (z ∷ zs) ys h = rear_of test zs ys (and_parts (list_all (test z) (zs ++ ys)) (each_two test (zs ++ ys)) h).1

abbrev or_else : {X : Type 0} → Option X → Option X → Option X
or_else None b = b
or_else (Some x) b = Some x

find_append : (name : Name) (xs ys : List (Name × Millimetre)) → find name_cmp name (xs ++ ys) ≡ or_else (find name_cmp name xs) (find name_cmp name ys)
find_append name [] ys = refl
find_append name (x ∷ xs) ys =
    elim (eq_by_cmp name_cmp name x.0) as (λ b. cond b (Some x.1) (find name_cmp name (xs ++ ys)) ≡ or_else (cond b (Some x.1) (find name_cmp name xs)) (find name_cmp name ys)) [
      | true ↦ refl
      | false ↦ find_append name xs ys
    ]

-- ---- the referents of one route

same_either_way : (m n : Name) → same_name m n ≡ same_name n m
same_either_way m n = by (cases_Bool (same_name m n)) (cases_Bool (same_name n m))
  where
    by : (same_name m n ≡ true) ⊎ (same_name m n ≡ false) → (same_name n m ≡ true) ⊎ (same_name n m ≡ false) → same_name m n ≡ same_name n m
    by (inl a) (inl b) = a ∙ sym b
    by (inr a) (inr b) = a ∙ sym b
    by (inl a) (inr b) = absurd (both_ways (same_name n m) b ((bytes_decides n m).1 (sym ((bytes_decides m n).0 a))))
    by (inr a) (inl b) = absurd (both_ways (same_name m n) a ((bytes_decides m n).1 (sym ((bytes_decides n m).0 b))))

pub ground_there : (c : List Ground) (j : ℕ) → j < length c → (g : Ground) × (slice_get c j ≡ Some g)
ground_there [] j h = absurd (omega (arith, h))
ground_there (g ∷ gs) j h = (get_or (g ∷ gs) j g, slice_get-get_or (g ∷ gs) j g h)

own : (c : List Ground) (refs : List Referent) (name : Name) → list_all (λ r. nat_lt r.at (length c)) refs ≡ true
    → find name_cmp name (filter_map (referent_entry c) refs) ≡ option_and_then (ground_at c) (referent_at refs name)
own c [] name h = refl
own c (r ∷ rs) name h =
    let both = and_parts (nat_lt r.at (length c)) (list_all (λ q. nat_lt q.at (length c)) rs) h in
    by (ground_there c r.at (ltb-true r.at (length c) both.0)) (own c rs name both.1)
  where
    tie : eq_by_cmp name_cmp name r.name ≡ same_name r.name name
    tie = sym (texts_ties name r.name) ∙ same_either_way name r.name

    by : (g : Ground) × (slice_get c r.at ≡ Some g) → find name_cmp name (filter_map (referent_entry c) rs) ≡ option_and_then (ground_at c) (referent_at rs name)
        → find name_cmp name (filter_map (referent_entry c) (r ∷ rs)) ≡ option_and_then (ground_at c) (referent_at (r ∷ rs) name)
    by found rest =
        let there = found.1 in
        ap (λ o. find name_cmp name (cons_option (option_map (λ m. (r.name, m)) (option_map (λ (g : Ground). (g.link, g.mm)) o)) (filter_map (referent_entry c) rs))) there
        ∙ (λ k. cond (tie k) (Some (found.0.link, found.0.mm)) (rest k))
        ∙ elim (same_name r.name name) as (λ b. cond b (Some (found.0.link, found.0.mm)) (option_and_then (ground_at c) (referent_at rs name))
        ≡ option_and_then (ground_at c) (option_map (λ (q : Referent). q.at) (cond b (Some r) (list.find (λ (q : Referent). same_name q.name name) rs)))) [
          | true ↦ sym (ap (option_map (λ (g : Ground). (g.link, g.mm))) there)
          | false ↦ refl
        ]

-- an entry's millimetre is found at that entry
found_there : (c : List Ground) (j : ℕ) (m : Millimetre) → each_two differs c ≡ true → ground_at c j ≡ Some m → chainage_on c m ≡ Some j
found_there c j m h e = by (slice_get c j) refl (e)
  where
    by : (o : Option Ground) → slice_get c j ≡ o → ground_at c j ≡ Some m → chainage_on c m ≡ Some j
    by None is k = absurd (none_some (sym (ap (option_map (λ (g : Ground). (g.link, g.mm))) is) ∙ k))
      where
        none_some : (let o : Option Millimetre = None in o) ≡ Some m → ⊥
        none_some w = cc
    by (Some g) is k =
        let within = slice_get_within c j g is in
        let same : (g.link, g.mm) ≡ m = some_is (g.link, g.mm) m (sym (ap (option_map (λ (g : Ground). (g.link, g.mm))) is) ∙ k) in
        ap (chainage_on c) (sym same)
        ∙ sym (position_found (is_at (g.link, g.mm)) c j g within (λ n less. earlier n g less within (get_or_from_slice_get c j g g is)) (here g (get_or_from_slice_get c j g g is)))
      where
        some_is : (a b : Millimetre) → Some a ≡ Some b → a ≡ b
        some_is a b w = cc

        here : (g : Ground) → get_or c j g ≡ g → is_at (g.link, g.mm) (get_or c j g) ≡ true
        here g w = ap (is_at (g.link, g.mm)) w ∙ and_from (nat_eq g.link g.link) (nat_eq g.mm g.mm) (eq-eqb g.link g.link refl) (eq-eqb g.mm g.mm refl)

        earlier : (n : ℕ) (g : Ground) → n < j → j < length c → get_or c j g ≡ g → is_at (g.link, g.mm) (get_or c n g) ≡ false
        earlier n g less within w = by_test (cases_Bool (is_at (g.link, g.mm) (get_or c n g))) (not-true (is_at ((get_or c n g).link, (get_or c n g).mm) g) (ap (λ x. differs (get_or c n g) x) (sym w) ∙ two_pass differs c n j g h less within))
          where
            by_test : (is_at (g.link, g.mm) (get_or c n g) ≡ true) ⊎ (is_at (g.link, g.mm) (get_or c n g) ≡ false) → is_at ((get_or c n g).link, (get_or c n g).mm) g ≡ false → is_at (g.link, g.mm) (get_or c n g) ≡ false
            by_test (inl a) b =
                let x = get_or c n g in
                let t = and_parts (nat_eq x.link g.link) (nat_eq x.mm g.mm) a in
                absurd (both_ways (is_at (x.link, x.mm) g) b (and_from (nat_eq g.link x.link) (nat_eq g.mm x.mm) (eq-eqb g.link x.link (sym (eqb-true x.link g.link t.0))) (eq-eqb g.mm x.mm (sym (eqb-true x.mm g.mm t.1)))))
            by_test (inr a) b = a

-- ---- the referents of other routes

fails : {X : Type 0} (p : X → Bool) (xs : List X) (k : ℕ) (d : X) → list_any p xs ≡ false → k < length xs → p (get_or xs k d) ≡ false
fails p [] k d h within = absurd (omega (arith, within))
fails p (y ∷ ys) zero d h within = (or_parts (p y) (list_any p ys) h).0
fails p (y ∷ ys) (suc k) d h within = fails p ys k d (or_parts (p y) (list_any p ys) h).1 (omega (arith, within))

nowhere : (d : List Ground) (m : Millimetre) → runs_over d m ≡ false → chainage_on d m ≡ None
nowhere d m h = by d h
  where
    by : (d : List Ground) → runs_over d m ≡ false → chainage_on d m ≡ None
    by [] h = refl
    by (g ∷ gs) h = sym (position_none (is_at m) (g ∷ gs) g (λ k within. fails (is_at m) (g ∷ gs) k g h within))

pub ground_of_other : (c d : List Ground) (m : Millimetre) → meets c d ≡ false → runs_over c m ≡ true → chainage_on d m ≡ None
ground_of_other c d m apart on = nowhere d m (by (cases_Bool (runs_over d m)))
  where
    by : (runs_over d m ≡ true) ⊎ (runs_over d m ≡ false) → runs_over d m ≡ false
    by (inr h) = h
    by (inl h) =
        let found = any_found (is_at m) c on in
        let g = found.0 in
        let t = and_parts (nat_eq g.link m.0) (nat_eq g.mm m.1) found.2 in
        let same : (g.link, g.mm) ≡ m = λ i. (eqb-true g.link m.0 t.0 i, eqb-true g.mm m.1 t.1 i) in
        absurd (both_ways (meets c d) apart (any_of (λ (x : Ground). runs_over d (x.link, x.mm)) g c found.1 (ap (runs_over d) same ∙ h)))

pub run_over : (c : List Ground) (j : ℕ) (g : Ground) → slice_get c j ≡ Some g → runs_over c (g.link, g.mm) ≡ true
run_over [] j g h = absurd (cc h)
run_over (x ∷ xs) zero g h =
    let same : x ≡ g = some_is x g h in
    or_left (is_at (g.link, g.mm) x) (runs_over xs (g.link, g.mm)) (ap (is_at (g.link, g.mm)) same ∙ and_from (nat_eq g.link g.link) (nat_eq g.mm g.mm) (eq-eqb g.link g.link refl) (eq-eqb g.mm g.mm refl))
  where
    some_is : (a b : Ground) → Some a ≡ Some b → a ≡ b
    some_is a b w = cc
run_over (x ∷ xs) (suc j) g h = or_right (is_at (g.link, g.mm) x) (runs_over xs (g.link, g.mm)) (run_over xs j g h)

-- a row of a route's referents stands on its course, and is of one of its referents
pub record IsRowOf (c : List Ground) (refs : List Referent) (name : Name) (m : Millimetre) : Type 0 where
  pub on : runs_over c m ≡ true
  pub ref : Referent
  pub is : In ref refs
  pub named : ref.name ≡ name

pub row_of : (c : List Ground) (refs : List Referent) (name : Name) (m : Millimetre) → In (name, m) (filter_map (referent_entry c) refs) → IsRowOf c refs name m
row_of c [] name m h = absurd h
row_of c (q ∷ qs) name m h = by (slice_get c q.at) refl h (row_of c qs name m)
  where
    more : IsRowOf c qs name m → IsRowOf c (q ∷ qs) name m
    more k = record { on = k.on; ref = k.ref; is = inr k.is; named = k.named }

    by : (o : Option Ground) → slice_get c q.at ≡ o → In (name, m) (cons_option (option_map (λ m. (q.name, m)) (option_map (λ (g : Ground). (g.link, g.mm)) (slice_get c q.at))) (filter_map (referent_entry c) qs))
        → (In (name, m) (filter_map (referent_entry c) qs) → IsRowOf c qs name m) → IsRowOf c (q ∷ qs) name m
    by None is k rest = more (rest (subst (λ o. In (name, m) (cons_option (option_map (λ m. (q.name, m)) (option_map (λ (g : Ground). (g.link, g.mm)) o)) (filter_map (referent_entry c) qs))) is k))
    by (Some g) is k rest = either (subst (λ o. In (name, m) (cons_option (option_map (λ m. (q.name, m)) (option_map (λ (g : Ground). (g.link, g.mm)) o)) (filter_map (referent_entry c) qs))) is k)
      where
        either : (◌≡◌ {A = Name × Millimetre} (name, m) (q.name, (g.link, g.mm))) ⊎ In (name, m) (filter_map (referent_entry c) qs) → IsRowOf c (q ∷ qs) name m
        either (inl e) = record { on = ap (λ (w : Name × Millimetre). runs_over c w.1) e ∙ run_over c q.at g is; ref = q; is = inl refl; named = sym (ap (λ (w : Name × Millimetre). w.0) e) }
        either (inr later) = more (rest later)

-- ---- all routes

-- a referent that is found is one of them
named_there : (refs : List Referent) (name : Name) (at : ℕ) → referent_at refs name ≡ Some at → (q : Referent) × In q refs × (q.name ≡ name) × (q.at ≡ at)
named_there [] name at h = absurd (cc h)
named_there (q ∷ qs) name at h = by (cases_Bool (same_name q.name name)) (named_there qs name at)
  where
    by : (same_name q.name name ≡ true) ⊎ (same_name q.name name ≡ false) → (referent_at qs name ≡ Some at → (w : Referent) × In w qs × (w.name ≡ name) × (w.at ≡ at)) → (w : Referent) × In w (q ∷ qs) × (w.name ≡ name) × (w.at ≡ at)
    by (inl e) rest = (q, inl refl, (bytes_decides q.name name).0 e, some_is q.at at (sym (ap (λ b. option_map (λ (w : Referent). w.at) (cond b (Some q) (list.find (λ (w : Referent). same_name w.name name) qs))) e) ∙ h))
      where
        some_is : (a b : ℕ) → Some a ≡ Some b → a ≡ b
        some_is a b w = cc
    by (inr e) rest = let k = rest (sym (ap (λ b. option_map (λ (w : Referent). w.at) (cond b (Some q) (list.find (λ (w : Referent). same_name w.name name) qs))) e) ∙ h) in (k.0, inr k.1, k.2, k.3)

abbrev pub apart_courses : RouteRow → RouteRow → Bool
apart_courses y z = not (meets y.route.course z.route.course)

abbrev pub other_names : Referent → Referent → Bool
other_names u v = not (same_name u.name v.name)

abbrev pub refs_of : RouteRow → List Referent
refs_of y = y.route.refs

module _ (r : RouteRow) (name : Name) (once : each_two differs r.route.course ≡ true) (within : list_all (λ q. nat_lt q.at (length r.route.course)) r.route.refs ≡ true) where
  abbrev entry : Option Millimetre → Option ℕ
  entry o = option_and_then (chainage_on r.route.course) o

  -- what stands on other courses is at no entry
  elsewhere : (routes : List RouteRow) → ((y : RouteRow) → In y routes → meets y.route.course r.route.course ≡ false) → entry (find name_cmp name (flat_map referents_on routes)) ≡ None
  elsewhere routes apart = by (find name_cmp name (flat_map referents_on routes)) refl
    where
      by : (o : Option Millimetre) → find name_cmp name (flat_map referents_on routes) ≡ o → entry (find name_cmp name (flat_map referents_on routes)) ≡ None
      by None is = ap entry is
      by (Some m) is =
          let found = flat_map_found referents_on (name, m) routes (find_found exact_bytes name m (flat_map referents_on routes) is) in
          let row = row_of found.0.route.course found.0.route.refs name m found.2 in
          ap entry is ∙ ground_of_other found.0.route.course r.route.course m (apart found.0 found.1) row.on

  here : (rest : Option Millimetre) → entry rest ≡ None → entry (or_else (find name_cmp name (referents_on r)) rest) ≡ referent_at r.route.refs name
  here rest none = ap (λ o. entry (or_else o rest)) (own r.route.course r.route.refs name within) ∙ by (referent_at r.route.refs name) refl
    where
      by : (o : Option ℕ) → referent_at r.route.refs name ≡ o → entry (or_else (option_and_then (ground_at r.route.course) (referent_at r.route.refs name)) rest) ≡ referent_at r.route.refs name
      by None is = ap (λ o. entry (or_else (option_and_then (ground_at r.route.course) o) rest)) is ∙ none ∙ sym is
      by (Some at) is =
          let q = named_there r.route.refs name at is in
          let g = ground_there r.route.course q.0.at (ltb-true q.0.at (length r.route.course) (all_at (λ q. nat_lt q.at (length r.route.course)) q.0 r.route.refs within q.1)) in
          let m : Millimetre = (g.0.link, g.0.mm) in
          let stands : ground_at r.route.course at ≡ Some m = ap (ground_at r.route.course) (sym q.3) ∙ ap (option_map (λ (g : Ground). (g.link, g.mm))) g.1 in
          ap (λ o. entry (or_else (option_and_then (ground_at r.route.course) o) rest)) is
          ∙ ap (λ o. entry (or_else o rest)) stands ∙ found_there r.route.course at m once stands ∙ sym is

  found_among : (routes : List RouteRow) → each_two apart_courses routes ≡ true → each_two other_names (flat_map refs_of routes) ≡ true → In r routes
      → entry (find name_cmp name (flat_map referents_on routes)) ≡ referent_at r.route.refs name
  found_among [] apart named m = absurd m
  found_among (y ∷ ys) apart named (inl e) =
      let both = and_parts (list_all (apart_courses y) ys) (each_two apart_courses ys) apart in
      ap entry (find_append name (referents_on y) (flat_map referents_on ys))
      ∙ ap (λ z. entry (or_else (find name_cmp name (referents_on z)) (find name_cmp name (flat_map referents_on ys)))) (sym e)
      ∙ here (find name_cmp name (flat_map referents_on ys)) (elsewhere ys (λ z k. apart_too r.route.course z.route.course (ap (λ w. meets w.route.course z.route.course) e ∙ not-true (meets y.route.course z.route.course) (all_at (apart_courses y) z ys both.0 k))))
  found_among (y ∷ ys) apart named (inr k) =
      ap entry (find_append name (referents_on y) (flat_map referents_on ys))
      ∙ by (find name_cmp name (referents_on y)) refl (found_among ys (and_parts (list_all (apart_courses y) ys) (each_two apart_courses ys) apart).1 (rear_of other_names (refs_of y) (flat_map refs_of ys) named) k)
    where
      by : (o : Option Millimetre) → find name_cmp name (referents_on y) ≡ o → entry (find name_cmp name (flat_map referents_on ys)) ≡ referent_at r.route.refs name
          → entry (or_else (find name_cmp name (referents_on y)) (find name_cmp name (flat_map referents_on ys))) ≡ referent_at r.route.refs name
      by None is rest = ap (λ o. entry (or_else o (find name_cmp name (flat_map referents_on ys)))) is ∙ rest
      by (Some v) is rest =
          let row = row_of y.route.course y.route.refs name v (find_found exact_bytes name v (referents_on y) is) in
          let far = not-true (meets y.route.course r.route.course) (all_at (apart_courses y) r ys (and_parts (list_all (apart_courses y) ys) (each_two apart_courses ys) apart).0 k) in
          ap (λ o. entry (or_else o (find name_cmp name (flat_map referents_on ys)))) is ∙ ground_of_other y.route.course r.route.course v far row.on ∙ sym (not_here row (referent_at r.route.refs name) refl)
        where
          not_here : IsRowOf y.route.course y.route.refs name v → (o : Option ℕ) → referent_at r.route.refs name ≡ o → referent_at r.route.refs name ≡ None
          not_here row None h = h
          not_here row (Some at) h =
              let q = named_there r.route.refs name at h in
              let apart = not-true (same_name row.ref.name q.0.name) (cross other_names row.ref q.0 (refs_of y) (flat_map refs_of ys) named row.is (In-flat_map refs_of r q.0 ys k q.1)) in
              absurd (both_ways (same_name row.ref.name q.0.name) apart ((bytes_decides row.ref.name q.0.name).1 (row.named ∙ sym q.2)))

-- No two routes of a sound image have a millimetre in common.
pub courses_apart : (i : Image) → IsSound i → each_two apart_courses i.routes ≡ true
courses_apart i s =
    let course : RouteRow → RouteCourse = λ e. record { route = e.route.name; entries = e.route.course } in
    let outer = and_parts (each_two course_before (courses_of i) && list_all (is_course i.links) (courses_of i) && each_two (λ c d. not (meets c.entries d.entries)) (courses_of i)) (nat_le (length (courses_of i)) most_routes) (passes i s).courses in
    sym (each_two-map (λ c d. not (meets c.entries d.entries)) course i.routes)
    ∙ (and_parts (each_two course_before (courses_of i) && list_all (is_course i.links) (courses_of i)) (each_two (λ c d. not (meets c.entries d.entries)) (courses_of i)) outer.0).1

-- ... nor two referents one name.
pub names_once : (i : Image) → IsSound i → each_two other_names (flat_map refs_of i.routes) ≡ true
names_once i s =
    let refs : RouteRow → RouteReferents = λ e. record { length = length e.route.course; refs = e.route.refs } in
    ap (each_two other_names) (sym (flat_map-map (λ (q : RouteReferents). q.refs) refs i.routes))
    ∙ (and_parts (list_all (λ q. are_referents q.length q.refs) (referents_of i)) (each_two other_names (flat_map (λ q. q.refs) (referents_of i))) (passes i s).referents).1

-- What a position on a route counts from is found among the route's own referents.
pub referents_found : (i : Image) (r : RouteRow) → IsSound i → In r i.routes → (name : Name) → referent_chainage (state_of i) (alignment_of r.route) name ≡ referent_at r.route.refs name
unfolding state_of
referents_found i r s m name =
    let p = passes i s in
    let course : RouteRow → RouteCourse = λ e. record { route = e.route.name; entries = e.route.course } in
    let refs : RouteRow → RouteReferents = λ e. record { length = length e.route.course; refs = e.route.refs } in
    let outer = and_parts (each_two course_before (courses_of i) && list_all (is_course i.links) (courses_of i) && each_two (λ c d. not (meets c.entries d.entries)) (courses_of i)) (nat_le (length (courses_of i)) most_routes) p.courses in
    let tests = and_three (each_two course_before (courses_of i)) (list_all (is_course i.links) (courses_of i)) (each_two (λ c d. not (meets c.entries d.entries)) (courses_of i)) outer.0 in
    let its = and_three (is_route_course r.route.course) (list_all (is_on_a_link i.links) r.route.course) (each_two differs r.route.course) (all_at (is_course i.links) (course r) (courses_of i) tests.1 (In-map course r i.routes m)) in
    let names = and_parts (list_all (λ q. are_referents q.length q.refs) (referents_of i)) (each_two other_names (flat_map (λ q. q.refs) (referents_of i))) p.referents in
    let own_refs = and_parts (each_two referent_before r.route.refs) (list_all (λ q. nat_lt q.at (length r.route.course)) r.route.refs) (all_at (λ q. are_referents q.length q.refs) (refs r) (referents_of i) names.0 (In-map refs r i.routes m)) in
    found_among r name its.2 own_refs.1 i.routes (courses_apart i s) (names_once i s) m
