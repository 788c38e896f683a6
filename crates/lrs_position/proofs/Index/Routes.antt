-- The name of the route that runs over a millimetre, as routes come and go.
use Rattle.std.proofs.Common.{ℕ, zero, suc, ◌≡◌, ◌<◌, Bool, true, false, cond, if◌then◌else◌, List, [], ◌∷◌, length, get_or, Option, Some, None, refl, sym, ap, ◌∙◌, arith, ⊎_elim, ◌++◌, subst}
use Rattle.std.specs.Prelude.{not, filter, option_map, is_some, ◌||◌}
use Rattle.std.specs.Option.{option_or}
use Rattle.std.specs.List.{list_all, find, flat_map}
use Rattle.std.proofs.lemmas.Bool.{cases_Bool, and_parts, false_from_ne_true, both_ways, not-true}
use Rattle.std.proofs.lemmas.List.Folds.{list_any-append}
use Rattle.lrs_measure.specs.OrderedLists.{insert_by, insert_all}
use Rattle.lrs_measure.specs.Texts.{Name}
use Rattle.lrs_element.specs.declared.link.Piece.{Piece}
use Rattle.lrs_element.specs.declared.link.Ground.{Ground}
use Rattle.lrs_element.specs.Course.{Millimetre, course_of, runs_over, meets, is_at}
use Rattle.lrs_position.specs.Index.Ground.{Stretches, route_over, is_shared, HasGained}
use Rattle.lrs_position.specs.Index.Routes.{routes_over, are_apart, if_passes, IsGroundOf}
use Rattle.lrs_position.proofs.Index.Sharing.{free_at, is_taken}
use Rattle.lrs_position.proofs.Index.Once.{common}

module _ {X : Type 0} (name : X → Name) (course : X → List Ground) (m : Millimetre) where
  abbrev over : List X → Option Name
  over rs = routes_over name course rs m

  abbrev runs : X → Bool
  runs r = runs_over (course r) m

  over_first : (r : X) (rs : List X) → over (r ∷ rs) ≡ (if runs r then Some (name r) else over rs)
  over_first r rs = elim (runs r) as (λ b. option_map name (cond b (Some r) (find runs rs)) ≡ (if b then Some (name r) else over rs)) [
    | true ↦ refl
    | false ↦ refl
  ]

  pub over_here : (r : X) (rs : List X) → runs r ≡ true → over (r ∷ rs) ≡ Some (name r)
  over_here r rs t = over_first r rs ∙ ap (λ (b : Bool). if b then Some (name r) else over rs) t

  pub over_next : (r : X) (rs : List X) → runs r ≡ false → over (r ∷ rs) ≡ over rs
  over_next r rs f = over_first r rs ∙ ap (λ (b : Bool). if b then Some (name r) else over rs) f

  -- no other runs over it
  apart_here : (r : X) (rs : List X) → list_all (λ s. not (meets (course r) (course s))) rs ≡ true → runs r ≡ true → over rs ≡ None
  apart_here r [] a t = refl
  apart_here r (s ∷ ss) a t =
      let u = and_parts (not (meets (course r) (course s))) (list_all (λ s. not (meets (course r) (course s))) ss) a in
      over_next s ss (false_from_ne_true _ (λ h. absurd (both_ways _ (not-true _ u.0) (common (course r) (course s) m t h)))) ∙ apart_here r ss u.1 t

  -- ---- which route it is

  pub over_entry : (rs : List X) (i : ℕ) (d : X) → are_apart course rs ≡ true → i < length rs → runs (get_or rs i d) ≡ true → over rs ≡ Some (name (get_or rs i d))
  over_entry [] i d a lt t = absurd (omega arith)
  over_entry (r ∷ rs) zero d a lt t = over_here r rs t
  over_entry (r ∷ rs) (suc i) d a lt t =
      let u = and_parts (list_all (λ s. not (meets (course r) (course s))) rs) (are_apart course rs) a in
      let later = over_entry rs i d u.1 (omega arith) t in
      over_next r rs (false_from_ne_true _ (λ h. absurd (cc (sym (apart_here r rs u.0 h) ∙ later)))) ∙ later

  pub entry_over : (rs : List X) (n : Name) → over rs ≡ Some n → (i : ℕ) × (r : X) × (i < length rs) × (get_or rs i r ≡ r) × (name r ≡ n) × (runs r ≡ true)
  entry_over [] n h = absurd (cc h)
  entry_over (r ∷ rs) n h = ⊎_elim
      (λ (t : runs r ≡ true). let e : Some (name r) ≡ Some n = sym (over_here r rs t) ∙ h in (zero, r, omega arith, refl, cc e, t))
      (λ (f : runs r ≡ false). let a = entry_over rs n (sym (over_next r rs f) ∙ h) in (suc a.0, a.1, omega (arith, a.2), a.3, a.4, a.5))
      (cases_Bool (runs r))

  -- a route runs over it where their courses do
  pub over_some : (rs : List X) → is_some (over rs) ≡ runs_over (flat_map course rs) m
  over_some [] = refl
  over_some (r ∷ rs) = ⊎_elim
      (λ (t : runs r ≡ true). ap (λ (o : Option Name). is_some o) (over_here r rs t) ∙ sym (list_any-append (is_at m) (course r) (flat_map course rs) ∙ ap (λ (b : Bool). b || runs_over (flat_map course rs) m) t))
      (λ (f : runs r ≡ false). ap (λ (o : Option Name). is_some o) (over_next r rs f) ∙ over_some rs ∙ sym (list_any-append (is_at m) (course r) (flat_map course rs) ∙ ap (λ (b : Bool). b || runs_over (flat_map course rs) m) f))
      (cases_Bool (runs r))

  -- ---- routes that are inserted, where none runs

  pub over_inserted : (before : X → X → Bool) (r : X) (rs : List X) → (runs r ≡ true → over rs ≡ None) → over (insert_by before r rs) ≡ (if runs r then Some (name r) else over rs)
  over_inserted before r [] free = over_first r []
  over_inserted before r (y ∷ ys) free =
      elim (before r y) as (λ b. over (cond b (r ∷ y ∷ ys) (y ∷ insert_by before r ys)) ≡ (if runs r then Some (name r) else over (y ∷ ys))) [
        | true ↦ over_first r (y ∷ ys)
        | false ↦ ⊎_elim
            (λ (t : runs y ≡ true).
            let none : runs r ≡ false = false_from_ne_true _ (λ s. absurd (cc (sym (over_here y ys t) ∙ free s))) in
            over_here y (insert_by before r ys) t ∙ sym (over_here y ys t) ∙ sym (ap (λ (b : Bool). if b then Some (name r) else over (y ∷ ys)) none))
            (λ (f : runs y ≡ false).
            over_next y (insert_by before r ys) f
            ∙ over_inserted before r ys (λ s. sym (over_next y ys f) ∙ free s)
            ∙ ap (λ (o : Option Name). if runs r then Some (name r) else o) (sym (over_next y ys f)))
            (cases_Bool (runs y))
      ]

  pub over_inserted_all : (before : X → X → Bool) (ws rs : List X) → are_apart course ws ≡ true → ((n : Name) → over ws ≡ Some n → over rs ≡ None) → over (insert_all before ws rs) ≡ option_or (over ws) (over rs)
  over_inserted_all before [] rs a free = refl
  over_inserted_all before (w ∷ ws) rs a free =
      let u = and_parts (list_all (λ s. not (meets (course w) (course s))) ws) (are_apart course ws) a in
      let one = over_inserted before w rs (λ t. free (name w) (over_here w ws t)) in
      ⊎_elim
      (λ (t : runs w ≡ true).
      let none = apart_here w ws u.0 t in
      over_inserted_all before ws (insert_by before w rs) u.1 (λ n h. absurd (cc (sym none ∙ h)))
      ∙ ap (λ (o : Option Name). option_or o (over (insert_by before w rs))) none
      ∙ one
      ∙ ap (λ (b : Bool). if b then Some (name w) else over rs) t
      ∙ ap (λ (o : Option Name). option_or o (over rs)) (sym (over_here w ws t)))
      (λ (f : runs w ≡ false).
      let same = one ∙ ap (λ (b : Bool). if b then Some (name w) else over rs) f in
      over_inserted_all before ws (insert_by before w rs) u.1 (λ n h. same ∙ free n (over_next w ws f ∙ h))
      ∙ ap (option_or (over ws)) same
      ∙ ap (λ (o : Option Name). option_or o (over rs)) (sym (over_next w ws f)))
      (cases_Bool (runs w))

  -- ---- routes that are removed

  pub over_kept : (test : Name → Bool) (rs : List X) → are_apart course rs ≡ true → over (filter (λ r. test (name r)) rs) ≡ if_passes test (over rs)
  over_kept test [] a = refl
  over_kept test (r ∷ rs) a =
      let u = and_parts (list_all (λ s. not (meets (course r) (course s))) rs) (are_apart course rs) a in
      let rest = over_kept test rs u.1 in
      ⊎_elim
      (λ (t : runs r ≡ true).
      elim (test (name r)) as (λ b. over (cond b (r ∷ filter (λ r. test (name r)) rs) (filter (λ r. test (name r)) rs)) ≡ (if b then Some (name r) else None)) [
        | true ↦ over_here r (filter (λ r. test (name r)) rs) t
        | false ↦ rest ∙ ap (if_passes test) (apart_here r rs u.0 t)
      ]
      ∙ sym (ap (if_passes test) (over_here r rs t)))
      (λ (f : runs r ≡ false).
      elim (test (name r)) as (λ b. over (cond b (r ∷ filter (λ r. test (name r)) rs) (filter (λ r. test (name r)) rs)) ≡ over (filter (λ r. test (name r)) rs)) [
        | true ↦ over_next r (filter (λ r. test (name r)) rs) f
        | false ↦ refl
      ]
      ∙ rest
      ∙ sym (ap (if_passes test) (over_next r rs f)))
      (cases_Bool (runs r))

  -- routes whose names fail go, and others come
  pub over_changed : (before : X → X → Bool) (test : Name → Bool) (ws rs : List X) → are_apart course rs ≡ true → are_apart course ws ≡ true → ((n : Name) → over ws ≡ Some n → if_passes test (over rs) ≡ None) → over (insert_all before ws (filter (λ r. test (name r)) rs)) ≡ option_or (over ws) (if_passes test (over rs))
  over_changed before test ws rs a b free =
      over_inserted_all before ws (filter (λ r. test (name r)) rs) b (λ n h. over_kept test rs a ∙ free n h)
      ∙ ap (option_or (over ws)) (over_kept test rs a)

-- ---- the index beside the routes

module _ {X : Type 0} (name : X → Name) (course : X → List Ground) (before : X → X → Bool) (old new : Stretches) (rs : List X) (held : IsGroundOf name course old rs) where
  abbrev over_old : Millimetre → Option Name
  over_old m = routes_over name course rs m

  pub taken_of : (m : Millimetre) → is_taken old m ≡ runs_over (flat_map course rs) m
  taken_of m = ap (λ (o : Option Name). is_some o) (held.at m) ∙ over_some name course m rs

  -- A new route has come, on free ground.
  pub gained_ground : (r : X) (ps : List Piece) → course r ≡ course_of ps → is_shared old (course_of ps) ≡ false → HasGained old new (name r) ps → IsGroundOf name course new (insert_by before r rs)
  gained_ground r ps is free g = record {
    at = λ m.
        let same = ap (λ (xs : List Ground). runs_over xs m) is in
        g.over m
        ∙ ap (λ (o : Option Name). if runs_over (course_of ps) m then Some (name r) else o) (held.at m)
        ∙ ap (λ (b : Bool). if b then Some (name r) else over_old m) (sym same)
        ∙ sym (over_inserted name course m before r rs (λ t. sym (held.at m) ∙ free_at old (course_of ps) m free (sym same ∙ t)));
  }

  -- Routes have gone, and their ground was freed.
  pub freed_ground : (test : Name → Bool) (ps : List Piece) → are_apart course rs ≡ true → ((m : Millimetre) → route_over new m ≡ (if runs_over (course_of ps) m then None else route_over old m)) → ((m : Millimetre) (n : Name) → over_old m ≡ Some n → test n ≡ not (runs_over (course_of ps) m)) → IsGroundOf name course new (filter (λ r. test (name r)) rs)
  freed_ground test ps apart over going = record {
    at = λ m.
        over m
        ∙ ap (λ (o : Option Name). if runs_over (course_of ps) m then None else o) (held.at m)
        ∙ kept (runs_over (course_of ps) m) (over_old m) (going m)
        ∙ sym (over_kept name course m test rs apart);
  }
    where
      kept : (b : Bool) (o : Option Name) → ((n : Name) → o ≡ Some n → test n ≡ not b) → (if b then None else o) ≡ if_passes test o
      kept true None f = refl
      kept false None f = refl
      kept true (Some n) f = sym (ap (λ (b : Bool). if b then Some n else None) (f n refl))
      kept false (Some n) f = sym (ap (λ (b : Bool). if b then Some n else None) (f n refl))

  -- Routes were written in the place of others, on the same ground, and some of it was handed over.
  pub handed_ground : (test : Name → Bool) (ws : List X) (ps : List Piece) (other : Name) → are_apart course rs ≡ true → are_apart course ws ≡ true → ((m : Millimetre) → route_over new m ≡ (if runs_over (course_of ps) m then option_map (λ r. other) (route_over old m) else route_over old m)) → ((m : Millimetre) → over_old m ≡ None → routes_over name course ws m ≡ None) → ((m : Millimetre) (n : Name) → over_old m ≡ Some n → test n ≡ true → (routes_over name course ws m ≡ None) × (runs_over (course_of ps) m ≡ false)) → ((m : Millimetre) (n : Name) → over_old m ≡ Some n → test n ≡ false → routes_over name course ws m ≡ Some (if runs_over (course_of ps) m then other else n)) → IsGroundOf name course new (insert_all before ws (filter (λ r. test (name r)) rs))
  handed_ground test ws ps other apart written over none stays goes = record {
    at = λ m.
        over m
        ∙ ap (λ (o : Option Name). if runs_over (course_of ps) m then option_map (λ r. other) o else o) (held.at m)
        ∙ same (runs_over (course_of ps) m) (over_old m) (routes_over name course ws m) (none m) (stays m) (goes m)
        ∙ sym (over_changed name course m before test ws rs apart written (fails m));
  }
    where
      -- by whether the route that ran there stays
      by : (b t : Bool) (n : Name) (w : Option Name) → (t ≡ true → (w ≡ None) × (b ≡ false)) → (t ≡ false → w ≡ Some (if b then other else n)) → (if b then Some other else Some n) ≡ option_or w (if t then Some n else None)
      by b true n w s g = let u = s refl in ap (λ (b : Bool). if b then Some other else Some n) u.1 ∙ sym (ap (λ (o : Option Name). option_or o (Some n)) u.0)
      by true false n w s g = sym (ap (λ (o : Option Name). option_or o None) (g refl))
      by false false n w s g = sym (ap (λ (o : Option Name). option_or o None) (g refl))

      same : (b : Bool) (o w : Option Name) → (o ≡ None → w ≡ None) → ((n : Name) → o ≡ Some n → test n ≡ true → (w ≡ None) × (b ≡ false)) → ((n : Name) → o ≡ Some n → test n ≡ false → w ≡ Some (if b then other else n)) → (if b then option_map (λ r. other) o else o) ≡ option_or w (if_passes test o)
      same true None w f s g = sym (ap (λ (x : Option Name). option_or x None) (f refl))
      same false None w f s g = sym (ap (λ (x : Option Name). option_or x None) (f refl))
      same b (Some n) w f s g = by b (test n) n w (s n refl) (g n refl)

      fails : (m : Millimetre) (n : Name) → routes_over name course ws m ≡ Some n → if_passes test (over_old m) ≡ None
      fails m n h = going (over_old m) refl
        where
          going : (o : Option Name) → over_old m ≡ o → if_passes test o ≡ None
          going None e = refl
          going (Some x) e = ⊎_elim
              (λ (t : test x ≡ true). absurd (cc (sym (stays m x e t).0 ∙ h)))
              (λ (f : test x ≡ false). ap (λ (b : Bool). if b then Some x else None) f)
              (cases_Bool (test x))

pushed : {X : Type 0} (r : X) (rs : List X) → insert_by (λ x y. false) r rs ≡ rs ++ r ∷ []
pushed r [] = refl
pushed r (y ∷ ys) = ap (λ (xs : List _). y ∷ xs) (pushed r ys)

-- A new route has come behind the others, on free ground.
pub gained_behind : {X : Type 0} (name : X → Name) (course : X → List Ground) (old new : Stretches) (rs : List X) → IsGroundOf name course old rs → (r : X) (ps : List Piece) → course r ≡ course_of ps → is_shared old (course_of ps) ≡ false → HasGained old new (name r) ps → IsGroundOf name course new (rs ++ r ∷ [])
gained_behind name course old new rs held r ps is free g = subst (IsGroundOf name course new) (pushed r rs) (gained_ground name course (λ x y. false) old new rs held r ps is free g)
