-- Referents as they come into an index.
use Rattle.std.proofs.Common.{◌≡◌, ℕ, ◌+◌, ◌<◌, ◌≤◌, Bool, true, false, cond, List, [], ◌∷◌, ◌++◌, length, take, get_or, Option, Some, None, refl, sym, ap, subst, ◌∙◌}
use Rattle.std.specs.Cmp.{Equal-is}
use Rattle.std.specs.FinMap.{empty, insert, remove, get, find, get-empty, get-insert, get-remove}
use Rattle.std.proofs.lemmas.List.{take_more, take_all, append-nil}
use Rattle.std.proofs.lemmas.List.Folds.{list_any-append}
use Rattle.std.proofs.lemmas.Option.{slice_get_past}
use Rattle.std.proofs.lemmas.List.Elements.{filter_map-append}
use Rattle.std.proofs.lemmas.List.Concat.{flat_map-append}
use Rattle.std.specs.Prelude.{◌||◌, is_some, slice_get}
use Rattle.std.specs.List.{filter_map, flat_map, list_any}
use Rattle.std.specs.Option.{option_or, option_map}
use Rattle.std.specs.Ordering.{eq_by_cmp}
use Rattle.std.specs.Cmp.Lexicographic.{nat_list_cmp_total, texts_ties, bytes_decides}
use Rattle.lrs_inventory.specs.Prelude.{Name, name_cmp, same_name, Ground, Millimetre, Referent, RouteRow, referent_entry, referents_on}
use Rattle.lrs_inventory.specs.declared.plan.ReferentPlace.{ReferentPlace}
use Rattle.lrs_inventory.specs.Changes.{with_referent, without_referent, IsNewReferent}
use Rattle.lrs_inventory.specs.Places.{Places, referent_among, IsPlaced, HaveCome}
use Rattle.lrs_inventory.proofs.NamedEntries.{names_exact}

or-None : {X : Type 0} (o : Option X) → option_or o None ≡ o
or-None None = refl
or-None (Some x) = refl

or-or : {X : Type 0} (a b c : Option X) → option_or (option_or a b) c ≡ option_or a (option_or b c)
or-or None b c = refl
or-or (Some x) b c = refl

or-known : {X : Type 0} (o p : Option X) → is_some o ≡ true → o ≡ option_or o p
or-known None p h = absurd (cc h)
or-known (Some x) p h = refl

find-append : (xs ys : List (Name × Millimetre)) (q : Name) → find name_cmp q (xs ++ ys) ≡ option_or (find name_cmp q xs) (find name_cmp q ys)
find-append [] ys q = refl
find-append (x ∷ xs) ys q =
    elim (eq_by_cmp name_cmp q x.0) as (λ b. cond b (Some x.1) (find name_cmp q (xs ++ ys)) ≡ option_or (cond b (Some x.1) (find name_cmp q xs)) (find name_cmp q ys)) [
      | true ↦ refl
      | false ↦ find-append xs ys q
    ]

none_come : (s : Places) → HaveCome s s []
none_come s = record { at = λ name. sym (or-None (get s name)) }

then_come : (a b c : Places) (xs ys : List (Name × Millimetre)) → HaveCome a b xs → HaveCome b c ys → HaveCome a c (xs ++ ys)
then_come a b c xs ys h k = record {
  at = λ name.
      k.at name ∙ ap (λ o. option_or o (find name_cmp name ys)) (h.at name) ∙ or-or (get a name) (find name_cmp name xs) (find name_cmp name ys)
      ∙ ap (option_or (get a name)) (sym (find-append xs ys name));
}

-- one more, whose name is new
new_comes : (s : Places) (name : Name) (m : Millimetre) → is_some (get s name) ≡ false → HaveCome s (insert s name m) ((name, m) ∷ [])
new_comes s name m new = record {
  at = λ q.
      get-insert nat_list_cmp_total s name m q
      ∙ elim (eq_by_cmp name_cmp q name) as (λ b. eq_by_cmp name_cmp q name ≡ b → cond b (Some m) (get s q) ≡ option_or (get s q) (cond b (Some m) None)) [
        | true ↦ λ same. is_new (get s q) (ap (λ k. is_some (get s k)) (names_exact q name ((Equal-is _).0 same)) ∙ new)
        | false ↦ λ apart. sym (or-None (get s q))
      ] refl;
}
  where
    is_new : (o : Option Millimetre) → is_some o ≡ false → Some m ≡ option_or o (Some m)
    is_new None h = refl
    is_new (Some x) h = absurd (cc h)

-- one of a known name
known_comes : (s : Places) (name : Name) (m : Millimetre) → is_some (get s name) ≡ true → HaveCome s s ((name, m) ∷ [])
known_comes s name m known = record {
  at = λ q.
      elim (eq_by_cmp name_cmp q name) as (λ b. eq_by_cmp name_cmp q name ≡ b → get s q ≡ option_or (get s q) (cond b (Some m) None)) [
        | true ↦ λ same. or-known (get s q) (Some m) (ap (λ k. is_some (get s k)) (names_exact q name ((Equal-is _).0 same)) ∙ known)
        | false ↦ λ apart. sym (or-None (get s q))
      ] refl;
}

-- ---- a referent of a course

module _ (course : List Ground) (r : Referent) where
  abbrev pub own : List (Name × Millimetre)
  own = filter_map (referent_entry course) (r ∷ [])

  at_ground : (g : Ground) → slice_get course r.at ≡ Some g → own ≡ (r.name, (g.link, g.mm)) ∷ []
  at_ground g is = ap (λ (o : Option Ground). filter_map (λ (x : Option Ground). option_map (λ (m : Millimetre). (r.name, m)) (option_map (λ h. (h.link, h.mm)) x)) (o ∷ [])) is

  off_course : slice_get course r.at ≡ None → own ≡ []
  off_course is = ap (λ (o : Option Ground). filter_map (λ (x : Option Ground). option_map (λ (m : Millimetre). (r.name, m)) (option_map (λ h. (h.link, h.mm)) x)) (o ∷ [])) is

  pub comes_new : (s : Places) (g : Ground) → slice_get course r.at ≡ Some g → is_some (get s r.name) ≡ false → HaveCome s (insert s r.name (g.link, g.mm)) own
  comes_new s g is new = subst (HaveCome s (insert s r.name (g.link, g.mm))) (sym (at_ground g is)) (new_comes s r.name (g.link, g.mm) new)

  pub comes_known : (s : Places) → is_some (get s r.name) ≡ true → HaveCome s s own
  comes_known s known = by (slice_get course r.at) refl
    where
      by : (o : Option Ground) → slice_get course r.at ≡ o → HaveCome s s own
      by None is = subst (HaveCome s s) (sym (off_course is)) (none_come s)
      by (Some g) is = subst (HaveCome s s) (sym (at_ground g is)) (known_comes s r.name (g.link, g.mm) known)

  pub comes_off : (s : Places) → length course ≤ r.at → HaveCome s s own
  comes_off s h = subst (HaveCome s s) (sym (off_course (slice_get_past course r.at h))) (none_come s)

-- ---- lists of them

pub come_first : (course : List Ground) (s : Places) → HaveCome s s (filter_map (referent_entry course) [])
come_first course s = none_come s

pub come_more : (course : List Ground) (rs : List Referent) (i : ℕ) (r : Referent) (a b c : Places) → i < length rs → r ≡ get_or rs i r → HaveCome a b (filter_map (referent_entry course) (take i rs))
    → HaveCome b c (filter_map (referent_entry course) (r ∷ [])) → HaveCome a c (filter_map (referent_entry course) (take (i + 1) rs))
come_more course rs i r a b c within is h k =
    let f = referent_entry course in
    subst (HaveCome a c) (sym (ap (filter_map f) (take_more rs i r within ∙ ap (λ x. take i rs ++ x ∷ []) (sym is)) ∙ filter_map-append f (take i rs) (r ∷ []))) (then_come a b c _ _ h k)

pub come_routes : (es : List RouteRow) (i : ℕ) (e : RouteRow) (a b c : Places) → i < length es → e ≡ get_or es i e → HaveCome a b (flat_map referents_on (take i es)) → HaveCome b c (referents_on e)
    → HaveCome a c (flat_map referents_on (take (i + 1) es))
come_routes es i e a b c within is h k =
    subst (HaveCome a c) (sym (ap (flat_map referents_on) (take_more es i e within ∙ ap (λ x. take i es ++ x ∷ []) (sym is)) ∙ flat_map-append referents_on (take i es) (e ∷ [])
    ∙ ap (λ xs. flat_map referents_on (take i es) ++ xs) (append-nil (referents_on e)))) (then_come a b c _ _ h k)

pub all_placed : (es : List RouteRow) (s : Places) → HaveCome empty s (flat_map referents_on es) → IsPlaced s (referent_among es)
all_placed es s h = record { at = λ name. h.at name ∙ ap (λ o. option_or o (referent_among es name)) (get-empty name_cmp name) }

-- ---- referents that are inserted and removed

module _ (s : Places) (r : ReferentPlace) (name : Name) where
  pub put_in_is : get (insert s r.name (r.link, r.mm)) name ≡ with_referent (Some r) (get s) name
  put_in_is = get-insert nat_list_cmp_total s r.name (r.link, r.mm) name ∙ ap (λ b. cond b (Some (r.link, r.mm)) (get s name)) (sym (texts_ties name r.name))

  pub taken_out_is : get (remove s r.name) name ≡ without_referent (Some r) (get s) name
  taken_out_is = get-remove nat_list_cmp_total s r.name name ∙ ap (λ b. cond b None (get s name)) (sym (texts_ties name r.name))

-- what was inserted is out again
pub referents_back : (come : Option ReferentPlace) (stands : Name → Option Millimetre) (name : Name) → IsNewReferent come stands → without_referent come (with_referent come stands) name ≡ stands name
referents_back None stands name new = refl
referents_back (Some r) stands name new = by (same_name name r.name) refl
  where
    by : (b : Bool) → same_name name r.name ≡ b → cond b None (cond b (Some (r.link, r.mm)) (stands name)) ≡ stands name
    by true is = sym (ap stands ((bytes_decides name r.name).0 is) ∙ new)
    by false is = refl

-- those of some names are out
abbrev pub out_of : List Name → (Name → Option Millimetre) → Name → Option Millimetre
out_of names stands name = cond (list_any (same_name name) names) None (stands name)

pub out_more : (names : List Name) (i : ℕ) (n : Name) (first old new : Places) → i < length names → n ≡ get_or names i n → ((name : Name) → get old name ≡ out_of (take i names) (get first) name) → new ≡ remove old n
    → (name : Name) → get new name ≡ out_of (take (i + 1) names) (get first) name
out_more names i n first old new within is h next name =
    ap (λ (s : Places). get s name) next ∙ get-remove nat_list_cmp_total old n name ∙ ap (λ b. cond b None (get old name)) (sym (texts_ties name n))
    ∙ ap (cond (same_name name n) None) (h name)
    ∙ either (same_name name n) (list_any (same_name name) (take i names)) (get first name)
    ∙ ap (λ b. cond b None (get first name)) (sym (ap (list_any (same_name name)) (take_more names i n within ∙ ap (λ x. take i names ++ x ∷ []) (sym is)) ∙ list_any-append (same_name name) (take i names) (n ∷ [])))
  where
    either : (a b : Bool) (o : Option Millimetre) → cond a None (cond b None o) ≡ cond (b || (a || false)) None o
    either true true o = refl
    either true false o = refl
    either false true o = refl
    either false false o = refl

pub out_all : (names : List Name) (i : ℕ) (first last : Places) → length names ≤ i → ((name : Name) → get last name ≡ out_of (take i names) (get first) name) → (name : Name) → get last name ≡ out_of names (get first) name
out_all names i first last past h name = h name ∙ ap (λ (ns : List Name). out_of ns (get first) name) (take_all i names past)
