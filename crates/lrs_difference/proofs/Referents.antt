-- The referents of a sound image: the state has each under its name.
use Rattle.std.proofs.Common.{◌≡◌, Bool, true, false, cond, not, ◌⊎◌, inl, inr, Option, Some, None, List, [], ◌∷◌, ◌++◌, map, length, refl, sym, ap, ◌∙◌}
use Rattle.std.specs.List.{cons_option, filter_map, flat_map, list_all}
use Rattle.std.specs.Option.{option_map}
use Rattle.std.specs.Ordering.{eq_by_cmp, is_eq}
use Rattle.std.specs.Cmp.{Equal-is, tied_itself}
use Rattle.std.specs.Cmp.Lexicographic.{bytes_decides, nat_list_cmp_total}
use Rattle.std.specs.FinMap.{find}
use Rattle.std.proofs.lemmas.Bool.{and_parts, and_from, both_ways, not-true, false_from_ne_true}
use Rattle.std.proofs.lemmas.Map.Lookups.{exact_bytes}
use Rattle.lrs_measure.specs.Lists.{In, each_two}
use Rattle.lrs_measure.specs.Texts.{Name, name_cmp, same_name}
use Rattle.lrs_measure.proofs.EachTwo.{across_of, joined, two_front, two_rear}
use Rattle.lrs_measure.proofs.Insertions.{In-insert_all, insert_all-In}
use Rattle.lrs_measure.proofs.Members.{all_at, all_of, flat_map_found, In-flat_map}
use Rattle.lrs_element.specs.declared.link.Ground.{Ground}
use Rattle.lrs_element.specs.Course.{Millimetre, ground_at}
use Rattle.lrs_position.specs.declared.route.Referent.{Referent}
use Rattle.lrs_position.specs.Routes.{are_referents}
use Rattle.lrs_machine.specs.declared.image.Image.{Image}
use Rattle.lrs_machine.specs.declared.image.RouteRow.{RouteRow}
use Rattle.lrs_machine.specs.declared.table.Table.TheVariants as table
use Rattle.lrs_machine.specs.Image.{referent_entry, referents_on, state_of}
use Rattle.lrs_machine.specs.Sound.{IsSound, RouteReferents, are_all_referents, first_unsound, referents_of, tests}
use Rattle.lrs_machine.proofs.Finding.{find_found}
use Rattle.lrs_machine.proofs.SoundImages.{passed}
use Rattle.lrs_difference.specs.Difference.{referent_before, referents_in}

abbrev pub Entry : Type 0
Entry = Name × Millimetre

-- two referents, or two entries, have different names
abbrev differ : Referent → Referent → Bool
differ a b = not (same_name a.name b.name)

abbrev pub apart : Entry → Entry → Bool
apart x y = not (same_name x.0 y.0)

-- what stands before others where there is something
abbrev entry_at : Name → Option Millimetre → List Entry → List Entry
entry_at name o xs = cons_option (option_map (λ m. (name, m)) o) xs

-- ---- the entries of a route

-- an entry is of a referent of its name
of_referent : (course : List Ground) (x : Entry) (refs : List Referent) → In x (filter_map (referent_entry course) refs) → (r : Referent) × In r refs × (r.name ≡ x.0)
of_referent course x [] m = absurd m
of_referent course x (r ∷ rs) m = by (ground_at course r.at) m (of_referent course x rs)
  where
    by : (o : Option Millimetre) → In x (entry_at r.name o (filter_map (referent_entry course) rs))
        → (In x (filter_map (referent_entry course) rs) → (s : Referent) × In s rs × (s.name ≡ x.0)) → (s : Referent) × In s (r ∷ rs) × (s.name ≡ x.0)
    by None m rest = let found = rest m in (found.0, inr found.1, found.2)
    by (Some g) (inl e) rest = (r, inl refl, sym (ap (λ (z : Entry). z.0) e))
    by (Some g) (inr m) rest = let found = rest m in (found.0, inr found.1, found.2)

apart_by : (r s : Referent) (x y : Entry) → r.name ≡ x.0 → s.name ≡ y.0 → differ r s ≡ true → apart x y ≡ true
apart_by r s x y d e h = (λ i. not (same_name (sym d i) (sym e i))) ∙ h

-- where referents have different names, so have their entries
entries_apart : (course : List Ground) (refs : List Referent) → each_two differ refs ≡ true → each_two apart (filter_map (referent_entry course) refs) ≡ true
entries_apart course [] h = refl
entries_apart course (r ∷ rs) h =
    let both = and_parts (list_all (differ r) rs) (each_two differ rs) h in
    by (ground_at course r.at) both.0 (entries_apart course rs both.1)
  where
    by : (o : Option Millimetre) → list_all (differ r) rs ≡ true → each_two apart (filter_map (referent_entry course) rs) ≡ true → each_two apart (entry_at r.name o (filter_map (referent_entry course) rs)) ≡ true
    by None all rest = rest
    by (Some g) all rest =
        and_from (list_all (apart (r.name, g)) (filter_map (referent_entry course) rs)) (each_two apart (filter_map (referent_entry course) rs))
        (all_of (apart (r.name, g)) (filter_map (referent_entry course) rs) (λ y m.
        let s = of_referent course y rs m in
        apart_by r s.0 (r.name, g) y refl s.2 (all_at (differ r) s.0 rs all s.1))) rest

-- ---- the entries of all routes

abbrev refs_of : RouteRow → List Referent
refs_of e = e.route.refs

of_some_referent : (x : Entry) (routes : List RouteRow) → In x (flat_map referents_on routes) → (r : Referent) × In r (flat_map refs_of routes) × (r.name ≡ x.0)
of_some_referent x routes m =
    let e = flat_map_found referents_on x routes m in
    let r = of_referent e.0.route.course x e.0.route.refs e.2 in
    (r.0, In-flat_map refs_of e.0 r.0 routes e.1 r.1, r.2)

pub all_apart : (routes : List RouteRow) → each_two differ (flat_map refs_of routes) ≡ true → each_two apart (flat_map referents_on routes) ≡ true
all_apart [] h = refl
all_apart (e ∷ es) h =
    joined apart (referents_on e) (flat_map referents_on es)
    (entries_apart e.route.course e.route.refs (two_front differ (refs_of e) (flat_map refs_of es) h))
    (all_apart es (two_rear differ (refs_of e) (flat_map refs_of es) h)) (λ x y m n.
    let r = of_referent e.route.course x e.route.refs m in
    let s = of_some_referent y es n in
    apart_by r.0 s.0 x y r.2 s.2 (across_of differ (refs_of e) (flat_map refs_of es) h r.0 s.0 r.1 s.1))

-- ---- an entry is found by its name

other_name : (name n : Name) → not (same_name n name) ≡ true → eq_by_cmp name_cmp name n ≡ false
other_name name n h = false_from_ne_true (eq_by_cmp name_cmp name n) (λ k.
    both_ways (same_name n name) (not-true (same_name n name) h) ((bytes_decides n name).1 (sym (exact_bytes name n ((Equal-is _).0 k)))))

found_once : (x : Entry) (xs : List Entry) → each_two apart xs ≡ true → In x xs → find name_cmp x.0 xs ≡ Some x.1
found_once x [] h m = absurd m
found_once x (y ∷ ys) h (inl e) =
    ap (λ (z : Entry). find name_cmp z.0 (y ∷ ys)) e ∙ ap (λ b. cond b (Some y.1) (find name_cmp y.0 ys)) (ap is_eq (tied_itself nat_list_cmp_total y.0)) ∙ ap (λ (z : Entry). Some z.1) (sym e)
found_once x (y ∷ ys) h (inr m) =
    let both = and_parts (list_all (apart y) ys) (each_two apart ys) h in
    ap (λ b. cond b (Some y.1) (find name_cmp x.0 ys)) (other_name x.0 y.0 (all_at (apart y) x ys both.0 m)) ∙ found_once x ys both.1 m

-- ---- those of a sound image

refs_listed : (routes : List RouteRow) → flat_map (λ (r : RouteReferents). r.refs) (map (λ e. record { length = length e.route.course; refs = e.route.refs }) routes) ≡ flat_map refs_of routes
refs_listed [] = refl
refs_listed (e ∷ es) = ap (λ xs. e.route.refs ++ xs) (refs_listed es)

pub refs_apart : (i : Image) → IsSound i → each_two differ (flat_map refs_of i.routes) ≡ true
unfolding first_unsound
refs_apart i sound =
    let test = passed (record { table = table.Ref; passes = are_all_referents (referents_of i) }) (tests i) sound (inr (inr (inr (inr (inr (inl refl)))))) in
    ap (each_two differ) (sym (refs_listed i.routes)) ∙ (and_parts (list_all (λ r. are_referents r.length r.refs) (referents_of i)) (each_two differ (flat_map (λ r. r.refs) (referents_of i))) test).1

module _ (i : Image) (sound : IsSound i) where
  -- the state has a referent that is listed
  pub listed_stands : (x : Name × Millimetre) → In x (referents_in i) → (state_of i).referents x.0 ≡ Some x.1
  unfolding state_of
  listed_stands x m = by (In-insert_all referent_before x (flat_map referents_on i.routes) [] m)
    where
      by : In x (flat_map referents_on i.routes) ⊎ In x [] → find name_cmp x.0 (flat_map referents_on i.routes) ≡ Some x.1
      by (inl n) = found_once x (flat_map referents_on i.routes) (all_apart i.routes (refs_apart i sound)) n
      by (inr n) = absurd n

-- ... and lists each that it has
pub standing_is_listed : (i : Image) (name : Name) (m : Millimetre) → (state_of i).referents name ≡ Some m → In (name, m) (referents_in i)
unfolding state_of
standing_is_listed i name m h = insert_all-In referent_before (name, m) (flat_map referents_on i.routes) [] (inl (find_found exact_bytes name m (flat_map referents_on i.routes) h))
