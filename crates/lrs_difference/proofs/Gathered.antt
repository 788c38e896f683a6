-- Referents that are gathered and sorted are those of the inventory, by name.
use Rattle.std.proofs.Common.{◌≡◌, ◌≤◌, Bool, true, false, cond, Option, Some, None, Result, Ok, Err, List, [], ◌∷◌, ◌++◌, map, append-nil, IsPermutation, length, refl, sym, ap, subst, ◌∙◌}
use Rattle.std.specs.Prelude.{IfOk, OnOk}
use Rattle.std.specs.List.{cons_option, filter_map, flat_map, list_all}
use Rattle.std.specs.List.Sorted.{IsSortedBy}
use Rattle.std.specs.Option.{option_map}
use Rattle.std.specs.Cmp.{IsStrictWeakOrder}
use Rattle.std.specs.Cmp.Lexicographic.{nat_list_cmp_total}
use Rattle.std.proofs.lemmas.Option.{slice_get_past}
use Rattle.std.proofs.lemmas.List.Sorted.{ranks_by, sum_by-IsPermutation}
use Rattle.lrs_measure.specs.Lists.{each_two}
use Rattle.lrs_measure.specs.OrderedLists.{insert_all, insert_by}
use Rattle.lrs_measure.specs.Texts.{Name}
use Rattle.lrs_measure.proofs.Members.{all_of}
use Rattle.lrs_element.specs.declared.link.Ground.{Ground}
use Rattle.lrs_element.specs.Course.{Millimetre}
use Rattle.lrs_position.specs.declared.route.Referent.{Referent}
use Rattle.lrs_events.proofs.LaneLists.Inserted.{IsPermutation-insert_all, differs, each_two-insert_all}
use Rattle.lrs_events.proofs.LaneLists.Strict.{same_sorted, sorted_two}
use Rattle.lrs_machine.specs.declared.image.Image.{Image}
use Rattle.lrs_machine.specs.Image.{referent_entry, referents_on}
use Rattle.lrs_machine.specs.Sound.{IsSound}
use Rattle.lrs_machine.proofs.Pairs.{each_two-map}
use Rattle.lrs_ordered.specs.Stock.{Stock}
use Rattle.lrs_difference.specs.declared.referent_list.PlacedReferent.{PlacedReferent}
use Rattle.lrs_difference.specs.Difference.{referent_before, referents_in}
use Rattle.lrs_difference.specs.Items.{same_referent}
use Rattle.lrs_difference.specs.Placed.{HaveNames, entry_of, entry_on, named_before}
use Rattle.lrs_difference.proofs.Ordered.{referents_differ, referents_in_order}
use Rattle.lrs_difference.proofs.Same as decided

-- the entries of a route
pub each_entry : (course : List Ground) (refs : List Referent) → flat_map (entry_on course) refs ≡ filter_map (referent_entry course) refs
each_entry course [] = refl
each_entry course (r ∷ rs) = by (referent_entry course r) (each_entry course rs)
  where
    by : (o : Option (Name × Millimetre)) → flat_map (entry_on course) rs ≡ filter_map (referent_entry course) rs → cons_option o [] ++ flat_map (entry_on course) rs ≡ cons_option o (filter_map (referent_entry course) rs)
    by None h = h
    by (Some x) h = ap (λ xs. x ∷ xs) h

-- a referent that stands on no millimetre of the course has no entry
pub no_entry : (course : List Ground) (r : Referent) (es : List (Name × Millimetre)) → length course ≤ r.at → es ≡ es ++ entry_on course r
no_entry course r es h = sym (append-nil es) ∙ ap (λ o. es ++ cons_option (option_map (λ m. (r.name, m)) (option_map (λ g. (g.link, g.mm)) o)) []) (sym (slice_get_past course r.at h))

-- ---- sorted

pub placed_ranks : IsStrictWeakOrder named_before
placed_ranks = ranks_by nat_list_cmp_total (λ (r : PlacedReferent). r.name)

abbrev alike : PlacedReferent → PlacedReferent → Bool
alike a b = same_referent (entry_of a) (entry_of b)

is_one : (a b : PlacedReferent) → alike a b ≡ true → a ≡ b
is_one a b h =
    let e = (decided.referents (entry_of a) (entry_of b)).0 h in
    let n = ap (λ (x : Name × Millimetre). x.0) e in
    let l = ap (λ (x : Name × Millimetre). x.1.0) e in
    let m = ap (λ (x : Name × Millimetre). x.1.1) e in
    λ i. record { name = n i; link = l i; mm = m i }

own : (a : PlacedReferent) → alike a a ≡ true
own a = (decided.referents (entry_of a) (entry_of a)).1 refl

pub placed_order : (rows : List PlacedReferent) → HaveNames rows → each_two named_before (insert_all named_before rows []) ≡ true
placed_order rows h = each_two-insert_all named_before placed_ranks rows [] h (all_of (λ r. list_all (differs named_before r) []) rows (λ r m. refl)) refl

same_placed : (rows : List PlacedReferent) → IsPermutation rows (insert_all named_before rows [])
same_placed rows = subst (λ (z : List PlacedReferent). IsPermutation z (insert_all named_before rows [])) (append-nil rows) (IsPermutation-insert_all named_before rows [])

pub sorted_by_name : (rows zs : List PlacedReferent) → HaveNames rows → IsPermutation rows zs → IsSortedBy named_before zs → zs ≡ insert_all named_before rows []
sorted_by_name rows zs h perm up =
    same_sorted named_before placed_ranks alike is_one own (insert_all named_before rows []) zs (placed_order rows h) (sorted_two named_before placed_ranks zs up)
    (λ p. sum_by-IsPermutation (λ r. cond (p r) 1 0) rows zs perm ∙ sym (sum_by-IsPermutation (λ r. cond (p r) 1 0) rows (insert_all named_before rows []) (same_placed rows)))

-- ---- as the inventory lists them

inserted_one : (x : PlacedReferent) (ys : List PlacedReferent) → map entry_of (insert_by named_before x ys) ≡ insert_by referent_before (entry_of x) (map entry_of ys)
inserted_one x [] = refl
inserted_one x (y ∷ ys) = by (named_before x y) (inserted_one x ys)
  where
    by : (b : Bool) → map entry_of (insert_by named_before x ys) ≡ insert_by referent_before (entry_of x) (map entry_of ys)
        → map entry_of (cond b (x ∷ y ∷ ys) (y ∷ insert_by named_before x ys)) ≡ cond b (entry_of x ∷ entry_of y ∷ map entry_of ys) (entry_of y ∷ insert_by referent_before (entry_of x) (map entry_of ys))
    by true h = refl
    by false h = ap (λ zs. entry_of y ∷ zs) h

inserted : (xs ys : List PlacedReferent) → map entry_of (insert_all named_before xs ys) ≡ insert_all referent_before (map entry_of xs) (map entry_of ys)
inserted [] ys = refl
inserted (x ∷ xs) ys = inserted xs (insert_by named_before x ys) ∙ ap (insert_all referent_before (map entry_of xs)) (inserted_one x ys)

pub listed : (i : Image) (xs : List PlacedReferent) → map entry_of xs ≡ flat_map referents_on i.routes → map entry_of (insert_all named_before xs []) ≡ referents_in i
listed i xs h = inserted xs [] ∙ ap (λ es. insert_all referent_before es []) h

pub have_names : (i : Image) → IsSound i → (xs : List PlacedReferent) → map entry_of xs ≡ flat_map referents_on i.routes → HaveNames xs
have_names i sound xs h =
    sym (each_two-map (differs referent_before) entry_of xs) ∙ ap (each_two (differs referent_before)) h ∙ referents_differ i sound

pub in_order : (i : Image) → IsSound i → (rows : List PlacedReferent) → map entry_of rows ≡ referents_in i → each_two named_before rows ≡ true
in_order i sound rows h = sym (each_two-map referent_before entry_of rows) ∙ ap (each_two referent_before) h ∙ referents_in_order i sound

pub pushed_as : {A E X : Type 0} (r : Result A E) (new old xs ys : List X) → OnOk r (new ≡ old ++ xs) → xs ≡ ys → OnOk r (new ≡ old ++ ys)
pushed_as (Ok x) new old xs ys h e = h ∙ ap (λ zs. old ++ zs) e
pushed_as (Err x) new old xs ys h e = tt

pub chunks_as : {E : Type 0} (r : Result (Stock PlacedReferent) E) (items : List PlacedReferent) (es : List (Name × Millimetre)) → IfOk r (λ s. s.rows ≡ items) → map entry_of items ≡ es → IfOk r (λ s. map entry_of s.rows ≡ es)
chunks_as (Ok s) items es h e = ap (map entry_of) h ∙ e
chunks_as (Err x) items es h e = tt
