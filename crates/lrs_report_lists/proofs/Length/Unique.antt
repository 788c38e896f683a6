-- No two lists are the lengths on the same routes.
use Rattle.std.proofs.Common.{◌≡◌, Bool, true, false, ◌⊎◌, inl, inr, List, [], ◌∷◌, filter, refl, sym, ap, ap₂, ◌∙◌}
use Rattle.std.specs.Prelude.{◌||◌}
use Rattle.std.specs.List.{list_all, list_any, AllByRecursion}
use Rattle.std.specs.Cmp.Lexicographic.{bytes_decides}
use Rattle.std.proofs.lemmas.Bool.{both_ways, false≢true, and_parts, and_from, or_left, false_from_ne_true}
use Rattle.lrs_measure.specs.Lists.{In, each_two}
use Rattle.lrs_measure.specs.Texts.{Name, same_name}
use Rattle.lrs_measure.proofs.Members.{any_found, all_at}
use Rattle.lrs_events.specs.declared.class.Asset.{Asset}
use Rattle.lrs_machine.specs.declared.image.RouteRow.{RouteRow}
use Rattle.lrs_report_lists.specs.WantedRows.{is_of_route}
use Rattle.lrs_report_lists.specs.declared.length_lists.table.ValueLength.{ValueLength}
use Rattle.lrs_report_lists.specs.Length.Laws.{LengthsAreUnique}
use Rattle.lrs_report_lists.specs.Length.Lengths.{HasLengths, assets_of, has_either, has_left, has_right, is_length_of, key_before, length_before, length_of}
use Rattle.lrs_report_lists.proofs.Length.Ranks.{key_ranks, key_tie}

own_key : (l : ValueLength) → is_length_of l.class l.value l ≡ true
own_key l = and_from (same_name l.class l.class) (same_name l.value l.value) ((bytes_decides l.class l.class).1 refl) ((bytes_decides l.value l.value).1 refl)

found_first : (l : ValueLength) (ls : List ValueLength) → list_any (is_length_of l.class l.value) (l ∷ ls) ≡ true
found_first l ls = or_left (is_length_of l.class l.value l) (list_any (is_length_of l.class l.value) ls) (own_key l)

-- what stands behind an entry is of another class or value
none_later : (l : ValueLength) (ls : List ValueLength) (class value : Name) → list_all (length_before l) ls ≡ true → is_length_of class value l ≡ true → list_any (is_length_of class value) ls ≡ false
none_later l ls class value order here = false_from_ne_true (list_any (is_length_of class value) ls) (λ h.
    let found = any_found (is_length_of class value) ls h in
    let z = found.0 in
    let a = and_parts (same_name l.class class) (same_name l.value value) here in
    let b = and_parts (same_name z.class class) (same_name z.value value) found.2 in
    let classes = (bytes_decides l.class class).0 a.0 ∙ sym ((bytes_decides z.class class).0 b.0) in
    let values = (bytes_decides l.value value).0 a.1 ∙ sym ((bytes_decides z.value value).0 b.1) in
    both_ways (length_before l z)
    ((key_tie (λ (x : ValueLength). x.class) (λ x. x.value)).not_first l z (and_from (same_name l.class z.class) (same_name l.value z.value) ((bytes_decides l.class z.class).1 classes) ((bytes_decides l.value z.value).1 values)))
    (all_at (length_before l) z ls order found.1))

-- a class and value of an entry is that of the first, or of a later one
is_first : (x y : ValueLength) (ys : List ValueLength) → list_all (length_before y) ys ≡ true → list_any (is_length_of x.class x.value) (y ∷ ys) ≡ true → (is_length_of x.class x.value y ≡ true) ⊎ (length_before y x ≡ true)
is_first x y ys order h =
    let found = any_found (is_length_of x.class x.value) (y ∷ ys) h in
    by found.0 found.1 found.2
  where
    by : (z : ValueLength) → In z (y ∷ ys) → is_length_of x.class x.value z ≡ true → (is_length_of x.class x.value y ≡ true) ⊎ (length_before y x ≡ true)
    by z (inl e) k = inl (ap (is_length_of x.class x.value) (sym e) ∙ k)
    by z (inr m) k =
        let both = and_parts (same_name z.class x.class) (same_name z.value x.value) k in
        inr (ap₂ (λ c v. key_before y.class y.value c v) (sym ((bytes_decides z.class x.class).0 both.0)) (sym ((bytes_decides z.value x.value).0 both.1)) ∙ all_at (length_before y) z ys order m)

module _ (assets : List Asset) (routes : List RouteRow) where
  same_entry : (x y : ValueLength) → HasLengths assets routes x → HasLengths assets routes y → is_length_of x.class x.value y ≡ true → y ≡ x
  same_entry x y hx hy same =
      let both = and_parts (same_name y.class x.class) (same_name y.value x.value) same in
      let class = (bytes_decides y.class x.class).0 both.0 in
      let value = (bytes_decides y.value x.value).0 both.1 in
      let left = hy.left_is ∙ (λ i. length_of has_left assets routes (class i) (value i)) ∙ sym hx.left_is in
      let right = hy.right_is ∙ (λ i. length_of has_right assets routes (class i) (value i)) ∙ sym hx.right_is in
      let either = hy.length_is ∙ (λ i. length_of has_either assets routes (class i) (value i)) ∙ sym hx.length_is in
      let count = hy.assets_is ∙ (λ i. assets_of assets routes (class i) (value i)) ∙ sym hx.assets_is in
      λ i. record { class = class i; value = value i; left = left i; right = right i; length = either i; assets = count i }

  first_same : (x y : ValueLength) → HasLengths assets routes x → HasLengths assets routes y → (is_length_of x.class x.value y ≡ true) ⊎ (length_before y x ≡ true) → (is_length_of y.class y.value x ≡ true) ⊎ (length_before x y ≡ true) → y ≡ x
  first_same x y hx hy (inl e) k = same_entry x y hx hy e
  first_same x y hx hy (inr l) (inl e) = sym (same_entry y x hy hx e)
  first_same x y hx hy (inr l) (inr m) = absurd (both_ways (length_before x y) ((key_ranks (λ (z : ValueLength). z.class) (λ z. z.value)).one_way y x l) m)

  pub one_list : (xs ys : List ValueLength) → each_two length_before xs ≡ true → each_two length_before ys ≡ true
      → ((class value : Name) → list_any (is_length_of class value) xs ≡ list_any (is_length_of class value) ys) → AllByRecursion (HasLengths assets routes) xs → AllByRecursion (HasLengths assets routes) ys → ys ≡ xs
  one_list [] [] o p e a b = refl
  one_list [] (y ∷ ys) o p e a b = absurd (false≢true (e y.class y.value ∙ found_first y ys))
  one_list (x ∷ xs) [] o p e a b = absurd (false≢true (sym (e x.class x.value) ∙ found_first x xs))
  one_list (x ∷ xs) (y ∷ ys) o p e a b =
      let up = and_parts (list_all (length_before x) xs) (each_two length_before xs) o in
      let also = and_parts (list_all (length_before y) ys) (each_two length_before ys) p in
      let same = first_same x y a.0 b.0 (is_first x y ys also.0 (sym (e x.class x.value) ∙ found_first x xs)) (is_first y x xs up.0 (e y.class y.value ∙ found_first y ys)) in
      λ i. same i ∷ one_list xs ys up.1 also.1 (λ class value. rest class value same up.0 also.0 (is_length_of class value x) refl) a.1 b.1 i
    where
      rest : (class value : Name) → y ≡ x → list_all (length_before x) xs ≡ true → list_all (length_before y) ys ≡ true → (b : Bool) → is_length_of class value x ≡ b → list_any (is_length_of class value) xs ≡ list_any (is_length_of class value) ys
      rest class value same up also true here =
          none_later x xs class value up here ∙ sym (none_later y ys class value also (ap (is_length_of class value) same ∙ here))
      rest class value same up also false here =
          ap (λ c. c || list_any (is_length_of class value) xs) (sym here) ∙ e class value
          ∙ ap (λ c. c || list_any (is_length_of class value) ys) (ap (is_length_of class value) same ∙ here)

pub are_unique : LengthsAreUnique
are_unique route i xs ys one two =
    let routes = filter (is_of_route route) i.routes in
    one_list i.assets routes ys xs two.order one.order (λ class value. two.exact class value ∙ sym (one.exact class value)) two.counts one.counts
