-- Removed and added items that are in order are in order together.
use Rattle.std.proofs.Common.{◌≡◌, ℕ, suc, ◌+◌, Bool, true, false, not, cond, ◌⊎◌, inl, inr, List, [], ◌∷◌, ◌++◌, map, take, drop, refl, ap, subst, ◌∙◌, arith}
use Rattle.std.specs.Prelude.{◌&&◌}
use Rattle.std.specs.List.{list_all, prefix_len}
use Rattle.std.proofs.lemmas.Bool.{and_parts, and_from, or_left, or_right, both_ways, false_from_ne_true}
use Rattle.std.proofs.lemmas.List.{take-append-drop}
use Rattle.lrs_measure.specs.Lists.{In, each_two}
use Rattle.lrs_measure.proofs.EachTwo.{across_of, joined, two_front, two_passing, two_rear}
use Rattle.lrs_measure.proofs.Members.{all_at, all_of, In-append_cases, In-drop, In-take, map_found}
use Rattle.lrs_machine.proofs.Pairs.{each_two-map}
use Rattle.lrs_difference.specs.declared.line.Item.{Item}
use Rattle.lrs_difference.specs.declared.line.Line.{Line}
use Rattle.lrs_difference.specs.declared.line.Sign.TheVariants.{Removed, Added}
use Rattle.lrs_difference.specs.Difference.{added, in_order, removed}
use Rattle.lrs_difference.specs.Items.{item_before}
use Rattle.lrs_difference.specs.Laws.{line_before, same_sign}
use Rattle.lrs_difference.proofs.Keys.{item_trans}

-- ---- a front whose members pass, and the rest

module _ {X : Type 0} (p : X → Bool) where
  pub one_more : (y : X) (ys : List X) → p y ≡ true → prefix_len p (y ∷ ys) ≡ suc (prefix_len p ys)
  one_more y ys h = let e : 1 + prefix_len p ys ≡ suc (prefix_len p ys) = omega arith in ap (λ b. cond b (1 + prefix_len p ys) 0) h ∙ e

  pub no_more : (y : X) (ys : List X) → p y ≡ false → prefix_len p (y ∷ ys) ≡ 0
  no_more y ys h = ap (λ b. cond b (1 + prefix_len p ys) 0) h

  front_passes : (xs : List X) (x : X) → In x (take (prefix_len p xs) xs) → p x ≡ true
  front_passes [] x m = absurd m
  front_passes (y ∷ ys) x m = by (p y) refl (front_passes ys x)
    where
      first : p y ≡ true → In x (y ∷ take (prefix_len p ys) ys) → (In x (take (prefix_len p ys) ys) → p x ≡ true) → p x ≡ true
      first h (inl e) later = ap p e ∙ h
      first h (inr n) later = later n

      by : (b : Bool) → p y ≡ b → (In x (take (prefix_len p ys) ys) → p x ≡ true) → p x ≡ true
      by true h later = first h (subst (λ n. In x (take n (y ∷ ys))) (one_more y ys h) m) later
      by false h later = absurd (subst (λ n. In x (take n (y ∷ ys))) (no_more y ys h) m)

-- where what is before one that passes passes, none of the rest does
module _ (p : Item → Bool) (lower : (x y : Item) → item_before x y ≡ true → p y ≡ true → p x ≡ true) where
  rest_fails : (xs : List Item) → each_two item_before xs ≡ true → (x : Item) → In x (drop (prefix_len p xs) xs) → p x ≡ false
  rest_fails [] h x m = absurd m
  rest_fails (y ∷ ys) h x m = by (p y) refl (rest_fails ys (and_parts (list_all (item_before y) ys) (each_two item_before ys) h).1 x)
    where
      all : p y ≡ false → In x (y ∷ ys) → p x ≡ false
      all k (inl e) = ap p e ∙ k
      all k (inr n) = false_from_ne_true (p x) (λ passes. both_ways (p y) k (lower y x (all_at (item_before y) x ys (and_parts (list_all (item_before y) ys) (each_two item_before ys) h).0 n) passes))

      by : (b : Bool) → p y ≡ b → (In x (drop (prefix_len p ys) ys) → p x ≡ false) → p x ≡ false
      by true k later = later (subst (λ n. In x (drop n (y ∷ ys))) (one_more p y ys k) m)
      by false k later = all k (subst (λ n. In x (drop n (y ∷ ys))) (no_more p y ys k) m)

-- ---- lines by their items

by_item : (l m : Line) → item_before l.item m.item ≡ true → line_before l m ≡ true
by_item l m h = or_left (item_before l.item m.item) (not (item_before m.item l.item) && same_sign l.sign Removed && same_sign m.sign Added) h

by_sign : (x y : Item) → item_before y x ≡ false → line_before (removed x) (added y) ≡ true
by_sign x y h = or_right (item_before x y) (not (item_before y x) && true && true) (ap (λ b. not b && true && true) h)

-- how many added items come before a removed one
abbrev pub ahead : Item → List Item → ℕ
ahead x ys = prefix_len (λ y. item_before y x) ys

-- a line is of a removed item or of an added one
pub data IsOf (xs ys : List Item) (l : Line) : Type 0 where
  of_removed : (x : Item) → In x xs → l ≡ removed x → IsOf xs ys l
  of_added : (y : Item) → In y ys → l ≡ added y → IsOf xs ys l

is_of : (xs ys : List Item) (l : Line) → In l (in_order xs ys) → IsOf xs ys l
is_of [] ys l m = let y = map_found added l ys m in of_added y.0 y.1 y.2
is_of (x ∷ xs) ys l m = by (In-append_cases l (map added (take (ahead x ys) ys)) (removed x ∷ in_order xs (drop (ahead x ys) ys)) m) (is_of xs (drop (ahead x ys) ys) l)
  where
    later : IsOf xs (drop (ahead x ys) ys) l → IsOf (x ∷ xs) ys l
    later (of_removed z k e) = of_removed z (inr k) e
    later (of_added y k e) = of_added y (In-drop y (ahead x ys) ys k) e

    by : In l (map added (take (ahead x ys) ys)) ⊎ In l (removed x ∷ in_order xs (drop (ahead x ys) ys)) → (In l (in_order xs (drop (ahead x ys) ys)) → IsOf xs (drop (ahead x ys) ys) l) → IsOf (x ∷ xs) ys l
    by (inl k) rest = let y = map_found added l (take (ahead x ys) ys) k in of_added y.0 (In-take y.0 (ahead x ys) ys y.1) y.2
    by (inr (inl e)) rest = of_removed x (inl refl) e
    by (inr (inr k)) rest = later (rest k)

-- ---- the lines

all_added : (ys : List Item) → each_two item_before ys ≡ true → each_two line_before (map added ys) ≡ true
all_added ys h = each_two-map line_before added ys ∙ two_passing item_before (λ x y. line_before (added x) (added y)) (λ x y k. by_item (added x) (added y) k) ys h

module _ (x : Item) (xs ys : List Item) (first : list_all (item_before x) xs ≡ true) (order : each_two item_before ys ≡ true) where
  abbrev front : ℕ
  front = ahead x ys

  parted : each_two item_before (take front ys ++ drop front ys) ≡ true
  parted = ap (each_two item_before) (take-append-drop front ys) ∙ order

  -- the removed item stands before what follows it
  leads : (l : Line) → IsOf xs (drop front ys) l → line_before (removed x) l ≡ true
  leads l (of_removed z m e) = ap (line_before (removed x)) e ∙ by_item (removed x) (removed z) (all_at (item_before x) z xs first m)
  leads l (of_added y m e) =
      ap (line_before (removed x)) e
      ∙ by_sign x y (rest_fails (λ y. item_before y x) (λ u v k passes. item_trans u v x k passes) ys order y m)

  -- the added ones that come before it stand before all that follows
  goes_first : (y : Item) → In y (take front ys) → (l : Line) → IsOf (x ∷ xs) (drop front ys) l → line_before (added y) l ≡ true
  goes_first y n l (of_removed z (inl e) is) = ap (line_before (added y)) is ∙ by_item (added y) (removed z) (ap (item_before y) e ∙ front_passes (λ y. item_before y x) ys y n)
  goes_first y n l (of_removed z (inr m) is) =
      ap (line_before (added y)) is
      ∙ by_item (added y) (removed z) (item_trans y x z (front_passes (λ y. item_before y x) ys y n) (all_at (item_before x) z xs first m))
  goes_first y n l (of_added z m is) = ap (line_before (added y)) is ∙ by_item (added y) (added z) (across_of item_before (take front ys) (drop front ys) parted y z n m)

of_rest : (x : Item) (xs ys : List Item) (q : Line) → In q (removed x ∷ in_order xs ys) → IsOf (x ∷ xs) ys q
of_rest x xs ys q (inl e) = of_removed x (inl refl) e
of_rest x xs ys q (inr m) = more (is_of xs ys q m)
  where
    more : IsOf xs ys q → IsOf (x ∷ xs) ys q
    more (of_removed z k e) = of_removed z (inr k) e
    more (of_added y k e) = of_added y k e

pub merged : (xs ys : List Item) → each_two item_before xs ≡ true → each_two item_before ys ≡ true → each_two line_before (in_order xs ys) ≡ true
merged [] ys h k = all_added ys k
merged (x ∷ xs) ys h k =
    let up = and_parts (list_all (item_before x) xs) (each_two item_before xs) h in
    let n = ahead x ys in
    let both = parted x xs ys up.0 k in
    joined line_before (map added (take n ys)) (removed x ∷ in_order xs (drop n ys)) (all_added (take n ys) (two_front item_before (take n ys) (drop n ys) both))
    (and_from (list_all (line_before (removed x)) (in_order xs (drop n ys))) (each_two line_before (in_order xs (drop n ys)))
    (all_of (line_before (removed x)) (in_order xs (drop n ys)) (λ l m. leads x xs ys up.0 k l (is_of xs (drop n ys) l m)))
    (merged xs (drop n ys) up.1 (two_rear item_before (take n ys) (drop n ys) both)))
    (λ l q m i.
    let y = map_found added l (take n ys) m in
    ap (λ z. line_before z q) y.2 ∙ goes_first x xs ys up.0 k y.0 y.1 q (of_rest x xs (drop n ys) q i))
