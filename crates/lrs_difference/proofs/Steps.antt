-- Two lists that are merged step by step.
use Rattle.std.proofs.Common.{◌≡◌, ℕ, zero, suc, Bool, true, false, cond, not, inl, inr, List, [], ◌∷◌, ◌++◌, map, take, drop, refl, sym, ap, subst, ◌∙◌, append_assoc, ◌+◌, arith}
use Rattle.std.specs.Prelude.{◌||◌, if◌then◌else◌}
use Rattle.std.specs.List.{flat_map, list_all, list_any, prefix_len}
use Rattle.std.proofs.lemmas.Bool.{and_parts, both_ways, false_from_ne_true}
use Rattle.lrs_measure.specs.Lists.{In, each_two}
use Rattle.lrs_measure.proofs.Members.{all_at, In-filter}
use Rattle.lrs_measure.proofs.Filters.{filter_alike, filter_all}
use Rattle.lrs_machine.specs.Lines.{Text}
use Rattle.lrs_difference.specs.declared.line.Item.{Item}
use Rattle.lrs_difference.specs.declared.line.Line.{Line}
use Rattle.lrs_difference.specs.declared.line.Sign.TheVariants.{Removed, Added}
use Rattle.lrs_difference.specs.Difference.{added, in_order, lacking, removed}
use Rattle.lrs_difference.specs.Items.{item_before}
use Rattle.lrs_difference.specs.Merging.{IsByKey, first_is, lines_between}
use Rattle.lrs_difference.specs.Lines.{line_text}

-- ---- the first entries that pass a test, and those behind them

module _ {A : Type 0} where
  abbrev pub front : (A → Bool) → List A → List A
  front test xs = take (prefix_len test xs) xs

  abbrev pub behind : (A → Bool) → List A → List A
  behind test xs = drop (prefix_len test xs) xs

  one_more : (test : A → Bool) (ys : List A) → 1 + prefix_len test ys ≡ suc (prefix_len test ys)
  one_more test ys = omega arith

  pub front_more : (test : A → Bool) (y : A) (ys : List A) → test y ≡ true → front test (y ∷ ys) ≡ y ∷ front test ys
  front_more test y ys h = ap (λ b. take (cond b (1 + prefix_len test ys) 0) (y ∷ ys)) h ∙ ap (λ n. take n (y ∷ ys)) (one_more test ys)

  pub behind_more : (test : A → Bool) (y : A) (ys : List A) → test y ≡ true → behind test (y ∷ ys) ≡ behind test ys
  behind_more test y ys h = ap (λ b. drop (cond b (1 + prefix_len test ys) 0) (y ∷ ys)) h ∙ ap (λ n. drop n (y ∷ ys)) (one_more test ys)

  pub front_none : (test : A → Bool) (y : A) (ys : List A) → test y ≡ false → front test (y ∷ ys) ≡ []
  front_none test y ys h = ap (λ b. take (cond b (1 + prefix_len test ys) 0) (y ∷ ys)) h

  pub behind_none : (test : A → Bool) (y : A) (ys : List A) → test y ≡ false → behind test (y ∷ ys) ≡ y ∷ ys
  behind_none test y ys h = ap (λ b. drop (cond b (1 + prefix_len test ys) 0) (y ∷ ys)) h

  pub two_drop : (before : A → A → Bool) (n : ℕ) (ys : List A) → each_two before ys ≡ true → each_two before (drop n ys) ≡ true
  two_drop before zero ys h = h
  two_drop before (suc n) [] h = refl
  two_drop before (suc n) (y ∷ ys) h = two_drop before n ys (and_parts (list_all (before y) ys) (each_two before ys) h).1

  none_of : (p : A → Bool) (ys : List A) → ((y : A) → In y ys → p y ≡ false) → list_any p ys ≡ false
  none_of p [] h = refl
  none_of p (y ∷ ys) h = (λ i. h y (inl refl) i || list_any p ys) ∙ none_of p ys (λ z m. h z (inr m))

-- ---- one step

module _ {A : Type 0} (before same : A → A → Bool) (item : A → Item) (k : IsByKey before same item) where
  rising : (x y : A) (xs : List A) → before y x ≡ true → each_two before (x ∷ xs) ≡ true → (z : A) → In z (x ∷ xs) → before y z ≡ true
  rising x y xs h order z (inl e) = ap (before y) e ∙ h
  rising x y xs h order z (inr m) = k.onward y x z (k.one_way y x h) (all_at (before x) z xs (and_parts (list_all (before x) xs) (each_two before xs) order).0 m)

  not_same : (x y : A) → before x y ≡ true → same y x ≡ false
  not_same x y h = k.mirrored y x ∙ k.apart x y h

  -- an added item before all that are removed
  first_added : (y : A) (xs ys : List A) → ((x : A) → In x xs → before y x ≡ true) → in_order (map item xs) (item y ∷ map item ys) ≡ added (item y) ∷ in_order (map item xs) (map item ys)
  first_added y [] ys h = refl
  first_added y (x ∷ xs) ys h =
      let m = prefix_len (λ w. item_before w (item x)) (map item ys) in
      let at : ℕ → List Line = λ n. map added (take n (item y ∷ map item ys)) ++ removed (item x) ∷ in_order (map item xs) (drop n (item y ∷ map item ys)) in
      ap (λ b. at (cond b (1 + m) 0)) (k.items y x ∙ h x (inl refl)) ∙ ap at (one_more (λ w. item_before w (item x)) (map item ys))

  -- a removed item before all that are added
  first_removed : (x : A) (xs ys : List A) → ((y : A) → In y ys → before y x ≡ false) → in_order (item x ∷ map item xs) (map item ys) ≡ removed (item x) ∷ in_order (map item xs) (map item ys)
  first_removed x xs [] h = refl
  first_removed x xs (y ∷ ys) h =
      let m = prefix_len (λ w. item_before w (item x)) (map item ys) in
      let at : ℕ → List Line = λ n. map added (take n (item y ∷ map item ys)) ++ removed (item x) ∷ in_order (map item xs) (drop n (item y ∷ map item ys)) in
      ap (λ b. at (cond b (1 + m) 0)) (k.items y x ∙ h y (inl refl))

  lacks_first : (x : A) (xs ys : List A) → list_any (same x) ys ≡ false → lacking same (x ∷ xs) ys ≡ x ∷ lacking same xs ys
  lacks_first x xs ys h = ap (λ b. cond (not b) (x ∷ lacking same xs ys) (lacking same xs ys)) h

  has_first : (x : A) (xs ys : List A) → list_any (same x) ys ≡ true → lacking same (x ∷ xs) ys ≡ lacking same xs ys
  has_first x xs ys h = ap (λ b. cond (not b) (x ∷ lacking same xs ys) (lacking same xs ys)) h

  -- where none of the first list is the same as an entry, it is lacking the same without it
  without : (y : A) (xs ys : List A) → ((x : A) → In x xs → same x y ≡ false) → lacking same xs (y ∷ ys) ≡ lacking same xs ys
  without y xs ys h = filter_alike (λ x. not (list_any (same x) (y ∷ ys))) (λ x. not (list_any (same x) ys)) xs (λ x m. ap (λ b. not (b || list_any (same x) ys)) (h x m))

  In_lacking : (z : A) (xs ys : List A) → In z (lacking same xs ys) → In z xs
  In_lacking z xs ys m = (In-filter (λ x. not (list_any (same x) ys)) z xs m).0

  step_added : (x y : A) (xs ys : List A) → each_two before (x ∷ xs) ≡ true → before y x ≡ true → lines_between same item (x ∷ xs) (y ∷ ys) ≡ added (item y) ∷ lines_between same item (x ∷ xs) ys
  step_added x y xs ys order h =
      let up = rising x y xs h order in
      let one = without y (x ∷ xs) ys (λ z m. not_same y z (up z m)) in
      let two = lacks_first y ys (x ∷ xs) (none_of (same y) (x ∷ xs) (λ z m. k.apart y z (up z m))) in
      (λ i. in_order (map item (one i)) (map item (two i))) ∙ first_added y (lacking same (x ∷ xs) ys) (lacking same ys (x ∷ xs)) (λ z m. up z (In_lacking z (x ∷ xs) ys m))

  step_same : (x y : A) (xs ys : List A) → each_two before (x ∷ xs) ≡ true → each_two before (y ∷ ys) ≡ true → before y x ≡ false → same x y ≡ true
      → lines_between same item (x ∷ xs) (y ∷ ys) ≡ lines_between same item xs ys
  step_same x y xs ys left right h s =
      let other : before x y ≡ false = false_from_ne_true (before x y) (λ t. both_ways (same x y) (k.apart x y t) s) in
      let above = (and_parts (list_all (before x) xs) (each_two before xs) left).0 in
      let beyond = (and_parts (list_all (before y) ys) (each_two before ys) right).0 in
      let one = has_first x xs (y ∷ ys) (ap (λ b. b || list_any (same x) ys) s) ∙ without y xs ys (λ z m. not_same y z (k.onward y x z other (all_at (before x) z xs above m))) in
      let two = has_first y ys (x ∷ xs) (ap (λ b. b || list_any (same y) xs) (k.mirrored y x ∙ s)) ∙ without x ys xs (λ z m. not_same x z (k.onward x y z h (all_at (before y) z ys beyond m))) in
      λ i. in_order (map item (one i)) (map item (two i))

  step_removed : (x : A) (xs ys : List A) → ((y : A) → In y ys → before y x ≡ false) → ((y : A) → In y ys → same x y ≡ false) → lines_between same item (x ∷ xs) ys ≡ removed (item x) ∷ lines_between same item xs ys
  step_removed x xs ys h n =
      let one = lacks_first x xs ys (none_of (same x) ys n) in
      let two = without x ys xs (λ y m. k.mirrored y x ∙ n y m) in
      (λ i. in_order (map item (one i)) (map item (two i))) ∙ first_removed x (lacking same xs ys) (lacking same ys xs) (λ y m. h y (In_lacking y ys xs m))

  -- ---- the text

  abbrev pub added_line : A → Text
  added_line y = line_text (record { sign = Added; item = item y })

  abbrev pub removed_line : A → Text
  removed_line x = line_text (record { sign = Removed; item = item x })

  abbrev pub text_between : List A → List A → Text
  text_between xs ys = flat_map line_text (lines_between same item xs ys)

  -- an entry that the first of the others does not repeat
  abbrev pub unless : A → List A → Text
  unless x ys = if first_is (same x) ys then [] else removed_line x

  abbrev pub passed : A → List A → List A
  passed x ys = if first_is (same x) ys then drop 1 ys else ys

  abbrev pub Step : A → List A → List A → List A → List A → Type 0
  Step x xs ys first others = text_between (x ∷ xs) ys ≡ flat_map added_line first ++ (unless x others ++ text_between xs (passed x others))

  at_first : (x y : A) (xs ys : List A) → each_two before (x ∷ xs) ≡ true → each_two before (y ∷ ys) ≡ true → before y x ≡ false → Step x xs (y ∷ ys) [] (y ∷ ys)
  at_first x y xs ys left right h = by (same x y) refl
    where
      by : (b : Bool) → same x y ≡ b → text_between (x ∷ xs) (y ∷ ys) ≡ cond b [] (removed_line x) ++ text_between xs (cond b ys (y ∷ ys))
      by true s = ap (flat_map line_text) (step_same x y xs ys left right h s)
      by false s = ap (flat_map line_text) (step_removed x xs (y ∷ ys) above others)
        where
          beyond : list_all (before y) ys ≡ true
          beyond = (and_parts (list_all (before y) ys) (each_two before ys) right).0

          above : (z : A) → In z (y ∷ ys) → before z x ≡ false
          above z (inl e) = ap (λ w. before w x) e ∙ h
          above z (inr m) = k.one_way x z (k.onward x y z h (all_at (before y) z ys beyond m))

          others : (z : A) → In z (y ∷ ys) → same x z ≡ false
          others z (inl e) = ap (same x) e ∙ s
          others z (inr m) = k.apart x z (k.onward x y z h (all_at (before y) z ys beyond m))

  -- What one entry of the first list adds to the text.
  pub step : (x : A) (xs ys : List A) → each_two before (x ∷ xs) ≡ true → each_two before ys ≡ true → Step x xs ys (front (λ y. before y x) ys) (behind (λ y. before y x) ys)
  step x xs [] left right = ap (flat_map line_text) (step_removed x xs [] (λ y m. absurd m) (λ y m. absurd m))
  step x xs (y ∷ ys) left right = by (before y x) refl (step x xs ys left (and_parts (list_all (before y) ys) (each_two before ys) right).1)
    where
      n : ℕ
      n = prefix_len (λ z. before z x) ys

      at : ℕ → Type 0
      at m = Step x xs (y ∷ ys) (take m (y ∷ ys)) (drop m (y ∷ ys))

      by : (b : Bool) → before y x ≡ b → Step x xs ys (take n ys) (drop n ys) → at (cond b (1 + n) 0)
      by false h rest = at_first x y xs ys left right h
      by true h rest =
          let whole : at (suc n) =
          ap (flat_map line_text) (step_added x y xs ys left h) ∙ ap (λ t. added_line y ++ t) rest ∙ sym (append_assoc (added_line y) (flat_map added_line (take n ys)) (unless x (drop n ys) ++ text_between xs (passed x (drop n ys)))) in
          subst at (sym (one_more (λ z. before z x) ys)) whole

  pub passed_order : (x : A) (xs ys : List A) → each_two before ys ≡ true → each_two before (passed x (behind (λ y. before y x) ys)) ≡ true
  passed_order x xs ys h = by (first_is (same x) others) (two_drop before (prefix_len (λ y. before y x) ys) ys h)
    where
      others : List A
      others = behind (λ y. before y x) ys

      by : (b : Bool) → each_two before others ≡ true → each_two before (cond b (drop 1 others) others) ≡ true
      by true o = two_drop before 1 others o
      by false o = o

  -- at the end of the first list the others are added
  all_added : (ys : List A) → flat_map line_text (map added (map item ys)) ≡ flat_map added_line ys
  all_added [] = refl
  all_added (y ∷ ys) = ap (λ t. added_line y ++ t) (all_added ys)

  pub at_end : (ys : List A) → text_between [] ys ≡ flat_map added_line ys
  at_end ys = ap (λ zs. flat_map line_text (map added (map item zs))) (filter_all (λ y. not (list_any (same y) [])) ys (λ y m. refl)) ∙ all_added ys
