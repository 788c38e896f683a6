-- Lists joined end to end, and an element that belongs in one of them.
use Rattle.std.proofs.Common.{◌≡◌, ℕ, ◌+◌, ◌-◌, ◌<◌, zero, suc, Bool, true, false, cond, List, [], ◌∷◌, ◌++◌, length, get_or, take, drop, insert, set, refl, sym, ap, ◌∙◌, arith, append_assoc, append-nil}
use Rattle.std.specs.Prelude.{◌||◌, ◌&&◌, not}
use Rattle.std.specs.List.{list_all}
use Rattle.std.proofs.lemmas.Bool.{false≢true, and_parts, and_from, not-true}
use Rattle.std.proofs.lemmas.List.{take-append-drop, take-set, drop-set, take_more_set, drop-set-lt}
use Rattle.std.proofs.lemmas.List.Folds.{list_all-append}
use Rattle.lrs_measure.specs.Lists.{each_two}
use Rattle.lrs_measure.specs.OrderedLists.{place_by, insert_by}
use Rattle.lrs_measure.proofs.EachTwo.{two_front, two_rear}
use Rattle.lrs_ordered.specs.SearchedLists.{is_parted, joined, first_passes, is_filled, are_filled}

add_two : (i : ℕ) → suc (i + 1) ≡ suc i + 1
add_two i = omega arith

pub place_first : (b : Bool) (n : ℕ) → cond b 0 (n + 1) ≡ 0 → b ≡ true
place_first true n h = refl
place_first false n h = absurd (omega (arith, h))

pub place_later : (b : Bool) (n k : ℕ) → cond b 0 (n + 1) ≡ suc k → (b ≡ false) × (n ≡ k)
place_later true n k h = absurd (omega (arith, h))
place_later false n k h = (refl, omega (arith, h))

all_parts : {Y : Type 0} (p : Y → Bool) (i : ℕ) (ys : List Y) → list_all p ys ≡ true → (list_all p (take i ys) ≡ true) × (list_all p (drop i ys) ≡ true)
all_parts p i ys h = and_parts (list_all p (take i ys)) (list_all p (drop i ys)) (sym (list_all-append p (take i ys) (drop i ys)) ∙ ap (list_all p) (take-append-drop i ys) ∙ h)

pub all_taken : {Y : Type 0} (p : Y → Bool) (i : ℕ) (ys : List Y) → list_all p ys ≡ true → list_all p (take i ys) ≡ true
all_taken p i ys h = (all_parts p i ys h).0

pub all_dropped : {Y : Type 0} (p : Y → Bool) (i : ℕ) (ys : List Y) → list_all p ys ≡ true → list_all p (drop i ys) ≡ true
all_dropped p i ys h = (all_parts p i ys h).1

pub set_between : {Y : Type 0} (ys : List Y) (i : ℕ) (y : Y) → i < length ys → set ys i y ≡ take i ys ++ y ∷ drop (i + 1) ys
set_between ys i y within = sym (take-append-drop i (set ys i y)) ∙ (λ j. take-set ys i y j ++ drop-set ys i y within j)

pub insert_after_set : {Y : Type 0} (ys : List Y) (i : ℕ) (y z : Y) → i < length ys → insert (set ys i y) (i + 1) z ≡ take i ys ++ y ∷ (z ∷ drop (i + 1) ys)
insert_after_set ys i y z within =
    (λ j. take_more_set ys i y within j ++ z ∷ drop-set-lt (i + 1) ys i y (omega arith) j) ∙ append_assoc (take i ys) (y ∷ []) (z ∷ drop (i + 1) ys)

module _ {X : Type 0} where
  pub joined-append : (xss yss : List (List X)) → joined (xss ++ yss) ≡ joined xss ++ joined yss
  joined-append [] yss = refl
  joined-append (xs ∷ xss) yss = ap (λ l. xs ++ l) (joined-append xss yss) ∙ sym (append_assoc xs (joined xss) (joined yss))

  -- the list at a place, between the others
  pub joined_at : (xss : List (List X)) (i : ℕ) (d : List X) → i < length xss → joined xss ≡ joined (take i xss) ++ (get_or xss i d ++ joined (drop (i + 1) xss))
  joined_at [] i d h = absurd (omega (arith, h))
  joined_at (xs ∷ xss) zero d h = refl
  joined_at (xs ∷ xss) (suc i) d h = ap (λ l. xs ++ l) (joined_at xss i d (omega (arith, h))) ∙ sym (append_assoc xs (joined (take i xss)) (get_or xss i d ++ joined (drop (i + 1) xss)))
      ∙ ap (λ k. (xs ++ joined (take i xss)) ++ (get_or xss i d ++ joined (drop k (xs ∷ xss)))) (add_two i)

  -- Elements before one that fails are those that may stand before it.
  failing_front : (r p : X → Bool) (xs : List X) (y : X) (ys : List X) → p y ≡ false → each_two (λ a b. r a || p b) (xs ++ y ∷ ys) ≡ true → list_all r xs ≡ true
  failing_front r p [] y ys fails h = refl
  failing_front r p (x ∷ xs) y ys fails h =
      let both = and_parts (list_all (λ b. r x || p b) (xs ++ y ∷ ys)) (each_two (λ a b. r a || p b) (xs ++ y ∷ ys)) h in
      let later = and_parts (list_all (λ b. r x || p b) xs) (list_all (λ b. r x || p b) (y ∷ ys)) (sym (list_all-append (λ b. r x || p b) xs (y ∷ ys)) ∙ both.0) in
      let here = and_parts (r x || p y) (list_all (λ b. r x || p b) ys) later.1 in
      and_from (r x) (list_all r xs) (one (r x) (p y) fails here.0) (failing_front r p xs y ys fails both.1)
    where
      one : (a b : Bool) → b ≡ false → (a || b) ≡ true → a ≡ true
      one true b e k = refl
      one false b e k = absurd (false≢true (sym e ∙ k))

  firsts_or : (b : Bool) (p : X → Bool) (xss : List (List X)) → are_filled xss ≡ true → list_all (λ y. not b || p y) (joined xss) ≡ true → list_all (λ ys. not b || first_passes p ys) xss ≡ true
  firsts_or b p [] filled h = refl
  firsts_or b p ([] ∷ xss) filled h = absurd (false≢true filled)
  firsts_or b p ((x ∷ xs) ∷ xss) filled h =
      let both = and_parts (not b || p x) (list_all (λ y. not b || p y) (xs ++ joined xss)) h in
      let later = and_parts (list_all (λ y. not b || p y) xs) (list_all (λ y. not b || p y) (joined xss)) (sym (list_all-append (λ y. not b || p y) xs (joined xss)) ∙ both.1) in
      and_from (not b || p x) (list_all (λ ys. not b || first_passes p ys) xss) both.0 (firsts_or b p xss filled later.1)

  -- If the elements of the lists are parted, so are the lists by their first elements.
  pub firsts_parted : (p : X → Bool) (xss : List (List X)) → are_filled xss ≡ true → is_parted p (joined xss) ≡ true → is_parted (first_passes p) xss ≡ true
  firsts_parted p [] filled h = refl
  firsts_parted p ([] ∷ xss) filled h = absurd (false≢true filled)
  firsts_parted p ((x ∷ xs) ∷ xss) filled h =
      let both = and_parts (list_all (λ b. not (p x) || p b) (xs ++ joined xss)) (is_parted p (xs ++ joined xss)) h in
      let later = and_parts (list_all (λ b. not (p x) || p b) xs) (list_all (λ b. not (p x) || p b) (joined xss)) (sym (list_all-append (λ b. not (p x) || p b) xs (joined xss)) ∙ both.0) in
      and_from (list_all (λ ys. not (p x) || first_passes p ys) xss) (is_parted (first_passes p) xss)
      (firsts_or (p x) p xss filled later.1) (firsts_parted p xss filled (two_rear (λ a b. not (p a) || p b) xs (joined xss) both.1))

  first_joined : (p : X → Bool) (xss : List (List X)) → are_filled xss ≡ true → first_passes p (joined xss) ≡ first_passes (first_passes p) xss
  first_joined p [] filled = refl
  first_joined p ([] ∷ xss) filled = absurd (false≢true filled)
  first_joined p ((x ∷ xs) ∷ xss) filled = refl

  -- the lists from the first one on whose first element passes
  pub rear_passes : (p : X → Bool) (xss : List (List X)) (k : ℕ) → are_filled xss ≡ true → place_by (first_passes p) xss ≡ k → first_passes p (joined (drop k xss)) ≡ true
  rear_passes p [] zero filled h = refl
  rear_passes p [] (suc k) filled h = absurd (omega (arith, h))
  rear_passes p (xs ∷ xss) zero filled h = first_joined p (xs ∷ xss) filled ∙ place_first (first_passes p xs) (place_by (first_passes p) xss) h
  rear_passes p (xs ∷ xss) (suc k) filled h =
      rear_passes p xss k (and_parts (is_filled xs) (are_filled xss) filled).1 (place_later (first_passes p xs) (place_by (first_passes p) xss) k h).1

  before_failing : (r p : X → Bool) (xs : List X) (xss : List (List X)) (k : ℕ) → are_filled xss ≡ true → each_two (λ a b. r a || p b) (xs ++ joined xss) ≡ true → place_by (first_passes p) xss ≡ suc k
      → list_all r xs ≡ true
  before_failing r p xs [] k filled h e = absurd (omega (arith, e))
  before_failing r p xs ([] ∷ xss) k filled h e = absurd (false≢true filled)
  before_failing r p xs ((y ∷ ys) ∷ xss) k filled h e = failing_front r p xs y (ys ++ joined xss) (place_later (p y) (place_by (first_passes p) xss) k e).0 h

  -- the lists before the last one whose first element fails
  pub front_fails : (r p : X → Bool) (xss : List (List X)) (k : ℕ) → are_filled xss ≡ true → each_two (λ a b. r a || p b) (joined xss) ≡ true → place_by (first_passes p) xss ≡ suc k → list_all r (joined (take k xss)) ≡ true
  front_fails r p xss zero filled h e = refl
  front_fails r p [] (suc k) filled h e = refl
  front_fails r p (xs ∷ xss) (suc k) filled h e =
      let later = place_later (first_passes p xs) (place_by (first_passes p) xss) (suc k) e in
      let rest = (and_parts (is_filled xs) (are_filled xss) filled).1 in
      list_all-append r xs (joined (take k xss))
      ∙ and_from (list_all r xs) (list_all r (joined (take k xss))) (before_failing r p xs xss k rest h later.1)
      (front_fails r p xss k rest (two_rear (λ a b. r a || p b) xs (joined xss) h) later.1)

  first_of_all : (p : X → Bool) (b : Bool) (ys : List X) → b ≡ true → list_all (λ y. not b || p y) ys ≡ true → first_passes p ys ≡ true
  first_of_all p b [] e h = refl
  first_of_all p b (y ∷ ys) e h = ap (λ c. not c || p y) (sym e) ∙ (and_parts (not b || p y) (list_all (λ z. not b || p z) ys) h).0

  -- the lists after the first, where its first element passes
  pub next_passes : (p : X → Bool) (xss : List (List X)) → are_filled xss ≡ true → is_parted p (joined xss) ≡ true → place_by (first_passes p) xss ≡ 0 → first_passes p (joined (drop 1 xss)) ≡ true
  next_passes p [] filled h e = refl
  next_passes p ([] ∷ xss) filled h e = absurd (false≢true filled)
  next_passes p ((x ∷ xs) ∷ xss) filled h e =
      let test = λ (y : X). not (p x) || p y in
      let both = and_parts (list_all test (xs ++ joined xss)) (is_parted p (xs ++ joined xss)) h in
      let later = and_parts (list_all test xs) (list_all test (joined xss)) (sym (list_all-append test xs (joined xss)) ∙ both.0) in
      first_of_all p (p x) (joined xss) (place_first (p x) (place_by (first_passes p) xss) e) later.1

  -- To put x into one of the lists is to put it into all of them, where those before fail and those after pass.
  pub insert_by-between : (before : X → X → Bool) (x : X) (front mid rear : List X) → list_all (λ y. not (before x y)) front ≡ true → first_passes (before x) rear ≡ true
      → insert_by before x (front ++ (mid ++ rear)) ≡ front ++ (insert_by before x mid ++ rear)
  insert_by-between before x [] [] [] h k = refl
  insert_by-between before x [] [] (y ∷ ys) h k = ap (λ b. cond b (x ∷ y ∷ ys) (y ∷ insert_by before x ys)) k
  insert_by-between before x [] (z ∷ zs) rear h k =
      elim (before x z) as (λ b. cond b (x ∷ z ∷ (zs ++ rear)) (z ∷ insert_by before x (zs ++ rear)) ≡ cond b (x ∷ z ∷ zs) (z ∷ insert_by before x zs) ++ rear) [
        | true ↦ refl
        | false ↦ ap (λ l. z ∷ l) (insert_by-between before x [] zs rear h k)
      ]
  insert_by-between before x (y ∷ ys) mid rear h k =
      let both = and_parts (not (before x y)) (list_all (λ z. not (before x z)) ys) h in
      ap (λ b. cond b (x ∷ y ∷ (ys ++ (mid ++ rear))) (y ∷ insert_by before x (ys ++ (mid ++ rear)))) (not-true (before x y) both.0)
      ∙ ap (λ l. y ∷ l) (insert_by-between before x ys mid rear both.1 k)

  -- the list at a place is parted as all of them are
  pub parted_at : (p : X → Bool) (xss : List (List X)) (i : ℕ) (d : List X) → i < length xss → is_parted p (joined xss) ≡ true → is_parted p (get_or xss i d) ≡ true
  parted_at p xss i d within h =
      let test = λ (a b : X). not (p a) || p b in
      two_front test (get_or xss i d) (joined (drop (i + 1) xss)) (two_rear test (joined (take i xss)) (get_or xss i d ++ joined (drop (i + 1) xss)) (ap (each_two test) (sym (joined_at xss i d within)) ∙ h))

  -- What the lists are joined to, where one of them gets x, and a part of it becomes a list of its own.
  pub joined_put : (before : X → X → Bool) (x : X) (xss : List (List X)) (i : ℕ) (new : List X) (more : List (List X)) (d : List X) → i < length xss
      → list_all (λ y. not (before x y)) (joined (take i xss)) ≡ true → first_passes (before x) (joined (drop (i + 1) xss)) ≡ true
      → new ++ joined more ≡ insert_by before x (get_or xss i d)
      → joined (take i xss ++ (new ∷ (more ++ drop (i + 1) xss))) ≡ insert_by before x (joined xss)
  joined_put before x xss i new more d within front rear put =
      let f = joined (take i xss) in
      let r = joined (drop (i + 1) xss) in
      joined-append (take i xss) (new ∷ (more ++ drop (i + 1) xss))
      ∙ ap (λ l. f ++ (new ++ l)) (joined-append more (drop (i + 1) xss))
      ∙ ap (λ l. f ++ l) (sym (append_assoc new (joined more) r))
      ∙ ap (λ l. f ++ (l ++ r)) put
      ∙ sym (insert_by-between before x f (get_or xss i d) r front rear)
      ∙ ap (insert_by before x) (sym (joined_at xss i d within))

  -- none of them is empty
  pub filled_put : (xss : List (List X)) (i : ℕ) (new : List X) (more : List (List X)) → are_filled xss ≡ true → is_filled new ≡ true → are_filled more ≡ true
      → are_filled (take i xss ++ (new ∷ (more ++ drop (i + 1) xss))) ≡ true
  filled_put xss i new more filled one others =
      list_all-append is_filled (take i xss) (new ∷ (more ++ drop (i + 1) xss))
      ∙ and_from (are_filled (take i xss)) (is_filled new && are_filled (more ++ drop (i + 1) xss)) (all_taken is_filled i xss filled)
      (and_from (is_filled new) (are_filled (more ++ drop (i + 1) xss)) one
      (list_all-append is_filled more (drop (i + 1) xss) ∙ and_from (are_filled more) (are_filled (drop (i + 1) xss)) others (all_dropped is_filled (i + 1) xss filled)))

  -- the chunk before the first whose first element passes, or the first of all
  pub target_parts : (r p : X → Bool) (xss : List (List X)) (k j : ℕ) → are_filled xss ≡ true → each_two (λ a b. r a || p b) (joined xss) ≡ true → is_parted p (joined xss) ≡ true
      → k ≡ place_by (first_passes p) xss → j ≡ k - 1 → (list_all r (joined (take j xss)) ≡ true) × (first_passes p (joined (drop (j + 1) xss)) ≡ true)
  target_parts r p xss zero j filled two h e is =
      let zero_is : j ≡ 0 = omega (arith, is) in
      (ap (λ n. list_all r (joined (take n xss))) zero_is, ap (λ n. first_passes p (joined (drop (n + 1) xss))) zero_is ∙ next_passes p xss filled h (sym e))
  target_parts r p xss (suc k) j filled two h e is =
      let same : j ≡ k = omega (arith, is) in
      let next : j + 1 ≡ suc k = omega (arith, is) in
      (ap (λ n. list_all r (joined (take n xss))) same ∙ front_fails r p xss k filled two (sym e), ap (λ n. first_passes p (joined (drop n xss))) next ∙ rear_passes p xss (suc k) filled (sym e))

  -- what each two elements pass, those from a list on do
  pub two_rear_at : (test : X → X → Bool) (xss : List (List X)) (i : ℕ) (d : List X) → i < length xss → each_two test (joined xss) ≡ true → each_two test (joined (drop (i + 1) xss)) ≡ true
  two_rear_at test xss i d within h =
      two_rear test (get_or xss i d) (joined (drop (i + 1) xss)) (two_rear test (joined (take i xss)) (get_or xss i d ++ joined (drop (i + 1) xss)) (ap (each_two test) (sym (joined_at xss i d within)) ∙ h))

  pub two_at : (test : X → X → Bool) (xss : List (List X)) (i : ℕ) (d : List X) → i < length xss → each_two test (joined xss) ≡ true → each_two test (get_or xss i d) ≡ true
  two_at test xss i d within h =
      two_front test (get_or xss i d) (joined (drop (i + 1) xss)) (two_rear test (joined (take i xss)) (get_or xss i d ++ joined (drop (i + 1) xss)) (ap (each_two test) (sym (joined_at xss i d within)) ∙ h))

  -- a row more at the end of the last list
  pub joined_push : (xss : List (List X)) (i : ℕ) (d : List X) (x : X) → i + 1 ≡ length xss → joined (set xss i (get_or xss i d ++ x ∷ [])) ≡ joined xss ++ x ∷ []
  joined_push [] i d x h = absurd (omega (arith, h))
  joined_push (xs ∷ []) zero d x h = append-nil (xs ++ x ∷ []) ∙ ap (λ l. l ++ x ∷ []) (sym (append-nil xs))
  joined_push (xs ∷ (ys ∷ xss)) zero d x h = absurd (omega (arith, h))
  joined_push (xs ∷ xss) (suc i) d x h = ap (λ l. xs ++ l) (joined_push xss i d x (omega (arith, h))) ∙ sym (append_assoc xs (joined xss) (x ∷ []))
