-- Totals add up: for each pair, what is held or gone is what was entered, and sums may be taken in either order.
use Rattle.std.proofs.Common.{◌≡◌, ℕ, zero, suc, ◌+◌, ◌<◌, ◌≤◌, Bool, true, false, cond, ◌⊎◌, List, [], ◌∷◌, length, refl, sym, ap, subst, ◌∙◌, inl, inr, sum_by, arith}
use Rattle.std.specs.List.{range_with_len, count_by}
use Rattle.std.proofs.lemmas.Bool.{both_ways, cases_Bool, false_from_ne_true, cases_order}
use Rattle.std.proofs.lemmas.List.Sums.{sum_by-cons}
use Rattle.lrs_events.specs.Places.{Place}
use Rattle.lrs_machine.specs.Totals.{total_of}
use Rattle.lrs_machine.specs.State.{State, Reason, Retired, Abandoned}
use Rattle.lrs_machine.specs.Readings.{all_places, assets_of, edits_of, total_gone}
use Rattle.lrs_machine.specs.Laws.{IsLawful, LawfulAddsUp}

-- sums of equal terms are equal
sum_by-same : {X : Type 0} (f g : X → ℕ) (xs : List X) → ((x : X) → f x ≡ g x) → sum_by f xs ≡ sum_by g xs
sum_by-same {X = X} f g xs same = ap (λ (h : X → ℕ). sum_by h xs) (λ i x. same x i)

sum_by-plus : {X : Type 0} (f g : X → ℕ) (xs : List X) → sum_by (λ x. f x + g x) xs ≡ sum_by f xs + sum_by g xs
sum_by-plus f g [] = refl
sum_by-plus f g (x ∷ xs) = omega (arith, sum_by-cons (λ x. f x + g x) x xs, sum_by-cons f x xs, sum_by-cons g x xs, sum_by-plus f g xs)

sum_by-none : {X : Type 0} (xs : List X) → sum_by (λ x. 0) xs ≡ 0
sum_by-none [] = refl
sum_by-none (x ∷ xs) = sum_by-none xs

-- A sum of sums may be taken in either order.
exchange : {X Y : Type 0} (f : X → Y → ℕ) (xs : List X) (ys : List Y) → sum_by (λ x. sum_by (f x) ys) xs ≡ sum_by (λ y. sum_by (λ x. f x y) xs) ys
exchange f [] ys = sym (sum_by-none ys)
exchange f (x ∷ xs) ys =
    sum_by-cons (λ x. sum_by (f x) ys) x xs ∙ ap (λ n. sum_by (f x) ys + n) (exchange f xs ys) ∙ sym (sum_by-plus (f x) (λ y. sum_by (λ x. f x y) xs) ys)
    ∙ sum_by-same _ _ ys (λ y. sym (sum_by-cons (λ x. f x y) x xs))

-- the sum of what each asset and place has
abbrev over : (ℕ → Place → ℕ) → List ℕ → List Place → ℕ
over f assets places = sum_by (λ a. sum_by (f a) places) assets

over-plus : (f g : ℕ → Place → ℕ) (assets : List ℕ) (places : List Place) → over (λ a p. f a p + g a p) assets places ≡ over f assets places + over g assets places
over-plus f g assets places = sum_by-same _ _ assets (λ a. sum_by-plus (f a) (g a) places) ∙ sum_by-plus (λ a. sum_by (f a) places) (λ a. sum_by (g a) places) assets

over-same : (f g : ℕ → Place → ℕ) (assets : List ℕ) (places : List Place) → ((a : ℕ) (p : Place) → f a p ≡ g a p) → over f assets places ≡ over g assets places
over-same f g assets places same = ap (λ (h : ℕ → Place → ℕ). over h assets places) (λ i a p. same a p i)

-- the edits' totals, edit by edit, are for each asset and place how many edits have the pair
by_pairs : (set : ℕ → ℕ → Place → Bool) (edits assets : List ℕ) (places : List Place)
    → sum_by (λ n. total_of assets places (set n)) edits ≡ over (λ a p. count_by (λ n. set n a p) edits) assets places
by_pairs set edits assets places =
    exchange (λ n a. count_by (set n a) places) edits assets ∙ sum_by-same _ _ assets (λ a. exchange (λ n p. cond (set n a p) 1 0) edits places)

-- a test that no number of a range passes is passed by none of them
count-none : (f : ℕ → Bool) (a n : ℕ) → ((m : ℕ) → a ≤ m → m < a + n → f m ≡ false) → count_by f (range_with_len a n) ≡ 0
count-none f a zero none = refl
count-none f a (suc n) none =
    let first : f a ≡ false = none a (omega arith) (omega arith) in
    let rest : count_by f (range_with_len (a + 1) n) ≡ 0 = count-none f (a + 1) n (λ m low high. none m (omega arith) (omega arith)) in
    sum_by-cons (λ x. cond (f x) 1 0) a (range_with_len (a + 1) n) ∙ ap (λ b. cond b 1 0 + count_by f (range_with_len (a + 1) n)) first ∙ rw rest refl

-- a test that one number of a range passes, and no other number, is passed once
pub count-one : (f : ℕ → Bool) (a n m : ℕ) → a ≤ m → m < a + n → f m ≡ true → ((k : ℕ) → f k ≡ true → k ≡ m) → count_by f (range_with_len a n) ≡ 1
count-one f a zero m low high is only = absurd (omega arith)
count-one f a (suc n) m low high is only = by (cases_order a m) (count-one f (a + 1) n m)
  where
    split : count_by f (range_with_len a (suc n)) ≡ cond (f a) 1 0 + count_by f (range_with_len (a + 1) n)
    split = sum_by-cons (λ x. cond (f x) 1 0) a (range_with_len (a + 1) n)

    sums : (b : Bool) (k : ℕ) → f a ≡ b → count_by f (range_with_len (a + 1) n) ≡ k → count_by f (range_with_len a (suc n)) ≡ cond b 1 0 + k
    sums b k e c = split ∙ ap (λ x. cond x 1 0 + count_by f (range_with_len (a + 1) n)) e ∙ ap (λ x. cond b 1 0 + x) c

    by : (a ≡ m) ⊎ ((a < m) ⊎ (m < a)) → (a + 1 ≤ m → m < (a + 1) + n → f m ≡ true → ((k : ℕ) → f k ≡ true → k ≡ m) → count_by f (range_with_len (a + 1) n) ≡ 1)
        → count_by f (range_with_len a (suc n)) ≡ 1
    by (inl here) rest = sums true 0 (subst (λ k. f k ≡ true) (sym here) is)
        (count-none f (a + 1) n (λ k l h. false_from_ne_true (f k) (λ t. let e : k ≡ m = only k t in omega arith)))
    by (inr (inl later)) rest = sums false 1 (false_from_ne_true (f a) (λ t. let e : a ≡ m = only a t in omega arith)) (rest (omega arith) (omega arith) is only)
    by (inr (inr less)) rest = absurd (omega arith)

-- some number of a range passes a test, or none does
look : (f : ℕ → Bool) (a n : ℕ) → ((m : ℕ) × (f m ≡ true)) ⊎ ((m : ℕ) → a ≤ m → m < a + n → f m ≡ false)
look f a zero = inr (λ m low high. absurd (omega arith))
look f a (suc n) = by (cases_Bool (f a)) (look f (a + 1) n)
  where
    by : (f a ≡ true) ⊎ (f a ≡ false) → ((m : ℕ) × (f m ≡ true)) ⊎ ((m : ℕ) → a + 1 ≤ m → m < (a + 1) + n → f m ≡ false)
        → ((m : ℕ) × (f m ≡ true)) ⊎ ((m : ℕ) → a ≤ m → m < a + suc n → f m ≡ false)
    by (inl is) later = inl (a, is)
    by (inr fails) (inl found) = inl found
    by (inr fails) (inr none) = inr (λ m low high. at m low high (cases_order a m))
      where
        at : (m : ℕ) → a ≤ m → m < a + suc n → (a ≡ m) ⊎ ((a < m) ⊎ (m < a)) → f m ≡ false
        at m low high (inl here) = subst (λ k. f k ≡ false) here fails
        at m low high (inr (inl later)) = none m (omega arith) (omega arith)
        at m low high (inr (inr less)) = absurd (omega arith)

-- what the laws say of one asset and place, where the edits are up to len
record IsBalancedAt (len : ℕ) (held : Bool) (gone : Reason → ℕ → Bool) (entered : ℕ → Bool) : Type 0 where
  pub entered_once : (m n : ℕ) → entered m ≡ true → entered n ≡ true → m ≡ n
  pub gone_once : (m n : ℕ) (why because : Reason) → gone why m ≡ true → gone because n ≡ true → (m ≡ n) × (why ≡ because)
  pub gone_entered : (n : ℕ) (why : Reason) → gone why n ≡ true → (m : ℕ) × (entered m ≡ true)
  pub held_entered : held ≡ true → (m : ℕ) × (entered m ≡ true)
  pub held_or_gone : (m : ℕ) → entered m ≡ true → (held ≡ true) ⊎ ((n : ℕ) × (why : Reason) × (gone why n ≡ true))
  pub held_not_gone : (n : ℕ) (why : Reason) → held ≡ true → gone why n ≡ true → ⊥
  pub entered_done : (m : ℕ) → entered m ≡ true → (1 ≤ m) × (m ≤ len)
  pub gone_done : (m : ℕ) (why : Reason) → gone why m ≡ true → (1 ≤ m) × (m ≤ len)

module _ (len : ℕ) (held : Bool) (gone : Reason → ℕ → Bool) (entered : ℕ → Bool) (h : IsBalancedAt len held gone entered) where
  abbrev edits : List ℕ
  edits = range_with_len 1 len

  -- the pair is held once or gone once, in one way
  abbrev Adds : ℕ → Type 0
  Adds n = cond held 1 0 + count_by (gone Retired) edits + count_by (gone Abandoned) edits ≡ n

  adds : (n : ℕ) (b : Bool) (r a : ℕ) → held ≡ b → count_by (gone Retired) edits ≡ r → count_by (gone Abandoned) edits ≡ a → cond b 1 0 + r + a ≡ n → Adds n
  adds n b r a e f g is = (λ i. cond (e i) 1 0 + f i + g i) ∙ is

  no_edit : (f : ℕ → Bool) → ((m : ℕ) → f m ≡ true → ⊥) → count_by f edits ≡ 0
  no_edit f none = count-none f 1 len (λ m low high. false_from_ne_true (f m) (none m))

  one_edit : (f : ℕ → Bool) (m : ℕ) → f m ≡ true → (1 ≤ m) × (m ≤ len) → ((k : ℕ) → f k ≡ true → k ≡ m) → count_by f edits ≡ 1
  one_edit f m is range only = let low : 1 ≤ m = range.0 in let high : m ≤ len = range.1 in count-one f 1 len m low (omega arith) is only

  other_reason : (m n : ℕ) (why because : Reason) → (why ≡ because → ⊥) → gone why m ≡ true → gone because n ≡ true → ⊥
  other_reason m n why because apart g j = apart (h.gone_once m n why because g j).1

  gone_adds : (n : ℕ) (why : Reason) → gone why n ≡ true → held ≡ false → Adds 1
  gone_adds n Retired g left = adds 1 false 1 0 left (one_edit (gone Retired) n g (h.gone_done n Retired g) (λ k j. (h.gone_once k n Retired Retired j g).0))
      (no_edit (gone Abandoned) (λ k j. other_reason n k Retired Abandoned (λ e. cc) g j)) refl
  gone_adds n Abandoned g left = adds 1 false 0 1 left (no_edit (gone Retired) (λ k j. other_reason n k Abandoned Retired (λ e. cc) g j))
      (one_edit (gone Abandoned) n g (h.gone_done n Abandoned g) (λ k j. (h.gone_once k n Abandoned Abandoned j g).0)) refl

  entered_adds : (held ≡ true) ⊎ ((n : ℕ) × (why : Reason) × (gone why n ≡ true)) → Adds 1
  entered_adds (inl is) = adds 1 true 0 0 is (no_edit (gone Retired) (λ m. h.held_not_gone m Retired is)) (no_edit (gone Abandoned) (λ m. h.held_not_gone m Abandoned is)) refl
  entered_adds (inr g) = gone_adds g.0 g.1 g.2 (false_from_ne_true held (λ is. h.held_not_gone g.0 g.1 is g.2))

  none_adds : ((m : ℕ) → entered m ≡ true → ⊥) → Adds 0
  none_adds none = adds 0 false 0 0 (false_from_ne_true held (λ is. let e = h.held_entered is in none e.0 e.1))
      (no_edit (gone Retired) (λ m g. never m Retired g)) (no_edit (gone Abandoned) (λ m g. never m Abandoned g)) refl
    where
      never : (m : ℕ) (why : Reason) → gone why m ≡ true → ⊥
      never m why g = let e = h.gone_entered m why g in none e.0 e.1

  -- what is held or gone of a pair is what was entered
  adds_up_at : Adds (count_by entered edits)
  adds_up_at = by (look entered 1 len)
    where
      by : ((m : ℕ) × (entered m ≡ true)) ⊎ ((m : ℕ) → 1 ≤ m → m < 1 + len → entered m ≡ false) → Adds (count_by entered edits)
      by (inl found) = entered_adds (h.held_or_gone found.0 found.1)
          ∙ sym (one_edit entered found.0 found.1 (h.entered_done found.0 found.1) (λ k e. h.entered_once k found.0 e found.1))
      by (inr none) = none_adds (λ m e. let range = h.entered_done m e in let high : m ≤ len = range.1 in both_ways (entered m) (none m range.0 (omega arith)) e)
          ∙ sym (count-none entered 1 len none)

at : (s : State) → IsLawful s → (a : ℕ) (p : Place) → IsBalancedAt (length s.done) (s.holds a p) (λ why n. s.gone n why a p) (λ n. s.entered n a p)
at s h a p = record {
  entered_once = λ m n. h.balanced.entered_once m n a p;
  gone_once = λ m n why because. h.balanced.gone_once m n a why because p;
  gone_entered = λ n why. h.balanced.gone_entered n a why p;
  held_entered = h.balanced.held_entered a p;
  held_or_gone = λ m. h.balanced.held_or_gone m a p;
  held_not_gone = λ n why. h.balanced.held_not_gone n a why p;
  entered_done = λ m. h.named.entered_done m a p;
  gone_done = λ m why. h.named.gone_done m a why p;
}

pub totals_add_up : LawfulAddsUp
totals_add_up s h class =
    let held : ℕ → Place → ℕ = λ a p. cond (s.holds a p) 1 0 in
    let retired : ℕ → Place → ℕ = λ a p. count_by (λ n. s.gone n Retired a p) (edits_of s) in
    let abandoned : ℕ → Place → ℕ = λ a p. count_by (λ n. s.gone n Abandoned a p) (edits_of s) in
    let assets = assets_of class s in
    let places = all_places s in
    ap (λ n. over held assets places + n + total_gone Abandoned class s) (by_pairs (λ n. s.gone n Retired) (edits_of s) assets places)
    ∙ ap (λ n. over held assets places + over retired assets places + n) (by_pairs (λ n. s.gone n Abandoned) (edits_of s) assets places)
    ∙ ap (λ n. n + over abandoned assets places) (sym (over-plus held retired assets places))
    ∙ sym (over-plus (λ a p. held a p + retired a p) abandoned assets places)
    ∙ over-same _ _ assets places (λ a p. adds_up_at (length s.done) _ _ _ (at s h a p))
    ∙ sym (by_pairs s.entered (edits_of s) assets places)
