-- Counts of numbers that pass a test, over stretches of numbers.
use Rattle.std.proofs.Common.{◌≡◌, ℕ, zero, suc, ◌+◌, ◌-◌, ◌<◌, ◌≤◌, min, max, Bool, true, false, cond, ◌⊎◌, inl, inr, List, [], ◌∷◌, refl, sym, ap, ◌∙◌, arith, zero-add, sum_by}
use Rattle.std.specs.Prelude.{◌&&◌, ◌||◌, nat_lt, nat_le}
use Rattle.std.specs.List.{count_by, range_with_len}
use Rattle.std.proofs.lemmas.Bool.{cases_lt, lt-ltb, le-ltb, le-leb, lt-leb}
use Rattle.std.proofs.lemmas.List.Sums.{sum_by-cons}

-- how many of n numbers from a on pass
abbrev pub count : (ℕ → Bool) → ℕ → ℕ → ℕ
count p a n = count_by p (range_with_len a n)

pub count-suc : (p : ℕ → Bool) (a n : ℕ) → count p a (suc n) ≡ cond (p a) 1 0 + count p (a + 1) n
count-suc p a n = sum_by-cons (λ x. cond (p x) 1 0) a (range_with_len (a + 1) n)

-- tests that agree on the stretch
pub count-same : (p q : ℕ → Bool) (a n : ℕ) → ((x : ℕ) → a ≤ x → x < a + n → p x ≡ q x) → count p a n ≡ count q a n
count-same p q a zero h = refl
count-same p q a (suc n) h =
    count-suc p a n ∙ (λ i. cond (h a (omega arith) (omega arith) i) 1 0 + count-same p q (a + 1) n (λ x low high. h x (omega (arith, low)) (omega (arith, high))) i) ∙ sym (count-suc q a n)

-- ... everywhere
pub count-agree : (p q : ℕ → Bool) (a n : ℕ) → ((x : ℕ) → p x ≡ q x) → count p a n ≡ count q a n
count-agree p q a n h = λ i. count (λ x. h x i) a n

pub count-none : (a n : ℕ) → count (λ x. false) a n ≡ 0
count-none a zero = refl
count-none a (suc n) = count-suc (λ x. false) a n ∙ ap (λ k. 0 + k) (count-none (a + 1) n)

-- one stretch behind another
pub count-append : (p : ℕ → Bool) (a m n : ℕ) → count p a (m + n) ≡ count p a m + count p (a + m) n
count-append p a zero n =
    let e : zero + n ≡ n = omega arith in
    let f : a ≡ a + zero = omega arith in
    ap (count p a) e ∙ ap (λ k. count p k n) f ∙ sym (zero-add (count p (a + zero) n))
count-append p a (suc m) n =
    let e : suc m + n ≡ suc (m + n) = omega arith in
    let f : a + 1 + m ≡ a + suc m = omega arith in
    let whole = ap (count p a) e ∙ count-suc p a (m + n) in
    let rest = count-append p (a + 1) m n in
    let behind = ap (λ k. count p k n) f in
    let front = count-suc p a m in
    omega (arith, whole, rest, behind, front)

-- the same stretch, counted from elsewhere
pub count-shift : (p : ℕ → Bool) (a b n : ℕ) → count p (a + b) n ≡ count (λ j. p (a + j)) b n
count-shift p a b zero = refl
count-shift p a b (suc n) =
    let f : a + b + 1 ≡ a + (b + 1) = omega arith in
    count-suc p (a + b) n ∙ ap (λ k. cond (p (a + b)) 1 0 + count p k n) f ∙ ap (λ k. cond (p (a + b)) 1 0 + k) (count-shift p a (b + 1) n) ∙ sym (count-suc (λ j. p (a + j)) b n)

-- ---- sums over lists

pub sum-agree : {X : Type 0} (f g : X → ℕ) (xs : List X) → ((x : X) → f x ≡ g x) → sum_by f xs ≡ sum_by g xs
sum-agree f g xs h = λ i. sum_by (λ x. h x i) xs

pub sum-plus : {X : Type 0} (f g : X → ℕ) (xs : List X) → sum_by (λ x. f x + g x) xs ≡ sum_by f xs + sum_by g xs
sum-plus f g [] = refl
sum-plus f g (x ∷ xs) = omega (arith, sum_by-cons (λ x. f x + g x) x xs, sum_by-cons f x xs, sum_by-cons g x xs, sum-plus f g xs)

one-or-other : (b c : Bool) → (b ≡ true → c ≡ false) → cond (b || c) 1 0 ≡ cond b 1 0 + cond c 1 0
one-or-other true c h = ap (λ d. 1 + cond d 1 0) (sym (h refl))
one-or-other false c h = sym (zero-add (cond c 1 0))

-- what passes the one test or the other, and never both
pub counted-or : {X : Type 0} (p q : X → Bool) (xs : List X) → ((x : X) → p x ≡ true → q x ≡ false) → count_by (λ x. p x || q x) xs ≡ count_by p xs + count_by q xs
counted-or p q xs apart =
    sum-agree (λ x. cond (p x || q x) 1 0) (λ x. cond (p x) 1 0 + cond (q x) 1 0) xs (λ x. one-or-other (p x) (q x) (apart x))
    ∙ sum-plus (λ x. cond (p x) 1 0) (λ x. cond (q x) 1 0) xs

-- ... of a stretch
pub count-or : (p q : ℕ → Bool) (a n : ℕ) → ((x : ℕ) → p x ≡ true → q x ≡ false) → count (λ x. p x || q x) a n ≡ count p a n + count q a n
count-or p q a n apart = counted-or p q (range_with_len a n) apart

-- ---- a stretch of a stretch

abbrev pub is_between : ℕ → ℕ → ℕ → Bool
is_between a b x = nat_le a x && nat_lt x b

between_more : (a b c n : ℕ) → cond (is_between a b c) 1 0 + (min b (c + 1 + n) - max a (c + 1)) ≡ min b (c + suc n) - max a c
between_more a b c n = by (cases_lt c a) (cases_lt c b)
  where
    by : (c < a) ⊎ (a ≤ c) → (c < b) ⊎ (b ≤ c) → cond (is_between a b c) 1 0 + (min b (c + 1 + n) - max a (c + 1)) ≡ min b (c + suc n) - max a c
    by (inl l) k =
        (λ i. cond (lt-leb a c l i && nat_lt c b) 1 0 + (min b (c + 1 + n) - max a (c + 1))) ∙ omega (arith, l)
    by (inr l) (inl k) =
        (λ i. cond (le-leb a c l i && lt-ltb c b k i) 1 0 + (min b (c + 1 + n) - max a (c + 1))) ∙ omega (arith, l, k)
    by (inr l) (inr k) =
        (λ i. cond (le-leb a c l i && le-ltb c b k i) 1 0 + (min b (c + 1 + n) - max a (c + 1))) ∙ omega (arith, l, k)

pub count-between : (a b c n : ℕ) → count (is_between a b) c n ≡ min b (c + n) - max a c
count-between a b c zero = omega arith
count-between a b c (suc n) =
    count-suc (is_between a b) c n ∙ ap (λ k. cond (is_between a b c) 1 0 + k) (count-between a b (c + 1) n) ∙ between_more a b c n
