-- Lists that are compared row by row.
use Rattle.std.proofs.Common.{◌≡◌, ◌↔◌, ℕ, zero, suc, List, [], ◌∷◌, length, take, get_or, map, refl, sym, ap, subst, ◌∙◌, ◌+◌, ◌<◌, arith}
use Rattle.lrs_sheet_log.specs.Differences.{AreEach}

module _ {X : Type 0} (same : X → X → Type 0) where
  one-more-by : (xs ys : List X) (i : ℕ) (x y : X) → i < length xs → i < length ys → x ≡ get_or xs i x → y ≡ get_or ys i y → same x y → AreEach same (take i xs) (take i ys) → AreEach same (take (suc i) xs) (take (suc i) ys)
  one-more-by [] ys i x y low least a b s h = absurd (omega (arith, low))
  one-more-by (u ∷ xs) [] i x y low least a b s h = absurd (omega (arith, least))
  one-more-by (u ∷ xs) (v ∷ ys) zero x y low least a b s h = (subst (λ (t : X). same t v) a (subst (λ (t : X). same x t) b s), tt)
  one-more-by (u ∷ xs) (v ∷ ys) (suc i) x y low least a b s h = (h.0, one-more-by xs ys i x y (omega (arith, low)) (omega (arith, least)) a b s h.1)

  -- one pair more
  pub one-more : (xs ys : List X) (i : ℕ) (x y : X) → i < length xs → i < length ys → x ≡ get_or xs i x → y ≡ get_or ys i y → same x y → AreEach same (take i xs) (take i ys) → AreEach same (take (i + 1) xs) (take (i + 1) ys)
  one-more xs ys i x y low least a b s h =
      let n : suc i ≡ i + 1 = omega arith in
      subst (λ (k : ℕ). AreEach same (take k xs) (take k ys)) n (one-more-by xs ys i x y low least a b s h)

each-itself : {X : Type 0} (xs : List X) → AreEach (λ a b. a ≡ b) xs xs
each-itself [] = tt
each-itself (x ∷ xs) = (refl, each-itself xs)

each-one : {X : Type 0} (xs ys : List X) → AreEach (λ a b. a ≡ b) xs ys → xs ≡ ys
each-one [] [] h = refl
each-one [] (y ∷ ys) h = absurd h
each-one (x ∷ xs) [] h = absurd h
each-one (x ∷ xs) (y ∷ ys) h = let others = each-one xs ys h.1 in λ i. h.0 i ∷ others i

-- equal rows make equal lists
pub each-equal : {X : Type 0} (P : Type 0) (xs ys : List X) → P ↔ AreEach (λ a b. a ≡ b) xs ys → P ↔ (xs ≡ ys)
each-equal {X} P xs ys p = (λ q. each-one xs ys (p.0 q), λ e. p.1 (subst (λ (t : List X). AreEach (λ a b. a ≡ b) xs t) e (each-itself xs)))

map-one : {X Y : Type 0} (f : X → Y) (xs ys : List X) → AreEach (λ a b. f a ≡ f b) xs ys → map f xs ≡ map f ys
map-one f [] [] h = refl
map-one f [] (y ∷ ys) h = absurd h
map-one f (x ∷ xs) [] h = absurd h
map-one f (x ∷ xs) (y ∷ ys) h = let others = map-one f xs ys h.1 in λ i. h.0 i ∷ others i

map-each : {X Y : Type 0} (f : X → Y) (xs ys : List X) → map f xs ≡ map f ys → AreEach (λ a b. f a ≡ f b) xs ys
map-each f [] [] e = tt
map-each f [] (y ∷ ys) e = absurd (let n : 0 ≡ length (map f (y ∷ ys)) = ap length e in omega (arith, n))
map-each f (x ∷ xs) [] e = absurd (let n : length (map f (x ∷ xs)) ≡ 0 = ap length e in omega (arith, n))
map-each f (x ∷ xs) (y ∷ ys) e =
    let first : f x ≡ f y = cc in
    let others : map f xs ≡ map f ys = cc in
    (first, map-each f xs ys others)

-- and rows that show equal things make lists of these
pub each-shown : {X Y : Type 0} (f : X → Y) (P : Type 0) (xs ys : List X) → P ↔ AreEach (λ a b. f a ≡ f b) xs ys → P ↔ (map f xs ≡ map f ys)
each-shown f P xs ys p = (λ q. map-one f xs ys (p.0 q), λ e. p.1 (map-each f xs ys e))

-- lists are the same where their rows are
pub lists-same : {X : Type 0} (P : Type 0) (xs ys us vs : List X) → xs ≡ us → ys ≡ vs → P ↔ AreEach (λ a b. a ≡ b) xs ys → P ↔ (us ≡ vs)
lists-same P xs ys us vs a b h = let same = each-equal P xs ys h in (λ p. sym a ∙ same.0 p ∙ b, λ e. same.1 (a ∙ e ∙ sym b))

-- pairs with one first part are the same where the second ones are
pub row-same : {X Y : Type 0} (Q : Type 0) (a b : X) (u v : Y) → a ≡ b → Q ↔ (u ≡ v) → Q ↔ ((let one : X × Y = (a, u) in one) ≡ (b, v))
row-same {X} {Y} Q a b u v e q = (λ h. let second = q.0 h in λ i. (e i, second i), λ w. q.1 (ap (λ (x : X × Y). x.1) w))
