-- What several pushes leave, one behind the other.
use Rattle.std.proofs.Common.{◌≡◌, ℕ, zero, suc, ◌+◌, ◌<◌, List, [], ◌∷◌, ◌++◌, length, take, get_or, append_assoc, append-nil, refl, sym, ap, ◌∙◌, arith}
use Rattle.std.specs.List.{flat_map}

next_front : {A B : Type 0} (f : A → List B) (i : ℕ) (xs : List A) (x : A) → i < length xs → x ≡ get_or xs i x → flat_map f (take i xs) ++ f x ≡ flat_map f (take (suc i) xs)
next_front f zero [] x h e = absurd (omega (arith, h))
next_front f zero (y ∷ ys) x h e = ap f e ∙ sym (append-nil (f y))
next_front f (suc i) [] x h e = absurd (omega (arith, h))
next_front f (suc i) (y ∷ ys) x h e = append_assoc (f y) (flat_map f (take i ys)) (f x) ∙ ap (λ z. f y ++ z) (next_front f i ys x (omega (arith, h)) e)

-- a loop over a slice: one element more
pub pushed_next : {A B : Type 0} (f : A → List B) (i : ℕ) (xs : List A) (x : A) (a b c : List B) → i < length xs → x ≡ get_or xs i x
    → b ≡ a ++ flat_map f (take i xs) → c ≡ b ++ f x → c ≡ a ++ flat_map f (take (i + 1) xs)
pushed_next f i xs x a b c low is before one =
    let n : suc i ≡ i + 1 = omega arith in
    one ∙ ap (λ z. z ++ f x) before ∙ append_assoc a (flat_map f (take i xs)) (f x) ∙ ap (λ z. a ++ z) (next_front f i xs x low is) ∙ ap (λ k. a ++ flat_map f (take k xs)) n

pub nothing_left : {A : Type 0} (xs : List A) → length xs ≡ 0 → xs ≡ []
nothing_left [] h = refl
nothing_left (x ∷ xs) h = absurd (omega (arith, h))
