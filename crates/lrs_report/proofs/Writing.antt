-- What several writes append.
use Rattle.std.proofs.Common.{◌≡◌, ℕ, zero, suc, ◌<◌, Option, Some, None, List, [], ◌∷◌, ◌++◌, length, take, get_or, append_assoc, append-nil, sym, ap, subst, ◌∙◌, arith}
use Rattle.std.specs.Prelude.{OnOk, Result, Ok, Err}
use Rattle.std.specs.List.{flat_map}
use Rattle.std.specs.Io.KnownBytes.{Appends}

-- one write after another
pub appends_more : (a b c : Option (List ℕ)) (xs ys : List ℕ) → Appends a b xs → Appends b c ys → Appends a c (xs ++ ys)
appends_more None b c xs ys h k = tt
appends_more (Some u) None c xs ys h k = absurd h
appends_more (Some u) (Some v) None xs ys h k = absurd k
appends_more (Some u) (Some v) (Some w) xs ys h k = k ∙ ap (λ z. z ++ ys) h ∙ append_assoc u xs ys

-- what a last write appends behind others, where it succeeds
pub appends_last : {A E : Type 0} (r : Result A E) (a b c : Option (List ℕ)) (xs ys zs : List ℕ) → Appends a b xs → OnOk r (Appends b c ys) → xs ++ ys ≡ zs → OnOk r (Appends a c zs)
appends_last (Ok x) a b c xs ys zs h k e = subst (Appends a c) e (appends_more a b c xs ys h k)
appends_last (Err x) a b c xs ys zs h k e = tt

-- what one more element adds
pub flat_map_next : {A : Type 0} (f : A → List ℕ) (i : ℕ) (xs : List A) (x : A) → i < length xs → x ≡ get_or xs i x → flat_map f (take i xs) ++ f x ≡ flat_map f (take (suc i) xs)
flat_map_next f zero [] x h e = absurd (omega (arith, h))
flat_map_next f zero (y ∷ ys) x h e = ap f e ∙ sym (append-nil (f y))
flat_map_next f (suc i) [] x h e = absurd (omega (arith, h))
flat_map_next f (suc i) (y ∷ ys) x h e = append_assoc (f y) (flat_map f (take i ys)) (f x) ∙ ap (λ z. f y ++ z) (flat_map_next f i ys x (omega (arith, h)) e)
