-- Loops that push what passes, or a list for each element.
use Rattle.std.proofs.Common.{◌≡◌, ℕ, ◌+◌, ◌<◌, Bool, true, false, cond, List, [], ◌∷◌, ◌++◌, length, get_or, take, refl, sym, ap, ◌∙◌}
use Rattle.std.specs.Prelude.{◌&&◌}
use Rattle.std.specs.List.{filter, flat_map}
use Rattle.std.proofs.lemmas.List.{append-nil, take_more, flat_map_more}
use Rattle.std.proofs.lemmas.List.Elements.{filter_more}

-- what is pushed where a test passes, and where it fails
pub pushed : {A : Type 0} (b : Bool) (out new more : List A) → b ≡ true → new ≡ out ++ more → new ≡ out ++ cond b more []
pushed b out new more t e = e ∙ ap (λ z. out ++ cond z more []) (sym t)

pub not_pushed : {A : Type 0} (b : Bool) (out new more : List A) → b ≡ false → new ≡ out → new ≡ out ++ cond b more []
not_pushed b out new more f e = e ∙ sym (append-nil out) ∙ ap (λ z. out ++ cond z more []) (sym f)

pub second_fails : (a b : Bool) → b ≡ false → (a && b) ≡ false
second_fails true b f = f
second_fails false b f = refl

-- one more element
pub filtered_more : {X : Type 0} (test : X → Bool) (xs : List X) (i : ℕ) (x : X) (out new : List X) → i < length xs → x ≡ get_or xs i x → out ≡ filter test (take i xs)
    → new ≡ out ++ cond (test x) (x ∷ []) [] → new ≡ filter test (take (i + 1) xs)
filtered_more test xs i x out new h is k e =
    e ∙ ap (λ z. z ++ cond (test x) (x ∷ []) []) k ∙ ap (λ z. filter test (take i xs) ++ cond (test z) (z ∷ []) []) is ∙ sym (filter_more test xs i x h)

pub mapped_more : {X A : Type 0} (f : X → List A) (xs : List X) (i : ℕ) (x : X) (out new : List A) → i < length xs → x ≡ get_or xs i x → out ≡ flat_map f (take i xs) → new ≡ out ++ f x
    → new ≡ flat_map f (take (i + 1) xs)
mapped_more f xs i x out new h is k e =
    e ∙ ap (λ z. z ++ f x) k ∙ flat_map_more f [] (take i xs) x ∙ ap (λ z. flat_map f (take i xs ++ z ∷ [])) is ∙ ap (flat_map f) (sym (take_more xs i x h))
