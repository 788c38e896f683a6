-- What several writes append.
use Rattle.std.proofs.Common.{◌≡◌, ℕ, suc, ◌+◌, ◌<◌, ◌∙◌, Option, List, [], ◌∷◌, ◌++◌, map, length, take, get_or, append-nil, refl, sym, ap, subst, arith}
use Rattle.std.specs.Prelude.{OnOk, Result, Ok, Err}
use Rattle.std.specs.List.{flat_map, range_with_len}
use Rattle.std.proofs.lemmas.Grind.{flat_map-append}
use Rattle.std.proofs.lemmas.List.Folds.{flat_map-map}
use Rattle.std.proofs.lemmas.List.FromFn.{map-range_with_len_more}
use Rattle.std.specs.Io.KnownBytes.{Appends}
use Rattle.lrs_report.proofs.Writing.{appends_more, flat_map_next}

-- what a write appends, said otherwise
pub as_text : {A E : Type 0} (r : Result A E) (a b : Option (List ℕ)) (xs ys : List ℕ) → OnOk r (Appends a b xs) → xs ≡ ys → OnOk r (Appends a b ys)
as_text (Ok x) a b xs ys h e = subst (λ (t : List ℕ). Appends a b t) e h
as_text (Err x) a b xs ys h e = tt

-- the text of one more element behind those of the elements before it
pub appends_next : {A : Type 0} (text : A → List ℕ) (i : ℕ) (xs : List A) (x : A) (a b c : Option (List ℕ)) → i < length xs → x ≡ get_or xs i x
    → Appends a b (flat_map text (take i xs)) → Appends b c (text x) → Appends a c (flat_map text (take (i + 1) xs))
appends_next text i xs x a b c low is before one =
    let n : suc i ≡ i + 1 = omega arith in
    let next = flat_map_next text i xs x low is ∙ ap (λ k. flat_map text (take k xs)) n in
    subst (λ (t : List ℕ). Appends a c t) next (appends_more a b c (flat_map text (take i xs)) (text x) before one)

-- one number more
pub numbers_more : (text : ℕ → List ℕ) (n : ℕ) → flat_map text (range_with_len 0 (n + 1)) ≡ flat_map text (range_with_len 0 n) ++ text n
numbers_more text n =
    let same : ℕ → ℕ = λ (k : ℕ). k in
    sym (flat_map-map text same (range_with_len 0 (n + 1)))
    ∙ ap (flat_map text) (map-range_with_len_more same 0 n n (omega arith))
    ∙ flat_map-append text (map same (range_with_len 0 n)) (n ∷ [])
    ∙ ap (λ z. z ++ (text n ++ [])) (flat_map-map text same (range_with_len 0 n))
    ∙ ap (λ z. flat_map text (range_with_len 0 n) ++ z) (append-nil (text n))
