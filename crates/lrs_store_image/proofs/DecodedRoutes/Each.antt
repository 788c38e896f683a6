-- What each of the rows says, one row after the other.
use Rattle.std.proofs.Common.{◌≡◌, ℕ, ◌+◌, ◌<◌, ◌++◌, take, drop, get_or, suc, append_assoc, List, [], ◌∷◌, length, Option, Some, None, refl, sym, ap, subst, ◌∙◌, arith}
use Rattle.std.proofs.Math.Seq.{take-suc, split_at}
use Rattle.lrs_store_tables.specs.Contents.Decoders.{each_of}
use Rattle.lrs_store_tables.specs.Contents.Decoders as option

module _ {Row X : Type 0} (said : Row → Option X) where
  -- the step of `each_of`
  abbrev pub one : Option X → Option (List X) → Option (List X)
  one None more = None
  one (Some x) None = None
  one (Some x) (Some xs) = Some (x ∷ xs)

  pub each-one : (r : Row) (rs : List Row) → each_of said (r ∷ rs) ≡ one (said r) (each_of said rs)
  each-one r rs = go (said r) (each_of said rs)
    where
      go : (o : Option X) (more : Option (List X)) → option.◌>>=◌ o (λ x. option.◌>>=◌ more (λ xs. Some (x ∷ xs))) ≡ one o more
      go None more = refl
      go (Some x) None = refl
      go (Some x) (Some xs) = refl

module _ {Row X : Type 0} (said : Row → Option X) where
  one_push : (z : X) (o : Option X) (a b : Option (List X)) → (zs : List X) → one said o a ≡ Some zs → ((ys : List X) → a ≡ Some ys → b ≡ Some (ys ++ z ∷ [])) → one said o b ≡ Some (zs ++ z ∷ [])
  one_push z None a b zs e step = absurd (cc e)
  one_push z (Some y) None b zs e step = absurd (cc e)
  one_push z (Some y) (Some ys) b zs e step =
      let same : y ∷ ys ≡ zs = some_same e in
      rw (step ys refl) (ap (λ l. Some (l ++ z ∷ [])) same)
    where
      some_same : {A : Type 0} {a b : A} → ◌≡◌ {A = Option A} (Some a) (Some b) → a ≡ b
      some_same e = cc

  pub each_of-push : (xs : List Row) (x : Row) (z : X) (zs : List X) → each_of said xs ≡ Some zs → said x ≡ Some z → each_of said (xs ++ x ∷ []) ≡ Some (zs ++ z ∷ [])
  each_of-push [] x z [] e f = rw (each-one said x [], f) refl
  each_of-push [] x z (w ∷ ws) e f = absurd (cc e)
  each_of-push (y ∷ ys) x z zs e f =
      each-one said y (ys ++ x ∷ []) ∙ one_push z (said y) (each_of said ys) (each_of said (ys ++ x ∷ [])) zs (sym (each-one said y ys) ∙ e) (λ ws g. each_of-push ys x z ws g f)

  one_none : (o : Option X) → one said o None ≡ None
  one_none None = refl
  one_none (Some x) = refl

  pub each_of-fails : (xs : List Row) (x : Row) (ys : List Row) → said x ≡ None → each_of said (xs ++ x ∷ ys) ≡ None
  each_of-fails [] x ys f = each-one said x ys ∙ ap (λ o. one said o (each_of said ys)) f
  each_of-fails (w ∷ ws) x ys f = each-one said w (ws ++ x ∷ ys) ∙ ap (one said (said w)) (each_of-fails ws x ys f) ∙ one_none (said w)

  pub each_of-more : (xs : List Row) (i : ℕ) (d : Row) (z : X) (zs : List X) → i < length xs → each_of said (take i xs) ≡ Some zs → said (get_or xs i d) ≡ Some z → each_of said (take (i + 1) xs) ≡ Some (zs ++ z ∷ [])
  each_of-more xs i d z zs bound e f =
      let next : i + 1 ≡ suc i = omega arith in
      subst (λ n. each_of said (take n xs) ≡ Some (zs ++ z ∷ [])) (sym next) (subst (λ l. each_of said l ≡ Some (zs ++ z ∷ [])) (sym (take-suc xs i d bound)) (each_of-push (take i xs) (get_or xs i d) z zs e f))

  pub each_of-at : (xs : List Row) (i : ℕ) (d : Row) → i < length xs → said (get_or xs i d) ≡ None → each_of said xs ≡ None
  each_of-at xs i d bound f =
      subst (λ l. each_of said l ≡ None) (sym (split_at xs i d bound)) (each_of-fails (take i xs) (get_or xs i d) (drop (suc i) xs) f)

-- ---- what those say that are left, behind what others said

abbrev pub and_then : {X : Type 0} → List X → Option (List X) → Option (List X)
and_then xs None = None
and_then xs (Some ys) = Some (xs ++ ys)

module _ {Row X : Type 0} (said : Row → Option X) where
  pub left_more : (zs : List X) (r : Row) (rs : List Row) (z : X) → said r ≡ Some z → and_then zs (each_of said (r ∷ rs)) ≡ and_then (zs ++ z ∷ []) (each_of said rs)
  left_more zs r rs z e = ap (and_then zs) (each-one said r rs ∙ ap (λ o. one said o (each_of said rs)) e) ∙ go (each_of said rs)
    where
      go : (o : Option (List X)) → and_then zs (one said (Some z) o) ≡ and_then (zs ++ z ∷ []) o
      go None = refl
      go (Some xs) = ap Some (sym (append_assoc zs (z ∷ []) xs))

  pub left_fails : (zs : List X) (r : Row) (rs : List Row) → said r ≡ None → and_then zs (each_of said (r ∷ rs)) ≡ None
  left_fails zs r rs e = ap (and_then zs) (each-one said r rs ∙ ap (λ o. one said o (each_of said rs)) e)
