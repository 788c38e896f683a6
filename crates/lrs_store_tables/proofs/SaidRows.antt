-- What the rows of a table say, row by row.
use Rattle.std.proofs.Common.{◌≡◌, ℕ, ◌+◌, ◌<◌, ◌++◌, take, drop, get_or, suc, List, [], ◌∷◌, length, Option, Some, None, Bool, true, false, ◌&&◌, refl, sym, ap, ap₂, subst, ◌∙◌, arith}
use Rattle.std.proofs.Math.Seq.{take-suc, split_at}
use Rattle.std.specs.Prelude.{IsTrue}
use Rattle.std.proofs.Math.Bool.{Bool-set}
use Rattle.lrs_measure.specs.Limits.{is_link}
use Rattle.lrs_store_tables.specs.Contents.Tables.{LinkRow}
use Rattle.lrs_store_tables.specs.Contents.Decoders.{each_of, only_if, if_true, whole, link_of}
use Rattle.lrs_store_tables.specs.Contents.Decoders as option

module _ {Row X : Type 0} (said : Row → Option X) where
  abbrev each : List Row → Option (List X)
  each = each_of said

  -- the step of `each_of`
  abbrev pub one : Option X → Option (List X) → Option (List X)
  one None more = None
  one (Some x) None = None
  one (Some x) (Some xs) = Some (x ∷ xs)

  pub each-one : (r : Row) (rs : List Row) → each (r ∷ rs) ≡ one (said r) (each rs)
  each-one r rs = go (said r) (each rs)
    where
      go : (o : Option X) (more : Option (List X)) → Rattle.lrs_store_tables.specs.Contents.Decoders.◌>>=◌ o (λ x. Rattle.lrs_store_tables.specs.Contents.Decoders.◌>>=◌ more (λ xs. Some (x ∷ xs))) ≡ one o more
      go None more = refl
      go (Some x) None = refl
      go (Some x) (Some xs) = refl

module _ {Row X : Type 0} (said : Row → Option X) where
  one_push : (z : X) (o : Option X) (a b : Option (List X)) → (zs : List X) → one said o a ≡ Some zs → ((ys : List X) → a ≡ Some ys → b ≡ Some (ys ++ z ∷ [])) → one said o b ≡ Some (zs ++ z ∷ [])
  one_push z None a b zs e step = absurd (cc e)
  one_push z (Some y) None b zs e step = absurd (cc e)
  one_push z (Some y) (Some ys) b zs e step =
      let same : y ∷ ys ≡ zs = some_same e in
      rw (step ys refl) (ap (λ l. Some (l ++ z ∷ [])) same)
    where
      some_same : {A : Type 0} {a b : A} → ◌≡◌ {A = Option A} (Some a) (Some b) → a ≡ b
      some_same e = cc

  pub each_of-push : (xs : List Row) (x : Row) (z : X) (zs : List X) → each_of said xs ≡ Some zs → said x ≡ Some z → each_of said (xs ++ x ∷ []) ≡ Some (zs ++ z ∷ [])
  each_of-push [] x z [] e f = rw (each-one said x [], f) refl
  each_of-push [] x z (w ∷ ws) e f = absurd (cc e)
  each_of-push (y ∷ ys) x z zs e f =
      each-one said y (ys ++ x ∷ []) ∙ one_push z (said y) (each_of said ys) (each_of said (ys ++ x ∷ [])) zs (sym (each-one said y ys) ∙ e) (λ ws g. each_of-push ys x z ws g f)

  one_none : (o : Option X) → one said o None ≡ None
  one_none None = refl
  one_none (Some x) = refl

  pub each_of-fails : (xs : List Row) (x : Row) (ys : List Row) → said x ≡ None → each_of said (xs ++ x ∷ ys) ≡ None
  each_of-fails [] x ys f = each-one said x ys ∙ ap (λ o. one said o (each_of said ys)) f
  each_of-fails (w ∷ ws) x ys f = each-one said w (ws ++ x ∷ ys) ∙ ap (one said (said w)) (each_of-fails ws x ys f) ∙ one_none (said w)

  pub each_of-more : (xs : List Row) (i : ℕ) (d : Row) (z : X) (zs : List X) → i < length xs → each_of said (take i xs) ≡ Some zs → said (get_or xs i d) ≡ Some z → each_of said (take (i + 1) xs) ≡ Some (zs ++ z ∷ [])
  each_of-more xs i d z zs bound e f =
      let next : i + 1 ≡ suc i = omega arith in
      subst (λ n. each_of said (take n xs) ≡ Some (zs ++ z ∷ [])) (sym next) (subst (λ l. each_of said l ≡ Some (zs ++ z ∷ [])) (sym (take-suc xs i d bound)) (each_of-push (take i xs) (get_or xs i d) z zs e f))

  pub each_of-at : (xs : List Row) (i : ℕ) (d : Row) → i < length xs → said (get_or xs i d) ≡ None → each_of said xs ≡ None
  each_of-at xs i d bound f =
      subst (λ l. each_of said l ≡ None) (sym (split_at xs i d bound)) (each_of-fails (take i xs) (get_or xs i d) (drop (suc i) xs) f)

same_some : {A : Type 0} {a b : A} → ◌≡◌ {A = Option A} (Some a) (Some b) → a ≡ b
same_some e = cc

-- two things that are said where they pass a test each are said together where both pass
pub both_only : {A B X : Type 0} (p q : Bool) (a x : A) (b y : B) (make : A → B → X) → Some x ≡ only_if p a → Some y ≡ only_if q b → Some (make x y) ≡ only_if (p && q) (make a b)
both_only true true a x b y make e f = ap₂ (λ v w. Some (make v w)) (same_some e) (same_some f)
both_only true false a x b y make e f = absurd (cc f)
both_only false q a x b y make e f = absurd (cc e)

if_true_at : {A : Type 0} (b : Bool) (make : IsTrue b → A) (h : IsTrue b) → if_true b make ≡ Some (make h)
if_true_at true make h = ap (λ k. Some (make k)) (Bool-set true true refl h)
if_true_at false make h = absurd (cc h)

-- a link is said where both numbers are, and are within its limits
pub link_said : (r : LinkRow) (number length : ℕ) → Some number ≡ whole r.number → Some length ≡ whole r.length → (limits : IsTrue (is_link number length))
    → Some (record { number = number; length = length; limits = limits }) ≡ link_of r
link_said r number length e f limits =
    sym (if_true_at (is_link number length) (λ h. record { number = number; length = length; limits = h }) limits)
    ∙ ap₂ (λ n l. option.◌>>=◌ n (λ m. option.◌>>=◌ l (λ k. if_true (is_link m k) (λ h. record { number = m; length = k; limits = h })))) e f
