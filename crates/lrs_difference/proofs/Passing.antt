-- What is written of entries that are passed one by one.
use Rattle.std.proofs.Common.{◌≡◌, ℕ, Bool, true, false, Option, Some, None, Result, Ok, Err, List, [], ◌∷◌, drop, refl, sym, ap, subst, ◌∙◌}
use Rattle.std.specs.Prelude.{OnOk, slice_get}
use Rattle.std.specs.Io.KnownBytes.{Appends}
use Rattle.lrs_report_lists.proofs.Writing.{Leads}
use Rattle.lrs_difference.proofs.Steps.{behind, behind_more, behind_none, front, front_more, front_none}

module _ {A : Type 0} where
  pub head_some : (xs : List A) (x : A) → slice_get xs 0 ≡ Some x → xs ≡ x ∷ drop 1 xs
  head_some [] x h = absurd cc
  head_some (y ∷ ys) x h = let same : y ≡ x = cc in ap (λ z. z ∷ ys) same

  pub head_none : (xs : List A) → slice_get xs 0 ≡ None → xs ≡ []
  head_none [] h = refl
  head_none (y ∷ ys) h = absurd cc

  pub front_at : (test : A → Bool) (xs : List A) (x : A) → slice_get xs 0 ≡ Some x → test x ≡ false → front test xs ≡ []
  front_at test xs x h f = ap (front test) (head_some xs x h) ∙ front_none test x (drop 1 xs) f

  pub behind_at : (test : A → Bool) (xs : List A) (x : A) → slice_get xs 0 ≡ Some x → test x ≡ false → behind test xs ≡ xs
  behind_at test xs x h f = ap (behind test) (head_some xs x h) ∙ behind_none test x (drop 1 xs) f ∙ sym (head_some xs x h)

  pub front_next : (test : A → Bool) (xs zs : List A) (x : A) → slice_get xs 0 ≡ Some x → test x ≡ true → zs ≡ drop 1 xs → front test xs ≡ x ∷ front test zs
  front_next test xs zs x h t e = ap (front test) (head_some xs x h) ∙ front_more test x (drop 1 xs) t ∙ ap (λ ws. x ∷ front test ws) (sym e)

  pub behind_next : (test : A → Bool) (xs zs : List A) (x : A) → slice_get xs 0 ≡ Some x → test x ≡ true → zs ≡ drop 1 xs → behind test xs ≡ behind test zs
  behind_next test xs zs x h t e = ap (behind test) (head_some xs x h) ∙ behind_more test x (drop 1 xs) t ∙ ap (behind test) (sym e)

-- what a last write gives
pub leads_last : {A E : Type 0} (r : Result A E) (a b c : Option (List ℕ)) (left one all : List ℕ) → Leads a b left all → left ≡ one → OnOk r (Appends b c one) → OnOk r (Appends a c all)
leads_last (Ok x) a b c left one all h e w = h c (subst (λ (t : List ℕ). Appends b c t) (sym e) w)
leads_last (Err x) a b c left one all h e w = tt
