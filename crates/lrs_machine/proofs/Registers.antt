-- What a register gives after a row is put, and what a search of its rows says of what it gives.
use Rattle.std.proofs.Common.{◌≡◌, Bool, true, false, cond, ◌⊎◌, List, [], ◌∷◌, Option, Some, None, refl, sym, ap, subst, ◌∙◌, inl, inr}
use Rattle.std.specs.Prelude.{is_some}
use Rattle.std.specs.List as list
use Rattle.std.specs.declared.cmp.Ordering.{Ordering}
use Rattle.std.specs.declared.cmp.Ordering.TheVariants.{Less, Equal, Greater}
use Rattle.std.specs.Ordering.{eq_by_cmp}
use Rattle.std.specs.Cmp.{IsTotalOrder, Equal-is, tied_itself}
use Rattle.std.specs.FinMap.{find, IsAntisymmetric}
use Rattle.std.proofs.lemmas.Bool.{false≢true}
use Rattle.lrs_machine.specs.Register.{Register, by_order, put, get, insert, contains_key}

-- two tests that are not both true may be asked in either order
choose : {A : Type 0} (b c : Bool) (x y z : A) → (b ≡ true → c ≡ true → ⊥) → cond c y (cond b x z) ≡ cond b x (cond c y z)
choose true true x y z apart = absurd (apart refl refl)
choose true false x y z apart = refl
choose false true x y z apart = refl
choose false false x y z apart = refl

-- the second answer to one test is not seen
shadowed : {A : Type 0} (b : Bool) (x y z : A) → cond b x z ≡ cond b x (cond b y z)
shadowed true x y z = refl
shadowed false x y z = refl

pub same_key : {K : Type 0} {R : K → K → Ordering} → IsAntisymmetric R → (q k : K) → eq_by_cmp R q k ≡ true → q ≡ k
same_key exact q k h = exact q k ((Equal-is _).0 h)

module _ {K X : Type 0} {R : K → K → Ordering} (total : IsTotalOrder R) (exact : IsAntisymmetric R) where
  -- A row that is put is found at its key, and the others as before.
  pub find-put : (q k : K) (v : X) (rows : List (K × X)) → find R q (put R k v rows) ≡ cond (eq_by_cmp R q k) (Some v) (find R q rows)
  find-put q k v [] = refl
  find-put q k v (e ∷ rows) =
      elim (R k e.0) as (λ o. R k e.0 ≡ o → find R q (by_order o ((k, v) ∷ e ∷ rows) ((e.0, v) ∷ rows) (e ∷ put R k v rows)) ≡ cond (eq_by_cmp R q k) (Some v) (find R q (e ∷ rows))) [
        | Less ↦ λ is. refl
        | Equal ↦ λ is. subst (λ x. cond (eq_by_cmp R q e.0) (Some v) (find R q rows) ≡ cond (eq_by_cmp R q x) (Some v) (find R q (e ∷ rows))) (sym (exact k e.0 is))
            (shadowed (eq_by_cmp R q e.0) (Some v) (Some e.1) (find R q rows))
        | Greater ↦ λ is. ap (cond (eq_by_cmp R q e.0) (Some e.1)) (find-put q k v rows)
            ∙ choose _ _ _ _ _ (λ here there. apart is (sym (same_key exact q k here) ∙ same_key exact q e.0 there))
      ] refl
    where
      apart : R k e.0 ≡ Greater → k ≡ e.0 → ⊥
      apart is same = let tied : R k e.0 ≡ Equal = subst (λ x. R k x ≡ Equal) same (tied_itself total k) in let two : Greater ≡ Equal = sym is ∙ tied in cc

  by_key : (b : Bool) (v x : X) (o : Option X) (q k : K) → (b ≡ true → q ≡ k) → cond b (Some v) o ≡ Some x → ((q ≡ k) × (x ≡ v)) ⊎ (o ≡ Some x)
  by_key true v x o q k same is = let e : x ≡ v = cc in inl (same refl, e)
  by_key false v x o q k same is = inr is

  -- What a register gives after a row is put is that row's value at its key, or what it gave.
  pub got_after : (t : Register R X) (k q : K) (v x : X) → get (insert t k v) q ≡ Some x → ((q ≡ k) × (x ≡ v)) ⊎ (get t q ≡ Some x)
  got_after t k q v x is = by_key (eq_by_cmp R q k) v x (get t q) q k (same_key exact q k) (sym (find-put q k v t.rows) ∙ is)

  -- A known key stays known.
  pub known_after : (t : Register R X) (k q : K) (v : X) → contains_key t q ≡ true → contains_key (insert t k v) q ≡ true
  known_after t k q v h = ap is_some (find-put q k v t.rows) ∙ either (eq_by_cmp R q k) (get t q) h
    where
      either : (b : Bool) (o : Option X) → is_some o ≡ true → is_some (cond b (Some v) o) ≡ true
      either true o h = refl
      either false o h = h

  -- The key of a row that is put is known.
  pub known_new : (t : Register R X) (k : K) (v : X) → contains_key (insert t k v) k ≡ true
  known_new t k v = ap is_some (find-put k k v t.rows ∙ ap (λ b. cond b (Some v) (get t k)) ((Equal-is _).1 (tied_itself total k)))

module _ {K X : Type 0} {R : K → K → Ordering} (exact : IsAntisymmetric R) (test : K × X → Bool) where
  -- Where no row passes a test, nothing that the rows give does.
  pub fails_where_none : (rows : List (K × X)) (q : K) (v : X) → list.find test rows ≡ None → find R q rows ≡ Some v → test (q, v) ≡ false
  fails_where_none [] q v none is = absurd (cc)
  fails_where_none (e ∷ rows) q v none is = by (test e) (eq_by_cmp R q e.0) refl refl (fails_where_none rows q v) none is
    where
      by : (b c : Bool) → test e ≡ b → eq_by_cmp R q e.0 ≡ c → (list.find test rows ≡ None → find R q rows ≡ Some v → test (q, v) ≡ false)
          → cond b (Some e) (list.find test rows) ≡ None → cond c (Some e.1) (find R q rows) ≡ Some v → test (q, v) ≡ false
      by true c passes same rest none is = absurd (cc)
      by false true passes same rest none is =
          let key : q ≡ e.0 = same_key exact q e.0 same in
          let value : e.1 ≡ v = cc in
          subst (λ (r : K × X). test r ≡ false) (λ i. (sym key i, value i)) passes
      by false false passes same rest none is = rest none is

-- what is given is known
pub known_if_some : {X : Type 0} (o : Option X) (x : X) → o ≡ Some x → is_some o ≡ true
known_if_some o x is = ap is_some is

-- what is known is given
pub some_if_known : {X : Type 0} (o : Option X) → is_some o ≡ true → (x : X) × (o ≡ Some x)
some_if_known None h = absurd (false≢true h)
some_if_known (Some x) h = (x, refl)
