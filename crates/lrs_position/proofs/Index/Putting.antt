-- One stretch that is put in or taken out.
use Rattle.std.proofs.Common.{◌≡◌, ◌≢◌, ◌<◌, ◌≤◌, Bool, true, false, cond, Some, None, refl, sym, ap, ◌∙◌, arith, ⊎_elim, ◌⊎◌, inl, inr}
use Rattle.std.specs.Ordering.{eq_by_cmp}
use Rattle.std.specs.FinMap.{empty, insert, remove, get, get-empty, get-insert, get-remove, same_map}
use Rattle.std.proofs.lemmas.Bool.{cases_Bool, both_ways}
use Rattle.lrs_measure.specs.Texts.{Name}
use Rattle.lrs_element.specs.Course.{Millimetre}
use Rattle.lrs_position.specs.declared.ground_index.LinkStretch.{LinkStretch}
use Rattle.lrs_position.specs.Index.Ground.{Stretches, millimetre_cmp}
use Rattle.lrs_position.specs.Index.Stretches.{AreApart}
use Rattle.lrs_position.proofs.Index.Order.{total, exact, tie, ties, no_tie}

pub same_place : (q k : Millimetre) → (q ≡ k) ⊎ (q ≢ k)
same_place q k = ⊎_elim
    (λ (t : eq_by_cmp millimetre_cmp q k ≡ true). inl (tie q k t))
    (λ (f : eq_by_cmp millimetre_cmp q k ≡ false). inr (λ e. both_ways _ f (ties q k e)))
    (cases_Bool (eq_by_cmp millimetre_cmp q k))

pub apart_empty : AreApart empty
apart_empty = record {
  filled = λ l a s h. absurd (cc (sym (get-empty millimetre_cmp (l, a)) ∙ h));
  apart = λ l a c s t h k lt. absurd (cc (sym (get-empty millimetre_cmp (l, a)) ∙ h));
}

module _ (old : Stretches) (k : Millimetre) where
  pub put_here : (s : LinkStretch) → get (insert old k s) k ≡ Some s
  put_here s = get-insert total old k s k ∙ ap (λ (b : Bool). cond b (Some s) (get old k)) (ties k k refl)

  pub put_there : (s : LinkStretch) (q : Millimetre) → q ≢ k → get (insert old k s) q ≡ get old q
  put_there s q h = get-insert total old k s q ∙ ap (λ (b : Bool). cond b (Some s) (get old q)) (no_tie q k h)

  -- what begins at q is the new one, or it was there
  pub put_which : (s : LinkStretch) (q : Millimetre) (t : LinkStretch) → get (insert old k s) q ≡ Some t → ((q ≡ k) × (t ≡ s)) ⊎ ((q ≢ k) × (get old q ≡ Some t))
  put_which s q t h = ⊎_elim
      (λ (e : q ≡ k).
      let same : Some t ≡ Some s = sym h ∙ ap (get (insert old k s)) e ∙ put_here s in
      inl (e, cc same))
      (λ (n : q ≢ k). inr (n, sym (put_there s q n) ∙ h))
      (same_place q k)

  pub out_here : get (remove old k) k ≡ None
  out_here = get-remove total old k k ∙ ap (λ (b : Bool). cond b None (get old k)) (ties k k refl)

  pub out_there : (q : Millimetre) → q ≢ k → get (remove old k) q ≡ get old q
  out_there q h = get-remove total old k q ∙ ap (λ (b : Bool). cond b None (get old q)) (no_tie q k h)

  pub put_back : (s t : LinkStretch) → get old k ≡ Some s → insert (insert old k t) k s ≡ old
  put_back s t was = same_map total exact _ _ (λ q.
      get-insert total (insert old k t) k s q ∙ ⊎_elim
      (λ (e : q ≡ k). ap (λ (b : Bool). cond b (Some s) (get (insert old k t) q)) (ties q k e) ∙ sym (ap (get old) e ∙ was))
      (λ (n : q ≢ k). ap (λ (b : Bool). cond b (Some s) (get (insert old k t) q)) (no_tie q k n) ∙ put_there t q n)
      (same_place q k))

  -- one that begins where one began, and ends no later
  pub apart_within : (s t : LinkStretch) → AreApart old → get old k ≡ Some s → k.1 < t.end → t.end ≤ s.end → AreApart (insert old k t)
  apart_within s t apart was filled le = record {
    filled = λ l a x h. ⊎_elim
        (λ is. let e : a ≡ k.1 = ap (λ (q : Millimetre). q.1) is.0 in let f = ap (λ (y : LinkStretch). y.end) is.1 in omega (arith, e, f, filled))
        (λ other. apart.filled l a x other.1)
        (put_which t (l, a) x h);
    apart = λ l a c x y h g lt.
        let p = same_or (l, a) x h in
        let q = same_or (l, c) y g in
        let n = apart.apart l a c p.0 q.0 p.1 q.1 lt in
        omega (arith, n, p.2);
  }
    where
      -- what begins there began there before, and ended no earlier
      same_or : (q : Millimetre) (x : LinkStretch) → get (insert old k t) q ≡ Some x → (y : LinkStretch) × (get old q ≡ Some y) × (x.end ≤ y.end)
      same_or q x h = ⊎_elim
          (λ is. let f = ap (λ (y : LinkStretch). y.end) is.1 in (s, ap (get old) is.0 ∙ was, omega (arith, f, le)))
          (λ other. (x, other.1, omega arith))
          (put_which t q x h)

  -- the same stretch of another route
  pub apart_other : (s : LinkStretch) (route : Name) → AreApart old → get old k ≡ Some s → AreApart (insert old k (record { end = s.end; route = route }))
  apart_other s route apart was = apart_within s (record { end = s.end; route = route }) apart was (apart.filled k.0 k.1 s was) (omega arith)
