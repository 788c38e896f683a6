-- The order of millimetres, and the last stretch before an edge.
use Rattle.std.proofs.Common.{ℕ, ◌≡◌, ◌≢◌, ◌+◌, ◌<◌, ◌≤◌, true, false, List, [], ◌∷◌, ◌++◌, Option, Some, None, refl, sym, ap, subst, ◌∙◌, arith, ⊎_elim, ◌⊎◌, inl, inr}
use Rattle.std.specs.declared.cmp.Ordering.{Ordering}
use Rattle.std.specs.declared.cmp.Ordering.TheVariants.{Less, Equal, Greater}
use Rattle.std.specs.declared.ops.Bound.TheVariants.{Included, Unbounded}
use Rattle.std.specs.Ordering.{nat_cmp, ordering_then, is_lt, is_gt, eq_by_cmp}
use Rattle.std.specs.Cmp.{IsTotalOrder, nat_cmp_is, Equal-is, then_total, on_total}
use Rattle.std.specs.Option.{IsSome}
use Rattle.std.specs.FinMap.{from_entries, get, IsAntisymmetric, nat_cmp-IsAntisymmetric}
use Rattle.std.specs.BTreeMap.{BTreeMap}
use Rattle.std.specs.BTreeMap.Range.{IsRangeOf}
use Rattle.std.proofs.lemmas.Bool.{cases_lt, false_from_ne_true}
use Rattle.std.proofs.lemmas.Cmp.{ranked, nat_cmp_total}
use Rattle.std.proofs.lemmas.Map.Lookups.{exact_pairs}
use Rattle.lrs_element.specs.Course.{Millimetre}
use Rattle.lrs_position.specs.declared.ground_index.LinkStretch.{LinkStretch}
use Rattle.lrs_position.specs.Index.Ground.{Stretches, millimetre_cmp}
use Rattle.lrs_position.specs.Index.Stretches.{IsFirst, IsLast}
use Rattle.lrs_position.proofs.Index.Entries.{found, get_found}

pub total : IsTotalOrder millimetre_cmp
total = then_total (on_total (λ (x : Millimetre). x.0) nat_cmp_total) (on_total (λ (x : Millimetre). x.1) nat_cmp_total)

pub exact : IsAntisymmetric millimetre_cmp
exact = exact_pairs nat_cmp nat_cmp nat_cmp-IsAntisymmetric nat_cmp-IsAntisymmetric

less : (a b : ℕ) → a < b → nat_cmp a b ≡ Less
less a b h = sym (nat_cmp_is a b Less h)

same : (a b : ℕ) → a ≡ b → nat_cmp a b ≡ Equal
same a b h = sym (nat_cmp_is a b Equal h)

before_on_link : (l a b : ℕ) → a < b → millimetre_cmp (l, a) (l, b) ≡ Less
before_on_link l a b h = ap (λ o. ordering_then o (nat_cmp a b)) (same l l refl) ∙ less a b h

before_by_link : (k l a b : ℕ) → k < l → millimetre_cmp (k, a) (l, b) ≡ Less
before_by_link k l a b h = ap (λ o. ordering_then o (nat_cmp a b)) (less k l h)

up_to_on_link : (l a b : ℕ) → a ≤ b → is_gt (millimetre_cmp (l, a) (l, b)) ≡ false
up_to_on_link l a b h = ⊎_elim
    (λ (lt : a < b). ap is_gt (before_on_link l a b lt))
    (λ (ge : b ≤ a). ap is_gt (ap (λ o. ordering_then o (nat_cmp a b)) (same l l refl) ∙ same a b (omega arith)))
    (cases_lt a b)

-- of a lower link, or of the same and not behind it
is_up_to : (k l a b : ℕ) → is_gt (millimetre_cmp (k, a) (l, b)) ≡ false → (k < l) ⊎ ((k ≡ l) × (a ≤ b))
is_up_to k l a b h =
    elim (nat_cmp k l) as (λ o. o ≡ nat_cmp k l → is_gt (ordering_then o (nat_cmp a b)) ≡ false → (k < l) ⊎ ((k ≡ l) × (a ≤ b))) [
      | Less ↦ λ e t. inl (ranked k l Less e)
      | Equal ↦ λ e t. inr (ranked k l Equal e, along (nat_cmp a b) refl t)
      | Greater ↦ λ e t. absurd (cc t)
    ] refl h
  where
    along : (o : Ordering) → o ≡ nat_cmp a b → is_gt o ≡ false → a ≤ b
    along Less e t = let lt : a < b = ranked a b Less e in omega arith
    along Equal e t = let is : a ≡ b = ranked a b Equal e in omega arith
    along Greater e t = absurd (cc t)

pub tie : (x y : Millimetre) → eq_by_cmp millimetre_cmp x y ≡ true → x ≡ y
tie x y h = exact x y ((Equal-is _).0 h)

pub no_tie : (x y : Millimetre) → x ≢ y → eq_by_cmp millimetre_cmp x y ≡ false
no_tie x y h = false_from_ne_true _ (λ t. absurd (h (tie x y t)))

pub ties : (x y : Millimetre) → x ≡ y → eq_by_cmp millimetre_cmp x y ≡ true
ties x y h = (Equal-is _).1 (ap (millimetre_cmp x) (sym h) ∙ itself x)
  where
    itself : (x : Millimetre) → millimetre_cmp x x ≡ Equal
    itself x = ap (λ o. ordering_then o (nat_cmp x.1 x.1)) (same x.0 x.0 refl) ∙ same x.1 x.1 refl

-- ---- the last stretch that begins at a millimetre or before it

module _ (m : BTreeMap Millimetre LinkStretch) (l e : ℕ) where
  abbrev kept : Stretches
  kept = from_entries m.entries

  abbrev IsBefore : List (Millimetre × LinkStretch) → Type 0
  IsBefore r = IsRangeOf millimetre_cmp Unbounded (Included (l, e)) m r

  is_some_at : (q : Millimetre) (s : LinkStretch) → get kept q ≡ Some s → IsSome (found total m.entries q)
  is_some_at q s h = subst IsSome (sym h ∙ get_found total m.entries q) refl

  -- there is none
  pub first_from_none : (r : List (Millimetre × LinkStretch)) → IsBefore r → r ≡ [] → IsFirst kept l (e + 1)
  first_from_none r h n a lt = get_found total m.entries (l, a) ∙ h.5 n (l, a) (tt, up_to_on_link l a e (omega arith))

  -- it is of this link
  pub last_found : (r t : List (Millimetre × LinkStretch)) (k a : ℕ) (s : LinkStretch) → IsBefore r → r ≡ t ++ ((k, a), s) ∷ [] → k ≡ l → IsLast kept l (e + 1) a s
  last_found r t k a s h is_last is =
      let at = h.3 ((k, a), s) t is_last in
      let last = h.4 ((k, a), s) t is_last in
      record {
        stretch = ap (λ (n : ℕ). get kept (n, a)) (sym is) ∙ get_found total m.entries (k, a) ∙ at.1;
        before = ⊎_elim (λ (lower : k < l). absurd (omega arith)) (λ both. let le = both.1 in omega arith) (is_up_to k l a e at.0.1);
        last = λ c d g lt. ⊎_elim
            (λ (later : a < c). absurd (lower_not_last (last (l, c) (tt, up_to_on_link l c e (omega arith)) (is_some_at (l, c) d g)) (ap (λ (n : ℕ). millimetre_cmp (n, a) (l, c)) is ∙ before_on_link l a c later)))
            (λ (ge : c ≤ a). ge)
            (cases_lt a c);
      }
    where
      lower_not_last : {o : Ordering} → is_lt o ≡ false → o ≡ Less → ⊥
      lower_not_last h e = cc (h, e)

  -- it is of another link
  pub first_from_other : (r t : List (Millimetre × LinkStretch)) (k a : ℕ) (s : LinkStretch) → IsBefore r → r ≡ t ++ ((k, a), s) ∷ [] → k ≢ l → IsFirst kept l (e + 1)
  first_from_other r t k a s h is_last not_it c lt =
      let at = h.3 ((k, a), s) t is_last in
      let lower : k < l = ⊎_elim (λ (lower : k < l). lower) (λ both. absurd (not_it both.0)) (is_up_to k l a e at.0.1) in
      none_at (get kept (l, c)) refl (λ d g. h.4 ((k, a), s) t is_last (l, c) (tt, up_to_on_link l c e (omega arith)) (is_some_at (l, c) d g)) (before_by_link k l a c lower)
    where
      none_at : (o : Option LinkStretch) → get kept (l, c) ≡ o → ((d : LinkStretch) → get kept (l, c) ≡ Some d → is_lt (millimetre_cmp (k, a) (l, c)) ≡ false) → millimetre_cmp (k, a) (l, c) ≡ Less → get kept (l, c) ≡ None
      none_at None g f b = g
      none_at (Some d) g f b = let not_last = f d g in absurd (cc (not_last, b))
