-- Rows of a register that are written twice, or written and dropped.
use Rattle.std.proofs.Common.{◌≡◌, Bool, true, false, cond, List, [], ◌∷◌, filter, Some, None, refl, sym, ap, ◌∙◌}
use Rattle.std.specs.Prelude.{is_some, not, ◌&&◌}
use Rattle.std.specs.List.{list_all}
use Rattle.std.specs.declared.cmp.Ordering.{Ordering}
use Rattle.std.specs.declared.cmp.Ordering.TheVariants.{Less, Equal, Greater}
use Rattle.std.specs.Ordering.{eq_by_cmp, is_lt, is_eq}
use Rattle.std.specs.Cmp.{IsTotalOrder, Equal-is, tied_itself}
use Rattle.std.specs.FinMap.{find, IsAntisymmetric}
use Rattle.std.proofs.lemmas.Bool.{false≢true, and_parts}
use Rattle.lrs_measure.specs.Lists.{each_two}
use Rattle.lrs_machine.specs.Register.{by_order, put}
use Rattle.lrs_image.proofs.PutBack.{none_goes}

module _ {K X : Type 0} {R : K → K → Ordering} (total : IsTotalOrder R) (exact : IsAntisymmetric R) where
  -- whether a row has another key
  abbrev pub is_another : K → K × X → Bool
  is_another k e = not (eq_by_cmp R k e.0)

  abbrev pub row_before : K × X → K × X → Bool
  row_before a b = is_lt (R a.0 b.0)

  -- a value that is written over another one
  pub put_twice : (k : K) (v w : X) (rows : List (K × X)) → put R k w (put R k v rows) ≡ put R k w rows
  put_twice k v w [] = ap (λ o. by_order o ((k, w) ∷ (k, v) ∷ []) ((k, w) ∷ []) ((k, v) ∷ (k, w) ∷ [])) (tied_itself total k)
  put_twice k v w (e ∷ rows) = by (R k e.0) refl (put_twice k v w rows)
    where
      by : (o : Ordering) → R k e.0 ≡ o → put R k w (put R k v rows) ≡ put R k w rows
          → put R k w (by_order o ((k, v) ∷ e ∷ rows) ((e.0, v) ∷ rows) (e ∷ put R k v rows)) ≡ by_order o ((k, w) ∷ e ∷ rows) ((e.0, w) ∷ rows) (e ∷ put R k w rows)
      by Less is rest = ap (λ o. by_order o ((k, w) ∷ (k, v) ∷ e ∷ rows) ((k, w) ∷ e ∷ rows) ((k, v) ∷ put R k w (e ∷ rows))) (tied_itself total k)
      by Equal is rest = ap (λ o. by_order o ((k, w) ∷ (e.0, v) ∷ rows) ((e.0, w) ∷ rows) ((e.0, v) ∷ put R k w rows)) is
      by Greater is rest = ap (λ o. by_order o ((k, w) ∷ e ∷ put R k v rows) ((e.0, w) ∷ put R k v rows) (e ∷ put R k w (put R k v rows))) is ∙ ap (λ l. e ∷ l) rest

  -- no row behind a later key has the key
  none_before : (k : K) (e : K × X) (rows : List (K × X)) → R k e.0 ≡ Less → list_all (row_before e) rows ≡ true → find R k rows ≡ None
  none_before k e [] is h = refl
  none_before k e (x ∷ rows) is h =
      let both = and_parts (row_before e x) (list_all (row_before e) rows) h in
      ap (λ o. cond (is_eq o) (Some x.1) (find R k rows)) (total.trans k e.0 x.0 is (less (R e.0 x.0) both.0)) ∙ none_before k e rows is both.1
    where
      less : (o : Ordering) → is_lt o ≡ true → o ≡ Less
      less Less h = refl
      less Equal h = absurd (false≢true h)
      less Greater h = absurd (false≢true h)

  -- a value that is there is written in its place
  pub put_known : (k : K) (v : X) (rows : List (K × X)) → each_two row_before rows ≡ true → find R k rows ≡ Some v → put R k v rows ≡ rows
  put_known k v [] h is = absurd (cc is)
  put_known k v (e ∷ rows) h is = by (R k e.0) refl is (put_known k v rows both.1)
    where
      both : (list_all (row_before e) rows ≡ true) × (each_two row_before rows ≡ true)
      both = and_parts (list_all (row_before e) rows) (each_two row_before rows) h

      by : (o : Ordering) → R k e.0 ≡ o → cond (is_eq o) (Some e.1) (find R k rows) ≡ Some v → (find R k rows ≡ Some v → put R k v rows ≡ rows)
          → by_order o ((k, v) ∷ e ∷ rows) ((e.0, v) ∷ rows) (e ∷ put R k v rows) ≡ e ∷ rows
      by Less before there rest = absurd (cc (sym (none_before k e rows before both.0) ∙ there))
      by Equal tied there rest = let same : v ≡ e.1 = cc there in λ j. (e.0, same j) ∷ rows
      by Greater after there rest = ap (λ l. e ∷ l) (rest there)

  -- where the key is not known, all rows have others
  pub all_others : (k : K) (rows : List (K × X)) → is_some (find R k rows) ≡ false → list_all (is_another k) rows ≡ true
  all_others k [] h = refl
  all_others k (e ∷ rows) h = by (eq_by_cmp R k e.0) h (all_others k rows)
    where
      by : (b : Bool) → is_some (cond b (Some e.1) (find R k rows)) ≡ false → (is_some (find R k rows) ≡ false → list_all (is_another k) rows ≡ true) → (not b && list_all (is_another k) rows) ≡ true
      by true h rest = absurd (false≢true (sym h))
      by false h rest = rest h

  none_dropped : (k : K) (rows : List (K × X)) → list_all (is_another k) rows ≡ true → filter (is_another k) rows ≡ rows
  none_dropped k rows h = none_goes row_before (λ e. eq_by_cmp R k e.0) rows h

  -- a row that begins a list is dropped
  first_dropped : (k : K) (v : X) (rows : List (K × X)) → filter (is_another k) ((k, v) ∷ rows) ≡ filter (is_another k) rows
  first_dropped k v rows = ap (λ o. cond (not (is_eq o)) ((k, v) ∷ filter (is_another k) rows) (filter (is_another k) rows)) (tied_itself total k)

  -- a row of another key stays
  first_stays : (k : K) (e : K × X) (rows : List (K × X)) → eq_by_cmp R k e.0 ≡ false → filter (is_another k) (e ∷ rows) ≡ e ∷ filter (is_another k) rows
  first_stays k e rows h = ap (λ b. cond (not b) (e ∷ filter (is_another k) rows) (filter (is_another k) rows)) h

  -- a new row that is dropped again
  dropped_again : (k : K) (v : X) (rows : List (K × X)) → list_all (is_another k) rows ≡ true → filter (is_another k) (put R k v rows) ≡ rows
  dropped_again k v [] h = first_dropped k v []
  dropped_again k v (e ∷ rows) h = by (R k e.0) refl (dropped_again k v rows both.1)
    where
      both : (is_another k e ≡ true) × (list_all (is_another k) rows ≡ true)
      both = and_parts (is_another k e) (list_all (is_another k) rows) h

      by : (o : Ordering) → R k e.0 ≡ o → filter (is_another k) (put R k v rows) ≡ rows → filter (is_another k) (by_order o ((k, v) ∷ e ∷ rows) ((e.0, v) ∷ rows) (e ∷ put R k v rows)) ≡ e ∷ rows
      by Less is rest = first_dropped k v (e ∷ rows) ∙ none_dropped k (e ∷ rows) h
      by Equal is rest = absurd (false≢true (ap (λ o. not (is_eq o)) (sym is) ∙ both.0))
      by Greater is rest = first_stays k e (put R k v rows) (ap is_eq is) ∙ ap (λ l. e ∷ l) rest

  module _ (k n : K) (v y : X) (apart : eq_by_cmp R n k ≡ false) where
    untied : R k n ≡ Equal → ⊥
    untied is = false≢true (sym apart ∙ ap (eq_by_cmp R n) (exact k n is) ∙ (Equal-is (R n n)).1 (tied_itself total n))

    -- a row of another key is not dropped
    not_dropped : (rows : List (K × X)) → list_all (is_another n) rows ≡ true → filter (is_another n) (put R k v rows) ≡ put R k v rows
    not_dropped [] h = first_stays n (k, v) [] apart
    not_dropped (e ∷ rows) h = by (R k e.0) refl (not_dropped rows both.1)
      where
        both : (is_another n e ≡ true) × (list_all (is_another n) rows ≡ true)
        both = and_parts (is_another n e) (list_all (is_another n) rows) h

        by : (o : Ordering) → R k e.0 ≡ o → filter (is_another n) (put R k v rows) ≡ put R k v rows
            → filter (is_another n) (by_order o ((k, v) ∷ e ∷ rows) ((e.0, v) ∷ rows) (e ∷ put R k v rows)) ≡ by_order o ((k, v) ∷ e ∷ rows) ((e.0, v) ∷ rows) (e ∷ put R k v rows)
        by Less is rest = first_stays n (k, v) (e ∷ rows) apart ∙ ap (λ l. (k, v) ∷ l) (none_dropped n (e ∷ rows) h)
        by Equal is rest = first_stays n (e.0, v) rows (ap (eq_by_cmp R n) (sym (exact k e.0 is)) ∙ apart) ∙ ap (λ l. (e.0, v) ∷ l) (none_dropped n rows both.1)
        by Greater is rest = ap (λ b. cond b (e ∷ filter (is_another n) (put R k v rows)) (filter (is_another n) (put R k v rows))) both.0 ∙ ap (λ l. e ∷ l) rest

    -- a new row before all others
    dropped_first : (e : K × X) (rows : List (K × X)) → R n e.0 ≡ Less → list_all (is_another n) (e ∷ rows) ≡ true → filter (is_another n) (put R k v ((n, y) ∷ e ∷ rows)) ≡ put R k v (e ∷ rows)
    dropped_first e rows before h = by (R k n) refl
      where
        by : (o : Ordering) → R k n ≡ o → filter (is_another n) (by_order o ((k, v) ∷ (n, y) ∷ e ∷ rows) ((n, v) ∷ e ∷ rows) ((n, y) ∷ put R k v (e ∷ rows))) ≡ put R k v (e ∷ rows)
        by Less is =
            first_stays n (k, v) ((n, y) ∷ e ∷ rows) apart ∙ ap (λ l. (k, v) ∷ l) (first_dropped n y (e ∷ rows) ∙ none_dropped n (e ∷ rows) h)
            ∙ sym (ap (λ o. by_order o ((k, v) ∷ e ∷ rows) ((e.0, v) ∷ rows) (e ∷ put R k v rows)) (total.trans k n e.0 is before))
        by Equal is = absurd (untied is)
        by Greater is = first_dropped n y (put R k v (e ∷ rows)) ∙ not_dropped (e ∷ rows) h

    -- a new row that is dropped again, where another one was written meanwhile
    pub dropped_behind : (rows : List (K × X)) → list_all (is_another n) rows ≡ true → filter (is_another n) (put R k v (put R n y rows)) ≡ put R k v rows
    dropped_behind [] h = by (R k n) refl
      where
        by : (o : Ordering) → R k n ≡ o → filter (is_another n) (by_order o ((k, v) ∷ (n, y) ∷ []) ((n, v) ∷ []) ((n, y) ∷ (k, v) ∷ [])) ≡ (k, v) ∷ []
        by Less is = first_stays n (k, v) ((n, y) ∷ []) apart ∙ ap (λ l. (k, v) ∷ l) (first_dropped n y [])
        by Equal is = absurd (untied is)
        by Greater is = first_dropped n y ((k, v) ∷ []) ∙ first_stays n (k, v) [] apart
    dropped_behind (e ∷ rows) h = by (R n e.0) refl (dropped_behind rows both.1)
      where
        both : (is_another n e ≡ true) × (list_all (is_another n) rows ≡ true)
        both = and_parts (is_another n e) (list_all (is_another n) rows) h

        behind : (o : Ordering) → R k e.0 ≡ o → R n e.0 ≡ Greater → filter (is_another n) (put R k v (put R n y rows)) ≡ put R k v rows
            → filter (is_another n) (by_order o ((k, v) ∷ e ∷ put R n y rows) ((e.0, v) ∷ put R n y rows) (e ∷ put R k v (put R n y rows))) ≡ by_order o ((k, v) ∷ e ∷ rows) ((e.0, v) ∷ rows) (e ∷ put R k v rows)
        behind Less is after rest = first_stays n (k, v) (e ∷ put R n y rows) apart ∙ ap (λ l. (k, v) ∷ l) (first_stays n e (put R n y rows) (ap is_eq after) ∙ ap (λ l. e ∷ l) (dropped_again n y rows both.1))
        behind Equal is after rest = first_stays n (e.0, v) (put R n y rows) (ap is_eq after) ∙ ap (λ l. (e.0, v) ∷ l) (dropped_again n y rows both.1)
        behind Greater is after rest = first_stays n e (put R k v (put R n y rows)) (ap is_eq after) ∙ ap (λ l. e ∷ l) rest

        by : (o : Ordering) → R n e.0 ≡ o → filter (is_another n) (put R k v (put R n y rows)) ≡ put R k v rows
            → filter (is_another n) (put R k v (by_order o ((n, y) ∷ e ∷ rows) ((e.0, y) ∷ rows) (e ∷ put R n y rows))) ≡ put R k v (e ∷ rows)
        by Less is rest = dropped_first e rows is h
        by Equal is rest = absurd (false≢true (ap (λ o. not (is_eq o)) (sym is) ∙ both.0))
        by Greater is rest = behind (R k e.0) refl is rest
