-- One more row behind all.
use Rattle.std.proofs.Common.{◌≡◌, ℕ, ◌≤◌, true, ◌⊎◌, inl, inr, List, [], ◌∷◌, ◌++◌, length, take, drop, refl, sym, ap, subst, ◌∙◌, arith}
use Rattle.std.specs.Prelude.{not, nat_eq}
use Rattle.std.specs.List.{splice}
use Rattle.std.specs.Cmp.Lexicographic.{bytes_decides}
use Rattle.std.proofs.lemmas.Bool.{cases_eq, or_left, or_right, and_from, le-leb, ne_eqb}
use Rattle.std.proofs.lemmas.List.{drop_all}
use Rattle.lrs_measure.specs.Texts.{same_name}
use Rattle.lrs_measure.specs.Lists.{In}
use Rattle.lrs_measure.proofs.Members.{all_of, In-take, In-append_cases}
use Rattle.lrs_events.specs.declared.span.Span.{Span}
use Rattle.lrs_events.specs.Spans.{are_rows, is_row}
use Rattle.lrs_events.specs.Row.Members.{leaves_free, is_free, IsMore}
use Rattle.lrs_events.specs.Row.Order.{IsLeft, by_class, by_asset, by_place, IsPlace, IsStart, IsBehind, StaysBehind, grown}
use Rattle.lrs_events.proofs.Row.Rows.{left_place}
use Rattle.lrs_events.proofs.Row.Places.{ends_alone, has_come}

behind_free : (rows : List Span) (row : Span) → IsBehind rows row → is_free rows row ≡ true
behind_free rows row h = all_of (leaves_free row) rows (λ r m. by r m (cases_eq r.asset row.asset))
  where
    by : (r : Span) → In r rows → (r.asset ≡ row.asset) ⊎ (r.asset ≡ row.asset → ⊥) → leaves_free row r ≡ true
    by r m (inr n) = or_left _ _ (ap not (ne_eqb r.asset row.asset n))
    by r m (inl e) =
        let c = h.one_class r m e in
        or_right (not (nat_eq r.asset row.asset)) _ (and_from (same_name r.class row.class) _ ((bytes_decides r.class row.class).1 c) (or_left _ _ (le-leb r.to row.from (left_place r row (h.left r m) c e))))

past_end : (rows : List Span) (at : ℕ) (r : Span) → length rows ≤ at → In r (drop at rows) → ⊥
past_end rows at r l m = subst (In r) (drop_all at rows l) m

pub behind_place : (rows : List Span) (at : ℕ) (row : Span) → at ≡ length rows → IsBehind rows row → IsPlace rows at row
behind_place rows at row e h = record {
  before = λ r m. h.left r (In-take r at rows m);
  behind = λ r m. absurd (past_end rows at r (omega (arith, e)) m);
}

pub record IsPushed (rows : List Span) (row : Span) (new : List Span) : Type 0 where
  pub kept : are_rows new ≡ true
  pub more : IsMore rows row new
  pub behind : StaysBehind rows row new

pub pushed : (rows new : List Span) (at : ℕ) (row : Span) (start from : ℕ) → are_rows rows ≡ true → is_row row ≡ true → IsBehind rows row → at ≡ length rows → IsStart rows at row start from
    → new ≡ take start rows ++ (grown row from row.to ∷ []) → IsPushed rows row new
pushed rows new at row start from h f b e s n =
    let c = has_come rows rows rows rows at row start from at row.to refl refl refl h f (behind_free rows row b) (behind_place rows at row e b) s (ends_alone rows at row h (behind_place rows at row e b) (inl (omega (arith, e)))) in
    let same : new ≡ splice rows start at (grown row from row.to ∷ []) = n ∙ (λ i. take start rows ++ (grown row from row.to ∷ sym (drop_all at rows (omega (arith, e))) i)) in
    record {
      kept = (λ i. are_rows (same i)) ∙ c.kept;
      more = subst (IsMore rows row) (sym same) c.more;
      behind = subst (StaysBehind rows row) (sym n) (record { stays = λ t g k. stay t g k });
    }
  where
    mine : (t : Span) → IsBehind (row ∷ []) t → (fr : ℕ) → IsLeft (grown row fr row.to) t
    mine t k fr = by (k.left row (inl refl))
      where
        by : IsLeft row t → IsLeft (grown row fr row.to) t
        by (by_class x) = by_class x
        by (by_asset x y) = by_asset x y
        by (by_place x y z) = by_place x y z

    stay : (t : Span) → IsBehind rows t → IsBehind (row ∷ []) t → IsBehind (take start rows ++ (grown row from row.to ∷ [])) t
    stay t g k = record {
      left = λ r m. left r (In-append_cases r (take start rows) (grown row from row.to ∷ []) m);
      one_class = λ r m. one r (In-append_cases r (take start rows) (grown row from row.to ∷ []) m);
    }
      where
        left : (r : Span) → In r (take start rows) ⊎ In r (grown row from row.to ∷ []) → IsLeft r t
        left r (inl m) = g.left r (In-take r start rows m)
        left r (inr (inl q)) = subst (λ z. IsLeft z t) (sym q) (mine t k from)
        left r (inr (inr q)) = absurd q

        one : (r : Span) → In r (take start rows) ⊎ In r (grown row from row.to ∷ []) → r.asset ≡ t.asset → r.class ≡ t.class
        one r (inl m) a = g.one_class r (In-take r start rows m) a
        one r (inr (inl q)) a = ap (λ z. z.class) q ∙ k.one_class row (inl refl) (sym (ap (λ z. z.asset) q) ∙ a)
        one r (inr (inr q)) a = absurd q
