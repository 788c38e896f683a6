-- What is found on a stretch goes.
use Rattle.std.proofs.Common.{◌≡◌, ℕ, ◌<◌, ◌≤◌, Bool, true, false, cond, ◌⊎◌, inl, inr, List, [], ◌∷◌, refl, sym, ap, subst, ◌∙◌, arith}
use Rattle.std.specs.Prelude.{◌||◌, ◌&&◌, not, nat_lt, nat_le, nat_eq}
use Rattle.std.specs.List.{list_any, filter, flat_map}
use Rattle.std.proofs.lemmas.Bool.Decides.{nat_tests}
use Rattle.std.proofs.lemmas.Bool.{both_ways, cases_Bool, and_parts, and_from, leb-true, ltb-true, lt-ltb}
use Rattle.lrs_measure.specs.Texts.{Name, same_name}
use Rattle.lrs_measure.specs.Lists.{In}
use Rattle.lrs_measure.proofs.Members.{any_found, In-filter}
use Rattle.lrs_measure.proofs.Filters.{filter_all}
use Rattle.lrs_events.specs.declared.side.LinkSide.{LinkSide}
use Rattle.lrs_events.specs.declared.span.Span.{Span}
use Rattle.lrs_events.specs.Spans.{are_rows, span_before}
use Rattle.lrs_events.specs.Changes.{changed, changed_rows, has_row}
use Rattle.lrs_events.specs.Members.{has_member, is_member}
use Rattle.lrs_events.specs.declared.rows.removals.Removal.{Removal}
use Rattle.lrs_events.specs.Row.Members.{is_of}
use Rattle.lrs_events.specs.Row.Changes.{IsChange, missing}
use Rattle.lrs_events.specs.Row.Clips.{clip, outside}
use Rattle.lrs_events.specs.Row.Removals.{IsRemoval, is_within, of_within, Finds, Clears, is_met}
use Rattle.lrs_events.proofs.Row.Unique.{over}
use Rattle.lrs_events.proofs.Row.Rows.{AreRows, rows_from}
use Rattle.lrs_events.proofs.Row.Pieces.{outside_pieces, all_parts, outside_holds, clips_rows, clips_hold, rests_rows}
use Rattle.lrs_events.proofs.Row.Replaced.{any_filter, instead, is_replaced}

module _ (of : Name → ℕ → Bool) (low high : ℕ) (test : Span → Bool) (rows : List Span) (f : Finds of low high test rows) (class : Name) (asset j : ℕ) (s : LinkSide) where
  abbrev stands : Span → Bool
  stands r = has_member r class asset j s

  abbrev asked : Bool
  asked = of class asset

  abbrev inside : Bool
  inside = is_within low high j

  -- a row that stands for what is asked for is found
  each_found : asked ≡ true → inside ≡ true → (r : Span) → In r rows → stands r ≡ true → test r ≡ true
  each_found a w r m e =
      let o = over r class asset j s e in
      let b = and_parts (nat_le low j) (nat_lt j high) w in
      let x = leb-true low j b.0 in
      let y = ltb-true j high b.1 in
      let p = o.low in
      let q = o.high in
      f.each r m ((λ i. of (o.of_class i) (o.of_asset i)) ∙ a) (omega (arith, p, y)) (omega (arith, x, q))

  -- what is found is asked for
  only_asked : (r : Span) → In r rows → test r ≡ true → stands r ≡ true → asked ≡ true
  only_asked r m t e = let o = over r class asset j s e in sym (λ i. of (o.of_class i) (o.of_asset i)) ∙ f.only r m t

  stay_each : (r : Span) → low < high → AreRows rows → In r rows → list_any stands (instead test (outside low high) r) ≡ (stands r && not (asked && inside))
  stay_each r l h m = by (test r) refl
    where
      found_one : test r ≡ true → (b a : Bool) → b ≡ stands r → a ≡ asked → (b && not inside) ≡ (b && not (a && inside))
      found_one t true true e g = refl
      found_one t true false e g = absurd (both_ways asked (sym g) (only_asked r m t (sym e)))
      found_one t false a e g = refl

      other : test r ≡ false → (b a w : Bool) → b ≡ stands r → a ≡ asked → w ≡ inside → (b || false) ≡ (b && not (a && w))
      other t true true true e g k = absurd (both_ways (test r) t (each_found (sym g) (sym k) r m (sym e)))
      other t true true false e g k = refl
      other t true false w e g k = refl
      other t false a w e g k = refl

      by : (t : Bool) → t ≡ test r → list_any stands (cond t (outside low high r) (r ∷ [])) ≡ (stands r && not (asked && inside))
      by true t = outside_holds class asset j s low high r l (h.full r m).short ∙ found_one (sym t) (stands r) asked refl refl
      by false t = other (sym t) (stands r) asked inside refl refl refl

  pub stay_holds : low < high → AreRows rows → list_any stands (flat_map (instead test (outside low high)) rows) ≡ (list_any stands rows && not (asked && inside))
  stay_holds l h = all_parts class asset j s (instead test (outside low high)) (not (asked && inside)) rows (λ r m. stay_each r l h m)

  pub left_holds : (list_any stands (filter test rows) && inside) ≡ (list_any stands rows && (asked && inside))
  left_holds = by asked inside refl refl
    where
      nothing : (b : Bool) → (b && false) ≡ false
      nothing true = refl
      nothing false = refl

      none : asked ≡ false → (list_any stands (filter test rows) ≡ true) ⊎ (list_any stands (filter test rows) ≡ false) → list_any stands (filter test rows) ≡ false
      none a (inr e) = e
      none a (inl e) = let g = any_found stands (filter test rows) e in let q = In-filter test g.0 rows g.1 in absurd (both_ways asked a (only_asked g.0 q.0 q.1 g.2))

      by : (a w : Bool) → a ≡ asked → w ≡ inside → (list_any stands (filter test rows) && w) ≡ (list_any stands rows && (a && w))
      by true true a w = λ i. any_filter stands test rows (each_found (sym a) (sym w)) i && true
      by true false a w = nothing (list_any stands (filter test rows)) ∙ sym (nothing (list_any stands rows))
      by false true a w = (λ i. none (sym a) (cases_Bool (list_any stands (filter test rows))) i && true) ∙ sym (nothing (list_any stands rows))
      by false false a w = nothing (list_any stands (filter test rows)) ∙ sym (nothing (list_any stands rows))

pub cleared : (rows found rest : List Span) (removal : Removal) (test : Span → Bool) (of : Name → ℕ → Bool) (low high : ℕ) → low < high → are_rows rows ≡ true → are_rows found ≡ true
    → found ≡ filter test rows → Finds of low high test rows
    → removal.left.items ≡ flat_map (clip low high) found → rest ≡ flat_map (outside low high) found
    → removal.change.gone.items ≡ missing rest found → removal.change.come.items ≡ missing found rest → IsRemoval (of_within of low high) rows removal
cleared rows found rest removal test of low high l h k e f a b g c =
    let all = rows_from rows h in
    let made = is_replaced test (outside low high) rows all (λ r m. outside_pieces low high l r) found rest removal.change e b (ap are_rows b ∙ rests_rows low high found l k) g c in
    record {
      kept = made.kept;
      change = made.differs;
      rest = λ class asset j s. (λ i. is_member (made.made i) class asset j s) ∙ stay_holds of low high test rows f class asset j s l all;
      left_rows = (λ i. are_rows (a i)) ∙ clips_rows low high found k;
      left = λ class asset j s. (λ i. is_member (a i) class asset j s) ∙ clips_hold low high found class asset j s
          ∙ (λ i. is_member (e i) class asset j s && is_within low high j) ∙ left_holds of low high test rows f class asset j s;
    }

-- the rows that have a millimetre there
pub finds_met : (low high : ℕ) (rows : List Span) → Finds (λ class asset. true) low high (is_met low high) rows
finds_met low high rows = record {
  only = λ r m e. refl;
  each = λ r m e a b. and_from (nat_lt r.from high) (nat_lt low r.to) (lt-ltb r.from high a) (lt-ltb low r.to b);
}

-- the rows of an asset
pub finds_asset : (class : Name) (asset low high : ℕ) (rows : List Span) → Finds (λ c a. same_name c class && nat_eq a asset) low high (is_of class asset) rows
finds_asset class asset low high rows = record { only = λ r m e. e; each = λ r m e a b. e }

-- those of them that have a millimetre there
pub finds_asset_met : (class : Name) (asset low high : ℕ) (rows : List Span) → Finds (λ c a. same_name c class && nat_eq a asset) low high (λ r. is_of class asset r && is_met low high r) rows
finds_asset_met class asset low high rows = record {
  only = λ r m e. (and_parts (is_of class asset r) (is_met low high r) e).0;
  each = λ r m e a b. and_from (is_of class asset r) (is_met low high r) e (and_from (nat_lt r.from high) (nat_lt low r.to) (lt-ltb r.from high a) (lt-ltb low r.to b));
}

-- where a stretch has no millimetre, nothing goes
pub none_cleared : (found : List Span) (low high : ℕ) (removal : Removal) → high ≤ low → removal.left.items ≡ [] → removal.change.gone.items ≡ [] → removal.change.come.items ≡ [] → Clears found low high removal
none_cleared found low high removal h l g c rows test of k e f = record {
  kept = ap are_rows same ∙ k;
  change = subst (IsChange rows removal.change.gone.items removal.change.come.items) (sym same)
      (subst (λ (z : List Span). IsChange rows z removal.change.come.items rows) (sym g) (subst (λ (z : List Span). IsChange rows [] z rows) (sym c) unchanged));
  rest = λ class asset j s. (λ i. is_member (same i) class asset j s) ∙ all_stay (is_member rows class asset j s) (of class asset) ∙ (λ i. is_member rows class asset j s && not (of class asset && nowhere j i));
  left_rows = ap are_rows l;
  left = λ class asset j s. (λ i. is_member (l i) class asset j s) ∙ none_go (is_member rows class asset j s) (of class asset) ∙ (λ i. is_member rows class asset j s && (of class asset && nowhere j i));
}
  where
    same : changed_rows removal.change rows ≡ rows
    same = (λ i. changed span_before (g i) (c i) rows) ∙ filter_all (λ r. not (has_row [] r)) rows (λ r m. refl)

    back : (r : Span) → (In r rows × (In r [] → ⊥)) ⊎ In r [] → In r rows
    back r (inl m) = m.0
    back r (inr m) = absurd m

    unchanged : IsChange rows [] [] rows
    unchanged = record { rows = λ r. (λ m. inl (m, λ n. n), back r); were = λ r m. absurd m; fresh = λ r m n. m }

    nowhere : (j : ℕ) → false ≡ is_within low high j
    nowhere j = grind (arith, nat_tests)

    all_stay : (b o : Bool) → b ≡ (b && not (o && false))
    all_stay true true = refl
    all_stay true false = refl
    all_stay false o = refl

    none_go : (b o : Bool) → false ≡ (b && (o && false))
    none_go true true = refl
    none_go true false = refl
    none_go false o = refl
