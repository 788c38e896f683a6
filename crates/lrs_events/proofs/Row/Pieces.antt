-- Parts of rows are in order, apart and merged.
use Rattle.std.proofs.Common.{◌≡◌, ℕ, ◌+◌, ◌<◌, ◌≤◌, Bool, true, false, cond, ◌⊎◌, inl, inr, List, [], ◌∷◌, min, max, refl, sym, ap, subst, ◌∙◌, arith}
use Rattle.std.specs.Prelude.{◌||◌, ◌&&◌, not, nat_lt, nat_le, nat_eq}
use Rattle.std.specs.List.{list_any, flat_map}
use Rattle.std.proofs.lemmas.Bool.{ltb-true, ltb-false, lt-ltb, le-ltb, le-leb, lt-leb, cases_lt}
use Rattle.lrs_events.proofs.Row.Unique.{over}
use Rattle.std.proofs.lemmas.List.Folds.{list_any-append}
use Rattle.lrs_measure.specs.Texts.{Name, same_name, name_before}
use Rattle.lrs_measure.specs.Limits.{longest_route}
use Rattle.lrs_measure.specs.Lists.{In}
use Rattle.lrs_measure.proofs.Members.{In-append_cases}
use Rattle.lrs_events.specs.declared.side.LinkSide.{LinkSide}
use Rattle.lrs_events.specs.declared.span.Span.{Span}
use Rattle.lrs_events.specs.Spans.{are_rows}
use Rattle.lrs_events.specs.Members.{has_side, has_member}
use Rattle.lrs_events.specs.Row.Order.{IsLeft, by_class, by_asset, by_place, grown}
use Rattle.lrs_events.specs.Row.Clips.{clip, outside}
use Rattle.lrs_events.specs.Row.Removals.{is_within, IsThat}
use Rattle.lrs_events.proofs.Row.Rows.{IsFull, IsAhead, Pairs, AreRows, pairs_append, rows_from, rows_are, left_place}
use Rattle.std.proofs.lemmas.Bool.Decides.{nat_tests}

-- a part of a row, so many millimetres further back
pub record IsPiece (by : ℕ) (r p : Span) : Type 0 where
  pub of_class : p.class ≡ r.class
  pub of_asset : p.asset ≡ r.asset
  pub on_side : p.side ≡ r.side
  pub low : r.from ≤ p.from + by
  pub some : p.from < p.to
  pub high : p.to + by ≤ r.to

-- parts of a row, none with a millimetre of another and none that goes on another
pub record ArePieces (by : ℕ) (r : Span) (ps : List Span) : Type 0 where
  pub each : (p : Span) → In p ps → IsPiece by r p
  pub pairs : Pairs ps

pub piece_itself : (r : Span) → IsFull r → IsPiece 0 r r
piece_itself r f = let s = f.some in record { of_class = refl; of_asset = refl; on_side = refl; low = omega arith; some = s; high = omega arith }

pub piece_full : (by : ℕ) (r p : Span) → IsFull r → IsPiece by r p → IsFull p
piece_full by r p f i = let a = f.short in let b = i.high in record { some = i.some; short = omega (arith, a, b) }

pub left_pieces : (by : ℕ) (x y p q : Span) → IsLeft x y → IsPiece by x p → IsPiece by y q → IsLeft p q
left_pieces by x y p q (by_class h) i k = by_class (subst (λ c. name_before c q.class ≡ true) (sym i.of_class) (subst (λ c. name_before x.class c ≡ true) (sym k.of_class) h))
left_pieces by x y p q (by_asset c h) i k = let a = i.of_asset in let b = k.of_asset in by_asset (i.of_class ∙ c ∙ sym k.of_class) (omega (arith, h, a, b))
left_pieces by x y p q (by_place c a h) i k = let u = i.high in let v = k.low in by_place (i.of_class ∙ c ∙ sym k.of_class) (i.of_asset ∙ a ∙ sym k.of_asset) (omega (arith, h, u, v))

pub ahead_pieces : (by : ℕ) (x y p q : Span) → IsAhead x y → IsPiece by x p → IsPiece by y q → IsAhead p q
ahead_pieces by x y p q a i k = record {
  left = left_pieces by x y p q a.left i k;
  one_class = λ e. i.of_class ∙ a.one_class (sym i.of_asset ∙ e ∙ k.of_asset) ∙ sym k.of_class;
  not_joined = λ j.
      let c : x.class ≡ y.class = sym i.of_class ∙ j.of_class ∙ k.of_class in
      let b : x.asset ≡ y.asset = sym i.of_asset ∙ j.of_asset ∙ k.of_asset in
      let l = left_place x y a.left c b in
      let u = i.high in let v = k.low in let t = j.at in
      a.not_joined (record { of_class = c; of_asset = b; at = omega (arith, l, u, v, t); on_side = sym i.on_side ∙ j.on_side ∙ k.on_side });
}

-- rows of which each is a part of one of these
pub found_in : (f : Span → List Span) (p : Span) (rows : List Span) → In p (flat_map f rows) → (r : Span) × In r rows × In p (f r)
found_in f p [] m = absurd m
found_in f p (r ∷ rs) m = by (In-append_cases p (f r) (flat_map f rs) m) (found_in f p rs)
  where
    by : In p (f r) ⊎ In p (flat_map f rs) → (In p (flat_map f rs) → (q : Span) × In q rs × In p (f q)) → (q : Span) × In q (r ∷ rs) × In p (f q)
    by (inl k) later = (r, inl refl, k)
    by (inr k) later = let g = later k in (g.0, inr g.1, g.2)

pub pieces_pairs : (by : ℕ) (f : Span → List Span) (rows : List Span) → Pairs rows → ((r : Span) → In r rows → ArePieces by r (f r)) → Pairs (flat_map f rows)
pieces_pairs by f [] p h = tt
pieces_pairs by f (r ∷ rs) p h = pairs_append (f r) (flat_map f rs) (h r (inl refl)).pairs (pieces_pairs by f rs p.1 (λ s m. h s (inr m)))
    (λ x y m n. let g = found_in f y rs n in ahead_pieces by r g.0 x y (p.0 g.0 g.1) ((h r (inl refl)).each x m) ((h g.0 (inr g.1)).each y g.2))

pub pieces_rows : (by : ℕ) (f : Span → List Span) (rows : List Span) → AreRows rows → ((r : Span) → In r rows → ArePieces by r (f r)) → AreRows (flat_map f rows)
pieces_rows by f rows a h = record {
  full = λ p m. let g = found_in f p rows m in piece_full by g.0 p (a.full g.0 g.1) ((h g.0 g.1).each p g.2);
  pairs = pieces_pairs by f rows a.pairs h;
}

-- ---- clips

clip_each : (low high : ℕ) (r : Span) → ArePieces 0 r (clip low high r)
clip_each low high r = by (nat_lt (max r.from low) (min r.to high)) refl
  where
    one : max r.from low < min r.to high → (p : Span) → In p (grown r (max r.from low) (min r.to high) ∷ []) → IsPiece 0 r p
    one h p (inl e) = subst (IsPiece 0 r) (sym e) (record { of_class = refl; of_asset = refl; on_side = refl; low = omega arith; some = h; high = omega arith })
    one h p (inr m) = absurd m

    by : (b : Bool) → b ≡ nat_lt (max r.from low) (min r.to high) → ArePieces 0 r (cond b (grown r (max r.from low) (min r.to high) ∷ []) [])
    by true e = record { each = one (ltb-true (max r.from low) (min r.to high) (sym e)); pairs = (λ s m. absurd m, tt) }
    by false e = record { each = λ p m. absurd m; pairs = tt }

pub clip_pieces : (low high : ℕ) (r : Span) → ArePieces 0 r (clip low high r)
clip_pieces = clip_each

-- where a part of a clip lies
pub clip_bounds : (low high : ℕ) (r p : Span) → In p (clip low high r) → (low ≤ p.from) × (p.to ≤ high)
clip_bounds low high r p = by (nat_lt (max r.from low) (min r.to high))
  where
    by : (b : Bool) → In p (cond b (grown r (max r.from low) (min r.to high) ∷ []) []) → (low ≤ p.from) × (p.to ≤ high)
    by true (inl e) = let a : p.from ≡ max r.from low = ap (λ z. z.from) e in let b : p.to ≡ min r.to high = ap (λ z. z.to) e in (omega (arith, a), omega (arith, b))
    by true (inr m) = absurd m
    by false m = absurd m

pub outside_pieces : (low high : ℕ) → low < high → (r : Span) → ArePieces 0 r (outside low high r)
outside_pieces low high h r = record {
  each = λ p m. each p (In-append_cases p (clip 0 low r) (clip high longest_route r) m);
  pairs = pairs_append (clip 0 low r) (clip high longest_route r) (clip_each 0 low r).pairs (clip_each high longest_route r).pairs gap;
}
  where
    each : (p : Span) → In p (clip 0 low r) ⊎ In p (clip high longest_route r) → IsPiece 0 r p
    each p (inl m) = (clip_each 0 low r).each p m
    each p (inr m) = (clip_each high longest_route r).each p m

    gap : (x y : Span) → In x (clip 0 low r) → In y (clip high longest_route r) → IsAhead x y
    gap x y m n =
        let a = (clip_bounds 0 low r x m).1 in let b = (clip_bounds high longest_route r y n).0 in
        let i = (clip_each 0 low r).each x m in let k = (clip_each high longest_route r).each y n in
        record {
          left = by_place (i.of_class ∙ sym k.of_class) (i.of_asset ∙ sym k.of_asset) (omega (arith, a, b, h));
          one_class = λ e. i.of_class ∙ sym k.of_class;
          not_joined = λ j. let t = j.at in omega (arith, a, b, h, t);
        }

-- ---- what parts stand for

and_false : (b : Bool) → (b && false) ≡ false
and_false true = refl
and_false false = refl

module _ (class : Name) (asset j : ℕ) (s : LinkSide) where
  abbrev stands : Span → Bool
  stands r = has_member r class asset j s

  -- what holds of each row's parts holds of those of all
  pub all_parts : (f : Span → List Span) (t : Bool) (rows : List Span) → ((r : Span) → In r rows → list_any stands (f r) ≡ (stands r && t)) → list_any stands (flat_map f rows) ≡ (list_any stands rows && t)
  all_parts f t [] h = refl
  all_parts f t (r ∷ rs) h =
      list_any-append stands (f r) (flat_map f rs)
      ∙ (λ i. h r (inl refl) i || all_parts f t rs (λ q m. h q (inr m)) i)
      ∙ both (stands r) (list_any stands rs) t
    where
      both : (a b t : Bool) → (a && t || (b && t)) ≡ ((a || b) && t)
      both true b true = refl
      both true true false = refl
      both true false false = refl
      both false b t = refl

  -- the test of a stretch, in its parts
  abbrev stretch : Span → ℕ → ℕ → Bool
  stretch r from to = same_name r.class class && (nat_eq r.asset asset && ((nat_le from j && nat_lt j to) && has_side r.side s))

  with_test : (c a d x y : Bool) → (c && (a && (x && d)) && y) ≡ (c && (a && ((x && y) && d)))
  with_test false a d x y = refl
  with_test true false d x y = refl
  with_test true true d false y = refl
  with_test true true true true true = refl
  with_test true true true true false = refl
  with_test true true false true true = refl
  with_test true true false true false = refl

  same_test : (low high : ℕ) (r : Span) → ((nat_le r.from j && nat_lt j r.to) && is_within low high j) ≡ (nat_le (max r.from low) j && nat_lt j (min r.to high))
  same_test low high r = grind (arith, nat_tests)

  pub clip_holds : (low high : ℕ) (r : Span) → list_any stands (clip low high r) ≡ (stands r && is_within low high j)
  clip_holds low high r =
      by (nat_lt (max r.from low) (min r.to high)) refl
      ∙ (λ i. same_name r.class class && (nat_eq r.asset asset && (sym (same_test low high r) i && has_side r.side s)))
      ∙ sym (with_test (same_name r.class class) (nat_eq r.asset asset) (has_side r.side s) (nat_le r.from j && nat_lt j r.to) (is_within low high j))
    where
      or_nothing : (b : Bool) → (b || false) ≡ b
      or_nothing true = refl
      or_nothing false = refl

      nowhere : min r.to high ≤ max r.from low → false ≡ (nat_le (max r.from low) j && nat_lt j (min r.to high))
      nowhere h = grind (arith, nat_tests)

      nothing : (c a d : Bool) → false ≡ (c && (a && (false && d)))
      nothing false a d = refl
      nothing true false d = refl
      nothing true true d = refl

      by : (b : Bool) → b ≡ nat_lt (max r.from low) (min r.to high) → list_any stands (cond b (grown r (max r.from low) (min r.to high) ∷ []) []) ≡ stretch r (max r.from low) (min r.to high)
      by true e = or_nothing (stretch r (max r.from low) (min r.to high))
      by false e = nothing (same_name r.class class) (nat_eq r.asset asset) (has_side r.side s)
          ∙ (λ i. same_name r.class class && (nat_eq r.asset asset && (nowhere (ltb-false (max r.from low) (min r.to high) (sym e)) i && has_side r.side s)))

  without_test : (b x y w : Bool) → (b ≡ true → (x || y) ≡ not w) → ((b && x) || (b && y)) ≡ (b && not w)
  without_test true x y w h = h refl
  without_test false x y w h = refl

  pub outside_holds : (low high : ℕ) (r : Span) → low < high → r.to ≤ longest_route → list_any stands (outside low high r) ≡ (stands r && not (is_within low high j))
  outside_holds low high r h k =
      list_any-append stands (clip 0 low r) (clip high longest_route r)
      ∙ (λ i. clip_holds 0 low r i || clip_holds high longest_route r i)
      ∙ without_test (stands r) (is_within 0 low j) (is_within high longest_route j) (is_within low high j) (λ e. elsewhere (over r class asset j s e).high)
    where
      elsewhere : j < r.to → (is_within 0 low j || is_within high longest_route j) ≡ not (is_within low high j)
      elsewhere l = by (cases_lt j low) (cases_lt j high)
        where
          by : (j < low) ⊎ (low ≤ j) → (j < high) ⊎ (high ≤ j) → (is_within 0 low j || is_within high longest_route j) ≡ not (is_within low high j)
          by (inl a) b = (λ i. (le-leb 0 j (omega arith) i && lt-ltb j low a i) || is_within high longest_route j) ∙ sym (λ i. not (lt-leb low j a i && nat_lt j high))
          by (inr a) (inl b) = (λ i. (nat_le 0 j && le-ltb j low a i) || (lt-leb high j b i && nat_lt j longest_route)) ∙ off (nat_le 0 j) ∙ sym (λ i. not (le-leb low j a i && lt-ltb j high b i))
            where
              off : (c : Bool) → ((c && false) || (false && nat_lt j longest_route)) ≡ false
              off true = refl
              off false = refl
          by (inr a) (inr b) = (λ i. (nat_le 0 j && le-ltb j low a i) || (le-leb high j b i && lt-ltb j longest_route (omega (arith, l, k)) i)) ∙ on (nat_le 0 j) ∙ sym (λ i. not (le-leb low j a i && le-ltb j high b i))
            where
              on : (c : Bool) → ((c && false) || true) ≡ true
              on true = refl
              on false = refl

-- ---- all rows

pub clips_rows : (low high : ℕ) (rows : List Span) → are_rows rows ≡ true → are_rows (flat_map (clip low high) rows) ≡ true
clips_rows low high rows h = rows_are (flat_map (clip low high) rows) (pieces_rows 0 (clip low high) rows (rows_from rows h) (λ r m. clip_pieces low high r))

pub rests_rows : (low high : ℕ) (rows : List Span) → low < high → are_rows rows ≡ true → are_rows (flat_map (outside low high) rows) ≡ true
rests_rows low high rows l h = rows_are (flat_map (outside low high) rows) (pieces_rows 0 (outside low high) rows (rows_from rows h) (λ r m. outside_pieces low high l r))

pub clips_hold : (low high : ℕ) (rows : List Span) → IsThat (λ class asset j s. is_within low high j) rows (flat_map (clip low high) rows)
clips_hold low high rows class asset j s = all_parts class asset j s (clip low high) (is_within low high j) rows (λ r m. clip_holds class asset j s low high r)
