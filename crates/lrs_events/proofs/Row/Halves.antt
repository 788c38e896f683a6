-- Rows in two parts.
use Rattle.std.proofs.Common.{◌≡◌, ℕ, ◌+◌, ◌-◌, ◌<◌, ◌≤◌, Bool, true, false, cond, inl, inr, List, [], ◌∷◌, refl, sym, ap, subst, ◌∙◌, arith}
use Rattle.std.specs.Prelude.{◌||◌, ◌&&◌, nat_lt, nat_le, nat_eq}
use Rattle.std.specs.List.{list_any, filter, flat_map}
use Rattle.std.proofs.lemmas.Bool.{ltb-true, ltb-false, le-leb, lt-ltb}
use Rattle.std.proofs.lemmas.Bool.Decides.{nat_tests}
use Rattle.std.proofs.lemmas.List.Folds.{list_any-append}
use Rattle.lrs_measure.specs.Texts.{Name, same_name}
use Rattle.lrs_measure.specs.Lists.{In}
use Rattle.lrs_events.specs.declared.side.LinkSide.{LinkSide}
use Rattle.lrs_events.specs.declared.span.Span.{Span}
use Rattle.lrs_events.specs.Spans.{are_rows}
use Rattle.lrs_events.specs.Members.{has_side, has_member, is_member}
use Rattle.lrs_events.specs.declared.rows.cuts.Cut.{Cut}
use Rattle.lrs_events.specs.Row.Order.{grown}
use Rattle.lrs_events.specs.Row.Changes.{missing}
use Rattle.lrs_events.specs.Row.Clips.{clip, rear}
use Rattle.lrs_events.specs.Row.Cuts.{IsCutOff}
use Rattle.lrs_events.proofs.Row.Unique.{over}
use Rattle.lrs_events.proofs.Row.Rows.{IsFull, rows_from, rows_are}
use Rattle.lrs_events.proofs.Row.Pieces.{IsPiece, ArePieces, pieces_rows, clip_pieces, all_parts, clip_holds, clips_rows}
use Rattle.lrs_events.proofs.Row.Replaced.{any_filter, instead, is_replaced}

rear_pieces : (at : ℕ) (r : Span) → IsFull r → ArePieces at r (rear at r)
rear_pieces at r f = by (nat_lt at r.to) refl
  where
    one : at < r.to → (p : Span) → In p (grown r (r.from - at) (r.to - at) ∷ []) → IsPiece at r p
    one h p (inl e) = let s = f.some in subst (IsPiece at r) (sym e) (record { of_class = refl; of_asset = refl; on_side = refl; low = omega arith; some = omega (arith, s, h); high = omega (arith, h) })
    one h p (inr m) = absurd m

    by : (b : Bool) → b ≡ nat_lt at r.to → ArePieces at r (cond b (grown r (r.from - at) (r.to - at) ∷ []) [])
    by true e = record { each = one (ltb-true at r.to (sym e)); pairs = (λ s m. absurd m, tt) }
    by false e = record { each = λ p m. absurd m; pairs = tt }

module _ (class : Name) (asset j : ℕ) (s : LinkSide) where
  rear_holds : (at : ℕ) (r : Span) → list_any (λ q. has_member q class asset j s) (rear at r) ≡ has_member r class asset (j + at) s
  rear_holds at r = by (nat_lt at r.to) refl
    where
      or_nothing : (b : Bool) → (b || false) ≡ b
      or_nothing true = refl
      or_nothing false = refl

      nothing : (c a d : Bool) → false ≡ (c && (a && (false && d)))
      nothing false a d = refl
      nothing true false d = refl
      nothing true true d = refl

      here : at < r.to → (nat_le (r.from - at) j && nat_lt j (r.to - at)) ≡ (nat_le r.from (j + at) && nat_lt (j + at) r.to)
      here h = grind (arith, nat_tests)

      past : r.to ≤ at → false ≡ (nat_le r.from (j + at) && nat_lt (j + at) r.to)
      past h = grind (arith, nat_tests)

      by : (b : Bool) → b ≡ nat_lt at r.to → list_any (λ q. has_member q class asset j s) (cond b (grown r (r.from - at) (r.to - at) ∷ []) []) ≡ has_member r class asset (j + at) s
      by true e = or_nothing _ ∙ (λ i. same_name r.class class && (nat_eq r.asset asset && (here (ltb-true at r.to (sym e)) i && has_side r.side s)))
      by false e = nothing (same_name r.class class) (nat_eq r.asset asset) (has_side r.side s) ∙ (λ i. same_name r.class class && (nat_eq r.asset asset && (past (ltb-false at r.to (sym e)) i && has_side r.side s)))

  rears_hold : (at : ℕ) (rows : List Span) → is_member (flat_map (rear at) rows) class asset j s ≡ is_member rows class asset (j + at) s
  rears_hold at [] = refl
  rears_hold at (r ∷ rs) = list_any-append (λ q. has_member q class asset j s) (rear at r) (flat_map (rear at) rs) ∙ (λ i. rear_holds at r i || rears_hold at rs i)

  front_each : (at : ℕ) (r : Span) → list_any (λ q. has_member q class asset j s) (instead (λ q. nat_lt at q.to) (clip 0 at) r) ≡ (has_member r class asset j s && nat_lt j at)
  front_each at r = by (nat_lt at r.to) refl
    where
      whole : r.to ≤ at → (b : Bool) → b ≡ has_member r class asset j s → (b || false) ≡ (b && nat_lt j at)
      whole h true e = let o = (over r class asset j s (sym e)).high in sym (lt-ltb j at (omega (arith, o, h)))
      whole h false e = refl

      by : (b : Bool) → b ≡ nat_lt at r.to → list_any (λ q. has_member q class asset j s) (cond b (clip 0 at r) (r ∷ [])) ≡ (has_member r class asset j s && nat_lt j at)
      by true e = clip_holds class asset j s 0 at r ∙ (λ i. has_member r class asset j s && (le-leb 0 j (omega arith) i && nat_lt j at))
      by false e = whole (ltb-false at r.to (sym e)) (has_member r class asset j s) refl

  front_holds : (at : ℕ) (rows : List Span) → is_member (flat_map (instead (λ q. nat_lt at q.to) (clip 0 at)) rows) class asset j s ≡ (is_member rows class asset j s && nat_lt j at)
  front_holds at rows = all_parts class asset j s (instead (λ q. nat_lt at q.to) (clip 0 at)) (nat_lt j at) rows (λ r m. front_each at r)

  rear_found : (at : ℕ) (rows : List Span) → is_member (flat_map (rear at) (filter (λ r. nat_lt at r.to) rows)) class asset j s ≡ is_member rows class asset (j + at) s
  rear_found at rows =
      rears_hold at (filter (λ r. nat_lt at r.to) rows)
      ∙ any_filter (λ q. has_member q class asset (j + at) s) (λ r. nat_lt at r.to) rows (λ r m e. let o = (over r class asset (j + at) s e).high in lt-ltb at r.to (omega (arith, o)))

pub cut_off : (rows found front : List Span) (cut : Cut) (at : ℕ) → are_rows rows ≡ true → are_rows found ≡ true → found ≡ filter (λ r. nat_lt at r.to) rows
    → front ≡ flat_map (clip 0 at) found → cut.rear.items ≡ flat_map (rear at) found
    → cut.change.gone.items ≡ missing front found → cut.change.come.items ≡ missing found front → IsCutOff at rows cut
cut_off rows found front cut at h k e f b g c =
    let all = rows_from rows h in
    let some = rows_from found k in
    let made = is_replaced (λ r. nat_lt at r.to) (clip 0 at) rows all (λ r m. clip_pieces 0 at r) found front cut.change e f (ap are_rows f ∙ clips_rows 0 at found k) g c in
    record {
      kept = made.kept;
      change = made.differs;
      rear_rows = (λ i. are_rows (b i)) ∙ rows_are (flat_map (rear at) found) (pieces_rows at (rear at) found some (λ r m. rear_pieces at r (some.full r m)));
      parts = record {
        before = λ class asset j s. (λ i. is_member (made.made i) class asset j s) ∙ front_holds class asset j s at rows;
        behind = λ class asset j s. (λ i. is_member (b i) class asset j s) ∙ (λ i. is_member (flat_map (rear at) (e i)) class asset j s) ∙ rear_found class asset j s at rows;
      };
    }
