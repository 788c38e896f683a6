-- To take away the places of a class it is enough to look at the assets of the class that are met there.
use Rattle.std.proofs.Common.{◌≡◌, ℕ, Bool, true, false, List, refl, sym, ap, ◌∙◌, arith}
use Rattle.std.specs.Prelude.{◌&&◌, not, nat_lt, nat_le, nat_eq}
use Rattle.std.specs.List.{list_any}
use Rattle.std.proofs.lemmas.Bool.{both_ways, and_parts, and_from, leb-true, ltb-true, lt-ltb, eq-eqb}
use Rattle.lrs_measure.specs.Texts.{Name, same_name}
use Rattle.lrs_measure.proofs.Members.{any_found, any_of}
use Rattle.lrs_events.specs.declared.side.Side.{Side}
use Rattle.lrs_events.specs.declared.side.LinkSide.{LinkSide}
use Rattle.lrs_events.specs.declared.span.Span.{Span}
use Rattle.lrs_events.specs.Members.{has_side, has_member, is_member}
use Rattle.lrs_events.specs.declared.rows.removals.Removal.{Removal}
use Rattle.lrs_events.specs.Row.Members.{is_of}
use Rattle.lrs_events.specs.Row.Removals.{is_within, is_met, IsRemoval}
use Rattle.lrs_events.specs.Row.Sides.{of_side_within}
use Rattle.lrs_events.specs.RouteSpans.Overlaps.{is_met_asset}
use Rattle.lrs_events.proofs.Row.Unique.{over}

-- where two tests agree on what is there, so they do on what is not taken
not_taken : (m t u : Bool) → (m && t) ≡ (m && u) → (m && not t) ≡ (m && not u)
not_taken true t u h = ap not h
not_taken false t u h = refl

module _ (rows : List Span) (class : Name) (low high : ℕ) (side : Side) where
  abbrev by_class : Name → ℕ → ℕ → LinkSide → Bool
  by_class c a j s = same_name c class && (is_within low high j && has_side side s)

  agree : (c : Name) (a j : ℕ) (s : LinkSide) → (is_member rows c a j s && of_side_within (is_met_asset rows class low high) low high side c a j s) ≡ (is_member rows c a j s && by_class c a j s)
  agree c a j s = by (is_member rows c a j s) (same_name c class) (list_any (λ q. is_of class a q && is_met low high q) rows) (is_within low high j) (has_side side s) refl refl refl refl
    where
      met : is_member rows c a j s ≡ true → same_name c class ≡ true → is_within low high j ≡ true → list_any (λ q. is_of class a q && is_met low high q) rows ≡ true
      met m e w =
          let f = any_found (λ r. has_member r c a j s) rows m in
          let r = f.0 in
          let o = over r c a j s f.2 in
          let b = and_parts (nat_le low j) (nat_lt j high) w in
          let x = leb-true low j b.0 in
          let y = ltb-true j high b.1 in
          let p = o.low in
          let q = o.high in
          any_of (λ z. is_of class a z && is_met low high z) r rows f.1
          (and_from (is_of class a r) (is_met low high r)
          (and_from (same_name r.class class) (nat_eq r.asset a) ((λ i. same_name (o.of_class i) class) ∙ e) (eq-eqb r.asset a o.of_asset))
          (and_from (nat_lt r.from high) (nat_lt low r.to) (lt-ltb r.from high (omega (arith, p, y))) (lt-ltb low r.to (omega (arith, x, q)))))

      by : (m e l w t : Bool) → m ≡ is_member rows c a j s → e ≡ same_name c class → l ≡ list_any (λ q. is_of class a q && is_met low high q) rows → w ≡ is_within low high j
          → (m && ((e && l) && (w && t))) ≡ (m && (e && (w && t)))
      by false e l w t g h k n = refl
      by true false l w t g h k n = refl
      by true true true w t g h k n = refl
      by true true false false t g h k n = refl
      by true true false true t g h k n = absurd (both_ways (list_any (λ q. is_of class a q && is_met low high q) rows) (sym k) (met (sym g) (sym h) (sym n)))

  pub met_removal : (removal : Removal) → IsRemoval (of_side_within (is_met_asset rows class low high) low high side) rows removal → IsRemoval by_class rows removal
  met_removal removal h = record {
    kept = h.kept;
    change = h.change;
    rest = λ c a j s. h.rest c a j s ∙ not_taken (is_member rows c a j s) (of_side_within (is_met_asset rows class low high) low high side c a j s) (by_class c a j s) (agree c a j s);
    left_rows = h.left_rows;
    left = λ c a j s. h.left c a j s ∙ agree c a j s;
  }
