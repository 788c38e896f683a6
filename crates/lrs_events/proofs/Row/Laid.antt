-- The rows of one asset, with the gaps between them, are maximal runs.
use Rattle.std.proofs.Common.{◌≡◌, ℕ, ◌+◌, ◌<◌, ◌≤◌, Bool, true, false, cond, Option, Some, None, ◌⊎◌, inl, inr, List, [], ◌∷◌, map, refl, sym, ap, subst, ◌∙◌, arith}
use Rattle.std.specs.Prelude.{◌||◌, ◌&&◌, not, nat_lt, nat_le}
use Rattle.std.specs.List.{range_with_len, list_any, filter, filter_map}
use Rattle.std.proofs.lemmas.Bool.{and_from, lt-ltb, le-ltb, le-leb, lt-leb, leb-true, cases_lt, cases_Bool}
use Rattle.lrs_measure.specs.Runs.{Run, runs_of, same_option}
use Rattle.lrs_measure.specs.MaximalRuns.{IsChain, begin_other, neighbours_differ}
use Rattle.lrs_measure.proofs.Runs.{AreValued, range_runs_are}
use Rattle.lrs_measure.specs.Lists.{In}
use Rattle.lrs_measure.proofs.Members.{all_at, In-filter}
use Rattle.lrs_events.specs.declared.side.Side.{Side}
use Rattle.lrs_events.specs.declared.side.Side.TheVariants.{L, R, B}
use Rattle.lrs_events.specs.declared.side.LinkSide.{LinkSide}
use Rattle.lrs_events.specs.declared.side.LinkSide.TheVariants.{Left, Right}
use Rattle.lrs_events.specs.declared.span.Span.{Span}
use Rattle.lrs_events.specs.Canonical.{side_of, held_run}
use Rattle.lrs_events.specs.Members.{has_side, between}
use Rattle.lrs_events.specs.Spans.{same_side, are_rows}
use Rattle.lrs_events.specs.Row.RunLaws.{row_run, end_within}
use Rattle.lrs_events.proofs.Row.Unique.{is_same}
use Rattle.lrs_events.proofs.Row.Rows.{AreRows, left_place, sides_same, rows_from}
use Rattle.lrs_events.proofs.Row.Replaced.{found_rows}

-- whether one of the rows is over the millimetre on the side
abbrev pub is_over : List Span → ℕ → LinkSide → Bool
is_over rows j s = list_any (λ r. between r.from r.to r.side j s) rows

-- on which side or sides
abbrev pub side_over : List Span → ℕ → Option Side
side_over rows j = side_of (is_over rows j Left) (is_over rows j Right)

-- rows of one asset between two chainages
pub record AreLaid (asset at len : ℕ) (rows : List Span) : Type 0 where
  pub kept : AreRows rows
  pub of_asset : (r : Span) → In r rows → r.asset ≡ asset
  pub low : (r : Span) → In r rows → at ≤ r.from
  pub high : (r : Span) → In r rows → r.to ≤ len
  pub within : at ≤ len

-- rows that begin there are on other sides
abbrev BeginOther : Side → ℕ → List Span → Type 0
BeginOther side at rows = (s : Span) → In s rows → s.from ≡ at → same_side side s.side ≡ false

module _ (asset at len : ℕ) (r : Span) (rs : List Span) (h : AreLaid asset at len (r ∷ rs)) where
  of_one : (s : Span) → In s rs → r.asset ≡ s.asset
  of_one s m = h.of_asset r (inl refl) ∙ sym (h.of_asset s (inr m))

  later_low : (s : Span) → In s rs → r.to ≤ s.from
  later_low s m = let a = h.kept.pairs.0 s m in left_place r s a.left (a.one_class (of_one s m)) (of_one s m)

  later : AreLaid asset r.to len rs
  later = record {
    kept = record { full = λ s m. h.kept.full s (inr m); pairs = h.kept.pairs.1 };
    of_asset = λ s m. h.of_asset s (inr m);
    low = later_low;
    high = λ s m. h.high s (inr m);
    within = h.high r (inl refl);
  }

  differ : BeginOther r.side r.to rs
  differ s m t = by (cases_Bool (same_side r.side s.side))
    where
      by : (same_side r.side s.side ≡ true) ⊎ (same_side r.side s.side ≡ false) → same_side r.side s.side ≡ false
      by (inl k) =
          let a = h.kept.pairs.0 s m in
          absurd (a.not_joined (record { of_class = a.one_class (of_one s m); of_asset = of_one s m; at = sym t; on_side = sides_same r.side s.side k }))
      by (inr k) = k

-- ---- what rows are over

none_over : (rows : List Span) (k : ℕ) (s : LinkSide) → ((r : Span) → In r rows → k < r.from) → is_over rows k s ≡ false
none_over [] k s h = refl
none_over (r ∷ rs) k s h =
    let first = lt-leb r.from k (h r (inl refl)) in
    let rest = none_over rs k s (λ q m. h q (inr m)) in
    λ i. ((first i && nat_lt k r.to) && has_side r.side s) || rest i

not_over : (r : Span) (k : ℕ) (s : LinkSide) → r.to ≤ k → between r.from r.to r.side k s ≡ false
not_over r k s h = ap (λ b. (nat_le r.from k && b) && has_side r.side s) (le-ltb k r.to h) ∙ none (nat_le r.from k) (has_side r.side s)
  where
    none : (a b : Bool) → ((a && false) && b) ≡ false
    none true b = refl
    none false b = refl

-- behind a row are those behind it
side_behind : (r : Span) (rs : List Span) (k : ℕ) → r.to ≤ k → side_over (r ∷ rs) k ≡ side_over rs k
side_behind r rs k h = let left = not_over r k Left h in let right = not_over r k Right h in λ i. side_of (left i || is_over rs k Left) (right i || is_over rs k Right)

-- along a row is it alone
side_along : (r : Span) (rs : List Span) (k : ℕ) → r.from ≤ k → k < r.to → ((s : Span) → In s rs → k < s.from) → side_over (r ∷ rs) k ≡ Some r.side
side_along r rs k low high h = (λ i. side_of (it Left i) (it Right i)) ∙ its_side r.side
  where
    it : (s : LinkSide) → is_over (r ∷ rs) k s ≡ (has_side r.side s || false)
    it s = let a = le-leb r.from k low in let b = lt-ltb k r.to high in let c = none_over rs k s h in λ i. ((a i && b i) && has_side r.side s) || c i

    its_side : (side : Side) → side_of (has_side side Left || false) (has_side side Right || false) ≡ Some side
    its_side L = refl
    its_side R = refl
    its_side B = refl

-- before all rows is none
side_before : (rows : List Span) (k : ℕ) → ((r : Span) → In r rows → k < r.from) → side_over rows k ≡ None
side_before rows k h = let left = none_over rows k Left h in let right = none_over rows k Right h in λ i. side_of (left i) (right i)

-- ---- rows and the gaps between them

abbrev same_sides : Option Side → Option Side → Bool
same_sides = same_option same_side

-- maximal runs of sides, of which the rows are those with a side
pub record AreGapped (f : ℕ → Option Side) (at len : ℕ) (rows : List Span) : Type 0 where
  pub runs : List (Run (Option Side))
  pub cover : IsChain at len runs
  pub values : AreValued f runs
  pub maximal : neighbours_differ same_sides runs ≡ true
  pub first : (side : Side) → BeginOther side at rows → begin_other same_sides (Some side) runs ≡ true
  pub shown : filter_map held_run runs ≡ map row_run rows

module _ (f : ℕ → Option Side) (asset len : ℕ) where
  gapped_end : (at : ℕ) → at ≤ len → ((k : ℕ) → at ≤ k → f k ≡ side_over [] k) → AreGapped f at len []
  gapped_end at h same = by (cases_lt at len)
    where
      by : (at < len) ⊎ (len ≤ at) → AreGapped f at len []
      by (inl k) = record {
        runs = record { from = at; to = len; value = None } ∷ [];
        cover = (refl, k, refl);
        values = ((λ j low high. same j low), tt);
        maximal = refl;
        first = λ side o. refl;
        shown = refl;
      }
      by (inr k) = record { runs = []; cover = omega (arith, h, k); values = tt; maximal = refl; first = λ side o. refl; shown = refl }

  -- where a row begins
  gapped_row : (r : Span) (rs : List Span) (at : ℕ) → AreLaid asset at len (r ∷ rs) → ((k : ℕ) → at ≤ k → f k ≡ side_over (r ∷ rs) k) → AreGapped f r.to len rs → AreGapped f r.from len (r ∷ rs)
  gapped_row r rs at h same rest = record {
    runs = record { from = r.from; to = r.to; value = Some r.side } ∷ rest.runs;
    cover = (refl, (h.kept.full r (inl refl)).some, rest.cover);
    values = (
      (λ k low high. same k (let l = h.low r (inl refl) in omega (arith, l, low)) ∙ side_along r rs k low high (λ s m. let l = later_low asset at len r rs h s m in omega (arith, l, high))),
      rest.values,
    );
    maximal = and_from (begin_other same_sides (Some r.side) rest.runs) (neighbours_differ same_sides rest.runs) (rest.first r.side (differ asset at len r rs h)) rest.maximal;
    first = λ side o. ap not (o r (inl refl) refl);
    shown = ap (λ rows. row_run r ∷ rows) rest.shown;
  }

  -- ... and where there is a gap before it
  gapped_gap : (r : Span) (rs : List Span) (at : ℕ) → AreLaid asset at len (r ∷ rs) → ((k : ℕ) → at ≤ k → f k ≡ side_over (r ∷ rs) k) → AreGapped f r.to len rs → at < r.from → AreGapped f at len (r ∷ rs)
  gapped_gap r rs at h same rest gap = record {
    runs = record { from = at; to = r.from; value = None } ∷ record { from = r.from; to = r.to; value = Some r.side } ∷ rest.runs;
    cover = (refl, gap, (refl, (h.kept.full r (inl refl)).some, rest.cover));
    values = (
      (λ k low high. same k low ∙ side_before (r ∷ rs) k (ahead k high)),
      (
        (λ k low high. same k (omega (arith, gap, low)) ∙ side_along r rs k low high (λ s m. let l = later_low asset at len r rs h s m in omega (arith, l, high))),
        rest.values,
      ),
    );
    maximal = and_from (begin_other same_sides (Some r.side) rest.runs) (neighbours_differ same_sides rest.runs) (rest.first r.side (differ asset at len r rs h)) rest.maximal;
    first = λ side o. refl;
    shown = ap (λ rows. row_run r ∷ rows) rest.shown;
  }
    where
      ahead : (k : ℕ) → k < r.from → (s : Span) → In s (r ∷ rs) → k < s.from
      ahead k high s (inl e) = subst (λ z. k < z.from) (sym e) high
      ahead k high s (inr m) = let l = later_low asset at len r rs h s m in let full = (h.kept.full r (inl refl)).some in omega (arith, l, high, full)

  gapped : (rows : List Span) (at : ℕ) → AreLaid asset at len rows → ((k : ℕ) → at ≤ k → f k ≡ side_over rows k) → AreGapped f at len rows
  gapped [] at h same = gapped_end at h.within same
  gapped (r ∷ rs) at h same =
      let low = h.low r (inl refl) in
      let full = (h.kept.full r (inl refl)).some in
      by (cases_lt at r.from) (gapped rs r.to (later asset at len r rs h) (λ k l. same k (omega (arith, low, full, l)) ∙ side_behind r rs k l))
    where
      by : (at < r.from) ⊎ (r.from ≤ at) → AreGapped f r.to len rs → AreGapped f at len (r ∷ rs)
      by (inl k) rest = gapped_gap r rs at h same rest k
      by (inr k) rest =
          let low = h.low r (inl refl) in
          let e : r.from ≡ at = omega (arith, k, low) in
          let P : ℕ → Type 0 = λ n. AreGapped f n len (r ∷ rs) in subst P e (gapped_row r rs at h same rest)

-- rows of one asset are the maximal runs of the sides that they are on
pub laid_runs : (f : ℕ → Option Side) (asset len : ℕ) (rows : List Span) → AreLaid asset 0 len rows → ((k : ℕ) → f k ≡ side_over rows k)
    → map row_run rows ≡ filter_map held_run (runs_of (same_option same_side) (map f (range_with_len 0 len)))
laid_runs f asset len rows h same =
    let g = gapped f asset len rows 0 h (λ k l. same k) in
    let whole : len ≡ 0 + len = omega arith in
    let P : ℕ → Type 0 = λ n. IsChain 0 n g.runs in
    sym g.shown ∙ ap (filter_map held_run) (sym (range_runs_are same_sides itself f 0 len g.runs (subst P whole g.cover) g.values g.maximal))
  where
    itself : (side : Option Side) → same_sides side side ≡ true
    itself None = refl
    itself (Some side) = is_same side side refl

-- ---- the rows that pass a test

pub any_passed : (p q : Span → Bool) (rows : List Span) → list_any q (filter p rows) ≡ list_any (λ r. p r && q r) rows
any_passed p q [] = refl
any_passed p q (r ∷ rs) = by (p r) (any_passed p q rs)
  where
    by : (b : Bool) → list_any q (filter p rs) ≡ list_any (λ s. p s && q s) rs → list_any q (cond b (r ∷ filter p rs) (filter p rs)) ≡ ((b && q r) || list_any (λ s. p s && q s) rs)
    by true rest = ap (λ t. q r || t) rest
    by false rest = rest

-- those of one asset lie within the length of the route
pub laid : (p : Span → Bool) (asset len : ℕ) (rows : List Span) → are_rows rows ≡ true → end_within len rows ≡ true → ((r : Span) → p r ≡ true → r.asset ≡ asset) → AreLaid asset 0 len (filter p rows)
laid p asset len rows h k of_asset = record {
  kept = rows_from (filter p rows) (found_rows p rows h);
  of_asset = λ r m. of_asset r (In-filter p r rows m).1;
  low = λ r m. omega arith;
  high = λ r m. leb-true r.to len (all_at (λ s. nat_le s.to len) r rows k (In-filter p r rows m).0);
  within = omega arith;
}
