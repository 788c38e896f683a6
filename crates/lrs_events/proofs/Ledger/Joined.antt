-- Neighbouring millimetres that an asset has on one side are in one run.
use Rattle.std.proofs.Common.{◌≡◌, ℕ, ◌+◌, ◌<◌, ◌≤◌, Bool, true, false, cond, ◌⊎◌, inl, inr, List, [], ◌∷◌, refl, sym, ap, ◌∙◌, arith}
use Rattle.std.specs.Prelude.{◌||◌, ◌&&◌, nat_eq, nat_le, nat_lt}
use Rattle.std.specs.List.{list_any, list_all}
use Rattle.std.proofs.lemmas.Bool.{false≢true, and_parts, and_from, or_cases, or_left, or_right, cases_Bool, eqb-true, eq-eqb, leb-true, ltb-true, le-leb, lt-ltb}
use Rattle.lrs_measure.specs.Lists.{In, each_two}
use Rattle.lrs_measure.proofs.Members.{any_found, all_at}
use Rattle.lrs_events.specs.declared.side.LinkSide.{LinkSide}
use Rattle.lrs_events.specs.declared.span.Span.{Span}
use Rattle.lrs_events.specs.Members.{has_side, stands_for}
use Rattle.lrs_events.specs.Spans.{span_before, are_apart, is_row}
use Rattle.lrs_events.specs.declared.ledgers.run.Run.{Run}
use Rattle.lrs_events.specs.Ledger.Runs.{goes_on, with_run, with_row, runs_from}
use Rattle.lrs_events.specs.Ledger.Ledger.{are_on}
use Rattle.lrs_events.proofs.Ledger.Counted.{upright, longer, run_of, is_upright, with_row_upright}
use Rattle.lrs_events.proofs.Ledger.Ordered.{before, starts_later, between, apart, Stands, stands}

module _ (a j : ℕ) where
  -- the run has the millimetre and the next one for the asset
  abbrev pub covers : Run → Bool
  covers x = nat_eq x.asset a && nat_le x.from j && nat_lt (j + 1) x.to

  -- the run ends between the two
  abbrev ends_here : Run → Bool
  ends_here x = nat_eq x.asset a && nat_le x.from j && nat_eq x.to (j + 1)

  -- ... and is the last one
  abbrev ends : List Run → Bool
  ends [] = false
  ends (x ∷ []) = ends_here x
  ends (x ∷ z ∷ xs) = ends (z ∷ xs)

  covers_from : (x : Run) → x.asset ≡ a → x.from ≤ j → j + 1 < x.to → covers x ≡ true
  covers_from x e low high = and_from (nat_eq x.asset a && nat_le x.from j) (nat_lt (j + 1) x.to) (and_from (nat_eq x.asset a) (nat_le x.from j) (eq-eqb x.asset a e) (le-leb x.from j low)) (lt-ltb (j + 1) x.to high)

  ends_from : (x : Run) → x.asset ≡ a → x.from ≤ j → x.to ≡ j + 1 → ends_here x ≡ true
  ends_from x e low high = and_from (nat_eq x.asset a && nat_le x.from j) (nat_eq x.to (j + 1)) (and_from (nat_eq x.asset a) (nat_le x.from j) (eq-eqb x.asset a e) (le-leb x.from j low)) (eq-eqb x.to (j + 1) high)

  pub record Covers (x : Run) : Type 0 where
    pub asset : x.asset ≡ a
    pub low : x.from ≤ j
    pub high : j + 1 < x.to

  pub covered : (x : Run) → covers x ≡ true → Covers x
  covered x h =
      let one = and_parts (nat_eq x.asset a && nat_le x.from j) (nat_lt (j + 1) x.to) h in
      let two = and_parts (nat_eq x.asset a) (nat_le x.from j) one.0 in
      record { asset = eqb-true x.asset a two.0; low = leb-true x.from j two.1; high = ltb-true (j + 1) x.to one.1 }

  record EndsHere (x : Run) : Type 0 where
    pub asset : x.asset ≡ a
    pub low : x.from ≤ j
    pub high : x.to ≡ j + 1

  ended : (x : Run) → ends_here x ≡ true → EndsHere x
  ended x h =
      let one = and_parts (nat_eq x.asset a && nat_le x.from j) (nat_eq x.to (j + 1)) h in
      let two = and_parts (nat_eq x.asset a) (nat_le x.from j) one.0 in
      record { asset = eqb-true x.asset a two.0; low = leb-true x.from j two.1; high = eqb-true x.to (j + 1) one.1 }

  picked : (P : List Run → Bool) (b : Bool) (x y : Run) → (b ≡ true → P (longer x y ∷ []) ≡ true) → (b ≡ false → P (x ∷ y ∷ []) ≡ true) → P (cond b (longer x y ∷ []) (x ∷ y ∷ [])) ≡ true
  picked P true x y h k = h refl
  picked P false x y h k = k refl

  record Joins (x y : Run) : Type 0 where
    pub asset : x.asset ≡ y.asset
    pub meets : x.to ≡ y.from

  joins : (x y : Run) → goes_on x y ≡ true → Joins x y
  joins x y h = let both = and_parts (nat_eq x.asset y.asset) (nat_eq x.to y.from) h in record { asset = eqb-true x.asset y.asset both.0; meets = eqb-true x.to y.from both.1 }

  abbrev any_covers : List Run → Bool
  any_covers xs = list_any covers xs

  or_none : (b : Bool) → b ≡ true → (b || false) ≡ true
  or_none true h = refl
  or_none false h = h

  still : (xs : List Run) (y : Run) → upright y ≡ true → any_covers xs ≡ true → any_covers (with_run xs y) ≡ true
  still [] y u h = absurd (false≢true h)
  still (x ∷ []) y u h = picked any_covers (goes_on x y) x y
      (λ g.
      let k = joins x y g in
      let c = covered x (here (or_cases (covers x) false h)) in
      let up = leb-true y.from y.to u in
      let asset = c.asset in let low = c.low in let high = c.high in let meets = k.meets in
      or_none (covers (longer x y)) (covers_from (longer x y) asset low (omega (arith, high, meets, up))))
      (λ g. or_left (covers x) (covers y || false) (here (or_cases (covers x) false h)))
    where
      here : (covers x ≡ true) ⊎ (false ≡ true) → covers x ≡ true
      here (inl e) = e
      here (inr e) = absurd (false≢true e)
  still (x ∷ z ∷ xs) y u h = by (or_cases (covers x) (any_covers (z ∷ xs)) h) (still (z ∷ xs) y u)
    where
      by : (covers x ≡ true) ⊎ (any_covers (z ∷ xs) ≡ true) → (any_covers (z ∷ xs) ≡ true → any_covers (with_run (z ∷ xs) y) ≡ true) → any_covers (x ∷ with_run (z ∷ xs) y) ≡ true
      by (inl e) rest = or_left (covers x) (any_covers (with_run (z ∷ xs) y)) e
      by (inr e) rest = or_right (covers x) (any_covers (with_run (z ∷ xs) y)) (rest e)

  at_once : (xs : List Run) (y : Run) → list_all upright xs ≡ true → covers y ≡ true → any_covers (with_run xs y) ≡ true
  at_once [] y u h = or_none (covers y) h
  at_once (x ∷ []) y u h = picked any_covers (goes_on x y) x y
      (λ g.
      let k = joins x y g in
      let c = covered y h in
      let up = leb-true x.from x.to (and_parts (upright x) true u).0 in
      let low = c.low in let meets = k.meets in
      or_none (covers (longer x y)) (covers_from (longer x y) (k.asset ∙ c.asset) (omega (arith, low, meets, up)) c.high))
      (λ g. or_right (covers x) (covers y || false) (or_none (covers y) h))
  at_once (x ∷ z ∷ xs) y u h = or_right (covers x) (any_covers (with_run (z ∷ xs) y)) (at_once (z ∷ xs) y (and_parts (upright x) (list_all upright (z ∷ xs)) u).1 h)

  ends_behind : (x : Run) (ws : List Run) → ends ws ≡ true → ends (x ∷ ws) ≡ true
  ends_behind x [] h = absurd (false≢true h)
  ends_behind x (w ∷ ws) h = h

  now_ends : (xs : List Run) (y : Run) → list_all upright xs ≡ true → ends_here y ≡ true → ends (with_run xs y) ≡ true
  now_ends [] y u h = h
  now_ends (x ∷ []) y u h = picked ends (goes_on x y) x y
      (λ g.
      let k = joins x y g in
      let c = ended y h in
      let up = leb-true x.from x.to (and_parts (upright x) true u).0 in
      let low = c.low in let meets = k.meets in
      ends_from (longer x y) (k.asset ∙ c.asset) (omega (arith, low, meets, up)) c.high)
      (λ g. h)
  now_ends (x ∷ z ∷ xs) y u h = ends_behind x (with_run (z ∷ xs) y) (now_ends (z ∷ xs) y (and_parts (upright x) (list_all upright (z ∷ xs)) u).1 h)

  goes_over : (xs : List Run) (y : Run) → ends xs ≡ true → y.asset ≡ a → y.from ≡ j + 1 → j + 1 < y.to → any_covers (with_run xs y) ≡ true
  goes_over [] y h e f t = absurd (false≢true h)
  goes_over (x ∷ []) y h e f t =
      let c = ended x h in
      let high = c.high in
      let g : goes_on x y ≡ true = and_from (nat_eq x.asset y.asset) (nat_eq x.to y.from) (eq-eqb x.asset y.asset (c.asset ∙ sym e)) (eq-eqb x.to y.from (omega (arith, high, f))) in
      ap (λ b. any_covers (cond b (longer x y ∷ []) (x ∷ y ∷ []))) g ∙ or_none (covers (longer x y)) (covers_from (longer x y) c.asset c.low t)
  goes_over (x ∷ z ∷ xs) y h e f t = or_right (covers x) (any_covers (with_run (z ∷ xs) y)) (goes_over (z ∷ xs) y h e f t)

  -- ---- row by row

  module _ (s : LinkSide) where
    on_side : (xs : List Run) (r : Span) → has_side r.side s ≡ true → with_row s xs r ≡ with_run xs (run_of r)
    on_side xs r h = ap (λ b. cond b (with_run xs (run_of r)) xs) h

    off_side : (xs : List Run) (r : Span) → has_side r.side s ≡ false → with_row s xs r ≡ xs
    off_side xs r h = ap (λ b. cond b (with_run xs (run_of r)) xs) h

    still_row : (xs : List Run) (r : Span) → is_upright r ≡ true → any_covers xs ≡ true → any_covers (with_row s xs r) ≡ true
    still_row xs r u h = by (cases_Bool (has_side r.side s))
      where
        by : (has_side r.side s ≡ true) ⊎ (has_side r.side s ≡ false) → any_covers (with_row s xs r) ≡ true
        by (inl g) = ap any_covers (on_side xs r g) ∙ still xs (run_of r) u h
        by (inr g) = ap any_covers (off_side xs r g) ∙ h

    still_rows : (xs : List Run) (rows : List Span) → list_all is_upright rows ≡ true → any_covers xs ≡ true → any_covers (runs_from s xs rows) ≡ true
    still_rows xs [] u h = h
    still_rows xs (r ∷ rs) u h = let both = and_parts (is_upright r) (list_all is_upright rs) u in still_rows (with_row s xs r) rs both.1 (still_row xs r both.0 h)

    -- rows in the order of a route, behind one of the asset that ends between the two millimetres
    record AreBehind (r : Span) (rows : List Span) : Type 0 where
      pub behind : list_all (span_before r) rows ≡ true
      pub off : list_all (are_apart r) rows ≡ true
      pub order : each_two span_before rows ≡ true
      pub each : list_all is_row rows ≡ true

    row_rises : (r : Span) → is_row r ≡ true → r.from < r.to
    row_rises r h = ltb-true r.from r.to (and_parts (nat_lt r.from r.to) (nat_le r.to Rattle.lrs_measure.specs.Limits.longest_route) h).0

    upright_row : (r : Span) → is_row r ≡ true → is_upright r ≡ true
    upright_row r h = let l = row_rises r h in le-leb r.from r.to (omega (arith, l))

    pub upright_rows : (rows : List Span) → list_all is_row rows ≡ true → list_all is_upright rows ≡ true
    upright_rows [] h = refl
    upright_rows (r ∷ rs) h = let both = and_parts (is_row r) (list_all is_row rs) h in and_from (is_upright r) (list_all is_upright rs) (upright_row r both.0) (upright_rows rs both.1)

    -- such a row begins where that one ends
    begins : (r f : Span) → r.asset ≡ a → r.from < r.to → r.to ≡ j + 1 → are_apart r f ≡ true → Stands f a (j + 1) s → f.from ≡ j + 1
    begins r f e up t h g = by (apart r f h (e ∙ sym g.asset)).off
      where
        by : (r.to ≤ f.from) ⊎ (f.to ≤ r.from) → f.from ≡ j + 1
        by (inl k) = let low = g.low in omega (arith, k, t, low)
        by (inr k) = let high = g.high in absurd (omega (arith, k, t, high, up))

    found_behind : (r : Span) (xs : List Run) (rows : List Span) → r.asset ≡ a → r.from < r.to → r.to ≡ j + 1 → ends xs ≡ true → AreBehind r rows → are_on rows a (j + 1) s ≡ true → any_covers (runs_from s xs rows) ≡ true
    found_behind r xs [] e up t h k on = absurd (false≢true on)
    found_behind r xs (f ∷ fs) e up t h k on = by (cases_Bool (stands_for f a (j + 1) s)) (cases_Bool (has_side f.side s)) (found_behind r xs fs e up t h rest)
      where
        behind : (span_before r f ≡ true) × (list_all (span_before r) fs ≡ true)
        behind = and_parts (span_before r f) (list_all (span_before r) fs) k.behind

        off : (are_apart r f ≡ true) × (list_all (are_apart r) fs ≡ true)
        off = and_parts (are_apart r f) (list_all (are_apart r) fs) k.off

        order : (list_all (span_before f) fs ≡ true) × (each_two span_before fs ≡ true)
        order = and_parts (list_all (span_before f) fs) (each_two span_before fs) k.order

        each : (is_row f ≡ true) × (list_all is_row fs ≡ true)
        each = and_parts (is_row f) (list_all is_row fs) k.each

        rest : AreBehind r fs
        rest = record { behind = behind.1; off = off.1; order = order.1; each = each.1 }

        later : stands_for f a (j + 1) s ≡ false → are_on fs a (j + 1) s ≡ true
        later n = ap (λ b. b || are_on fs a (j + 1) s) (sym n) ∙ on

        none : stands_for f a (j + 1) s ≡ false → ⊥
        none n =
            let g = any_found (λ row. stands_for row a (j + 1) s) fs (later n) in
            let there = stands g.0 a (j + 1) s g.2 in
            let from = begins r g.0 e up t (all_at (are_apart r) g.0 fs off.1 g.1) there in
            let same = apart r g.0 (all_at (are_apart r) g.0 fs off.1 g.1) (e ∙ sym there.asset) in
            let b = between r f g.0 (before r f behind.0) (before f g.0 (all_at (span_before f) g.0 fs order.0 g.1)) same.class (e ∙ sym there.asset) in
            let first = starts_later r f (before r f behind.0) b.class b.asset in
            let next = starts_later f g.0 (before f g.0 (all_at (span_before f) g.0 fs order.0 g.1)) (sym b.class ∙ same.class) (sym b.asset ∙ e ∙ sym there.asset) in
            let rises = row_rises f each.0 in
            clash from first next rises (apart r f off.0 b.asset).off
          where
            clash : {m : ℕ} → m ≡ j + 1 → r.from < f.from → f.from < m → f.from < f.to → (r.to ≤ f.from) ⊎ (f.to ≤ r.from) → ⊥
            clash p q u v (inl w) = omega (arith, p, u, w, t)
            clash p q u v (inr w) = omega (arith, q, v, w)

        by : (stands_for f a (j + 1) s ≡ true) ⊎ (stands_for f a (j + 1) s ≡ false) → (has_side f.side s ≡ true) ⊎ (has_side f.side s ≡ false)
            → (are_on fs a (j + 1) s ≡ true → any_covers (runs_from s xs fs) ≡ true) → any_covers (runs_from s xs (f ∷ fs)) ≡ true
        by (inl g) o more =
            let there = stands f a (j + 1) s g in
            still_rows (with_row s xs f) fs (upright_rows fs each.1)
            (ap any_covers (on_side xs f there.side) ∙ goes_over xs (run_of f) h there.asset (begins r f e up t off.0 there) there.high)
        by (inr n) (inl o) more = absurd (none n)
        by (inr n) (inr o) more = ap (λ ys. any_covers (runs_from s ys fs)) (off_side xs f o) ∙ more (later n)

    pub record AreInOrder (rows : List Span) : Type 0 where
      pub order : each_two span_before rows ≡ true
      pub off : each_two are_apart rows ≡ true
      pub each : list_all is_row rows ≡ true

    pub one_run : (xs : List Run) (rows : List Span) → list_all upright xs ≡ true → AreInOrder rows → are_on rows a j s ≡ true → are_on rows a (j + 1) s ≡ true → any_covers (runs_from s xs rows) ≡ true
    one_run xs [] u k h g = absurd (false≢true h)
    one_run xs (r ∷ rs) u k h g =
        by (cases_Bool (stands_for r a j s)) (cases_Bool (stands_for r a (j + 1) s))
        (one_run (with_row s xs r) rs (with_row_upright s xs r u (upright_row r each.0)) (record { order = order.1; off = off.1; each = each.1 }))
      where
        order : (list_all (span_before r) rs ≡ true) × (each_two span_before rs ≡ true)
        order = and_parts (list_all (span_before r) rs) (each_two span_before rs) k.order

        off : (list_all (are_apart r) rs ≡ true) × (each_two are_apart rs ≡ true)
        off = and_parts (list_all (are_apart r) rs) (each_two are_apart rs) k.off

        each : (is_row r ≡ true) × (list_all is_row rs ≡ true)
        each = and_parts (is_row r) (list_all is_row rs) k.each

        later : (i : ℕ) → stands_for r a i s ≡ false → are_on (r ∷ rs) a i s ≡ true → are_on rs a i s ≡ true
        later i n on = ap (λ b. b || are_on rs a i s) (sym n) ∙ on

        first : Stands r a j s → (m : Span) → In m rs → Stands m a (j + 1) s → r.to ≡ j + 1
        first here m i there = side (apart r m (all_at (are_apart r) m rs off.0 i) (here.asset ∙ sym there.asset)).off
          where
            side : (r.to ≤ m.from) ⊎ (m.to ≤ r.from) → r.to ≡ j + 1
            side (inl p) = let x = here.high in let y = there.low in omega (arith, p, x, y)
            side (inr p) = let x = here.low in let y = there.high in absurd (omega (arith, p, x, y))

        never : Stands r a (j + 1) s → (m : Span) → In m rs → Stands m a j s → ⊥
        never here m i there =
            let o = apart r m (all_at (are_apart r) m rs off.0 i) (here.asset ∙ sym there.asset) in
            let l = starts_later r m (before r m (all_at (span_before r) m rs order.0 i)) o.class (here.asset ∙ sym there.asset) in
            side l o.off
          where
            side : r.from < m.from → (r.to ≤ m.from) ⊎ (m.to ≤ r.from) → ⊥
            side l (inl p) = let x = here.high in let y = there.low in omega (arith, p, x, y)
            side l (inr p) = let x = there.low in let y = there.high in omega (arith, p, x, y, l)

        by : (stands_for r a j s ≡ true) ⊎ (stands_for r a j s ≡ false) → (stands_for r a (j + 1) s ≡ true) ⊎ (stands_for r a (j + 1) s ≡ false)
            → (are_on rs a j s ≡ true → are_on rs a (j + 1) s ≡ true → any_covers (runs_from s (with_row s xs r) rs) ≡ true) → any_covers (runs_from s (with_row s xs r) rs) ≡ true
        by (inl p) (inl q) more =
            let here = stands r a j s p in
            let next = stands r a (j + 1) s q in
            still_rows (with_row s xs r) rs (upright_rows rs each.1) (ap any_covers (on_side xs r here.side) ∙ at_once xs (run_of r) u (covers_from (run_of r) here.asset here.low next.high))
        by (inl p) (inr q) more =
            let here = stands r a j s p in
            let m = any_found (λ row. stands_for row a (j + 1) s) rs (later (j + 1) q g) in
            let to = first here m.0 m.1 (stands m.0 a (j + 1) s m.2) in
            found_behind r (with_row s xs r) rs here.asset (row_rises r each.0) to
            (ap ends (on_side xs r here.side) ∙ now_ends xs (run_of r) u (ends_from (run_of r) here.asset here.low to))
            (record { behind = order.0; off = off.0; order = order.1; each = each.1 })
            (later (j + 1) q g)
        by (inr p) (inl q) more =
            let m = any_found (λ row. stands_for row a j s) rs (later j p h) in
            absurd (never (stands r a (j + 1) s q) m.0 m.1 (stands m.0 a j s m.2))
        by (inr p) (inr q) more = more (later j p h) (later (j + 1) q g)
