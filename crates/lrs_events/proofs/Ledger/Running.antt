-- Runs at the end of others, row by row.
use Rattle.std.proofs.Common.{◌≡◌, ℕ, zero, suc, ◌+◌, ◌<◌, ◌≤◌, true, false, cond, List, [], ◌∷◌, ◌++◌, length, get_or, set, drop, refl, sym, ap, ◌∙◌, arith}
use Rattle.std.proofs.lemmas.List.{drop_more, drop_all}
use Rattle.lrs_events.specs.declared.side.LinkSide.{LinkSide}
use Rattle.lrs_events.specs.declared.span.Span.{Span}
use Rattle.lrs_events.specs.Members.{has_side}
use Rattle.lrs_events.specs.declared.ledgers.run.Run.{Run}
use Rattle.lrs_events.specs.Ledger.Runs.{goes_on, with_run, with_row, runs_from}

pub last_longer : (xs : List Run) (n : ℕ) (x y : Run) → length xs ≡ n + 1 → x ≡ get_or xs n x → goes_on (get_or xs n x) y ≡ true → set xs n (record { asset = x.asset; from = x.from; to = y.to }) ≡ with_run xs y
last_longer [] n x y l r h = absurd (omega (arith, l))
last_longer (w ∷ []) zero x y l r h =
    let longer : Run → List Run = λ z. record { asset = z.asset; from = z.from; to = y.to } ∷ [] in
    ap longer r ∙ sym (ap (λ b. cond b (longer w) (w ∷ y ∷ [])) h)
last_longer (w ∷ []) (suc n) x y l r h = absurd (omega (arith, l))
last_longer (w ∷ v ∷ ws) zero x y l r h = absurd (omega (arith, l))
last_longer (w ∷ v ∷ ws) (suc n) x y l r h = ap (λ (zs : List Run). w ∷ zs) (last_longer (v ∷ ws) n x y (omega (arith, l)) r h)

pub one_behind : (xs : List Run) (y : Run) → ((k : ℕ) (d : Run) → k + 1 ≡ length xs → goes_on (get_or xs k d) y ≡ false) → xs ++ y ∷ [] ≡ with_run xs y
one_behind [] y h = refl
one_behind (x ∷ []) y h = sym (ap (λ b. cond b (record { asset = x.asset; from = x.from; to = y.to } ∷ []) (x ∷ y ∷ [])) (h zero x refl))
one_behind (x ∷ z ∷ xs) y h = ap (λ (zs : List Run). x ∷ zs) (one_behind (z ∷ xs) y (λ k d e. h (suc k) d (omega (arith, e))))

-- ---- row by row

pub runs_more : (s : LinkSide) (rows : List Span) (i : ℕ) (d : Span) (runs next goal : List Run) → i < length rows → runs_from s runs (drop i rows) ≡ goal → next ≡ with_row s runs (get_or rows i d) → runs_from s next (drop (i + 1) rows) ≡ goal
runs_more s rows i d runs next goal h was is = ap (λ xs. runs_from s xs (drop (i + 1) rows)) is ∙ sym (ap (runs_from s runs) (drop_more rows i d h)) ∙ was

pub with_row_on : (s : LinkSide) (r : Span) (runs next : List Run) → has_side r.side s ≡ true → next ≡ with_run runs (record { asset = r.asset; from = r.from; to = r.to }) → next ≡ with_row s runs r
with_row_on s r runs next h e = e ∙ sym (ap (λ b. cond b (with_run runs (record { asset = r.asset; from = r.from; to = r.to })) runs) h)

pub with_row_off : (s : LinkSide) (r : Span) (runs : List Run) → has_side r.side s ≡ false → runs ≡ with_row s runs r
with_row_off s r runs h = sym (ap (λ b. cond b (with_run runs (record { asset = r.asset; from = r.from; to = r.to })) runs) h)

pub runs_done : (s : LinkSide) (rows : List Span) (i : ℕ) (runs goal : List Run) → length rows ≤ i → runs_from s runs (drop i rows) ≡ goal → runs ≡ goal
runs_done s rows i runs goal past was = sym (ap (runs_from s runs) (drop_all i rows past)) ∙ was
