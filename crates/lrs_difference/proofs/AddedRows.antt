-- Rows to which one is added.
use Rattle.std.proofs.Common.{◌≡◌, ℕ, suc, ◌+◌, ◌<◌, true, false, cond, List, [], ◌∷◌, ◌++◌, drop, get_or, length, sym, ap, subst, ◌∙◌, arith, append_assoc}
use Rattle.std.proofs.Math.Seq.{drop-cons}
use Rattle.std.proofs.Math.ListN.{drop_of_length-le}
use Rattle.std.specs.Prelude.{◌≤◌}
use Rattle.lrs_difference.specs.declared.link_stretches.HeldStretch.{HeldStretch}
use Rattle.lrs_difference.specs.declared.sweep.Edge.{Edge}
use Rattle.lrs_difference.specs.Sweep.{AreAlone, AreGathered, first_edge, goes_on, grown, rows_at, with_row}
use Rattle.lrs_difference.proofs.SweptEdges.{rows_end, rows_go_on, with_last}

pub goes : (rows front new : List HeldStretch) (last row : HeldStretch) (high : Edge) → rows ≡ front ++ last ∷ [] → goes_on last row ≡ true → new ≡ front ++ grown last high ∷ [] → new ≡ with_row rows row high
goes rows front new last row high e on is = is ∙ sym (ap (λ zs. with_row zs row high) e ∙ with_last front last row high ∙ ap (λ b. front ++ cond b (grown last high ∷ []) (last ∷ row ∷ [])) on)

pub comes : (rows front one new : List HeldStretch) (last row : HeldStretch) (high : Edge) → rows ≡ front ++ last ∷ [] → goes_on last row ≡ false → one ≡ front ++ last ∷ [] → new ≡ one ++ row ∷ [] → new ≡ with_row rows row high
comes rows front one new last row high e off first is =
    is ∙ ap (λ zs. zs ++ row ∷ []) first ∙ append_assoc front (last ∷ []) (row ∷ [])
    ∙ sym (ap (λ zs. with_row zs row high) e ∙ with_last front last row high ∙ ap (λ b. front ++ cond b (grown last high ∷ []) (last ∷ row ∷ [])) off)

pub next_edge : (left right : List HeldStretch) (at : Edge) (i : ℕ) (edges : List Edge) (rows new : List HeldStretch) → i < length edges → AreGathered left right at (drop i edges) rows → new ≡ rows_at left right at (get_or edges i first_edge) rows
    → AreGathered left right (get_or edges i first_edge) (drop (i + 1) edges) new
next_edge left right at i edges rows new low h is =
    let n : suc i ≡ i + 1 = omega arith in
    let split : drop i edges ≡ get_or edges i first_edge ∷ drop (i + 1) edges = drop-cons edges i first_edge low ∙ ap (λ k. get_or edges i first_edge ∷ drop k edges) n in
    subst (λ (zs : List HeldStretch). AreGathered left right (get_or edges i first_edge) (drop (i + 1) edges) zs) (sym is)
    (rows_go_on left right at (get_or edges i first_edge) (drop (i + 1) edges) rows (subst (λ (es : List Edge). AreGathered left right at es rows) split h))

pub last_edge : (left right : List HeldStretch) (at : Edge) (i : ℕ) (edges : List Edge) (rows : List HeldStretch) → length edges ≤ i → AreGathered left right at (drop i edges) rows → AreAlone left right rows
last_edge left right at i edges rows high h = rows_end left right at rows (subst (λ (es : List Edge). AreGathered left right at es rows) (drop_of_length-le edges high) h)
