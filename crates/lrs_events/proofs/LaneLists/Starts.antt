-- Between which starts rows lie.
use Rattle.std.proofs.Common.{◌≡◌, ℕ, ◌+◌, ◌<◌, ◌≤◌, min, max, true, false, ◌⊎◌, inl, inr, List, [], ◌∷◌, length, get_or, take, sym, ap, ◌∙◌, arith}
use Rattle.std.proofs.lemmas.Bool.{false≢true, or_cases}
use Rattle.std.proofs.lemmas.List.{take_more}
use Rattle.std.proofs.lemmas.List.Folds.{list_any-append}
use Rattle.lrs_events.specs.declared.span.Span.{Span}
use Rattle.lrs_events.specs.Changes.{same_row, has_row}
use Rattle.lrs_events.proofs.LaneLists.Ranks.{row_is}

-- no row begins before the least start or behind the greatest
abbrev pub LieWithin : ℕ → ℕ → List Span → Type 0
LieWithin least greatest rows = (r : Span) → has_row rows r ≡ true → (least ≤ r.from) × (r.from ≤ greatest)

pub none_lie : (least greatest : ℕ) → LieWithin least greatest []
none_lie least greatest r h = absurd (false≢true h)

pub one_more_lies : (rows : List Span) (i least greatest lower higher : ℕ) (x : Span) → i < length rows → x ≡ get_or rows i x → LieWithin least greatest (take i rows)
    → lower ≡ min x.from least → higher ≡ max x.from greatest → LieWithin lower higher (take (i + 1) rows)
one_more_lies rows i least greatest lower higher x within is known low high r h =
    by (or_cases (has_row (take i rows) r) (has_row (get_or rows i x ∷ []) r) (sym (list_any-append (λ s. same_row s r) (take i rows) (get_or rows i x ∷ [])) ∙ ap (λ z. has_row z r) (sym (take_more rows i x within)) ∙ h))
  where
    here : (same_row (get_or rows i x) r ≡ true) ⊎ (false ≡ true) → (lower ≤ r.from) × (r.from ≤ higher)
    here (inl q) = let e : x.from ≡ r.from = ap (λ (z : Span). z.from) (is ∙ row_is (get_or rows i x) r q) in (omega (arith, low, e), omega (arith, high, e))
    here (inr q) = absurd (false≢true q)

    by : (has_row (take i rows) r ≡ true) ⊎ (has_row (get_or rows i x ∷ []) r ≡ true) → (lower ≤ r.from) × (r.from ≤ higher)
    by (inl q) = let k = known r q in let a = k.0 in let b = k.1 in (omega (arith, low, a), omega (arith, high, b))
    by (inr q) = here (or_cases (same_row (get_or rows i x) r) false q)
