-- The sum of one edit more.
use Rattle.std.proofs.Common.{◌≡◌, ◌∙◌, ℕ, suc, zero, ◌+◌, ◌<◌, List, [], ◌∷◌, ◌++◌, Some, length, take, map, get_or, refl, sym, ap, arith}
use Rattle.std.specs.Prelude.{◌≤◌}
use Rattle.std.proofs.lemmas.List.{take-map}
use Rattle.lrs_machine.specs.Image.{state_of}
use Rattle.lrs_machine.specs.Lines.{Text}
use Rattle.lrs_machine.specs.State.{Edit}
use Rattle.lrs_machine.specs.declared.image.Edit.{Edit as EditRow}
use Rattle.lrs_machine.specs.declared.image.Image.{Image}
use Rattle.lrs_sheet_log.specs.Log.{edit_of_row}
use Rattle.lrs_sheet_log.specs.Sums.{identity_of, next_sum, no_sum, sum_behind, sum_of}

-- the same sum of an edit with the same number
numbered : (sum : Text) (e : Edit) {m n : ℕ} → m ≡ n → next_sum sum m e ≡ next_sum sum n e
numbered sum e is = ap (λ (n : ℕ). next_sum sum n e) is

behind : (count : ℕ) (sum : Text) (edits : List Edit) (e : Edit) → sum_behind count sum (edits ++ e ∷ []) ≡ next_sum (sum_behind count sum edits) (count + (length edits + 1)) e
behind count sum [] e = numbered sum e (omega arith)
behind count sum (x ∷ xs) e = behind (count + 1) (next_sum sum (count + 1) x) xs e ∙ numbered _ e (omega arith)

-- the sum of one edit more
pub follows : (edits : List Edit) (e : Edit) → sum_of (edits ++ e ∷ []) ≡ next_sum (sum_of edits) (length edits + 1) e
follows edits e = behind 0 no_sum edits e ∙ numbered (sum_of edits) e (omega arith)

next : (count : ℕ) (sum : Text) (i : ℕ) (rows : List EditRow) (d : EditRow) → i < length rows
    → next_sum (sum_behind count sum (map edit_of_row (take i rows))) (count + (i + 1)) (edit_of_row (get_or rows i d)) ≡ sum_behind count sum (map edit_of_row (take (suc i) rows))
next count sum i [] d low = absurd (omega (arith, low))
next count sum zero (row ∷ rows) d low = refl
next count sum (suc i) (row ∷ rows) d low = numbered _ (edit_of_row (get_or rows i d)) (omega arith) ∙ next (count + 1) (next_sum sum (count + 1) (edit_of_row row)) i rows d (omega (arith, low))

-- the sum up to the next of some rows
pub sum-next : (i : ℕ) (rows : List EditRow) (d : EditRow) (before after : Text) → i < length rows → before ≡ sum_of (map edit_of_row (take i rows))
    → after ≡ next_sum before (i + 1) (edit_of_row (get_or rows i d)) → after ≡ sum_of (map edit_of_row (take (i + 1) rows))
sum-next i rows d before after low so_far step =
    let e = edit_of_row (get_or rows i d) in
    let more : suc i ≡ i + 1 = omega arith in
    step ∙ ap (λ (t : Text). next_sum t (i + 1) e) so_far ∙ numbered _ e (omega arith) ∙ next 0 no_sum i rows d low ∙ ap (λ (k : ℕ). sum_of (map edit_of_row (take k rows))) more

-- the identity of the first of some rows
pub first-identity : (rows : List EditRow) (row : EditRow) (sum digits : Text) → 1 ≤ length rows → row ≡ get_or rows 0 row → sum ≡ next_sum no_sum 1 (edit_of_row row) → digits ≡ take 16 sum
    → Some digits ≡ identity_of (map edit_of_row rows)
first-identity [] row sum digits some is s d = absurd (omega (arith, some))
first-identity (y ∷ ys) row sum digits some is s d = ap Some (d ∙ ap (λ (t : Text). take 16 t) (s ∙ ap (λ (r : EditRow). next_sum no_sum 1 (edit_of_row r)) is))

-- the edits of an image are those that its rows stand for
pub all-done : (i : Image) → map edit_of_row i.edits ≡ (state_of i).done
unfolding state_of
all-done i = refl

pub first-done : (i : Image) (count : ℕ) → map edit_of_row (take count i.edits) ≡ take count (state_of i).done
unfolding state_of
first-done i count = sym (take-map edit_of_row count i.edits)
