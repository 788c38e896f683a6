-- The values of rows that are filled in one row after the other.
use Rattle.std.proofs.Common.{◌≡◌, ℕ, pos, ◌+◌, ◌*◌, ◌<◌, ◌≤◌, List, [], ◌∷◌, ◌++◌, map, length, take, set, get_or, sym, ap, ap₂, ◌∙◌, refl, arith, append_assoc, append-nil}
use Rattle.std.specs.List.{flat_map}
use Rattle.std.proofs.lemmas.List.{take-map, map-append, take_more, take_more_set}
use Rattle.std.proofs.lemmas.Grind.{flat_map-append}
use Rattle.std.proofs.lemmas.Slice.{take-put_mid}
use borrow.Rule.Slice.PartMut.{put_mid}
use Rattle.sqlite_value.specs.declared.value.ValueRef.{ValueRef}
use Rattle.sqlite_value.specs.declared.value.Value.TheVariants.{Int, Text}
use Rattle.sqlite_value.specs.Value.{owned}
use Rattle.sqlite_value.specs.Order.{Row}
use Rattle.sqlite.specs.Values.{bound, bound_value}
use Rattle.lrs_store_tables.specs.Contents.Encoders.{numbered}
use Rattle.lrs_store_tables.specs.Cells.{all_cells}

-- one more row behind others
all_cells_more : {X : Type 0} (cells : ℕ → X → Row) (n k : ℕ) (xs : List X) (x : X) → k ≡ n + length xs → all_cells cells n (xs ++ x ∷ []) ≡ all_cells cells n xs ++ cells k x
all_cells_more cells n k [] x at = append-nil (cells n x) ∙ ap (λ m. cells m x) (let same : n ≡ k = omega (arith, at) in same)
all_cells_more cells n k (y ∷ ys) x at = ap (λ l. cells n y ++ l) (all_cells_more cells (n + 1) k ys x (omega (arith, at))) ∙ sym (append_assoc (cells n y) (all_cells cells (n + 1) ys) (cells k x))

-- the values behind others, which are filled in
put_behind : (from width k : ℕ) (all own : List ValueRef) (before row : Row) → k ≡ from + length own → from ≤ length all → take from (bound all) ≡ before → bound own ≡ row
    → take k (bound (put_mid from width all own)) ≡ before ++ row
put_behind from width k all own before row at within first second =
    take-map _ k (put_mid from width all own) ∙ ap bound (take-put_mid from width all own k at within) ∙ map-append _ (take from all) own
    ∙ ap₂ (λ (a b : Row). a ++ b) (sym (take-map _ from all) ∙ first) second

pub filled_more : {X : Type 0} (cells : ℕ → X → Row) (n m from width k : ℕ) (xs : List X) (x : X) (all own : List ValueRef) → m ≡ n + length xs → k ≡ from + length own → from ≤ length all
    → take from (bound all) ≡ all_cells cells n xs → bound own ≡ cells m x → take k (bound (put_mid from width all own)) ≡ all_cells cells n (xs ++ x ∷ [])
filled_more cells n m from width k xs x all own at to within first second =
    put_behind from width k all own (all_cells cells n xs) (cells m x) to within first second ∙ sym (all_cells_more cells n m xs x at)

-- the values of a row end where those of the next one begin, and within the room for eight rows
pub next_begins : (width i : ℕ) → width * (i + 1) ≡ width * i + width
next_begins width i = grind (arith)

pub within_eight : (width i : ℕ) → i < 8 → width * i + width ≤ 8 * width
within_eight width i early = grind (arith, early)

-- the values of the rows of several
pub cells_of_all : {X R : Type 0} (cells : R → Row) (rows : X → List R) (n : ℕ) (xs : List X) → all_cells (λ k x. flat_map cells (rows x)) n xs ≡ flat_map cells (flat_map rows xs)
cells_of_all cells rows n [] = refl
cells_of_all cells rows n (x ∷ xs) = ap (λ l. flat_map cells (rows x) ++ l) (cells_of_all cells rows (n + 1) xs) ∙ sym (flat_map-append cells (rows x) (flat_map rows xs))

pub cells_of_numbered : {X R : Type 0} (cells : R → Row) (row : ℕ → X → R) (n : ℕ) (xs : List X) → all_cells (λ k x. cells (row k x)) n xs ≡ flat_map cells (numbered row n xs)
cells_of_numbered cells row n [] = refl
cells_of_numbered cells row n (x ∷ xs) = ap (λ l. cells (row n x) ++ l) (cells_of_numbered cells row (n + 1) xs)

-- one more number behind others
pub numbers_more : (i d : ℕ) (ns : List ℕ) (cells : List ValueRef) (v : ValueRef) → i < length ns → length cells ≡ length ns → owned v ≡ Int (pos (get_or ns i d))
    → take i (bound cells) ≡ map (λ n. Int (pos n)) (take i ns) → take (i + 1) (bound (set cells i v)) ≡ map (λ n. Int (pos n)) (take (i + 1) ns)
numbers_more i d ns cells v within room own before =
    take-map _ (i + 1) (set cells i v) ∙ ap bound (take_more_set cells i v (omega (arith, within, room))) ∙ map-append _ (take i cells) (v ∷ [])
    ∙ ap₂ (λ (a b : Row). a ++ b) (sym (take-map _ i cells) ∙ before) (ap (λ w. bound_value w ∷ []) own)
    ∙ sym (ap (map (λ n. Int (pos n))) (take_more ns i d within) ∙ map-append (λ n. Int (pos n)) (take i ns) (get_or ns i d ∷ []))

-- the values of a row that begins with a text
pub behind_text : (a b : List ℕ) (cells : List ValueRef) (row : Row) → a ≡ b → bound cells ≡ row → Text a ∷ bound (cells ++ []) ≡ Text b ∷ row
behind_text a b cells row text filled = ap₂ (λ (t : List ℕ) (l : Row). Text t ∷ l) text (ap bound (append-nil cells) ∙ filled)
