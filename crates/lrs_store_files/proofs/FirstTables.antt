-- How many of an inventory's tables a store has.
use Rattle.std.proofs.Common.{◌≡◌, ◌↔◌, ℕ, ◌+◌, ◌<◌, ◌≤◌, [], ◌∷◌, take, length, refl, sym, ap, subst, ◌∙◌, arith}
use Rattle.std.specs.Prelude.{slice_index_or}
use Rattle.std.proofs.lemmas.List.{length-take-le}
use Rattle.sqlite_schema.specs.declared.schema.Schema.{Schema}
use Rattle.lrs_store_tables.specs.Schema.{inventory}
use Rattle.lrs_store_tables.specs.TableCreation.{no_schema, first_tables}
use Rattle.lrs_store_tables.proofs.MakeLemmas.{AllFrom, one_of}
use Rattle.lrs_store_files.specs.Openings.{IsKnown}
use Rattle.lrs_store_files.specs.declared.table_list.Known.{Known}
use Rattle.lrs_store_files.specs.declared.table_list.Known.TheVariants.{First, Other}

pub count_of : (n : ℕ) → n ≤ 12 → length (first_tables n).tables ≡ n
count_of n few = length-take-le n inventory.tables few

pub same_count : (m n : ℕ) → m ≤ 12 → n ≤ 12 → first_tables m ≡ first_tables n → m ≡ n
same_count m n few many e = sym (count_of m few) ∙ ap (λ (s : Schema). length s.tables) e ∙ count_of n many

pub none_of_some : (n : ℕ) → 0 < n → n ≤ 12 → no_schema ≡ first_tables n → ⊥
none_of_some n some few e = let zero : 0 ≡ n = ap (λ (s : Schema). length s.tables) e ∙ count_of n few in omega (arith, zero, some)

-- how many indexes the first tables have
abbrev pub indexes_of : ℕ → ℕ
indexes_of n = slice_index_or (0 ∷ 0 ∷ 0 ∷ 1 ∷ 1 ∷ 2 ∷ 3 ∷ 4 ∷ 5 ∷ 6 ∷ 7 ∷ 8 ∷ 8 ∷ []) n 0

-- the first of the tables and of the indexes
abbrev pub cut : ℕ → Schema
cut n = record { tables = take n inventory.tables; indexes = take (indexes_of n) inventory.indexes; views = [] }

abbrev IsCut : ℕ → Type 0
IsCut n = (cut n ≡ first_tables n) × (length (take (indexes_of n) inventory.indexes) ≡ indexes_of n)

all_cut : AllFrom IsCut 0 13
all_cut = ((refl, refl), ((refl, refl), ((refl, refl), ((refl, refl), ((refl, refl), ((refl, refl), ((refl, refl), ((refl, refl), ((refl, refl), ((refl, refl), ((refl, refl), ((refl, refl), ((refl, refl), tt)))))))))))))

is_cut : (n : ℕ) → n ≤ 12 → IsCut n
is_cut n few = let e : 0 + n ≡ n = omega arith in subst IsCut e (one_of IsCut 13 0 all_cut n (omega (arith, few)))

pub cut_indexes : (n : ℕ) → n ≤ 12 → length (take (indexes_of n) inventory.indexes) ≡ indexes_of n
cut_indexes n few = (is_cut n few).1

same_first : (m n : ℕ) → First m ≡ First n → m ≡ n
same_first m n e = cc

never_other : (n : ℕ) → Other ≡ First n → ⊥
never_other n e = absurd cc

-- the tables were compared, and are the first ones
pub known_first : (found : Schema) (count : ℕ) → count ≤ 12 → found ≡ cut count → (n : ℕ) → (First count ≡ First n) ↔ ((n ≤ 12) × (found ≡ first_tables n))
known_first found count few is n =
    let first : found ≡ first_tables count = is ∙ (is_cut count few).0 in (
      λ e. subst (λ m. (m ≤ 12) × (found ≡ first_tables m)) (same_first count n e) (few, first),
      λ h. ap First (same_count count n few h.0 (sym first ∙ h.1)),
    )

-- the tables were compared, and are others
pub known_other : (found : Schema) (count : ℕ) → count ≡ length found.tables → (found ≡ cut count → ⊥) → (n : ℕ) → (Other ≡ First n) ↔ ((n ≤ 12) × (found ≡ first_tables n))
known_other found count counted differs n = (
  λ e. absurd (never_other n e),
  λ h. absurd (
      let same : count ≡ n = counted ∙ ap (λ (s : Schema). length s.tables) h.1 ∙ count_of n h.0 in
      differs (h.1 ∙ sym (is_cut n h.0).0 ∙ ap cut (sym same))),
)

-- tables that are no first ones are not known
pub other_tables : (k : Known) (found s : Schema) → k ≡ Other → ((n : ℕ) → (k ≡ First n) ↔ ((n ≤ 12) × (found ≡ first_tables n))) → found ≡ s → IsKnown s → ⊥
other_tables k found s other is same (n, few, first) = never_other n (sym other ∙ (is n).1 (few, same ∙ first))
