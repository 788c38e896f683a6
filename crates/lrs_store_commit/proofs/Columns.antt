-- What the columns of the tables hold: whole numbers and texts, and nothing else.
use Rattle.std.proofs.Common.{◌≡◌, ℕ, ◌+◌, ℤ, pos, negsuc, zero, suc, List, [], ◌∷◌, Some, None, Bool, true, false, not, ◌||◌, if◌then◌else◌, slice_get, drop, refl, sym, ap, subst, ◌∙◌, arith}
use Rattle.std.specs.Ordering.{is_eq, int_cmp}
use Rattle.std.proofs.lemmas.Bool.{and_parts}
use Rattle.std.proofs.lemmas.Bool.Decides.{nat_tests}
use Rattle.std.proofs.lemmas.Map.Text.{is_eq-slice_cmp}
use Rattle.sqlite_value.specs.declared.value.Value.{Value}
use Rattle.sqlite_value.specs.declared.value.Value.TheVariants.{Null, Int, Real, Text, Blob}
use Rattle.sqlite_value.specs.Order.{Row, column, value_cmp}
use Rattle.sqlite_value.proofs.OrderLemmas.{value_cmp-Int, value_cmp-Text}
use Rattle.sqlite_sql.specs.Ops.{is_null}
use Rattle.sqlite_schema.specs.declared.schema.Kind.TheVariants as kind
use Rattle.sqlite_schema.specs.declared.schema.Column.{Column}
use Rattle.sqlite_schema.specs.Rules.{is_of, has_affinity, suits, are_typed, are_present}
use Rattle.sqlite_trees.specs.Tree.{rowid}
use Rattle.sqlite_rules.specs.Edit.{id_in}
use Rattle.lrs_measure.specs.Texts.{Name, same_name}
use Rattle.lrs_store_tables.specs.Schema.{whole, words}
use Rattle.lrs_store_tables.specs.StoredRows.{whole_in, text_in}
use Rattle.lrs_store_tables.specs.RowChanges.{is_number}
use Rattle.lrs_store_tables.proofs.Rows.{suits as takes}

same_column : {c d : Column} → Some c ≡ Some d → c ≡ d
same_column e = cc

strict_suits : (c : Column) (v : Value) → suits c v ≡ true → c.is_strict ≡ true → is_of c.kind v ≡ true
strict_suits c v h e = subst (λ (b : Bool). (if b then is_of c.kind v else has_affinity c.kind v) ≡ true) e h

-- a value of a strict column is of its kind
typed_at : (cs : List Column) (vs : Row) (at i : ℕ) (c : Column) → are_typed None at cs vs ≡ true → slice_get cs i ≡ Some c → c.is_strict ≡ true → is_of c.kind (column vs i) ≡ true
typed_at [] vs at i c h e strict = absurd cc
typed_at (d ∷ cs) [] at i c h e strict = refl
typed_at (d ∷ cs) (v ∷ vs) at zero c h e strict =
    let it : suits d v ≡ true = (and_parts _ _ h).0 in
    subst (λ (x : Column). x.is_strict ≡ true → is_of x.kind v ≡ true) (same_column e) (strict_suits d v it) strict
typed_at (d ∷ cs) (v ∷ vs) at (suc i) c h e strict = typed_at cs vs (at + 1) i c (and_parts _ _ h).1 e strict

flipped : (b : Bool) → not b ≡ true → b ≡ false
flipped true e = absurd cc
flipped false e = refl

full_there : (c : Column) (v : Value) → (not c.not_null || not (is_null v)) ≡ true → c.not_null ≡ true → is_null v ≡ false
full_there c v h e = flipped (is_null v) (subst (λ (b : Bool). (not b || not (is_null v)) ≡ true) e h)

-- and is there
present_at : (cs : List Column) (row : Row) (at i place : ℕ) (c : Column) → are_present None at cs row ≡ true → slice_get cs i ≡ Some c → c.not_null ≡ true → place ≡ at + i + 1 → is_null (column row place) ≡ false
present_at [] row at i place c h e full is = absurd cc
present_at (d ∷ cs) row at zero place c h e full is =
    let it : (not d.not_null || not (is_null (column row (at + 1)))) ≡ true = (and_parts _ _ h).0 in
    let here : at + 1 ≡ place = omega (arith, is) in
    subst (λ n. is_null (column row n) ≡ false) here (subst (λ (x : Column). x.not_null ≡ true → is_null (column row (at + 1)) ≡ false) (same_column e) (full_there d (column row (at + 1)) it) full)
present_at (d ∷ cs) row at (suc i) place c h e full is = present_at cs row (at + 1) i place c (and_parts _ _ h).1 e full (omega (arith, is))

pub record IsWhole (v : Value) : Type 0 where
  pub number : ℤ
  pub is : v ≡ Int number

pub record IsText (v : Value) : Type 0 where
  pub text : Name
  pub is : v ≡ Text text

whole_value : (v : Value) → is_of kind.Integer v ≡ true → is_null v ≡ false → IsWhole v
whole_value Null h k = absurd cc
whole_value (Int n) h k = record { number = n; is = refl }
whole_value (Real x) h k = absurd cc
whole_value (Text t) h k = absurd cc
whole_value (Blob b) h k = absurd cc

text_value : (v : Value) → is_of kind.Text v ≡ true → is_null v ≡ false → IsText v
text_value Null h k = absurd cc
text_value (Int n) h k = absurd cc
text_value (Real x) h k = absurd cc
text_value (Text t) h k = record { text = t; is = refl }
text_value (Blob b) h k = absurd cc

-- values that a strict column takes as they are
pub suits_whole : (v : Value) → IsWhole v → takes kind.Integer v ≡ true
suits_whole v h = subst (λ x. takes kind.Integer x ≡ true) (sym h.is) refl

pub suits_text : (v : Value) → IsText v → takes kind.Text v ≡ true
suits_text v h = subst (λ x. takes kind.Text x ≡ true) (sym h.is) refl

pub whole_number : (r : Row) → Int (id_in (rowid r)) ≡ rowid r → IsWhole (column r 0)
whole_number r h = record { number = id_in (rowid r); is = sym h }

behind_rowid : (row : Row) (i : ℕ) → column (drop 1 row) i ≡ column row (suc i)
behind_rowid [] i = refl
behind_rowid (v ∷ vs) i = refl

-- what the columns of a row are
pub whole_column : (cs : List Column) (row : Row) (i : ℕ) (name : List ℕ) → are_typed None 0 cs (drop 1 row) ≡ true → are_present None 0 cs row ≡ true → slice_get cs i ≡ Some (whole name) → IsWhole (column row (suc i))
whole_column cs row i name h k e =
    whole_value (column row (suc i)) (subst (λ v. is_of kind.Integer v ≡ true) (behind_rowid row i) (typed_at cs (drop 1 row) 0 i (whole name) h e refl)) (present_at cs row 0 i (suc i) (whole name) k e refl (omega arith))

pub text_column : (cs : List Column) (row : Row) (i : ℕ) (name : List ℕ) → are_typed None 0 cs (drop 1 row) ≡ true → are_present None 0 cs row ≡ true → slice_get cs i ≡ Some (words name) → IsText (column row (suc i))
text_column cs row i name h k e =
    text_value (column row (suc i)) (subst (λ v. is_of kind.Text v ≡ true) (behind_rowid row i) (typed_at cs (drop 1 row) 0 i (words name) h e refl)) (present_at cs row 0 i (suc i) (words name) k e refl (omega arith))

-- ---- keys

int_tie : (m : ℤ) (n : ℕ) → is_eq (int_cmp m (pos n)) ≡ is_number n m
int_tie (pos m) n = grind (arith, nat_tests)
int_tie (negsuc m) n = refl

pub whole_key : (v : Value) (n : ℕ) → IsWhole v → is_eq (value_cmp v (Int (pos n))) ≡ is_number n (whole_in v)
whole_key v n h = subst (λ x. is_eq (value_cmp x (Int (pos n))) ≡ is_number n (whole_in x)) (sym h.is) (ap is_eq (value_cmp-Int h.number (pos n)) ∙ int_tie h.number n)

pub text_key : (v : Value) (name : Name) → IsText v → is_eq (value_cmp v (Text name)) ≡ same_name (text_in v) name
text_key v name h = subst (λ x. is_eq (value_cmp x (Text name)) ≡ same_name (text_in x) name) (sym h.is) (ap is_eq (value_cmp-Text h.text name) ∙ is_eq-slice_cmp h.text name)
