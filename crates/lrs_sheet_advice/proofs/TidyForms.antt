-- What the table of verbs has under a name, and the form of a field by it.
use Rattle.std.proofs.Common.{◌≡◌, ◌∙◌, ◌-◌, ◌≤◌, ℕ, suc, Bool, true, false, cond, List, [], ◌∷◌, Option, Some, None, map, refl, sym, ap, subst, arith}
use Rattle.std.specs.Prelude.{Contains, IfNone, IfSome, IsTrue, nat_lt, slice_get}
use Rattle.std.specs.Str.{bytes_eq}
use Rattle.std.proofs.lemmas.Bool.Decides.{nat_tests}
use Rattle.std.proofs.lemmas.Slice.Eq.{bytes_eq-Decides}
use Rattle.lrs_machine.specs.Lines.{Text}
use Rattle.lrs_machine.specs.declared.answer.Field.{Field}
use Rattle.lrs_sheet_records.specs.Records.{place_of, text_at}
use Rattle.lrs_sheet_records.specs.Shapes.{Shape}
use Rattle.lrs_sheet_records.specs.Verbs.{IsVerb, Row, row_of, shapes_in, shapes_of, verbs}
use Rattle.lrs_sheet_records.specs.declared.verb.Verb.{Verb}
use Rattle.lrs_sheet_records.specs.declared.verb.Verb.TheVariants as verb
use Rattle.lrs_sheet_advice.specs.Slots.{IsSlotOf, shape_of, shapes_behind}
use Rattle.lrs_sheet_advice.specs.TidySheets.{form_at, form_of, is_tidy}
use Rattle.lrs_sheet_advice.specs.declared.slot.Slot.{Slot}
use Rattle.lrs_sheet_advice.specs.declared.tidy_sheet.cell.CellForm.{CellForm}

-- each verb stands under its name
named : (v : Verb) → (row_of v).shapes ≡ shapes_of (row_of v).name
named verb.Link = refl
named verb.Class = refl
named verb.Route = refl
named verb.Ref = refl
named verb.Unref = refl
named verb.Enter = refl
named verb.Retire = refl
named verb.Split = refl
named verb.Join = refl
named verb.Renumber = refl
named verb.Recalibrate = refl
named verb.Realign = refl
named verb.Close = refl
named verb.Supersede = refl
named verb.Turn = refl

first_name : (row : Row) (others : List Row) (name : Text) → row.name ≡ name → Contains (map (λ (r : Row). r.name) (row ∷ others)) name
first_name row others name same = (0, omega arith, same)

later_name : (row : Row) (others : List Row) (name : Text) → Contains (map (λ (r : Row). r.name) others) name → Contains (map (λ (r : Row). r.name) (row ∷ others)) name
later_name row others name (k, low, same) = (suc k, omega (arith, low), same)

either_row : (row : Row) (others : List Row) (name : Text) (t : Bool) → bytes_eq row.name name ≡ t → (row.name ≡ name → ⊥) → [] ≡ shapes_in others name → [] ≡ cond t row.shapes (shapes_in others name)
either_row row others name true e other below = absurd (other ((bytes_eq-Decides row.name name).0 e))
either_row row others name false e other below = below

-- under a name that no row has stands nothing
unnamed : (rows : List Row) (name : Text) → (Contains (map (λ (r : Row). r.name) rows) name → ⊥) → [] ≡ shapes_in rows name
unnamed [] name none = refl
unnamed (row ∷ others) name none =
    either_row row others name (bytes_eq row.name name) refl (λ same. none (first_name row others name same)) (unnamed others name (λ there. none (later_name row others name there)))

-- what the fields behind a verb say is what stands under its name
pub shapes_under : (name : Text) (found : Option Verb) → IfSome found (λ v. name ≡ (row_of v).name) → IfNone found (IsVerb name → ⊥) → shapes_behind found ≡ shapes_of name
shapes_under name (Some v) is none = named v ∙ sym (ap shapes_of is)
shapes_under name None is none = unnamed verbs name none

-- the form of a field by what it is for
pub form_in_place : (fields : List Text) (place : ℕ) (v : Option Verb) (field : Field) (slot : Slot) → 2 ≤ place → place_of field ≡ place → shapes_behind v ≡ shapes_of (text_at fields 1) → IsSlotOf v field slot
    → form_of fields (shape_of slot) ≡ form_at fields place
form_in_place fields place v field slot behind at under is =
    let low : 2 ≤ place_of field = omega (arith, at, behind) in
    let wanted : shape_of slot ≡ slice_get (shapes_of (text_at fields 1)) (place - 2) = is low ∙ ap (λ (n : ℕ). slice_get (shapes_behind v) (n - 2)) at ∙ ap (λ (shapes : List Shape). slice_get shapes (place - 2)) under in
    let not_first : nat_lt place 2 ≡ false = grind (arith, nat_tests) in
    rw not_first (ap (form_of fields) wanted)

-- the text of a field was looked at, and is tidy
pub tidy_here : (form form' : CellForm) (text text' : Text) (b : Bool) → form ≡ form' → text ≡ text' → b ≡ is_tidy form text → b ≡ true → IsTrue (is_tidy form' text')
tidy_here form form' text text' b same_form same_text is holds = subst (λ (t : Text). is_tidy form' t ≡ true) same_text (subst (λ (f : CellForm). is_tidy f text ≡ true) same_form (sym is ∙ holds))
