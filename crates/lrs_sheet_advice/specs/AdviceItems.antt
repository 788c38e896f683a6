-- Advice item by item, and the replies and sheets that the items are about.
use Rattle.std.specs.Prelude.{◌≡◌, ℕ, List, [], ◌∷◌, ◌++◌, Option, Some, None, IfSome, IsTrue, option_map, vec_items}
use Rattle.std.specs.List.{AllZip}
use Rattle.lrs_machine.specs.Lines.{Text}
use Rattle.lrs_machine.specs.declared.answer.Field.{Field}
use Rattle.lrs_sheet_records.specs.declared.sheet.Sheet.{Sheet}
use Rattle.lrs_sheet_advice.specs.AdviceLines.{is_printable_text}
use Rattle.lrs_sheet_advice.specs.Columns.{letter_of}
use Rattle.lrs_sheet_advice.specs.Refusals.{head_text, key_of}
use Rattle.lrs_sheet_advice.specs.declared.advice_list.AdviceItem.{AdviceItem}

-- a key, where there is one
abbrev pub key_named : Text → Option Text
key_named [] = None
key_named (byte ∷ rest) = Some (byte ∷ rest)

-- The letter is that of a column.
abbrev pub IsLetter : ℕ → Type 0
IsLetter letter = (sheet : Sheet) × (field : Field) × (letter ≡ letter_of sheet field)

-- The item names the key of the reply, and no letter that no column has. Its text begins with the line that it names and with that key, and has no control byte.
pub record IsItemOn (reply : Text) (item : AdviceItem) : Type 0 where
  pub key : option_map vec_items item.key ≡ key_named (key_of reply)
  pub column : IfSome item.column IsLetter
  pub rest : Text
  pub text : item.text.items ≡ head_text item.line (key_of reply) ++ rest
  pub printable : IsTrue (is_printable_text item.text.items)

-- One item for each of these replies was added, in their order, behind what was there.
abbrev pub AddsAdvice : List Text → List AdviceItem → List AdviceItem → Type 0
AddsAdvice replies old new = (items : List AdviceItem) × AllZip IsItemOn replies items × (new ≡ old ++ items)

-- The item is about a whole sheet: it names no key and no column, and its text has no control byte.
pub record IsItemOnSheet (item : AdviceItem) : Type 0 where
  pub key : item.key ≡ None
  pub column : item.column ≡ None
  pub value : item.value ≡ None
  pub wanted : item.wanted ≡ None
  pub printable : IsTrue (is_printable_text item.text.items)

-- One such item was added.
abbrev pub AddsSheetAdvice : List AdviceItem → List AdviceItem → Type 0
AddsSheetAdvice old new = (item : AdviceItem) × IsItemOnSheet item × (new ≡ old ++ item ∷ [])
