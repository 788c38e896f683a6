-- Items that are added one after another, and the replies that they are about.
use Rattle.std.proofs.Common.{◌≡◌, Option, List, [], ◌∷◌, ◌++◌, append_assoc, append-nil, refl, sym, ap, subst, ◌∙◌}
use Rattle.std.specs.Prelude.{IfSome, IsTrue, OnOk, Result, Ok, Err, option_map, vec_items}
use Rattle.lrs_machine.specs.Lines.{Text}
use Rattle.lrs_sheet_advice.specs.AdviceItems.{AddsAdvice, AddsSheetAdvice, IsItemOn, IsItemOnSheet, IsLetter, key_named}
use Rattle.lrs_sheet_advice.specs.AdviceLines.{is_printable_text}
use Rattle.lrs_sheet_advice.specs.Refusals.{head_text, key_of}
use Rattle.lrs_sheet_advice.specs.declared.advice_list.AdviceItem.{AdviceItem}
use Rattle.lrs_sheet_advice.proofs.WrittenLines.{zip-both}

-- the item about a reply, by its parts
pub told : (reply head body before : Text) (item : AdviceItem) → head ≡ head_text item.line (key_of reply) → option_map vec_items item.key ≡ key_named (key_of reply) → IfSome item.column IsLetter
    → before ≡ [] → item.text.items ≡ before ++ (head ++ body) → IsTrue (is_printable_text (head ++ body)) → IsItemOn reply item
told reply head body before item begins key column none text printable =
    let whole : item.text.items ≡ head ++ body = text ∙ ap (λ (t : Text). t ++ (head ++ body)) none in
    record { key = key; column = column; rest = body; text = whole ∙ ap (λ (t : Text). t ++ body) begins; printable = subst (λ (t : Text). IsTrue (is_printable_text t)) (sym whole) printable }

pub adds-none : (a : List AdviceItem) → AddsAdvice [] a a
adds-none a = ([], tt, sym (append-nil a))

pub adds_one : {A E : Type 0} (r : Result A E) (reply : Text) (item : AdviceItem) (a b : List AdviceItem) → IsItemOn reply item → OnOk r (b ≡ a ++ item ∷ []) → OnOk r (AddsAdvice (reply ∷ []) a b)
adds_one (Ok x) reply item a b is added = (item ∷ [], (is, tt), added)
adds_one (Err x) reply item a b is added = tt

pub adds-more : (xs ys : List Text) (a b c : List AdviceItem) → AddsAdvice xs a b → AddsAdvice ys b c → AddsAdvice (xs ++ ys) a c
adds-more xs ys a b c (is, first, one) (js, second, two) =
    (is ++ js, zip-both IsItemOn xs ys is js first second, two ∙ ap (λ (t : List AdviceItem). t ++ js) one ∙ append_assoc a is js)

pub adds_sheet : {A E : Type 0} (r : Result A E) (item : AdviceItem) (a b : List AdviceItem) → IsItemOnSheet item → OnOk r (b ≡ a ++ item ∷ []) → OnOk r (AddsSheetAdvice a b)
adds_sheet (Ok x) item a b is added = (item, is, added)
adds_sheet (Err x) item a b is added = tt
