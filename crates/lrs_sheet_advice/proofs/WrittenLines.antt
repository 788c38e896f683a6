-- Lines that are written one after another, and the replies that they are about.
use Rattle.std.proofs.Common.{◌≡◌, ℕ, Bool, true, false, ◌&&◌, Option, List, [], ◌∷◌, ◌++◌, append-nil, refl, sym, ap, subst, ◌∙◌}
use Rattle.std.specs.Prelude.{IsTrue, OnOk, Result, Ok, Err}
use Rattle.std.specs.List.{AllZip}
use Rattle.std.specs.Io.KnownBytes.{Appends}
use Rattle.std.proofs.KnownBytes.{Appends-nil, Appends-trans}
use Rattle.std.proofs.lemmas.Grind.{flat_map-append}
use Rattle.std.proofs.lemmas.List.Folds.{list_all-append}
use Rattle.lrs_machine.specs.Lines.{Text}
use Rattle.lrs_sheet_advice.specs.AdviceLines.{WritesLine, WritesOneLine, is_printable, is_printable_text, lines_text}
use Rattle.lrs_sheet_advice.specs.Refusals.{IsLineOn, WritesAdvice, head_text, key_of}

pub both : (a b : Bool) → IsTrue a → IsTrue b → IsTrue (a && b)
both true true h k = refl
both true false h k = k
both false b h k = h

pub printable-both : (xs ys : Text) → IsTrue (is_printable_text xs) → IsTrue (is_printable_text ys) → IsTrue (is_printable_text (xs ++ ys))
printable-both xs ys h k = list_all-append is_printable xs ys ∙ both (is_printable_text xs) (is_printable_text ys) h k

-- what is written in two parts
pub writes-parts : (head body x y : Text) (a b : Option Text) → x ≡ head → y ≡ body → IsTrue (is_printable_text head) → IsTrue (is_printable_text body)
    → Appends a b (x ++ y ++ 10 ∷ []) → WritesLine (head ++ body) a b
writes-parts head body x y a b e f first second written =
    (printable-both head body first second, subst (λ (t : Text). Appends a b (head ++ t ++ 10 ∷ [])) f (subst (λ (t : Text). Appends a b (t ++ y ++ 10 ∷ [])) e written))

-- one line, whichever it is
pub some-line : {A E : Type 0} (r : Result A E) (line : Text) (a b : Option Text) → OnOk r (WritesLine line a b) → OnOk r (WritesOneLine a b)
some-line (Ok x) line a b h = (line, h)
some-line (Err x) line a b h = tt

-- the line about a refusal
pub advises-one : {A E : Type 0} (r : Result A E) (reply head body : Text) (start : Option ℕ) (a b : Option Text) → head ≡ head_text start (key_of reply)
    → OnOk r (WritesLine (head ++ body) a b) → OnOk r (WritesAdvice (reply ∷ []) a b)
advises-one (Ok x) reply head body start a b begins (printable, written) =
    ((head ++ body) ∷ [], (((start, body, ap (λ (t : Text). t ++ body) begins), printable), tt), subst (λ (t : Text). Appends a b t) (sym (append-nil ((head ++ body) ++ 10 ∷ []))) written)
advises-one (Err x) reply head body start a b begins h = tt

-- nothing is written
pub advises-none : (a : Option Text) → WritesAdvice [] a a
advises-none a = ([], tt, Appends-nil a)

-- two lists, and then two others, place by place
pub zip-both : {A B : Type 0} (R : A → B → Type 0) (xs ys : List A) (ls ms : List B) → AllZip R xs ls → AllZip R ys ms → AllZip R (xs ++ ys) (ls ++ ms)
zip-both R [] ys [] ms h k = k
zip-both R (x ∷ xs) ys (l ∷ ls) ms h k = (h.0, zip-both R xs ys ls ms h.1 k)
zip-both R [] ys (l ∷ ls) ms h k = absurd h
zip-both R (x ∷ xs) ys [] ms h k = absurd h

-- some lines, and then others
pub advises-more : (xs ys : List Text) (a b c : Option Text) → WritesAdvice xs a b → WritesAdvice ys b c → WritesAdvice (xs ++ ys) a c
advises-more xs ys a b c (ls, first, one) (ms, second, two) =
    let text : lines_text (ls ++ ms) ≡ lines_text ls ++ lines_text ms = flat_map-append (λ (line : Text). line ++ 10 ∷ []) ls ms in
    (ls ++ ms, zip-both IsLineOn xs ys ls ms first second, subst (λ (t : Text). Appends a c t) (sym text) (Appends-trans a b c (lines_text ls) (lines_text ms) one two))
