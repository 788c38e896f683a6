use Rattle.std.proofs.Common.{◌≡◌, ℕ, List, Some, false, inl, inr, sym, ap, ◌∙◌}
use Rattle.std.specs.Str.{is_utf8, IsUtf8}
use Rattle.std.proofs.lemmas.Bool.{cases_Bool}
use Rattle.std.proofs.lemmas.Str.{IsUtf8-from_is_utf8, is_utf8-from_IsUtf8}
use Rattle.lrs_store_tables.specs.Contents.Decoders.{only_if}
use Rattle.lrs_store_image.proofs.edits.line_of.Goals as goal

not_text : (p : List ℕ) → (IsUtf8 p → ⊥) → is_utf8 p ≡ false
not_text p n = elim (cases_Bool (is_utf8 p)) [ inl t ↦ absurd (n (IsUtf8-from_is_utf8 p t)) | inr f ↦ f ]

pub returns-in_ok-from_str-in-Ok : goal.returns-in_ok-from_str-in-Ok
returns-in_ok-from_str-in-Ok c =
    let text = c.args.text.now in
    ap (λ l. Some l) (c.from_text.ensures ∙ c.in_ok-from_str-in-Ok.ensures.ok ∙ c.in-Ok.ensures.cases.0) ∙ sym (ap (λ b. only_if b text) (is_utf8-from_IsUtf8 text c.in-Ok.ensures.cases.1))

pub returns-in-Err : goal.returns-in-Err
returns-in-Err c =
    let text = c.args.text.now in
    sym (ap (λ b. only_if b text) (not_text text c.in-Err.ensures.cases.0))
