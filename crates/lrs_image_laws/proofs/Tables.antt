-- An image that passes the test of each table is sound.
use Rattle.std.proofs.Common.{◌≡◌, true, cond, List, [], ◌∷◌, Some, None, refl, ap, ◌∙◌}
use Rattle.lrs_machine.specs.declared.image.Image.{Image}
use Rattle.lrs_machine.specs.Sound.{Test, IsSound, first_unsound, first_failed, tests}
use Rattle.lrs_image.proofs.Tables.{Passes}

abbrev all_pass : List Test → Type 0
all_pass [] = Unit {0}
all_pass (t ∷ ts) = (t.passes ≡ true) × all_pass ts

none_fails : (ts : List Test) → all_pass ts → first_failed ts ≡ None
none_fails [] h = refl
none_fails (t ∷ ts) h = ap (λ b. cond b (first_failed ts) (Some t.table)) h.0 ∙ none_fails ts h.1

pub sound : (i : Image) → Passes i → IsSound i
unfolding first_unsound
sound i p = none_fails (tests i) (p.links, (p.classes, (p.assets, (p.courses, (p.marks, (p.referents, (p.spans, (p.entered, (p.gone, (p.edits, (p.origins, tt)))))))))))
