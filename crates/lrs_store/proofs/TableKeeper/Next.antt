-- The rows that a commit writes hold the changed image.
use Rattle.std.proofs.Common.{◌≡◌, ℕ, ◌+◌, pos, List, [], ◌∷◌, length, refl, sym, ap, subst, ◌∙◌, IsPermutation, arith}
use Rattle.std.specs.List.{AllByRecursion}
use Rattle.std.proofs.lemmas.List.{length-append}
use Rattle.std.proofs.lemmas.List.Elements.{All-nil, All-cons, recursion_from_All}
use Rattle.std.proofs.lemmas.List.Sorted.{All-permutation, length_permutation}
use Rattle.lrs_machine.specs.declared.image.Image.{Image}
use Rattle.lrs_image.specs.declared.change.Change.{Change}
use Rattle.lrs_image.specs.Change.{apply, CanMake}
use Rattle.lrs_image.specs.ChangeLists.{apply_all, CanMakeAll}
use Rattle.lrs_image.proofs.Together.{edits_after}
use Rattle.lrs_store_tables.specs.Contents.Tables.{Tables}
use Rattle.lrs_store_tables.specs.Contents.EncodedImages.{encoded}
use Rattle.lrs_store_tables.proofs.Contents.Contents.{content_is_sound}
use Rattle.lrs_store_tables.proofs.Contents.Stored.{content_is_of_rows}
use Rattle.lrs_store_commit.proofs.Laws.Held.{content_is_encoded}
use Rattle.lrs_store_commit.proofs.Laws.Named.{content_has_texts}
use Rattle.lrs_store_commit.proofs.Laws.Restored.{encoded_holds}
use Rattle.lrs_store_tables.specs.Writes.{IsWritten, AreWritten}
use Rattle.lrs_store_commit.proofs.Laws.ChangeWritten.{written_is_encoded}
use Rattle.lrs_store_commit.specs.Laws.Texts.{HasTexts, HaveTexts}
use Rattle.lrs_store.specs.TableKeeper.HeldImages.{AreRowsOf}
use Rattle.lrs_store.proofs.TableKeeper.TextLemmas.{texts_after}

-- a list of one element in any order
alone : {X : Type 0} (x : X) (ys : List X) → length ys ≡ 1 → AllByRecursion (λ y. y ≡ x) ys → ys ≡ x ∷ []
alone x [] one are = absurd (omega (arith, one))
alone x (y ∷ []) one are = ap (λ z. z ∷ []) are.0
alone x (y ∷ z ∷ zs) one are = absurd (omega (arith, one))

pub alone_again : {X : Type 0} (x : X) (ys : List X) → IsPermutation (x ∷ []) ys → ys ≡ x ∷ []
alone_again {X} x ys same =
    let P : X → Type 0 = λ y. y ≡ x in
    alone x ys (length_permutation (x ∷ []) ys same) (recursion_from_All P ys (All-permutation P (x ∷ []) ys same (All-cons P x [] refl (All-nil P))))

next_rows : (c : Change) (i : Image) (t after : Tables) → HasTexts c → CanMake c i → AreRowsOf i t → IsWritten (length i.edits + 1) c t after → AreRowsOf (apply c i) after
next_rows c i t after come can rows written =
    let e = written_is_encoded i c t after (content_is_sound t i rows.holds) can (content_is_encoded t i rows.version rows.holds) written in
    let held = encoded_holds e.pieces (apply c i) (texts_after c i come (content_has_texts t i rows.holds)) can.sound e.are in
    record {
      version = alone_again (pos 2) after.version e.rows.version;
      holds = sym (content_is_of_rows (encoded e.pieces (apply c i)) after e.rows) ∙ held;
    }

one_more : (c : Change) (i : Image) (n : ℕ) → length i.edits ≡ n → length (apply c i).edits ≡ n + 1
one_more c i n is = length-append i.edits (c.edit ∷ []) ∙ ap (λ k. k + 1) is

-- ---- several changes

pub rows_after_all : (cs : List Change) (i : Image) (t after : Tables) → HaveTexts cs → CanMakeAll cs i → AreRowsOf i t → AreWritten (length i.edits + 1) cs t after → AreRowsOf (apply_all cs i) after
rows_after_all [] i t after come can rows same = subst (λ (u : Tables). AreRowsOf i u) same rows
rows_after_all (c ∷ cs) i t after come can rows written =
    let number : length i.edits + 1 + 1 ≡ length (apply c i).edits + 1 = ap (λ k. k + 1) (sym (one_more c i (length i.edits) refl)) in
    rows_after_all cs (apply c i) written.0 after come.1 can.1 (next_rows c i t written.0 come.0 can.0 rows written.1) (subst (λ (k : ℕ). AreWritten k cs written.0 after) number written.2)

pub all_more : (cs : List Change) (i : Image) (n : ℕ) → length i.edits ≡ n → length (apply_all cs i).edits ≡ n + length cs
all_more cs i n is = edits_after cs i ∙ ap (λ k. k + length cs) is
