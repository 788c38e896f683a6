-- What is told of lists, and of what is none.
use Rattle.std.proofs.Common.{◌≡◌, ℕ, List, [], Option, None, Some, refl, sym, ap}
use Rattle.std.specs.Borrow.{Bor}
use Rattle.std.specs.Prelude.{unwrap_or}
use Rattle.std.proofs.lemmas.Option.{none-some}
use Rattle.lrs_machine.specs.declared.image.Image.{Image}
use Rattle.lrs_machine.specs.declared.question.Listing.{Listing}
use Rattle.lrs_machine.specs.declared.question.Listing.TheVariants.{History}
use Rattle.lrs_report_answers.specs.declared.told.Told.{Told}
use Rattle.lrs_report_answers.specs.declared.told.Told.TheVariants as told
use Rattle.lrs_sheet_questions.specs.Entries.{list_lines}
use Rattle.lrs_sheet_questions.specs.Lines.{listing_lines, told_lines}
use Rattle.lrs_sheet_questions.specs.Kinds.{entry_word, list_word}
use Rattle.lrs_sheet_questions.specs.Lists.{list_kind, list_text, listing_kind}
use Rattle.lrs_sheet_questions.specs.declared.kind.ListKind.{ListKind}
use Rattle.lrs_sheet_questions.specs.declared.kind.ListKind.TheVariants as kind

-- the lines of a kind of list
abbrev lines_by : List ℕ → List ℕ → ListKind → List ℕ
lines_by key text k = list_lines key (list_word k) (entry_word k) text

lines-by : (key text : List ℕ) (k l : ListKind) → Some k ≡ Some l → lines_by key text k ≡ lines_by key text l
lines-by key text k l e = ap (λ (o : Option ListKind). lines_by key text (unwrap_or o k)) e

listing-told : (key : List ℕ) (listing : Listing) (i : Bor Image) (k : ListKind) → listing_kind listing ≡ Some k → told_lines key (told.Listing listing i) ≡ lines_by key (list_text (told.Listing listing i)) k
listing-told key (History asset) i k e = lines-by key (list_text (told.Listing (History asset) i)) kind.History k e
listing-told key _ i k e = absurd (none-some k e)

-- what is told of a list
pub list-told : (key : List ℕ) (t : Told) (k : ListKind) → list_kind t ≡ Some k → told_lines key t ≡ list_lines key (list_word k) (entry_word k) (list_text t)
list-told key (told.Rows wanted i) k e = lines-by key (list_text (told.Rows wanted i)) kind.Rows k e
list-told key (told.Overlay wanted i) k e = lines-by key (list_text (told.Overlay wanted i)) kind.Overlay k e
list-told key (told.Lengths lengths) k e = lines-by key (list_text (told.Lengths lengths)) kind.Lengths k e
list-told key (told.Listing listing i) k e = listing-told key listing i k e
list-told key _ k e = absurd (none-some k e)

-- and of a list that no sheet asks for
pub unlisted : (key : List ℕ) (listing : Listing) (i : Image) → listing_kind listing ≡ None → listing_lines key listing i ≡ []
unlisted key (History asset) i e = absurd (none-some kind.History (sym e))
unlisted key _ i e = refl
