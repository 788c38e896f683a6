-- Records that ask questions.
use Rattle.std.proofs.Common.{Ok, Err, Result, Bool, true, false, ap, sym, ◌≡◌, ℕ, ◌≤◌, ◌∙◌, List, length, inl, inr, lit<, refl, Some}
use Rattle.std.specs.Prelude.{◌||◌, Contains, IsTrue}
use Rattle.lrs_measure.specs.Texts.{Name}
use Rattle.lrs_position.specs.Names.{is_route_name}
use Rattle.lrs_machine.specs.Keys.{is_key}
use Rattle.lrs_machine.specs.Lines.{Text}
use Rattle.lrs_machine.specs.declared.answer.Field.{Field}
use Rattle.lrs_machine.specs.declared.question.Destination.{Destination}
use Rattle.lrs_machine.specs.declared.question.Question.{Question}
use Rattle.lrs_sheet_records.proofs.Misfits.{misfit-malformed, runs-out, unknown-malformed}
use Rattle.lrs_sheet_records.proofs.Said.{classes-said, destination-said}
use Rattle.lrs_sheet_records.specs.declared.question.Asked.{Asked}
use Rattle.lrs_sheet_records.specs.declared.question.Asked.TheVariants as asked
use Rattle.lrs_sheet_records.specs.declared.fault.ReadFault.{ReadFault}
use Rattle.lrs_sheet_records.specs.declared.fault.ReadFault.TheVariants as fault
use Rattle.lrs_sheet_records.specs.Fields.{ReadsAsked, ReadsQuestion}
use Rattle.lrs_sheet_records.specs.Questions.{RefusesQuestion, all_questions, name_of, question_shapes}
use Rattle.lrs_sheet_records.specs.Records.{place_of, text_at}
use Rattle.lrs_sheet_records.specs.Shapes.{ClassNames, DestinationName, Fits, IsReachable, LinkOrRoute, Word, destination_text, is_link_word}
use Rattle.lrs_sheet_records.specs.Words.{AreSaid, IsClassWord, words_of}

-- a fault of the fields after a well formed key
pub refuses-asked : (fields : List (List ℕ)) (e : ReadFault) → IsTrue (is_key (text_at fields 0)) → ReadsQuestion fields (Err e) → RefusesQuestion fields e
refuses-asked fields fault.Memory key reads = runs-out all_questions question_shapes fields key reads.0 reads.1
refuses-asked fields (fault.Field at) key (inl (is, unknown)) = rw is (unknown-malformed all_questions question_shapes fields key unknown)
refuses-asked fields (fault.Field at) key (inr (known, misfit)) = misfit-malformed all_questions question_shapes fields (place_of at) key known misfit

-- the fields of a question that there is
pub reads-question : (fields : List (List ℕ)) (name : List ℕ) (result : Result Question ReadFault) → Contains all_questions name → text_at fields 1 ≡ name → ReadsAsked fields name result → ReadsQuestion fields result
reads-question fields name (Ok q) known is reads = (rw is known, is ∙ sym reads.0, rw reads.0 reads.1)
reads-question fields name (Err (fault.Field field)) known is reads = inr (rw is known, rw is reads)
reads-question fields name (Err fault.Memory) known is reads = (rw is known, rw is reads)

-- each question is one of the table
pub is-asked : (q : Asked) → Contains all_questions (name_of q)
is-asked asked.At = (0, lit< tt, refl)
is-asked asked.Translate = (1, lit< tt, refl)
is-asked asked.Find = (2, lit< tt, refl)
is-asked asked.Segments = (3, lit< tt, refl)
is-asked asked.Where = (4, lit< tt, refl)
is-asked asked.Rows = (5, lit< tt, refl)
is-asked asked.Overlay = (6, lit< tt, refl)
is-asked asked.Lengths = (7, lit< tt, refl)
is-asked asked.History = (8, lit< tt, refl)

-- no destination is said where none is found
pub no-destination-there : (texts : Field → Text) (text : Text) → ((to : Destination) → text ≡ destination_text to → IsReachable to → ⊥) → Fits texts (Some DestinationName) text → ⊥
no-destination-there texts text none fits = let (to, is, said, named) = destination-said texts text fits.0 fits.1 in none to said named

-- nor classes
pub no-classes-there : (texts : Field → Text) (text : Text) → ((names : List Name) → AreSaid IsClassWord (words_of text) names → length names ≤ 1_000 → ⊥) → Fits texts (Some ClassNames) text → ⊥
no-classes-there texts text none fits = let (names, is, said, few) = classes-said texts text fits.0 fits.1 in none names said few

pub or-second : (a b : Bool) → b ≡ true → (a || b) ≡ true
or-second true b h = refl
or-second false b h = h

-- `link` stands where a route could
pub link-fits : (texts : Field → Text) (text : Text) → is_link_word text ≡ true → Fits texts (Some LinkOrRoute) text
link-fits texts text is = let passes : (is_link_word text || is_route_name text) ≡ true = ap (λ (b : Bool). b || is_route_name text) is in (Word text, (passes, refl))
