-- Each record says a command or has a first malformed field.
use Rattle.std.proofs.Common.{◌∙◌, ◌≡◌, ◌⊎◌, ℕ, List, [], ◌∷◌, Option, Some, None, true, refl, inl, inr}
use Rattle.std.specs.Prelude.{Contains, map, nat_le, if◌then◌else◌}
use Rattle.std.specs.Str.Parse.{digits_value}
use Rattle.std.proofs.lemmas.Bool.{and_from}
use Rattle.lrs_measure.specs.Lists.{is_from_to, is_nothing}
use Rattle.lrs_measure.specs.Limits.{is_link, is_link_number, longest_link}
use Rattle.lrs_element.specs.declared.link.Piece.{Piece}
use Rattle.lrs_position.specs.Expressions.{Ends}
use Rattle.lrs_position.specs.declared.expression.Expr.{Expr}
use Rattle.lrs_position.specs.declared.expression.Method.{Method}
use Rattle.lrs_position.specs.declared.expression.Method.TheVariants as method
use Rattle.lrs_machine.specs.Keys.{is_key}
use Rattle.lrs_machine.specs.Lines.{Text}
use Rattle.lrs_machine.specs.declared.answer.Field.{Field}
use Rattle.lrs_machine.specs.declared.answer.Field.TheVariants as field
use Rattle.lrs_machine.specs.declared.command.NewAsset.{NewAsset}
use Rattle.lrs_machine.specs.declared.command.Command.{Command}
use Rattle.lrs_machine.specs.declared.command.Command.TheVariants as command
use Rattle.lrs_sheet_records.proofs.Deciding.{argument_in, at-most, expression_in, mark_in, piece_in}
use Rattle.lrs_sheet_records.proofs.Judging.{arguments_in, fitting-say, is_among, among, malformed_in, malformed-from, misfit_in, none-malformed, says-from}
use Rattle.lrs_sheet_records.proofs.Misfits.{verb-named}
use Rattle.lrs_sheet_records.proofs.OneArgument.{kind_from, method_from, side_from}
use Rattle.lrs_sheet_records.proofs.OneCommand.{one-command, one-place, well-formed}
use Rattle.lrs_sheet_records.specs.Laws.{RecordsAreJudged}
use Rattle.lrs_sheet_records.specs.Records.{FirstMalformedAmong, SayAll, SaysAmong, text_at, texts_of}
use Rattle.lrs_sheet_records.specs.Shapes.{Number, Word, SideOf, MethodOf, At, PiecesOf, MarksOf, OrNothing, Pieces, PositionBy}
use Rattle.lrs_sheet_records.specs.Verbs.{all_verbs, arguments_of, new_asset_arguments, new_asset_shapes, method_of, or_nothing, row_of, shapes_of, verb_of}
use Rattle.lrs_sheet_records.specs.declared.verb.Verb.{Verb}
use Rattle.lrs_sheet_records.specs.declared.verb.Verb.TheVariants as verb
use Rattle.lrs_sheet_records.specs.Words.{SaysNumber, words_of}

-- what is read by a method is of the method
pub read-method : (m : Method) (text : Text) → m ≡ method_of (expression_in m text)
read-method method.Abs text = refl
read-method method.Rel text = refl
read-method method.Int text = refl

-- an end that may be missing
abbrev end_in : Text → Text → Option Expr
end_in by text = if is_nothing text then None else Some (expression_in (method_from by) text)

end-read : (texts : Field → Text) (field : Field) (text : Text) → argument_in texts (OrNothing (PositionBy field)) text ≡ or_nothing At (end_in (texts field) text)
end-read texts field [] = refl
end-read texts field (c ∷ text) = refl

-- pieces that may be missing
abbrev some_pieces_in : Text → Option (List Piece)
some_pieces_in text = if is_nothing text then None else Some (map piece_in (words_of text))

pieces-read : (texts : Field → Text) (text : Text) → argument_in texts (OrNothing Pieces) text ≡ or_nothing PiecesOf (some_pieces_in text)
pieces-read texts [] = refl
pieces-read texts (c ∷ text) = refl

-- a location by its method, from and to
abbrev location_in : Text → Text → Text → Ends
location_in by start end = record { from = expression_in (method_from by) start; to = end_in by end }

-- an entry by its fields
abbrev entry_in : List Text → NewAsset
entry_in row = record {
  asset = digits_value 10 (text_at row 2);
  class = text_at row 3;
  route = text_at row 4;
  side = side_from (text_at row 5);
  location = location_in (text_at row 6) (text_at row 7) (text_at row 8);
  value = text_at row 9;
  offset = digits_value 10 (text_at row 10);
}

entry-read : (row : List Text) → arguments_in row 2 new_asset_shapes ≡ new_asset_arguments (entry_in row)
entry-read row =
    let by = read-method (method_from (text_at row 6)) (text_at row 7) in
    let end = end-read (texts_of row) field.E (text_at row 8) in
    λ i. Number (digits_value 10 (text_at row 2)) ∷ Word (text_at row 3) ∷ Word (text_at row 4) ∷ SideOf (side_from (text_at row 5)) ∷ MethodOf (by i)
    ∷ At (expression_in (method_from (text_at row 6)) (text_at row 7)) ∷ end i ∷ Word (text_at row 9) ∷ Number (digits_value 10 (text_at row 10)) ∷ []

-- a link's numbers are in its limits
link-limits : (n l : ℕ) (text other : Text) → SaysNumber 1 999_999 text n → SaysNumber 1 longest_link other l → is_link n l ≡ true
link-limits n l text other g h =
    and_from (is_link_number n) (is_from_to 1 longest_link l)
    (and_from (nat_le 1 n) (nat_le n 999_999) (at-most 1 n g.least) (at-most n 999_999 g.most))
    (and_from (nat_le 1 l) (nat_le l longest_link) (at-most 1 l h.least) (at-most l longest_link h.most))

-- a command of a verb, and of what the fields say
abbrev IsRead : List Text → Text → Type 0
IsRead row name = (command : Command) × (name ≡ verb_of command) × (arguments_in row 2 (shapes_of (verb_of command)) ≡ arguments_of command)

-- each verb has a command of what its fields say
read-verb : (row : List Text) (v : Verb) → SayAll row 2 (shapes_of (row_of v).name) (arguments_in row 2 (shapes_of (row_of v).name)) → IsRead row (row_of v).name
read-verb row verb.Link h =
    let n = digits_value 10 (text_at row 2) in
    let l = digits_value 10 (text_at row 3) in
    (command.Link (record { number = n; length = l; limits = link-limits n l (text_at row 2) (text_at row 3) h.0 h.1.0 }), refl, refl)
read-verb row verb.Class h = (command.Class (record { name = text_at row 2; kind = kind_from (text_at row 3) }), refl, refl)
read-verb row verb.Route h = (command.Route (text_at row 2) (map piece_in (words_of (text_at row 3))) (map mark_in (words_of (text_at row 4))), refl, refl)
read-verb row verb.Ref h =
    let by = read-method (method_from (text_at row 4)) (text_at row 5) in
    (command.Ref (text_at row 2) (text_at row 3) (expression_in (method_from (text_at row 4)) (text_at row 5)), refl, λ i. Word (text_at row 2) ∷ Word (text_at row 3) ∷ MethodOf (by i) ∷ At (expression_in (method_from (text_at row 4)) (text_at row 5)) ∷ [])
read-verb row verb.Unref h = (command.Unref (text_at row 2), refl, refl)
read-verb row verb.Enter h = (command.Enter (entry_in row), refl, entry-read row)
read-verb row verb.Retire h =
    let by = read-method (method_from (text_at row 4)) (text_at row 5) in
    let end = end-read (texts_of row) field.C (text_at row 6) in
    (command.Retire (digits_value 10 (text_at row 2)) (text_at row 3) (location_in (text_at row 4) (text_at row 5) (text_at row 6)), refl, λ i. Number (digits_value 10 (text_at row 2)) ∷ Word (text_at row 3) ∷ MethodOf (by i) ∷ At (expression_in (method_from (text_at row 4)) (text_at row 5)) ∷ end i ∷ [])
read-verb row verb.Split h = (command.Split (text_at row 2) (digits_value 10 (text_at row 3)) (text_at row 4), refl, refl)
read-verb row verb.Join h = (command.Join (text_at row 2) (text_at row 3), refl, refl)
read-verb row verb.Renumber h = (command.Renumber (text_at row 2) (text_at row 3), refl, refl)
read-verb row verb.Recalibrate h = (command.Recalibrate (text_at row 2) (map mark_in (words_of (text_at row 3))), refl, refl)
read-verb row verb.Realign h =
    let course = pieces-read (texts_of row) (text_at row 5) in
    (command.Realign (text_at row 2) (digits_value 10 (text_at row 3)) (digits_value 10 (text_at row 4)) (some_pieces_in (text_at row 5)) (map mark_in (words_of (text_at row 6))), refl, λ i. Word (text_at row 2) ∷ Number (digits_value 10 (text_at row 3)) ∷ Number (digits_value 10 (text_at row 4)) ∷ course i ∷ MarksOf (map mark_in (words_of (text_at row 6))) ∷ [])
read-verb row verb.Close h = (command.Close (text_at row 2), refl, refl)
read-verb row verb.Supersede h = (command.Supersede (entry_in row), refl, entry-read row)
read-verb row verb.Turn h = (command.Turn (text_at row 2), refl, refl)

-- what is judged, where no field before the arguments is malformed
judged : (names row : List Text) → ((name : Text) → Contains names name → Contains all_verbs name) → is_key (text_at row 0) ≡ true → is_among names (text_at row 1) ≡ true
    → misfit_in row 2 (shapes_of (text_at row 1)) ≡ None → (key : Text) × (command : Command) × SaysAmong names row key command
judged names row known key verb fit =
    let (v, named) = verb-named (text_at row 1) (known (text_at row 1) (among names (text_at row 1) verb)) in
    let (command, is, said) = read-verb row v (fitting-say row 2 (shapes_of (row_of v).name) (rw named at fit)) in
    (text_at row 0, command, says-from names row (text_at row 0) command key refl verb (named ∙ is) (rw (named ∙ is) at fit) said)

-- a record is judged by its key, its verb and its arguments
each-judged : (names row : List Text) → ((name : Text) → Contains names name → Contains all_verbs name)
    → ((key : Text) × (command : Command) × SaysAmong names row key command) ⊎ ((place : ℕ) × FirstMalformedAmong names row place)
each-judged names row known = elim (malformed_in names row)
    as (λ o. malformed_in names row ≡ o → ((key : Text) × (command : Command) × SaysAmong names row key command) ⊎ ((place : ℕ) × FirstMalformedAmong names row place)) [
      | None ↦ λ e. let parts = none-malformed names shapes_of row e in inl (judged names row known parts.0 parts.1 parts.2)
      | Some place ↦ λ e. inr (place, malformed-from names row place e)
    ] refl

pub records_are_judged : RecordsAreJudged
records_are_judged = record {
  some = each-judged;
  one_command = one-command;
  one_field = λ names fields place other h g. one-place names shapes_of fields place other h g;
  not_both = λ names row key command place says first. first.malformed (well-formed names row key command says place);
}
