-- The record that a command is printed as says that command.
use Rattle.std.proofs.Common.{◌≡◌, ℕ, suc, ◌+◌, ◌≤◌, List, [], ◌∷◌, Option, Some, None, refl, sym, ap, ◌∙◌, ◌-◌, arith}
use Rattle.std.specs.Prelude.{map, ⊤, true, IsTrue}
use Rattle.std.specs.Fmt.{decimal}
use Rattle.std.specs.List.{AllByRecursion}
use Rattle.std.proofs.lemmas.Bool.{and_parts, false≢true}
use Rattle.csv.specs.Records.{field_at}
use Rattle.lrs_measure.specs.Lists.{is_from_to}
use Rattle.lrs_measure.specs.Limits.{is_link_number, longest_link, longest_route}
use Rattle.lrs_element.specs.declared.link.Piece.{Piece}
use Rattle.lrs_position.specs.Expressions.{are_alike, same_method}
use Rattle.lrs_position.specs.Readings.{method_text}
use Rattle.lrs_position.specs.declared.expression.Expr.{Expr}
use Rattle.lrs_position.specs.declared.expression.Expr.TheVariants.{Abs, Rel, Int}
use Rattle.lrs_machine.specs.EnteredNumbers.{is_asset_number, is_chainage, is_lateral_offset}
use Rattle.lrs_machine.specs.Lines.{Text, expression_text}
use Rattle.lrs_machine.specs.WellFormedCommands.{ArePieces, IsNewAsset, IsEnd, IsWellFormed}
use Rattle.lrs_machine.specs.declared.answer.Field.{Field}
use Rattle.lrs_machine.specs.declared.answer.Field.TheVariants as field
use Rattle.lrs_machine.specs.declared.command.NewAsset.{NewAsset}
use Rattle.lrs_machine.specs.declared.command.Command.{Command}
use Rattle.lrs_machine.specs.declared.command.Command.TheVariants as verb
use Rattle.lrs_sheet_records.proofs.Misfits.{is-verb}
use Rattle.lrs_sheet_records.proofs.PrintedTexts.{below, decimal-says, from-to, marks-say, pieces-say, position-stated}
use Rattle.lrs_sheet_records.specs.CanonicalRecords.{IsInLowestTerms, argument_text, record_of}
use Rattle.lrs_sheet_records.specs.Laws.{PrintedRecordsSay}
use Rattle.lrs_sheet_records.specs.Records.{SayAll, text_at, texts_of}
use Rattle.lrs_sheet_records.specs.Shapes.{Argument, At, OrNothing, Pieces, PiecesOf, PositionBy, Says, Shape, StatesBy}
use Rattle.lrs_sheet_records.specs.Words.{SaysNumber}
use Rattle.lrs_sheet_records.specs.Verbs.{arguments_of, new_asset_arguments, new_asset_shapes, method_of, or_nothing, shapes_of, verb_in, verb_of}

-- each argument is said by its text
abbrev ArePrinted : (Field → Text) → List Shape → List Argument → Type 0
ArePrinted texts [] [] = ⊤
ArePrinted texts (shape ∷ shapes) (a ∷ more) = Says texts shape (argument_text a) a × ArePrinted texts shapes more
ArePrinted texts [] (a ∷ more) = ⊥
ArePrinted texts (shape ∷ shapes) [] = ⊥

-- printed arguments are said by the fields where their texts stand
printed-say : (row : List Text) (place : ℕ) (shapes : List Shape) (arguments : List Argument) → ((i : ℕ) → text_at row (place + i) ≡ text_at (map argument_text arguments) i)
    → ArePrinted (texts_of row) shapes arguments → SayAll row place shapes arguments
unfolding field_at
printed-say row place [] [] at h = nothing
  where
    nothing : (i : ℕ) → place ≤ i → text_at row i ≡ []
    nothing i above = let e : place + (i - place) ≡ i = omega (arith, above) in sym (ap (text_at row) e) ∙ at (i - place)
printed-say row place [] (a ∷ more) at h = absurd h
printed-say row place (shape ∷ shapes) [] at h = absurd h
printed-say row place (shape ∷ shapes) (a ∷ more) at h = (
  rw (first) h.0,
  printed-say row (place + 1) shapes more (λ i. let e : place + 1 + i ≡ place + suc i = omega arith in ap (text_at row) e ∙ at (suc i)) h.1,
)
  where
    first : text_at row place ≡ argument_text a
    first = let e : place ≡ place + 0 = omega arith in ap (text_at row) e ∙ at 0

-- expressions of one method have one text of it
one-text : (e f : Expr) → same_method e f ≡ true → method_text (method_of e) ≡ method_text (method_of f)
one-text (Abs m) (Abs n) h = refl
one-text (Rel name t) (Rel other u) h = refl
one-text (Int p) (Int q) h = refl
one-text _ _ h = absurd (false≢true h)

-- an end, where the method's field has the text of the start's method
end-printed : (texts : Field → Text) (field : Field) (start : Expr) (end : Option Expr) → texts field ≡ method_text (method_of start) → IsTrue (are_alike start end) → IsEnd end → IsInLowestTerms (or_nothing At end)
    → Says texts (OrNothing (PositionBy field)) (argument_text (or_nothing At end)) (or_nothing At end)
end-printed texts field start None by alike is kept = refl
end-printed texts field start (Some e) by alike is kept = (method_of e, by ∙ one-text start e alike, position-stated e is kept)

pieces-printed : (texts : Field → Text) (pieces : Option (List Piece)) → ArePieces pieces → Says texts (OrNothing Pieces) (argument_text (or_nothing PiecesOf pieces)) (or_nothing PiecesOf pieces)
pieces-printed texts None h = refl
pieces-printed texts (Some ps) h = (pieces-say ps h, h)

asset-says : (n : ℕ) → IsTrue (is_asset_number n) → SaysNumber 1 1_000_000_000_000 (decimal n) n
asset-says n h = let both = from-to 1 1_000_000_000_000 n h in decimal-says 1 1_000_000_000_000 n both.0 both.1 (omega arith)

chainage-says : (n : ℕ) → IsTrue (is_chainage n) → SaysNumber 0 longest_route (decimal n) n
chainage-says n h = decimal-says 0 longest_route n (omega arith) (below longest_route n h) (omega arith)

offset-says : (n : ℕ) → IsTrue (is_lateral_offset n) → SaysNumber 0 100_000 (decimal n) n
offset-says n h = decimal-says 0 100_000 n (omega arith) (below 100_000 n h) (omega arith)

-- the arguments of an entry, where field E has the text of its method
entry-printed : (texts : Field → Text) (e : NewAsset) → texts field.E ≡ method_text (method_of e.location.from) → IsNewAsset e → AllByRecursion IsInLowestTerms (new_asset_arguments e) → ArePrinted texts new_asset_shapes (new_asset_arguments e)
entry-printed texts e by h kept =
    let start : StatesBy (texts field.E) (expression_text e.location.from) e.location.from = (method_of e.location.from, by, position-stated e.location.from h.location.first kept.1.1.1.1.1.0) in
    let end = end-printed texts field.E e.location.from e.location.to by h.location.alike h.location.end kept.1.1.1.1.1.1.0 in
    (asset-says e.asset h.asset, ((h.class, refl), ((h.route, refl), (refl, (refl, (start, (end, ((h.value, refl), (offset-says e.offset h.offset, tt)))))))))

-- the arguments of a command, in its record
arguments-printed : (key : Text) (command : Command) → IsWellFormed command → AllByRecursion IsInLowestTerms (arguments_of command)
    → ArePrinted (texts_of (record_of key command)) (shapes_of (verb_of command)) (arguments_of command)
unfolding field_at
arguments-printed key (verb.Link l) h kept =
    let both = and_parts (is_link_number l.number) (is_from_to 1 longest_link l.length) l.limits in
    let number = from-to 1 999_999 l.number both.0 in
    let size = from-to 1 longest_link l.length both.1 in
    (decimal-says 1 999_999 l.number number.0 number.1 (omega arith), (decimal-says 1 longest_link l.length size.0 size.1 (omega arith), tt))
arguments-printed key (verb.Class c) h kept = ((h, refl), (refl, tt))
arguments-printed key (verb.Route name pieces marks) h kept = ((h.0, refl), ((pieces-say pieces h.1, h.1), ((marks-say marks h.2, h.2), tt)))
arguments-printed key (verb.Ref name route at) h kept = ((h.0, refl), ((h.1, refl), (refl, ((method_of at, refl, position-stated at h.2 kept.1.1.1.0), tt))))
arguments-printed key (verb.Unref name) h kept = ((h, refl), tt)
arguments-printed key (verb.Enter e) h kept = entry-printed (texts_of (record_of key (verb.Enter e))) e refl h kept
arguments-printed key (verb.Retire asset route location) h kept =
    let start : StatesBy (method_text (method_of location.from)) (expression_text location.from) location.from = (method_of location.from, refl, position-stated location.from h.2.first kept.1.1.1.0) in
    let end = end-printed (texts_of (record_of key (verb.Retire asset route location))) field.C location.from location.to refl h.2.alike h.2.end kept.1.1.1.1.0 in
    (asset-says asset h.0, ((h.1, refl), (refl, (start, (end, tt)))))
arguments-printed key (verb.Split route at name) h kept = ((h.0, refl), (chainage-says at h.1, ((h.2, refl), tt)))
arguments-printed key (verb.Join first second) h kept = ((h.0, refl), ((h.1, refl), tt))
arguments-printed key (verb.Renumber route name) h kept = ((h.0, refl), ((h.1, refl), tt))
arguments-printed key (verb.Recalibrate route marks) h kept = ((h.0, refl), ((marks-say marks h.1, h.1), tt))
arguments-printed key (verb.Realign route first end pieces marks) h kept =
    ((h.0, refl), (chainage-says first h.1, (chainage-says end h.2, (pieces-printed (texts_of (record_of key (verb.Realign route first end pieces marks))) pieces h.3, ((marks-say marks h.4, h.4), tt)))))
arguments-printed key (verb.Close route) h kept = ((h, refl), tt)
arguments-printed key (verb.Supersede e) h kept = entry-printed (texts_of (record_of key (verb.Supersede e))) e refl h kept
arguments-printed key (verb.Turn route) h kept = ((h, refl), tt)

-- the fields behind the key and the verb
behind : (key name : Text) (others : List Text) (i : ℕ) → text_at (key ∷ name ∷ others) (2 + i) ≡ text_at others i
unfolding field_at
behind key name others i = let e : 2 + i ≡ suc (suc i) = omega arith in ap (text_at (key ∷ name ∷ others)) e

-- the record that a command is printed as says it
pub printed_records_say : PrintedRecordsSay
unfolding field_at
printed_records_say key command is formed kept = record {
  is_key = is;
  same_key = refl;
  is_verb = is-verb (verb_in command);
  same_verb = refl;
  arguments = printed-say (record_of key command) 2 (shapes_of (verb_of command)) (arguments_of command) (behind key (verb_of command) (map argument_text (arguments_of command))) (arguments-printed key command formed kept);
}
