-- A record says one key and one command, or has one first malformed field.
use Rattle.std.proofs.Common.{◌≡◌, ℕ, zero, suc, ◌+◌, List, [], ◌∷◌, Option, Some, None, refl, sym, ap, ◌∙◌, inl, inr, arith}
use Rattle.std.specs.Prelude.{codes, slice_get, slice_index_or}
use Rattle.std.specs.Fmt.{decimal}
use Rattle.std.proofs.lemmas.Bool.{cases_lt}
use Rattle.lrs_measure.specs.Texts.{same_name}
use Rattle.lrs_element.specs.declared.link.Piece.{Piece}
use Rattle.lrs_position.specs.declared.expression.Expr.{Expr}
use Rattle.lrs_machine.specs.Lines.{Text, fields}
use Rattle.lrs_machine.specs.declared.answer.Field.{Field}
use Rattle.lrs_machine.specs.declared.answer.Field.TheVariants as field
use Rattle.lrs_machine.specs.declared.command.NewAsset.{NewAsset}
use Rattle.lrs_machine.specs.declared.command.Command.{Command}
use Rattle.lrs_machine.specs.declared.command.Command.TheVariants as verb
use Rattle.lrs_machine.proofs.Joined.{differ}
use Rattle.lrs_machine.proofs.LinesApart.{lines_tell_commands_apart}
use Rattle.lrs_sheet_records.proofs.Misfits.{fits-along}
use Rattle.lrs_sheet_records.proofs.OneArgument.{one-list}
use Rattle.lrs_sheet_records.specs.Records.{FirstMalformedBy, IsWellFormedBy, SayAll, SaysAmong, place_of, text_at, texts_of}
use Rattle.lrs_sheet_records.specs.Shapes.{Argument, At, PiecesOf, Fits, Shape}
use Rattle.lrs_sheet_records.specs.Verbs.{arguments_of, new_asset_arguments, or_nothing, shapes_of, verb_of}

-- the field at a place
abbrev field_of : ℕ → Field
field_of place = slice_index_or (field.Key ∷ field.Verb ∷ field.A ∷ field.B ∷ field.C ∷ field.D ∷ field.E ∷ field.F ∷ field.G ∷ field.H ∷ field.I ∷ []) place field.Key

back : (f : Field) → field_of (place_of f) ≡ f
back field.Key = refl
back field.Verb = refl
back field.A = refl
back field.B = refl
back field.C = refl
back field.D = refl
back field.E = refl
back field.F = refl
back field.G = refl
back field.H = refl
back field.I = refl

-- fields at one place are one
one-field : (f g : Field) → place_of f ≡ place_of g → f ≡ g
one-field f g e = sym (back f) ∙ ap field_of e ∙ back g

-- one place is the first malformed one
pub one-place : (names : List Text) (shapes : Text → List Shape) (fields : List Text) (p q : ℕ) → FirstMalformedBy names shapes fields p → FirstMalformedBy names shapes fields q → p ≡ q
one-place names shapes fields p q h g = elim (cases_lt p q) [
  | inl below ↦ absurd (h.malformed (g.earlier p below))
  | inr above ↦ elim (cases_lt q p) [
    | inl below ↦ absurd (g.malformed (h.earlier q below))
    | inr under ↦ omega (arith, above, under)
  ]
]

-- so it is one field
pub one-malformed : (names : List Text) (shapes : Text → List Shape) (fields : List Text) (f g : Field) → FirstMalformedBy names shapes fields (place_of f) → FirstMalformedBy names shapes fields (place_of g) → f ≡ g
one-malformed names shapes fields f g first other = one-field f g (one-place names shapes fields (place_of f) (place_of g) first other)

-- what is said fits
pub say-fits : (fields : List Text) (place : ℕ) (shapes : List Shape) (arguments : List Argument) → SayAll fields place shapes arguments
    → (i : ℕ) → Fits (texts_of fields) (slice_get shapes i) (text_at fields (place + i))
say-fits fields place [] [] h i = h (place + i) (omega arith)
say-fits fields place [] (argument ∷ arguments) h i = absurd h
say-fits fields place (shape ∷ shapes) [] h i = absurd h
say-fits fields place (shape ∷ shapes) (argument ∷ arguments) h zero = fits-along fields (Some shape) place (place + 0) (omega arith) (argument, h.0)
say-fits fields place (shape ∷ shapes) (argument ∷ arguments) h (suc i) = fits-along fields (slice_get shapes i) (place + 1 + i) (place + suc i) (omega arith) (say-fits fields (place + 1) shapes arguments h.1 i)

-- where a command is said each field is well formed
pub well-formed : (names fields : List Text) (key : List ℕ) (command : Command) → SaysAmong names fields key command → (place : ℕ) → IsWellFormedBy names shapes_of fields place
well-formed names fields key command says zero = says.is_key
well-formed names fields key command says (suc zero) = says.is_verb
well-formed names fields key command says (suc (suc i)) = rw says.same_verb (say-fits fields 2 (shapes_of (verb_of command)) (arguments_of command) says.arguments i)

-- ends that may be missing
ends-alike : (x y : Option Expr) → or_nothing At x ≡ or_nothing At y → x ≡ y
ends-alike None None e = refl
ends-alike None (Some f) e = cc
ends-alike (Some f) None e = cc
ends-alike (Some f) (Some g) e = let same : f ≡ g = cc in ap Some same

-- and pieces that may be
pieces-alike : (x y : Option (List Piece)) → or_nothing PiecesOf x ≡ or_nothing PiecesOf y → x ≡ y
pieces-alike None None e = refl
pieces-alike None (Some qs) e = cc
pieces-alike (Some ps) None e = cc
pieces-alike (Some ps) (Some qs) e = let same : ps ≡ qs = cc in ap Some same

-- equal arguments come only of equal entries
entries-alike : (d e : NewAsset) → new_asset_arguments d ≡ new_asset_arguments e → d ≡ e
entries-alike d e same =
    let asset : d.asset ≡ e.asset = cc in
    let class : d.class ≡ e.class = cc in
    let route : d.route ≡ e.route = cc in
    let side : d.side ≡ e.side = cc in
    let start : d.location.from ≡ e.location.from = cc in
    let end : or_nothing At d.location.to ≡ or_nothing At e.location.to = cc in
    let value : d.value ≡ e.value = cc in
    let offset : d.offset ≡ e.offset = cc in
    let stop = ends-alike d.location.to e.location.to end in
    λ i. record { asset = asset i; class = class i; route = route i; side = side i; location = record { from = start i; to = stop i }; value = value i; offset = offset i }

-- equal verbs and arguments come only of equal commands
commands-alike : (a b : Command) → verb_of a ≡ verb_of b → arguments_of a ≡ arguments_of b → a ≡ b
commands-alike (verb.Link l) (verb.Link m) v e =
    let number : l.number ≡ m.number = cc in
    let size : l.length ≡ m.length = cc in
    lines_tell_commands_apart (verb.Link l) (verb.Link m) tt tt (λ i. fields (codes "link" ∷ decimal (number i) ∷ decimal (size i) ∷ []))
commands-alike (verb.Class c) (verb.Class d) v e =
    let name : c.name ≡ d.name = cc in
    let kind : c.kind ≡ d.kind = cc in
    λ i. verb.Class (record { name = name i; kind = kind i })
commands-alike (verb.Route name pieces marks) (verb.Route other qs ns) v e =
    let same : name ≡ other = cc in
    let course : pieces ≡ qs = cc in
    let line : marks ≡ ns = cc in
    λ i. verb.Route (same i) (course i) (line i)
commands-alike (verb.Ref name route at) (verb.Ref other way on) v e =
    let same : name ≡ other = cc in
    let road : route ≡ way = cc in
    let place : at ≡ on = cc in
    λ i. verb.Ref (same i) (road i) (place i)
commands-alike (verb.Unref name) (verb.Unref other) v e = let same : name ≡ other = cc in ap verb.Unref same
commands-alike (verb.Enter d) (verb.Enter f) v e = ap verb.Enter (entries-alike d f e)
commands-alike (verb.Retire asset route location) (verb.Retire other way place) v e =
    let number : asset ≡ other = cc in
    let road : route ≡ way = cc in
    let start : location.from ≡ place.from = cc in
    let end : or_nothing At location.to ≡ or_nothing At place.to = cc in
    let stop = ends-alike location.to place.to end in
    λ i. verb.Retire (number i) (road i) (record { from = start i; to = stop i })
commands-alike (verb.Split route at name) (verb.Split way on other) v e =
    let road : route ≡ way = cc in
    let place : at ≡ on = cc in
    let same : name ≡ other = cc in
    λ i. verb.Split (road i) (place i) (same i)
commands-alike (verb.Join first second) (verb.Join way other) v e =
    let road : first ≡ way = cc in
    let next : second ≡ other = cc in
    λ i. verb.Join (road i) (next i)
commands-alike (verb.Renumber route name) (verb.Renumber way other) v e =
    let road : route ≡ way = cc in
    let same : name ≡ other = cc in
    λ i. verb.Renumber (road i) (same i)
commands-alike (verb.Recalibrate route marks) (verb.Recalibrate way ns) v e =
    let road : route ≡ way = cc in
    let line : marks ≡ ns = cc in
    λ i. verb.Recalibrate (road i) (line i)
commands-alike (verb.Realign route first end pieces marks) (verb.Realign way start stop qs ns) v e =
    let road : route ≡ way = cc in
    let lower : first ≡ start = cc in
    let upper : end ≡ stop = cc in
    let some : or_nothing PiecesOf pieces ≡ or_nothing PiecesOf qs = cc in
    let line : marks ≡ ns = cc in
    let course = pieces-alike pieces qs some in
    λ i. verb.Realign (road i) (lower i) (upper i) (course i) (line i)
commands-alike (verb.Close route) (verb.Close way) v e = let road : route ≡ way = cc in ap verb.Close road
commands-alike (verb.Supersede d) (verb.Supersede f) v e = ap verb.Supersede (entries-alike d f e)
commands-alike (verb.Turn route) (verb.Turn way) v e = let road : route ≡ way = cc in ap verb.Turn road
commands-alike (verb.Link l) b v e = absurd (differ (same_name (codes "link")) (codes "link") (verb_of b) v refl refl)
commands-alike (verb.Class c) b v e = absurd (differ (same_name (codes "class")) (codes "class") (verb_of b) v refl refl)
commands-alike (verb.Route name pieces marks) b v e = absurd (differ (same_name (codes "route")) (codes "route") (verb_of b) v refl refl)
commands-alike (verb.Ref name route at) b v e = absurd (differ (same_name (codes "ref")) (codes "ref") (verb_of b) v refl refl)
commands-alike (verb.Unref name) b v e = absurd (differ (same_name (codes "unref")) (codes "unref") (verb_of b) v refl refl)
commands-alike (verb.Enter d) b v e = absurd (differ (same_name (codes "enter")) (codes "enter") (verb_of b) v refl refl)
commands-alike (verb.Retire asset route location) b v e = absurd (differ (same_name (codes "retire")) (codes "retire") (verb_of b) v refl refl)
commands-alike (verb.Split route at name) b v e = absurd (differ (same_name (codes "split")) (codes "split") (verb_of b) v refl refl)
commands-alike (verb.Join first second) b v e = absurd (differ (same_name (codes "join")) (codes "join") (verb_of b) v refl refl)
commands-alike (verb.Renumber route name) b v e = absurd (differ (same_name (codes "renumber")) (codes "renumber") (verb_of b) v refl refl)
commands-alike (verb.Recalibrate route marks) b v e = absurd (differ (same_name (codes "recalibrate")) (codes "recalibrate") (verb_of b) v refl refl)
commands-alike (verb.Realign route first end pieces marks) b v e = absurd (differ (same_name (codes "realign")) (codes "realign") (verb_of b) v refl refl)
commands-alike (verb.Close route) b v e = absurd (differ (same_name (codes "close")) (codes "close") (verb_of b) v refl refl)
commands-alike (verb.Supersede d) b v e = absurd (differ (same_name (codes "supersede")) (codes "supersede") (verb_of b) v refl refl)
commands-alike (verb.Turn route) b v e = absurd (differ (same_name (codes "turn")) (codes "turn") (verb_of b) v refl refl)

-- the fields say one command
pub one-command : (names row : List Text) (key other : Text) (a b : Command) → SaysAmong names row key a → SaysAmong names row other b → (key ≡ other) × (a ≡ b)
one-command names row key other a b h g =
    let verbs : verb_of a ≡ verb_of b = sym h.same_verb ∙ g.same_verb in
    (h.same_key ∙ sym g.same_key, commands-alike a b verbs (one-list row 2 (shapes_of (verb_of b)) (arguments_of a) (arguments_of b) (rw verbs at h.arguments) g.arguments))
