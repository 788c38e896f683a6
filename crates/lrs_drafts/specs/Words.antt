-- What the words of a draft say: what it is to do, and the words behind that.
use Rattle.std.specs.Prelude.{◌≡◌, ◌≤◌, ⊤, IsTrue, ℕ, List, [], ◌∷◌, codes, length, Option, Some, None}
use Rattle.lrs_measure.specs.Limits.{greatest_asset, most_edits}
use Rattle.lrs_measure.specs.Texts.{Name}
use Rattle.lrs_element.specs.declared.link.Piece.{Piece}
use Rattle.lrs_position.specs.Names.{is_route_name}
use Rattle.lrs_events.specs.Names.{is_value}
use Rattle.lrs_machine.specs.EnteredNumbers.{are_entered_pieces}
use Rattle.lrs_machine.specs.Lines.{Text}
use Rattle.lrs_machine.specs.PlaceTexts.{SaysPlace}
use Rattle.lrs_machine.specs.declared.question.Place.{Place}
use Rattle.lrs_sheet_records.specs.Words.{AreSaid, IsPieceText, SaysNumber, words_of}
use Rattle.lrs_drafts.specs.declared.draft.Draft.{Draft}
use Rattle.lrs_drafts.specs.declared.draft.Draft.TheVariants.{Split, Bypass, Retire, Replace, Move, Merge, Undo}

-- ---- one word

-- the name of a route
abbrev pub SaysRoute : Text → Name → Type 0
SaysRoute word route = (route ≡ word) × IsTrue (is_route_name word)

-- the value of an asset
abbrev pub SaysValue : Text → Name → Type 0
SaysValue word value = (value ≡ word) × IsTrue (is_value word)

-- the number of an asset
abbrev pub SaysAsset : Text → ℕ → Type 0
SaysAsset word asset = SaysNumber 1 greatest_asset word asset

-- the number of an edit
abbrev pub SaysEdit : Text → ℕ → Type 0
SaysEdit word edit = SaysNumber 1 most_edits word edit

-- pieces, with a space between two
abbrev pub SaysPieces : Text → List Piece → Type 0
SaysPieces word pieces = AreSaid IsPieceText (words_of word) pieces × IsTrue (are_entered_pieces pieces)

-- the number of an asset, where it is given
abbrev pub SaysAssetIfGiven : Option Text → Option ℕ → Type 0
SaysAssetIfGiven (Some word) (Some asset) = SaysAsset word asset
SaysAssetIfGiven None None = ⊤
SaysAssetIfGiven _ _ = ⊥

-- ---- the words behind what is to be done

-- a route, where it ends, and the name of what lies behind
abbrev pub SaysSplit : List Text → Name → Place → Name → Type 0
SaysSplit (first ∷ at ∷ second ∷ []) route place new = SaysRoute first route × SaysPlace at place × SaysRoute second new
SaysSplit _ route place new = ⊥

-- a route, where the old road begins and ends, the pieces of the new one, and the name of the old one
abbrev pub SaysBypass : List Text → Name → Place → Place → List Piece → Name → Type 0
SaysBypass (first ∷ begin ∷ end ∷ over ∷ second ∷ []) route from to pieces old =
    SaysRoute first route × SaysPlace begin from × SaysPlace end to × SaysPieces over pieces × SaysRoute second old
SaysBypass _ route from to pieces old = ⊥

-- an asset
abbrev pub SaysRetire : List Text → ℕ → Type 0
SaysRetire (first ∷ []) asset = SaysAsset first asset
SaysRetire _ asset = ⊥

-- an asset, the number of the one in its place, and that one's value
abbrev pub SaysReplace : List Text → ℕ → ℕ → Name → Type 0
SaysReplace (first ∷ second ∷ what ∷ []) asset number value = SaysAsset first asset × SaysAsset second number × SaysValue what value
SaysReplace _ asset number value = ⊥

-- an asset, the number of the one in its place, and its route
abbrev pub SaysMoved : Text → Text → Text → ℕ → ℕ → Name → Type 0
SaysMoved first second on asset number route = SaysAsset first asset × SaysAsset second number × SaysRoute on route

-- ... and where it lies there, or begins and ends
abbrev pub SaysMove : List Text → ℕ → ℕ → Name → Place → Option Place → Type 0
SaysMove (first ∷ second ∷ on ∷ begin ∷ []) asset number route from None = SaysMoved first second on asset number route × SaysPlace begin from
SaysMove (first ∷ second ∷ on ∷ begin ∷ end ∷ []) asset number route from (Some to) =
    SaysMoved first second on asset number route × SaysPlace begin from × SaysPlace end to
SaysMove _ asset number route from to = ⊥

-- two routes at least
abbrev pub SaysMerge : List Text → List Name → Type 0
SaysMerge words routes = AreSaid SaysRoute words routes × (2 ≤ length routes)

-- nothing, or the number of the first edit that is undone
abbrev pub SaysUndo : List Text → Option ℕ → Type 0
SaysUndo [] None = ⊤
SaysUndo (first ∷ []) (Some edit) = SaysEdit first edit
SaysUndo _ _ = ⊥

-- What the words say. The number of a new asset may stand beside them for `undo` alone.
abbrev pub SaysDraft : Text → List Text → Option Text → Draft → Type 0
SaysDraft what words number (Split route place new) = (what ≡ codes "split") × (number ≡ None) × SaysSplit words route place new
SaysDraft what words number (Bypass route from to pieces old) = (what ≡ codes "bypass") × (number ≡ None) × SaysBypass words route from to pieces old
SaysDraft what words number (Retire asset) = (what ≡ codes "retire") × (number ≡ None) × SaysRetire words asset
SaysDraft what words number (Replace asset new value) = (what ≡ codes "replace") × (number ≡ None) × SaysReplace words asset new value
SaysDraft what words number (Move asset new route from to) = (what ≡ codes "move") × (number ≡ None) × SaysMove words asset new route from to
SaysDraft what words number (Merge routes) = (what ≡ codes "merge") × (number ≡ None) × SaysMerge words routes.items
SaysDraft what words number (Undo from new) = (what ≡ codes "undo") × SaysUndo words from × SaysAssetIfGiven number new

-- the draft moves an asset as these words say it, to these places
abbrev pub IsMoved : Text → Text → Text → Place → Option Place → Draft → Type 0
IsMoved first second on begin end (Move asset number route from to) = SaysMoved first second on asset number route × (from ≡ begin) × (to ≡ end)
IsMoved first second on begin end _ = ⊥
