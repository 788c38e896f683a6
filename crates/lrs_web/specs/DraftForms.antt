-- What a form says of a draft: its words, by the names of its parameters.
use Rattle.std.specs.Prelude.{Bool, List, [], ◌∷◌, ◌++◌, Option, None, codes, bytes_eq}
use Rattle.std.specs.List.{flat_map, list_any}
use Rattle.lrs_machine.specs.Lines.{Text}
use Rattle.lrs_web_requests.specs.Query.{parameter, parameters}
use Rattle.lrs_web_requests.specs.declared.paths.DraftKind.{DraftKind}
use Rattle.lrs_web_requests.specs.declared.paths.DraftKind.TheVariants as kind
use Rattle.lrs_drafts.specs.Words.{SaysDraft}
use Rattle.lrs_drafts.specs.declared.draft.Draft.{Draft}

-- what a draft is for, in one word
abbrev pub kind_text : DraftKind → Text
kind_text kind.Split = codes "split"
kind_text kind.Bypass = codes "bypass"
kind_text kind.Merge = codes "merge"
kind_text kind.Retire = codes "retire"
kind_text kind.Replace = codes "replace"
kind_text kind.Move = codes "move"
kind_text kind.Undo = codes "undo"

-- the names of the parameters that give the words behind it, in the order of the words
abbrev pub word_names : DraftKind → List Text
word_names kind.Split = codes "route" ∷ codes "place" ∷ codes "new" ∷ []
word_names kind.Bypass = codes "route" ∷ codes "from" ∷ codes "to" ∷ codes "pieces" ∷ codes "old" ∷ []
word_names kind.Merge = codes "route" ∷ []
word_names kind.Retire = codes "asset" ∷ []
word_names kind.Replace = codes "asset" ∷ codes "number" ∷ codes "value" ∷ []
word_names kind.Move = codes "asset" ∷ codes "number" ∷ codes "route" ∷ codes "place" ∷ codes "from" ∷ codes "to" ∷ []
word_names kind.Undo = codes "since" ∷ []

-- the names of those beside the words: the front of keys, and for `undo` the number of the first new asset
abbrev pub other_names : DraftKind → List Text
other_names kind.Undo = codes "number" ∷ codes "key" ∷ []
other_names _ = codes "key" ∷ []

-- whether a kind knows a parameter of this name
abbrev pub knows : DraftKind → Text → Bool
knows kind name = list_any (λ known. bytes_eq name known) (word_names kind ++ other_names kind)

-- the words that a form gives: for each name, one after the other, all its values
abbrev pub form_words : DraftKind → Text → List Text
form_words kind form = flat_map (λ name. parameters name form) (word_names kind)

-- the number that may stand beside them
abbrev pub form_number : DraftKind → Text → Option Text
form_number kind.Undo form = parameter (codes "number") form
form_number _ form = None

-- What a form says.
abbrev pub SaysForm : DraftKind → Text → Draft → Type 0
SaysForm kind form draft = SaysDraft (kind_text kind) (form_words kind form) (form_number kind form) draft
