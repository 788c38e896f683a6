-- What a record of a survey says: an entry under a key, or which of its fields is the first malformed one.
use Rattle.std.specs.Prelude.{ℕ, List, [], ◌∷◌, codes, map}
use Rattle.lrs_machine.specs.Lines.{Text}
use Rattle.lrs_machine.specs.declared.command.NewAsset.{NewAsset}
use Rattle.lrs_machine.specs.declared.command.Command.TheVariants as verb
use Rattle.lrs_sheet_records.specs.declared.fault.ReadFault.{ReadFault}
use Rattle.lrs_sheet_records.specs.declared.fault.ReadFault.TheVariants as fault
use Rattle.lrs_sheet_records.specs.Records.{FirstMalformedAmong, SaysAmong, place_of}
use Rattle.lrs_sheet_records.specs.Verbs.{all_verbs, new_asset_columns}

-- the header of a survey
abbrev pub survey_header : List Text
survey_header = codes "key" ∷ map (λ column. column.name) new_asset_columns

-- the record of an edit sheet that says the same: the nine fields of a survey are the fields a to i of `enter`
abbrev pub as_edit : List Text → List Text
as_edit [] = []
as_edit (key ∷ others) = key ∷ codes "enter" ∷ others

-- The fields of a survey record say this entry under this key.
abbrev pub SaysNewAsset : List Text → Text → NewAsset → Type 0
SaysNewAsset fields key entry = SaysAmong all_verbs (as_edit fields) key (verb.Enter entry)

-- The first field that is malformed, by its place in the record of an edit sheet.
abbrev pub FirstMalformedNewAsset : List Text → ℕ → Type 0
FirstMalformedNewAsset fields place = FirstMalformedAmong all_verbs (as_edit fields) place

-- a fault names the first malformed field, and there is no other fault
abbrev pub RefusesNewAsset : List Text → ReadFault → Type 0
RefusesNewAsset fields (fault.Field field) = FirstMalformedNewAsset fields (place_of field)
RefusesNewAsset fields fault.Memory = ⊥
