-- Records of a survey, as records of the verb `enter`.
use Rattle.std.proofs.Common.{◌≡◌, ℕ, List, [], ◌∷◌, Err, refl, arith}
use Rattle.std.specs.Prelude.{Contains, IsTrue, codes}
use Rattle.csv.specs.Records.{field_at}
use Rattle.lrs_machine.specs.Keys.{is_key}
use Rattle.lrs_machine.specs.declared.command.NewAsset.{NewAsset}
use Rattle.lrs_sheet_records.proofs.Misfits.{misfit-malformed}
use Rattle.lrs_sheet_records.specs.Fields.{ReadsAll}
use Rattle.lrs_sheet_records.specs.Records.{SayAll, place_of, text_at}
use Rattle.lrs_sheet_records.specs.Surveys.{RefusesNewAsset, SaysNewAsset, as_edit}
use Rattle.lrs_sheet_records.specs.Verbs.{all_verbs, new_asset_arguments, new_asset_shapes, shapes_of}
use Rattle.lrs_sheet_records.specs.declared.fault.ReadFault.{ReadFault}
use Rattle.lrs_sheet_records.specs.declared.fault.ReadFault.TheVariants as fault

-- there is a verb `enter`
enter-known : Contains all_verbs (codes "enter")
enter-known = (5, omega arith, refl)

-- a record without fields has no key
no-key : IsTrue (is_key (text_at (as_edit []) 0)) → ⊥
unfolding field_at
no-key key = cc key

-- the nine fields of an entry, after a well formed key
pub says-new_asset : (fields : List (List ℕ)) (key : List ℕ) (entry : NewAsset) → IsTrue (is_key (text_at (as_edit fields) 0)) → key ≡ text_at (as_edit fields) 0
    → SayAll (as_edit fields) 2 new_asset_shapes (new_asset_arguments entry) → SaysNewAsset fields key entry
unfolding field_at
says-new_asset [] key entry is same say = absurd (no-key is)
says-new_asset (first ∷ others) key entry is same say = record { is_key = is; same_key = same; is_verb = enter-known; same_verb = refl; arguments = say }

-- the first of them that does not fit
pub refuses-new_asset : (fields : List (List ℕ)) (e : ReadFault) → IsTrue (is_key (text_at (as_edit fields) 0)) → ReadsAll new_asset_shapes new_asset_arguments (as_edit fields) (Err e) → RefusesNewAsset fields e
unfolding field_at
refuses-new_asset fields fault.Memory key reads = absurd reads
refuses-new_asset [] (fault.Field at) key misfit = absurd (no-key key)
refuses-new_asset (first ∷ others) (fault.Field at) key misfit = misfit-malformed all_verbs shapes_of (as_edit (first ∷ others)) (place_of at) key enter-known misfit
