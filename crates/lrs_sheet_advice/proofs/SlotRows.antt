-- What the fields of a row are for, and what the table of verbs wants there, place by place.
use Rattle.std.proofs.Common.{◌≡◌, ℕ, List, Option, Some, None, refl, sym, ap, ◌∙◌}
use Rattle.std.specs.Prelude.{map, slice_get}
use Rattle.std.specs.Option.{option_map}
use Rattle.std.proofs.lemmas.Option.{slice_get-map}
use Rattle.lrs_sheet_records.specs.Shapes.{Shape}
use Rattle.lrs_sheet_advice.specs.Slots.{shape_of}
use Rattle.lrs_sheet_advice.specs.declared.slot.Slot.{Slot}

-- at each place the one is as the other
same-place : (slots : List Slot) (shapes : List Shape) (i : ℕ) → map shape_of slots ≡ map Some shapes → option_map shape_of (slice_get slots i) ≡ option_map Some (slice_get shapes i)
same-place slots shapes i e = sym (slice_get-map shape_of slots i) ∙ ap (λ (xs : List (Option Shape)). slice_get xs i) e ∙ slice_get-map Some shapes i

some-shape : (found : Option Shape) (o : Option Shape) → Some found ≡ option_map Some o → found ≡ o
some-shape found (Some shape) e = cc
some-shape found None e = absurd (cc e)

no-shape : (o : Option Shape) → None ≡ option_map Some o → None ≡ o
no-shape (Some shape) e = absurd (cc e)
no-shape None e = refl

-- where a row has a field, it is for what is wanted there
pub slot-found : (slots : List Slot) (shapes : List Shape) (i : ℕ) (slot : Slot) → map shape_of slots ≡ map Some shapes → slice_get slots i ≡ Some slot → shape_of slot ≡ slice_get shapes i
slot-found slots shapes i slot e h = some-shape (shape_of slot) (slice_get shapes i) (sym (ap (option_map shape_of) h) ∙ same-place slots shapes i e)

-- and where it has none, nothing is wanted
pub slot-missing : (slots : List Slot) (shapes : List Shape) (i : ℕ) → map shape_of slots ≡ map Some shapes → slice_get slots i ≡ None → None ≡ slice_get shapes i
slot-missing slots shapes i e h = no-shape (slice_get shapes i) (sym (ap (option_map shape_of) h) ∙ same-place slots shapes i e)
