use Rattle.std.proofs.Common.{◌≡◌, ◌-◌, ℕ, length, refl, sym, ap, ◌∙◌}
use Rattle.std.specs.Prelude.{slice_get}
use Rattle.std.proofs.lemmas.Option.{slice_get_read}
use Rattle.lrs_sheet_records.specs.Records.{place_of}
use Rattle.lrs_sheet_advice.specs.Slots.{shapes_behind}
use Rattle.lrs_sheet_advice.proofs.SlotRows.{slot-found}
use Rattle.lrs_sheet_advice.proofs.slot.slot_of.Goals as goal

pub returns-in-Some : goal.returns-in-Some
returns-in-Some c low =
    let slots = c.slots_behind.result.now in
    let same : c.place_of.result - 2 ≡ place_of c.args.field - 2 = ap (λ (n : ℕ). n - 2) c.place_of.ensures in
    let there = slice_get_read slots (length slots) (c.place_of.result - 2) c.in-Some.slot.now refl c.in-Some.ensures.lookup.3.0 c.in-Some.ensures.lookup.1 in
    slot-found slots (shapes_behind c.args.verb) (place_of c.args.field - 2) c.in-Some.slot.now c.slots_behind.ensures (ap (slice_get slots) (sym same) ∙ there)
