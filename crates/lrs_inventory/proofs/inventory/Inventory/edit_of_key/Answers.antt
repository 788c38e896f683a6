use Rattle.std.proofs.Common.{◌≡◌, List, true, sym, ap, subst, ◌∙◌, Some, None}
use Rattle.std.specs.Prelude.{not}
use Rattle.lrs_inventory.specs.Prelude.{each_two, same_name, Edit, image_of}
use Rattle.lrs_image_laws.proofs.Ordering.{sound_is_orderly}
use Rattle.lrs_inventory.specs.Keys.{IsIndex, place_among}
use Rattle.lrs_inventory.proofs.Known.{number_of, line_of}
use Rattle.lrs_inventory.proofs.inventory.Inventory.edit_of_key.Goals as goal

pub find-requires : goal.find-requires
find-requires c = record {
  index = subst (IsIndex c.self.inside.indexes.keys) (sym c.as_slice.ensures.value) c.self.invariant.indexed.keys;
  once = subst (λ (es : List Edit). each_two (λ d e. not (same_name d.key e.key)) es ≡ true) (sym c.as_slice.ensures.value) (sound_is_orderly (image_of c.self.inside.kept) c.self.invariant.sound).keys;
}

pub returns-in-Some-clause-number : goal.returns-in-Some-clause-number
returns-in-Some-clause-number c =
    number_of (image_of c.self.inside.kept) c.args.self.now c.self.view_is c.args.key.now (Some c.in-Some.place)
    (sym c.in-Some.is ∙ c.find.ensures ∙ ap (λ (es : List Edit). place_among es c.args.key.now) c.as_slice.ensures.value)

pub returns-in-Some-clause-line : goal.returns-in-Some-clause-line
returns-in-Some-clause-line c = λ place same.
    line_of (image_of c.self.inside.kept) c.args.self.now c.self.view_is c.args.key.now c.in-Some.place place c.index.result.now
    (sym c.in-Some.is ∙ c.find.ensures ∙ ap (λ (es : List Edit). place_among es c.args.key.now) c.as_slice.ensures.value) c.index.ensures same

pub returns-in-None-clause-number : goal.returns-in-None-clause-number
returns-in-None-clause-number c =
    number_of (image_of c.self.inside.kept) c.args.self.now c.self.view_is c.args.key.now None
    (sym c.in-None.is ∙ c.find.ensures ∙ ap (λ (es : List Edit). place_among es c.args.key.now) c.as_slice.ensures.value)
