-- What commands make of sound images is sound.
use Rattle.std.proofs.Common.{◌≡◌, ◌+◌, ◌≤◌, true, List, [], ◌∷◌, ◌++◌, length, sym, ap, subst, ◌∙◌, Ok, arith, length-append}
use Rattle.std.specs.Prelude.{not}
use Rattle.std.proofs.lemmas.List.{length-map}
use Rattle.lrs_measure.specs.Texts.{same_name}
use Rattle.lrs_machine.specs.declared.command.Command.{Command}
use Rattle.lrs_machine.specs.declared.image.Image.{Image}
use Rattle.lrs_machine.specs.declared.image.Edit.{Edit}
use Rattle.lrs_measure.specs.Limits.{most_edits}
use Rattle.lrs_measure.proofs.EachTwo.{each_two-push}
use Rattle.lrs_machine.specs.Image.{state_of}
use Rattle.lrs_machine.specs.Machine.{attempt}
use Rattle.lrs_machine.specs.Laws.{IsLawful}
use Rattle.lrs_machine.proofs.Lawful.{made_lawful}
use Rattle.lrs_machine.proofs.SoundImages.{sound_is_lawful}
use Rattle.lrs_image_laws.specs.Orderly.{IsOrderly, SoundIsOrderlyLawful}
use Rattle.lrs_image_laws.specs.CommandChanges.{is_new, with_edit, Makes, MadeIsSound}
use Rattle.lrs_image_laws.proofs.Sounding.{kept, orderly_lawful_is_sound}
use Rattle.lrs_image_laws.proofs.Ordering.{sound_is_orderly}

pub sound_is_orderly_lawful : SoundIsOrderlyLawful
sound_is_orderly_lawful i = (λ h. (sound_is_orderly i h, sound_is_lawful i h), λ both. orderly_lawful_is_sound i both.0 both.1)

-- One more edit under a new key leaves the rows in order.
pub with_edit_orderly : (i : Image) (e : Edit) → IsOrderly i → is_new e i.edits ≡ true → length i.edits + 1 ≤ most_edits → IsOrderly (with_edit e i)
with_edit_orderly i e o new room = record {
  links = o.links;
  classes = o.classes;
  assets = o.assets;
  courses = o.courses;
  marks = o.marks;
  referents = o.referents;
  spans = o.spans;
  entered_order = o.entered_order;
  entered_filled = o.entered_filled;
  entered_apart = o.entered_apart;
  entered_few = o.entered_few;
  gone_order = o.gone_order;
  gone_filled = o.gone_filled;
  gone_apart = o.gone_apart;
  keys = each_two-push (λ d f. not (same_name d.key f.key)) i.edits e o.keys new;
  few_edits = omega (arith, length-append i.edits (e ∷ []), room);
}

-- The state that an image stands for is lawful, with the edit.
lawful : (command : Command) (i j : Image) (e : Edit) → IsLawful (state_of i) → Makes command i j → IsLawful (state_of (with_edit e j))
unfolding state_of
lawful command i j e l makes =
    let before = length-map i.edits kept in
    let after = length-map (j.edits ++ e ∷ []) kept in
    let more = length-append j.edits (e ∷ []) in
    let same = ap (λ (es : List Edit). length es) makes.edits in
    made_lawful command (state_of i) (state_of j) (state_of (with_edit e j)).done l (subst (λ n. attempt (n + 1) command (state_of i) ≡ Ok (state_of j)) (sym before) makes.state) (omega (arith, before, after, more, same))

pub made_is_sound : MadeIsSound
made_is_sound command i j e s makes room new few =
    orderly_lawful_is_sound (with_edit e j)
    (with_edit_orderly j e (makes.orderly room) (ap (is_new e) makes.edits ∙ new) (subst (λ (es : List Edit). length es + 1 ≤ most_edits) (sym makes.edits) few))
    (lawful command i j e (sound_is_lawful i s) makes)
