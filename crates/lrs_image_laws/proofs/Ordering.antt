-- A sound image is orderly.
use Rattle.std.proofs.Common.{◌≡◌, Bool, true, List, sym, ◌∙◌}
use Rattle.std.specs.Prelude.{not, nat_eq, nat_le}
use Rattle.std.specs.List.{list_any, list_all}
use Rattle.std.proofs.lemmas.Bool.{and_parts, or_right}
use Rattle.lrs_measure.specs.Lists.{each_two}
use Rattle.lrs_events.specs.declared.part.Part.{Part}
use Rattle.lrs_events.specs.declared.part.Gone.{Gone}
use Rattle.lrs_events.specs.Parts.{part_before}
use Rattle.lrs_measure.specs.Limits.{most_pairs}
use Rattle.lrs_measure.proofs.Members.{all_weaker}
use Rattle.lrs_measure.proofs.EachTwo.{each_two_from}
use Rattle.lrs_machine.specs.Sound.{are_spans_of, spans_of, keeps_exclusive, is_part, share_nothing, pairs_of, are_parts, parts_of, gone_before, are_balanced}
use Rattle.lrs_machine.proofs.Pairs.{each_two-map}
use Rattle.lrs_machine.proofs.SoundImages.{and_three}
use Rattle.lrs_image.proofs.Tables.{passes, keys_once, few_edits}
use Rattle.lrs_image_laws.specs.Orderly.{SoundIsOrderly, is_filled, share_nothing_in_an_edit, share_nothing_for_a_reason}

pub sound_is_orderly : SoundIsOrderly
sound_is_orderly i s =
    let p = passes i s in
    let few : List Part → Bool = λ xs. list_all (λ a. nat_le (pairs_of a.number xs) most_pairs) i.assets in
    let spans = and_parts (list_all (are_spans_of i.assets) (spans_of i)) (list_all (keeps_exclusive i.links i.assets (spans_of i)) i.classes) p.spans in
    let entered = and_parts (each_two part_before i.entered) (are_parts i.links i.assets i.entered) p.entered in
    let parts = and_three (list_all (is_part i.links i.assets) i.entered) (each_two share_nothing i.entered) (few i.entered) entered.1 in
    let gone = and_three (each_two gone_before i.gone) (are_parts i.links i.assets (parts_of i.gone)) (are_balanced i.links i.assets (spans_of i) i.entered (parts_of i.gone)) p.gone in
    let gone_parts = and_three (list_all (is_part i.links i.assets) (parts_of i.gone)) (each_two share_nothing (parts_of i.gone)) (few (parts_of i.gone)) gone.1 in
    let filled : (x : Part) → is_part i.links i.assets x ≡ true → is_filled x ≡ true = λ x h. (and_parts _ _ (and_parts _ (list_any (λ a. nat_eq a.number x.asset) i.assets) h).0).0 in
    record {
      links = p.links;
      classes = p.classes;
      assets = p.assets;
      courses = p.courses;
      marks = p.marks;
      referents = p.referents;
      spans = spans.0;
      entered_order = entered.0;
      entered_filled = all_weaker (is_part i.links i.assets) is_filled i.entered filled parts.0;
      entered_apart = each_two_from share_nothing share_nothing_in_an_edit i.entered (λ x y m n h. or_right (not (nat_eq x.edit y.edit)) (share_nothing x y) h) parts.1;
      entered_few = parts.2;
      gone_order = gone.0;
      gone_filled = all_weaker (is_part i.links i.assets) is_filled (parts_of i.gone) filled gone_parts.0;
      gone_apart = each_two_from (λ g h. share_nothing g.part h.part) share_nothing_for_a_reason i.gone (λ x y m n h. or_right _ (share_nothing x.part y.part) h)
          (sym (each_two-map share_nothing (λ (g : Gone). g.part) i.gone) ∙ gone_parts.1);
      keys = keys_once i s;
      few_edits = few_edits i s;
    }
