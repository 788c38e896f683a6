-- What is local to the rows of an image: their order and limits, and what a row says of the rows that it names.
use Rattle.std.specs.Prelude.{◌≡◌, ◌≤◌, ◌↔◌, Bool, true, ◌||◌, ◌&&◌, not, nat_lt, nat_le, nat_eq, length}
use Rattle.std.specs.List.{list_all}
use Rattle.lrs_measure.specs.Lists.{each_two}
use Rattle.lrs_measure.specs.Texts.{same_name}
use Rattle.lrs_events.specs.declared.part.Part.{Part}
use Rattle.lrs_events.specs.declared.part.Gone.{Gone}
use Rattle.lrs_events.specs.Parts.{part_before}
use Rattle.lrs_machine.specs.declared.image.Image.{Image}
use Rattle.lrs_machine.specs.State.{same_reason}
use Rattle.lrs_machine.specs.Image.{state_of, reason_of}
use Rattle.lrs_measure.specs.Limits.{most_edits, most_pairs}
use Rattle.lrs_machine.specs.Laws.{IsLawful}
use Rattle.lrs_machine.specs.Sound.{are_links, are_classes, are_assets, are_courses, courses_of, are_all_marks, marks_of, are_all_referents, referents_of, are_spans_of, spans_of, gone_before, share_nothing, pairs_of, parts_of, IsSound}

-- the part has a place
abbrev pub is_filled : Part → Bool
is_filled p = nat_lt p.from p.to

-- parts of one edit share nothing
abbrev pub share_nothing_in_an_edit : Part → Part → Bool
share_nothing_in_an_edit x y = not (nat_eq x.edit y.edit) || share_nothing x y

-- ... nor do parts that are gone by one edit and for one reason
abbrev pub share_nothing_for_a_reason : Gone → Gone → Bool
share_nothing_for_a_reason x y = not (nat_eq x.part.edit y.part.edit && same_reason (reason_of x) (reason_of y)) || share_nothing x.part y.part

-- The rows are in order and in their limits, and name rows that are there. Nothing is asked of links and assets of ledger rows, of balance, of exclusive classes, or of what two edits share: the laws of the state say it.
pub record IsOrderly (i : Image) : Type 0 where
  pub links : are_links i.links ≡ true
  pub classes : are_classes i.classes ≡ true
  pub assets : are_assets i.classes i.assets ≡ true
  pub courses : are_courses i.links (courses_of i) ≡ true
  pub marks : are_all_marks (marks_of i) ≡ true
  pub referents : are_all_referents (referents_of i) ≡ true
  pub spans : list_all (are_spans_of i.assets) (spans_of i) ≡ true
  pub entered_order : each_two part_before i.entered ≡ true
  pub entered_filled : list_all is_filled i.entered ≡ true
  pub entered_apart : each_two share_nothing_in_an_edit i.entered ≡ true
  pub entered_few : list_all (λ a. nat_le (pairs_of a.number i.entered) most_pairs) i.assets ≡ true
  pub gone_order : each_two gone_before i.gone ≡ true
  pub gone_filled : list_all is_filled (parts_of i.gone) ≡ true
  pub gone_apart : each_two share_nothing_for_a_reason i.gone ≡ true
  pub keys : each_two (λ d e. not (same_name d.key e.key)) i.edits ≡ true
  pub few_edits : length i.edits ≤ most_edits

-- An orderly image that stands for a lawful state is sound.
abbrev pub OrderlyLawfulIsSound : Type 0
OrderlyLawfulIsSound = (i : Image) → IsOrderly i → IsLawful (state_of i) → IsSound i

-- A sound image is orderly.
abbrev pub SoundIsOrderly : Type 0
SoundIsOrderly = (i : Image) → IsSound i → IsOrderly i

-- An image is sound exactly where it is orderly and its state is lawful.
abbrev pub SoundIsOrderlyLawful : Type 0
SoundIsOrderlyLawful = (i : Image) → IsSound i ↔ (IsOrderly i × IsLawful (state_of i))
