-- The ledger of what is gone, with the rows of the next edit.
use Rattle.std.proofs.Common.{◌≡◌, ℕ, ◌+◌, ◌<◌, Bool, true, cond, List, ◌∷◌, [], ◌++◌, length, sym, ap, ◌∙◌, arith}
use Rattle.std.specs.Prelude.{◌&&◌, not, nat_eq, nat_le, if◌then◌else◌}
use Rattle.std.specs.List.{list_all}
use Rattle.std.specs.declared.cmp.Ordering.TheVariants.{Less, Equal, Greater}
use Rattle.std.specs.Ordering.{is_lt, nat_cmp, ordering_then}
use Rattle.std.specs.Cmp.Lexicographic.{slice_cmp}
use Rattle.std.proofs.lemmas.Bool.{and_parts, or_left, or_right, lt-ltb, leb-true, eqb-true, ne_eqb}
use Rattle.std.proofs.lemmas.List.Folds.{list_all-map}
use Rattle.lrs_measure.specs.Lists.{In, each_two}
use Rattle.lrs_measure.specs.Texts.{same_name}
use Rattle.lrs_events.specs.declared.part.Part.{Part}
use Rattle.lrs_events.specs.declared.part.Gone.{Gone}
use Rattle.lrs_events.specs.Parts.{side_number}
use Rattle.lrs_events.specs.Places.{Place}
use Rattle.lrs_machine.specs.declared.image.Edit.{Edit}
use Rattle.lrs_machine.specs.declared.image.Image.{Image}
use Rattle.lrs_measure.specs.Limits.{most_edits}
use Rattle.lrs_measure.proofs.Members.{In-map, all_at}
use Rattle.lrs_measure.proofs.EachTwo.{each_two_from}
use Rattle.lrs_machine.specs.State.{Reason, same_reason}
use Rattle.lrs_machine.specs.Image.{reason_of}
use Rattle.lrs_machine.specs.Sound.{gone_before, share_nothing, parts_of, is_named_by, IsSound}
use Rattle.lrs_machine.proofs.Pairs.{each_two-map}
use Rattle.lrs_machine.proofs.SoundImages.{and_three}
use Rattle.lrs_image_laws.specs.Orderly.{IsOrderly, is_filled, share_nothing_for_a_reason}
use Rattle.lrs_image_laws.proofs.Ordering.{sound_is_orderly}
use Rattle.lrs_image.proofs.Tables.{passes}
use Rattle.lrs_image_laws.specs.GoneRows.{AreGone, AreInOrder, GoneStaysInOrder}
use Rattle.lrs_image_laws.proofs.Appended.{all-append, each_two-append}
use Rattle.lrs_image_laws.proofs.Once.{parts_apart}

-- rows of a later edit come later
later_gone : (x y : Gone) → x.part.edit < y.part.edit → gone_before x y ≡ true
later_gone x y h = ap (λ b. is_lt (ordering_then (cond b Less (cond (nat_eq x.part.edit y.part.edit) Equal Greater)) (slice_cmp nat_cmp (rest x) (rest y)))) (lt-ltb x.part.edit y.part.edit h)
  where
    rest : Gone → List ℕ
    rest g = (if g.abandoned then 1 else 0) ∷ g.part.asset ∷ g.part.link ∷ g.part.from ∷ side_number g.part.side ∷ []

-- ... and are not of one edit with the others
apart_by_edit : (x y : Gone) → x.part.edit < y.part.edit → share_nothing_for_a_reason x y ≡ true
apart_by_edit x y h =
    or_left (not (nat_eq x.part.edit y.part.edit && same_reason (reason_of x) (reason_of y))) (share_nothing x.part y.part)
    (ap (λ b. not (b && same_reason (reason_of x) (reason_of y))) (ne_eqb x.part.edit y.part.edit (λ e. omega (arith, e, h))))

module _ (i : Image) (why : Reason) (taken : ℕ → Place → Bool) (gone : List Gone) (s : IsSound i) (are : AreGone (length i.edits + 1) why taken gone) where
  part : Gone → Part
  part g = g.part

  edit_tests : list_all (is_named_by i.edits) (parts_of i.gone) ≡ true
  edit_tests =
      let keys = each_two (λ (d f : Edit). not (same_name d.key f.key)) i.edits in
      let a = list_all (is_named_by i.edits) i.entered in
      let b = list_all (is_named_by i.edits) (parts_of i.gone) in
      (and_three keys a b (and_parts (keys && a && b) (nat_le (length i.edits) most_edits) (passes i s).edits).0).2

  earlier : (x y : Gone) → In x i.gone → In y gone → x.part.edit < y.part.edit
  earlier x y m k =
      let named = all_at (is_named_by i.edits) x.part (parts_of i.gone) edit_tests (In-map (λ (g : Gone). g.part) x i.gone m) in
      let high = leb-true x.part.edit (length i.edits) (and_parts (nat_le 1 x.part.edit) (nat_le x.part.edit (length i.edits)) named).1 in
      let own = eqb-true y.part.edit (length i.edits + 1) (all_at (λ g. nat_eq g.part.edit (length i.edits + 1)) y gone are.edit_is k) in
      omega (arith, high, own)

  o : IsOrderly i
  o = sound_is_orderly i s

  filled_by : (gs : List Gone) → list_all is_filled (parts_of gs) ≡ list_all (λ g. is_filled g.part) gs
  filled_by gs = list_all-map is_filled (λ (g : Gone). g.part) gs

  own_apart : each_two share_nothing_for_a_reason gone ≡ true
  own_apart = each_two_from (λ g h. share_nothing g.part h.part) share_nothing_for_a_reason gone
      (λ x y m n h. or_right (not (nat_eq x.part.edit y.part.edit && same_reason (reason_of x) (reason_of y))) (share_nothing x.part y.part) h)
      (sym (each_two-map share_nothing (λ (g : Gone). g.part) gone) ∙ parts_apart (parts_of gone) are.once are.filled)

  pub in_order : AreInOrder (i.gone ++ gone)
  in_order = record {
    order = each_two-append gone_before i.gone gone o.gone_order are.order (λ x y m k. later_gone x y (earlier x y m k));
    filled = filled_by (i.gone ++ gone) ∙ all-append (λ g. is_filled g.part) i.gone gone (sym (filled_by i.gone) ∙ o.gone_filled) (sym (filled_by gone) ∙ are.filled);
    apart = each_two-append share_nothing_for_a_reason i.gone gone o.gone_apart own_apart (λ x y m k. apart_by_edit x y (earlier x y m k));
  }

pub gone_stays_in_order : GoneStaysInOrder
gone_stays_in_order i why taken gone s are = in_order i why taken gone s are
