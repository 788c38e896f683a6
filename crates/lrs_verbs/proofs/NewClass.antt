-- A new class.
use Rattle.std.proofs.Common.{◌≡◌, ℕ, ◌+◌, Bool, true, false, List, length, Some, None, Ok, Err, refl, sym, ap, ◌∙◌, subst}
use Rattle.std.proofs.lemmas.List.{append-nil}
use Rattle.std.specs.Prelude.{nat_le, ◌&&◌}
use Rattle.std.specs.List.{list_any, list_all}
use Rattle.std.specs.Ordering.{eq_by_cmp}
use Rattle.std.specs.Cmp.Lexicographic.{nat_list_cmp_total}
use Rattle.lrs_inventory.specs.Prelude.{each_two, insert_by, Name, name_cmp, same_name, Asset, Kind, Image, contains_key, state_of, attempt, ◌>>◌, asset_before, IsSound, with_difference, IsOrderly}
use Rattle.lrs_events.specs.declared.class.Class.{Class}
use Rattle.lrs_machine.specs.declared.answer.Cause.TheVariants as cause
use Rattle.lrs_machine.specs.declared.command.Command.TheVariants as verb
use Rattle.lrs_measure.specs.Limits.{most_assets}
use Rattle.lrs_measure.proofs.Members.{all_weaker}
use Rattle.lrs_machine.specs.EnteredNumbers.{is_asset_number, is_lateral_offset}
use Rattle.lrs_machine.specs.Register.{insert}
use Rattle.lrs_machine.specs.Machine.{refuse_if}
use Rattle.lrs_machine.specs.Sound.{class_before, is_asset, are_assets}
use Rattle.lrs_image_laws.proofs.Ordering.{sound_is_orderly}
use Rattle.lrs_inventory.specs.Plans.{plan_of, IsPlanOf}
use Rattle.lrs_inventory.proofs.NamedEntries.{names_exact}
use Rattle.lrs_inventory.proofs.Filed.{is_some-find_row, put-insert_by, names_tie}
use Rattle.lrs_image_laws.proofs.InOrder.{and_weaker, any-insert_by, each_two-insert_by, before-chain, before-comparable}
use Rattle.lrs_verbs.proofs.Unmoved.{adding, can_differ, tells}

-- the image with the class
abbrev pub with_class : Class → Image → Image
with_class c i = record i { classes = insert_by class_before c i.classes }

pub with_difference-class : (c : Class) (i : Image) → with_difference (adding None (Some c)) i ≡ with_class c i
with_difference-class c i = λ j. record (with_class c i) { entered = append-nil i.entered j; gone = append-nil i.gone j }

abbrev class_entry : Class → Name × Kind
class_entry c = (c.name, c.kind)

abbrev pub has_name : Name → Class → Bool
has_name name c = same_name c.name name

ties : (name : Name) (classes : List Class) → list_any (λ c. eq_by_cmp name_cmp name c.name) classes ≡ list_any (has_name name) classes
ties name classes = names_tie (λ (c : Class). c.name) name classes

pub knows : (name : Name) (i : Image) → contains_key (state_of i).classes name ≡ list_any (has_name name) i.classes
unfolding state_of
knows name i = is_some-find_row nat_list_cmp_total names_exact class_entry i.classes name ∙ ties name i.classes

state-with_class : (c : Class) (i : Image) → list_any (has_name c.name) i.classes ≡ false
    → record (state_of i) { classes = insert (state_of i).classes c.name c.kind } ≡ state_of (with_class c i)
unfolding state_of
state-with_class c i fresh =
    ap (λ rows. record (state_of i) { classes = record { rows = rows } }) (put-insert_by nat_list_cmp_total names_exact class_entry class_before (λ a b. refl) c i.classes (ties c.name i.classes ∙ fresh))

-- The verb refuses a known class, and else makes it.
pub refuses_known : (c : Class) (i : Image) (n : ℕ) → contains_key (state_of i).classes c.name ≡ true → attempt n (verb.Class c) (state_of i) ≡ Err cause.ClassKnown
unfolding attempt
refuses_known c i n known =
    ap (λ b. refuse_if b cause.ClassKnown >> Ok (record (state_of i) { classes = insert (state_of i).classes c.name c.kind })) known

makes_new : (c : Class) (i : Image) (n : ℕ) → contains_key (state_of i).classes c.name ≡ false → attempt n (verb.Class c) (state_of i) ≡ Ok (state_of (with_difference (adding None (Some c)) i))
unfolding attempt
makes_new c i n fresh =
    ap (λ b. refuse_if b cause.ClassKnown >> Ok (record (state_of i) { classes = insert (state_of i).classes c.name c.kind })) fresh
    ∙ ap Ok (state-with_class c i (sym (knows c.name i) ∙ fresh) ∙ ap state_of (sym (with_difference-class c i)))

module _ (c : Class) (i : Image) (fresh : list_any (has_name c.name) i.classes ≡ false) (o : IsOrderly i) where
  abbrev new : List Class
  new = insert_by class_before c i.classes

  still_asset : (a : Asset) → is_asset i.classes a ≡ true → is_asset new a ≡ true
  still_asset a h =
      let limits = is_asset_number a.number && is_lateral_offset a.lateral in
      and_weaker limits (list_any (has_name a.class) i.classes) limits (list_any (has_name a.class) new) (λ k. k) (any-insert_by (has_name a.class) class_before c i.classes) h

  still_assets : are_assets i.classes i.assets ≡ true → are_assets new i.assets ≡ true
  still_assets h =
      let order = each_two asset_before i.assets in
      let few = nat_le (length i.assets) most_assets in
      and_weaker (order && list_all (is_asset i.classes) i.assets) few (order && list_all (is_asset new) i.assets) few
      (and_weaker order (list_all (is_asset i.classes) i.assets) order (list_all (is_asset new) i.assets) (λ k. k) (all_weaker (is_asset i.classes) (is_asset new) i.assets still_asset))
      (λ k. k) h

  stays_orderly : IsOrderly (with_class c i)
  stays_orderly = record {
    links = o.links;
    classes = each_two-insert_by class_before (before-chain nat_list_cmp_total (λ (k : Class). k.name)) c i.classes (before-comparable nat_list_cmp_total (λ (k : Class). k.name) c i.classes (ties c.name i.classes ∙ fresh)) o.classes;
    assets = still_assets o.assets;
    courses = o.courses;
    marks = o.marks;
    referents = o.referents;
    spans = o.spans;
    entered_order = o.entered_order;
    entered_filled = o.entered_filled;
    entered_apart = o.entered_apart;
    entered_few = o.entered_few;
    gone_order = o.gone_order;
    gone_filled = o.gone_filled;
    gone_apart = o.gone_apart;
    keys = o.keys;
    few_edits = o.few_edits;
  }

pub makes : (c : Class) (i : Image) → contains_key (state_of i).classes c.name ≡ false → IsSound i → IsPlanOf (verb.Class c) i (plan_of (adding None (Some c)))
makes c i fresh s = record {
  makes = record {
    state = makes_new c i (length i.edits + 1) fresh;
    edits = refl;
    orderly = λ room. subst IsOrderly (sym (with_difference-class c i)) (stays_orderly c i (sym (knows c.name i) ∙ fresh) (sound_is_orderly i s));
  };
  differ = can_differ (adding None (Some c)) i refl tt s;
  tells = tells None (Some c) i;
}
