-- Totals that are counted over the lists of a sound image are those of its state.
use Rattle.std.proofs.Common.{◌≡◌, ℕ, ◌+◌, ◌-◌, ◌≤◌, Bool, true, false, cond, List, [], ◌∷◌, map, Option, Some, None, refl, sym, ap, ◌∙◌, arith, sum_by}
use Rattle.std.specs.Prelude.{◌&&◌, not}
use Rattle.std.specs.Option.{option_map, option_map_or}
use Rattle.lrs_measure.specs.Texts.{Name, same_name}
use Rattle.lrs_ordered.proofs.Keys.{finds_number}
use Rattle.lrs_events.specs.declared.class.Asset.{Asset}
use Rattle.lrs_events.specs.declared.class.Class.{Class}
use Rattle.lrs_events.specs.declared.part.Part.{Part}
use Rattle.lrs_events.specs.declared.part.Gone.{Gone}
use Rattle.lrs_events.specs.declared.span.Span.{Span}
use Rattle.lrs_machine.specs.declared.image.Image.{Image}
use Rattle.lrs_machine.specs.declared.image.RouteRow.{RouteRow}
use Rattle.lrs_machine.specs.Image.{state_of, reason_of, asset_entry}
use Rattle.lrs_machine.specs.Readings.{total_entered, total_gone, total_present}
use Rattle.lrs_machine.specs.Sound.{IsSound}
use Rattle.lrs_machine.specs.State.{State, Reason, Retired, Abandoned, same_reason}
use Rattle.lrs_machine.specs.State as state
use Rattle.lrs_machine.specs.declared.total.Total.{Total}
use Rattle.lrs_image.proofs.Tables.{assets_in_order, classes_in_order}
use Rattle.lrs_report.specs.ListTotals.{entered_of, retired_of, abandoned_of, present_of, kept_sum, list_totals}
use Rattle.lrs_report.specs.ListTotals as lists
use Rattle.lrs_report_answers.specs.Totals.{is_of_class, total_of_class, totals_of, ListsTotal}
use Rattle.lrs_report_answers.proofs.AllRows.{sought, asset_is}
use Rattle.lrs_report_answers.proofs.Ledgers.{sum-all, ledgers_total}
use Rattle.lrs_report_answers.proofs.Tally.Present.{names_turned, present_is}
use Rattle.lrs_report_answers.proofs.Tally.Summed.{sum-filtered, few_entered, kept_is, second_less, third_less}

abbrev reach : Part → ℕ
reach p = p.to - p.from

first_less : (p r a e n : ℕ) → p + r + a ≡ e → e ≤ n → p ≤ n
first_less p r a e n h l = omega (arith, h, l)

as_retired : (b o : Bool) (n : ℕ) → cond (not b && o) n 0 ≡ cond (same_reason (cond b Abandoned Retired) Retired) (cond o n 0) 0
as_retired true o n = refl
as_retired false o n = refl

as_abandoned : (b o : Bool) (n : ℕ) → cond (b && o) n 0 ≡ cond (same_reason (cond b Abandoned Retired) Abandoned) (cond o n 0) 0
as_abandoned true o n = refl
as_abandoned false o n = refl

by_option : (o : Option Asset) (class : Name)
    → option_map_or (λ its. same_name class its) (option_map (λ (a : Asset). a.class) o) false ≡ option_map_or (λ (a : state.Asset). same_name a.class class) (option_map (λ (a : Asset). (asset_entry a).1) o) false
by_option None class = refl
by_option (Some a) class = names_turned class a.class

module _ (i : Image) (sound : IsSound i) where
  abbrev s : State
  s = state_of i

  abbrev routes : List (List Span)
  routes = map (λ (e : RouteRow). e.spans) i.routes

  of_class : (class : Name) (n : ℕ) → lists.is_of_class class i.assets n ≡ is_of_class s class n
  of_class class n =
      ap (λ (o : Option Asset). option_map_or (λ its. same_name class its) (option_map (λ (a : Asset). a.class) o) false) (sym (finds_number (λ (a : Asset). a.number) n i.assets))
      ∙ by_option (sought i n) class
      ∙ ap (λ (o : Option state.Asset). option_map_or (λ (a : state.Asset). same_name a.class class) o false) (sym (asset_is i n))

  entered_is : (class : Name) → entered_of class i.assets i.entered ≡ total_entered class s
  entered_is class = sum-all _ _ i.entered (λ p. ap (λ b. cond b (reach p) 0) (of_class class p.asset)) ∙ sym (ledgers_total i sound class).entered

  gone_is : (why : Reason) (class : Name) (f : Gone → ℕ) → ((g : Gone) → f g ≡ cond (same_reason (reason_of g) why) (cond (lists.is_of_class class i.assets g.part.asset) (reach g.part) 0) 0) → sum_by f i.gone ≡ total_gone why class s
  gone_is why class f is =
      sum-all f (λ g. cond (same_reason (reason_of g) why) (cond (is_of_class s class g.part.asset) (reach g.part) 0) 0) i.gone
      (λ g. is g ∙ ap (λ b. cond (same_reason (reason_of g) why) (cond b (reach g.part) 0) 0) (of_class class g.part.asset))
      ∙ sum-filtered (λ g. same_reason (reason_of g) why) (λ (g : Gone). g.part) (λ (p : Part). cond (is_of_class s class p.asset) (reach p) 0) i.gone
      ∙ sym ((ledgers_total i sound class).gone why)

  retired_is : (class : Name) → retired_of class i.assets i.gone ≡ total_gone Retired class s
  retired_is class = gone_is Retired class (λ g. cond (not g.abandoned && lists.is_of_class class i.assets g.part.asset) (reach g.part) 0) (λ g. as_retired g.abandoned (lists.is_of_class class i.assets g.part.asset) (reach g.part))

  abandoned_is : (class : Name) → abandoned_of class i.assets i.gone ≡ total_gone Abandoned class s
  abandoned_is class = gone_is Abandoned class (λ g. cond (g.abandoned && lists.is_of_class class i.assets g.part.asset) (reach g.part) 0) (λ g. as_abandoned g.abandoned (lists.is_of_class class i.assets g.part.asset) (reach g.part))

  abbrev list_total : Name → Total
  list_total class = record {
    class = class;
    entered = kept_sum (entered_of class i.assets i.entered);
    retired = kept_sum (retired_of class i.assets i.gone);
    abandoned = kept_sum (abandoned_of class i.assets i.gone);
    present = kept_sum (present_of class routes);
  }

  total_is : (class : Name) → list_total class ≡ total_of_class s class
  total_is class =
      let entered = total_entered class s in
      let retired = total_gone Retired class s in
      let abandoned = total_gone Abandoned class s in
      let present = total_present class s in
      let few = few_entered i sound class in
      let law = (ledgers_total i sound class).present in
      let e = kept_is entered (entered_of class i.assets i.entered) (entered_is class) few in
      let r = kept_is retired (retired_of class i.assets i.gone) (retired_is class) (second_less present retired abandoned entered 20_000_000_000_000_000 law few) in
      let a = kept_is abandoned (abandoned_of class i.assets i.gone) (abandoned_is class) (third_less present retired abandoned entered 20_000_000_000_000_000 law few) in
      let p = kept_is present (present_of class routes) (sym (present_is i sound class)) (first_less present retired abandoned entered 20_000_000_000_000_000 law few) in
      λ j. record { class = class; entered = e j; retired = r j; abandoned = a j; present = p j }

  totals_are : (classes : List Class) → map (λ (c : Class). list_total c.name) classes ≡ map (λ (c : Name × _). total_of_class s c.0) (map (λ (c : Class). (c.name, c.kind)) classes)
  totals_are [] = refl
  totals_are (c ∷ cs) = λ j. total_is c.name j ∷ totals_are cs j

  in_state : map (λ (c : Name × _). total_of_class s c.0) (map (λ (c : Class). (c.name, c.kind)) i.classes) ≡ totals_of s
  unfolding state_of
  in_state = refl

pub lists_total : ListsTotal
lists_total i sound = record { classes_order = classes_in_order i sound; assets_order = assets_in_order i sound; totals = totals_are i sound i.classes ∙ in_state i sound }
