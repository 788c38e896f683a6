-- What the rows of a route say of its segments, in the state that a sound image stands for.
use Rattle.std.proofs.Common.{◌≡◌, ℕ, Bool, true, false, cond, List, [], ◌∷◌, map, length, Option, Some, None, Result, Ok, Err, refl, sym, ap, subst, ◌∙◌}
use Rattle.std.specs.Prelude.{MatchOption, not, position}
use Rattle.std.specs.List.{list_all}
use Rattle.std.proofs.lemmas.Bool.{and_parts}
use Rattle.lrs_measure.specs.Texts.{Name}
use Rattle.lrs_measure.specs.Lists.{In}
use Rattle.lrs_measure.proofs.Members.{all_at, In-map}
use Rattle.lrs_events.specs.declared.class.Class.{Class}
use Rattle.lrs_events.specs.declared.side.Side.{Side}
use Rattle.lrs_events.specs.Spans.{are_rows, same_side}
use Rattle.lrs_events.specs.declared.side.Side.TheVariants.{B}
use Rattle.lrs_machine.specs.declared.segment.SegFault.{SegFault}
use Rattle.lrs_machine.specs.declared.segment.SegFault.TheVariants as seg
use Rattle.lrs_machine.specs.Segments.{segment_fault, fault_at, is_class, is_exclusive_class}
use Rattle.lrs_machine.specs.declared.image.RouteRow.{RouteRow}
use Rattle.lrs_machine.specs.declared.image.Image.{Image}
use Rattle.lrs_machine.specs.Image.{state_of}
use Rattle.lrs_machine.specs.Sound.{IsSound, RouteSpans, are_spans_of, spans_of, is_span, keeps_exclusive}
use Rattle.lrs_machine.proofs.SoundImages.{sound_is_lawful}
use Rattle.lrs_image.proofs.Tables.{passes, assets_in_order, classes_in_order}
use Rattle.lrs_report.specs.SideValues.{IsAnswer, AreExclusive}
use Rattle.lrs_report.specs.StateSegments.{TellHolders}
use Rattle.lrs_report.specs.SideValues.{holders_along}
use Rattle.lrs_report.specs.Sweep.{run_of}
use Rattle.lrs_report.proofs.States.{exclusive_too, of_state}
use Rattle.lrs_machine.specs.declared.segment.Segment.{Segment}
use Rattle.lrs_machine.specs.Segments.{segments_of}
use Rattle.lrs_events.specs.declared.side.LinkSide.{LinkSide}
use Rattle.lrs_events.specs.RouteSpans.Search.{one_side}
use Rattle.lrs_position.specs.Locations.{Alignment}
use Rattle.lrs_position.specs.Translations.{alignment_of}
use Rattle.lrs_machine.specs.Register.{get}
use Rattle.lrs_machine.specs.Readings.{segments_on}
use Rattle.lrs_report_answers.specs.declared.fault.AskFault.{AskFault}
use Rattle.lrs_report_answers.specs.declared.fault.AskFault.TheVariants.{Seg}
use Rattle.lrs_report_answers.specs.Answers.{IsRouteIn, UnlessMemory}
use Rattle.lrs_report_answers.specs.RouteSegments.{class_list, asked_fault, IsSegmented}
use Rattle.lrs_report_answers.proofs.Asked.{route_in, on_route}
use Rattle.lrs_image_laws.proofs.Holding.{held_at}

abbrev spans_entry : RouteRow → RouteSpans
spans_entry f = record { course = f.route.course; rows = f.spans }

-- the rows of a route are canonical, on it, and of known assets and their classes
pub row_tests : (i : Image) (r : RouteRow) → IsSound i → In r i.routes → are_spans_of i.assets (spans_entry r) ≡ true
row_tests i r sound m =
    all_at (are_spans_of i.assets) (spans_entry r) (spans_of i)
    (and_parts (list_all (are_spans_of i.assets) (spans_of i)) (list_all (keeps_exclusive i.links i.assets (spans_of i)) i.classes) (passes i sound).spans).0 (In-map spans_entry r i.routes m)

pub rows_fit : (i : Image) (r : RouteRow) → IsSound i → In r i.routes → list_all (is_span i.assets (length r.route.course)) r.spans ≡ true
rows_fit i r sound m = (and_parts (are_rows r.spans) (list_all (is_span i.assets (length r.route.course)) r.spans) (row_tests i r sound m)).1

pub tell_holders : (i : Image) (r : RouteRow) → IsSound i → In r i.routes → TellHolders (state_of i) r.route.course r.spans
tell_holders i r sound m asset j g side is = held_at i r sound m j g side is asset

pub rows_exclusive : (i : Image) (r : RouteRow) → IsSound i → In r i.routes → AreExclusive i.classes r.spans
rows_exclusive i r sound m =
    exclusive_too i r.route.course r.spans (sound_is_lawful i sound).exclusive (assets_in_order i sound) (classes_in_order i sound) (rows_fit i r sound m) (tell_holders i r sound m)

same_classes : (classes : List Class) → map (λ (c : Name × _). (let d : Class = record { name = c.0; kind = c.1 } in d)) (map (λ (c : Class). (c.name, c.kind)) classes) ≡ classes
same_classes [] = refl
same_classes (c ∷ cs) = ap (λ xs. c ∷ xs) (same_classes cs)

pub classes_are : (i : Image) → class_list (state_of i) ≡ i.classes
unfolding state_of
classes_are i = same_classes i.classes

-- ---- faults

some_is : (f g : SegFault) → Some f ≡ Some g → g ≡ f
some_is f g h = cc

asked_as : (f g : SegFault) → Some f ≡ Some g → asked_fault f ≡ Seg f → asked_fault g ≡ Seg g
asked_as f g h e = subst (λ x. asked_fault x ≡ Seg x) (sym (some_is f g h)) e

never_memory : (o p : Option ℕ) (b : Bool) (g : SegFault) → fault_at o seg.NoClass (fault_at p seg.NotExclusive (cond b (Some seg.SideB) None)) ≡ Some g → asked_fault g ≡ Seg g
never_memory (Some i) p b g h = asked_as (seg.NoClass i) g h refl
never_memory None (Some i) b g h = asked_as (seg.NotExclusive i) g h refl
never_memory None None true g h = asked_as seg.SideB g h refl
never_memory None None false g h = absurd (cc h)

pub fault_asked : (classes : List Class) (wanted : List Name) (side : Side) (g : SegFault) → segment_fault classes wanted side ≡ Some g → asked_fault g ≡ Seg g
fault_asked classes wanted side g h =
    never_memory (position (λ name. not (is_class classes name)) wanted) (position (λ name. not (is_exclusive_class classes name)) wanted) (same_side side B) g h

pub found_as_asked : {A C : Type 0} (o : Option SegFault) (P : A → Type 0) (Q : Type 0) (result : Result C AskFault) (found : A) → IsAnswer o P (Ok found) → (P found → Q) → MatchOption o Q (λ fault. result ≡ Err (Seg fault))
found_as_asked None P Q result found h k = k h
found_as_asked (Some f) P Q result found h k = absurd (cc h)

fault_is : {A : Type 0} (f g : SegFault) → ◌≡◌ {A = Result A SegFault} (Err f) (Err g) → f ≡ g
fault_is f g h = cc

pub refused_as_asked : {A C : Type 0} (o : Option SegFault) (P : A → Type 0) (Q : C → Type 0) (fault : SegFault) → IsAnswer o P (Err fault) → ((g : SegFault) → o ≡ Some g → asked_fault g ≡ Seg g)
    → MatchOption o (UnlessMemory Q (Err (asked_fault fault))) (λ g. ◌≡◌ {A = Result C AskFault} (Err (asked_fault fault)) (Err (Seg g)))
refused_as_asked None P Q fault h k = ap asked_fault h
refused_as_asked {A} (Some g) P Q fault h k = ap Err (ap asked_fault (fault_is {A = A} fault g h) ∙ k g refl)

-- ---- what is answered

module _ (i : Image) (name : Name) (r : RouteRow) (wanted : List Name) (side : Side) (sound : IsSound i) (known : IsRouteIn i r) (is : Some (alignment_of r.route) ≡ get (state_of i).routes name) where
  abbrev Asked : List Class → Alignment → Result (List Segment) AskFault → Type 0
  Asked classes a result =
      MatchOption (segment_fault classes wanted side) (UnlessMemory (λ found. (on : LinkSide) → side ≡ one_side on → map run_of found ≡ segments_on (state_of i) a.course wanted on) result) (λ fault. result ≡ Err (Seg fault))

  as_state : (result : Result (List Segment) AskFault) → Asked i.classes (alignment_of r.route) result → IsSegmented (state_of i) name wanted side result
  as_state result h =
      on_route (state_of i) name (Asked (class_list (state_of i))) (alignment_of r.route) result is
      (subst (λ classes. Asked classes (alignment_of r.route) result) (sym (classes_are i)) h)

  pub segments_found : (found : List Segment) → IsAnswer (segment_fault i.classes wanted side) (λ f. (s : LinkSide) → side ≡ one_side s → map run_of f ≡ segments_of i.assets wanted (holders_along r.spans s (length r.route.course))) (Ok found)
      → IsSegmented (state_of i) name wanted side (Ok found)
  segments_found found h =
      as_state (Ok found)
      (found_as_asked (segment_fault i.classes wanted side) (λ f. (s : LinkSide) → side ≡ one_side s → map run_of f ≡ segments_of i.assets wanted (holders_along r.spans s (length r.route.course)))
      ((on : LinkSide) → side ≡ one_side on → map run_of found ≡ segments_on (state_of i) r.route.course wanted on) (Ok found) found h
      (λ k on s. k on s ∙ of_state i r.route.course r.spans wanted on (tell_holders i r sound (route_in i r known))))

  pub segments_refused : {A : Type 0} (P : A → Type 0) (fault : SegFault) (asked : AskFault) → asked ≡ asked_fault fault → IsAnswer (segment_fault i.classes wanted side) P (Err fault) → IsSegmented (state_of i) name wanted side (Err asked)
  segments_refused P fault asked same h =
      as_state (Err asked)
      (subst (λ (f : AskFault). Asked i.classes (alignment_of r.route) (Err f)) (sym same)
      (refused_as_asked (segment_fault i.classes wanted side) P (λ found. (on : LinkSide) → side ≡ one_side on → map run_of found ≡ segments_on (state_of i) r.route.course wanted on) fault h
      (fault_asked i.classes wanted side)))
