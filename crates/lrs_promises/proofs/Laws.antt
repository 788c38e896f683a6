-- The laws of the ground machine, at each state between the commands of a list.
use Rattle.std.proofs.Common.{◌≡◌, ◌⊎◌, inl, inr, ℕ, ◌+◌, Bool, true, false, List, [], ◌∷◌, length, map, Option, Some, None, Result, Ok, Err, refl, sym, ap, subst, ◌∙◌, arith}
use Rattle.std.specs.Prelude.{IfOk, if◌then◌else◌}
use Rattle.std.specs.Cmp.Lexicographic.{pointwise_decides, bytes_decides}
use Rattle.std.proofs.lemmas.Bool.{false≢true}
use Rattle.std.proofs.lemmas.List.{length-map}
use Rattle.lrs_measure.specs.MaximalRuns.{Decides, IsChain}
use Rattle.lrs_measure.specs.Runs.{same_option}
use Rattle.lrs_measure.specs.Texts.{Name, same_name}
use Rattle.lrs_measure.proofs.Runs.{runs_are_one}
use Rattle.lrs_element.specs.declared.link.Ground.{Ground}
use Rattle.lrs_events.specs.Places.{beside}
use Rattle.lrs_machine.specs.Image.{state_of}
use Rattle.lrs_machine.specs.Laws.{IsLawful}
use Rattle.lrs_machine.specs.Lines.{line_of}
use Rattle.lrs_machine.specs.Machine.{Record, answer_known, line_at, next, outcome_of, place_of_key, state_after, step_by_key, step_record}
use Rattle.lrs_machine.specs.Readings.{segments_on}
use Rattle.lrs_machine.specs.Segments.{Values, same_values}
use Rattle.lrs_machine.specs.Sound.{IsSound}
use Rattle.lrs_machine.specs.State.{State}
use Rattle.lrs_machine.specs.declared.answer.Answer.{Answer}
use Rattle.lrs_machine.specs.declared.answer.Answer.TheVariants.{Done, Again, Refused}
use Rattle.lrs_machine.specs.declared.answer.Cause.{Cause}
use Rattle.lrs_machine.specs.declared.answer.Cause.TheVariants.{KeyUsed}
use Rattle.lrs_machine.specs.declared.answer.Limits.{Limits}
use Rattle.lrs_machine.specs.declared.image.Image.{Image}
use Rattle.lrs_machine.specs.declared.table.Table.{Table}
use Rattle.lrs_machine.proofs.Keeping.{route_edits_keep}
use Rattle.lrs_machine.proofs.Lawful.{every_step_keeps_the_laws}
use Rattle.lrs_machine.proofs.Runs.{repeated_key_acts_once}
use Rattle.lrs_machine.proofs.SoundImages.{sound_is_lawful}
use Rattle.lrs_machine.proofs.Totals.{totals_add_up}
use Rattle.lrs_image.specs.KeeperCalls.{HoldsOnly}
use Rattle.lrs_desk.specs.Desk.{FindsImage, KeepsImage}
use Rattle.lrs_desk.specs.DeskView.{DeskView}
use Rattle.lrs_sheet.specs.Sheets.{GoesAlong}
use Rattle.lrs_promises.specs.declared.calls.Call.{Call}
use Rattle.lrs_promises.specs.Calls.{DidAll}
use Rattle.lrs_promises.specs.Headline.{IsCause, IsTheGroundMachines, KeepsTheLaws, RefusalLeaves, SegmentsCover, values_along}
use Rattle.lrs_promises.proofs.Given.{all_gave}

-- ---- segments

option_equal : (a b : Option Name) → same_option same_name a b ≡ true → a ≡ b
option_equal None None h = refl
option_equal None (Some y) h = absurd (false≢true h)
option_equal (Some x) None h = absurd (false≢true h)
option_equal (Some x) (Some y) h = ap (λ n. Some n) ((bytes_decides x y).0 h)

option_itself : (a : Option Name) → same_option same_name a a ≡ true
option_itself None = refl
option_itself (Some x) = (bytes_decides x x).1 refl

values_decide : (xs ys : Values) → (same_values xs ys ≡ true → xs ≡ ys) × (xs ≡ ys → same_values xs ys ≡ true)
values_decide = pointwise_decides (λ a b. (option_equal a b, λ e. subst (λ c. same_option same_name a c ≡ true) e (option_itself a)))

decides : Decides Values same_values
decides = record { itself = λ xs. (values_decide xs xs).1 refl; equal = λ xs ys. (values_decide xs ys).0 }

none_more : (n : ℕ) → 0 + n ≡ n
none_more n = omega arith

segments_cover : (s : State) → SegmentsCover s
segments_cover s route a wanted side there =
    let holders = map (λ (g : Ground). λ (asset : ℕ). s.holds asset (beside g side)) a.course in
    let values = values_along s a.course wanted side in
    let segments = segments_on s a.course wanted side in
    let runs = (runs_are_one Values same_values decides values segments).1 refl in
    let as_long : 0 + length values ≡ length a.course = none_more (length values) ∙ length-map holders _ ∙ length-map a.course _ in
    record {
      chain = subst (λ n. IsChain 0 n segments) as_long runs.cover;
      valued = runs.values;
      differ = runs.maximal;
    }

-- ---- refusals

refused_once : (c d : Cause) → ◌≡◌ {A = Answer} (Refused c) (Refused d) → c ≡ d
refused_once c d e = cc

never_again : (n : ℕ) (c : Cause) → ◌≡◌ {A = Answer} (Again n) (Refused c) → ⊥
never_again n c e = cc

never_done : (n : ℕ) (c : Cause) → ◌≡◌ {A = Answer} (Done n) (Refused c) → ⊥
never_done n c e = cc

refusal_leaves : (limits : Limits) (r : Record) (s : State) → RefusalLeaves limits r s
unfolding Rattle.lrs_machine.specs.Machine.step
refusal_leaves limits r s c = by_place (place_of_key r.key s.done) refl
  where
    by_line : (place : ℕ) (b : Bool) → place_of_key r.key s.done ≡ Some place → same_name (line_at place s.done) (line_of r.command) ≡ b
        → (if b then Again (place + 1) else Refused (KeyUsed (place + 1))) ≡ Refused c → IsCause limits r s c
    by_line place true e same is = absurd (never_again (place + 1) c is)
    by_line place false e same is = inl (place, e, same, sym (refused_once (KeyUsed (place + 1)) c is))

    by_next : (n : Result State Cause) → place_of_key r.key s.done ≡ None → next limits r.command s ≡ n → (outcome_of r.key r.command s n).answer ≡ Refused c
        → ((outcome_of r.key r.command s n).state ≡ s) × IsCause limits r s c
    by_next (Ok t) e is given = absurd (never_done (length s.done + 1) c given)
    by_next (Err d) e is given = (refl, inr (e, is ∙ ap (λ (x : Cause). Err x) (refused_once d c given)))

    by_place : (o : Option ℕ) → place_of_key r.key s.done ≡ o → (step_by_key limits r.key r.command s o).answer ≡ Refused c
        → ((step_by_key limits r.key r.command s o).state ≡ s) × IsCause limits r s c
    by_place (Some place) e given = (refl, by_line place (same_name (line_at place s.done) (line_of r.command)) e refl given)
    by_place None e given = by_next (next limits r.command s) e refl given

-- ---- all of them

lawful_after : (limits : Limits) (commands : List Record) (s : State) → IsLawful s → IsLawful (state_after limits commands s)
lawful_after limits [] s h = h
lawful_after limits (r ∷ commands) s h = lawful_after limits commands (step_record limits r s).state (every_step_keeps_the_laws limits r.key r.command s h)

pub keeps_the_laws : (limits : Limits) (commands : List Record) (start : State) → IsLawful start → KeepsTheLaws limits commands start
keeps_the_laws limits commands start h = record {
  lawful = λ front behind is. lawful_after limits front start h;
  balance = λ front behind is. totals_add_up (state_after limits front start) (lawful_after limits front start h);
  exclusive = λ front behind is. (lawful_after limits front start h).exclusive;
  segments = λ front behind is. segments_cover (state_after limits front start);
  route_edits = λ front behind r is edits. route_edits_keep limits r.key r.command (state_after limits front start) edits;
  refusals = λ front behind r is. refusal_leaves limits r (state_after limits front start);
  keys = repeated_key_acts_once limits commands start;
}

-- what follows of what was answered
pub if_ok : {A E : Type 0} (P Q : A → Type 0) (r : Result A E) → ((x : A) → P x → Q x) → IfOk r P → IfOk r Q
if_ok P Q (Ok x) follows h = follows x h
if_ok P Q (Err e) follows h = tt

pub headline : {K : Type 0} (holds : K → Result Image Table → Type 0) (clean : K → Type 0) (calls : List Call) (texts : List (List ℕ)) (old new : DeskView K) → IsSound old.image → KeepsImage holds new → FindsImage holds clean new
    → DidAll holds calls texts old new → IsTheGroundMachines holds clean calls texts old new
headline holds clean calls texts old new sound kept found did =
    let g = all_gave holds calls texts old new did in
    record {
      replies = did;
      commands = g.gave.commands;
      given = g.gave.gives;
      image = g.gave.state;
      tables = by g.along;
      found = λ shut. found (g.along.reopen ∙ shut);
      laws = keeps_the_laws old.limits g.gave.commands (state_of old.image) (sound_is_lawful old.image sound);
    }
  where
    by : GoesAlong holds old new → (old.must_reopen ≡ false) ⊎ HoldsOnly (holds old.keeper) old.image → HoldsOnly (holds new.keeper) new.image
    by along (inl shut) = kept (along.reopen ∙ shut)
    by along (inr only) = along.kept only
