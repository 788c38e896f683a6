-- What a run that stops leaves stored.
use Rattle.std.proofs.Common.{◌≡◌, ℕ, ◌+◌, ◌-◌, ◌≤◌, suc, ◌⊎◌, inl, inr, Bool, true, false, cond, List, [], ◌∷◌, ◌++◌, length, Some, None, refl, sym, ap, subst, ◌∙◌, arith}
use Rattle.std.specs.Prelude.{max, nat_lt}
use Rattle.std.specs.List.{count_by, AllByRecursion}
use Rattle.std.proofs.Math.Nat.{le-max_left, le-max_right}
use Rattle.std.specs.Cmp.Lexicographic.{bytes_decides}
use Rattle.lrs_measure.specs.Texts.{Name, same_name}
use Rattle.lrs_machine.specs.declared.answer.Answer.{Answer}
use Rattle.lrs_machine.specs.declared.answer.Answer.TheVariants.{Done, Again}
use Rattle.lrs_machine.specs.declared.answer.Limits.{Limits}
use Rattle.lrs_machine.specs.Lines.{line_of}
use Rattle.lrs_machine.specs.State.{State, Edit}
use Rattle.lrs_machine.specs.Machine.{Outcome, step_record, answers, state_after, Record, place_of_key}
use Rattle.lrs_machine.specs.Laws.{IsLawful}
use Rattle.lrs_machine.proofs.Lawful.{every_step_keeps_the_laws}
use Rattle.lrs_machine.specs.Stop.StoppedRuns.{Step, Open, Act, Unserved, StopWithin, Stop, Moment, at_rest, IsStep, IsRun, IsAccepted, nothing, answered, none_in_flight, all_in_flight, opened, unserved, stopped, acknowledged, SendsFirst}
use Rattle.lrs_machine.specs.Stop.Laws.{DeskIsStored, IsMadeBy, StoredIsFold, AnswersAreOfFold, StandsIn, StandInFor, SentFirstIsUnstopped, Accepts, NoneIsLost, HasKeysOnce, NoneIsDoubled, StoredIsLawful, StopsHaveBothOutcomes, RunsAreThere}
use Rattle.lrs_machine.proofs.Stop.Edits as edits
use Rattle.lrs_machine.proofs.Stop.Edits.{Outcomes, outcomes, IsEdit}
use Rattle.lrs_machine.proofs.Stop.Sending.{Ahead, at_end, wider, sent, both, flown}

module _ (limits : Limits) where
  abbrev next : Record → State → State
  next r s = (step_record limits r s).state

  -- ---- the desk acts on what is stored

  abbrev pub ActsOnStored : Moment → Type 0
  ActsOnStored m = (s : State) → m.desk ≡ Some s → s ≡ m.stored

  pub some_same : {X : Type 0} (x y : X) → Some x ≡ Some y → x ≡ y
  some_same x y e = cc

  no_desk : (m : Moment) → m.desk ≡ None → ActsOnStored m
  no_desk m none s e = absurd (let both : Some s ≡ None = sym e ∙ none in cc both)

  pub acts_on_stored : (before after : Moment) (x : Step) → IsStep limits before x after → ActsOnStored before → ActsOnStored after
  acts_on_stored before after Open h is = λ s e. some_same s before.stored (sym e ∙ h.desk) ∙ sym h.stored
  acts_on_stored before after (Act r a) h is = λ s e. some_same s (next r h.known) (sym e ∙ h.desk) ∙ sym h.stored
  acts_on_stored before after (Unserved r) h is = subst ActsOnStored (sym h) is
  acts_on_stored before after (StopWithin rs r) h is = no_desk after h.desk
  acts_on_stored before after Stop h is = no_desk after (ap (λ (m : Moment). m.desk) h)

  pub acts_on_stored_after : (xs : List Step) (before after : Moment) → IsRun limits before xs after → ActsOnStored before → ActsOnStored after
  acts_on_stored_after [] before after run is = subst ActsOnStored (sym run) is
  acts_on_stored_after (x ∷ xs) before after run is = acts_on_stored_after xs run.0 after run.2 (acts_on_stored before run.0 x run.1 is)

  -- ---- runs one after another

  pub parted : (xs ys : List Step) (before after : Moment) → IsRun limits before (xs ++ ys) after → (m : Moment) × IsRun limits before xs m × IsRun limits m ys after
  parted [] ys before after run = (before, refl, run)
  parted (x ∷ xs) ys before after run = let rest = parted xs ys run.0 after run.2 in (rest.0, (run.0, run.1, rest.1), rest.2)

  pub joined : (xs ys : List Step) (before m after : Moment) → IsRun limits before xs m → IsRun limits m ys after → IsRun limits before (xs ++ ys) after
  joined [] ys before m after first second = subst (λ (n : Moment). IsRun limits n ys after) first second
  joined (x ∷ xs) ys before m after first second = (first.0, first.1, joined xs ys first.0 m after first.2 second)

  -- what each command keeps is kept by runs
  module _ (P : State → Type 0) (goes : (r : Record) (s : State) → P s → P (next r s)) where
    goes_on : (rs : List Record) (s : State) → P s → P (state_after limits rs s)
    goes_on [] s p = p
    goes_on (r ∷ rs) s p = goes_on rs (next r s) (goes r s p)

    -- all of a group, or none of it
    through : (rs : List Record) (s t : State) → (t ≡ s) ⊎ (t ≡ state_after limits rs s) → P s → P t
    through rs s t (inl e) p = subst P (sym e) p
    through rs s t (inr e) p = subst P (sym e) (goes_on rs s p)

    by_step : (before after : Moment) (x : Step) → IsStep limits before x after → ActsOnStored before → P before.stored → P after.stored
    by_step before after Open h is p = subst P (sym h.stored) p
    by_step before after (Act r a) h is p = subst P (sym h.stored) (goes r h.known (subst P (sym (is h.known h.acts_on)) p))
    by_step before after (Unserved r) h is p = subst (λ (m : Moment). P m.stored) (sym h) p
    by_step before after (StopWithin rs r) h is p = through (rs ++ r ∷ []) h.known after.stored h.stored (subst P (sym (is h.known h.acts_on)) p)
    by_step before after Stop h is p = subst (λ (m : Moment). P m.stored) (sym h) p

    kept_through : (xs : List Step) (before after : Moment) → IsRun limits before xs after → ActsOnStored before → P before.stored → P after.stored
    kept_through [] before after run is p = subst (λ (m : Moment). P m.stored) (sym run) p
    kept_through (x ∷ xs) before after run is p = kept_through xs run.0 after run.2 (acts_on_stored before run.0 x run.1 is) (by_step before run.0 x run.1 is p)

  -- ---- what is stored is a fold

  pub one_after_another : (rs qs : List Record) (s : State) → state_after limits (rs ++ qs) s ≡ state_after limits qs (state_after limits rs s)
  one_after_another [] qs s = refl
  one_after_another (r ∷ rs) qs s = one_after_another rs qs (next r s)

  made : (xs : List Step) (before after : Moment) → IsRun limits before xs after → ActsOnStored before → IsMadeBy limits before.stored xs after.stored
  made [] before after run is = record { commands = []; kept = nothing; stored = ap (λ (m : Moment). m.stored) run }
  made (x ∷ xs) before after run is = by x run.1 (made xs run.0 after run.2 (acts_on_stored before run.0 x run.1 is))
    where
      -- the rest begins with the command's next state, or with what was stored
      with : (r : Record) (s : State) → s ≡ before.stored → run.0.stored ≡ next r s → (rest : IsMadeBy limits run.0.stored xs after.stored) → after.stored ≡ state_after limits (r ∷ rest.commands) before.stored
      with r s e f rest = rest.stored ∙ ap (state_after limits rest.commands) (f ∙ ap (next r) e)

      without : run.0.stored ≡ before.stored → (rest : IsMadeBy limits run.0.stored xs after.stored) → after.stored ≡ state_after limits rest.commands before.stored
      without e rest = rest.stored ∙ ap (state_after limits rest.commands) e

      stops : (rs : List Record) (r : Record) (known : State) → known ≡ before.stored → (run.0.stored ≡ known) ⊎ (run.0.stored ≡ state_after limits (rs ++ r ∷ []) known)
          → IsMadeBy limits run.0.stored xs after.stored → IsMadeBy limits before.stored (StopWithin rs r ∷ xs) after.stored
      stops rs r known e (inl f) rest = record { commands = rest.commands; kept = none_in_flight rs r xs rest.commands rest.kept; stored = without (f ∙ e) rest }
      stops rs r known e (inr f) rest =
          let sent = rs ++ r ∷ [] in
          record {
            commands = sent ++ rest.commands;
            kept = all_in_flight rs r xs rest.commands rest.kept;
            stored =
                rest.stored
                ∙ ap (state_after limits rest.commands) (f ∙ ap (state_after limits sent) e)
                ∙ sym (one_after_another sent rest.commands before.stored);
          }

      by : (y : Step) → IsStep limits before y run.0 → IsMadeBy limits run.0.stored xs after.stored → IsMadeBy limits before.stored (y ∷ xs) after.stored
      by Open h rest = record { commands = rest.commands; kept = opened xs rest.commands rest.kept; stored = without h.stored rest }
      by (Act r a) h rest = record { commands = r ∷ rest.commands; kept = answered r a xs rest.commands rest.kept; stored = with r h.known (is h.known h.acts_on) h.stored rest }
      by (Unserved r) h rest = record { commands = rest.commands; kept = unserved r xs rest.commands rest.kept; stored = without (ap (λ (m : Moment). m.stored) h) rest }
      by (StopWithin rs r) h rest = stops rs r h.known (is h.known h.acts_on) h.stored rest
      by Stop h rest = record { commands = rest.commands; kept = stopped xs rest.commands rest.kept; stored = without (ap (λ (m : Moment). m.stored) h) rest }

pub rests : (start : State) (limits : Limits) → ActsOnStored limits (at_rest start)
rests start limits = no_desk limits (at_rest start) refl

pub desk_is_stored : DeskIsStored
desk_is_stored limits start s xs m run = acts_on_stored_after limits xs (at_rest start) m run (rests start limits) s

pub stored_is_fold : StoredIsFold
stored_is_fold limits start xs m run = made limits xs (at_rest start) m run (rests start limits)

pub answers_are_of_fold : AnswersAreOfFold
answers_are_of_fold limits start xs ys r a m run =
    let two = parted limits xs (Act r a ∷ ys) (at_rest start) m run in
    let before = two.0 in
    let act = two.2.1 in
    let fold = stored_is_fold limits start xs before two.1 in
    record {
      commands = fold.commands;
      kept = fold.kept;
      answer = act.answered ∙ ap (λ (s : State). (step_record limits r s).answer) (desk_is_stored limits start act.known xs before two.1 act.acts_on ∙ fold.stored);
    }

-- ---- none is lost, and none is doubled

pub none_is_lost : NoneIsLost
none_is_lost limits start xs ys r a n m run is =
    let two = parted limits xs (Act r a ∷ ys) (at_rest start) m run in
    let before = two.0 in
    let act = two.2.1 in
    let after = two.2.0 in
    let before_acts = acts_on_stored_after limits xs (at_rest start) before two.1 (rests start limits) in
    let said : ((step_record limits r act.known).answer ≡ Done n) ⊎ ((step_record limits r act.known).answer ≡ Again n) = as_answered (step_record limits r act.known).answer a n act.answered is in
    let first = subst (IsEdit r n) (sym act.stored) (edits.edit_answered limits r n act.known said) in
    let kept = kept_through limits (IsEdit r n) (λ q s. edits.edit_stays limits r q n s) ys after m two.2.2 (acts_on_stored limits before after (Act r a) act before_acts) first in
    let e = edits.again limits r n m.stored kept in
    record { answer = ap (λ (o : Outcome). o.answer) e; state = ap (λ (o : Outcome). o.state) e }
  where
    as_answered : (b a : Answer) (n : ℕ) → a ≡ b → Accepts a n → (b ≡ Done n) ⊎ (b ≡ Again n)
    as_answered b a n e (inl h) = inl (sym e ∙ h)
    as_answered b a n e (inr h) = inr (sym e ∙ h)

keys_once : (limits : Limits) (r : Record) (s : State) → HasKeysOnce s → HasKeysOnce (step_record limits r s).state
keys_once limits r s once = by (step_record limits r s) (outcomes limits r.key r.command s)
  where
    -- of the key that comes there was no edit
    one_more : (key : Name) → place_of_key r.key s.done ≡ None → (b : Bool) → same_name r.key key ≡ b → count_by (λ (e : Edit). same_name e.key key) s.done + cond b 1 0 ≤ 1
    one_more key none true e =
        let none_yet : count_by (λ (e : Edit). same_name e.key key) s.done ≡ 0 =
        edits.count_where_none (λ (e : Edit). same_name e.key key) s.done (subst (λ (k : Name). place_of_key k s.done ≡ None) ((bytes_decides r.key key).0 e) none) in
        omega (arith, none_yet)
    one_more key none false e = let h = once key in omega (arith, h)

    by : (o : Outcome) → Outcomes r.key r.command s o → HasKeysOnce o.state
    by _ (edits.done t none kept) = λ key.
        let edit : Edit = record { key = r.key; line = line_of r.command } in
        let count = ap (λ (d : List Edit). count_by (λ (e : Edit). same_name e.key key) (d ++ edit ∷ [])) kept ∙ edits.count_one_more (λ (e : Edit). same_name e.key key) s.done edit in
        subst (λ n. n ≤ 1) (sym count) (one_more key none (same_name r.key key) refl)
    by _ (edits.known place at) = once
    by _ (edits.refused c) = once

pub none_is_doubled : NoneIsDoubled
none_is_doubled limits start xs m once run = kept_through limits HasKeysOnce (keys_once limits) xs (at_rest start) m run (rests start limits) once

pub stored_is_lawful : StoredIsLawful
stored_is_lawful limits start xs m lawful run =
    kept_through limits IsLawful (λ r s h. every_step_keeps_the_laws limits r.key r.command s h) xs (at_rest start) m run (rests start limits) lawful

-- ---- those in flight are sent first

module _ (limits : Limits) where
  abbrev after : Record → State → State
  after r s = (step_record limits r s).state

  -- the count is of the commands by which what is stored may be ahead
  record AsUnstopped (count : ℕ) (xs : List Step) (s found : State) : Type 0 where
    pub stored : found ≡ state_after limits (acknowledged xs) s
    pub given : StandInFor count xs (answers limits (acknowledged xs) s)

  unstopped : (xs : List Step) (count : ℕ) (s : State) (m n : Moment) → ActsOnStored limits m → IsRun limits m xs n → SendsFirst xs → Ahead limits count (acknowledged xs) s m.stored → AsUnstopped count xs s n.stored
  unstopped [] count s m n is run first h = record { stored = ap (λ (k : Moment). k.stored) run ∙ at_end limits count s m.stored h; given = refl }
  unstopped (Open ∷ xs) count s m n is run first h =
      let k = run.0 in
      let rest = unstopped xs count s k n (acts_on_stored limits m k Open run.1 is) run.2 first (subst (Ahead limits count (acknowledged xs) s) (sym run.1.stored) h) in
      record { stored = rest.stored; given = rest.given }
  unstopped (Act r a ∷ xs) count s m n is run first h =
      let k = run.0 in
      let act = run.1 in
      let known = is act.known act.acts_on in
      let now = sent limits count r (acknowledged xs) s m.stored h in
      let ahead = subst (Ahead limits (count - 1) (acknowledged xs) (after r s)) (sym (act.stored ∙ ap (after r) known)) now.ahead in
      let answer = subst (λ (b : Answer). StandsIn (nat_lt 0 count) b (step_record limits r s).answer) (sym (act.answered ∙ ap (λ (t : State). (step_record limits r t).answer) known)) now.answer in
      let rest = unstopped xs (count - 1) (after r s) k n (acts_on_stored limits m k (Act r a) act is) run.2 first ahead in
      record { stored = rest.stored; given = ((step_record limits r s).answer, answers limits (acknowledged xs) (after r s), refl, answer, rest.given) }
  unstopped (Unserved r ∷ xs) count s m n is run first h =
      let k = run.0 in
      let rest = unstopped xs count s k n (acts_on_stored limits m k (Unserved r) run.1 is) run.2 first (subst (λ (l : Moment). Ahead limits count (acknowledged xs) s l.stored) (sym run.1) h) in
      record { stored = rest.stored; given = rest.given }
  unstopped (StopWithin rs r ∷ xs) count s m n is run first h =
      let k = run.0 in
      let stop = run.1 in
      let known = is stop.known stop.acts_on in
      let more = max count (length rs + 1) in
      let accepted = subst (λ (t : State). AllByRecursion IsAccepted (answers limits rs t)) known stop.accepted in
      let left = subst (λ (t : State). (k.stored ≡ t) ⊎ (k.stored ≡ state_after limits (rs ++ r ∷ []) t)) known stop.stored in
      let group = flown limits rs r first.0 m.stored k.stored accepted left in
      let now = subst (λ (fs : List Record). Ahead limits (suc (length rs)) fs m.stored k.stored) (sym first.1) group in
      let ahead = both limits more (acknowledged xs) s m.stored k.stored
      (wider limits count more (acknowledged xs) s m.stored (le-max_left count (length rs + 1)) h)
      (wider limits (suc (length rs)) more (acknowledged xs) m.stored k.stored (let l = le-max_right count (length rs + 1) in omega (arith, l)) now) in
      let rest = unstopped xs more s k n (acts_on_stored limits m k (StopWithin rs r) stop is) run.2 first.2 ahead in
      record { stored = rest.stored; given = rest.given }
  unstopped (Stop ∷ xs) count s m n is run first h =
      let k = run.0 in
      let rest = unstopped xs count s k n (acts_on_stored limits m k Stop run.1 is) run.2 first (subst (λ (l : Moment). Ahead limits count (acknowledged xs) s l.stored) (sym run.1) h) in
      record { stored = rest.stored; given = rest.given }

pub sent_first_is_unstopped : SentFirstIsUnstopped
sent_first_is_unstopped limits start xs m run first =
    let all = unstopped limits xs 0 start (at_rest start) m (rests start limits) run first refl in
    record { stored = all.stored; given = all.given }

-- ---- the runs that there are

pub stops_have_both_outcomes : StopsHaveBothOutcomes
stops_have_both_outcomes limits start s xs rs r m run acting accepted = record {
  none = stops s (inl refl);
  all = stops (state_after limits (rs ++ r ∷ []) s) (inr refl);
}
  where
    stops : (left : State) → (left ≡ s) ⊎ (left ≡ state_after limits (rs ++ r ∷ []) s) → IsRun limits (at_rest start) (xs ++ StopWithin rs r ∷ []) (at_rest left)
    stops left stored =
        joined limits xs (StopWithin rs r ∷ []) (at_rest start) m (at_rest left) run
        (at_rest left, record { known = s; acts_on = acting; accepted = accepted; stored = stored; desk = refl }, refl)

-- each command acted on in turn
abbrev in_turn : Limits → List Record → State → List Step
in_turn limits [] s = []
in_turn limits (r ∷ rs) s = Act r (step_record limits r s).answer ∷ in_turn limits rs (step_record limits r s).state

abbrev open_on : State → Moment
open_on s = record { stored = s; desk = Some s }

acts_in_turn : (limits : Limits) (rs : List Record) (s : State) → IsRun limits (open_on s) (in_turn limits rs s) (open_on (state_after limits rs s))
acts_in_turn limits [] s = refl
acts_in_turn limits (r ∷ rs) s =
    (open_on (step_record limits r s).state, record { known = s; acts_on = refl; answered = refl; stored = refl; desk = refl }, acts_in_turn limits rs (step_record limits r s).state)

turns_acknowledged : (limits : Limits) (rs : List Record) (s : State) → acknowledged (in_turn limits rs s) ≡ rs
turns_acknowledged limits [] s = refl
turns_acknowledged limits (r ∷ rs) s = ap (λ (l : List Record). r ∷ l) (turns_acknowledged limits rs (step_record limits r s).state)

pub runs_are_there : RunsAreThere
runs_are_there limits start rs = record {
  steps = in_turn limits rs start;
  run = (open_on start, record { closed = refl; stored = refl; desk = refl }, acts_in_turn limits rs start);
  commands = turns_acknowledged limits rs start;
}
