-- What the calls of a desk promise makes them steps of a run.
use Rattle.std.proofs.Common.{◌≡◌, ◌⊎◌, inl, inr, ◌≤◌, ◌<◌, ◌+◌, ℕ, zero, suc, ◌↔◌, Bool, true, false, List, [], ◌∷◌, ◌++◌, length, map, take, Some, None, Result, Ok, Err, refl, sym, ap, subst, ◌∙◌, arith}
use Rattle.std.specs.List.{AllByRecursion}
use Rattle.std.specs.Prelude.{IfOk, IfErr, OnOk, IsTrue, Option}
use Rattle.std.proofs.lemmas.Bool.{false≢true}
use Rattle.lrs_machine.specs.declared.answer.Answer.{Answer}
use Rattle.lrs_machine.specs.declared.answer.Limits.{Limits}
use Rattle.lrs_machine.specs.declared.image.Image.{Image}
use Rattle.lrs_machine.specs.declared.table.Table.{Table}
use Rattle.lrs_machine.specs.Image.{state_of}
use Rattle.lrs_machine.specs.Machine.{Record, step_record, answers, state_after}
use Rattle.lrs_machine.specs.State.{State}
use Rattle.lrs_image.specs.KeeperCalls.{HoldsOnly}
use Rattle.lrs_machine.specs.Stop.StoppedRuns.{Step, Open, Act, Unserved, StopWithin, Stop, Moment, at_rest, IsRun, IsAccepted}
use Rattle.lrs_machine.specs.Stop.Laws.{IsMadeBy}
use Rattle.lrs_machine.proofs.Stop.Stopping.{joined, stored_is_fold}
use Rattle.lrs_machine.specs.declared.stops.fault.Fault.{Fault}
use Rattle.lrs_machine.specs.declared.stops.fault.Fault.TheVariants.{Memory, Keep, MustReopen}
use Rattle.lrs_desk.specs.declared.group.FirstAnswers.{FirstAnswers}
use Rattle.lrs_desk.specs.Desk.{IsUnchanged, IsOldOrNext, HasBroken, DoesFirst, BreaksAmid}
use Rattle.lrs_desk.specs.DeskView.{DeskView}
use Rattle.lrs_promises.specs.DeskLaws.Steps.{MayFind, AreActs, AreInFlight, AreStepsOf, step_of, IsAtRest, acting, IsInRun}

-- stored, and a desk acts on it
abbrev at_work : State → Moment
at_work s = record { stored = s; desk = Some s }

answers_are_no_fault : (given : FirstAnswers) → ◌≡◌ {A = Result FirstAnswers Fault} (Ok given) (Err MustReopen) → ⊥
answers_are_no_fault given e = cc e

faults_differ : ◌≡◌ {A = Result FirstAnswers Fault} (Err Keep) (Err MustReopen) → ⊥
faults_differ e = cc e

an_answer_is_no_fault : (a : Answer) → ◌≡◌ {A = Result Answer Fault} (Ok a) (Err MustReopen) → ⊥
an_answer_is_no_fault a e = cc e

no_failure_is_a_reopening : ◌≡◌ {A = Result Answer Fault} (Err Keep) (Err MustReopen) → ⊥
no_failure_is_a_reopening e = cc e

-- a test that does not pass fails
still_open : (b : Bool) → (IsTrue b → ⊥) → b ≡ false
still_open true no_pass = absurd (no_pass refl)
still_open false no_pass = refl

-- the first n and one more: the one that comes then, and those behind it
record Parted (n : ℕ) (rs : List Record) : Type 0 where
  pub last : Record
  pub behind : List Record
  pub all : rs ≡ take n rs ++ last ∷ behind
  pub first : take (suc n) rs ≡ take n rs ++ last ∷ []

parted : (n : ℕ) (rs : List Record) → n < length rs → Parted n rs
parted n [] few = absurd (omega (arith, few))
parted zero (r ∷ rs) few = record { last = r; behind = rs; all = refl; first = refl }
parted (suc n) (r ∷ rs) few =
    let p = parted n rs (omega (arith, few)) in
    record { last = p.last; behind = p.behind; all = ap (λ (l : List Record). r ∷ l) p.all; first = ap (λ (l : List Record). r ∷ l) p.first }

-- ---- of the steps that commands are

-- commands that are done one after another, each with the ground machine's answer
record Done (limits : Limits) (rs : List Record) (given : List Answer) (s : State) : Type 0 where
  pub steps : List Step
  pub acts : AreActs rs given steps
  pub run : IsRun limits (at_work s) steps (at_work (state_after limits (take (length given) rs) s))

same_head : (a b : Answer) (xs ys : List Answer) → a ∷ xs ≡ b ∷ ys → a ≡ b
same_head a b xs ys e = cc e

same_tail : (a b : Answer) (xs ys : List Answer) → a ∷ xs ≡ b ∷ ys → xs ≡ ys
same_tail a b xs ys e = cc e

done : (limits : Limits) (rs : List Record) (given : List Answer) (s : State) → given ≡ answers limits (take (length given) rs) s → Done limits rs given s
done limits rs [] s said = record { steps = []; acts = refl; run = refl }
done limits [] (a ∷ given) s said = absurd (cc said)
done limits (r ∷ rs) (a ∷ given) s said =
    let o = step_record limits r s in
    let more = answers limits (take (length given) rs) o.state in
    let rest = done limits rs given o.state (same_tail a o.answer given more said) in
    record {
      steps = Act r a ∷ rest.steps;
      acts = (rest.steps, refl, rest.acts);
      run = (at_work o.state, record { known = s; acts_on = refl; answered = same_head a o.answer given more said; stored = refl; desk = refl }, rest.run);
    }

-- commands that are not served change nothing
unserved : (limits : Limits) (rs : List Record) (m : Moment) → IsRun limits m (map Unserved rs) m
unserved limits [] m = refl
unserved limits (r ∷ rs) m = (m, refl, unserved limits rs m)

module _ {K : Type 0} (holds : K → Result Image Table → Type 0) (limits : Limits) (start : State) (xs : List Step) where
  abbrev InRun : List Step → DeskView K → Type 0
  InRun ys d = IsInRun holds limits start ys d

  -- where only the image of a state is found, a run that stores it is all that is asked
  only_image : (ys : List Step) (new : DeskView K) → new.limits ≡ limits → new.must_reopen ≡ false → HoldsOnly (holds new.keeper) new.image
      → IsRun limits (at_rest start) ys (at_work (state_of new.image)) → InRun ys new
  only_image ys new same open_now only run = record {
    limits_are = same;
    runs = λ _. run;
    found = λ c may. (
      state_of new.image,
      subst (λ (d : Option State). IsRun limits (at_rest start) ys (record { stored = state_of new.image; desk = d })) (sym (ap (λ b. acting b new.image) open_now)) run,
      record { image = new.image; found = only c may; state = refl },
    );
  }

  answered : (old new : DeskView K) (records : List Record) (given : List Answer) → old.must_reopen ≡ false → new.must_reopen ≡ false → new.limits ≡ old.limits
      → DoesFirst old.limits records (state_of old.image) (state_of new.image) given → HoldsOnly (holds new.keeper) new.image
      → InRun xs old → (steps : List Step) × ((1 ≤ length given) × AreActs records given steps) × InRun (xs ++ steps) new
  answered old new records given open_then open_now same does only h =
      let s = state_of old.image in
      let first = take (length given) records in
      let all = done limits records given s (does.answered ∙ ap (λ (l : Limits). answers l first s) h.limits_are) in
      let goes = does.state ∙ ap (λ (l : Limits). state_after l first s) h.limits_are in (
        all.steps,
        (does.some, all.acts),
        only_image (xs ++ all.steps) new (same ∙ h.limits_are) open_now only
            (joined limits xs all.steps (at_rest start) (at_work s) (at_work (state_of new.image)) (h.runs open_then)
            (subst (λ (t : State). IsRun limits (at_work s) all.steps (at_work t)) (sym goes) all.run)),
      )

  unchanged : (old new : DeskView K) (records : List Record) → new.limits ≡ old.limits → IsUnchanged holds old new → InRun xs old → InRun (xs ++ map Unserved records) new
  unchanged old new records same u h = record {
    limits_are = same ∙ h.limits_are;
    runs = λ open_now. longer (at_work (state_of new.image)) (subst (λ (i : Image). IsRun limits (at_rest start) xs (at_work (state_of i))) (sym u.image) (h.runs (sym u.must_reopen ∙ open_now)));
    found = λ c may.
        let f = h.found c (u.content c may) in
        let same_desk : acting old.must_reopen old.image ≡ acting new.must_reopen new.image = λ j. acting (sym u.must_reopen j) (sym u.image j) in (
          f.0,
          longer (record { stored = f.0; desk = acting new.must_reopen new.image })
              (subst (λ (d : Option State). IsRun limits (at_rest start) xs (record { stored = f.0; desk = d })) same_desk f.1),
          f.2,
        );
  }
    where
      longer : (m : Moment) → IsRun limits (at_rest start) xs m → IsRun limits (at_rest start) (xs ++ map Unserved records) m
      longer m run = joined limits xs (map Unserved records) (at_rest start) m m run (unserved limits records m)

  -- commands in flight: a run that stops within them may have stored what is found
  in_flight : (old new : DeskView K) (front : List Record) (last : Record) → old.must_reopen ≡ false → new.limits ≡ old.limits
      → AllByRecursion IsAccepted (answers old.limits front (state_of old.image)) → new.must_reopen ≡ true → InRun xs old
      → ((c : Result Image Table) → holds new.keeper c → IsOldOrNext old.limits (front ++ last ∷ []) old.image c) → InRun (xs ++ StopWithin front last ∷ []) new
  in_flight old new front last open_then same accepted failed h content = record {
    limits_are = same ∙ h.limits_are;
    runs = λ open_now. absurd (false≢true (sym open_now ∙ failed));
    found = λ c may. elim (content c may) [
      | inl before ↦ (s, stops s (inl refl), record { image = old.image; found = before; state = refl })
      | inr after ↦ (
        state_of after.0,
        stops (state_of after.0) (inr (after.2 ∙ ap (λ (l : Limits). state_after l (front ++ last ∷ []) s) h.limits_are)),
        record { image = after.0; found = after.1; state = refl },
      )
    ];
  }
    where
      s : State
      s = state_of old.image

      stops : (t : State) → (t ≡ s) ⊎ (t ≡ state_after limits (front ++ last ∷ []) s)
          → IsRun limits (at_rest start) (xs ++ StopWithin front last ∷ []) (record { stored = t; desk = acting new.must_reopen new.image })
      stops t is =
          let m : Moment = record { stored = t; desk = acting new.must_reopen new.image } in
          joined limits xs (StopWithin front last ∷ []) (at_rest start) (at_work s) m (h.runs open_then) (
            m,
            record {
              known = s;
              acts_on = refl;
              accepted = subst (λ (l : Limits). AllByRecursion IsAccepted (answers l front s)) h.limits_are accepted;
              stored = is;
              desk = ap (λ must. acting must new.image) failed;
            },
            refl,
          )

  -- those in flight: what is found is the state before them, or after all of them
  broken : (old new : DeskView K) (records : List Record) → old.must_reopen ≡ false → new.limits ≡ old.limits
      → BreaksAmid holds records old new → InRun xs old → (steps : List Step) × AreInFlight records steps × InRun (xs ++ steps) new
  broken old new records open_then same b h = (
    steps,
    record { front = front; last = p.last; behind = p.behind; sent = p.all; step = refl },
    in_flight old new front p.last open_then same accepted b.must_reopen h content,
  )
    where
      front : List Record
      front = take b.accepted records

      p : Parted b.accepted records
      p = parted b.accepted records b.few

      steps : List Step
      steps = StopWithin front p.last ∷ []

      accepted : AllByRecursion IsAccepted (answers old.limits front (state_of old.image))
      accepted = b.are_accepted

      one_more : b.accepted + 1 ≡ suc b.accepted
      one_more = omega (arith)

      content : (c : Result Image Table) → holds new.keeper c → IsOldOrNext old.limits (front ++ p.last ∷ []) old.image c
      content c may = subst (λ (rs : List Record). IsOldOrNext old.limits rs old.image c) (ap (λ n. take n records) one_more ∙ p.first) (b.content c may)

  -- a command in flight alone
  broken_alone : (old new : DeskView K) (r : Record) → old.must_reopen ≡ false → new.limits ≡ old.limits
      → HasBroken holds r.key r.command old new → InRun xs old → InRun (xs ++ StopWithin [] r ∷ []) new
  broken_alone old new r open_then same b h = in_flight old new [] r open_then same tt b.must_reopen h b.content

  done_alone : (old new : DeskView K) (r : Record) (a : Answer) → old.must_reopen ≡ false → new.must_reopen ≡ false → new.limits ≡ old.limits
      → a ≡ (step_record old.limits r (state_of old.image)).answer → state_of new.image ≡ (step_record old.limits r (state_of old.image)).state → HoldsOnly (holds new.keeper) new.image
      → InRun xs old → InRun (xs ++ Act r a ∷ []) new
  done_alone old new r a open_then open_now same said goes only h =
      let s = state_of old.image in
      let next = goes ∙ ap (λ (l : Limits). (step_record l r s).state) h.limits_are in
      let last = at_work (state_of new.image) in
      only_image (xs ++ Act r a ∷ []) new (same ∙ h.limits_are) open_now only
      (joined limits xs (Act r a ∷ []) (at_rest start) (at_work s) last (h.runs open_then)
      (last, record { known = s; acts_on = refl; answered = said ∙ ap (λ (l : Limits). (step_record l r s).answer) h.limits_are; stored = next; desk = ap Some next }, refl))

  -- Whatever a desk answers to a command, it is a step.
  pub act_is_step : (old new : DeskView K) (r : Record) (result : Result Answer Fault)
      → IfOk result (λ a. a ≡ (step_record old.limits r (state_of old.image)).answer)
      → OnOk result (state_of new.image ≡ (step_record old.limits r (state_of old.image)).state)
      → OnOk result (HoldsOnly (holds new.keeper) new.image)
      → (result ≡ Err Memory → IsUnchanged holds old new)
      → (result ≡ Err Keep → HasBroken holds r.key r.command old new)
      → ((result ≡ Err MustReopen) ↔ IsTrue old.must_reopen)
      → (result ≡ Err MustReopen → IsUnchanged holds old new)
      → new.limits ≡ old.limits
      → OnOk result (new.must_reopen ≡ false)
      → InRun xs old → InRun (xs ++ step_of r result ∷ []) new
  act_is_step old new r (Ok a) said goes only memory keep reopen stays same open_now h =
      done_alone old new r a (still_open old.must_reopen (λ t. an_answer_is_no_fault a (reopen.1 t))) open_now same said goes only h
  act_is_step old new r (Err Memory) said goes only memory keep reopen stays same open_now h = unchanged old new (r ∷ []) same (memory refl) h
  act_is_step old new r (Err Keep) said goes only memory keep reopen stays same open_now h =
      broken_alone old new r (still_open old.must_reopen (λ t. no_failure_is_a_reopening (reopen.1 t))) same (keep refl) h
  act_is_step old new r (Err MustReopen) said goes only memory keep reopen stays same open_now h = unchanged old new (r ∷ []) same (stays refl) h

  -- Whatever a desk answers to commands, they are steps.
  pub acts_are_steps : (old new : DeskView K) (records : List Record) (result : Result FirstAnswers Fault)
      → IfOk result (λ done. DoesFirst old.limits records (state_of old.image) (state_of new.image) done.answers.items)
      → OnOk result (HoldsOnly (holds new.keeper) new.image)
      → (result ≡ Err Memory → IsUnchanged holds old new)
      → (result ≡ Err Keep → BreaksAmid holds records old new)
      → ((result ≡ Err MustReopen) ↔ IsTrue old.must_reopen)
      → (result ≡ Err MustReopen → IsUnchanged holds old new)
      → new.limits ≡ old.limits
      → OnOk result (new.must_reopen ≡ false)
      → InRun xs old → (steps : List Step) × AreStepsOf records result steps × InRun (xs ++ steps) new
  acts_are_steps old new records (Ok given) does only memory keep reopen stays same open_now h =
      answered old new records given.answers.items (still_open old.must_reopen (λ t. answers_are_no_fault given (reopen.1 t))) open_now same does only h
  acts_are_steps old new records (Err Memory) does only memory keep reopen stays same open_now h = (map Unserved records, refl, unchanged old new records same (memory refl) h)
  acts_are_steps old new records (Err Keep) does only memory keep reopen stays same open_now h =
      broken old new records (still_open old.must_reopen (λ t. faults_differ (reopen.1 t))) same (keep refl) h
  acts_are_steps old new records (Err MustReopen) does only memory keep reopen stays same open_now h = (map Unserved records, refl, unchanged old new records same (stays refl) h)

  -- What an opening finds is stored, and a desk acts on it.
  pub open_is_step : (may : Result Image Table → Type 0) (d : DeskView K) (c : Result Image Table) → IsAtRest limits start xs may → holds d.keeper c
      → HoldsOnly (holds d.keeper) d.image → ((b : Result Image Table) → holds d.keeper b → may b) → d.limits ≡ limits → d.must_reopen ≡ false → InRun (xs ++ Open ∷ []) d
  open_is_step may d c rest held only among same open_now =
      let f = rest c (among c held) in
      let image : d.image ≡ f.2.image = same_image d.image f.2.image (sym (only c held) ∙ f.2.found) in
      let t = state_of d.image in
      let is : t ≡ f.0 = ap state_of image ∙ f.2.state in
      only_image (xs ++ Open ∷ []) d same open_now only
      (joined limits xs (Open ∷ []) (at_rest start) (at_rest f.0) (at_work t) f.1 (at_work t, record { closed = refl; stored = is; desk = ap Some is }, refl))
    where
      same_image : (i j : Image) → ◌≡◌ {A = Result Image Table} (Ok i) (Ok j) → i ≡ j
      same_image i j e = cc

  -- ... and is the fold over the commands that were answered, with all of those in flight or none, at their point
  pub found_is_fold : (d : DeskView K) → d.must_reopen ≡ false → InRun xs d → IsMadeBy limits start xs (state_of d.image)
  found_is_fold d open_now h = stored_is_fold limits start xs (at_work (state_of d.image)) (h.runs open_now)

  -- A stop leaves what is stored.
  pub stop_is_step : (desk : Option State) (may new : Result Image Table → Type 0) → ((b : Result Image Table) → new b → may b) → MayFind limits start xs desk may → IsAtRest limits start (xs ++ Stop ∷ []) new
  stop_is_step desk may new among h c held =
      let f = h c (among c held) in
      (f.0, joined limits xs (Stop ∷ []) (at_rest start) (record { stored = f.0; desk = desk }) (at_rest f.0) f.1 (at_rest f.0, refl, refl), f.2)

-- ---- of what a call answered

module _ {K E : Type 0} (holds : K → Result Image Table → Type 0) (limits : Limits) (may : Result Image Table → Type 0) (r : Result (DeskView K) E) where
  pub opened_step : IfOk r (λ d. HoldsOnly (holds d.keeper) d.image) → IfOk r (λ d. (b : Result Image Table) → holds d.keeper b → may b) → IfOk r (λ d. d.limits ≡ limits) → IfOk r (λ d. d.must_reopen ≡ false)
      → IfOk r (λ d. (start : State) (xs : List Step) (c : Result Image Table) → IsAtRest limits start xs may → holds d.keeper c → IsInRun holds limits start (xs ++ Open ∷ []) d)
  opened_step only among same open_now = by r only among same open_now
    where
      by : (q : Result (DeskView K) E) → IfOk q (λ d. HoldsOnly (holds d.keeper) d.image) → IfOk q (λ d. (b : Result Image Table) → holds d.keeper b → may b) → IfOk q (λ d. d.limits ≡ limits) → IfOk q (λ d. d.must_reopen ≡ false)
          → IfOk q (λ d. (start : State) (xs : List Step) (c : Result Image Table) → IsAtRest limits start xs may → holds d.keeper c → IsInRun holds limits start (xs ++ Open ∷ []) d)
      by (Ok d) only among same open_now = λ start xs c rest held. open_is_step holds limits start xs may d c rest held only among same open_now
      by (Err e) only among same open_now = tt

  pub opened_fold : IfOk r (λ d. d.must_reopen ≡ false) → IfOk r (λ d. (start : State) (xs : List Step) (c : Result Image Table) → IsAtRest limits start xs may → holds d.keeper c → IsInRun holds limits start (xs ++ Open ∷ []) d)
      → IfOk r (λ d. (start : State) (xs : List Step) (c : Result Image Table) → IsAtRest limits start xs may → holds d.keeper c → IsMadeBy limits start (xs ++ Open ∷ []) (state_of d.image))
  opened_fold open_now steps = by r open_now steps
    where
      by : (q : Result (DeskView K) E) → IfOk q (λ d. d.must_reopen ≡ false) → IfOk q (λ d. (start : State) (xs : List Step) (c : Result Image Table) → IsAtRest limits start xs may → holds d.keeper c → IsInRun holds limits start (xs ++ Open ∷ []) d)
          → IfOk q (λ d. (start : State) (xs : List Step) (c : Result Image Table) → IsAtRest limits start xs may → holds d.keeper c → IsMadeBy limits start (xs ++ Open ∷ []) (state_of d.image))
      by (Ok d) open_now steps = λ start xs c rest held. found_is_fold holds limits start (xs ++ Open ∷ []) d open_now (steps start xs c rest held)
      by (Err e) open_now steps = tt

-- the keeper that comes back with a fault
pub given_back : {K F D : Type 0} (holds : K → Result Image Table → Type 0) (limits : Limits) (may : Result Image Table → Type 0) (r : Result D (F × K))
    → IfErr r (λ e. (b : Result Image Table) → holds e.1 b → may b) → IfErr r (λ e. (start : State) (xs : List Step) → IsAtRest limits start xs may → IsAtRest limits start (xs ++ Stop ∷ []) (holds e.1))
given_back holds limits may (Ok d) among = tt
given_back holds limits may (Err e) among = λ start xs rest. stop_is_step holds limits start xs None may (holds e.1) among rest
