-- Where commands that were in flight are answered `Again`.
use Rattle.std.proofs.Common.{◌≡◌, ℕ, ◌+◌, ◌⊎◌, inl, inr, ◌↔◌, Bool, true, false, cond, List, [], ◌∷◌, ◌++◌, map, length, Option, Some, None, refl, sym, ap, subst, ◌∙◌}
use Rattle.std.specs.List.{AllByRecursion}
use Rattle.lrs_measure.specs.Texts.{same_name}
use Rattle.lrs_machine.specs.declared.answer.Answer.{Answer}
use Rattle.lrs_machine.specs.declared.answer.Answer.TheVariants.{Done, Again, Refused}
use Rattle.lrs_machine.specs.declared.answer.Cause.TheVariants as cause
use Rattle.lrs_machine.specs.declared.answer.Limits.{Limits}
use Rattle.lrs_machine.specs.Lines.{line_of}
use Rattle.lrs_machine.specs.State.{State}
use Rattle.lrs_machine.specs.Machine.{Outcome, Record, step_record, accept, line_at, answers, state_after}
use Rattle.lrs_machine.specs.Stop.KnownEdits.{edit_of}
use Rattle.lrs_machine.specs.Stop.StoppedRuns.{Step, Open, Act, Unserved, StopWithin, Stop, Moment, at_rest, IsRun, IsAccepted, acknowledged, SendsFirst}
use Rattle.lrs_machine.specs.Stop.Laws.{HasNoAnswer, HasNoneInFlight, answers_in, IsKept, IsAsBefore, AgainWhereKept, as_known, AreAsBefore, AllAgainWhereKept}
use Rattle.lrs_machine.proofs.Stop.Edits as edits
use Rattle.lrs_machine.proofs.Stop.Edits.{Outcomes, outcomes, IsEdit}
use Rattle.lrs_machine.proofs.Stop.Sending.{at_once}
use Rattle.lrs_machine.proofs.Stop.Stopping.{ActsOnStored, acts_on_stored, acts_on_stored_after, parted, one_after_another, rests, sent_first_is_unstopped}

module _ (limits : Limits) where
  abbrev next : Record → State → State
  next r s = (step_record limits r s).state

  abbrev said : Record → State → Answer
  said r s = (step_record limits r s).answer

  -- ---- it is found or not

  -- sent again, all of them change nothing, and each is answered as known
  record AreKnown (rs : List Record) (s t : State) : Type 0 where
    pub state : state_after limits rs t ≡ t
    pub said_are : answers limits rs t ≡ map as_known (answers limits rs s)

  last_known : (r : Record) (s t : State) → t ≡ next r s → AreKnown (r ∷ []) s t
  last_known r s t e = record {
    state = (at_once limits r s t e).state;
    said_are = ap (λ (u : State). said r u ∷ []) e ∙ ap (λ (a : Answer). a ∷ []) (by (step_record limits r s) (outcomes limits r.key r.command s) refl);
  }
    where
      as_said : (o : Outcome) → o.state ≡ s → step_record limits r s ≡ o → o.answer ≡ as_known o.answer → said r o.state ≡ as_known o.answer
      as_said o is e known = ap (said r) is ∙ ap (λ (p : Outcome). p.answer) e ∙ known

      kept_known : (place : ℕ) (b : Bool) → cond b (Again (place + 1)) (Refused (cause.KeyUsed (place + 1))) ≡ as_known (cond b (Again (place + 1)) (Refused (cause.KeyUsed (place + 1))))
      kept_known place true = refl
      kept_known place false = refl

      by : (o : Outcome) → Outcomes r.key r.command s o → step_record limits r s ≡ o → said r o.state ≡ as_known o.answer
      by _ (edits.done u none same) e =
          let n = length s.done + 1 in
          ap (λ (o : Outcome). o.answer) (edits.again limits r n (accept r.key r.command u) (edits.edit_now r s u none same))
      by _ (edits.known place at) e = as_said _ refl e (kept_known place (same_name (line_at place s.done) (line_of r.command)))
      by _ (edits.refused c) e = as_said _ refl e refl

  edit_stays_through : (rs : List Record) (r : Record) (n : ℕ) (s : State) → IsEdit r n s → IsEdit r n (state_after limits rs s)
  edit_stays_through [] r n s is = is
  edit_stays_through (q ∷ rs) r n s is = edit_stays_through rs r n (next q s) (edits.edit_stays limits r q n s is)

  -- an accepted one is known, whatever is done behind it
  first_known : (r : Record) (behind : List Record) (s t : State) → IsAccepted (said r s) → t ≡ state_after limits behind (next r s) → step_record limits r t ≡ record { answer = as_known (said r s); state = t }
  first_known r behind s t accepted e = by (said r s) refl accepted
    where
      known : (n : ℕ) → IsEdit r n (next r s) → step_record limits r t ≡ record { answer = Again n; state = t }
      known n is = edits.again limits r n t (subst (IsEdit r n) (sym e) (edit_stays_through behind r n (next r s) is))

      by : (a : Answer) → said r s ≡ a → IsAccepted a → step_record limits r t ≡ record { answer = as_known (said r s); state = t }
      by (Done n) f ok = known n (edits.edit_answered limits r n s (inl f)) ∙ ap (λ (a : Answer). let o : Outcome = record { answer = as_known a; state = t } in o) (sym f)
      by (Again n) f ok = known n (edits.edit_answered limits r n s (inr f)) ∙ ap (λ (a : Answer). let o : Outcome = record { answer = as_known a; state = t } in o) (sym f)
      by (Refused c) f ok = absurd ok

  all_known : (rs : List Record) (r : Record) (s t : State) → AllByRecursion IsAccepted (answers limits rs s) → t ≡ state_after limits (rs ++ r ∷ []) s → AreKnown (rs ++ r ∷ []) s t
  all_known [] r s t accepted e = last_known r s t e
  all_known (q ∷ rs) r s t accepted e =
      let first = first_known q (rs ++ r ∷ []) s t accepted.0 e in
      let stays : next q t ≡ t = ap (λ (o : Outcome). o.state) first in
      let behind = all_known rs r (next q s) t accepted.1 e in
      record {
        state = ap (state_after limits (rs ++ r ∷ [])) stays ∙ behind.state;
        said_are =
            ap (λ (u : State). said q t ∷ answers limits (rs ++ r ∷ []) u) stays
            ∙ ap (λ (a : Answer). a ∷ answers limits (rs ++ r ∷ []) t) (ap (λ (o : Outcome). o.answer) first)
            ∙ ap (λ (given : List Answer). as_known (said q s) ∷ given) behind.said_are;
      }

  -- as it was, or as they all make it
  abbrev WithOrWithout : List Record → State → State → Type 0
  WithOrWithout sent s t = (t ≡ s) ⊎ (t ≡ state_after limits sent s)

  module _ (rs : List Record) (r : Record) (s : State) (accepted : AllByRecursion IsAccepted (answers limits rs s)) where
    abbrev all_sent : List Record
    all_sent = rs ++ r ∷ []

    once_more : (t : State) → WithOrWithout all_sent s t → state_after limits all_sent t ≡ state_after limits all_sent s
    once_more t (inl e) = ap (state_after limits all_sent) e
    once_more t (inr e) = (all_known rs r s t accepted e).state ∙ e

    with_or_without : (t u : State) → WithOrWithout all_sent s t → WithOrWithout all_sent t u → WithOrWithout all_sent s u
    with_or_without t u h (inl e) = subst (WithOrWithout all_sent s) (sym e) h
    with_or_without t u h (inr e) = inr (e ∙ once_more t h)

    tried : (xs : List Step) (m n : Moment) → ActsOnStored limits m → IsRun limits m xs n → HasNoAnswer rs r xs → WithOrWithout all_sent s m.stored → WithOrWithout all_sent s n.stored
    tried [] m n is run flies h = subst (λ (k : Moment). WithOrWithout all_sent s k.stored) (sym run) h
    tried (Open ∷ xs) m n is run flies h = tried xs run.0 n (acts_on_stored limits m run.0 Open run.1 is) run.2 flies (subst (WithOrWithout all_sent s) (sym run.1.stored) h)
    tried (Act q a ∷ xs) m n is run flies h = absurd flies
    tried (Unserved q ∷ xs) m n is run flies h =
        tried xs run.0 n (acts_on_stored limits m run.0 (Unserved q) run.1 is) run.2 flies (subst (λ (k : Moment). WithOrWithout all_sent s k.stored) (sym run.1) h)
    tried (StopWithin qs q ∷ xs) m n is run flies h =
        let k = run.0 in
        let stop = run.1 in
        let those = subst (λ (ps : List Record). WithOrWithout (ps ++ q ∷ []) stop.known k.stored) flies.0 stop.stored in
        let its = subst (λ (p : Record). WithOrWithout (rs ++ p ∷ []) stop.known k.stored) flies.1 those in
        let left = subst (λ (t : State). WithOrWithout all_sent t k.stored) (is stop.known stop.acts_on) its in
        tried xs k n (acts_on_stored limits m k (StopWithin qs q) stop is) run.2 flies.2 (with_or_without m.stored k.stored h left)
    tried (Stop ∷ xs) m n is run flies h =
        tried xs run.0 n (acts_on_stored limits m run.0 Stop run.1 is) run.2 flies (subst (λ (k : Moment). WithOrWithout all_sent s k.stored) (sym run.1) h)

  -- ---- where none is in flight, answers and state are of what was sent

  record IsPlain (xs : List Step) (s t : State) : Type 0 where
    pub said_are : answers_in xs ≡ answers limits (acknowledged xs) s
    pub state : t ≡ state_after limits (acknowledged xs) s

  plain : (xs : List Step) (m n : Moment) → ActsOnStored limits m → IsRun limits m xs n → HasNoneInFlight xs → IsPlain xs m.stored n.stored
  plain [] m n is run none = record { said_are = refl; state = ap (λ (k : Moment). k.stored) run }
  plain (Open ∷ xs) m n is run none =
      let rest = subst (λ (t : State). IsPlain xs t n.stored) run.1.stored (plain xs run.0 n (acts_on_stored limits m run.0 Open run.1 is) run.2 none) in
      record { said_are = rest.said_are; state = rest.state }
  plain (Act r a ∷ xs) m n is run none =
      let act = run.1 in
      let known = is act.known act.acts_on in
      let rest = subst (λ (t : State). IsPlain xs t n.stored) (act.stored ∙ ap (next r) known) (plain xs run.0 n (acts_on_stored limits m run.0 (Act r a) act is) run.2 none) in
      record {
        said_are = ap (λ (b : Answer). b ∷ answers_in xs) (act.answered ∙ ap (said r) known) ∙ ap (λ (bs : List Answer). said r m.stored ∷ bs) rest.said_are;
        state = rest.state;
      }
  plain (Unserved r ∷ xs) m n is run none =
      let rest = subst (λ (k : Moment). IsPlain xs k.stored n.stored) run.1 (plain xs run.0 n (acts_on_stored limits m run.0 (Unserved r) run.1 is) run.2 none) in
      record { said_are = rest.said_are; state = rest.state }
  plain (StopWithin rs r ∷ xs) m n is run none = absurd none
  plain (Stop ∷ xs) m n is run none =
      let rest = subst (λ (k : Moment). IsPlain xs k.stored n.stored) run.1 (plain xs run.0 n (acts_on_stored limits m run.0 Stop run.1 is) run.2 none) in
      record { said_are = rest.said_are; state = rest.state }

  -- ---- what it is answered

  is_again : (r : Record) (n : ℕ) (t : State) → (said r t ≡ Again n) ↔ (edit_of t r ≡ Some n)
  is_again r n t =
      (λ e. edits.found_as r n t (edits.was_edit limits r n t e), λ e. ap (λ (o : Outcome). o.answer) (edits.again limits r n t (edits.is_found r n t e)))

  none_and_some : (o : Option ℕ) (n : ℕ) → o ≡ None → o ≡ Some n → ⊥
  none_and_some o n none some = absurd (let e : None ≡ Some n = sym none ∙ some in cc e)

  -- what a stop keeps was done
  kept_is_done : (r : Record) (n : ℕ) (s t : State) → WithOrWithout (r ∷ []) s t → IsKept r n s t → said r s ≡ Done n
  kept_is_done r n s t (inl e) h = absurd (none_and_some (edit_of s r) n h.0 (subst (λ (u : State). edit_of u r ≡ Some n) e h.1))
  kept_is_done r n s t (inr e) h = by (step_record limits r s) (outcomes limits r.key r.command s) (subst (λ (u : State). edit_of u r ≡ Some n) e h.1)
    where
      by : (o : Outcome) → Outcomes r.key r.command s o → edit_of o.state r ≡ Some n → o.answer ≡ Done n
      by _ (edits.done u none same) found = ap Done (let both : Some (length s.done + 1) ≡ Some n = sym (edits.found_as r (length s.done + 1) (accept r.key r.command u) (edits.edit_now r s u none same)) ∙ found in cc both)
      by _ (edits.known place at) found = absurd (none_and_some (edit_of s r) n h.0 found)
      by _ (edits.refused c) found = absurd (none_and_some (edit_of s r) n h.0 found)

  -- where it keeps nothing, what is found is as it was
  not_kept : (r : Record) (s t : State) → WithOrWithout (r ∷ []) s t → ((n : ℕ) → IsKept r n s t → ⊥) → t ≡ s
  not_kept r s t (inl e) no_kept = e
  not_kept r s t (inr e) no_kept = e ∙ by (step_record limits r s) (outcomes limits r.key r.command s) (λ n h. no_kept n (h.0, subst (λ (u : State). edit_of u r ≡ Some n) (sym e) h.1))
    where
      by : (o : Outcome) → Outcomes r.key r.command s o → ((n : ℕ) → IsKept r n s o.state → ⊥) → o.state ≡ s
      by _ (edits.done u none same) no_edit = absurd (no_edit (length s.done + 1) (edits.not_found r s none, edits.found_as r (length s.done + 1) (accept r.key r.command u) (edits.edit_now r s u none same)))
      by _ (edits.known place at) no_edit = refl
      by _ (edits.refused c) no_edit = refl

  as_before : (r : Record) (s : State) (m : Moment) (xs : List Step) (rest : List Record) (n : Moment) → ActsOnStored limits m → WithOrWithout (r ∷ []) s m.stored
      → IsRun limits m xs n → HasNoneInFlight xs → acknowledged xs ≡ r ∷ rest → IsAsBefore limits r s m.stored rest (answers_in xs) n.stored
  as_before r s m xs rest n is found run none first =
      let all = plain xs m n is run none in
      let same = once_more [] r s tt m.stored found in
      record {
        answer = said r m.stored;
        again = λ k. is_again r k m.stored;
        kept = λ k h. kept_is_done r k s m.stored found h;
        otherwise = λ no_kept. ap (said r) (not_kept r s m.stored found no_kept);
        said_are = all.said_are ∙ ap (λ (rs : List Record). answers limits rs m.stored) first ∙ ap (λ (t : State). said r m.stored ∷ answers limits rest t) same;
        state = all.state ∙ ap (λ (rs : List Record). state_after limits rs m.stored) first ∙ ap (state_after limits rest) same;
      }

  -- ---- what several are answered

  answers_of_both : (sent rest : List Record) (s : State) → answers limits (sent ++ rest) s ≡ answers limits sent s ++ answers limits rest (state_after limits sent s)
  answers_of_both [] rest s = refl
  answers_of_both (r ∷ sent) rest s = ap (λ (given : List Answer). said r s ∷ given) (answers_of_both sent rest (next r s))

  all_as_before : (rs : List Record) (r : Record) (s : State) → AllByRecursion IsAccepted (answers limits rs s) → (m : Moment) (xs : List Step) (rest : List Record) (n : Moment) → ActsOnStored limits m
      → WithOrWithout (rs ++ r ∷ []) s m.stored → IsRun limits m xs n → HasNoneInFlight xs → acknowledged xs ≡ (rs ++ r ∷ []) ++ rest → AreAsBefore limits (rs ++ r ∷ []) s m.stored rest (answers_in xs) n.stored
  all_as_before rs r s accepted m xs rest n is found run none first =
      let sent = rs ++ r ∷ [] in
      let all = plain xs m n is run none in
      let said_all = all.said_are ∙ ap (λ (qs : List Record). answers limits qs m.stored) first in
      record {
        left_out = λ e. said_all ∙ ap (answers limits (sent ++ rest)) e;
        kept = λ e.
            let known = all_known rs r s m.stored accepted e in
            said_all
            ∙ answers_of_both sent rest m.stored
            ∙ ap (λ (given : List Answer). given ++ answers limits rest (state_after limits sent m.stored)) known.said_are
            ∙ ap (λ (t : State). map as_known (answers limits sent s) ++ answers limits rest t) (known.state ∙ e);
        state =
            all.state
            ∙ ap (λ (qs : List Record). state_after limits qs m.stored) first
            ∙ one_after_another limits sent rest m.stored
            ∙ ap (state_after limits rest) (once_more rs r s accepted m.stored found)
            ∙ sym (one_after_another limits sent rest s);
      }

  -- ---- after a stop within them

  record IsStopped (rs : List Record) (r : Record) (s : State) (m : Moment) : Type 0 where
    pub accepted : AllByRecursion IsAccepted (answers limits rs s)
    pub acts : ActsOnStored limits m
    pub found : WithOrWithout (rs ++ r ∷ []) s m.stored

  stopped : (start : State) (xs ys : List Step) (rs : List Record) (r : Record) (m : Moment) → IsRun limits (at_rest start) (xs ++ StopWithin rs r ∷ ys) m → SendsFirst xs → HasNoAnswer rs r ys
      → IsStopped rs r (state_after limits (acknowledged xs) start) m
  stopped start xs ys rs r m run first flies =
      let two = parted limits xs (StopWithin rs r ∷ ys) (at_rest start) m run in
      let before = two.0 in
      let acts = acts_on_stored_after limits xs (at_rest start) before two.1 (rests start limits) in
      let unstopped = sent_first_is_unstopped limits start xs before two.1 first in
      let k = two.2.0 in
      let stop = two.2.1 in
      let known = acts stop.known stop.acts_on ∙ unstopped.stored in
      let accepted = subst (λ (t : State). AllByRecursion IsAccepted (answers limits rs t)) known stop.accepted in
      let acts_then = acts_on_stored limits before k (StopWithin rs r) stop acts in
      record {
        accepted = accepted;
        acts = acts_on_stored_after limits ys k m two.2.2 acts_then;
        found = tried rs r (state_after limits (acknowledged xs) start) accepted ys k m acts_then two.2.2 flies (subst (λ (t : State). WithOrWithout (rs ++ r ∷ []) t k.stored) known stop.stored);
      }

pub again_where_kept : AgainWhereKept
again_where_kept limits start xs ys r m run first flies =
    let h = stopped limits start xs ys [] r m run first flies in
    record { found = h.found; sent_first = λ zs rest n then none ends. as_before limits r (state_after limits (acknowledged xs) start) m zs rest n h.acts h.found then none ends }

pub all_again_where_kept : AllAgainWhereKept
all_again_where_kept limits start xs ys rs r m run first flies =
    let h = stopped limits start xs ys rs r m run first flies in
    record { found = h.found; sent_first = λ zs rest n then none ends. all_as_before limits rs r (state_after limits (acknowledged xs) start) h.accepted m zs rest n h.acts h.found then none ends }
