-- What is stored while commands that were in flight are sent again.
use Rattle.std.proofs.Common.{◌≡◌, ℕ, ◌+◌, ◌-◌, ◌≤◌, suc, zero, ◌⊎◌, inl, inr, Bool, true, false, List, [], ◌∷◌, ◌++◌, length, refl, sym, ap, subst, ◌∙◌, arith}
use Rattle.std.specs.Prelude.{nat_lt}
use Rattle.std.specs.List.{AllByRecursion}
use Rattle.std.proofs.lemmas.Bool.Decides.{nat_tests}
use Rattle.lrs_machine.specs.declared.answer.Answer.{Answer}
use Rattle.lrs_machine.specs.declared.answer.Answer.TheVariants.{Done, Again, Refused}
use Rattle.lrs_machine.specs.declared.answer.Limits.{Limits}
use Rattle.lrs_machine.specs.State.{State}
use Rattle.lrs_machine.specs.Machine.{Outcome, step_record, accept, answers, state_after, Record}
use Rattle.lrs_machine.specs.Stop.StoppedRuns.{IsAccepted}
use Rattle.lrs_machine.specs.Stop.Laws.{StandsIn, same, again}
use Rattle.lrs_machine.proofs.Stop.Edits as edits
use Rattle.lrs_machine.proofs.Stop.Edits.{Outcomes, outcomes, IsEdit}

module _ (limits : Limits) where
  abbrev next : Record → State → State
  next r s = (step_record limits r s).state

  abbrev said : Record → State → Answer
  said r s = (step_record limits r s).answer

  -- Sent again at t, the command that was sent at s changes nothing, and is answered as it was or as known.
  pub record IsSettled (r : Record) (s t : State) : Type 0 where
    pub state : next r t ≡ t
    pub answer : StandsIn true (said r t) (said r s)

  -- ---- a command that is sent again at once

  record IsRepeated (r : Record) (s : State) (o : Outcome) : Type 0 where
    pub state : next r o.state ≡ o.state
    pub answer : StandsIn true (said r o.state) o.answer

  repeated : (r : Record) (s : State) → IsRepeated r s (step_record limits r s)
  repeated r s = by (step_record limits r s) (outcomes limits r.key r.command s) refl
    where
      as_before : (o : Outcome) → o.state ≡ s → step_record limits r s ≡ o → IsRepeated r s o
      as_before o is e = record {
        state = ap (next r) is ∙ ap (λ (p : Outcome). p.state) e;
        answer = subst (λ (a : Answer). StandsIn true a o.answer) (sym (ap (said r) is ∙ ap (λ (p : Outcome). p.answer) e)) (same true o.answer);
      }

      by : (o : Outcome) → Outcomes r.key r.command s o → step_record limits r s ≡ o → IsRepeated r s o
      by _ (edits.done t none kept) e =
          let n = length s.done + 1 in
          let is = edits.again limits r n (accept r.key r.command t) (edits.edit_now r s t none kept) in
          record {
            state = ap (λ (p : Outcome). p.state) is;
            answer = subst (λ (a : Answer). StandsIn true a (Done n)) (sym (ap (λ (p : Outcome). p.answer) is)) (again n);
          }
      by _ (edits.known place at) e = as_before _ refl e
      by _ (edits.refused c) e = as_before _ refl e

  pub at_once : (r : Record) (s t : State) → t ≡ next r s → IsSettled r s t
  at_once r s t e =
      let twice = repeated r s in
      record {
        state = ap (next r) e ∙ twice.state ∙ sym e;
        answer = subst (λ (a : Answer). StandsIn true a (said r s)) (sym (ap (said r) e)) twice.answer;
      }

  -- ---- what is stored may be ahead

  -- What is stored, t, is what at most n of the commands that follow make of s, and of these all but the last are accepted.
  abbrev pub Ahead : ℕ → List Record → State → State → Type 0
  Ahead zero fs s t = t ≡ s
  Ahead (suc n) [] s t = t ≡ s
  Ahead (suc n) (f ∷ fs) s t = (t ≡ s) ⊎ ((t ≡ next f s) ⊎ (IsAccepted (said f s) × Ahead n fs (next f s) t))

  pub level : (n : ℕ) (fs : List Record) (s t : State) → t ≡ s → Ahead n fs s t
  level zero fs s t e = e
  level (suc n) [] s t e = e
  level (suc n) (f ∷ fs) s t e = inl e

  pub at_end : (n : ℕ) (s t : State) → Ahead n [] s t → t ≡ s
  at_end zero s t h = h
  at_end (suc n) s t h = h

  pub wider : (n m : ℕ) (fs : List Record) (s t : State) → n ≤ m → Ahead n fs s t → Ahead m fs s t
  wider zero m fs s t l h = level m fs s t h
  wider (suc n) zero fs s t l h = absurd (omega (arith, l))
  wider (suc n) (suc m) [] s t l h = h
  wider (suc n) (suc m) (f ∷ fs) s t l (inl e) = inl e
  wider (suc n) (suc m) (f ∷ fs) s t l (inr (inl e)) = inr (inl e)
  wider (suc n) (suc m) (f ∷ fs) s t l (inr (inr h)) = inr (inr (h.0, wider n m fs (next f s) t (omega (arith, l)) h.1))

  -- an edit stays it
  still : (r : Record) (k n : ℕ) (fs : List Record) (s t : State) → Ahead n fs s t → IsEdit r k s → IsEdit r k t
  still r k zero fs s t h is = subst (IsEdit r k) (sym h) is
  still r k (suc n) [] s t h is = subst (IsEdit r k) (sym h) is
  still r k (suc n) (f ∷ fs) s t (inl h) is = subst (IsEdit r k) (sym h) is
  still r k (suc n) (f ∷ fs) s t (inr (inl h)) is = subst (IsEdit r k) (sym h) (edits.edit_stays limits r f k s is)
  still r k (suc n) (f ∷ fs) s t (inr (inr h)) is = still r k n fs (next f s) t h.1 (edits.edit_stays limits r f k s is)

  -- an accepted command is settled, whatever is stored of those that follow
  settled : (n : ℕ) (r : Record) (fs : List Record) (s t : State) → IsAccepted (said r s) → Ahead n fs (next r s) t → IsSettled r s t
  settled n r fs s t accepted h = by (said r s) refl accepted
    where
      known : (k : ℕ) → IsEdit r k (next r s) → StandsIn true (Again k) (said r s) → IsSettled r s t
      known k is stands =
          let e = edits.again limits r k t (still r k n fs (next r s) t h is) in
          record {
            state = ap (λ (o : Outcome). o.state) e;
            answer = subst (λ (a : Answer). StandsIn true a (said r s)) (sym (ap (λ (o : Outcome). o.answer) e)) stands;
          }

      by : (a : Answer) → said r s ≡ a → IsAccepted a → IsSettled r s t
      by (Done k) e ok = known k (edits.edit_answered limits r k s (inl e)) (subst (StandsIn true (Again k)) (sym e) (again k))
      by (Again k) e ok = known k (edits.edit_answered limits r k s (inr e)) (subst (StandsIn true (Again k)) (sym e) (same true (Again k)))
      by (Refused c) e ok = absurd ok

  -- ---- the next command is sent

  -- by how many what is stored may still be ahead, and whether the answer may be another
  pub record IsSent (left : ℕ) (ahead_then : Bool) (r : Record) (fs : List Record) (s t : State) : Type 0 where
    pub ahead : Ahead left fs (next r s) (next r t)
    pub answer : StandsIn ahead_then (said r t) (said r s)

  as_said : (b : Bool) (r : Record) (s t : State) → t ≡ s → StandsIn b (said r t) (said r s)
  as_said b r s t e = subst (λ (a : Answer). StandsIn b a (said r s)) (sym (ap (said r) e)) (same b (said r s))

  sent_ahead : (n : ℕ) (r : Record) (fs : List Record) (s t : State) → Ahead (suc n) (r ∷ fs) s t → IsSent n true r fs s t
  sent_ahead n r fs s t (inl e) = record { ahead = level n fs (next r s) (next r t) (ap (next r) e); answer = as_said true r s t e }
  sent_ahead n r fs s t (inr (inl e)) = let is = at_once r s t e in record { ahead = level n fs (next r s) (next r t) (is.state ∙ e); answer = is.answer }
  sent_ahead n r fs s t (inr (inr h)) =
      let is = settled n r fs s t h.0 h.1 in
      record { ahead = subst (Ahead n fs (next r s)) (sym is.state) h.1; answer = is.answer }

  pub sent : (n : ℕ) (r : Record) (fs : List Record) (s t : State) → Ahead n (r ∷ fs) s t → IsSent (n - 1) (nat_lt 0 n) r fs s t
  sent zero r fs s t e = record { ahead = ap (next r) e; answer = as_said false r s t e }
  sent (suc n) r fs s t h =
      let left : n ≡ suc n - 1 = omega arith in
      let some : true ≡ nat_lt 0 (suc n) = grind (arith, nat_tests) in
      subst (λ (b : Bool). IsSent (suc n - 1) b r fs s t) some (subst (λ (k : ℕ). IsSent k true r fs s t) left (sent_ahead n r fs s t h))

  -- what is accepted when it is sent again was accepted before
  was_accepted : (b : Bool) (given a : Answer) → StandsIn b given a → IsAccepted given → IsAccepted a
  was_accepted _ _ _ (same b a) h = h
  was_accepted _ _ _ (again n) h = tt

  -- ---- commands are in flight once more

  pub both : (n : ℕ) (fs : List Record) (s t u : State) → Ahead n fs s t → Ahead n fs t u → Ahead n fs s u
  both zero fs s t u before e = e ∙ before
  both (suc n) [] s t u before e = e ∙ before
  both (suc n) (f ∷ fs) s t u before (inl e) = subst (Ahead (suc n) (f ∷ fs) s) (sym e) before
  both (suc n) (f ∷ fs) s t u before (inr (inl e)) = by before
    where
      by : (t ≡ s) ⊎ ((t ≡ next f s) ⊎ (IsAccepted (said f s) × Ahead n fs (next f s) t)) → Ahead (suc n) (f ∷ fs) s u
      by (inl g) = inr (inl (e ∙ ap (next f) g))
      by (inr (inl g)) = inr (inl (e ∙ (at_once f s t g).state ∙ g))
      by (inr (inr h)) = inr (inr (h.0, subst (Ahead n fs (next f s)) (sym (e ∙ (settled n f fs s t h.0 h.1).state)) h.1))
  both (suc n) (f ∷ fs) s t u before (inr (inr h)) =
      let one = sent_ahead n f fs s t before in
      inr (inr (was_accepted true (said f t) (said f s) one.answer h.0, both n fs (next f s) (next f t) u one.ahead h.1))

  -- a whole group is ahead
  all_flown : (rs : List Record) (r : Record) (rest : List Record) (t u : State) → AllByRecursion IsAccepted (answers limits rs t)
      → u ≡ state_after limits (rs ++ r ∷ []) t → Ahead (suc (length rs)) ((rs ++ r ∷ []) ++ rest) t u
  all_flown [] r rest t u accepted e = inr (inl e)
  all_flown (q ∷ rs) r rest t u accepted e = inr (inr (accepted.0, all_flown rs r rest (next q t) u accepted.1 e))

  -- ... or none of it
  pub flown : (rs : List Record) (r : Record) (rest : List Record) (t u : State) → AllByRecursion IsAccepted (answers limits rs t)
      → (u ≡ t) ⊎ (u ≡ state_after limits (rs ++ r ∷ []) t) → Ahead (suc (length rs)) ((rs ++ r ∷ []) ++ rest) t u
  flown rs r rest t u accepted (inl e) = level (suc (length rs)) ((rs ++ r ∷ []) ++ rest) t u e
  flown rs r rest t u accepted (inr e) = all_flown rs r rest t u accepted e
