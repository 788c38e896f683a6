-- Where a verb stops.
use Rattle.std.proofs.Common.{◌≡◌, ◌+◌, Bool, true, false, length, Result, Ok, Err, refl, sym, ap, ◌∙◌}
use Rattle.std.specs.Prelude.{if◌then◌else◌}
use Rattle.lrs_inventory.specs.Prelude.{Cause, Command, Image, state_of, attempt, State}
use Rattle.lrs_inventory.specs.declared.plan.Stop.{Stop}
use Rattle.lrs_inventory.specs.declared.plan.Stop.TheVariants.{Refused, Memory}
use Rattle.lrs_inventory.specs.Plans.{Answers, Plans}

-- what `refuse_if` gives
abbrev pub refusal : Bool → Cause → Result (Unit {0}) Stop
refusal fails c = if fails then Err (Refused c) else Ok tt

pub passed : (fails : Bool) (c : Cause) (r : Result (Unit {0}) Stop) (u : Unit {0}) → r ≡ refusal fails c → r ≡ Ok u → fails ≡ false
passed true c r u is ok = absurd (cc (sym is ∙ ok))
passed false c r u is ok = refl

-- The answer of several checks is that of the first that fails.
module _ {X : Type 0} (all : Result X Cause) where
  pub answers_refused : (fails : Bool) (c : Cause) (r : Result (Unit {0}) Stop) (e : Stop) → r ≡ refusal fails c → r ≡ Err e → (fails ≡ true → all ≡ Err c) → Answers all (Err e)
  answers_refused false c r e is err why = absurd (cc (sym is ∙ err))
  answers_refused true c r e is err why = by e (sym is ∙ err)
    where
      by : (e : Stop) → refusal true c ≡ Err e → Answers all (Err e)
      by Memory h = tt
      by (Refused d) h = let same : c ≡ d = cc h in why refl ∙ ap Err same

  pub answers_stopped : {Y : Type 0} (r : Result Y Cause) (e : Stop) → Answers r (Err e) → ((c : Cause) → r ≡ Err c → all ≡ Err c) → Answers all (Err e)
  answers_stopped r (Refused c) h why = why c h
  answers_stopped r Memory h why = tt

-- A command is refused where one of its checks fails.
module _ (command : Command) (i : Image) where
  abbrev state_made : Result State Cause
  state_made = attempt (length i.edits + 1) command (state_of i)

  plans : (e : Stop) → Answers state_made (Err e) → Plans command i (Err e)
  plans (Refused c) h = h
  plans Memory h = tt

  pub refused : (fails : Bool) (c : Cause) (r : Result (Unit {0}) Stop) (e : Stop) → r ≡ refusal fails c → r ≡ Err e → (fails ≡ true → attempt (length i.edits + 1) command (state_of i) ≡ Err c) → Plans command i (Err e)
  refused fails c r e is err why = plans e (answers_refused state_made fails c r e is err why)

  pub stopped : {X : Type 0} (r : Result X Cause) (e : Stop) → Answers r (Err e) → ((c : Cause) → r ≡ Err c → attempt (length i.edits + 1) command (state_of i) ≡ Err c) → Plans command i (Err e)
  stopped r e h why = plans e (answers_stopped state_made r e h why)
