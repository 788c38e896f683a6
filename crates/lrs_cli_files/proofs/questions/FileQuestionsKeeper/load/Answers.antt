use Rattle.std.proofs.Common.{arith, ℕ, ◌≤◌, inl, inr, refl, subst}
use Rattle.lrs_image.specs.KeeperCalls.{HasRisen}
use Rattle.lrs_store_questions.specs.Readings.{MayTell}
use Rattle.lrs_cli_files.proofs.questions.FileQuestionsKeeper.load.Goals as goal

-- a count that has not fallen, and then has risen, has risen
risen_behind : (a b c : ℕ) → a ≤ b → HasRisen b c → HasRisen a c
risen_behind a b c stays (inl more) = inl (omega (arith, stays, more))
risen_behind a b c stays (inr most) = inr most

pub returns-clause-loads : goal.returns-clause-loads
returns-clause-loads g c =
    let read = c.load-answer.ensures.loads in
    let view = g.A.Store.view in
    let recovers = g.A.Store.recovers in
    let old = c.args.self.now.inner.failures in
    let middle = c.load-answer.new.self.failures in
    let new = c.give_up.new.self.failures in
    record {
      image = tt;
      sound = tt;
      loaded = tt;
      unsound = λ t e. absurd (cc e);
      named = λ t e. absurd (cc e);
      store = λ e. risen_behind old middle new read.counts c.give_up.ensures.risen;
      quiet = λ other. absurd (other refl);
      counts = omega (arith, read.counts, c.give_up.ensures.counts);
      found = λ x may. read.found x (subst (λ s. MayTell view recovers x s) c.give_up.ensures.kept may);
      content = λ x may. read.content x (subst (λ s. MayTell view recovers x s) c.give_up.ensures.kept may);
      reached = tt;
    }
