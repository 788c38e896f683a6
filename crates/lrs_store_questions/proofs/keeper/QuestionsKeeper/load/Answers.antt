use Rattle.std.proofs.Common.{Err, ap, refl, sym, subst, ◌∙◌}
use Rattle.lrs_store_questions.specs.Readings.{Says}
use Rattle.lrs_store_questions.proofs.ReadLemmas.{told_before, told_only, told_sound}
use Rattle.lrs_store_questions.proofs.keeper.QuestionsKeeper.load.Goals as goal

pub returns-in-Err-clause-loads : goal.returns-in-Err-clause-loads
returns-in-Err-clause-loads g c =
    let view = g.S.Store.view in
    let recovers = g.S.Store.recovers in
    let store = c.read_image.new.store in
    record {
      image = tt;
      sound = tt;
      loaded = tt;
      unsound = λ t e x may. told_only view recovers store x (Err t) (c.read_image.ensures.there (Err t) (subst (λ r. Says r (Err t)) (sym (c.in-Err.is ∙ e)) refl)) may;
      named = λ t e. c.read_image.ensures.named t (c.in-Err.is ∙ e);
      store = λ e. c.failures_after-self.ensures.store (cc e);
      quiet = λ other. c.failures_after-self.ensures.quiet (λ e. other (ap Err e));
      counts = c.failures_after-self.ensures.counts;
      found = told_sound view recovers store;
      content = told_before view recovers c.args.self.now.store store c.read_image.ensures.still;
      reached = tt;
    }
