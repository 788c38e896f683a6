use Rattle.std.proofs.Common.{inr, refl, ap, ◌∙◌}
use Rattle.lrs_store_files.specs.declared.files.Untaken.TheVariants as untaken
use Rattle.lrs_store.proofs.files.judge_left.Goals as goal

pub returns-in-Refused-Store-clause-still : goal.returns-in-Refused-Store-clause-still
returns-in-Refused-Store-clause-still g c = inr (record {
  before = c.in-Refused-Store.store;
  after = c.judge.new.store;
  was = c.in-Refused-Store.is ∙ ap (λ l. untaken.Refused l) c.in-Refused-Store.field-0-is;
  is = refl;
  clean = c.judge.ensures.quiet;
  outcomes = c.judge.ensures.outcomes;
})
