use Rattle.std.proofs.Common.{refl}
use Rattle.sqlite_trees.specs.View.{doubt}
use Rattle.sqlite.specs.Steps.{over_memory}
use Rattle.lrs_store.proofs.TableKeeper.NewLemmas.{no_edits, new_second, holds_nothing}
use Rattle.lrs_store.proofs.keeper.Tables+MemStore+R.in_memory.Goals as goal

pub invariant_of-result : goal.invariant_of-result
invariant_of-result g c e =
    let made = c.in_ok-conn.ensures.made in
    record {
      autocommit = c.in_ok-conn.ensures.autocommit;
      ready = λ clean opened. made.rest;
      second = new_second over_memory (λ s db opened same. same) c.in_ok-conn.conn made;
      is_open = λ loaded clean. made.is_open;
      loaded = λ loaded. no_edits over_memory (λ s db opened same. same) c.in_ok-conn.conn made;
    }

pub returns-clause-empty : goal.returns-clause-empty
returns-clause-empty g c = holds_nothing over_memory (λ s db opened same. same) c.in_ok-conn.conn c.in_ok-conn.ensures.made

pub returns-clause-safe : goal.returns-clause-safe
unfolding doubt
returns-clause-safe g c = record { clean = refl; is_open = refl }
