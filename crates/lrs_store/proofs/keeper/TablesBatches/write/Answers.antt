use Rattle.std.proofs.Common.{◌⊎◌, arith, Result, Err, ap, refl, subst, ◌∙◌}
use Rattle.std.proofs.lemmas.Grind.{common_steps}
use Rattle.sqlite.specs.Held.{state}
use Rattle.lrs_machine.specs.declared.image.Image.{Image}
use Rattle.lrs_machine.specs.declared.table.Table.{Table}
use Rattle.lrs_image.specs.ChangeLists.{IsChangedBy}
use Rattle.lrs_store_tables.specs.HeldRows.{MayHold}
use Rattle.lrs_store.specs.TableKeeper.KeeperView.{KeeperView}
use Rattle.lrs_store.proofs.TableKeeper.Sound.{found_sound}
use Rattle.lrs_store.proofs.keeper.TablesBatches.write.Goals as goal

pub returns-in-Ok-clause-keeps : goal.returns-in-Ok-clause-keeps
returns-in-Ok-clause-keeps g c =
    let last = state g.S.Store c.write_next.new.conn in
    record {
      ok = subst (λ (v : KeeperView g.row.S.Denot g.row.R.Denot). (x : Result Image Table) → MayHold last x → IsChangedBy (MayHold (state g.S.Store v.conn)) c.args.changes.now x) c.self.view_is
          c.in-Ok.ensures.ok;
      memory = λ e. absurd (cc e);
      store = λ e. absurd (cc e);
      counts = omega (arith, ap (λ (v : KeeperView g.row.S.Denot g.row.R.Denot). v.failures) c.self.view_is);
      found = found_sound last;
      loaded = ap (λ (v : KeeperView g.row.S.Denot g.row.R.Denot). v.is_loaded) c.self.view_is ∙ c.requires.loaded;
      reached = λ other. c.in-Ok.ensures.open;
    }

pub returns-in-Err-Memory-clause-keeps : goal.returns-in-Err-Memory-clause-keeps
returns-in-Err-Memory-clause-keeps g c =
    let last = state g.S.Store c.write_next.new.conn in
    let kept = c.write_next.ensures.memory (c.in-Err-Memory.is ∙ ap (λ f. Err f) c.in-Err-Memory.field-0-is) in
    record {
      ok = tt;
      memory = λ e. subst (λ (v : KeeperView g.row.S.Denot g.row.R.Denot). (x : Result Image Table) → MayHold last x → MayHold (state g.S.Store v.conn) x) c.self.view_is kept.content;
      store = λ e. absurd (cc e);
      counts = grind (arith, common_steps);
      found = found_sound last;
      loaded = ap (λ (v : KeeperView g.row.S.Denot g.row.R.Denot). v.is_loaded) c.self.view_is ∙ c.requires.loaded;
      reached = λ other. kept.is_open;
    }

pub returns-in-Err-Store-clause-keeps : goal.returns-in-Err-Store-clause-keeps
returns-in-Err-Store-clause-keeps g c =
    let last = state g.S.Store c.write_next.new.conn in
    record {
      ok = tt;
      memory = λ e. absurd (cc e);
      store = λ e. subst (λ (v : KeeperView g.row.S.Denot g.row.R.Denot). (x : Result Image Table) → MayHold last x → MayHold (state g.S.Store v.conn) x ⊎ IsChangedBy (MayHold (state g.S.Store v.conn)) c.args.changes.now x) c.self.view_is
          (c.write_next.ensures.store (c.in-Err-Store.is ∙ ap (λ f. Err f) c.in-Err-Store.field-0-is));
      counts = grind (arith, common_steps);
      found = found_sound last;
      loaded = ap (λ (v : KeeperView g.row.S.Denot g.row.R.Denot). v.is_loaded) c.self.view_is ∙ c.requires.loaded;
      reached = λ other. absurd (other refl);
    }

pub invariant_of-self-in-Ok : goal.invariant_of-self-in-Ok
invariant_of-self-in-Ok g c e =
    let wrote = c.in-Ok.ensures in
    record { autocommit = c.write_next.ensures.autocommit; ready = wrote.ready; second = wrote.second; is_open = λ loaded. wrote.open; loaded = λ loaded. wrote.edits }

pub invariant_of-self-in-Err-Memory : goal.invariant_of-self-in-Err-Memory
invariant_of-self-in-Err-Memory g c e =
    let kept = c.write_next.ensures.memory (c.in-Err-Memory.is ∙ ap (λ f. Err f) c.in-Err-Memory.field-0-is) in
    record { autocommit = c.write_next.ensures.autocommit; ready = kept.ready; second = kept.second; is_open = λ loaded. kept.is_open; loaded = λ loaded. kept.edits_are }
