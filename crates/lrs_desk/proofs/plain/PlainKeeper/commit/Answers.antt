use Rattle.std.proofs.Common.{List, length, ap, arith}
use Rattle.lrs_image.specs.declared.change.Change.{Change}
use Rattle.lrs_desk.proofs.PlainContents.{all_kept, all_made, holds_sound, still_loaded}
use Rattle.lrs_desk.proofs.plain.PlainKeeper.commit.Goals as goal

pub invariant_of-self : goal.invariant_of-self
invariant_of-self c =
    let d = c.self.inside in
    all_kept d.kept _ d.changes.items (ap (λ (cs : List Change). length cs) c.as_slice.ensures.value) d.base c.args.self.now c.self.invariant c.self.view_is c.requires.can

pub returns-clause-keeps : goal.returns-clause-keeps
returns-clause-keeps c =
    let d = c.self.inside in
    let many = ap (λ (cs : List Change). length cs) c.as_slice.ensures.value in
    let ok = all_made d.kept _ d.changes.items many d.base c.args.self.now c.self.invariant c.self.view_is c.requires.loaded in
    let is = all_kept d.kept _ d.changes.items many d.base c.args.self.now c.self.invariant c.self.view_is c.requires.can in
    record {
      ok = ok;
      memory = λ e. absurd (cc e);
      store = λ e. absurd (cc e);
      counts = omega arith;
      found = holds_sound _ d.base is.content;
      loaded = still_loaded d.kept _ d.changes.items many d.base c.args.self.now c.self.invariant c.self.view_is c.requires.loaded;
      reached = λ other clean. tt;
    }
