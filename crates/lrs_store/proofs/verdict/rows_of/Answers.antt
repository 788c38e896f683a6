use Rattle.std.proofs.Common.{arith}
use Rattle.lrs_store.proofs.JudgedLemmas.{found_of}
use Rattle.lrs_store.proofs.verdict.rows_of.Goals as goal

pub returns-clause-found : goal.returns-clause-found
returns-clause-found g c =
    let read = c.in_ok-rows.ensures.seen in
    record {
      clean = read.clean;
      outcomes = read.outcomes;
      same = read.same;
      sound = read.sound;
      seen = λ clean. found_of c.in_ok-known.known c.in_ok-rows.rows c.known_rows.result (g.S.Store.view c.args.store.now).trees
          (c.in_ok-known.ensures.known (omega (arith, clean, read.clean))) c.known_rows.ensures (read.seen clean);
    }
