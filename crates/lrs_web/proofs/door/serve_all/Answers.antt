use Rattle.std.proofs.Common.{refl, ◌∙◌, arith}
use Rattle.lrs_web.specs.Visits.{Connection}
use Rattle.lrs_web.proofs.Visiting.{visited_nobody, visited_full, visited_cut}
use Rattle.lrs_web.proofs.door.serve_all.Goals as goal
use Rattle.lrs_web.proofs.door.serve_all.Goals.{then-is_full, else-is_full}

pub loop-turn-init : goal.loop-turn-init
loop-turn-init g c = record { counted = refl; steady = refl; visited = visited_nobody g.K.Holder.may_hold _ g.D.Reader.Read.remaining g.D.Writer.Write.contents _ _ _ }

pub loop-turn-preserved : goal.loop-turn-preserved
loop-turn-preserved g c =
    let before = c.loop-turn.invariant in
    let steady = c.take_back.ensures.steady ∙ (c.in-Ok.ensures.steady ∙ before.steady) in
    let guest : Connection g.row.D-Reader.Denot g.row.D-Writer.Denot = record { reader = c.in-Ok.reader; writer = c.in-Ok.writer; returned = c.serve_connection-is_full.new.writer } in
    let gives = c.in-Ok.ensures.gives in
    elim c.if-is_full.branch [
      | then-is_full w ↦ record {
        counted = omega arith;
        steady = steady;
        visited = rw (w.full-is, w.cut-is) (visited_full _ _ _ _ _ _ _ _ _ _ _ _ guest _ _ _ _ _ before.visited gives c.take_back.ensures.keeps c.in-Ok.ensures.ended c.take_back.ensures.takes
            (c.serve_connection-is_full.ensures.full w.if-is_full.true));
      }
      | else-is_full w ↦ record {
        counted = omega arith;
        steady = steady;
        visited = rw (w.full-is, w.cut-is) (visited_cut _ _ _ _ _ _ _ _ _ _ _ _ guest _ _ _ _ _ before.visited gives c.take_back.ensures.keeps c.in-Ok.ensures.ended c.take_back.ensures.takes
            c.serve_connection-is_full.ensures.cut);
      }
    ]
