use Rattle.std.proofs.Common.{ℕ, ◌+◌, refl, subst, ◌∙◌, arith}
use Rattle.lrs_web.specs.Door.{HasRisen}
use Rattle.lrs_web.proofs.Visiting.{visited_nobody}
use Rattle.lrs_web_server.proofs.Together.{visited_more}
use Rattle.lrs_web_server.proofs.service.serve_each.Goals as goal

pub loop-turn-init : goal.loop-turn-init
loop-turn-init g c = record { counted = refl; steady = refl; visited = visited_nobody g.K.Holder.may_hold _ g.D.Reader.Read.remaining g.D.Writer.Write.contents _ _ _ }

pub returns-in-Err-clause-stopped : goal.returns-in-Err-clause-stopped
returns-in-Err-clause-stopped g c =
    let s = c.in-Err.ensures.stopped in
    (c.loop-turn.full + s.0, c.loop-turn.cut + s.1, visited_more _ _ _ _ _ _ _ _ _ _ _ _ _ _ _ _ _ c.loop-turn.invariant.visited s.2)

pub returns-in-Err-clause-failed : goal.returns-in-Err-clause-failed
returns-in-Err-clause-failed g c = λ e. subst (λ (n : ℕ). HasRisen n (g.D.Door.failures c.serve_all.new.door)) c.loop-turn.invariant.steady c.in-Err.ensures.failed

pub loop-turn-preserved : goal.loop-turn-preserved
loop-turn-preserved g c =
    let before = c.loop-turn.invariant in
    record {
      counted = omega (arith, before.counted, c.in-Ok.ensures.count);
      steady = c.in-Ok.ensures.steady ∙ before.steady;
      visited = visited_more _ _ _ _ _ _ _ _ _ _ _ _ _ _ _ _ _ before.visited c.in-Ok.ensures.visited;
    }
