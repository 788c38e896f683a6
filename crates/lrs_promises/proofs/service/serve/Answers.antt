use Rattle.std.proofs.Common.{subst}
use Rattle.lrs_machine.specs.Sound.{IsSound}
use Rattle.lrs_promises.proofs.Connections.{served_so, stopped_so}
use Rattle.lrs_promises.proofs.service.serve.Goals as goal

pub returns-clause-served : goal.returns-clause-served
returns-clause-served g c =
    let sound = subst (λ i. IsSound i) c.inventory.ensures c.prove_sound.ensures in
    served_so g.K.Holder.may_hold _ g.D.Reader.Read.remaining g.D.Writer.Write.contents _ _ _ _ _ _ sound c.serve_all.result c.serve_all.ensures.visited

pub returns-clause-stopped : goal.returns-clause-stopped
returns-clause-stopped g c =
    let sound = subst (λ i. IsSound i) c.inventory.ensures c.prove_sound.ensures in
    stopped_so g.K.Holder.may_hold _ g.D.Reader.Read.remaining g.D.Writer.Write.contents _ _ _ _ _ _ sound c.serve_all.result c.serve_all.ensures.stopped
