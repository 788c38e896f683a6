use Rattle.std.proofs.Common.{◌≡◌, ◌+◌}
use Rattle.lrs_web_requests.specs.Request.{page_text}
use Rattle.lrs_web.specs.Visits.{Visited}
use Rattle.lrs_web.proofs.door.serve_all.Given as goal

abbrev pub invariant-loop-turn : goal.invariant-loop-turn
invariant-loop-turn g l = record {
  counted : l.full + l.cut ≡ l._turn;
  steady : g.D.Door.failures l.door ≡ g.D.Door.failures l.fn.door;
  visited : Visited g.K.Holder.may_hold (page_text l.page) g.D.Reader.Read.remaining g.D.Writer.Write.contents (g.D.Door.waiting l.fn.door) (g.D.Door.waiting l.door)
      (g.D.Door.ended l.fn.door) (g.D.Door.ended l.door) l.full l.cut l.fn.desk l.desk;
}
