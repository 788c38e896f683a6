use Rattle.lrs_promises.proofs.Amid.{request_leaves}
use Rattle.lrs_promises.proofs.safe.request.Goals as goal

pub returns : goal.returns
returns g c =
    let e = c.serve_one-ended.ensures in
    record {
      leaves = request_leaves g.K.Holder.may_hold c.args.desk.now c.serve_one-ended.new.desk (g.R.Read.remaining c.args.reader.now) (g.W.Write.contents c.args.writer.now) (g.W.Write.contents c.serve_one-ended.new.writer)
          c.serve_one-ended.result e.served e.answered e.write e.read e.left;
      kept = c.prove_kept.ensures.kept;
      found = c.prove_kept.ensures.found;
    }
