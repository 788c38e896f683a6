use Rattle.std.proofs.Common.{◌≡◌, ◌≤◌, length}
use Rattle.lrs_measure.specs.OrderedLists.{insert_all}
use Rattle.lrs_ordered.proofs.chunked.Chunked.insert_all_ordered.Given as goal

abbrev pub invariant-loop-row : goal.invariant-loop-row
invariant-loop-row g l = record {
  room : length l.row-iterator.rest.items ≤ l.self.room;
  rest : insert_all g.T.Ordered.before l.row-iterator.rest.items l.self.rows ≡ insert_all g.T.Ordered.before l.fn.rows.items l.fn.self.rows;
}
