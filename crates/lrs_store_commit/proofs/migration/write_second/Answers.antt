use Rattle.std.proofs.Common.{map, append-nil, subst, arith}
use Rattle.std.specs.Prelude.{List}
use Rattle.sqlite.specs.State.{HasCleanDisk}
use Rattle.sqlite.specs.Held.{state}
use Rattle.lrs_store_tables.specs.Contents.Tables.{Tables, AreSame, OriginRow}
use Rattle.lrs_store_tables.specs.Contents.Laws.{origin_row, brought_up}
use Rattle.lrs_store_tables.specs.StoredRows.{stored, Makes}
use Rattle.lrs_store_tables.specs.NewStores.{BringsUp}
use Rattle.lrs_store_tables.specs.RowChanges.{with_origins, with_version, without_version, without_origins}
use Rattle.lrs_store_tables.proofs.Steady.{steady-with_origins, steady-without_version, steady-with_version}
use Rattle.lrs_store_commit.proofs.Last.{on_last, then_makes, fails_behind, handed_on}
use Rattle.lrs_store_commit.proofs.migration.write_second.Goals as goal

pub returns : goal.returns
returns g c =
    let xs = c.args.assets.now in
    let two = then_makes without_origins (with_origins xs) (steady-with_origins xs) c.in_ok-clear_origins.ensures.changes c.in_ok-write_all.ensures in
    let three = then_makes (λ t. with_origins xs (without_origins t)) without_version steady-without_version two c.in_ok-clear_version.ensures in
    let four = then_makes (λ t. without_version (with_origins xs (without_origins t))) (with_version 2) (steady-with_version 2) three c.put_version.ensures.changes in
    record {
      same_reference = four.same_reference;
      does = λ clean writing.
          let s0 = state g.S.Store c.args.tx.now.conn.now in
          let s4 = state g.S.Store c.put_version.new.tx.conn.now in
          let first : HasCleanDisk (state g.S.Store c.clear_origins.new.tx.conn.now) = omega (arith, clean, c.put_version.ensures.changes.survives.clean, c.clear_version.ensures.survives.clean, c.write_all.ensures.survives.clean) in
          on_last c.put_version.result (Makes (λ (t : Tables). with_version 2 (without_version (with_origins xs (without_origins t)))) s0 s4) (BringsUp xs s0 s4)
          (λ made. record {
            writing = made.writing;
            was_open = c.in_ok-clear_origins.ensures.is_open first writing;
            rows = subst (λ (rows : List OriginRow). AreSame (record (brought_up xs (stored s0.now.trees)) { origin = rows }) (stored s4.now.trees)) (append-nil (map origin_row xs)) made.rows;
          })
          (four.does clean writing);
      survives = four.survives;
    }

pub returns-in_err-write_all : goal.returns-in_err-write_all
returns-in_err-write_all g c = handed_on c.from_residual-in_err-write_all.result c.from_residual-in_err-write_all.ensures.1 (fails_behind c.in_ok-clear_origins.ensures.changes c.in_err-write_all.ensures)

pub returns-in_err-clear_version : goal.returns-in_err-clear_version
returns-in_err-clear_version g c = handed_on c.from_residual-in_err-clear_version.result c.from_residual-in_err-clear_version.ensures.1 (fails_behind c.in_ok-clear_origins.ensures.changes (fails_behind c.in_ok-write_all.ensures c.in_err-clear_version.ensures))
