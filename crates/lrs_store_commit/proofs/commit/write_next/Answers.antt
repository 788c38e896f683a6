use Rattle.std.proofs.Common.{rules, ◌≡◌, length, take, arith}
use Rattle.std.proofs.lemmas.List.{length-take-le}
use Rattle.std.specs.List.{AllByRecursion}
use Rattle.sqlite.specs.Held.{state}
use Rattle.lrs_store_commit.specs.NewAssets.{IsNewAsset}
use Rattle.lrs_store_commit.proofs.CommitLemmas.{writes_new_assets}
use Rattle.lrs_store_commit.proofs.commit.write_next.Goals as goal

pub returns-then-are_new_assets-clause-does : goal.returns-then-are_new_assets-clause-does
returns-then-are_new_assets-clause-does g c clean writing =
    let eight = take 8 c.args.changes.now in
    let long : length eight ≡ 8 = length-take-le 8 c.args.changes.now (omega (arith, c.if-changes-ge8.true)) in
    let entries : AllByRecursion IsNewAsset eight = search rules in
    writes_new_assets c.args.n eight (state g.S.Store c.args.tx.now.conn.now) (state g.S.Store c.insert_new_assets.new.tx.conn.now) (omega (arith, long)) entries
    (c.in_ok-insert_new_assets.ensures.is_open clean writing) (c.in_ok-insert_new_assets.ensures.changes.does clean writing)
