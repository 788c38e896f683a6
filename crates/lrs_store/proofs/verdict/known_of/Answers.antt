use Rattle.sqlite_trees.specs.Objects.{catalog_tree}
use Rattle.lrs_store_files.proofs.FoundLemmas.{lists_it}
use Rattle.lrs_store.proofs.JudgedLemmas.{lists_known, lists_others}
use Rattle.lrs_store.proofs.verdict.known_of.Goals as goal

pub returns-in_default-clause-known : goal.returns-in_default-clause-known
returns-in_default-clause-known g c clean = lists_others c.in_ok-schema.field-0 ((g.S.Store.view c.args.store.now).trees catalog_tree) c.in_default.not-Some (c.in_ok-schema.ensures clean)

pub returns-clause-known : goal.returns-clause-known
returns-clause-known g c clean =
    let catalog = (g.S.Store.view c.args.store.now).trees catalog_tree in
    lists_known c.which.result c.in-Some.schema catalog (lists_it c.in_ok-schema.field-0 c.in-Some.schema catalog c.in-Some.is (c.in_ok-schema.ensures clean)) c.which.ensures
