use Rattle.std.proofs.Common.{subst, ◌∙◌}
use Rattle.sqlite_trees.specs.Objects.{catalog_tree}
use Rattle.sqlite_catalog.specs.Listing.{Lists}
use Rattle.lrs_store_tables.proofs.MakeLemmas.{all_made}
use Rattle.lrs_store_files.proofs.FoundLemmas.{lists_it}
use Rattle.lrs_store_questions.proofs.image.tables_in.Goals as goal

pub returns : goal.returns
returns g c clean is =
    let catalog = (g.S.Store.view c.args.store.now).trees catalog_tree in
    let listed = lists_it c.in_ok-schema.field-0 c.in-Some.schema catalog c.in-Some.is (c.in_ok-schema.ensures clean) in
    subst (Lists catalog) (((c.which.ensures 12).0 is).1 ∙ all_made) listed
