use Rattle.std.proofs.Common.{sym, subst}
use Rattle.sqlite_trees.specs.Tree.{Trees}
use Rattle.lrs_store_tables.specs.Contents.Tables.{AreSame}
use Rattle.lrs_store_tables.specs.StoredRows.{stored}
use Rattle.lrs_store_tables.specs.NewStores.{new_rows}
use Rattle.lrs_store_tables.proofs.tables.«TableStore+MemStore».in_memory.Goals as goal

pub returns-in-Ok-make_store-clause-ready : goal.returns-in-Ok-make_store-clause-ready
returns-in-Ok-make_store-clause-ready c = (c.make_store.ensures.autocommit, λ clean opened. (c.in-Ok-make_store.ensures.made clean).rest)

pub returns-in-Ok-make_store-clause-empty : goal.returns-in-Ok-make_store-clause-empty
returns-in-Ok-make_store-clause-empty c = λ clean db is. subst (λ (d : Trees). AreSame new_rows (stored d)) (sym is) (c.in-Ok-make_store.ensures.made clean).rows
