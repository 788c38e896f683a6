use Rattle.std.proofs.Common.{◌≡◌, Result, sym, ap, subst, ◌∙◌, arith}
use Rattle.sqlite_trees.specs.Tree.{Trees}
use Rattle.sqlite_trees.specs.Objects.{catalog_tree}
use Rattle.sqlite_catalog.specs.Listing.{Lists}
use Rattle.sqlite_catalog.proofs.ReadLemmas.{lists_once}
use Rattle.sqlite_wal.specs.Recovery as wal
use Rattle.sqlite.specs.State.{State}
use Rattle.sqlite.specs.Files.{HoldsDatabase, file_state}
use Rattle.lrs_machine.specs.declared.image.Image.{Image}
use Rattle.lrs_machine.specs.declared.table.Table.{Table}
use Rattle.lrs_store_tables.specs.Contents.Content.{content_of}
use Rattle.lrs_store_tables.specs.Schema.{inventory}
use Rattle.lrs_store_tables.specs.StoredRows.{stored}
use Rattle.lrs_store_tables.proofs.MakeLemmas.{all_made}
use Rattle.lrs_store_tables.specs.HeldRows.{MayHold}
use Rattle.lrs_store_files.specs.OpenedFiles.{HasOpened}
use Rattle.lrs_store_questions.specs.FileAnswers.{HasRead}
use Rattle.lrs_store_questions.proofs.laws.same_answer.Goals as goal

same : (image : wal.Image) (s : State) (c d : Result Image Table) (db : Trees) → HoldsDatabase image db → HasRead image c → HasOpened image s → MayHold s d → c ≡ d
same image s c d db held read opened may =
    let trees : opened.trees ≡ read.trees = opened.holds db held ∙ sym (read.holds db held) in
    let schema = lists_once (read.trees catalog_tree) opened.schema inventory (subst (λ (t : Trees). Lists (t catalog_tree) opened.schema) trees opened.sound.lists) read.content.lists in
    sym read.content.is ∙ ap (λ (t : Trees). content_of (stored t)) (sym trees) ∙ sym (opened.kept 12 (omega arith) (omega arith) (schema ∙ sym all_made) d may)

pub returns : goal.returns
returns g c image = same image (file_state c.args._conn.now)
