use Rattle.std.proofs.Common.{◌≡◌, true, map, sym, ap, ap₂, subst, ◌∙◌}
use Rattle.sqlite_wal.specs.Files.{seen_image}
use Rattle.sqlite_pool.specs.Pool
use Rattle.sqlite_pool.specs.File.{in_use, version_in}
use Rattle.sqlite_pool.specs.Stored.{Recovers}
use Rattle.sqlite_pool.specs.StoredLaws.{recovers_once}
use Rattle.sqlite_trees.specs.Objects.{with_version}
use Rattle.sqlite_trees.specs.declared.store.Shape.TheVariants.{Table}
use Rattle.sqlite_store.specs.Db.{rows_at}
use Rattle.sqlite_store.specs.Joined.{joined}
use Rattle.sqlite_store.specs.Listing.{listed_from, file_trees, IsOurs}
use Rattle.sqlite_store.specs.Roots.{has_index_root}
use Rattle.sqlite_store.specs.Unopened.{state_of, wanted_by, image}
use Rattle.sqlite_store.proofs.AlikeLemmas.{same_file}
use Rattle.sqlite.specs.Opening.{unrooted, Meets}
use Rattle.sqlite.proofs.OpenLemmas.{meets}
use Rattle.lrs_store_questions.specs.PlainStores.{plain_layout, ListPlain}
use Rattle.lrs_store_questions.proofs.PlainLemmas.{plain_listed}
use Rattle.lrs_store_questions.proofs.files.read_schema.Goals as goal

pub returns-then-branch-clause-ok : goal.returns-then-branch-clause-ok
returns-then-branch-clause-ok g c late =
    let old = c.args.files.now in
    let new = c.list_schema.new.self in
    let size = (state_of old).page_size in
    let rows = c.in_ok-rows.rows.items in
    let read = c.in_ok-rows.ensures.ok (sym (ap (λ p. (Pool.state p).is_clean) c.list_schema.ensures.files) ∙ late) in
    let plain : ListPlain rows = subst ListPlain c.as_slice.ensures.value (c.in_ok-list_plain.ensures c.if-not-branch.false) in
    let layouts : c.as_slice-4.result.now ≡ map plain_layout rows = c.as_slice-4.ensures.value ∙ c.in_ok-layouts.ensures ∙ ap (map plain_layout) c.as_slice-2.ensures.value in
    let wanted : listed_from 0 (wanted_by new) ≡ joined rows (map plain_layout rows) = (rw c.if-branch.true at c.in_ok-list_schema.ensures.ok) ∙ ap₂ joined c.as_slice-3.ensures.value layouts in
    record {
      pages = read.pages;
      found = read.found;
      again = subst (λ p. Recovers size (seen_image g.D.Disk (Pool.files p).0 (Pool.files p).1) read.pages) (sym c.list_schema.ensures.files) read.again;
      fits = λ db held.
          let same = recovers_once size (image old) held.pages read.pages held.found read.found in
          let lists : rows ≡ map unrooted (rows_at size (in_use size held.pages) Table 1) = read.lists ∙ ap (λ p. map unrooted (rows_at size (in_use size p) Table 1)) (sym same) in
          let met = subst (λ rs. Meets held.schema held.wanted rs (map (has_index_root (in_use size held.pages)) (rows_at size (in_use size held.pages) Table 1))) (sym lists) (meets held) in
          let is = same_file size held.wanted (wanted_by new) held.pages (wanted ∙ plain_listed rows plain held.schema held.wanted _ met) held.ours in
          subst (λ p. IsOurs size true (wanted_by new) p × (db ≡ file_trees size (wanted_by new) p)) same (is.0, held.reads ∙ ap (λ x. with_version x (version_in held.pages)) (sym is.1));
    }
