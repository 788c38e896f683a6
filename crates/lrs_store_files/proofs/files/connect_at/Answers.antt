use Rattle.std.proofs.Common.{ℕ, Bool, true, false, cond, List, sym, ap₂, ◌∙◌}
use Rattle.sqlite_disk.specs.Events.{Event, replay}
use Rattle.sqlite_wal.specs.Recovery.{Image}
use Rattle.sqlite_wal.specs.Files.{image_at}
use Rattle.sqlite_std_file.specs.File.{IsFresh}
use Rattle.sqlite.specs.Files.{FailsToOpenFiles, LeavesFiles}
use Rattle.lrs_store_files.proofs.FoundLemmas.{left_found}
use Rattle.lrs_store_files.proofs.RefusedLemmas.{refused_path}
use Rattle.lrs_store_files.proofs.files.connect_at.Goals as goal

abbrev image : List ℕ → List ℕ → Image
image log db = record { log = log; db = db }

abbrev seen : List ℕ → List ℕ → Bool → List Event → List ℕ
seen log db is_log history = (replay (cond is_log log db) history).seen

pub returns-in-Err-clause-left : goal.returns-in-Err-clause-left
returns-in-Err-clause-left g c =
    left_found (image_at g.S.Start) (IsFresh true) (IsFresh false) (λ files l. FailsToOpenFiles files l c.in-Err.error) c.in-Err.left c.refused.result c.refused.ensures
    (λ files log db. ap₂ image (ap₂ (seen g.S.Start.log g.S.Start.db) log.0 log.1) (ap₂ (seen g.S.Start.log g.S.Start.db) db.0 db.1))
    c.in-Err.ensures.cause

pub returns-in-Err-clause-cause : goal.returns-in-Err-clause-cause
returns-in-Err-clause-cause g c is =
    refused_path (image_at g.S.Start) (IsFresh true) (IsFresh false) LeavesFiles c.in-Err.error c.in-Err.left c.refused.result c.refused.ensures
    (λ files log db. ap₂ image (ap₂ (seen g.S.Start.log g.S.Start.db) log.0 log.1) (ap₂ (seen g.S.Start.log g.S.Start.db) db.0 db.1))
    (λ memory. absurd (let both = sym (c.fault_of.ensures.memory memory) ∙ is in cc)) c.in-Err.ensures.cause
