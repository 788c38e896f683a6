use Rattle.std.proofs.Common.{true, false}
use Rattle.sqlite_std_file.specs.File.{IsFresh}
use Rattle.sqlite_wal.specs.Files.{image_at}
use Rattle.lrs_store.proofs.OpenedLemmas.{rows_left, still_refused}
use Rattle.lrs_store.proofs.RefusedLemmas.{refused_for}
use Rattle.lrs_store.proofs.files.open_file.Goals as goal

pub returns-in-Ok-keep-clause-found : goal.returns-in-Ok-keep-clause-found
returns-in-Ok-keep-clause-found g c = c.in-Ok-keep.ensures.found (image_at g.S.Start) c.in-Ok.ensures.found

pub returns-in-Err-keep-clause-still : goal.returns-in-Err-keep-clause-still
returns-in-Err-keep-clause-still g c = c.in-Err-keep.ensures.still (image_at g.S.Start) c.in-Ok.ensures.found

pub returns-in-Err-clause-still : goal.returns-in-Err-clause-still
returns-in-Err-clause-still g c = still_refused (image_at g.S.Start) (λ files. IsFresh true files.log × IsFresh false files.db) c.in-Err.refusal.left c.not_opened.result.left c.not_opened.ensures.still c.in-Err.ensures.left

pub returns-in-Err-keep-clause-rows : goal.returns-in-Err-keep-clause-rows
returns-in-Err-keep-clause-rows g c t e = c.in-Err-keep.ensures.rows t e (image_at g.S.Start) c.in-Ok.ensures.found

pub returns-in-Ok-keep-clause-untouched : goal.returns-in-Ok-keep-clause-untouched
returns-in-Ok-keep-clause-untouched g c second = c.in-Ok-keep.ensures.untouched (image_at g.S.Start) second c.in-Ok.ensures.found

pub returns-in-Err-keep-clause-untouched : goal.returns-in-Err-keep-clause-untouched
returns-in-Err-keep-clause-untouched g c second = c.in-Err-keep.ensures.untouched (image_at g.S.Start) second c.in-Ok.ensures.found

pub returns-in-Err-clause-rows : goal.returns-in-Err-clause-rows
returns-in-Err-clause-rows g c t e = rows_left (image_at g.S.Start) (λ files. IsFresh true files.log × IsFresh false files.db) c.in-Err.refusal.left c.not_opened.result.left c.not_opened.ensures.still (returns-in-Err-clause-still g c)

pub returns-in-Err-clause-untouched : goal.returns-in-Err-clause-untouched
returns-in-Err-clause-untouched g c second = rows_left (image_at g.S.Start) (λ files. IsFresh true files.log × IsFresh false files.db) c.in-Err.refusal.left c.not_opened.result.left c.not_opened.ensures.still (returns-in-Err-clause-still g c)

pub returns-in-Err-clause-cause : goal.returns-in-Err-clause-cause
returns-in-Err-clause-cause g c is = refused_for (image_at g.S.Start) c.in-Err.refusal.left c.not_opened.result.left c.not_opened.ensures.still (c.in-Err.ensures.cause (c.not_opened.ensures.was is))

pub returns-in-Err-keep-clause-cause : goal.returns-in-Err-keep-clause-cause
returns-in-Err-keep-clause-cause g c is = c.in-Err-keep.ensures.cause is (image_at g.S.Start) c.in-Ok.ensures.found
