use Rattle.std.proofs.Common.{◌≡◌}
use Rattle.sqlite.specs.Files.{image_of}
use Rattle.lrs_store.proofs.OpenedLemmas.{rows_left, still_given, something_left}
use Rattle.lrs_store.proofs.RefusedLemmas.{refused_for}
use Rattle.lrs_store.proofs.files.open_files.Goals as goal

pub returns-in-Ok-keep-clause-found : goal.returns-in-Ok-keep-clause-found
returns-in-Ok-keep-clause-found g c = c.in-Ok-keep.ensures.found (image_of g.D.Disk c.args.files) c.in-Ok.ensures.found

pub returns-in-Err-keep-clause-still : goal.returns-in-Err-keep-clause-still
returns-in-Err-keep-clause-still g c = c.in-Err-keep.ensures.still (image_of g.D.Disk c.args.files) c.in-Ok.ensures.found

pub returns-in-Err-clause-still : goal.returns-in-Err-clause-still
returns-in-Err-clause-still g c = still_given (image_of g.D.Disk c.args.files) (λ given. given ≡ c.args.files) c.in-Err.refusal.left c.not_opened.result.left c.not_opened.ensures.still c.in-Err.ensures.left

pub returns-in-Err-clause-left : goal.returns-in-Err-clause-left
returns-in-Err-clause-left g c = something_left _ c.in-Err.refusal.left c.not_opened.result.left c.not_opened.ensures.still c.in-Err.ensures.left

pub returns-in-Err-keep-clause-rows : goal.returns-in-Err-keep-clause-rows
returns-in-Err-keep-clause-rows g c t e = c.in-Err-keep.ensures.rows t e (image_of g.D.Disk c.args.files) c.in-Ok.ensures.found

pub returns-in-Ok-keep-clause-untouched : goal.returns-in-Ok-keep-clause-untouched
returns-in-Ok-keep-clause-untouched g c second = c.in-Ok-keep.ensures.untouched (image_of g.D.Disk c.args.files) second c.in-Ok.ensures.found

pub returns-in-Err-keep-clause-untouched : goal.returns-in-Err-keep-clause-untouched
returns-in-Err-keep-clause-untouched g c second = c.in-Err-keep.ensures.untouched (image_of g.D.Disk c.args.files) second c.in-Ok.ensures.found

pub returns-in-Err-clause-rows : goal.returns-in-Err-clause-rows
returns-in-Err-clause-rows g c t e = rows_left (image_of g.D.Disk c.args.files) (λ given. given ≡ c.args.files) c.in-Err.refusal.left c.not_opened.result.left c.not_opened.ensures.still (returns-in-Err-clause-still g c)

pub returns-in-Err-clause-untouched : goal.returns-in-Err-clause-untouched
returns-in-Err-clause-untouched g c second = rows_left (image_of g.D.Disk c.args.files) (λ given. given ≡ c.args.files) c.in-Err.refusal.left c.not_opened.result.left c.not_opened.ensures.still (returns-in-Err-clause-still g c)

pub returns-in-Err-clause-cause : goal.returns-in-Err-clause-cause
returns-in-Err-clause-cause g c is = refused_for (image_of g.D.Disk c.args.files) c.in-Err.refusal.left c.not_opened.result.left c.not_opened.ensures.still (c.in-Err.ensures.cause (c.not_opened.ensures.was is))

pub returns-in-Err-keep-clause-cause : goal.returns-in-Err-keep-clause-cause
returns-in-Err-keep-clause-cause g c is = c.in-Err-keep.ensures.cause is (image_of g.D.Disk c.args.files) c.in-Ok.ensures.found
