use Rattle.sqlite.specs.Files.{image_of}
use Rattle.sqlite.proofs.FileLemmas.{probe_size}
use Rattle.lrs_store_questions.proofs.look.page_size.Goals as goal

pub returns-in-Some-clause-held : goal.returns-in-Some-clause-held
returns-in-Some-clause-held g c clean db held =
    probe_size (image_of g.D.Disk c.args.files.now) c.in-Ok.found (c.in-Ok.ensures.by_log clean) (c.in-Ok.ensures.by_file clean) db held c.in-Some.size c.in-Some.is
