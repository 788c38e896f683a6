use Rattle.std.proofs.Common.{inl, inr, rules}
use Rattle.lrs_cli_jobs.proofs.Opening.{of_some}
use Rattle.lrs_cli_jobs.proofs.jobs.do_in_file.Goals as goal

pub look-requires : goal.look-requires
look-requires g c = record { behind = of_some _ c.in-Ok-Some.field-0 c.in-Ok-Some.desk c.in-Ok-Some.field-0-is c.in-Ok-Some.ensures.behind }

pub returns-in-Ok-Some : goal.returns-in-Ok-Some
returns-in-Ok-Some g c =
    let kept = of_some _ c.in-Ok-Some.field-0 c.in-Ok-Some.desk c.in-Ok-Some.field-0-is c.in-Ok-Some.ensures.kept in
    let read = of_some _ c.in-Ok-Some.field-0 c.in-Ok-Some.desk c.in-Ok-Some.field-0-is c.in-Ok-Some.ensures.read in
    inr (inl (c.looks.ensures.0 (search rules), record { before = c.in-Ok-Some.desk; after = c.look.ensures.0; begins = (kept, read); worked = c.look.ensures.1 }))
