use Rattle.std.proofs.Common.{inl, refl}
use Rattle.lrs_cli_jobs.proofs.Opening.{of_some}
use Rattle.lrs_cli_jobs.proofs.comparison.desk_in_file.Goals as goal

pub returns-in-Ok-Some-clause-source : goal.returns-in-Ok-Some-clause-source
returns-in-Ok-Some-clause-source g c =
    let kept = of_some _ c.in-Ok-Some.field-0 c.in-Ok-Some.desk c.in-Ok-Some.field-0-is c.in-Ok-Some.ensures.kept in
    let read = of_some _ c.in-Ok-Some.field-0 c.in-Ok-Some.desk c.in-Ok-Some.field-0-is c.in-Ok-Some.ensures.read in
    inl (c.in-Ok-Some.desk, (kept, read), refl)
