-- The desk that has the inventory of a source.
use Rattle.lrs_machine.specs.declared.image.Image.{Image}
use Rattle.lrs_cli_jobs.specs.declared.comparison.SourceDesk.{SourceDesk}
use Rattle.lrs_cli_jobs.specs.declared.comparison.SourceDesk.TheVariants as desk

-- the inventory of it
abbrev pub image_at : {K J : Type 0} → SourceDesk K J → Image
image_at (desk.Plain d) = d.image
image_at (desk.Seen d) = d.image
image_at (desk.Kept d) = d.image
