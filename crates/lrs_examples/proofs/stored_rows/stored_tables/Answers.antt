use Rattle.std.proofs.Common.{refl}
use Rattle.std.specs.Fmt.{digits}
use Rattle.std.specs.Char.{encode_utf8}
use Rattle.std.specs.Str.{is_utf8, chars}
use Rattle.lrs_store_tables.specs.Contents.Content.{content_of}
use Rattle.lrs_examples.proofs.stored_rows.stored_tables.Goals as goal

pub returns : goal.returns
unfolding digits content_of is_utf8 chars encode_utf8
returns c = (
  (refl, refl, refl),
  (refl, refl, refl),
  (refl, refl),
  (refl, refl, refl, refl),
  (refl, refl, refl, refl, refl, refl),
  (refl, refl, refl),
  (refl, refl, refl),
  (refl, refl, refl, refl),
  (refl, refl, refl),
  (refl, refl, refl, refl),
  (refl, refl, refl, refl, refl),
  (refl, refl, refl, refl, refl),
  (refl, refl, refl, refl),
)
