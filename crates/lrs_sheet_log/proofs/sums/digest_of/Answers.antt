use Rattle.std.proofs.Common.{◌∙◌, ap, append_assoc}
use Rattle.sha2.specs.Sha256.{sha256}
use Rattle.lrs_sheet_log.proofs.sums.digest_of.Goals as goal

pub returns : goal.returns
returns c =
    c.finalize.ensures _ (c.update-9.ensures _ (c.update-8.ensures _ (c.update-7.ensures _ (c.update-6.ensures _ (c.update-5.ensures _ (c.update-4.ensures _ (c.update-3.ensures _ (c.update-2.ensures _ (c.update.ensures _ c.new-hasher.ensures)))))))))
    ∙ ap sha256 (simp append_assoc)
