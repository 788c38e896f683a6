use Rattle.std.proofs.Common.{true, inl, inr, sym, subst}
use Rattle.std.proofs.lemmas.Result.{IfOk-weaker}
use Rattle.sqlite_wal.proofs.CleanLemmas.{both_clean}
use Rattle.sqlite.specs.Files.{IsBlankAs}
use Rattle.sqlite.proofs.FileLemmas.{same_image}
use Rattle.lrs_store_questions.proofs.look.are_new.Goals as goal

pub returns-clause-ok : goal.returns-clause-ok
returns-clause-ok g c =
    let plain = c.is_new_as.ensures in
    let summed = c.is_new_as-2.ensures in
    IfOk-weaker c.is_new_as-2.result _ _ (λ found ok clean no nothing. elim nothing [
      | inl it ↦ c.in_ok-is_new_as.ensures.ok (both_clean _ _ _ _ summed.log.clean summed.db.clean clean) c.if-branch.false it
      | inr it ↦ ok clean no (subst (IsBlankAs true) (sym (same_image plain.log plain.db)) it)
    ]) summed.ok
