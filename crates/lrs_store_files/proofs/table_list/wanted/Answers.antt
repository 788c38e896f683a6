use Rattle.std.proofs.Common.{refl, ◌∙◌}
use Rattle.std.proofs.lemmas.Result.{IfOk-weaker}
use Rattle.sqlite.proofs.Callers.{memory_is_clean}
use Rattle.lrs_store_files.proofs.table_list.wanted.Goals as goal

pub returns : goal.returns
returns c = IfOk-weaker c.copy.result _ _ (λ x e. e ∙ c.schema.ensures.value ∙ (c.in-Ok.ensures.ready.1 (memory_is_clean c.in-Ok.made.conn) refl).schema) c.copy.ensures
