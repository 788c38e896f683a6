use Rattle.std.proofs.Common.{◌∙◌, sym}
use Rattle.std.specs.Prelude.{◌==◌}
use Rattle.std.specs.List.{starts_with}
use Rattle.lrs_measure.proofs.Members.{list_any-map}
use Rattle.lrs_drafts.proofs.fronts.begins_with_one.Goals as goal

pub returns : goal.returns
returns c = c.begins_with_any.ensures ∙ sym (list_any-map (λ front. starts_with (λ a b. a == b) c.args.line.now front) (λ text. text.items) c.args.fronts.now)
