use Rattle.std.proofs.Common.{◌≡◌, map, take}
use Rattle.std.specs.Cow.{cow_str_bytes}
use Rattle.lrs_web.proofs.draft_form.text_views.Given as goal

-- the views of the texts that were gone through
abbrev pub invariant-loop-text : goal.invariant-loop-text
invariant-loop-text l = map (λ view. view.now) l.views.items ≡ map cow_str_bytes (take l.text-index l.texts)
