use Rattle.std.proofs.Common.{Some, take}
use Rattle.std.specs.List.{flat_map}
use Rattle.std.specs.Io.KnownBytes.{Appends}
use Rattle.lrs_web_replies.specs.Parts.{item_text}
use Rattle.lrs_web_replies.specs.Trials.{advice_data}
use Rattle.lrs_web_replies.proofs.trial.add_each_advice.Given as goal

abbrev pub invariant-loop-one : goal.invariant-loop-one
invariant-loop-one l = Appends (Some l.fn.bytes.items) (Some l.bytes.items) (flat_map (λ one. item_text (advice_data one)) (take l.one-index l.advice))
