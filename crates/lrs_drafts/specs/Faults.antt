-- What is said where there is no draft.
use Rattle.std.specs.Prelude.{codes}
use Rattle.lrs_machine.specs.Lines.{Text}
use Rattle.lrs_drafts.specs.declared.fault.DraftFault.{DraftFault}
use Rattle.lrs_drafts.specs.declared.fault.DraftFault.TheVariants.{Memory, Unreadable, Impossible}

-- why there is no draft
abbrev pub fault_text : DraftFault → Text
fault_text Memory = codes "out of memory"
fault_text (Unreadable why) = why.now
fault_text (Impossible why) = why.now
