-- Faults of a search for a key that stands twice.
use Rattle.std.proofs.Common.{◌≡◌, ◌⊎◌, Bool, inl, inr, subst, sym}
use Rattle.lrs_sheet_records.specs.declared.fault.SheetFault.{SheetFault}
use Rattle.lrs_sheet_records.specs.declared.fault.SheetFault.TheVariants as fault
use Rattle.lrs_sheet.specs.Resumption.{IsSearchFault}

pub search_fault : (must_reopen : Bool) (e : SheetFault) → (e ≡ fault.Read) ⊎ (e ≡ fault.Memory) → IsSearchFault must_reopen e
search_fault must_reopen e (inl is) = subst (IsSearchFault must_reopen) (sym is) tt
search_fault must_reopen e (inr is) = subst (IsSearchFault must_reopen) (sym is) tt
