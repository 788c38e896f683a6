-- What the rows of a table give is what its reading gives.
use Rattle.std.proofs.Common.{◌≡◌, Result, Ok, Err, refl, sym, subst}
use Rattle.std.specs.Prelude.{IfOk}
use Rattle.lrs_machine.specs.declared.table.Table.{Table}
use Rattle.lrs_image.specs.declared.keeper.LoadFault.{LoadFault}
use Rattle.lrs_store_image.specs.declared.route_decoder.fault.RowsFault.{RowsFault}
use Rattle.lrs_store_image.specs.declared.route_decoder.fault.RowsFault.TheVariants.{Memory, Unsound}
use Rattle.lrs_store_image.specs.TableReadings.{Reads}
use Rattle.lrs_store_image.specs.Readings.{of_read}

module _ {V A : Type 0} (f : V → A) (wanted : Result A Table) where
  reads_from : (r : Result V RowsFault) → IfOk r (λ x. wanted ≡ Ok (f x)) → ((t : Table) → r ≡ Err (Unsound t) → wanted ≡ Err t) → Reads wanted (of_read f r)
  reads_from (Ok x) ok unsound = ok
  reads_from (Err Memory) ok unsound = tt
  reads_from (Err (Unsound t)) ok unsound = unsound t refl

  pub reads_of : (r : Result V RowsFault) (l : Result A LoadFault) → l ≡ of_read f r → IfOk r (λ x. wanted ≡ Ok (f x)) → ((t : Table) → r ≡ Err (Unsound t) → wanted ≡ Err t) → Reads wanted l
  reads_of r l is ok unsound = subst (Reads wanted) (sym is) (reads_from r ok unsound)

-- the answer for other rows, of which the same is read
pub reads_along : {A : Type 0} (other wanted : Result A Table) (r : Result A LoadFault) → other ≡ wanted → Reads other r → Reads wanted r
reads_along other wanted r e h = subst (λ w. Reads w r) e h

-- what holds of an answer beside each of some things holds beside this one
pub ok_at : {V E L : Type 0} (P : L → Type 0) (Q : L → V → Type 0) (r : Result V E) → IfOk r (λ x. (l : L) → P l → Q l x) → (l : L) → P l → IfOk r (Q l)
ok_at P Q (Ok x) h l p = h l p
ok_at P Q (Err e) h l p = tt
