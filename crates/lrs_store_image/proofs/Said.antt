-- What the rows of a table say, and what is read of them.
use Rattle.std.proofs.Common.{◌≡◌, Bool, List, map, Option, Some, None, Result, Err, sym, ap, subst, ◌∙◌}
use Rattle.lrs_machine.specs.declared.table.Table.{Table}
use Rattle.lrs_image.specs.declared.keeper.LoadFault.{LoadFault}
use Rattle.lrs_image.specs.declared.keeper.LoadFault.TheVariants.{Memory}
use Rattle.lrs_store_tables.specs.Contents.Decoders.{each_of, each_sorted, sorted}
use Rattle.lrs_store_tables.specs.Contents.Decoders as option
use Rattle.lrs_store_tables.specs.Contents.Content.{read}
use Rattle.lrs_store_image.proofs.Mapped.{each_of-map}
use Rattle.lrs_store_image.specs.TableReadings.{Reads}

module _ {A : Type 0} where
  pub reads_along : (v w : Result A Table) (r : Result A LoadFault) → v ≡ w → Reads v r → Reads w r
  reads_along v w r e h = subst (λ x. Reads x r) e h

  pub reads_memory : (w : Result A Table) (f : LoadFault) → f ≡ Memory → Reads w (Err f)
  reads_memory w f e = subst (λ x. Reads w (Err x)) (sym e) tt

module _ {Cells Row X : Type 0} (before : X → X → Bool) (of : Row → Option X) (cells : Cells → Row) (t : Table) (test : List X → Bool) where
  abbrev reading : Option (List X) → Result (List X) Table
  reading o = read t (option.◌>>=◌ o (λ xs. Some (sorted before xs))) test

  pub nothing_said : (rows : List Cells) → None ≡ each_of (λ r. of (cells r)) rows → read t (each_sorted before of (map cells rows)) test ≡ Err t
  nothing_said rows e = ap reading (each_of-map of cells rows ∙ sym e)

  pub all_said : (rows : List Cells) (xs : List X) → Some xs ≡ each_of (λ r. of (cells r)) rows → read t (Some (sorted before xs)) test ≡ read t (each_sorted before of (map cells rows)) test
  all_said rows xs e = sym (ap reading (each_of-map of cells rows ∙ sym e))
