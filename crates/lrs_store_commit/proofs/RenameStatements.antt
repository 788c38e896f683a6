-- What the statements that rename the rows of a route are read as.
use Rattle.std.proofs.Common.{◌≡◌, refl, [], ◌∷◌, List}
use Rattle.sqlite_schema.specs.declared.command.Command.TheVariants.{Update}
use Rattle.sqlite_sql.specs.Term.{Term, col}
use Rattle.sqlite_tied.specs.Compute.{everything}
use Rattle.sqlite.specs.Listing.{understood}
use Rattle.sqlite.proofs.Callers.{IsPlain, command_of}
use Rattle.lrs_store_tables.specs.Schema as it
use Rattle.lrs_store_commit.proofs.DeleteStatements.{eq}
pub use Rattle.lrs_store_commit.proofs.DeleteStatements.{drop_piece_tests, drop_mark_tests, take_span_tests}
use Rattle.lrs_store_commit.proofs.UpdateRows.{changing}

abbrev pub rename_piece_row : List Term
rename_piece_row = col 1 0 ∷ col 0 1 ∷ col 1 2 ∷ col 1 3 ∷ col 1 4 ∷ col 1 5 ∷ col 1 6 ∷ []

pub rename_piece_is : (command_of (understood it.inventory it.rename_piece) ≡ Update 4 (changing 5 drop_piece_tests rename_piece_row)) × IsPlain (understood it.inventory it.rename_piece)
unfolding understood everything
rename_piece_is = (refl, (refl, refl))

abbrev pub rename_mark_row : List Term
rename_mark_row = col 1 0 ∷ col 0 1 ∷ col 1 2 ∷ col 1 3 ∷ col 1 4 ∷ []

pub rename_mark_is : (command_of (understood it.inventory it.rename_mark) ≡ Update 5 (changing 7 drop_mark_tests rename_mark_row)) × IsPlain (understood it.inventory it.rename_mark)
unfolding understood everything
rename_mark_is = (refl, (refl, refl))

abbrev pub rename_ref_tests : List Term
rename_ref_tests = eq (col 1 1) (col 0 0) ∷ eq (col 1 2) (col 0 1) ∷ []

abbrev pub rename_ref_row : List Term
rename_ref_row = col 1 0 ∷ col 1 1 ∷ col 0 2 ∷ col 1 3 ∷ []

pub rename_ref_is : (command_of (understood it.inventory it.rename_ref) ≡ Update 6 (changing 9 rename_ref_tests rename_ref_row)) × IsPlain (understood it.inventory it.rename_ref)
unfolding understood everything
rename_ref_is = (refl, (refl, refl))

abbrev pub rename_span_row : List Term
rename_span_row = col 1 0 ∷ col 1 1 ∷ col 0 3 ∷ col 1 3 ∷ col 1 4 ∷ col 1 5 ∷ []

pub rename_span_is : (command_of (understood it.inventory it.rename_span) ≡ Update 7 (changing 11 take_span_tests rename_span_row)) × IsPlain (understood it.inventory it.rename_span)
unfolding understood everything
rename_span_is = (refl, (refl, refl))
