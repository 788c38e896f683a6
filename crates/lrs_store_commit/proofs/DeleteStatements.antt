-- What the statements that delete rows are read as.
use Rattle.std.proofs.Common.{◌≡◌, refl, [], ◌∷◌, List}
use Rattle.sqlite_schema.specs.declared.command.Command.TheVariants.{Delete}
use Rattle.sqlite_sql.specs.Term.{Term, col, op2}
use Rattle.sqlite_sql.specs.declared.ops.BinaryOp.TheVariants as by
use Rattle.sqlite_sql.specs.declared.ops.CompareOp.TheVariants.{Eq}
use Rattle.sqlite_value.specs.declared.keys.Collation.TheVariants.{Binary}
use Rattle.sqlite_tied.specs.Compute.{everything}
use Rattle.sqlite.specs.Listing.{understood}
use Rattle.sqlite.proofs.Callers.{IsPlain, command_of}
use Rattle.lrs_store_tables.specs.Schema as it
use Rattle.lrs_store_commit.proofs.DeleteRows.{finding}

abbrev pub eq : Term → Term → Term
eq a b = op2 (by.Compare Eq Binary) a b

abbrev pub drop_piece_tests : List Term
drop_piece_tests = eq (col 1 1) (col 0 0) ∷ []

pub drop_piece_is : (command_of (understood it.inventory it.drop_piece) ≡ Delete 4 (finding 5 drop_piece_tests)) × IsPlain (understood it.inventory it.drop_piece)
unfolding understood everything
drop_piece_is = (refl, (refl, refl))

abbrev pub drop_mark_tests : List Term
drop_mark_tests = eq (col 1 1) (col 0 0) ∷ []

pub drop_mark_is : (command_of (understood it.inventory it.drop_mark) ≡ Delete 5 (finding 7 drop_mark_tests)) × IsPlain (understood it.inventory it.drop_mark)
unfolding understood everything
drop_mark_is = (refl, (refl, refl))

abbrev pub take_ref_tests : List Term
take_ref_tests = eq (col 1 1) (col 0 0) ∷ []

pub take_ref_is : (command_of (understood it.inventory it.take_ref) ≡ Delete 6 (finding 9 take_ref_tests)) × IsPlain (understood it.inventory it.take_ref)
unfolding understood everything
take_ref_is = (refl, (refl, refl))

abbrev pub take_span_tests : List Term
take_span_tests = eq (col 1 1) (col 0 0) ∷ eq (col 1 2) (col 0 1) ∷ eq (col 1 3) (col 0 2) ∷ []

pub take_span_is : (command_of (understood it.inventory it.take_span) ≡ Delete 7 (finding 11 take_span_tests)) × IsPlain (understood it.inventory it.take_span)
unfolding understood everything
take_span_is = (refl, (refl, refl))
