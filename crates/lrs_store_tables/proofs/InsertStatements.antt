-- What the statements that insert a row are read as.
use Rattle.std.proofs.Common.{◌≡◌, refl, [], ◌∷◌}
use Rattle.sqlite_value.specs.declared.value.Value.TheVariants.{Null}
use Rattle.sqlite_schema.specs.declared.command.Source.TheVariants.{Values}
use Rattle.sqlite_schema.specs.declared.command.Command.TheVariants.{Insert}
use Rattle.sqlite_sql.specs.Term.{lit, col}
use Rattle.sqlite_tied.specs.Compute.{everything}
use Rattle.sqlite.specs.Listing.{understood}
use Rattle.sqlite.proofs.Callers.{IsPlain, command_of}
use Rattle.lrs_store_tables.specs.Schema as it

pub insert_version_is : (command_of (understood it.inventory it.insert_version) ≡ Insert 0 (Values (col 0 0 ∷ lit Null ∷ []) 2)) × IsPlain (understood it.inventory it.insert_version)
unfolding understood everything
insert_version_is = (refl, (refl, refl))

pub insert_link_is : (command_of (understood it.inventory it.insert_link) ≡ Insert 1 (Values (col 0 0 ∷ lit Null ∷ col 0 1 ∷ []) 3)) × IsPlain (understood it.inventory it.insert_link)
unfolding understood everything
insert_link_is = (refl, (refl, refl))

pub insert_class_is : (command_of (understood it.inventory it.insert_class) ≡ Insert 2 (Values (lit Null ∷ col 0 0 ∷ col 0 1 ∷ []) 3)) × IsPlain (understood it.inventory it.insert_class)
unfolding understood everything
insert_class_is = (refl, (refl, refl))

pub insert_asset_is : (command_of (understood it.inventory it.insert_asset) ≡ Insert 3 (Values (col 0 0 ∷ lit Null ∷ col 0 1 ∷ col 0 2 ∷ col 0 3 ∷ []) 5)) × IsPlain (understood it.inventory it.insert_asset)
unfolding understood everything
insert_asset_is = (refl, (refl, refl))

pub insert_piece_is : (command_of (understood it.inventory it.insert_piece) ≡ Insert 4 (Values (lit Null ∷ col 0 0 ∷ col 0 1 ∷ col 0 2 ∷ col 0 3 ∷ col 0 4 ∷ col 0 5 ∷ []) 7)) × IsPlain (understood it.inventory it.insert_piece)
unfolding understood everything
insert_piece_is = (refl, (refl, refl))

pub insert_mark_is : (command_of (understood it.inventory it.insert_mark) ≡ Insert 5 (Values (lit Null ∷ col 0 0 ∷ col 0 1 ∷ col 0 2 ∷ col 0 3 ∷ []) 5)) × IsPlain (understood it.inventory it.insert_mark)
unfolding understood everything
insert_mark_is = (refl, (refl, refl))

pub insert_ref_is : (command_of (understood it.inventory it.insert_ref) ≡ Insert 6 (Values (lit Null ∷ col 0 0 ∷ col 0 1 ∷ col 0 2 ∷ []) 4)) × IsPlain (understood it.inventory it.insert_ref)
unfolding understood everything
insert_ref_is = (refl, (refl, refl))

pub insert_span_is : (command_of (understood it.inventory it.insert_span) ≡ Insert 7 (Values (lit Null ∷ col 0 0 ∷ col 0 1 ∷ col 0 2 ∷ col 0 3 ∷ col 0 4 ∷ []) 6)) × IsPlain (understood it.inventory it.insert_span)
unfolding understood everything
insert_span_is = (refl, (refl, refl))

pub insert_entered_is : (command_of (understood it.inventory it.insert_entered) ≡ Insert 8 (Values (lit Null ∷ col 0 0 ∷ col 0 1 ∷ col 0 2 ∷ col 0 3 ∷ col 0 4 ∷ col 0 5 ∷ []) 7)) × IsPlain (understood it.inventory it.insert_entered)
unfolding understood everything
insert_entered_is = (refl, (refl, refl))

pub insert_gone_is : (command_of (understood it.inventory it.insert_gone) ≡ Insert 9 (Values (lit Null ∷ col 0 0 ∷ col 0 1 ∷ col 0 2 ∷ col 0 3 ∷ col 0 4 ∷ col 0 5 ∷ col 0 6 ∷ []) 8)) × IsPlain (understood it.inventory it.insert_gone)
unfolding understood everything
insert_gone_is = (refl, (refl, refl))

pub insert_edit_is : (command_of (understood it.inventory it.insert_edit) ≡ Insert 10 (Values (col 0 0 ∷ lit Null ∷ col 0 1 ∷ col 0 2 ∷ []) 4)) × IsPlain (understood it.inventory it.insert_edit)
unfolding understood everything
insert_edit_is = (refl, (refl, refl))

pub insert_origin_is : (command_of (understood it.inventory it.insert_origin) ≡ Insert 11 (Values (col 0 0 ∷ lit Null ∷ col 0 1 ∷ []) 3)) × IsPlain (understood it.inventory it.insert_origin)
unfolding understood everything
insert_origin_is = (refl, (refl, refl))
