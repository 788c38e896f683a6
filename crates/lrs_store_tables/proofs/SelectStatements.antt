-- What the statements that read a table are read as.
use Rattle.std.proofs.Common.{◌≡◌, refl, [], ◌∷◌, List, codes, false}
use Rattle.sqlite_schema.specs.declared.command.Command.TheVariants.{Select}
use Rattle.sqlite_sql.specs.Term.{Term, col}
use Rattle.sqlite_tied.specs.Compute.{everything}
use Rattle.sqlite.specs.Listing.{understood, reads_listing}
use Rattle.sqlite.proofs.Callers.{IsPlain, command_of}
use Rattle.lrs_store_tables.specs.Schema as it
use Rattle.lrs_store_tables.proofs.Answers.{over}

abbrev pub version_shows : List Term
version_shows = col 1 0 ∷ []

pub select_version_is : (command_of (understood it.inventory it.select_version) ≡ Select (record { lets = []; body = over 0 [] version_shows [] }) (codes "v" ∷ [])) × (IsPlain (understood it.inventory it.select_version) × (reads_listing it.inventory it.select_version ≡ false))
unfolding understood everything
select_version_is = (refl, ((refl, refl), refl))

abbrev pub link_shows : List Term
link_shows = col 1 0 ∷ col 1 2 ∷ []

pub select_link_is : (command_of (understood it.inventory it.select_link) ≡ Select (record { lets = []; body = over 1 [] link_shows [] }) (codes "number" ∷ codes "length" ∷ [])) × (IsPlain (understood it.inventory it.select_link) × (reads_listing it.inventory it.select_link ≡ false))
unfolding understood everything
select_link_is = (refl, ((refl, refl), refl))

abbrev pub class_shows : List Term
class_shows = col 1 1 ∷ col 1 2 ∷ []

pub select_class_is : (command_of (understood it.inventory it.select_class) ≡ Select (record { lets = []; body = over 2 [] class_shows [] }) (codes "name" ∷ codes "kind" ∷ [])) × (IsPlain (understood it.inventory it.select_class) × (reads_listing it.inventory it.select_class ≡ false))
unfolding understood everything
select_class_is = (refl, ((refl, refl), refl))

abbrev pub asset_shows : List Term
asset_shows = col 1 0 ∷ col 1 2 ∷ col 1 3 ∷ col 1 4 ∷ []

pub select_asset_is : (command_of (understood it.inventory it.select_asset) ≡ Select (record { lets = []; body = over 4 [] asset_shows [] }) (codes "number" ∷ codes "class" ∷ codes "value" ∷ codes "lateral" ∷ [])) × (IsPlain (understood it.inventory it.select_asset) × (reads_listing it.inventory it.select_asset ≡ false))
unfolding understood everything
select_asset_is = (refl, ((refl, refl), refl))

abbrev pub piece_shows : List Term
piece_shows = col 1 1 ∷ col 1 2 ∷ col 1 3 ∷ col 1 4 ∷ col 1 5 ∷ col 1 6 ∷ []

pub select_piece_is : (command_of (understood it.inventory it.select_piece) ≡ Select (record { lets = []; body = over 5 [] piece_shows [] }) (codes "route" ∷ codes "n" ∷ codes "link" ∷ codes "a" ∷ codes "b" ∷ codes "dir" ∷ [])) × (IsPlain (understood it.inventory it.select_piece) × (reads_listing it.inventory it.select_piece ≡ false))
unfolding understood everything
select_piece_is = (refl, ((refl, refl), refl))

abbrev pub mark_shows : List Term
mark_shows = col 1 1 ∷ col 1 2 ∷ col 1 3 ∷ col 1 4 ∷ []

pub select_mark_is : (command_of (understood it.inventory it.select_mark) ≡ Select (record { lets = []; body = over 7 [] mark_shows [] }) (codes "route" ∷ codes "n" ∷ codes "chainage" ∷ codes "measure" ∷ [])) × (IsPlain (understood it.inventory it.select_mark) × (reads_listing it.inventory it.select_mark ≡ false))
unfolding understood everything
select_mark_is = (refl, ((refl, refl), refl))

abbrev pub ref_shows : List Term
ref_shows = col 1 1 ∷ col 1 2 ∷ col 1 3 ∷ []

pub select_ref_is : (command_of (understood it.inventory it.select_ref) ≡ Select (record { lets = []; body = over 9 [] ref_shows [] }) (codes "name" ∷ codes "route" ∷ codes "place" ∷ [])) × (IsPlain (understood it.inventory it.select_ref) × (reads_listing it.inventory it.select_ref ≡ false))
unfolding understood everything
select_ref_is = (refl, ((refl, refl), refl))

abbrev pub span_shows : List Term
span_shows = col 1 1 ∷ col 1 2 ∷ col 1 3 ∷ col 1 4 ∷ col 1 5 ∷ []

pub select_span_is : (command_of (understood it.inventory it.select_span) ≡ Select (record { lets = []; body = over 11 [] span_shows [] }) (codes "asset" ∷ codes "route" ∷ codes "lo" ∷ codes "hi" ∷ codes "side" ∷ [])) × (IsPlain (understood it.inventory it.select_span) × (reads_listing it.inventory it.select_span ≡ false))
unfolding understood everything
select_span_is = (refl, ((refl, refl), refl))

abbrev pub entered_shows : List Term
entered_shows = col 1 1 ∷ col 1 2 ∷ col 1 3 ∷ col 1 4 ∷ col 1 5 ∷ col 1 6 ∷ []

pub select_entered_is : (command_of (understood it.inventory it.select_entered) ≡ Select (record { lets = []; body = over 13 [] entered_shows [] }) (codes "edit" ∷ codes "asset" ∷ codes "link" ∷ codes "lo" ∷ codes "hi" ∷ codes "side" ∷ [])) × (IsPlain (understood it.inventory it.select_entered) × (reads_listing it.inventory it.select_entered ≡ false))
unfolding understood everything
select_entered_is = (refl, ((refl, refl), refl))

abbrev pub gone_shows : List Term
gone_shows = col 1 1 ∷ col 1 2 ∷ col 1 3 ∷ col 1 4 ∷ col 1 5 ∷ col 1 6 ∷ col 1 7 ∷ []

pub select_gone_is : (command_of (understood it.inventory it.select_gone) ≡ Select (record { lets = []; body = over 15 [] gone_shows [] }) (codes "edit" ∷ codes "cause" ∷ codes "asset" ∷ codes "link" ∷ codes "lo" ∷ codes "hi" ∷ codes "side" ∷ [])) × (IsPlain (understood it.inventory it.select_gone) × (reads_listing it.inventory it.select_gone ≡ false))
unfolding understood everything
select_gone_is = (refl, ((refl, refl), refl))

abbrev pub edit_shows : List Term
edit_shows = col 1 0 ∷ col 1 2 ∷ col 1 3 ∷ []

pub select_edit_is : (command_of (understood it.inventory it.select_edit) ≡ Select (record { lets = []; body = over 17 [] edit_shows [] }) (codes "number" ∷ codes "token" ∷ codes "line" ∷ [])) × (IsPlain (understood it.inventory it.select_edit) × (reads_listing it.inventory it.select_edit ≡ false))
unfolding understood everything
select_edit_is = (refl, ((refl, refl), refl))

abbrev pub origin_shows : List Term
origin_shows = col 1 0 ∷ col 1 2 ∷ []

pub select_origin_is : (command_of (understood it.inventory it.select_origin) ≡ Select (record { lets = []; body = over 19 [] origin_shows [] }) (codes "asset" ∷ codes "edit" ∷ [])) × (IsPlain (understood it.inventory it.select_origin) × (reads_listing it.inventory it.select_origin ≡ false))
unfolding understood everything
select_origin_is = (refl, ((refl, refl), refl))
