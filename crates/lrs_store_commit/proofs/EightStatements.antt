-- What the statements that insert eight rows are read as.
use Rattle.std.proofs.Common.{◌≡◌, refl, ℕ, ◌+◌, ◌*◌, List, [], ◌∷◌, ◌++◌}
use Rattle.sqlite_value.specs.declared.value.Value.TheVariants.{Null}
use Rattle.sqlite_schema.specs.declared.command.Source.TheVariants.{Values}
use Rattle.sqlite_schema.specs.declared.command.Command.TheVariants.{Insert}
use Rattle.sqlite_sql.specs.Term.{Term, lit, col}
use Rattle.sqlite_tied.specs.Compute.{everything}
use Rattle.sqlite.specs.Listing.{understood}
use Rattle.sqlite.proofs.Callers.{IsPlain, command_of}
use Rattle.lrs_store_tables.specs.Schema as it

-- the terms of eight rows of so many values, where those of one begin with the value at some place
abbrev pub eight_of : (ℕ → List Term) → ℕ → List Term
eight_of row width = row 0 ++ row width ++ row (2 * width) ++ row (3 * width) ++ row (4 * width) ++ row (5 * width) ++ row (6 * width) ++ row (7 * width)

abbrev pub asset_terms : ℕ → List Term
asset_terms k = col 0 k ∷ lit Null ∷ col 0 (k + 1) ∷ col 0 (k + 2) ∷ col 0 (k + 3) ∷ []

pub insert_eight_assets_is : (command_of (understood it.inventory it.insert_eight_assets) ≡ Insert 3 (Values (eight_of asset_terms 4) 5)) × IsPlain (understood it.inventory it.insert_eight_assets)
unfolding understood everything
insert_eight_assets_is = (refl, (refl, refl))

abbrev pub span_terms : ℕ → List Term
span_terms k = lit Null ∷ col 0 k ∷ col 0 (k + 1) ∷ col 0 (k + 2) ∷ col 0 (k + 3) ∷ col 0 (k + 4) ∷ []

pub insert_eight_spans_is : (command_of (understood it.inventory it.insert_eight_spans) ≡ Insert 7 (Values (eight_of span_terms 5) 6)) × IsPlain (understood it.inventory it.insert_eight_spans)
unfolding understood everything
insert_eight_spans_is = (refl, (refl, refl))

abbrev pub entered_terms : ℕ → List Term
entered_terms k = lit Null ∷ col 0 k ∷ col 0 (k + 1) ∷ col 0 (k + 2) ∷ col 0 (k + 3) ∷ col 0 (k + 4) ∷ col 0 (k + 5) ∷ []

pub insert_eight_entered_is : (command_of (understood it.inventory it.insert_eight_entered) ≡ Insert 8 (Values (eight_of entered_terms 6) 7)) × IsPlain (understood it.inventory it.insert_eight_entered)
unfolding understood everything
insert_eight_entered_is = (refl, (refl, refl))

abbrev pub edit_terms : ℕ → List Term
edit_terms k = col 0 k ∷ lit Null ∷ col 0 (k + 1) ∷ col 0 (k + 2) ∷ []

pub insert_eight_edits_is : (command_of (understood it.inventory it.insert_eight_edits) ≡ Insert 10 (Values (eight_of edit_terms 3) 4)) × IsPlain (understood it.inventory it.insert_eight_edits)
unfolding understood everything
insert_eight_edits_is = (refl, (refl, refl))

abbrev pub origin_terms : ℕ → List Term
origin_terms k = col 0 k ∷ lit Null ∷ col 0 (k + 1) ∷ []

pub insert_eight_origins_is : (command_of (understood it.inventory it.insert_eight_origins) ≡ Insert 11 (Values (eight_of origin_terms 2) 3)) × IsPlain (understood it.inventory it.insert_eight_origins)
unfolding understood everything
insert_eight_origins_is = (refl, (refl, refl))
