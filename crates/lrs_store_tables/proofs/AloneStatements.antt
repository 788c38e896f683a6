-- The text that reads a table is one statement without parameters, and its query fits the tables.
use Rattle.std.proofs.Common.{◌≡◌, ◌≤◌, List, [], ℕ, true, length, Result, Ok, Err, refl, arith}
use Rattle.sqlite_typing.specs.Types.{accepts_program}
use Rattle.sqlite_tied.specs.Compute.{everything}
use Rattle.sqlite_resolve.specs.declared.compiled.Compiled.{Compiled}
use Rattle.sqlite_resolve.specs.declared.error.CompileError.{CompileError}
use Rattle.sqlite.specs.Listing.{understood}
use Rattle.lrs_store_tables.specs.Schema as it
use Rattle.lrs_store_tables.proofs.Answers.{over}
use Rattle.lrs_store_tables.proofs.SelectStatements.{version_shows, link_shows, class_shows, asset_shows, piece_shows, mark_shows, ref_shows, span_shows, entered_shows, gone_shows, edit_shows, origin_shows}

-- the text is one statement, without parameters
abbrev pub IsAlone : List ℕ → Result Compiled CompileError → Type 0
IsAlone sql (Ok c) = (length sql ≤ c.tail) × (c.names ≡ [])
IsAlone sql (Err e) = ⊥

pub version_alone : IsAlone it.select_version (understood it.inventory it.select_version)
unfolding understood everything
version_alone = (omega (arith), refl)

pub version_typed : accepts_program it.inventory [] (over 0 [] version_shows []) [] ≡ true
version_typed = refl

pub link_alone : IsAlone it.select_link (understood it.inventory it.select_link)
unfolding understood everything
link_alone = (omega (arith), refl)

pub link_typed : accepts_program it.inventory [] (over 1 [] link_shows []) [] ≡ true
link_typed = refl

pub class_alone : IsAlone it.select_class (understood it.inventory it.select_class)
unfolding understood everything
class_alone = (omega (arith), refl)

pub class_typed : accepts_program it.inventory [] (over 2 [] class_shows []) [] ≡ true
class_typed = refl

pub asset_alone : IsAlone it.select_asset (understood it.inventory it.select_asset)
unfolding understood everything
asset_alone = (omega (arith), refl)

pub asset_typed : accepts_program it.inventory [] (over 4 [] asset_shows []) [] ≡ true
asset_typed = refl

pub piece_alone : IsAlone it.select_piece (understood it.inventory it.select_piece)
unfolding understood everything
piece_alone = (omega (arith), refl)

pub piece_typed : accepts_program it.inventory [] (over 5 [] piece_shows []) [] ≡ true
piece_typed = refl

pub mark_alone : IsAlone it.select_mark (understood it.inventory it.select_mark)
unfolding understood everything
mark_alone = (omega (arith), refl)

pub mark_typed : accepts_program it.inventory [] (over 7 [] mark_shows []) [] ≡ true
mark_typed = refl

pub ref_alone : IsAlone it.select_ref (understood it.inventory it.select_ref)
unfolding understood everything
ref_alone = (omega (arith), refl)

pub ref_typed : accepts_program it.inventory [] (over 9 [] ref_shows []) [] ≡ true
ref_typed = refl

pub span_alone : IsAlone it.select_span (understood it.inventory it.select_span)
unfolding understood everything
span_alone = (omega (arith), refl)

pub span_typed : accepts_program it.inventory [] (over 11 [] span_shows []) [] ≡ true
span_typed = refl

pub entered_alone : IsAlone it.select_entered (understood it.inventory it.select_entered)
unfolding understood everything
entered_alone = (omega (arith), refl)

pub entered_typed : accepts_program it.inventory [] (over 13 [] entered_shows []) [] ≡ true
entered_typed = refl

pub gone_alone : IsAlone it.select_gone (understood it.inventory it.select_gone)
unfolding understood everything
gone_alone = (omega (arith), refl)

pub gone_typed : accepts_program it.inventory [] (over 15 [] gone_shows []) [] ≡ true
gone_typed = refl

pub edit_alone : IsAlone it.select_edit (understood it.inventory it.select_edit)
unfolding understood everything
edit_alone = (omega (arith), refl)

pub edit_typed : accepts_program it.inventory [] (over 17 [] edit_shows []) [] ≡ true
edit_typed = refl

pub origin_alone : IsAlone it.select_origin (understood it.inventory it.select_origin)
unfolding understood everything
origin_alone = (omega (arith), refl)

pub origin_typed : accepts_program it.inventory [] (over 19 [] origin_shows []) [] ≡ true
origin_typed = refl
