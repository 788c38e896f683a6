-- The tables of an inventory are plain.
use Rattle.std.proofs.Common.{◌≡◌, ℕ, zero, suc, List, [], ◌∷◌, take, refl}
use Rattle.std.specs.Prelude.{⊤}
use Rattle.std.specs.List.{AllByRecursion}
use Rattle.sqlite_schema.specs.declared.schema.Table.{Table}
use Rattle.lrs_store_tables.specs.Schema as it
use Rattle.lrs_store_tables.specs.Schema.{inventory}
use Rattle.lrs_store_files.specs.PlainTables.{IsPlainColumn, IsPlainTable}

-- of every list
pub all_true : {X : Type 0} (xs : List X) → AllByRecursion (λ _. ⊤) xs
all_true [] = tt
all_true (x ∷ xs) = (tt, all_true xs)

plain : (t : Table) → AllByRecursion IsPlainColumn t.columns → t.checks ≡ [] → t.stamps.terms ≡ [] → IsPlainTable t
plain t columns checks terms = record { columns = columns; checks = checks; stamps = terms }

pub all_plain : AllByRecursion IsPlainTable inventory.tables
all_plain = (
  plain it.version_table (refl, tt) refl refl,
  (
    plain it.link_table (refl, (refl, tt)) refl refl,
    (
      plain it.class_table (refl, (refl, tt)) refl refl,
      (
        plain it.asset_table (refl, (refl, (refl, (refl, tt)))) refl refl,
        (
          plain it.piece_table (refl, (refl, (refl, (refl, (refl, (refl, tt)))))) refl refl,
          (
            plain it.mark_table (refl, (refl, (refl, (refl, tt)))) refl refl,
            (
              plain it.ref_table (refl, (refl, (refl, tt))) refl refl,
              (
                plain it.span_table (refl, (refl, (refl, (refl, (refl, tt))))) refl refl,
                (
                  plain it.entered_table (refl, (refl, (refl, (refl, (refl, (refl, tt)))))) refl refl,
                  (
                    plain it.gone_table (refl, (refl, (refl, (refl, (refl, (refl, (refl, tt))))))) refl refl,
                    (
                      plain it.edit_table (refl, (refl, (refl, tt))) refl refl,
                      (plain it.origin_table (refl, (refl, tt)) refl refl, tt),
                    ),
                  ),
                ),
              ),
            ),
          ),
        ),
      ),
    ),
  ),
)

take_all : {X : Type 0} (P : X → Type 0) (n : ℕ) (xs : List X) → AllByRecursion P xs → AllByRecursion P (take n xs)
take_all P zero xs all = tt
take_all P (suc n) [] all = tt
take_all P (suc n) (x ∷ xs) all = (all.0, take_all P n xs all.1)

pub first_plain : (n : ℕ) → AllByRecursion IsPlainTable (take n inventory.tables)
first_plain n = take_all IsPlainTable n inventory.tables all_plain
