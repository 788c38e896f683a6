-- What each SELECT reads.
use Rattle.std.proofs.Common.{◌≡◌, ℕ, List, [], ◌∷◌, map, true, false, Option, None, Some, IsTrue, refl, sym, ap, subst, ◌∙◌}
use Rattle.std.specs.Prelude.{filter}
use Rattle.std.specs.List.Sorted.{IsPermutation}
use Rattle.sqlite_value.specs.Order.{Row, column}
use Rattle.sqlite_sql.specs.Term.{Term}
use Rattle.sqlite_schema.specs.declared.command.Command.TheVariants.{Select}
use Rattle.sqlite_schema.specs.declared.command.Returning.{Returning}
use Rattle.sqlite_resolve.specs.declared.compiled.Compiled.{Compiled}
use Rattle.sqlite.specs.Clock.{timed}
use Rattle.sqlite.specs.Listing.{understood, reads_listing}
use Rattle.sqlite.specs.State.{State, Shown, ShowsRows, IsUnchanged}
use Rattle.sqlite.proofs.Callers.{IsPlain, command_of}
use Rattle.lrs_store_tables.specs.Schema.{inventory}
use Rattle.lrs_store_tables.specs.StoredRows.{rows_of, IsWriting}
use Rattle.lrs_store_tables.proofs.Answers.{shows_found, shown_of, over}

all_pass : {A : Type 0} (xs : List A) → filter (λ _. true) xs ≡ xs
all_pass [] = refl
all_pass (x ∷ xs) = ap (λ ys. x ∷ ys) (all_pass xs)

open_where : (old new : State) (sql : List ℕ) (c : Compiled) (params : Row) (rows : List Row) (o : Option Returning) → ShowsRows old new sql c params rows o → IsTrue old.is_open
open_where old new sql c params rows None h = h.3.0.was_open
open_where old new sql c params rows (Some what) h = h.1.shown.was_open

-- a query that gave its rows was asked of an open connection
pub shown_open : (sql : List ℕ) (params : Row) (old new : State) (rows : List Row) → Shown sql params old new rows → IsTrue old.is_open
unfolding Shown
shown_open sql params old new rows h = open_where old new sql h.0 _ rows h.0.returning h.2

pub shown_same : (sql : List ℕ) (params : Row) (old new : State) (rows : List Row) → IsPlain (understood old.now.schema sql) → Shown sql params old new rows → IsUnchanged old new
unfolding Shown
shown_same sql params old new rows plain h =
    let full = timed params h.0.formats h.1.now in
    let none = (subst IsPlain h.1.is plain).0 in
    (subst (ShowsRows old new sql h.0 full rows) none h.2).3

-- SELECT .. FROM one table shows its rows, in some order, and changes nothing.
module _ (sql : List ℕ) (names : List (List ℕ)) (tree : ℕ) (project : List Term) (places : List ℕ)
    (is : (command_of (understood inventory sql) ≡ Select (record { lets = []; body = over tree [] project [] }) names) × (IsPlain (understood inventory sql) × (reads_listing inventory sql ≡ false)))
    (shows : (r : Row) → shown_of project [] r ≡ map (column r) places) where
  map_same : (f g : Row → Row) → ((r : Row) → f r ≡ g r) → (rs : List Row) → map f rs ≡ map g rs
  map_same f g h [] = refl
  map_same f g h (r ∷ rs) = ap (λ x. x ∷ map f rs) (h r) ∙ ap (λ xs. g r ∷ xs) (map_same f g h rs)

  pub reads : (old new : State) (rows : List Row) → IsWriting old → Shown sql [] old new rows → IsPermutation (rows_of old.now.trees tree places) rows × IsUnchanged old new
  reads old new rows writing h =
      let schema = writing.schema (shown_open sql [] old new rows h) in
      let found = shows_found inventory sql names tree [] project [] is.0 is.1.0 is.1.1 [] old new rows schema h in
      let all = subst (λ all. IsPermutation (map (shown_of project []) all) rows) (all_pass (old.now.trees tree)) found in (
        subst (λ shown. IsPermutation shown rows) (map_same _ _ shows (old.now.trees tree)) all,
        shown_same sql [] old new rows (subst (λ s. IsPlain (understood s sql)) (sym schema) is.1.0) h,
      )
