-- Why the row of the version is not inserted into tables without rows.
use Rattle.std.proofs.Common.{◌≡◌, ◌≢◌, ◌==◌, not, ◌≤◌, ℕ, pos, zero, suc, List, [], ◌∷◌, ◌++◌, length, map, drop, true, false, Option, None, Some, IsSome, Result, Ok, Err, IsTrue, All, inl, inr, refl, sym, ap, subst, subst₂, ◌∙◌, arith}
use Rattle.std.specs.Float.{NotNan}
use lib.Ieee.{is_nan}
use Rattle.std.specs.List.{AllByRecursion, list_all}
use Rattle.std.proofs.lemmas.Bool.{cases_Bool, false≢true}
use Rattle.sqlite_value.specs.declared.value.Value.TheVariants.{Int, Null}
use Rattle.sqlite_value.specs.Order.{Row, number}
use Rattle.sqlite_trees.specs.Tree.{Trees, with_tree}
use Rattle.sqlite_trees.specs.View.{IsStorableRow}
use Rattle.sqlite_sql.specs.Term.{Term, col, lit}
use Rattle.sqlite_schema.specs.declared.schema.Table.{Table}
use Rattle.sqlite_schema.specs.declared.schema.Index.{Index}
use Rattle.sqlite_schema.specs.declared.schema.Keys.TheVariants.{Enforced}
use Rattle.sqlite_schema.specs.declared.schema.Among.TheVariants as among
use Rattle.sqlite_schema.specs.declared.schema.Constraint.TheVariants.{Unique}
use Rattle.sqlite_schema.specs.declared.command.Source.TheVariants.{Values}
use Rattle.sqlite_schema.specs.declared.command.Command.TheVariants.{Insert}
use Rattle.sqlite_schema.specs.Rules.{Keeps, Refers, passes, table_reals}
use Rattle.sqlite_rules.specs.Lists.{Has}
use Rattle.sqlite_rules.specs.Cast.{cast_row}
use Rattle.sqlite_rules.specs.declared.error.Rowids.TheVariants.{Chosen}
use Rattle.sqlite_rules.specs.declared.error.Refusal.{Refusal}
use Rattle.sqlite_rules.specs.declared.error.Refusal.TheVariants as why
use Rattle.sqlite_schema.specs.declared.schema.Constraint.TheVariants as rule
use Rattle.std.proofs.lemmas.Nat.Bits.{bit_at-zero}
use Rattle.sqlite_rules.proofs.ListLemmas.{test_has}
use Rattle.sqlite_trees.specs.Tree.{rowid}
use Rattle.sqlite_sql.specs.Ops.{fits_i64}
use Rattle.sqlite_rules.specs.Edit.{are_fresh, left_by, have_rowids, id_in, is_referred, Edit, edit_of, edited, IsRefused, IsOversized}
use Rattle.std.proofs.Common.{length-append, ◌||◌}
use Rattle.sqlite_schema.specs.Rules.{is_among, has_parent}
use Rattle.sqlite_rules.specs.Edit.{taken_by}
use Rattle.sqlite_rules.specs.Action.{Work, Leads}
use Rattle.sqlite.specs.declared.error.Error.{Error}
use Rattle.sqlite.specs.Rows.{Edited}
use Rattle.sqlite.proofs.Callers.{one_step}
use Rattle.lrs_store_tables.proofs.Rows.{works_none}
use Rattle.lrs_store_tables.proofs.Inserting.{never}
use Rattle.sqlite_rules.specs.Edit.{numbered, without_all}
use Rattle.sqlite.specs.Effect.{RefusesSource}
use Rattle.sqlite.specs.Rows.{Task, Written, Inserts}
use Rattle.sqlite.specs.Does.{Concludes, OnRows, due}
use Rattle.sqlite.specs.declared.run.Mode.{Mode}
use Rattle.lrs_store_tables.proofs.Rows.{task_on, went, same_value, cast_row_suits}
use Rattle.sqlite_tied.specs.Compute.{everything}
use Rattle.sqlite_resolve.specs.declared.compiled.Compiled.{Compiled}
use Rattle.sqlite_resolve.specs.declared.error.CompileError.{CompileError}
use Rattle.sqlite.specs.Listing.{understood}
use Rattle.sqlite.specs.Clock.{timed}
use Rattle.sqlite.specs.Does.{Does}
use Rattle.sqlite.specs.State.{State, IsNoStatement, IsNotRun, ExecutesInside, ExecutesIn, EndsScope, Escapes, IsMisplaced, shows_rows, text_of, mode_of}
use Rattle.sqlite.proofs.Callers.{IsPlain, command_of}
use Rattle.lrs_store_tables.specs.Failures.{HasReason}
use Rattle.lrs_store_tables.proofs.FailLemmas.{fails_for}
use Rattle.lrs_store_tables.proofs.InsertStatements.{insert_version_is}
use Rattle.lrs_store_tables.proofs.FailLemmas.{RanFor, fails_limited}
use Rattle.lrs_store_tables.specs.Schema as it
use Rattle.lrs_store_tables.specs.Schema.{inventory}
use Rattle.lrs_store_tables.specs.TableCreation.{AreEmpty}

-- the row, and the edit that puts it
abbrev row : Row
row = Int (pos 2) ∷ Null ∷ []

none_of : (P : Row → Type 0) (rows : List Row) → rows ≡ [] → AllByRecursion P rows
none_of P rows is = subst (AllByRecursion P) (sym is) tt

module _ (db : Trees) (empty : AreEmpty db) (edit : Edit) (table : edit.table ≡ it.version_table) (gone : edit.gone ≡ []) (news : edit.news ≡ row ∷ []) where
  each_unique : (trees : Trees) (rows : List Row) → AllByRecursion (λ r. passes Unique inventory trees it.version_table r ≡ true) rows
  each_unique trees [] = tt
  each_unique trees (r ∷ rows) = (refl, each_unique trees rows)

  unique : Keeps Unique inventory (with_tree db 0 (edited db edit))
  unique =
      let trees = with_tree db 0 (edited db edit) in (
        each_unique trees (edited db edit),
        (
          none_of _ (db 1) (empty 1 (omega arith)),
          (
            none_of _ (db 2) (empty 2 (omega arith)),
            (
              none_of _ (db 4) (empty 3 (omega arith)),
              (
                none_of _ (db 5) (empty 4 (omega arith)),
                (
                  none_of _ (db 7) (empty 5 (omega arith)),
                  (
                    none_of _ (db 9) (empty 6 (omega arith)),
                    (
                      none_of _ (db 11) (empty 7 (omega arith)),
                      (
                        none_of _ (db 13) (empty 8 (omega arith)),
                        (
                          none_of _ (db 15) (empty 9 (omega arith)),
                          (
                            none_of _ (db 17) (empty 10 (omega arith)),
                            (none_of _ (db 19) (empty 11 (omega arith)), tt),
                          ),
                        ),
                      ),
                    ),
                  ),
                ),
              ),
            ),
          ),
        ),
      )

  -- the edit is not refused
  unrefused_edit : (reason : Refusal) → IsRefused inventory Enforced db edit reason → ⊥
  unrefused_edit (why.Violates rule.Datatype) h = false≢true (sym (subst₂ (λ t n. list_all (passes rule.Datatype inventory db t) n ≡ false) table news h) ∙ refl)
  unrefused_edit (why.Violates rule.NotNull) h = false≢true (sym (subst₂ (λ t n. list_all (passes rule.NotNull inventory db t) n ≡ false) table news h) ∙ refl)
  unrefused_edit (why.Violates rule.Check) h = false≢true (sym (subst₂ (λ t n. list_all (passes rule.Check inventory db t) n ≡ false) table news h) ∙ refl)
  unrefused_edit (why.Violates rule.PrimaryKey) h =
      let fresh : are_fresh (left_by db edit) edit.news ≡ true = rw (table, gone, news, empty 0 (omega arith)) in
      false≢true (sym h ∙ fresh)
  unrefused_edit (why.Violates rule.Unique) h = h (subst (λ (t : Table). Keeps Unique inventory (with_tree db t.tree (edited db edit))) (sym table) unique)
  unrefused_edit (why.Violates rule.ForeignKey) h = h
  unrefused_edit why.Mismatch h = false≢true (sym (subst (λ n. have_rowids n ≡ false) news h) ∙ refl)
  unrefused_edit why.NoRowid h = false≢true (sym (subst (λ n. list_all (λ r. fits_i64 (id_in (rowid r))) n ≡ false) news h) ∙ refl)
  unrefused_edit why.BadReference h =
      let fits : is_referred inventory Enforced edit ≡ true = rw (table, gone, news) in
      false≢true (sym h ∙ fits)
  unrefused_edit why.TooDeep h = h

  counted : All (λ v. NotNan (number v)) row
  unfolding is_nan
  counted zero d h = tt
  counted (suc zero) d h = tt
  counted (suc (suc k)) d h = absurd (omega arith)

  storable : IsStorableRow (table_reals it.version_table) row
  storable = (
    record {
      typed = λ c is. absurd (let both = sym (bit_at-zero c) ∙ is in cc);
      columns = (omega arith, omega arith);
      numbers = counted;
      short = omega arith;
    },
    omega arith,
  )

  -- the row and the entries of indexes are small
  fits_in : (r : Row) → Has edit.news r → IsOversized inventory edit.table r → ⊥
  fits_in r has big = small r (subst (λ n. Has n r) news has) (subst (λ t. IsOversized inventory t r) table big)
    where
      same_number : (n : ℕ) → n ≡ 0 → (n == 0) ≡ true
      same_number n is = rw (is)

      unindexed : (i : Index) → Has inventory.indexes i → i.table ≡ 0 → ⊥
      unindexed i has is = let both = sym (test_has (λ (j : Index). not (j.table == 0)) inventory.indexes i refl has) ∙ ap not (same_number i.table is) in absurd cc

      small : (x : Row) → Has (row ∷ []) x → IsOversized inventory it.version_table x → ⊥
      small x (inl is) (inl unfit) = unfit (subst (IsStorableRow (table_reals it.version_table)) (sym is) storable)
      small x (inl is) (inr (i, has, own, unfit)) = unindexed i has own
      small x (inr none) big = none

  no_work : (next : Trees) (stack : List Work) (reason : Option Refusal) (n : ℕ) → stack ≡ [] → Leads inventory Enforced n next stack (Err reason) → ⊥
  no_work next stack reason zero is h = absurd (let e = h.1 in cc)
  no_work next stack reason (suc n) is h = absurd (omega (arith, ap length (sym is ∙ h.2), length-append h.0 (h.1 ∷ [])))

  goes_in : (stop : Option Error) → Edited inventory Enforced db edit (Err stop) → ⊥
  goes_in stop (reason, inl (w, refused, so), same) = unrefused_edit w refused
  goes_in stop (reason, inr (inl (r, has, big, so)), same) = fits_in r has big
  goes_in stop (reason, inr (inr (next, applied, (n, leads))), same) = no_work next _ reason n (works_none inventory 0 edit.table.tree (taken_by db edit) edit.news never) leads

  -- the other tables stay empty
  refers : (next : Trees) → Edited inventory Enforced db edit (Ok next) → Refers among.All inventory next
  refers next h =
      let applied = one_step inventory Enforced db next edit (works_none inventory 0 edit.table.tree (taken_by db edit) edit.news never) h in
      let others = subst (λ (t : Table). AllByRecursion (λ (x : Table). x.tree ≢ t.tree → next x.tree ≡ db x.tree) inventory.tables) table applied.tables in
      let o1 = others.1 in let o2 = o1.1 in let o3 = o2.1 in let o4 = o3.1 in let o5 = o4.1 in let o6 = o5.1 in let o7 = o6.1 in let o8 = o7.1 in let o9 = o8.1 in let o10 = o9.1 in let o11 = o10.1 in (
        each_refers next (next 0),
        (
          none_of _ (next 1) (o1.0 (λ e. absurd cc) ∙ empty 1 (omega arith)),
          (
            none_of _ (next 2) (o2.0 (λ e. absurd cc) ∙ empty 2 (omega arith)),
            (
              none_of _ (next 4) (o3.0 (λ e. absurd cc) ∙ empty 3 (omega arith)),
              (
                none_of _ (next 5) (o4.0 (λ e. absurd cc) ∙ empty 4 (omega arith)),
                (
                  none_of _ (next 7) (o5.0 (λ e. absurd cc) ∙ empty 5 (omega arith)),
                  (
                    none_of _ (next 9) (o6.0 (λ e. absurd cc) ∙ empty 6 (omega arith)),
                    (
                      none_of _ (next 11) (o7.0 (λ e. absurd cc) ∙ empty 7 (omega arith)),
                      (
                        none_of _ (next 13) (o8.0 (λ e. absurd cc) ∙ empty 8 (omega arith)),
                        (
                          none_of _ (next 15) (o9.0 (λ e. absurd cc) ∙ empty 9 (omega arith)),
                          (none_of _ (next 17) (o10.0 (λ e. absurd cc) ∙ empty 10 (omega arith)), (none_of _ (next 19) (o11.0 (λ e. absurd cc) ∙ empty 11 (omega arith)), tt)),
                        ),
                      ),
                    ),
                  ),
                ),
              ),
            ),
          ),
        ),
      )
    where
      each_refers : (trees : Trees) (rows : List Row) → AllByRecursion (λ r. list_all (λ ref. not (is_among among.All ref) || has_parent inventory.tables trees r ref) it.version_table.references ≡ true) rows
      each_refers trees [] = tt
      each_refers trees (r ∷ rows) = (refl, each_refers trees rows)

-- ---- the statement

abbrev terms : List Term
terms = col 0 0 ∷ lit Null ∷ []

abbrev params : Row
params = Int (pos 2) ∷ []

abbrev its_task : Option ℕ → Task
its_task limit = task_on limit inventory it.version_table params

module _ (db : Trees) (empty : AreEmpty db) (limit : Option ℕ) where
  edit_by : List Row → Edit
  edit_by rows = edit_of db it.version_table [] Chosen 0 rows

  abbrev AreGiven : List Row → Type 0
  AreGiven rows = rows ≡ row ∷ []

  news_of : (rows : List Row) → AreGiven rows → numbered Chosen (without_all (db 0) []) (map (λ s. cast_row it.version_table (drop 0 s)) rows) ≡ row ∷ []
  news_of rows is =
      ap (λ rs. numbered Chosen (db 0) (map (λ s. cast_row it.version_table (drop 0 s)) rs)) is
      ∙ ap (λ r. numbered Chosen (db 0) (r ∷ [])) (cast_row_suits it.version_table (Int (pos 2)) (Null ∷ []) refl refl)

  typed : (e : Error) → RefusesSource limit (record { schema = inventory; trees = db }) (params ++ []) (Values terms 2) e → IsSome limit
  typed e (inl h) = absurd (false≢true (sym h.1))
  typed e (inr h) = h.1

  -- it is inserted, but for a limit of steps
  inserted : (stop : Option Error) → Inserts (its_task limit) (Values terms 2) db (Err stop) → IsSome limit
  inserted stop (inl (None, none, same)) = absurd none
  inserted stop (inl (Some e, refused, same)) = typed e refused
  inserted stop (inr (rows, given, inl (s, counted, same))) = absurd (let e = counted in cc)
  inserted stop (inr (rows, given, inr (counter, counted, inl (s, edited, same)))) =
      absurd (goes_in db empty (edit_of db it.version_table [] Chosen 0 rows) refl refl (news_of rows given.1) s edited)
  inserted stop (inr (rows, given, inr (counter, counted, inr (mid, edited, inl (s, counts, same))))) = absurd (let e = counts in cc)
  inserted stop (inr (rows, given, inr (counter, counted, inr (mid, edited, inr (next, counts, gives))))) = absurd (let e = gives in cc)

  refers_then : (w : Written) → Inserts (its_task limit) (Values terms 2) db (Ok w) → Refers among.All inventory w.trees
  refers_then w h =
      let given = went h in
      let counter = went given.2 in
      let written = went counter.2 in
      let ended = went written.2 in
      let trees : w.trees ≡ written.0 = ap (λ (x : Written). x.trees) (same_value ended.2) ∙ same_value ended.1 in
      subst (Refers among.All inventory) (sym trees) (refers db empty (edit_of db it.version_table [] Chosen 0 given.0) refl refl (news_of given.0 given.1.1) written.0 written.1)

  concludes : (mode : Mode) → mode.may_wait ≡ false → (w : Written) → Inserts (its_task limit) (Values terms 2) db (Ok w) → (stop : Option Error) → Concludes (its_task limit) mode None w (Err stop) → ⊥
  concludes mode waits w h stop (inl (s, tested, same)) =
      let all : due mode ≡ among.All = rw (waits) in
      tested.0 (subst (λ a. Refers a inventory w.trees) (sym all) (refers_then w h))
  concludes mode waits w h stop (inr (doubt, tested, inl (s, returns, same))) = absurd (let e = returns in cc)
  concludes mode waits w h stop (inr (doubt, tested, inr (rows, returns, gives))) = absurd (let e = gives in cc)

  on_rows : (mode : Mode) → mode.may_wait ≡ false → (stop : Option Error) → OnRows (its_task limit) mode None (Insert 0 (Values terms 2)) db (Err stop) → IsSome limit
  on_rows mode waits stop (inl (s, stopped, same)) = inserted s stopped
  on_rows mode waits stop (inr (w, wrote, ends)) = absurd (concludes mode waits w wrote stop ends)

-- the text is one statement with a parameter
abbrev IsWithOne : List ℕ → Result Compiled CompileError → Type 0
IsWithOne sql (Ok c) = (length sql ≤ c.tail) × (length c.names ≡ 1)
IsWithOne sql (Err e) = ⊥

version_with_one : IsWithOne it.insert_version (understood inventory it.insert_version)
unfolding understood everything
version_with_one = (omega arith, refl)

well_placed : (s : State) (e : Error) → IsMisplaced s (Insert 0 (Values terms 2)) e → ⊥
well_placed s e (inl (so, inl (is, within))) = absurd cc
well_placed s e (inl (so, inr (inl is, out))) = absurd cc
well_placed s e (inl (so, inr (inr is, out))) = absurd cc
well_placed s e (inr (so, name, inl is, none)) = absurd cc
well_placed s e (inr (so, name, inr is, none)) = absurd cc

stays_inside : (s : State) → Escapes 0 s (Insert 0 (Values terms 2)) → ⊥
stays_inside s (inl (inl is)) = absurd cc
stays_inside s (inl (inr is)) = absurd cc
stays_inside s (inr (name, inl is, held)) = absurd cc
stays_inside s (inr (name, inr is, held)) = absurd cc

shows_nothing : (c : Compiled) → c.command ≡ Insert 0 (Values terms 2) → c.returning ≡ None → shows_rows false c ≡ false
shows_nothing c a b = rw (a, b)

no_statement : (old : State) (e : Error) → old.now.schema ≡ inventory → IsNoStatement old it.insert_version params e → ⊥
no_statement old e has (inl (fault, bad, so)) = subst (IsWithOne it.insert_version) (sym (ap (λ s. understood s it.insert_version) has) ∙ bad) version_with_one
no_statement old e has (inr (c, good, inl (more, so))) = more (subst (IsWithOne it.insert_version) (sym (ap (λ s. understood s it.insert_version) has) ∙ good) version_with_one).0
no_statement old e has (inr (c, good, inr (inl (given, so)))) = given (sym (subst (IsWithOne it.insert_version) (sym (ap (λ s. understood s it.insert_version) has) ∙ good) version_with_one).1)
no_statement old e has (inr (c, good, inr (inr (clock, so)))) = clock (subst IsPlain (sym (ap (λ s. understood s it.insert_version) has) ∙ good) insert_version_is.1).1

module _ (old new : State) (e : Error) (has : old.now.schema ≡ inventory) (empty : AreEmpty old.now.trees) where
  does : (mode : Mode) → mode.keys ≡ Enforced → mode.may_wait ≡ false → (stop : Option Error) (text : List ℕ) → Does old.step_limit mode params old.now text None (Insert 0 (Values terms 2)) (Err stop) → IsSome old.step_limit
  does mode keys waits stop text h =
      let there = subst (λ s. Does old.step_limit mode params (record old.now { schema = s }) text None (Insert 0 (Values terms 2)) (Err stop)) has h in
      on_rows old.now.trees empty old.step_limit mode waits stop (subst (λ k. OnRows (record (its_task old.step_limit) { keys = k }) mode None (Insert 0 (Values terms 2)) old.now.trees (Err stop)) keys there)

  runs_for : (c : Compiled) (text : List ℕ) → RanFor old new c (mode_of old) params e None (Insert 0 (Values terms 2)) text → HasReason old new e
  runs_for c text (inl (inl misplaced, same)) = absurd (well_placed old e misplaced)
  runs_for c text (inl (inr (may, refused), same)) = inr (inr (inr (does (mode_of old) refl refl (Some e) text refused)))
  runs_for c text (inr failed) = fails_limited old new e _ (λ big. does (mode_of old) refl refl None text big) failed

  executes_for : ExecutesIn false it.insert_version params old new (Err e) → HasReason old new e
  unfolding ExecutesIn IsNotRun
  executes_for (inl (inl h)) = absurd (no_statement old e has h.0)
  executes_for (inl (inr h)) = fails_for old new e h
  executes_for (inr h) =
      let known = sym h.1.is ∙ ap (λ s. understood s it.insert_version) has in
      let bare = subst IsPlain (sym known) insert_version_is.1 in
      let command : h.0.command ≡ Insert 0 (Values terms 2) = ap command_of known ∙ insert_version_is.0 in
      let ran = rw (shows_nothing h.0 command bare.0) at h.2 in
      let full = timed params h.0.formats h.1.now in
      let plainly : full ≡ params = rw (bare.1) in
      let text = text_of it.insert_version h.0 in
      runs_for h.0 text (subst (λ p. RanFor old new h.0 (mode_of old) p e None (Insert 0 (Values terms 2)) text) plainly
      (subst (λ k. RanFor old new h.0 (mode_of old) full e None k text) command (subst (λ r. RanFor old new h.0 (mode_of old) full e r h.0.command text) bare.0 ran)))

  inside : EndsScope 0 it.insert_version params old → ⊥
  unfolding EndsScope
  inside (c, of, escapes) = stays_inside old (subst (Escapes 0 old) (ap command_of (sym of.is ∙ ap (λ s. understood s it.insert_version) has) ∙ insert_version_is.0) escapes)

-- why the row of the version is not put where no table has a row
pub version_fails : (old new : State) (e : Error) → (IsTrue old.is_open → old.now.schema ≡ inventory) → (IsTrue old.is_open → AreEmpty old.now.trees) → ExecutesInside 0 it.insert_version params old new (Err e) → HasReason old new e
version_fails old new e has empty h = elim (cases_Bool old.is_open) [
  | inl opened ↦ elim h [
    | inl ran ↦ executes_for old new e (has opened) (empty opened) ran.0
    | inr ended ↦ absurd (inside old new e (has opened) (empty opened) ended.0)
  ]
  | inr shut ↦ inr (inr (inl shut))
]
