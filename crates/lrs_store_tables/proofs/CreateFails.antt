-- Why a CREATE of a table of an inventory answers an error.
use Rattle.std.proofs.Common.{◌≡◌, ◌<◌, ◌≤◌, ℕ, ◌+◌, ◌*◌, ◌^◌, List, [], length, codes, Bool, true, false, not, Option, None, Some, Result, Ok, Err, IsTrue, inl, inr, refl, sym, ap, subst, ◌∙◌, arith}
use Rattle.std.specs.Prelude.{nat_lt, IsUtf8}
use Rattle.std.specs.List.{list_all}
use Rattle.std.proofs.lemmas.Bool.{cases_Bool, false≢true, ltb-true}
use Rattle.sqlite_value.specs.declared.value.Value.TheVariants.{Text}
use Rattle.sqlite_value.specs.Order.{Row}
use Rattle.sqlite_schema.specs.declared.schema.Table.{Table}
use Rattle.sqlite_schema.specs.declared.schema.Index.{Index}
use Rattle.sqlite_schema.specs.declared.schema.Schema.{Schema}
use Rattle.sqlite_schema.specs.declared.command.Command.TheVariants.{CreateTable}
use Rattle.sqlite_schema.specs.Rules.{table_reals, index_reals}
use Rattle.sqlite_rules.specs.Lists.{Has}
use Rattle.sqlite_rules.proofs.ListLemmas.{test_has}
use Rattle.sqlite_resolve.specs.Compile.{table_defined_by}
use Rattle.sqlite_resolve.specs.declared.compiled.Compiled.{Compiled}
use Rattle.sqlite_tied.specs.Compute.{everything}
use Rattle.sqlite_catalog.specs.Change.{next_tree, is_used, is_reserved, automatics}
use Rattle.sqlite_catalog.specs.Listing.{is_formed, is_fit}
use Rattle.sqlite_catalog.specs.Calls.{RefusesTable, IsLongTable}
use Rattle.sqlite_catalog.specs.declared.error.Refusal.{Refusal}
use Rattle.sqlite_catalog.specs.declared.error.Refusal.TheVariants as why
use Rattle.sqlite_catalog.specs.Change.{created}
use Rattle.sqlite.specs.Effect.{Database}
use Rattle.sqlite.specs.Rows.{Then}
use Rattle.sqlite.specs.Does.{lacks_sequence, MakesTable, MakesSequence, Defines, Does}
use Rattle.sqlite.specs.Clock.{timed}
use Rattle.sqlite.specs.State.{State, IsNoStatement, IsNotRun, ExecutesInside, ExecutesIn, EndsScope, Escapes, IsMisplaced, shows_rows, text_of, mode_of}
use Rattle.sqlite.specs.declared.run.Mode.{Mode}
use Rattle.sqlite.specs.declared.error.Error.{Error}
use Rattle.sqlite.proofs.Callers.{IsPlain, command_of, statement_of}
use Rattle.lrs_store_tables.proofs.AloneStatements.{IsAlone}
use Rattle.lrs_store_tables.specs.Failures.{HasReason}
use Rattle.lrs_store_tables.proofs.MakeLemmas.{AllFrom, one_of}
use Rattle.lrs_store_tables.proofs.FailLemmas.{RanFor, fails_for, fails_limited}
use Rattle.sqlite.specs.Listing.{understood}
use Rattle.sqlite_trees.specs.Sound.{fits_kind, is_free_name, same_name, begins}
use Rattle.sqlite_value.specs.Order.{value_cmp}
use lib.Utf8.{encode}
use lib.Ieee.{is_nan, lt}
use Rattle.lrs_store_tables.specs.Schema as it
use Rattle.lrs_store_tables.specs.TableCreation.{first_tables, create_at}

-- a table that a text defines can be made beside those of a schema
pub record IsFree (schema : Schema) (sql : List ℕ) (t : Table) : Type 0 where
  defined : table_defined_by sql ≡ Ok t
  free : is_used schema t.name ≡ false
  autos : list_all (λ (i : Index). not (is_used schema i.name)) (automatics t 0 0 t.uniques) ≡ true
  text : IsUtf8 t.name
  unreserved : is_reserved t.name ≡ false
  few : next_tree schema + length t.uniques < 65536
  reals : table_reals t < 2 ^ 64
  keys : list_all (λ key. nat_lt (index_reals (table_reals t) key) (2 ^ 64)) t.uniques ≡ true
  formed : is_formed t ≡ true
  fit : is_fit (Text (codes "table")) (Text t.name) (Text t.name) (Text sql) ≡ true
  short : 2 * length t.name + length sql + 200 < 10 ^ 9
  utf8 : IsUtf8 sql

free_0 : IsFree (first_tables 0) (create_at 0) (record it.version_table { tree = 0 })
unfolding understood everything encode fits_kind is_free_name same_name begins value_cmp is_nan lt
free_0 = record {
  defined = refl;
  free = refl;
  autos = refl;
  text = (codes "version", (refl, refl));
  unreserved = refl;
  few = omega (arith);
  reals = omega (arith);
  keys = refl;
  formed = refl;
  fit = refl;
  short = omega (arith);
  utf8 = (create_at 0, (refl, refl));
}

free_1 : IsFree (first_tables 1) (create_at 1) (record it.link_table { tree = 0 })
unfolding understood everything encode fits_kind is_free_name same_name begins value_cmp is_nan lt
free_1 = record {
  defined = refl;
  free = refl;
  autos = refl;
  text = (codes "link", (refl, refl));
  unreserved = refl;
  few = omega (arith);
  reals = omega (arith);
  keys = refl;
  formed = refl;
  fit = refl;
  short = omega (arith);
  utf8 = (create_at 1, (refl, refl));
}

free_2 : IsFree (first_tables 2) (create_at 2) (record it.class_table { tree = 0 })
unfolding understood everything encode fits_kind is_free_name same_name begins value_cmp is_nan lt
free_2 = record {
  defined = refl;
  free = refl;
  autos = refl;
  text = (codes "class", (refl, refl));
  unreserved = refl;
  few = omega (arith);
  reals = omega (arith);
  keys = refl;
  formed = refl;
  fit = refl;
  short = omega (arith);
  utf8 = (create_at 2, (refl, refl));
}

free_3 : IsFree (first_tables 3) (create_at 3) (record it.asset_table { tree = 0 })
unfolding understood everything encode fits_kind is_free_name same_name begins value_cmp is_nan lt
free_3 = record {
  defined = refl;
  free = refl;
  autos = refl;
  text = (codes "asset", (refl, refl));
  unreserved = refl;
  few = omega (arith);
  reals = omega (arith);
  keys = refl;
  formed = refl;
  fit = refl;
  short = omega (arith);
  utf8 = (create_at 3, (refl, refl));
}

free_4 : IsFree (first_tables 4) (create_at 4) (record it.piece_table { tree = 0 })
unfolding understood everything encode fits_kind is_free_name same_name begins value_cmp is_nan lt
free_4 = record {
  defined = refl;
  free = refl;
  autos = refl;
  text = (codes "piece", (refl, refl));
  unreserved = refl;
  few = omega (arith);
  reals = omega (arith);
  keys = refl;
  formed = refl;
  fit = refl;
  short = omega (arith);
  utf8 = (create_at 4, (refl, refl));
}

free_5 : IsFree (first_tables 5) (create_at 5) (record it.mark_table { tree = 0 })
unfolding understood everything encode fits_kind is_free_name same_name begins value_cmp is_nan lt
free_5 = record {
  defined = refl;
  free = refl;
  autos = refl;
  text = (codes "mark", (refl, refl));
  unreserved = refl;
  few = omega (arith);
  reals = omega (arith);
  keys = refl;
  formed = refl;
  fit = refl;
  short = omega (arith);
  utf8 = (create_at 5, (refl, refl));
}

free_6 : IsFree (first_tables 6) (create_at 6) (record it.ref_table { tree = 0 })
unfolding understood everything encode fits_kind is_free_name same_name begins value_cmp is_nan lt
free_6 = record {
  defined = refl;
  free = refl;
  autos = refl;
  text = (codes "ref", (refl, refl));
  unreserved = refl;
  few = omega (arith);
  reals = omega (arith);
  keys = refl;
  formed = refl;
  fit = refl;
  short = omega (arith);
  utf8 = (create_at 6, (refl, refl));
}

free_7 : IsFree (first_tables 7) (create_at 7) (record it.span_table { tree = 0 })
unfolding understood everything encode fits_kind is_free_name same_name begins value_cmp is_nan lt
free_7 = record {
  defined = refl;
  free = refl;
  autos = refl;
  text = (codes "span", (refl, refl));
  unreserved = refl;
  few = omega (arith);
  reals = omega (arith);
  keys = refl;
  formed = refl;
  fit = refl;
  short = omega (arith);
  utf8 = (create_at 7, (refl, refl));
}

free_8 : IsFree (first_tables 8) (create_at 8) (record it.entered_table { tree = 0 })
unfolding understood everything encode fits_kind is_free_name same_name begins value_cmp is_nan lt
free_8 = record {
  defined = refl;
  free = refl;
  autos = refl;
  text = (codes "entered", (refl, refl));
  unreserved = refl;
  few = omega (arith);
  reals = omega (arith);
  keys = refl;
  formed = refl;
  fit = refl;
  short = omega (arith);
  utf8 = (create_at 8, (refl, refl));
}

free_9 : IsFree (first_tables 9) (create_at 9) (record it.gone_table { tree = 0 })
unfolding understood everything encode fits_kind is_free_name same_name begins value_cmp is_nan lt
free_9 = record {
  defined = refl;
  free = refl;
  autos = refl;
  text = (codes "gone", (refl, refl));
  unreserved = refl;
  few = omega (arith);
  reals = omega (arith);
  keys = refl;
  formed = refl;
  fit = refl;
  short = omega (arith);
  utf8 = (create_at 9, (refl, refl));
}

free_10 : IsFree (first_tables 10) (create_at 10) (record it.edit_table { tree = 0 })
unfolding understood everything encode fits_kind is_free_name same_name begins value_cmp is_nan lt
free_10 = record {
  defined = refl;
  free = refl;
  autos = refl;
  text = (codes "edit", (refl, refl));
  unreserved = refl;
  few = omega (arith);
  reals = omega (arith);
  keys = refl;
  formed = refl;
  fit = refl;
  short = omega (arith);
  utf8 = (create_at 10, (refl, refl));
}

free_11 : IsFree (first_tables 11) (create_at 11) (record it.origin_table { tree = 0 })
unfolding understood everything encode fits_kind is_free_name same_name begins value_cmp is_nan lt
free_11 = record {
  defined = refl;
  free = refl;
  autos = refl;
  text = (codes "origin", (refl, refl));
  unreserved = refl;
  few = omega (arith);
  reals = omega (arith);
  keys = refl;
  formed = refl;
  fit = refl;
  short = omega (arith);
  utf8 = (create_at 11, (refl, refl));
}

flipped : (b : Bool) → not b ≡ true → b ≡ true → false ≡ true
flipped true h used = h
flipped false h used = used

-- such a table is not refused
module _ (schema : Schema) (sql : List ℕ) (t : Table) (it : IsFree schema sql t) where
  as_defined : (x : Table) → table_defined_by sql ≡ Ok x → x ≡ t
  as_defined x is = same (sym is ∙ it.defined)
    where
      same : {E : Type 0} {a b : Table} → ◌≡◌ {A = Result Table E} (Ok a) (Ok b) → a ≡ b
      same e = cc

  unused : (x : Table) → x ≡ t → is_used schema x.name ≡ true → ⊥
  unused x is used = false≢true (sym it.free ∙ sym (ap (λ (y : Table). is_used schema y.name) is) ∙ used)

  unrefused_table : (reason : Refusal) → RefusesTable schema sql reason → ⊥
  unrefused_table (why.Invalid e) h = absurd (let both = sym it.defined ∙ h in cc)
  unrefused_table why.NameTaken (x, is, inl used) = unused x (as_defined x is) used
  unrefused_table why.NameTaken (x, is, inr (i, has, used)) =
      let own = subst (λ (y : Table). Has (automatics y 0 0 y.uniques) i) (as_defined x is) has in
      false≢true (flipped (is_used schema i.name) (test_has (λ (j : Index). not (is_used schema j.name)) (automatics t 0 0 t.uniques) i it.autos own) used)
  unrefused_table why.BadName (x, is, inl broken) = broken (subst (λ (y : Table). IsUtf8 y.name) (sym (as_defined x is)) it.text)
  unrefused_table why.BadName (x, is, inr (reserved, own)) = false≢true (sym it.unreserved ∙ sym (ap (λ (y : Table). is_reserved y.name) (as_defined x is)) ∙ reserved)
  unrefused_table why.TooBig (x, is, inl many) =
      let count = subst (λ (y : Table). 65536 ≤ next_tree schema + length y.uniques) (as_defined x is) many in absurd (omega (arith, count, it.few))
  unrefused_table why.TooBig (x, is, inr (inl wide)) =
      let bits = subst (λ (y : Table). 2 ^ 64 ≤ table_reals y) (as_defined x is) wide in absurd (omega (arith, bits, it.reals))
  unrefused_table why.TooBig (x, is, inr (inr (key, has, wide))) =
      let own = subst (λ (y : Table). Has y.uniques key × (2 ^ 64 ≤ index_reals (table_reals y) key)) (as_defined x is) (has, wide) in
      let less = ltb-true (index_reals (table_reals t) key) (2 ^ 64) (test_has (λ k. nat_lt (index_reals (table_reals t) k) (2 ^ 64)) t.uniques key it.keys own.0) in
      absurd (omega (arith, less, own.1))
  unrefused_table why.BadKey (x, is, unformed) = false≢true (sym (ap is_formed (sym (as_defined x is)) ∙ unformed) ∙ it.formed)
  unrefused_table why.BadText (x, is, unfit) = false≢true (sym (ap (λ (y : Table). is_fit (Text (codes "table")) (Text y.name) (Text y.name) (Text sql)) (sym (as_defined x is)) ∙ unfit) ∙ it.fit)
  unrefused_table (why.Violates rule) h = h

  not_long : IsLongTable sql → ⊥
  not_long (x, is, long) = let size = subst (λ (y : Table). 10 ^ 9 ≤ 2 * length y.name + length sql + 200) (as_defined x is) long in absurd (omega (arith, size, it.short))

well_placed : (s : State) (e : Error) → IsMisplaced s CreateTable e → ⊥
well_placed s e (inl (so, inl (is, within))) = absurd cc
well_placed s e (inl (so, inr (inl is, out))) = absurd cc
well_placed s e (inl (so, inr (inr is, out))) = absurd cc
well_placed s e (inr (so, name, inl is, none)) = absurd cc
well_placed s e (inr (so, name, inr is, none)) = absurd cc

shows_nothing : (c : Compiled) → c.command ≡ CreateTable → c.returning ≡ None → shows_rows false c ≡ false
shows_nothing c a b = rw (a, b)

-- ---- the statement

-- the text is one statement without parameters, and it makes a table
pub record IsPlainCreate (schema next : Schema) (sql : List ℕ) : Type 0 where
  is : (command_of (understood schema sql) ≡ CreateTable) × (IsPlain (understood schema sql) × (statement_of sql (understood schema sql) ≡ sql))
  alone : IsAlone sql (understood schema sql)
  none : lacks_sequence next ≡ false

module _ (schema next : Schema) (sql : List ℕ) (t : Table) (free : IsFree schema sql t) (it : IsPlainCreate schema next sql) (makes : created schema t ≡ next) where
  no_statement : (old : State) (e : Error) → old.now.schema ≡ schema → IsNoStatement old sql [] e → ⊥
  no_statement old e has (inl (fault, bad, so)) = subst (IsAlone sql) (sym (ap (λ s. understood s sql) has) ∙ bad) it.alone
  no_statement old e has (inr (c, good, inl (more, so))) = more (subst (IsAlone sql) (sym (ap (λ s. understood s sql) has) ∙ good) it.alone).0
  no_statement old e has (inr (c, good, inr (inl (given, so)))) = given (sym (ap length (subst (IsAlone sql) (sym (ap (λ s. understood s sql) has) ∙ good) it.alone).1))
  no_statement old e has (inr (c, good, inr (inr (clock, so)))) = clock (subst IsPlain (sym (ap (λ s. understood s sql) has) ∙ good) it.is.1.0).1

  -- the parts that make a table refuse nothing
  unmade : (db : Database) (stop : Option Error) → db.schema ≡ schema → MakesTable sql db (Err stop) → ⊥
  unmade db None has h = not_long schema sql t free h
  unmade db (Some e) has (inl (text, so)) = text free.utf8
  unmade db (Some e) has (inr (reason, refused, so)) = unrefused_table schema sql t free reason (subst (λ s. RefusesTable s sql reason) has refused)

  made_next : (db mid : Database) → db.schema ≡ schema → MakesTable sql db (Ok mid) → lacks_sequence mid.schema ≡ false
  made_next db mid has h =
      let table : h.table ≡ t = as_defined schema sql t free h.table h.defined in
      ap lacks_sequence (h.is ∙ ap (λ x. created db.schema x) table ∙ ap (λ s. created s t) has ∙ makes) ∙ it.none

  undefined : (mode : Mode) (db : Database) (stop : Option Error) → db.schema ≡ schema → Defines mode (Then (MakesTable sql db) MakesSequence) (Err stop) → ⊥
  undefined mode db stop has (inl (first, inl (second, stopped, same2), same)) = unmade db second has stopped
  undefined mode db stop has (inl (first, inr (mid, made, after), same)) = let plainly = rw (made_next db mid has made) at after in absurd cc
  undefined mode db stop has (inr (after, made, gives)) = absurd cc

  runs_for : (old new : State) (e : Error) (c : Compiled) (mode : Mode) (params : Row) → old.now.schema ≡ schema
      → RanFor old new c mode params e None CreateTable sql → HasReason old new e
  runs_for old new e c mode params has (inl (inl misplaced, same)) = absurd (well_placed old e misplaced)
  runs_for old new e c mode params has (inl (inr (may, refused), same)) = absurd (undefined mode old.now (Some e) has refused)
  runs_for old new e c mode params has (inr failed) = fails_limited old new e (Does old.step_limit mode params old.now sql None CreateTable (Err None)) (λ big. absurd (undefined mode old.now None has big)) failed

  executes_for : (old new : State) (e : Error) → old.now.schema ≡ schema → ExecutesIn false sql [] old new (Err e) → HasReason old new e
  unfolding ExecutesIn IsNotRun
  executes_for old new e has (inl (inl h)) = absurd (no_statement old e has h.0)
  executes_for old new e has (inl (inr h)) = fails_for old new e h
  executes_for old new e has (inr h) =
      let known = sym h.1.is ∙ ap (λ s. understood s sql) has in
      let bare = subst IsPlain (sym known) it.is.1.0 in
      let command : h.0.command ≡ CreateTable = ap command_of known ∙ it.is.0 in
      let ran = rw (shows_nothing h.0 command bare.0) at h.2 in
      let text : text_of sql h.0 ≡ sql = ap (statement_of sql) known ∙ it.is.1.1 in
      let params = timed [] h.0.formats h.1.now in
      runs_for old new e h.0 (mode_of old) params has (subst (λ t. RanFor old new h.0 (mode_of old) params e None CreateTable t) text
      (subst (λ k. RanFor old new h.0 (mode_of old) params e None k (text_of sql h.0)) command (subst (λ r. RanFor old new h.0 (mode_of old) params e r h.0.command (text_of sql h.0)) bare.0 ran)))

  stays_inside : (old : State) → old.now.schema ≡ schema → EndsScope 0 sql [] old → ⊥
  unfolding EndsScope
  stays_inside old has (c, of, escapes) =
      let known = sym of.is ∙ ap (λ s. understood s sql) has in
      ends (subst (Escapes 0 old) (ap command_of known ∙ it.is.0) escapes)
    where
      ends : Escapes 0 old CreateTable → ⊥
      ends (inl (inl is)) = absurd cc
      ends (inl (inr is)) = absurd cc
      ends (inr (name, inl is, held)) = absurd cc
      ends (inr (name, inr is, held)) = absurd cc

  pub create_fails : (old new : State) (e : Error) → (IsTrue old.is_open → old.now.schema ≡ schema) → ExecutesInside 0 sql [] old new (Err e) → HasReason old new e
  create_fails old new e has h = elim (cases_Bool old.is_open) [
    | inl opened ↦ elim h [
      | inl ran ↦ executes_for old new e (has opened) ran.0
      | inr ended ↦ absurd (stays_inside old (has opened) ended.0)
    ]
    | inr shut ↦ inr (inr (inl shut))
  ]

-- ---- the statements of an inventory

plain_0 : IsPlainCreate (first_tables 0) (first_tables 1) (create_at 0)
unfolding understood everything
plain_0 = record { is = (refl, ((refl, refl), refl)); alone = (omega (arith), refl); none = refl }

plain_1 : IsPlainCreate (first_tables 1) (first_tables 2) (create_at 1)
unfolding understood everything
plain_1 = record { is = (refl, ((refl, refl), refl)); alone = (omega (arith), refl); none = refl }

plain_2 : IsPlainCreate (first_tables 2) (first_tables 3) (create_at 2)
unfolding understood everything
plain_2 = record { is = (refl, ((refl, refl), refl)); alone = (omega (arith), refl); none = refl }

plain_3 : IsPlainCreate (first_tables 3) (first_tables 4) (create_at 3)
unfolding understood everything
plain_3 = record { is = (refl, ((refl, refl), refl)); alone = (omega (arith), refl); none = refl }

plain_4 : IsPlainCreate (first_tables 4) (first_tables 5) (create_at 4)
unfolding understood everything
plain_4 = record { is = (refl, ((refl, refl), refl)); alone = (omega (arith), refl); none = refl }

plain_5 : IsPlainCreate (first_tables 5) (first_tables 6) (create_at 5)
unfolding understood everything
plain_5 = record { is = (refl, ((refl, refl), refl)); alone = (omega (arith), refl); none = refl }

plain_6 : IsPlainCreate (first_tables 6) (first_tables 7) (create_at 6)
unfolding understood everything
plain_6 = record { is = (refl, ((refl, refl), refl)); alone = (omega (arith), refl); none = refl }

plain_7 : IsPlainCreate (first_tables 7) (first_tables 8) (create_at 7)
unfolding understood everything
plain_7 = record { is = (refl, ((refl, refl), refl)); alone = (omega (arith), refl); none = refl }

plain_8 : IsPlainCreate (first_tables 8) (first_tables 9) (create_at 8)
unfolding understood everything
plain_8 = record { is = (refl, ((refl, refl), refl)); alone = (omega (arith), refl); none = refl }

plain_9 : IsPlainCreate (first_tables 9) (first_tables 10) (create_at 9)
unfolding understood everything
plain_9 = record { is = (refl, ((refl, refl), refl)); alone = (omega (arith), refl); none = refl }

plain_10 : IsPlainCreate (first_tables 10) (first_tables 11) (create_at 10)
unfolding understood everything
plain_10 = record { is = (refl, ((refl, refl), refl)); alone = (omega (arith), refl); none = refl }

plain_11 : IsPlainCreate (first_tables 11) (first_tables 12) (create_at 11)
unfolding understood everything
plain_11 = record { is = (refl, ((refl, refl), refl)); alone = (omega (arith), refl); none = refl }

-- the text at a place makes the next of the tables, and is not refused
abbrev IsAnswered : ℕ → Type 0
IsAnswered k =
    (t : Table) × IsFree (first_tables k) (create_at k) t × IsPlainCreate (first_tables k) (first_tables (k + 1)) (create_at k) × (created (first_tables k) t ≡ first_tables (k + 1))

all_answered : AllFrom IsAnswered 0 12
all_answered = ((_, free_0, plain_0, refl), ((_, free_1, plain_1, refl), ((_, free_2, plain_2, refl), ((_, free_3, plain_3, refl), ((_, free_4, plain_4, refl), ((_, free_5, plain_5, refl), ((_, free_6, plain_6, refl), ((_, free_7, plain_7, refl), ((_, free_8, plain_8, refl), ((_, free_9, plain_9, refl), ((_, free_10, plain_10, refl), ((_, free_11, plain_11, refl), tt))))))))))))

-- why the table at a place is not made, where those before it are
pub create_answers : (k : ℕ) → k < 12 → (old new : State) (e : Error) → (IsTrue old.is_open → old.now.schema ≡ first_tables k) → ExecutesInside 0 (create_at k) [] old new (Err e) → HasReason old new e
create_answers k low old new e has h =
    let place : 0 + k ≡ k = omega arith in
    let it = subst IsAnswered place (one_of IsAnswered 12 0 all_answered k low) in
    create_fails (first_tables k) (first_tables (k + 1)) (create_at k) it.0 it.1 it.2 it.3 old new e has h
