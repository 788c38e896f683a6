-- What a statement on a plain table makes of its rows.
use Rattle.std.proofs.Common.{◌≡◌, ◌≢◌, ◌⊎◌, inl, inr, ℕ, List, [], ◌∷◌, ◌++◌, map, length, ◌/◌, slice_get, Bool, true, false, cond, not, ◌&&◌, ◌||◌, ◌==◌, Option, Some, None, Ok, Err, Result, refl, sym, ap, subst, subst₂, ◌∙◌}
use Rattle.std.proofs.lemmas.List.{map-append}
use Rattle.std.specs.List.{AllByRecursion, flat_map, filter_map}
use Rattle.std.specs.Ordering.{is_eq, match_ordering}
use Rattle.std.specs.declared.cmp.Ordering.{Ordering}
use Rattle.std.specs.List.Sorted.{IsPermutation}
use Rattle.std.proofs.lemmas.List.Sorted.{IsPermutation-refl, IsPermutation-sym, IsPermutation-cons, IsPermutation-trans, IsPermutation-map, IsPermutation-middle, IsPermutation-append_right}
use Rattle.std.specs.declared.cmp.Ordering.TheVariants.{Less, Equal, Greater}
use Rattle.sqlite_value.specs.declared.value.Value.{Value}
use Rattle.sqlite_value.specs.declared.value.Value.TheVariants.{Null, Int, Real, Text, Blob}
use Rattle.sqlite_value.specs.declared.keys.Order.{Order}
use Rattle.sqlite_value.specs.Order.{Row, column, value_cmp}
use Rattle.sqlite_sql.specs.Term.{Term}
use Rattle.sqlite_sql.specs.Ops.{unary}
use Rattle.sqlite_schema.specs.declared.schema.Kind.{Kind}
use Rattle.sqlite_schema.specs.declared.schema.Kind.TheVariants as kind
use Rattle.sqlite_schema.specs.declared.schema.Column.{Column}
use Rattle.sqlite_schema.specs.declared.schema.Table.{Table}
use Rattle.sqlite_schema.specs.declared.schema.Constraint.TheVariants.{Datatype, NotNull}
use Rattle.sqlite_schema.specs.Rules.{Keeps}
use Rattle.sqlite_schema.specs.declared.schema.Schema.{Schema}
use Rattle.sqlite_schema.specs.declared.schema.Keys.TheVariants.{Enforced}
use Rattle.sqlite_schema.specs.declared.command.Source.TheVariants.{Values}
use Rattle.sqlite_schema.specs.declared.command.Command.TheVariants.{Insert}
use Rattle.sqlite_trees.specs.Tree.{Trees, rowid, put_row}
use Rattle.sqlite_rules.specs.Cast.{cast, cast_all, cast_row}
use Rattle.sqlite_rules.specs.declared.error.Rowids.TheVariants.{Chosen}
use Rattle.sqlite_rules.specs.Edit.{edit_of, numbered, put_all, are_fresh, is_taken, taken_by}
use Rattle.sqlite_rules.specs.Action.{works, work_for, deed_for}
use Rattle.sqlite_schema.specs.declared.schema.Reference.{Reference}
use Rattle.sqlite_schema.specs.declared.schema.Action.TheVariants.{NoAction}
use Rattle.sqlite.specs.Listing.{understood}
use Rattle.sqlite.specs.Effect.{Database, value_rows}
use Rattle.sqlite.specs.Rows.{Written, Task, Inserts, Edited}
use Rattle.sqlite.specs.declared.run.Mode.{Mode}
use Rattle.sqlite.specs.Does.{Tally, Does, Concludes}
use Rattle.sqlite.specs.State.{State, mode_of, Executes}
use Rattle.sqlite.proofs.Callers.{IsPlain, command_of, statement_of, runs_as, one_step}
use Rattle.lrs_store_tables.specs.Schema.{table}
use Rattle.lrs_store_tables.specs.StoredRows.{rows_of}

-- ---- values that a strict column takes as they are

abbrev pub suits : Kind → Value → Bool
suits kind.Integer (Int n) = true
suits kind.Integer Null = true
suits kind.Text (Text t) = true
suits _ _ = false

abbrev pub all_suit : List Column → Row → Bool
all_suit [] [] = true
all_suit (c ∷ cs) (v ∷ vs) = suits c.kind v && all_suit cs vs
all_suit _ _ = false

either : (b : Bool) (x : Value) → cond b x x ≡ x
either true x = refl
either false x = refl

pub cast_suits : (k : Kind) (v : Value) → suits k v ≡ true → cast k v ≡ v
unfolding unary
cast_suits kind.Integer (Int n) h = either _ (Int n)
cast_suits kind.Integer Null h = either _ Null
cast_suits kind.Text (Text t) h = refl
cast_suits kind.Integer (Real x) h = absurd cc
cast_suits kind.Integer (Text t) h = absurd cc
cast_suits kind.Integer (Blob b) h = absurd cc
cast_suits kind.Text (Int n) h = absurd cc
cast_suits kind.Text Null h = absurd cc
cast_suits kind.Text (Real x) h = absurd cc
cast_suits kind.Text (Blob b) h = absurd cc
cast_suits kind.Real v h = absurd cc
cast_suits kind.Blob v h = absurd cc
cast_suits kind.Any v h = absurd cc

both : (a b : Bool) → (a && b) ≡ true → (a ≡ true) × (b ≡ true)
both true b h = (refl, h)
both false b h = absurd cc

flipped : (a : Bool) → not a ≡ true → a ≡ false
flipped true h = absurd cc
flipped false h = refl

-- ---- one row more

put_at : (new r : Row) (rs : List Row) (o : Ordering) → (is_eq o || is_taken rs new) ≡ false → (is_taken rs new ≡ false → IsPermutation (new ∷ rs) (put_row new rs))
    → IsPermutation (new ∷ r ∷ rs) (match_ordering o (r ∷ put_row new rs) (new ∷ rs) (new ∷ r ∷ rs))
put_at new r rs Less free more = IsPermutation-trans _ (r ∷ new ∷ rs) _ (IsPermutation-middle (new ∷ []) r rs) (IsPermutation-cons r _ _ (more free))
put_at new r rs Equal free more = absurd cc
put_at new r rs Greater free more = IsPermutation-refl _

pub put_row_permutes : (new : Row) (rows : List Row) → is_taken rows new ≡ false → IsPermutation (new ∷ rows) (put_row new rows)
put_row_permutes new [] free = IsPermutation-refl (new ∷ [])
put_row_permutes new (r ∷ rs) free = put_at new r rs (value_cmp (rowid r) (rowid new)) free (put_row_permutes new rs)

-- ---- more rows

pub put_all_permutes : (news rows : List Row) → are_fresh rows news ≡ true → IsPermutation (news ++ rows) (put_all rows news)
put_all_permutes [] rows free = IsPermutation-refl rows
put_all_permutes (r ∷ rs) rows free =
    let it = both (not (is_taken rows r)) (are_fresh (put_row r rows) rs) free in
    let first : IsPermutation (r ∷ rows) (put_row r rows) = put_row_permutes r rows (flipped (is_taken rows r) it.0) in
    IsPermutation-trans _ (rs ++ r ∷ rows) _ (IsPermutation-sym _ _ (IsPermutation-middle rs r rows))
    (IsPermutation-trans _ (rs ++ put_row r rows) _ (IsPermutation-append_right rs _ _ first) (put_all_permutes rs (put_row r rows) it.1))

-- ---- foreign keys that only refuse

flat_none : {A B : Type 0} (f : A → List B) (xs : List A) → AllByRecursion (λ x. f x ≡ []) xs → flat_map f xs ≡ []
flat_none f [] none = refl
flat_none f (x ∷ xs) none = rw (none.0, flat_none f xs none.1)

filter_none : {A B : Type 0} (f : A → Option B) (xs : List A) → AllByRecursion (λ x. f x ≡ None) xs → filter_map f xs ≡ []
filter_none f [] none = refl
filter_none f (x ∷ xs) none = rw (none.0, filter_none f xs none.1)

abbrev pub OnlyRefuses : Reference → Type 0
OnlyRefuses ref = (ref.on_delete ≡ NoAction) × (ref.on_update ≡ NoAction)

abbrev pub NeverActs : Schema → Type 0
NeverActs schema = AllByRecursion (λ (t : Table). AllByRecursion OnlyRefuses t.references) schema.tables

no_deed : (deletes : Bool) (ref : Reference) → OnlyRefuses ref → deed_for Enforced deletes ref ≡ None
no_deed true ref h = rw (h.0)
no_deed false ref h = rw (h.1)

all_map : {A : Type 0} {P Q : A → Type 0} → ((x : A) → P x → Q x) → (xs : List A) → AllByRecursion P xs → AllByRecursion Q xs
all_map f [] h = h
all_map f (x ∷ xs) h = (f x h.0, all_map f xs h.1)

module _ (schema : Schema) (n tree : ℕ) (olds news : List Row) where
  ref_none : (child : Table) (ref : Reference) → OnlyRefuses ref → work_for schema Enforced n tree olds news child ref ≡ None
  ref_none child ref h = rw (no_deed (length news == 0) ref h)

  child_none : (child : Table) → AllByRecursion OnlyRefuses child.references → filter_map (work_for schema Enforced n tree olds news child) child.references ≡ []
  child_none child refs = filter_none _ child.references (all_map (ref_none child) child.references refs)

  pub works_none : NeverActs schema → works schema Enforced n tree olds news ≡ []
  works_none never = flat_none _ schema.tables (all_map child_none schema.tables never)

-- ---- INSERT of rows of VALUES

-- the table has these rows more, and the others are as they were
pub record Adds (schema : Schema) (tree : ℕ) (news : List Row) (db next : Trees) : Type 0 where
  pub fresh : are_fresh (db tree) news ≡ true
  pub rows : next tree ≡ put_all (db tree) news
  pub others : AllByRecursion (λ (t : Table). t.tree ≢ tree → next t.tree ≡ db t.tree) schema.tables
  pub typed : Keeps Datatype schema next
  pub present : Keeps NotNull schema next

pub went : {B E R : Type 0} {b : B} {Stops : E → Type 0} → ((stop : E) × Stops stop × (Ok b ≡ Err stop)) ⊎ R → R
went (inl stopped) = absurd (let e = stopped.2 in cc)
went (inr on) = on

pub same_value : {B E : Type 0} {a b : B} → ◌≡◌ {A = Result B E} (Ok a) (Ok b) → a ≡ b
same_value e = cc

abbrev pub rows_for : Trees → Table → List Row → List Row
rows_for db t sources = numbered Chosen (db t.tree) (map (cast_row t) sources)

abbrev pub task_on : Option ℕ → Schema → Table → Row → Task
task_on limit schema t params = record { limit = limit; keys = Enforced; schema = schema; table = t; params = params }

-- what a part of a statement on rows ends as, where nothing is shown
pub concluded : (task : Task) (mode : Mode) (w : Written) (tally : Tally) (after : Database) → Concludes task mode None w (Ok (tally, after)) → after ≡ record { schema = task.schema; trees = w.trees }
concluded task mode w tally after h = ap (λ (p : Tally × Database). p.1) (same_value (went (went h).2).2)

module _ (schema : Schema) (tree : ℕ) (name : List ℕ) (key : Option ℕ) (primary : List ℕ) (uniques : List (List ℕ)) (orders : List Order) (references : List Reference) (columns : List Column) (never : NeverActs schema) where
  abbrev its : Table
  its = table name tree key primary uniques orders references columns

  edit_adds : (db next : Trees) (sources : List Row) → Edited schema Enforced db (edit_of db its [] Chosen 0 sources) (Ok next) → Adds schema tree (rows_for db its sources) db next
  edit_adds db next sources h =
      let edit = edit_of db its [] Chosen 0 sources in
      let applied = one_step schema Enforced db next edit (works_none schema 0 tree (taken_by db edit) edit.news never) h in
      record { fresh = applied.fresh; rows = applied.rows; others = applied.tables; typed = applied.fits.rules Datatype (λ e. absurd cc); present = applied.fits.rules NotNull (λ e. absurd cc) }

  rows_add : (limit : Option ℕ) (params : Row) (db : Trees) (terms : List Term) (width : ℕ) (sources : List Row) (w : Written) → value_rows (params ++ []) width (length terms / width) terms ≡ sources
      → Inserts (task_on limit schema its params) (Values terms width) db (Ok w) → Adds schema tree (rows_for db its sources) db w.trees
  rows_add limit params db terms width sources w values h =
      let given = went h in
      let counter = went given.2 in
      let written = went counter.2 in
      let ended = went written.2 in
      let rows : given.0 ≡ sources = given.1.1 ∙ values in
      let trees : w.trees ≡ written.0 = ap (λ (it : Written). it.trees) (same_value ended.2) ∙ same_value ended.1 in
      let added : Adds schema tree (rows_for db its given.0) db written.0 = edit_adds db written.0 given.0 written.1 in
      subst (Adds schema tree (rows_for db its sources) db) (sym trees) (subst (λ all. Adds schema tree (rows_for db its all) db written.0) rows added)

module _ (schema : Schema) (at tree : ℕ) (name : List ℕ) (key : Option ℕ) (primary : List ℕ) (uniques : List (List ℕ)) (orders : List Order) (references : List Reference) (columns : List Column)
    (never : NeverActs schema) (placed : slice_get schema.tables at ≡ Some (table name tree key primary uniques orders references columns)) where
  pub inserts : (sql : List ℕ) (params : Row) (terms : List Term) (width : ℕ) (sources : List Row) (old new : State) (count : ℕ) → old.now.schema ≡ schema
      → command_of (understood schema sql) ≡ Insert at (Values terms width) → IsPlain (understood schema sql) → value_rows (params ++ []) width (length terms / width) terms ≡ sources
      → Executes sql params old new (Ok count)
      → (new.now.schema ≡ schema) × Adds schema tree (rows_for old.now.trees (table name tree key primary uniques orders references columns) sources) old.now.trees new.now.trees
  inserts sql params terms width sources old new count has is plain values h =
      let db = old.now.trees in
      let command = Insert at (Values terms width) in
      let w = runs_as sql params old new schema has command is plain count h in
      let text = statement_of sql (understood schema sql) in
      let its = table name tree key primary uniques orders references columns in
      let done = went (rw placed at (subst (λ s. Does old.step_limit (mode_of old) params (record old.now { schema = s }) text None command (Ok (w.tally, new.now))) has w.changed)) in
      let now = concluded (task_on old.step_limit schema its params) (mode_of old) done.0 w.tally new.now done.2 in
      let added = rows_add schema tree name key primary uniques orders references columns never old.step_limit params db terms width sources done.0 values done.1 in
      (ap (λ (d : Database). d.schema) now, subst (Adds schema tree (rows_for db its sources) db) (sym (ap (λ (d : Database). d.trees) now)) added)

-- ---- what a plain INSERT shows

pub cast_all_suits : (cs : List Column) (vs : Row) → all_suit cs vs ≡ true → cast_all cs vs ≡ vs
cast_all_suits [] [] h = refl
cast_all_suits [] (v ∷ vs) h = absurd cc
cast_all_suits (c ∷ cs) [] h = absurd cc
cast_all_suits (c ∷ cs) (v ∷ vs) h =
    let it = both (suits c.kind v) (all_suit cs vs) h in
    rw (cast_suits c.kind v it.0, cast_all_suits cs vs it.1)

pub cast_row_suits : (t : Table) (v : Value) (vs : Row) → suits kind.Integer v ≡ true → all_suit t.columns vs ≡ true → cast_row t (v ∷ vs) ≡ v ∷ vs
cast_row_suits t v vs first rest = rw (cast_suits kind.Integer v first, cast_all_suits t.columns vs rest)

pub more_shown : (schema : Schema) (tree : ℕ) (news : List Row) (db next : Trees) (places : List ℕ) → Adds schema tree news db next
    → IsPermutation (map (λ r. map (column r) places) news ++ rows_of db tree places) (rows_of next tree places)
more_shown schema tree news db next places h =
    let shown : Row → Row = λ r. map (column r) places in
    subst₂ (λ all rows. IsPermutation all (map shown rows)) (map-append shown news (db tree)) (sym h.rows) (IsPermutation-map shown _ _ (put_all_permutes news (db tree) h.fresh))
