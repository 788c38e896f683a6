-- What a store without rows holds, and one that has some, where the ledgers are read last.
use Rattle.std.proofs.Common.{◌≡◌, true, false, cond, Bool, List, [], ◌∷◌, map, Result, Ok, Err, refl, sym, ap, subst, ◌∙◌}
use Rattle.std.specs.Prelude.{◌&&◌}
use Rattle.std.proofs.lemmas.Bool.{and_parts}
use Rattle.lrs_measure.specs.Lists.{is_nothing}
use Rattle.lrs_machine.specs.declared.image.Image.{Image}
use Rattle.lrs_machine.specs.declared.table.Table.{Table}
use Rattle.lrs_machine.specs.declared.table.Table.TheVariants as table
use Rattle.lrs_machine.specs.Image.{nothing}
use Rattle.lrs_image.specs.declared.keeper.LoadFault.{LoadFault}
use Rattle.lrs_image.specs.declared.keeper.LoadFault.TheVariants.{Memory, Store, Unsound}
use Rattle.lrs_store_tables.specs.Contents.Tables.{Tables}
use Rattle.lrs_store_tables.specs.Contents.Content.{read, version_of, image_of, has_no_rows, content_of}
use Rattle.lrs_store_tables.specs.StoredRows.{version_in, link_in, class_in, asset_in, piece_in, mark_in, ref_in, span_in}
use Rattle.lrs_store_tables.specs.declared.stored_rows.NamedRows.{NamedRows}
use Rattle.lrs_store_tables.specs.declared.stored_rows.RouteRows.{RouteRows}
use Rattle.lrs_store_image.specs.TableReadings.{Reads}
use Rattle.lrs_store_image.proofs.InSteps.{no_version}
use Rattle.lrs_store_image.specs.declared.steps.Registers.{Registers}
use Rattle.lrs_store_image.specs.declared.steps.Begun.{Begun}
use Rattle.lrs_store_image.specs.declared.steps.Begun.TheVariants as begun
use Rattle.lrs_store_image.specs.declared.steps.Ledgers.{Ledgers}
use Rattle.lrs_store_image.specs.declared.steps.Held.{Held}
use Rattle.lrs_store_image.specs.Steps.{LedgerTables, EditTables, tables_with, have_no_first, have_no_ledgers, have_no_edits, content_of_begun, image_of_registers, Begins, WithLedgers}
use Rattle.lrs_store_tables.specs.Rows.{Tells}

without_rows : (t : Tables) → has_no_rows t ≡ true → content_of t ≡ Ok nothing
unfolding content_of
without_rows t h = ap (λ b. cond b (Ok nothing) (image_of t)) h

pub with_rows : (t : Tables) → has_no_rows t ≡ false → content_of t ≡ image_of t
unfolding content_of
with_rows t h = ap (λ b. cond b (Ok nothing) (image_of t)) h

either_way : (t : Tables) (b : Bool) → has_no_rows t ≡ b → content_of t ≡ cond b (Ok nothing) (image_of t)
unfolding content_of
either_way t b h = ap (λ b. cond b (Ok nothing) (image_of t)) h

nothing_of : {A B : Type 0} (f : A → B) (xs : List A) → is_nothing (map f xs) ≡ is_nothing xs
nothing_of f [] = refl
nothing_of f (x ∷ xs) = refl

last : (some d o : Bool) → (some && d && o) ≡ (some && (d && o))
last true d o = refl
last false d o = refl

behind : (first e g d o : Bool) → (first && e && g && d && o) ≡ (first && ((e && g) && (d && o)))
behind true e g d o = last (e && g) d o
behind false e g d o = refl

in_three : (named p m r s e g d o : Bool) → (named && p && m && r && s && e && g && d && o) ≡ ((named && (p && m && r && s)) && ((e && g) && (d && o)))
in_three true p m r s e g d o = behind (p && m && r && s) e g d o
in_three false p m r s e g d o = refl

module _ (n : NamedRows) (r : RouteRows) where
  mapped : have_no_first n r ≡ ((is_nothing (map version_in n.version.items) && is_nothing (map link_in n.link.items) && is_nothing (map class_in n.class.items) && is_nothing (map asset_in n.asset.items))
      && (is_nothing (map piece_in r.piece.items) && is_nothing (map mark_in r.mark.items) && is_nothing (map ref_in r.referent.items) && is_nothing (map span_in r.span.items)))
  mapped = λ i.
      (sym (nothing_of version_in n.version.items) i && sym (nothing_of link_in n.link.items) i && sym (nothing_of class_in n.class.items) i && sym (nothing_of asset_in n.asset.items) i)
      && (sym (nothing_of piece_in r.piece.items) i && sym (nothing_of mark_in r.mark.items) i && sym (nothing_of ref_in r.referent.items) i && sym (nothing_of span_in r.span.items) i)

  has_rows : (l : LedgerTables) (e : EditTables) → has_no_rows (tables_with n r l e) ≡ (have_no_first n r && (have_no_ledgers l && have_no_edits e))
  has_rows l e =
      let t = tables_with n r l e in
      in_three (is_nothing t.version && is_nothing t.link && is_nothing t.class && is_nothing t.asset) (is_nothing t.piece) (is_nothing t.mark) (is_nothing t.ref) (is_nothing t.span)
      (is_nothing l.entered) (is_nothing l.gone) (is_nothing e.edit) (is_nothing e.origin) ∙ ap (λ b. b && (have_no_ledgers l && have_no_edits e)) (sym mapped)

  -- some row was read first
  pub some_first : have_no_first n r ≡ false → (l : LedgerTables) (e : EditTables) → content_of (tables_with n r l e) ≡ image_of (tables_with n r l e)
  some_first some l e = with_rows (tables_with n r l e) (has_rows l e ∙ ap (λ b. b && (have_no_ledgers l && have_no_edits e)) some)

  unversioned : have_no_first n r ≡ true → version_of (map version_in n.version.items) ≡ version_of []
  unversioned none =
      let named = (and_parts _ _ none).0 in
      let three = (and_parts _ _ named).0 in
      let two = (and_parts _ _ three).0 in
      by n.version.items (and_parts _ _ two).0
    where
      by : (vs : List _) → is_nothing vs ≡ true → version_of (map version_in vs) ≡ version_of []
      by [] h = refl
      by (v ∷ vs) h = absurd (cc)

  -- no row was read first
  pub none_first : have_no_first n r ≡ true → (l : LedgerTables) (e : EditTables) → content_of (tables_with n r l e) ≡ content_of_begun begun.Nothing l e
  none_first none l e =
      let t = tables_with n r l e in
      let unsound = no_version t table.Version (ap (λ v. read table.Version v (λ v. true)) (unversioned none)) in
      either_way t (have_no_ledgers l && have_no_edits e) (has_rows l e ∙ ap (λ b. b && (have_no_ledgers l && have_no_edits e)) none)
      ∙ ap (cond (have_no_ledgers l && have_no_edits e) (Ok nothing)) unsound

  -- what the first step answers where some row was read
  module _ (some : have_no_first n r ≡ false) where
    pub begins_so : (p : Registers) → ((l : LedgerTables) (e : EditTables) → image_of (tables_with n r l e) ≡ image_of_registers p l e) → Begins n r (Ok (begun.Read p))
    begins_so p image l e = some_first some l e ∙ image l e

    pub begins_not : (given : Result Registers LoadFault) (answer : Result Begun LoadFault) (fault : LoadFault) → given ≡ Err fault → answer ≡ Err fault
        → ((u : Table) → given ≡ Err (Unsound u) → (l : LedgerTables) (e : EditTables) → image_of (tables_with n r l e) ≡ Err u) → (given ≡ Err Store → ⊥) → Begins n r answer
    begins_not given answer fault was is unsound never = subst (Begins n r) (sym is) (by fault was)
      where
        by : (f : LoadFault) → given ≡ Err f → Begins n r (Err f)
        by Memory h = tt
        by Store h = never h
        by (Unsound u) h = λ l e. some_first some l e ∙ unsound u h l e

  -- a first step that failed tells what the store holds
  pub told_first : (l : LedgerTables) (e : EditTables) (given : Result Begun LoadFault) (answer : Result Image LoadFault) (fault : LoadFault) → given ≡ Err fault → answer ≡ Err fault → Begins n r given → Tells answer (tables_with n r l e)
  told_first l e given answer fault was is begins = subst (λ a. Tells a (tables_with n r l e)) (sym is) (by fault (subst (Begins n r) was begins))
    where
      by : (f : LoadFault) → Begins n r (Err f) → Tells (Err f) (tables_with n r l e)
      by Memory h = tt
      by Store h = h
      by (Unsound u) h = h l e

module _ (b : Begun) (l : LedgerTables) where
  -- a second step that failed tells what is held
  pub told_second : (t : Tables) (e : EditTables) (given : Result Held LoadFault) (answer : Result Image LoadFault) (fault : LoadFault) → content_of t ≡ content_of_begun b l e → given ≡ Err fault → answer ≡ Err fault → WithLedgers b l given → Tells answer t
  told_second t e given answer fault holds was is enters = subst (λ a. Tells a t) (sym is) (by fault (subst (WithLedgers b l) was enters))
    where
      by : (f : LoadFault) → WithLedgers b l (Err f) → Tells (Err f) t
      by Memory h = tt
      by Store h = h
      by (Unsound u) h = holds ∙ h e

-- what the second step answers that failed
pub enters_not : (p : Registers) (l : LedgerTables) (given : Result Ledgers LoadFault) (answer : Result Held LoadFault) (fault : LoadFault) → given ≡ Err fault → answer ≡ Err fault
    → ((u : Table) → given ≡ Err (Unsound u) → (e : EditTables) → image_of_registers p l e ≡ Err u) → (given ≡ Err Store → ⊥) → WithLedgers (begun.Read p) l answer
enters_not p l given answer fault was is unsound never = subst (WithLedgers (begun.Read p) l) (sym is) (by fault was)
  where
    by : (f : LoadFault) → given ≡ Err f → WithLedgers (begun.Read p) l (Err f)
    by Memory h = tt
    by Store h = never h
    by (Unsound u) h = unsound u h

-- what is read in all steps is what the store holds
pub told : (t : Tables) (wanted : Result Image Table) (r : Result Image LoadFault) → content_of t ≡ wanted → Reads wanted r → Tells r t
told t wanted (Ok image) same reads = same ∙ reads
told t wanted (Err Memory) same reads = tt
told t wanted (Err Store) same reads = reads
told t wanted (Err (Unsound table)) same reads = same ∙ reads
