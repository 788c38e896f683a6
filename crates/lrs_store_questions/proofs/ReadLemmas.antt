-- What a store holds that was rolled back and then read.
use Rattle.std.proofs.Common.{◌≡◌, Bool, true, false, IsTrue, IfOk, IfErr, OnOk, IfSome, Option, None, Some, Result, Ok, Err, List, map, refl, sym, ap, subst, ◌∙◌, arith, true≢false}
use Rattle.sqlite_value.specs.Order.{Row}
use Rattle.sqlite_trees.specs.Tree.{Trees}
use Rattle.sqlite_trees.specs.View.{View, IsClean, IsRolledBack}
use Rattle.lrs_machine.specs.declared.image.Image.{Image}
use Rattle.lrs_machine.specs.declared.table.Table.{Table}
use Rattle.lrs_machine.specs.Sound.{IsSound}
use Rattle.lrs_image.specs.KeeperCalls.{HoldsSound}
use Rattle.lrs_image.specs.declared.keeper.LoadFault.{LoadFault}
use Rattle.lrs_image.specs.declared.keeper.LoadFault.TheVariants.{Memory, Store, Unsound}
use Rattle.lrs_store_tables.specs.Contents.Tables.{Tables}
use Rattle.lrs_store_tables.specs.Contents.Content.{content_of}
use Rattle.lrs_store_tables.proofs.Contents.Contents.{content_is_sound}
use Rattle.lrs_store_tables.specs.StoredRows.{stored, rows_of, version_in, link_in, class_in, asset_in, piece_in, mark_in, ref_in, span_in, entered_in, gone_in, edit_in, origin_in, entered_places, gone_places, edit_places, origin_places}
use Rattle.lrs_store_tables.specs.declared.stored_rows.NamedRows.{NamedRows}
use Rattle.lrs_store_tables.specs.declared.stored_rows.RouteRows.{RouteRows}
use Rattle.lrs_store_files.specs.SeenRows.{HasSeen, WasLookedAt, HasLedgers, HasEdits}
use Rattle.lrs_store_files.proofs.SeeingLemmas.{seen_so}
use Rattle.lrs_store_image.specs.TableReadings.{Reads}
use Rattle.lrs_store_image.specs.declared.steps.Begun.{Begun}
use Rattle.lrs_store_image.specs.declared.steps.Held.{Held}
use Rattle.lrs_store_image.specs.Steps.{LedgerTables, EditTables, edits_in, tables_with, content_of_begun, content_of_held, Begins, WithLedgers}
use Rattle.lrs_store_questions.specs.Readings.{ListInventory, HasFirst, HasContent, Says, HoldsThere, MayTell, IsTold}

-- the rows of the ledgers that a store has, and of edits and origins

abbrev ledgers_at : Trees → LedgerTables
ledgers_at db = record { entered = map entered_in (rows_of db 13 entered_places); gone = map gone_in (rows_of db 15 gone_places) }

abbrev edits_at : Trees → EditTables
edits_at db = record { edit = map edit_in (rows_of db 17 edit_places); origin = map origin_in (rows_of db 19 origin_places) }

abbrev pub ledgers_in : List Row → List Row → LedgerTables
ledgers_in entered gone = record { entered = map entered_in entered; gone = map gone_in gone }

said : (a : Result Image LoadFault) (wanted : Result Image Table) (c : Result Image Table) → Reads wanted a → Says a c → wanted ≡ c
said (Ok image) wanted c reads says = reads ∙ sym says
said (Err (Unsound t)) wanted c reads says = reads ∙ sym says
said (Err Memory) wanted c reads says = absurd says
said (Err Store) wanted c reads says = absurd says

module _ (n : NamedRows) (r : RouteRows) (db : Trees) (first : HasFirst n r db) where
  -- with them the rows that were read first are all rows
  all_rows : tables_with n r (ledgers_at db) (edits_at db) ≡ stored db
  all_rows = λ i. record {
    version = map version_in (first.named.version i);
    link = map link_in (first.named.link i);
    class = map class_in (first.named.class i);
    asset = map asset_in (first.named.asset i);
    piece = map piece_in (first.routes.piece i);
    mark = map mark_in (first.routes.mark i);
    ref = map ref_in (first.routes.referent i);
    span = map span_in (first.routes.span i);
    entered = map entered_in (rows_of db 13 entered_places);
    gone = map gone_in (rows_of db 15 gone_places);
    edit = map edit_in (rows_of db 17 edit_places);
    origin = map origin_in (rows_of db 19 origin_places);
  }

  -- what is unsound whatever the other rows are is the content
  unsound_first : (t : Table) → ((l : LedgerTables) (e : EditTables) → content_of (tables_with n r l e) ≡ Err t) → HasContent (Err t) db
  unsound_first t unsound = record { lists = first.lists; is = ap content_of (sym all_rows) ∙ unsound (ledgers_at db) (edits_at db) }

  module _ (entered gone : List Row) (ledgers : HasLedgers entered gone db) (b : Begun) (begins : (l : LedgerTables) (e : EditTables) → content_of (tables_with n r l e) ≡ content_of_begun b l e) where
    held : (e : EditTables) → content_of (tables_with n r (ledgers_at db) e) ≡ content_of_begun b (ledgers_in entered gone) e
    held e = begins (ledgers_at db) e ∙ (λ i. content_of_begun b (record { entered = map entered_in (sym ledgers.entered i); gone = map gone_in (sym ledgers.gone i) }) e)

    unsound_second : (t : Table) → ((e : EditTables) → content_of_begun b (ledgers_in entered gone) e ≡ Err t) → HasContent (Err t) db
    unsound_second t unsound = record { lists = first.lists; is = ap content_of (sym all_rows) ∙ held (edits_at db) ∙ unsound (edits_at db) }

    said_last : (edits origins : List Row) → HasEdits edits origins db → (h : Held) → ((e : EditTables) → content_of_begun b (ledgers_in entered gone) e ≡ content_of_held h e)
        → (answer : Result Image LoadFault) → Reads (content_of_held h (edits_in edits origins)) answer → (c : Result Image Table) → Says answer c → HasContent c db
    said_last edits origins has h enters answer reads c says = record {
      lists = first.lists;
      is = ap content_of (sym all_rows) ∙ held (edits_at db) ∙ enters (edits_at db)
          ∙ (λ i. content_of_held h (record { edit = map edit_in (sym has.edit i); origin = map origin_in (sym has.origin i) })) ∙ said answer (content_of_held h (edits_in edits origins)) c reads says;
    }

-- what follows from what is said holds where an image was read
pub told_ok : (answer : Result Image LoadFault) (P : Type 0) → ((c : Result Image Table) → Says answer c → P) → OnOk answer P
told_ok (Ok image) P h = h (Ok image) refl
told_ok (Err fault) P h = tt

pub on_ok : {A E P : Type 0} (r : Result A E) → P → OnOk r P
on_ok (Ok x) p = p
on_ok (Err e) p = tt

pub if_err : {A E : Type 0} (r : Result A E) (P Q : E → Type 0) → ((e : E) → P e → Q e) → IfErr r P → IfErr r Q
if_err (Ok x) P Q so p = tt
if_err (Err e) P Q so p = so e p

pub if_some : {A : Type 0} (o : Option A) (P Q : A → Type 0) → ((x : A) → P x → Q x) → IfSome o P → IfSome o Q
if_some None P Q so p = tt
if_some (Some x) P Q so p = so x p

open_there : (v : View) → (v.is_open ≡ false → IsTrue v.is_broken) → v.is_broken ≡ false → IsTrue v.is_open
open_there v shut sound = go v.is_open refl
  where
    go : (b : Bool) → v.is_open ≡ b → IsTrue v.is_open
    go true is = is
    go false is = absurd (true≢false (sym (shut is) ∙ sound))

-- an image that is read is sound
pub read_is_sound : (t : Tables) (wanted : Result Image Table) (answer : Result Image LoadFault) → content_of t ≡ wanted → Reads wanted answer → IfOk answer IsSound
read_is_sound t wanted (Ok image) is reads = content_is_sound t image (is ∙ reads)
read_is_sound t wanted (Err fault) is reads = tt

sound_content : (c : Result Image Table) (t : Tables) → content_of t ≡ c → IfOk c IsSound
sound_content (Ok image) t e = content_is_sound t image e
sound_content (Err table) t e = tt

module _ {S : Type 0} {view : S → View} {recovers : S → Trees → Type 0} where
  module _ (old mid new : S) (c : Result Image Table) (back : IsRolledBack (view old) (view mid))
      (shut : (view mid).is_open ≡ false → IsTrue (view mid).is_broken) (seen : HasSeen view recovers (HasContent c) mid new) where
    was_clean : IsClean (view new) → IsClean (view mid)
    was_clean clean = omega (arith, clean, seen.clean)

    was_open : IsClean (view new) → IsTrue (view mid).is_open
    was_open clean = open_there (view mid) shut (seen.sound clean)

    still_open : IsClean (view new) → IsTrue (view new).is_open
    still_open clean = ap (λ (v : View). v.is_open) (seen.same clean) ∙ was_open clean

    committed : IsClean (view new) → (view new).committed ≡ (view mid).trees
    committed clean = ap (λ (v : View). v.committed) (seen.same clean) ∙ ((back.kept (was_clean clean)).committed (was_open clean) ∙ sym (back.undone (was_open clean)).0)

    -- the store tells of an inventory
    pub told : IsClean (view new) → IsTold view new
    told clean = record { is_open = still_open clean; lists = subst ListInventory (sym (committed clean)) (seen.seen clean).lists }

    -- and its content is what an opening finds
    pub there : ((db : Trees) → IsTrue (view new).is_open → recovers new db → db ≡ (view new).committed) → HoldsThere view recovers c new
    there settled clean db may =
        let is : db ≡ (view mid).trees = settled db (still_open clean) may ∙ committed clean in
        subst (HasContent c) (sym is) (seen.seen clean)

    -- ... and it does find that
    pub may_tell : ((db : Trees) → IsTrue (view new).is_open → recovers new db → db ≡ (view new).committed) → (IsTrue (view new).is_open → recovers new (view new).committed) → IsClean (view new)
        → MayTell view recovers c new
    may_tell settled left clean =
        let stays = left (still_open clean) in
        (clean, ((view new).committed, stays, there settled clean (view new).committed stays))

module _ {S : Type 0} (view : S → View) (recovers : S → Trees → Type 0) where
  -- what may be found is what was said
  pub told_only : (s : S) (c d : Result Image Table) → HoldsThere view recovers d s → MayTell view recovers c s → c ≡ d
  told_only s c d there may = sym may.1.2.is ∙ (there may.0 may.1.0 may.1.1).is

  pub told_sound : (s : S) → HoldsSound (λ c. MayTell view recovers c s)
  told_sound s c may = sound_content c (stored may.1.0) may.1.2.is

  -- what may be found after a look might be found before it
  pub told_before : (old new : S) → WasLookedAt view recovers old new → (c : Result Image Table) → MayTell view recovers c new → MayTell view recovers c old
  told_before old new looked c may = (omega (arith, may.0, looked.clean), (may.1.0, looked.outcomes may.1.0 may.1.1, may.1.2))

module _ {S : Type 0} {view : S → View} {recovers : S → Trees → Type 0} {old new : S} (n : NamedRows) (r : RouteRows) where
  -- the content is said by a first step that failed
  pub said_first : (given : Result Begun LoadFault) (answer : Result Image LoadFault) (fault : LoadFault)
      → given ≡ Err fault → answer ≡ Err fault → Begins n r given → HasSeen view recovers (HasFirst n r) old new → (c : Result Image Table) → Says answer c → HasSeen view recovers (HasContent c) old new
  said_first given answer fault was is begins seen c says = by fault (subst (Begins n r) was begins) (subst (λ a. Says a c) is says)
    where
      by : (f : LoadFault) → Begins n r (Err f) → Says (Err f) c → HasSeen view recovers (HasContent c) old new
      by Memory h s = absurd s
      by Store h s = absurd h
      by (Unsound t) h s = seen_so (HasFirst n r) (HasContent c) (λ db first. subst (λ x. HasContent x db) (sym s) (unsound_first n r db first t h)) seen

  module _ (b : Begun) (begins : (l : LedgerTables) (e : EditTables) → content_of (tables_with n r l e) ≡ content_of_begun b l e) (entered gone : List Row) where
    -- by a second one
    pub said_second : (given : Result Held LoadFault) (answer : Result Image LoadFault) (fault : LoadFault)
        → given ≡ Err fault → answer ≡ Err fault → WithLedgers b (ledgers_in entered gone) given → HasSeen view recovers (λ db. HasFirst n r db × HasLedgers entered gone db) old new
        → (c : Result Image Table) → Says answer c → HasSeen view recovers (HasContent c) old new
    said_second given answer fault was is enters seen c says = by fault (subst (WithLedgers b (ledgers_in entered gone)) was enters) (subst (λ a. Says a c) is says)
      where
        by : (f : LoadFault) → WithLedgers b (ledgers_in entered gone) (Err f) → Says (Err f) c → HasSeen view recovers (HasContent c) old new
        by Memory h s = absurd s
        by Store h s = absurd h
        by (Unsound t) h s = seen_so (λ db. HasFirst n r db × HasLedgers entered gone db) (HasContent c) (λ db has. subst (λ x. HasContent x db) (sym s) (unsound_second n r db has.0 entered gone has.1 b begins t h)) seen

    -- or by the last
    pub said_third : (h : Held) → ((e : EditTables) → content_of_begun b (ledgers_in entered gone) e ≡ content_of_held h e) → (edits origins : List Row) (answer : Result Image LoadFault) → Reads (content_of_held h (edits_in edits origins)) answer
        → HasSeen view recovers (λ db. (HasFirst n r db × HasLedgers entered gone db) × HasEdits edits origins db) old new → (c : Result Image Table) → Says answer c → HasSeen view recovers (HasContent c) old new
    said_third h enters edits origins answer reads seen c says =
        seen_so (λ db. (HasFirst n r db × HasLedgers entered gone db) × HasEdits edits origins db) (HasContent c)
        (λ db has. said_last n r db has.0.0 entered gone has.0.1 b begins edits origins has.1 h enters answer reads c says) seen
