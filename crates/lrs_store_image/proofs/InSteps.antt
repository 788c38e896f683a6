-- The image of rows is read in three steps, as the definition reads it table by table.
use Rattle.std.proofs.Common.{◌≡◌, ℕ, List, Result, Ok, Err, refl, sym, ap, subst, ◌∙◌}
use Rattle.std.specs.Prelude.{◌&&◌, true}
use Rattle.lrs_machine.specs.declared.image.Image.{Image}
use Rattle.lrs_machine.specs.declared.image.RouteRow.{RouteRow}
use Rattle.lrs_machine.specs.declared.table.Table.{Table}
use Rattle.lrs_machine.specs.declared.table.Table.TheVariants as table
use Rattle.lrs_events.specs.declared.part.Part.{Part}
use Rattle.lrs_events.specs.declared.part.Gone.{Gone}
use Rattle.lrs_events.specs.Parts.{part_before}
use Rattle.lrs_machine.specs.Sound.{are_entered, gone_before, are_gone, are_edits, are_origins}
use Rattle.lrs_image_sound.specs.Tables.{route_spans}
use Rattle.lrs_image.specs.declared.keeper.LoadFault.{LoadFault}
use Rattle.lrs_image.specs.declared.keeper.LoadFault.TheVariants.{Unsound}
use Rattle.lrs_store_tables.specs.Contents.Tables.{Tables}
use Rattle.lrs_store_tables.specs.Contents.Decoders.{each_sorted, part_of, gone_of, origin_of}
use Rattle.lrs_store_tables.specs.Contents.Content.{◌>>=◌, read, edits_of, version_of, origin_before, has_origins, inventory_of, image_of}
use Rattle.lrs_store_image.specs.TableReadings.{Reads}
use Rattle.lrs_store_image.specs.declared.registers.Named.{Named}
use Rattle.lrs_store_image.specs.declared.steps.Registers.{Registers}
use Rattle.lrs_store_image.specs.Readings.{named_read, entries_read}
use Rattle.lrs_store_image.specs.Steps.{LedgerTables, EditTables, image_of_registers, image_of_ledgers}
use Rattle.lrs_store_image.proofs.Chained.{in_parts}
use Rattle.lrs_store_image.proofs.InParts.{with_routes, with_ledgers, inventory_in_parts}

module _ (t : Tables) where
  -- an image, if the origins are its own
  abbrev with_own : ℕ → Image → Result Image Table
  with_own v image = read table.Origin (each_sorted origin_before origin_of t.origin) (λ os. are_origins image.entered image.assets && has_origins v image.assets os) >>= (λ os. Ok image)

  -- the image, once the version is read
  abbrev of_version : ℕ → Result Image Table
  of_version v = inventory_of t >>= with_own v

  pub no_version : (u : Table) → read table.Version (version_of t.version) (λ v. true) ≡ Err u → image_of t ≡ Err u
  no_version u h = ap (λ x. x >>= of_version) h

  module _ (v : ℕ) (is : read table.Version (version_of t.version) (λ v. true) ≡ Ok v) where
    after_version : image_of t ≡ of_version v
    after_version = ap (λ x. x >>= of_version) is

    pub no_named : (u : Table) → named_read t.link t.class t.asset ≡ Err u → image_of t ≡ Err u
    no_named u h = after_version ∙ ap (λ x. x >>= with_own v) (sym (inventory_in_parts t v) ∙ ap (λ x. x >>= with_routes t v) h)

    module _ (named : Named) (read_named : named_read t.link t.class t.asset ≡ Ok named) where
      after_named : inventory_of t ≡ with_routes t v named
      after_named = sym (inventory_in_parts t v) ∙ ap (λ x. x >>= with_routes t v) read_named

      pub no_routes : (u : Table) → entries_read named t.piece t.mark t.ref t.span ≡ Err u → image_of t ≡ Err u
      no_routes u h = after_version ∙ ap (λ x. x >>= with_own v) (after_named ∙ ap (λ x. x >>= (λ routes. with_ledgers t (record { version = v; named = named; routes = routes }))) h)

      pub in_steps : (routes : List RouteRow) → entries_read named t.piece t.mark t.ref t.span ≡ Ok routes
          → image_of t ≡ image_of_registers (record { version = v; named = named; routes = routes }) (record { entered = t.entered; gone = t.gone }) (record { edit = t.edit; origin = t.origin })
      in_steps routes h =
          after_version ∙ ap (λ x. x >>= with_own v) (after_named ∙ ap (λ x. x >>= (λ routes. with_ledgers t (record { version = v; named = named; routes = routes }))) h)
          ∙ in_parts (read table.Entered (each_sorted part_before part_of t.entered) (are_entered named.links named.assets)) _ _ _ (λ parts.
          in_parts (read table.Gone (each_sorted gone_before gone_of t.gone) (are_gone named.links named.assets (route_spans routes) parts)) _ _ _ (λ gone.
          in_parts (read table.Edit (edits_of t.edit) (are_edits parts gone)) _ _ _ (λ edits. refl)))

module _ (p : Registers) (l : LedgerTables) (e : EditTables) where
  abbrev gone_read : List Part → Result (List Gone) Table
  gone_read parts = read table.Gone (each_sorted gone_before gone_of l.gone) (are_gone p.named.links p.named.assets (route_spans p.routes) parts)

  abbrev with_gone : List Part → List Gone → Result Image Table
  with_gone parts gone = image_of_ledgers (record { first = p; entered = parts; gone = gone }) e

  pub no_entered : (u : Table) → read table.Entered (each_sorted part_before part_of l.entered) (are_entered p.named.links p.named.assets) ≡ Err u → image_of_registers p l e ≡ Err u
  no_entered u h = ap (λ x. x >>= (λ parts. gone_read parts >>= with_gone parts)) h

  module _ (parts : List Part) (is : read table.Entered (each_sorted part_before part_of l.entered) (are_entered p.named.links p.named.assets) ≡ Ok parts) where
    after_entered : image_of_registers p l e ≡ (gone_read parts >>= with_gone parts)
    after_entered = ap (λ x. x >>= (λ parts. gone_read parts >>= with_gone parts)) is

    pub no_gone : (u : Table) → gone_read parts ≡ Err u → image_of_registers p l e ≡ Err u
    no_gone u h = after_entered ∙ ap (λ x. x >>= with_gone parts) h

    pub entered_in_steps : (gone : List Gone) → gone_read parts ≡ Ok gone → image_of_registers p l e ≡ with_gone parts gone
    entered_in_steps gone h = after_entered ∙ ap (λ x. x >>= with_gone parts) h

-- a table that is answered as unsound was read so
pub is_unsound : {A B : Type 0} (wanted : Result A Table) (given : Result A LoadFault) (answer : Result B LoadFault) (fault : LoadFault) (u : Table)
    → given ≡ Err fault → answer ≡ Err fault → answer ≡ Err (Unsound u) → Reads wanted given → wanted ≡ Err u
is_unsound wanted given answer fault u was is e h = let same : fault ≡ Unsound u = cc in subst (λ f. Reads wanted (Err f)) same (subst (Reads wanted) was h)
