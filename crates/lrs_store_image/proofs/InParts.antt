-- The image of rows is read in three parts, as the definition reads it table by table.
use Rattle.std.proofs.Common.{◌≡◌, ℕ, Ok, refl}
use Rattle.std.specs.Prelude.{Result}
use Rattle.lrs_events.specs.Parts.{part_before}
use Rattle.lrs_machine.specs.declared.image.Image.{Image}
use Rattle.lrs_machine.specs.declared.table.Table.{Table}
use Rattle.lrs_machine.specs.declared.table.Table.TheVariants as table
use Rattle.lrs_machine.specs.Sound.{link_before, are_links, class_before, are_classes, asset_before, are_assets, are_courses, are_entered, gone_before, are_gone, are_edits}
use Rattle.lrs_image_sound.specs.Tables.{route_spans}
use Rattle.lrs_store_tables.specs.Contents.Tables.{Tables}
use Rattle.lrs_store_tables.specs.Contents.Decoders.{each_sorted, link_of, class_of, asset_of, part_of, gone_of}
use Rattle.lrs_store_tables.specs.Contents.Content.{◌>>=◌, read, courses_of, measured_of, routes_of, entries_of, edits_of, inventory_of}
use Rattle.lrs_store_image.specs.DecodedRoutes.Marks.{are_all_measured}
use Rattle.lrs_store_image.specs.DecodedRoutes.Referents.{are_all_referred}
use Rattle.lrs_store_image.specs.DecodedRoutes.Spans.{are_sound}
use Rattle.lrs_store_image.specs.declared.registers.Named.{Named}
use Rattle.lrs_store_image.specs.declared.steps.Registers.{Registers}
use Rattle.lrs_store_image.specs.declared.steps.Ledgers.{Ledgers}
use Rattle.lrs_store_image.specs.Readings.{named_read, entries_read}
use Rattle.lrs_store_image.specs.Steps.{whole_image}
use Rattle.lrs_store_image.proofs.Chained.{alike, in_parts}

-- the image, once both ledgers are read
abbrev pub with_edits : Tables → Ledgers → Result Image Table
with_edits t l = read table.Edit (edits_of t.edit) (are_edits l.entered l.gone) >>= (λ edits. Ok (whole_image l edits))

-- the image, once links, classes, assets and routes are read
abbrev pub with_ledgers : Tables → Registers → Result Image Table
with_ledgers t p =
    read table.Entered (each_sorted part_before part_of t.entered) (are_entered p.named.links p.named.assets) >>= (λ parts.
    read table.Gone (each_sorted gone_before gone_of t.gone) (are_gone p.named.links p.named.assets (route_spans p.routes) parts) >>= (λ gone.
    with_edits t (record { first = p; entered = parts; gone = gone })))

-- the image, once links, classes and assets are read
abbrev pub with_routes : Tables → ℕ → Named → Result Image Table
with_routes t version n = entries_read n t.piece t.mark t.ref t.span >>= (λ routes. with_ledgers t (record { version = version; named = n; routes = routes }))

pub inventory_in_parts : (t : Tables) (version : ℕ) → (named_read t.link t.class t.asset >>= with_routes t version) ≡ inventory_of t
inventory_in_parts t version =
    in_parts (read table.Link (each_sorted link_before link_of t.link) are_links) _ _ _ (λ links.
    in_parts (read table.Class (each_sorted class_before class_of t.class) are_classes) _ _ _ (λ classes.
    in_parts (read table.Asset (each_sorted asset_before asset_of t.asset) (are_assets classes)) _ _ _ (λ assets.
    in_parts (read table.Piece (courses_of t.piece) (are_courses links)) _ _ _ (λ courses.
    in_parts (read table.Mark (measured_of t.mark courses) are_all_measured) _ _ _ (λ measured.
    in_parts (read table.Ref (routes_of t.ref measured) are_all_referred) _ _ _ (λ routes.
    alike (read table.Span (entries_of assets t.span routes) (are_sound links classes assets)) _ _ (λ entries. refl)))))))
