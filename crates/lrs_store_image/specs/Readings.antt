-- What the first rows of a store are read as, in two parts: what has names, and what lies on routes.
use Rattle.std.specs.Prelude.{List, Result, Ok, Err}
use Rattle.lrs_machine.specs.declared.image.RouteRow.{RouteRow}
use Rattle.lrs_machine.specs.declared.table.Table.{Table}
use Rattle.lrs_machine.specs.declared.table.Table.TheVariants as table
use Rattle.lrs_machine.specs.Sound.{link_before, are_links, class_before, are_classes, asset_before, are_assets, are_courses}
use Rattle.lrs_image.specs.declared.keeper.LoadFault.{LoadFault}
use Rattle.lrs_image.specs.declared.keeper.LoadFault.TheVariants as load
use Rattle.lrs_store_tables.specs.Contents.Tables.{LinkRow, ClassRow, AssetRow, PieceRow, MarkRow, RefRow, SpanRow}
use Rattle.lrs_store_tables.specs.Contents.Decoders.{each_sorted, link_of, class_of, asset_of}
use Rattle.lrs_store_tables.specs.Contents.Content.{◌>>=◌, read, courses_of, measured_of, routes_of, entries_of}
use Rattle.lrs_store_image.specs.DecodedRoutes.Marks.{are_all_measured}
use Rattle.lrs_store_image.specs.DecodedRoutes.Referents.{are_all_referred}
use Rattle.lrs_store_image.specs.DecodedRoutes.Spans.{are_sound}
use Rattle.lrs_store_image.specs.declared.route_decoder.fault.RowsFault.{RowsFault}
use Rattle.lrs_store_image.specs.declared.route_decoder.fault.RowsFault.TheVariants.{Memory, Unsound}
use Rattle.lrs_store_image.specs.declared.registers.Named.{Named}

-- the same rows, or the same fault
abbrev pub of_read : {V A : Type 0} → (V → A) → Result V RowsFault → Result A LoadFault
of_read f (Ok x) = Ok (f x)
of_read f (Err Memory) = Err load.Memory
of_read f (Err (Unsound t)) = Err (load.Unsound t)

-- links, classes and assets, or the first of their tables that is unsound
abbrev pub named_read : List LinkRow → List ClassRow → List AssetRow → Result Named Table
named_read links classes assets =
    read table.Link (each_sorted link_before link_of links) are_links >>= (λ links.
    read table.Class (each_sorted class_before class_of classes) are_classes >>= (λ classes.
    read table.Asset (each_sorted asset_before asset_of assets) (are_assets classes) >>= (λ assets.
    Ok (record { links = links; classes = classes; assets = assets }))))

-- the routes with all that lies on them, or the first of their tables that is unsound
abbrev pub entries_read : Named → List PieceRow → List MarkRow → List RefRow → List SpanRow → Result (List RouteRow) Table
entries_read n pieces marks refs spans =
    read table.Piece (courses_of pieces) (are_courses n.links) >>= (λ courses.
    read table.Mark (measured_of marks courses) are_all_measured >>= (λ measured.
    read table.Ref (routes_of refs measured) are_all_referred >>= (λ routes.
    read table.Span (entries_of n.assets spans routes) (are_sound n.links n.classes n.assets))))
