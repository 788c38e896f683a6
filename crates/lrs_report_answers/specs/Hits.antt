-- Who holds a millimetre, as the rows over it tell.
use Rattle.std.specs.Prelude.{nat_eq, List, Option}
use Rattle.std.specs.List.{find}
use Rattle.std.specs.Option.{option_map}
use Rattle.lrs_events.specs.declared.class.Asset.{Asset}
use Rattle.lrs_events.specs.declared.span.Span.{Span}
use Rattle.lrs_machine.specs.declared.hit.Hit.{Hit}

-- the asset of a row, with the side of the row
abbrev pub hit_by : List Asset → Span → Option Hit
hit_by assets r = option_map (λ a. record { asset = a; side = r.side }) (find (λ a. nat_eq a.number r.asset) assets)
