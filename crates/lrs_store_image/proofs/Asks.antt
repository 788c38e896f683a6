-- The tests of tables ask for their orders.
use Rattle.std.proofs.Common.{◌≡◌, true, List, length}
use Rattle.std.specs.Prelude.{◌&&◌, nat_le}
use Rattle.std.specs.List.{list_all}
use Rattle.std.proofs.lemmas.Bool.{and_parts}
use Rattle.lrs_measure.specs.Lists.{each_two}
use Rattle.lrs_element.specs.declared.link.Link.{Link}
use Rattle.lrs_events.specs.declared.class.Class.{Class}
use Rattle.lrs_events.specs.declared.class.Asset.{Asset}
use Rattle.lrs_events.specs.declared.part.Part.{Part}
use Rattle.lrs_events.specs.declared.part.Gone.{Gone}
use Rattle.lrs_events.specs.Parts.{part_before}
use Rattle.lrs_measure.specs.Limits.{most_assets}
use Rattle.lrs_machine.specs.Sound.{RouteSpans, asset_before, is_asset, are_assets, are_parts, are_entered, gone_before, parts_of, are_balanced, are_gone}

pub assets_ask : (classes : List Class) (assets : List Asset) → are_assets classes assets ≡ true → each_two asset_before assets ≡ true
assets_ask classes assets h =
    let two = and_parts (each_two asset_before assets && list_all (is_asset classes) assets) (nat_le (length assets) most_assets) h in
    (and_parts (each_two asset_before assets) (list_all (is_asset classes) assets) two.0).0

pub entered_ask : (links : List Link) (assets : List Asset) (entered : List Part) → are_entered links assets entered ≡ true → each_two part_before entered ≡ true
entered_ask links assets entered h = (and_parts (each_two part_before entered) (are_parts links assets entered) h).0

pub gone_ask : (links : List Link) (assets : List Asset) (routes : List RouteSpans) (entered : List Part) (gone : List Gone) → are_gone links assets routes entered gone ≡ true → each_two gone_before gone ≡ true
gone_ask links assets routes entered gone h =
    let two = and_parts (each_two gone_before gone && are_parts links assets (parts_of gone)) (are_balanced links assets routes entered (parts_of gone)) h in
    (and_parts (each_two gone_before gone) (are_parts links assets (parts_of gone)) two.0).0
