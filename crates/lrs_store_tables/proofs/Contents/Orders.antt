-- The orders of the rows of each table are orders.
use Rattle.std.specs.Cmp.{IsStrictWeakOrder}
use Rattle.std.specs.Cmp.Lexicographic.{nat_list_cmp_total}
use Rattle.std.proofs.lemmas.List.Sorted.{ranks_by, IsStrictWeakOrder-by_number}
use Rattle.lrs_measure.specs.Texts.{Name, name_before}
use Rattle.lrs_element.specs.declared.link.Link.{Link}
use Rattle.lrs_position.specs.declared.route.Referent.{Referent}
use Rattle.lrs_events.specs.declared.class.Class.{Class}
use Rattle.lrs_events.specs.declared.class.Asset.{Asset}
use Rattle.lrs_events.specs.Parts.{part_key, part_before}
use Rattle.lrs_events.specs.Spans.{span_before}
use Rattle.lrs_events.specs.declared.lanes.order.RowOrder.TheVariants.{ByAsset}
use Rattle.lrs_events.proofs.LaneLists.Ranks.{row_ranks}
use Rattle.lrs_machine.specs.Sound.{link_before, class_before, asset_before, gone_key, gone_before}
use Rattle.lrs_store_tables.specs.Contents.Decoders.{Numbered, number_before, Origin}
use Rattle.lrs_store_tables.specs.Contents.Content.{referent_before, origin_before}

pub names_rank : IsStrictWeakOrder name_before
names_rank = ranks_by nat_list_cmp_total (λ (n : Name). n)

pub numbers_rank : {X : Type 0} → IsStrictWeakOrder (λ (a b : Numbered X). number_before a b)
numbers_rank {X} = IsStrictWeakOrder-by_number (λ (r : Numbered X). r.n)

pub links_rank : IsStrictWeakOrder link_before
links_rank = IsStrictWeakOrder-by_number (λ (l : Link). l.number)

pub classes_rank : IsStrictWeakOrder class_before
classes_rank = ranks_by nat_list_cmp_total (λ (c : Class). c.name)

pub assets_rank : IsStrictWeakOrder asset_before
assets_rank = IsStrictWeakOrder-by_number (λ (a : Asset). a.number)

pub referents_rank : IsStrictWeakOrder referent_before
referents_rank = ranks_by nat_list_cmp_total (λ (r : Referent). r.name)

pub spans_rank : IsStrictWeakOrder span_before
spans_rank = row_ranks ByAsset

pub parts_rank : IsStrictWeakOrder part_before
parts_rank = ranks_by nat_list_cmp_total part_key

pub gone_rank : IsStrictWeakOrder gone_before
gone_rank = ranks_by nat_list_cmp_total gone_key

pub origins_rank : IsStrictWeakOrder origin_before
origins_rank = IsStrictWeakOrder-by_number (λ (o : Origin). o.asset)
