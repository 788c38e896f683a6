-- No test of a table before `origin` reads which edit entered an asset.
use Rattle.std.proofs.Common.{◌≡◌, ◌+◌, Bool, cond, List, [], ◌∷◌, map, length, refl, sym, ap, ap₂, ◌∙◌}
use Rattle.std.specs.Prelude.{◌||◌, ◌&&◌, not, nat_eq, nat_lt, nat_le}
use Rattle.std.specs.List.{list_any, list_all, count_by}
use Rattle.std.proofs.lemmas.List.{length-map}
use Rattle.std.proofs.lemmas.List.Folds.{list_all-map}
use Rattle.std.proofs.lemmas.List.Sums.{sum_by-cons}
use Rattle.lrs_measure.specs.Lists.{each_two}
use Rattle.lrs_measure.specs.Texts.{same_name}
use Rattle.lrs_element.specs.declared.link.Link.{Link}
use Rattle.lrs_events.specs.declared.class.Class.{Class}
use Rattle.lrs_events.specs.declared.class.Asset.{Asset}
use Rattle.lrs_events.specs.declared.part.Part.{Part}
use Rattle.lrs_events.specs.declared.part.Gone.{Gone}
use Rattle.lrs_events.specs.Spans.{are_rows}
use Rattle.lrs_machine.specs.Segments.{is_exclusive}
use Rattle.lrs_measure.specs.Limits.{most_assets, most_pairs}
use Rattle.lrs_measure.proofs.Members.{list_any-map}
use Rattle.lrs_events.specs.Parts.{part_before}
use Rattle.lrs_machine.specs.Sound.{RouteSpans, asset_before, is_asset, are_assets, holds_in, places_of, are_spans, share_nothing, pairs_of, are_parts, are_entered, gone_before, parts_of, is_balanced_at, are_gone}
use Rattle.lrs_machine.proofs.Pairs.{each_two-map}
use Rattle.lrs_store_tables.specs.Contents.Content.{with_edit}

count-map : {X Y : Type 0} (p : Y → Bool) (f : X → Y) (xs : List X) → count_by p (map f xs) ≡ count_by (λ x. p (f x)) xs
count-map p f [] = refl
count-map p f (x ∷ xs) = sum_by-cons (λ y. cond (p y) 1 0) (f x) (map f xs) ∙ ap (λ n. cond (p (f x)) 1 0 + n) (count-map p f xs) ∙ sym (sum_by-cons (λ z. cond (p (f z)) 1 0) x xs)

module _ (told : List Part) where
  abbrev entry : Asset → Asset
  entry = with_edit told

  pub assets-same : (classes : List Class) (assets : List Asset) → are_assets classes (map entry assets) ≡ are_assets classes assets
  assets-same classes assets =
      ap₂ (λ b n. b && nat_le n most_assets) (ap₂ (λ b c. b && c) (each_two-map asset_before entry assets) (list_all-map (is_asset classes) entry assets)) (length-map assets entry)

  pub spans-same : (links : List Link) (classes : List Class) (assets : List Asset) (routes : List RouteSpans) → are_spans links classes (map entry assets) routes ≡ are_spans links classes assets routes
  spans-same links classes assets routes =
      ap₂ (λ (g : RouteSpans → Bool) (h : Class → Bool). list_all g routes && list_all h classes)
      (λ i s. are_rows s.rows && list_all (λ r. nat_le r.to (length s.course) && list_any-map (λ a. nat_eq a.number r.asset && same_name a.class r.class) entry assets i) s.rows)
      (λ i c. not (is_exclusive c.kind) || list_all (λ p. nat_le (count-map (λ a. same_name a.class c.name && holds_in routes a.number p) entry assets i) 1) (places_of links))

  parts-same : (links : List Link) (assets : List Asset) (parts : List Part) → are_parts links (map entry assets) parts ≡ are_parts links assets parts
  parts-same links assets parts =
      ap₂ (λ (g : Part → Bool) b. list_all g parts && each_two share_nothing parts && b)
      (λ i p. nat_lt p.from p.to && list_any (λ l. nat_eq l.number p.link && nat_le p.to l.length) links && list_any-map (λ a. nat_eq a.number p.asset) entry assets i)
      (list_all-map (λ a. nat_le (pairs_of a.number parts) most_pairs) entry assets)

  pub entered-same : (links : List Link) (assets : List Asset) (parts : List Part) → are_entered links (map entry assets) parts ≡ are_entered links assets parts
  entered-same links assets parts = ap (λ b. each_two part_before parts && b) (parts-same links assets parts)

  pub gone-same : (links : List Link) (assets : List Asset) (routes : List RouteSpans) (entered : List Part) (gone : List Gone)
      → are_gone links (map entry assets) routes entered gone ≡ are_gone links assets routes entered gone
  gone-same links assets routes entered gone =
      ap₂ (λ b c. each_two gone_before gone && b && c) (parts-same links assets (parts_of gone))
      (list_all-map (λ a. list_all (is_balanced_at routes entered (parts_of gone) a.number) (places_of links)) entry assets)
