-- The text of the groups that are lists of an image.
use Rattle.std.proofs.Common.{◌≡◌, ℕ, List, [], ◌∷◌, ◌++◌, map, refl, sym, ap, ◌∙◌, append_assoc, append-nil}
use Rattle.std.specs.Prelude.{nat_lt}
use Rattle.std.specs.List.{flat_map}
use Rattle.lrs_measure.specs.Texts.{Name, name_before}
use Rattle.lrs_events.specs.declared.class.Asset.{Asset as AssetValue}
use Rattle.lrs_events.specs.declared.class.Class.{Class as ClassValue}
use Rattle.lrs_events.specs.declared.class.Kind.{Kind}
use Rattle.lrs_machine.specs.declared.image.Image.{Image}
use Rattle.lrs_machine.specs.Image.{asset_entry, link_entry, route_entry, state_of}
use Rattle.lrs_machine.specs.Sound.{route_before}
use Rattle.lrs_difference.specs.declared.line.AssetFacts.{AssetFacts}
use Rattle.lrs_difference.specs.declared.line.Item.TheVariants as item
use Rattle.lrs_difference.specs.declared.referent_list.PlacedReferent.{PlacedReferent}
use Rattle.lrs_difference.specs.Placed.{entry_of, named_before}
use Rattle.lrs_difference.specs.Difference.{class_item, facts_in, facts_of, in_order, lacking, link_item, referent_item, referents_in, route_item}
use Rattle.lrs_difference.specs.Items.{same_asset, same_class, same_link, same_referent, same_route}
use Rattle.lrs_difference.specs.Merging.{IsByKey, lines_between}
use Rattle.lrs_difference.specs.Lines.{line_text}
use Rattle.lrs_difference.specs.Text.{DifferenceIsItsGroups, group_text}
use Rattle.lrs_difference.proofs.ByKey.{by_key, by_number, lines_said, names_one_way, names_onward, numbers_one_way, numbers_onward}
use Rattle.lrs_difference.proofs.Same as decided
use Rattle.lrs_difference.proofs.Sections.{the_assets, the_classes, the_links, the_referents, the_routes, whole}

abbrev pub class_entry : ClassValue → Name × Kind
class_entry c = (c.name, c.kind)

abbrev pub asset_facts : AssetValue → AssetFacts
asset_facts a = facts_of (asset_entry a)

facts_listed : (xs : List AssetValue) → map facts_of (map asset_entry xs) ≡ map asset_facts xs
facts_listed [] = refl
facts_listed (x ∷ xs) = ap (λ zs. asset_facts x ∷ zs) (facts_listed xs)

facts_of_image : (i : Image) → facts_in (state_of i) ≡ map asset_facts i.assets
unfolding state_of
facts_of_image i = facts_listed i.assets

pub links_text : (a b : Image) → flat_map line_text (lines_between (λ x y. same_link (link_entry x) (link_entry y)) (λ x. link_item (link_entry x)) a.links b.links) ≡ group_text 0 a b
unfolding state_of
links_text a b = ap (flat_map line_text) (lines_said link_entry same_link link_item a.links b.links ∙ sym (the_links a b))

pub classes_text : (a b : Image) → flat_map line_text (lines_between (λ x y. same_class (class_entry x) (class_entry y)) (λ x. class_item (class_entry x)) a.classes b.classes) ≡ group_text 1 a b
unfolding state_of
classes_text a b = ap (flat_map line_text) (lines_said class_entry same_class class_item a.classes b.classes ∙ sym (the_classes a b))

pub routes_text : (a b : Image) → flat_map line_text (lines_between (λ x y. same_route (route_entry x) (route_entry y)) (λ x. route_item (route_entry x)) a.routes b.routes) ≡ group_text 2 a b
unfolding state_of
routes_text a b = ap (flat_map line_text) (lines_said route_entry same_route route_item a.routes b.routes ∙ sym (the_routes a b))

pub assets_text : (a b : Image) → flat_map line_text (lines_between (λ x y. same_asset (asset_facts x) (asset_facts y)) (λ x. item.Asset (asset_facts x)) a.assets b.assets) ≡ group_text 4 a b
assets_text a b =
    let f = facts_of_image a in
    let g = facts_of_image b in
    ap (flat_map line_text)
    (lines_said asset_facts same_asset item.Asset a.assets b.assets
    ∙ sym (λ i. in_order (map item.Asset (lacking same_asset (f i) (g i))) (map item.Asset (lacking same_asset (g i) (f i))))
    ∙ sym (the_assets a b))

pub routes_by_key : IsByKey route_before (λ x y. same_route (route_entry x) (route_entry y)) (λ x. route_item (route_entry x))
routes_by_key = by_key route_entry (λ e. e.0) name_before names_one_way names_onward same_route decided.routes (λ x. route_item (route_entry x)) (λ a b. refl)

pub classes_by_key : IsByKey (λ x y. name_before x.name y.name) (λ x y. same_class (class_entry x) (class_entry y)) (λ x. class_item (class_entry x))
classes_by_key = by_key class_entry (λ e. e.0) name_before names_one_way names_onward same_class decided.classes (λ x. class_item (class_entry x)) (λ a b. refl)

-- all groups, one behind the other
pub all_groups : DifferenceIsItsGroups
all_groups a b =
    sym (whole a b)
    ∙ ap (λ t. group_text 0 a b ++ (group_text 1 a b ++ (group_text 2 a b ++ (group_text 3 a b ++ (group_text 4 a b ++ t))))) (sym (append-nil (group_text 5 a b)))

regrouped : (p q r s t : List ℕ) → p ++ q ++ r ++ s ++ t ≡ p ++ (q ++ (r ++ (s ++ t)))
regrouped p q r s t = simp append_assoc

pub listed_groups : (p q r s t : List ℕ) → p ++ q ++ r ++ s ++ t ≡ p ++ (q ++ (r ++ (s ++ (t ++ []))))
listed_groups p q r s t = regrouped p q r s t ∙ ap (λ u. p ++ (q ++ (r ++ (s ++ u)))) (sym (append-nil t))

pub links_by_key : IsByKey (λ x y. nat_lt x.number y.number) (λ x y. same_link (link_entry x) (link_entry y)) (λ x. link_item (link_entry x))
links_by_key = by_key link_entry (λ e. e.0) nat_lt numbers_one_way numbers_onward same_link decided.links (λ x. link_item (link_entry x)) (λ a b. by_number a.number b.number)

pub assets_by_key : IsByKey (λ x y. nat_lt x.number y.number) (λ x y. same_asset (asset_facts x) (asset_facts y)) (λ x. item.Asset (asset_facts x))
assets_by_key = by_key asset_facts (λ f. f.number) nat_lt numbers_one_way numbers_onward same_asset decided.assets (λ x. item.Asset (asset_facts x)) (λ a b. by_number a.number b.number)

pub referents_by_key : IsByKey named_before (λ x y. same_referent (entry_of x) (entry_of y)) (λ x. referent_item (entry_of x))
referents_by_key = by_key entry_of (λ e. e.0) name_before names_one_way names_onward same_referent decided.referents (λ x. referent_item (entry_of x)) (λ a b. refl)

pub referents_text : (a b : Image) (xs ys : List PlacedReferent) → map entry_of xs ≡ referents_in a → map entry_of ys ≡ referents_in b
    → flat_map line_text (lines_between (λ x y. same_referent (entry_of x) (entry_of y)) (λ x. referent_item (entry_of x)) xs ys) ≡ group_text 3 a b
referents_text a b xs ys f g =
    ap (flat_map line_text)
    (lines_said entry_of same_referent referent_item xs ys
    ∙ (λ i. in_order (map referent_item (lacking same_referent (f i) (g i))) (map referent_item (lacking same_referent (g i) (f i))))
    ∙ sym (the_referents a b))
