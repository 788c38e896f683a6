-- The lines of a difference by their groups: those of each group stand together.
use Rattle.std.proofs.Common.{◌≡◌, ℕ, Bool, true, false, ◌⊎◌, inl, inr, List, [], ◌∷◌, ◌++◌, map, filter, take, drop, refl, sym, ap, subst, ◌∙◌, append_assoc, append-nil}
use Rattle.std.specs.Prelude.{nat_eq}
use Rattle.std.specs.List.{flat_map, prefix_len}
use Rattle.std.proofs.lemmas.List.Concat.{flat_map-append}
use Rattle.std.proofs.lemmas.List.Elements.{filter-append}
use Rattle.lrs_measure.specs.Lists.{In}
use Rattle.lrs_measure.proofs.Members.{In-append_cases, In-drop, In-take, flat_map_found, map_found}
use Rattle.lrs_measure.proofs.Filters.{filter_all, filter_none}
use Rattle.lrs_machine.specs.declared.image.Image.{Image}
use Rattle.lrs_machine.specs.Image.{state_of}
use Rattle.lrs_machine.specs.Register.{entries}
use Rattle.lrs_difference.specs.declared.line.Item.{Item}
use Rattle.lrs_difference.specs.declared.line.Item.TheVariants.{Asset}
use Rattle.lrs_difference.specs.declared.line.Line.{Line}
use Rattle.lrs_difference.specs.Difference.{added, class_item, difference, facts_in, holds_item, in_order, lacking, link_item, referent_item, referents_in, removed, route_item, stretches, stretches_on}
use Rattle.lrs_difference.specs.Items.{item_before, same_asset, same_class, same_link, same_referent, same_route}
use Rattle.lrs_difference.specs.Lines.{line_text}
use Rattle.lrs_difference.specs.Text.{difference_text, group, group_text}
use Rattle.lrs_difference.proofs.Grouped.{by_themselves}

-- all of one group
abbrev Is : ℕ → List Item → Type 0
Is k xs = (x : Item) → In x xs → group x ≡ k

-- ---- the groups of a difference

abbrev pub links_of : Image → Image → List Item
links_of a b = map link_item (lacking same_link (entries (state_of a).links) (entries (state_of b).links))

abbrev pub classes_of : Image → Image → List Item
classes_of a b = map class_item (lacking same_class (entries (state_of a).classes) (entries (state_of b).classes))

abbrev pub routes_of : Image → Image → List Item
routes_of a b = map route_item (lacking same_route (entries (state_of a).routes) (entries (state_of b).routes))

abbrev pub referents_of : Image → Image → List Item
referents_of a b = map referent_item (lacking same_referent (referents_in a) (referents_in b))

abbrev pub assets_of : Image → Image → List Item
assets_of a b = map Asset (lacking same_asset (facts_in (state_of a)) (facts_in (state_of b)))

abbrev pub stretches_of : Image → Image → List Item
stretches_of a b = stretches (state_of a) (state_of b)

mapped : {A : Type 0} (k : ℕ) (f : A → Item) (xs : List A) → ((x : A) → group (f x) ≡ k) → Is k (map f xs)
mapped k f xs h y m = let found = map_found f y xs m in ap group found.2 ∙ h found.0

are_stretches : (a b : Image) → Is 5 (stretches_of a b)
are_stretches a b y m =
    let s = state_of a in
    let t = state_of b in
    let one = flat_map_found (λ f. flat_map (stretches_on s t f) (entries s.links)) y (facts_in s) m in
    let two = flat_map_found (stretches_on s t one.0) y (entries s.links) one.2 in
    let three = map_found (holds_item one.0 two.0.0) y _ two.2 in
    ap group three.2

abbrev pub between : (Image → Image → List Item) → Image → Image → List Line
between items a b = in_order (items a b) (items b a)

regrouped : (p q r s t u : List Line) → p ++ q ++ r ++ s ++ t ++ u ≡ p ++ (q ++ (r ++ (s ++ (t ++ u))))
regrouped p q r s t u = simp append_assoc

by_groups : (a b : Image) → difference a b ≡ between links_of a b ++ (between classes_of a b ++ (between routes_of a b ++ (between referents_of a b ++ (between assets_of a b ++ between stretches_of a b))))
by_groups a b = by_themselves a b ∙ regrouped (between links_of a b) (between classes_of a b) (between routes_of a b) (between referents_of a b) (between assets_of a b) (between stretches_of a b)

-- ---- the lines of one group

line_of : (l : Line) (xs ys : List Item) → In l (in_order xs ys) → In l.item xs ⊎ In l.item ys
line_of l [] ys m = let found = map_found added l ys m in inr (subst (λ z. In z ys) (sym (ap (λ (k : Line). k.item) found.2)) found.1)
line_of l (x ∷ xs) ys m = by (In-append_cases l (map added (take n ys)) (removed x ∷ in_order xs (drop n ys)) m) (line_of l xs (drop n ys))
  where
    n : ℕ
    n = prefix_len (λ w. item_before w x) ys

    by : In l (map added (take n ys)) ⊎ In l (removed x ∷ in_order xs (drop n ys)) → (In l (in_order xs (drop n ys)) → In l.item xs ⊎ In l.item (drop n ys)) → In l.item (x ∷ xs) ⊎ In l.item ys
    by (inl t) rest = let found = map_found added l (take n ys) t in inr (In-take l.item n ys (subst (λ z. In z (take n ys)) (sym (ap (λ (k : Line). k.item) found.2)) found.1))
    by (inr (inl e)) rest = inl (inl (ap (λ (k : Line). k.item) e))
    by (inr (inr t)) rest = of (rest t)
      where
        of : In l.item xs ⊎ In l.item (drop n ys) → In l.item (x ∷ xs) ⊎ In l.item ys
        of (inl s) = inl (inr s)
        of (inr s) = inr (In-drop l.item n ys s)

abbrev is_of : ℕ → Line → Bool
is_of k l = nat_eq (group l.item) k

of_group : (j : ℕ) (xs ys : List Item) → Is j xs → Is j ys → (l : Line) → In l (in_order xs ys) → group l.item ≡ j
of_group j xs ys h g l m = by (line_of l xs ys m)
  where
    by : In l.item xs ⊎ In l.item ys → group l.item ≡ j
    by (inl n) = h l.item n
    by (inr n) = g l.item n

own : (k : ℕ) (xs ys : List Item) → Is k xs → Is k ys → nat_eq k k ≡ true → filter (is_of k) (in_order xs ys) ≡ in_order xs ys
own k xs ys h g same = filter_all (is_of k) (in_order xs ys) (λ l m. ap (λ n. nat_eq n k) (of_group k xs ys h g l m) ∙ same)

other : (k j : ℕ) (xs ys : List Item) → Is j xs → Is j ys → nat_eq j k ≡ false → filter (is_of k) (in_order xs ys) ≡ []
other k j xs ys h g unlike = filter_none (is_of k) (in_order xs ys) (λ l m. ap (λ n. nat_eq n k) (of_group j xs ys h g l m) ∙ unlike)

abbrev only : ℕ → List Line → List Line
only k ls = filter (is_of k) ls

spread : (k : ℕ) (p q r s t u : List Line) → only k (p ++ (q ++ (r ++ (s ++ (t ++ u))))) ≡ only k p ++ (only k q ++ (only k r ++ (only k s ++ (only k t ++ only k u))))
spread k p q r s t u =
    filter-append (is_of k) p _
    ∙ ap (λ ls. only k p ++ ls)
    (filter-append (is_of k) q _
    ∙ ap (λ ls. only k q ++ ls)
    (filter-append (is_of k) r _
    ∙ ap (λ ls. only k r ++ ls)
    (filter-append (is_of k) s _
    ∙ ap (λ ls. only k s ++ ls)
    (filter-append (is_of k) t u))))

in_groups : (k : ℕ) (a b : Image)
    → only k (difference a b) ≡ only k (between links_of a b) ++ (only k (between classes_of a b) ++ (only k (between routes_of a b) ++ (only k (between referents_of a b) ++ (only k (between assets_of a b) ++ only k (between stretches_of a b)))))
in_groups k a b = ap (only k) (by_groups a b) ∙ spread k (between links_of a b) (between classes_of a b) (between routes_of a b) (between referents_of a b) (between assets_of a b) (between stretches_of a b)

own_links : (a b : Image) → only 0 (between links_of a b) ≡ between links_of a b
own_links a b = own 0 (links_of a b) (links_of b a) (mapped 0 link_item _ (λ x. refl)) (mapped 0 link_item _ (λ x. refl)) refl

not_links : (k : ℕ) (a b : Image) → nat_eq 0 k ≡ false → only k (between links_of a b) ≡ []
not_links k a b h = other k 0 (links_of a b) (links_of b a) (mapped 0 link_item _ (λ x. refl)) (mapped 0 link_item _ (λ x. refl)) h

own_classes : (a b : Image) → only 1 (between classes_of a b) ≡ between classes_of a b
own_classes a b = own 1 (classes_of a b) (classes_of b a) (mapped 1 class_item _ (λ x. refl)) (mapped 1 class_item _ (λ x. refl)) refl

not_classes : (k : ℕ) (a b : Image) → nat_eq 1 k ≡ false → only k (between classes_of a b) ≡ []
not_classes k a b h = other k 1 (classes_of a b) (classes_of b a) (mapped 1 class_item _ (λ x. refl)) (mapped 1 class_item _ (λ x. refl)) h

own_routes : (a b : Image) → only 2 (between routes_of a b) ≡ between routes_of a b
own_routes a b = own 2 (routes_of a b) (routes_of b a) (mapped 2 route_item _ (λ x. refl)) (mapped 2 route_item _ (λ x. refl)) refl

not_routes : (k : ℕ) (a b : Image) → nat_eq 2 k ≡ false → only k (between routes_of a b) ≡ []
not_routes k a b h = other k 2 (routes_of a b) (routes_of b a) (mapped 2 route_item _ (λ x. refl)) (mapped 2 route_item _ (λ x. refl)) h

own_referents : (a b : Image) → only 3 (between referents_of a b) ≡ between referents_of a b
own_referents a b = own 3 (referents_of a b) (referents_of b a) (mapped 3 referent_item _ (λ x. refl)) (mapped 3 referent_item _ (λ x. refl)) refl

not_referents : (k : ℕ) (a b : Image) → nat_eq 3 k ≡ false → only k (between referents_of a b) ≡ []
not_referents k a b h = other k 3 (referents_of a b) (referents_of b a) (mapped 3 referent_item _ (λ x. refl)) (mapped 3 referent_item _ (λ x. refl)) h

own_assets : (a b : Image) → only 4 (between assets_of a b) ≡ between assets_of a b
own_assets a b = own 4 (assets_of a b) (assets_of b a) (mapped 4 Asset _ (λ x. refl)) (mapped 4 Asset _ (λ x. refl)) refl

not_assets : (k : ℕ) (a b : Image) → nat_eq 4 k ≡ false → only k (between assets_of a b) ≡ []
not_assets k a b h = other k 4 (assets_of a b) (assets_of b a) (mapped 4 Asset _ (λ x. refl)) (mapped 4 Asset _ (λ x. refl)) h

own_stretches : (a b : Image) → only 5 (between stretches_of a b) ≡ between stretches_of a b
own_stretches a b = own 5 (stretches_of a b) (stretches_of b a) (are_stretches a b) (are_stretches b a) refl

not_stretches : (k : ℕ) (a b : Image) → nat_eq 5 k ≡ false → only k (between stretches_of a b) ≡ []
not_stretches k a b h = other k 5 (stretches_of a b) (stretches_of b a) (are_stretches a b) (are_stretches b a) h

-- Each group alone.
pub the_links : (a b : Image) → only 0 (difference a b) ≡ between links_of a b
the_links a b = in_groups 0 a b ∙ (λ i. own_links a b i ++ (not_classes 0 a b refl i ++ (not_routes 0 a b refl i ++ (not_referents 0 a b refl i ++ (not_assets 0 a b refl i ++ (not_stretches 0 a b refl i)))))) ∙ append-nil (between links_of a b)

pub the_classes : (a b : Image) → only 1 (difference a b) ≡ between classes_of a b
the_classes a b = in_groups 1 a b ∙ (λ i. not_links 1 a b refl i ++ (own_classes a b i ++ (not_routes 1 a b refl i ++ (not_referents 1 a b refl i ++ (not_assets 1 a b refl i ++ (not_stretches 1 a b refl i)))))) ∙ append-nil (between classes_of a b)

pub the_routes : (a b : Image) → only 2 (difference a b) ≡ between routes_of a b
the_routes a b = in_groups 2 a b ∙ (λ i. not_links 2 a b refl i ++ (not_classes 2 a b refl i ++ (own_routes a b i ++ (not_referents 2 a b refl i ++ (not_assets 2 a b refl i ++ (not_stretches 2 a b refl i)))))) ∙ append-nil (between routes_of a b)

pub the_referents : (a b : Image) → only 3 (difference a b) ≡ between referents_of a b
the_referents a b = in_groups 3 a b ∙ (λ i. not_links 3 a b refl i ++ (not_classes 3 a b refl i ++ (not_routes 3 a b refl i ++ (own_referents a b i ++ (not_assets 3 a b refl i ++ (not_stretches 3 a b refl i)))))) ∙ append-nil (between referents_of a b)

pub the_assets : (a b : Image) → only 4 (difference a b) ≡ between assets_of a b
the_assets a b = in_groups 4 a b ∙ (λ i. not_links 4 a b refl i ++ (not_classes 4 a b refl i ++ (not_routes 4 a b refl i ++ (not_referents 4 a b refl i ++ (own_assets a b i ++ (not_stretches 4 a b refl i)))))) ∙ append-nil (between assets_of a b)

pub the_stretches : (a b : Image) → only 5 (difference a b) ≡ between stretches_of a b
the_stretches a b = in_groups 5 a b ∙ (λ i. not_links 5 a b refl i ++ (not_classes 5 a b refl i ++ (not_routes 5 a b refl i ++ (not_referents 5 a b refl i ++ (not_assets 5 a b refl i ++ (own_stretches a b i))))))

-- The text of a difference is that of its groups.
joined : (p q r s t u : List Line)
    → flat_map line_text (p ++ (q ++ (r ++ (s ++ (t ++ u))))) ≡ flat_map line_text p ++ (flat_map line_text q ++ (flat_map line_text r ++ (flat_map line_text s ++ (flat_map line_text t ++ flat_map line_text u))))
joined p q r s t u =
    flat_map-append line_text p _
    ∙ ap (λ ls. flat_map line_text p ++ ls)
    (flat_map-append line_text q _
    ∙ ap (λ ls. flat_map line_text q ++ ls)
    (flat_map-append line_text r _
    ∙ ap (λ ls. flat_map line_text r ++ ls)
    (flat_map-append line_text s _
    ∙ ap (λ ls. flat_map line_text s ++ ls)
    (flat_map-append line_text t u))))

pub whole : (a b : Image) → group_text 0 a b ++ (group_text 1 a b ++ (group_text 2 a b ++ (group_text 3 a b ++ (group_text 4 a b ++ group_text 5 a b)))) ≡ difference_text a b
whole a b =
    let text : List Line → List ℕ = flat_map line_text in
    (λ i. text (the_links a b i) ++ (text (the_classes a b i) ++ (text (the_routes a b i) ++ (text (the_referents a b i) ++ (text (the_assets a b i) ++ text (the_stretches a b i))))))
    ∙ sym (joined (between links_of a b) (between classes_of a b) (between routes_of a b) (between referents_of a b) (between assets_of a b) (between stretches_of a b))
    ∙ ap text (sym (by_groups a b))
