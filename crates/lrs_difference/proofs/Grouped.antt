-- Each kind of items is told by itself.
use Rattle.std.proofs.Common.{◌≡◌, ℕ, ◌+◌, ◌<◌, ◌≤◌, Bool, true, false, cond, ◌⊎◌, inl, inr, List, [], ◌∷◌, ◌++◌, map, take, drop, append_assoc, refl, sym, ap, ◌∙◌, arith}
use Rattle.std.specs.List.{prefix_len}
use Rattle.std.proofs.lemmas.Bool.{false_from_ne_true}
use Rattle.std.proofs.lemmas.List.{drop-append-le, map-append, take-append-le}
use Rattle.std.proofs.lemmas.List.Sums.{prefix_len-le-length}
use Rattle.lrs_measure.specs.Lists.{In}
use Rattle.lrs_measure.proofs.Members.{In-append_cases, In-drop}
use Rattle.lrs_machine.specs.Image.{state_of}
use Rattle.lrs_machine.specs.Register.{entries}
use Rattle.lrs_difference.specs.declared.line.Item.{Item}
use Rattle.lrs_difference.specs.declared.line.Item.TheVariants as item
use Rattle.lrs_difference.specs.Difference.{added, class_item, difference, facts_in, in_order, lacking, link_item, referent_item, referents_in, removed, route_item, stretches}
use Rattle.lrs_difference.specs.Items.{item_before, same_asset, same_class, same_link, same_referent, same_route}
use Rattle.lrs_difference.specs.Laws.{KindsAreToldByThemselves}
use Rattle.lrs_difference.proofs.Keys.{earlier_group, group, item_one_way}
use Rattle.lrs_difference.proofs.Merged.{ahead, no_more, one_more}
use Rattle.lrs_difference.proofs.Ordered.{held_group}
use Rattle.lrs_difference.proofs.Rising.{IsBelow, IsGroup, group_of}

-- an added item that comes before the first removed one is told first
passes_one : (u : Item) (us : List Item) (y : Item) (zs : List Item) → item_before y u ≡ true → in_order (u ∷ us) (y ∷ zs) ≡ added y ∷ in_order (u ∷ us) zs
passes_one u us y zs h = ap (λ n. map added (take n (y ∷ zs)) ++ removed u ∷ in_order us (drop n (y ∷ zs))) (one_more (λ z. item_before z u) y zs h)

-- ... and so are all that come before each removed one
all_ahead : (us ys vs : List Item) → ((y u : Item) → In y ys → In u us → item_before y u ≡ true) → in_order us (ys ++ vs) ≡ map added ys ++ in_order us vs
all_ahead [] ys vs h = map-append added ys vs
all_ahead (u ∷ us) [] vs h = refl
all_ahead (u ∷ us) (y ∷ ys) vs h = passes_one u us y (ys ++ vs) (h y u (inl refl) (inl refl)) ∙ ap (λ ls. added y ∷ ls) (all_ahead (u ∷ us) ys vs (λ z w m n. h z w (inr m) n))

-- what fails does not lengthen the front
stops : (p : Item → Bool) (ys vs : List Item) → ((v : Item) → In v vs → p v ≡ false) → prefix_len p (ys ++ vs) ≡ prefix_len p ys
stops p [] [] h = refl
stops p [] (v ∷ vs) h = no_more p v vs (h v (inl refl))
stops p (y ∷ ys) vs h = ap (λ n. cond (p y) (1 + n) 0) (stops p ys vs h)

abbrev IsFrom : ℕ → List Item → Type 0
IsFrom n xs = (x : Item) → In x xs → n ≤ group x

earlier : (n : ℕ) (xs us : List Item) → IsBelow n xs → IsFrom n us → (x u : Item) → In x xs → In u us → item_before x u ≡ true
earlier n xs us h k x u m i = earlier_group x u (let low = h x m in let high = k u i in omega (arith, low, high))

-- Earlier groups are told before later ones.
parted : (n : ℕ) (xs ys us vs : List Item) → IsBelow n xs → IsBelow n ys → IsFrom n us → IsFrom n vs → in_order (xs ++ us) (ys ++ vs) ≡ in_order xs ys ++ in_order us vs
parted n [] ys us vs hx hy hu hv = all_ahead us ys vs (earlier n ys us hy hu)
parted n (x ∷ xs) ys us vs hx hy hu hv =
    let k = ahead x ys in
    let le = prefix_len-le-length (λ y. item_before y x) ys in
    ap (λ m. map added (take m (ys ++ vs)) ++ removed x ∷ in_order (xs ++ us) (drop m (ys ++ vs)))
    (stops (λ y. item_before y x) ys vs (λ v m. false_from_ne_true (item_before v x) (λ e. item_one_way v x e (earlier n (x ∷ xs) vs hx hv x v (inl refl) m))))
    ∙ (λ i. map added (take-append-le k ys vs le i) ++ removed x ∷ in_order (xs ++ us) (drop-append-le k ys vs le i))
    ∙ ap (λ ls. map added (take k ys) ++ removed x ∷ ls) (parted n xs (drop k ys) us vs (λ z m. hx z (inr m)) (λ z m. hy z (In-drop z k ys m)) hu hv)
    ∙ sym (append_assoc (map added (take k ys)) (removed x ∷ in_order xs (drop k ys)) (in_order us vs))

-- ---- groups

at_least : (n : ℕ) (xs : List Item) → IsGroup n xs → IsFrom n xs
at_least n xs h x m = let e = h x m in omega (arith, e)

first_below : (n : ℕ) (xs : List Item) → IsGroup n xs → IsBelow (n + 1) xs
first_below n xs h x m = let e = h x m in omega (arith, e)

more_below : (n : ℕ) (xs ys : List Item) → IsBelow n xs → IsGroup n ys → IsBelow (n + 1) (xs ++ ys)
more_below n xs ys h k x m = by (In-append_cases x xs ys m)
  where
    by : In x xs ⊎ In x ys → group x < n + 1
    by (inl i) = let l = h x i in omega (arith, l)
    by (inr i) = let e = k x i in omega (arith, e)

-- one more group behind those that are told by themselves
record AreTold (n : ℕ) (xs ys : List Item) : Type 0 where
  pub removed_below : IsBelow n xs
  pub added_below : IsBelow n ys

first_told : (n : ℕ) (xs ys : List Item) → IsGroup n xs → IsGroup n ys → AreTold (n + 1) xs ys
first_told n xs ys h k = record { removed_below = first_below n xs h; added_below = first_below n ys k }

next_told : (n : ℕ) (xs ys us vs : List Item) → AreTold n xs ys → IsGroup n us → IsGroup n vs → AreTold (n + 1) (xs ++ us) (ys ++ vs)
next_told n xs ys us vs t h k = record { removed_below = more_below n xs us t.removed_below h; added_below = more_below n ys vs t.added_below k }

apart : (n : ℕ) (xs ys us vs : List Item) → AreTold n xs ys → IsGroup n us → IsGroup n vs → in_order (xs ++ us) (ys ++ vs) ≡ in_order xs ys ++ in_order us vs
apart n xs ys us vs t h k = parted n xs ys us vs t.removed_below t.added_below (at_least n us h) (at_least n vs k)

-- six groups, one after another
six : (l l' c c' r r' f f' x x' h h' : List Item) → IsGroup 0 l → IsGroup 0 l' → IsGroup 1 c → IsGroup 1 c' → IsGroup 2 r → IsGroup 2 r' → IsGroup 3 f → IsGroup 3 f' → IsGroup 4 x → IsGroup 4 x' → IsGroup 5 h → IsGroup 5 h'
    → in_order (l ++ c ++ r ++ f ++ x ++ h) (l' ++ c' ++ r' ++ f' ++ x' ++ h') ≡ in_order l l' ++ in_order c c' ++ in_order r r' ++ in_order f f' ++ in_order x x' ++ in_order h h'
six l l' c c' r r' f f' x x' h h' gl gl' gc gc' gr gr' gf gf' gx gx' gh gh' =
    let one = first_told 0 l l' gl gl' in
    let two = next_told 1 l l' c c' one gc gc' in
    let three = next_told 2 (l ++ c) (l' ++ c') r r' two gr gr' in
    let four = next_told 3 (l ++ c ++ r) (l' ++ c' ++ r') f f' three gf gf' in
    let five = next_told 4 (l ++ c ++ r ++ f) (l' ++ c' ++ r' ++ f') x x' four gx gx' in
    apart 5 (l ++ c ++ r ++ f ++ x) (l' ++ c' ++ r' ++ f' ++ x') h h' five gh gh'
    ∙ ap (λ ls. ls ++ in_order h h') (apart 4 (l ++ c ++ r ++ f) (l' ++ c' ++ r' ++ f') x x' four gx gx')
    ∙ ap (λ ls. ls ++ in_order x x' ++ in_order h h') (apart 3 (l ++ c ++ r) (l' ++ c' ++ r') f f' three gf gf')
    ∙ ap (λ ls. ls ++ in_order f f' ++ in_order x x' ++ in_order h h') (apart 2 (l ++ c) (l' ++ c') r r' two gr gr')
    ∙ ap (λ ls. ls ++ in_order r r' ++ in_order f f' ++ in_order x x' ++ in_order h h') (apart 1 l l' c c' one gc gc')

pub by_themselves : KindsAreToldByThemselves
unfolding difference
by_themselves a b =
    let s = state_of a in
    let t = state_of b in
    six (map link_item (lacking same_link (entries s.links) (entries t.links))) (map link_item (lacking same_link (entries t.links) (entries s.links)))
    (map class_item (lacking same_class (entries s.classes) (entries t.classes))) (map class_item (lacking same_class (entries t.classes) (entries s.classes)))
    (map route_item (lacking same_route (entries s.routes) (entries t.routes))) (map route_item (lacking same_route (entries t.routes) (entries s.routes)))
    (map referent_item (lacking same_referent (referents_in a) (referents_in b))) (map referent_item (lacking same_referent (referents_in b) (referents_in a)))
    (map item.Asset (lacking same_asset (facts_in s) (facts_in t))) (map item.Asset (lacking same_asset (facts_in t) (facts_in s)))
    (stretches s t) (stretches t s)
    (group_of 0 link_item (lacking same_link (entries s.links) (entries t.links)) (λ p. refl)) (group_of 0 link_item (lacking same_link (entries t.links) (entries s.links)) (λ p. refl))
    (group_of 1 class_item (lacking same_class (entries s.classes) (entries t.classes)) (λ p. refl)) (group_of 1 class_item (lacking same_class (entries t.classes) (entries s.classes)) (λ p. refl))
    (group_of 2 route_item (lacking same_route (entries s.routes) (entries t.routes)) (λ p. refl)) (group_of 2 route_item (lacking same_route (entries t.routes) (entries s.routes)) (λ p. refl))
    (group_of 3 referent_item (lacking same_referent (referents_in a) (referents_in b)) (λ p. refl)) (group_of 3 referent_item (lacking same_referent (referents_in b) (referents_in a)) (λ p. refl))
    (group_of 4 item.Asset (lacking same_asset (facts_in s) (facts_in t)) (λ p. refl)) (group_of 4 item.Asset (lacking same_asset (facts_in t) (facts_in s)) (λ p. refl))
    (held_group s t) (held_group t s)
