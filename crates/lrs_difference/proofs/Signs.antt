-- The lines of one sign are the items that went in with it.
use Rattle.std.proofs.Common.{◌≡◌, List, [], ◌∷◌, ◌++◌, map, take, drop, refl, sym, ap, ◌∙◌}
use Rattle.std.specs.List.{prefix_len}
use Rattle.std.proofs.lemmas.List.{map-append, take-append-drop}
use Rattle.std.proofs.lemmas.List.Elements.{filter-append}
use Rattle.lrs_machine.specs.declared.image.Image.{Image}
use Rattle.lrs_difference.specs.declared.line.Item.{Item}
use Rattle.lrs_difference.specs.declared.line.Line.{Line}
use Rattle.lrs_difference.specs.declared.line.Sign.{Sign}
use Rattle.lrs_difference.specs.declared.line.Sign.TheVariants.{Removed, Added}
use Rattle.lrs_difference.specs.Difference.{added, difference, in_order, only_in, removed}
use Rattle.lrs_difference.specs.Items.{item_before}
use Rattle.lrs_difference.specs.Laws.{SignsAreExchanged, items_of, same_sign}

of_both : (sign : Sign) (xs ys : List Line) → items_of sign (xs ++ ys) ≡ items_of sign xs ++ items_of sign ys
of_both sign xs ys = ap (map (λ l. l.item)) (filter-append (λ l. same_sign l.sign sign) xs ys) ∙ map-append (λ l. l.item) _ _

none_removed : (xs : List Item) → items_of Removed (map added xs) ≡ []
none_removed [] = refl
none_removed (x ∷ xs) = none_removed xs

all_added : (xs : List Item) → items_of Added (map added xs) ≡ xs
all_added [] = refl
all_added (x ∷ xs) = ap (λ ys. x ∷ ys) (all_added xs)

pub removed_of : (xs ys : List Item) → items_of Removed (in_order xs ys) ≡ xs
removed_of [] ys = none_removed ys
removed_of (x ∷ xs) ys =
    let n = prefix_len (λ y. item_before y x) ys in
    of_both Removed (map added (take n ys)) (removed x ∷ in_order xs (drop n ys)) ∙ (λ i. none_removed (take n ys) i ++ x ∷ removed_of xs (drop n ys) i)

pub added_of : (xs ys : List Item) → items_of Added (in_order xs ys) ≡ ys
added_of [] ys = all_added ys
added_of (x ∷ xs) ys =
    let n = prefix_len (λ y. item_before y x) ys in
    of_both Added (map added (take n ys)) (removed x ∷ in_order xs (drop n ys)) ∙ (λ i. all_added (take n ys) i ++ added_of xs (drop n ys) i) ∙ take-append-drop n ys

pub removed_between : (a b : Image) → items_of Removed (difference a b) ≡ only_in a b
unfolding difference
removed_between a b = removed_of (only_in a b) (only_in b a)

pub added_between : (a b : Image) → items_of Added (difference a b) ≡ only_in b a
unfolding difference
added_between a b = added_of (only_in a b) (only_in b a)

pub signs_are_exchanged : SignsAreExchanged
signs_are_exchanged a b Removed = removed_between b a ∙ sym (added_between a b)
signs_are_exchanged a b Added = added_between b a ∙ sym (removed_between a b)
