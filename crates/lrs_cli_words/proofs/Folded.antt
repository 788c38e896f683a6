-- One more step of a loop that adds the items of a list in turn.
use Rattle.std.proofs.Common.{◌≡◌, ◌∙◌, ℕ, ◌+◌, ◌<◌, List, ap, sym, fold, get_or, length, take}
use Rattle.std.proofs.lemmas.List.Sums.{fold_more}

pub one_more : {X Y : Type 0} (f : Y → X → Y) (first before after : Y) (xs : List X) (i : ℕ) (d : X) → i < length xs → before ≡ fold f first (take i xs) → after ≡ f before (get_or xs i d)
    → after ≡ fold f first (take (i + 1) xs)
one_more {X} {Y} f first before after xs i d low so_far step = step ∙ ap (λ (y : Y). f y (get_or xs i d)) so_far ∙ sym (fold_more f first xs i d low)
