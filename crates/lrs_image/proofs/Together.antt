-- Several changes, one after the other: the image after some first ones of them, and that it is sound.
use Rattle.std.proofs.Common.{◌≡◌, ℕ, ◌+◌, ◌<◌, List, [], ◌∷◌, ◌++◌, length, take, drop, get_or, refl, sym, ap, subst, ◌∙◌, arith}
use Rattle.std.proofs.lemmas.List.{take_more, take-append-drop, length_push}
use Rattle.lrs_machine.specs.declared.image.Image.{Image}
use Rattle.lrs_machine.specs.Sound.{IsSound}
use Rattle.lrs_image.specs.declared.change.Change.{Change}
use Rattle.lrs_image.specs.Change.{apply, CanMake, rows_of}
use Rattle.lrs_image.specs.ChangeLists.{apply_all, CanMakeAll, rows_in}

-- the image after more changes
pub apply_append : (xs ys : List Change) (i : Image) → apply_all (xs ++ ys) i ≡ apply_all ys (apply_all xs i)
apply_append [] ys i = refl
apply_append (x ∷ xs) ys i = apply_append xs ys (apply x i)

-- the image after one more change
pub apply_more : (xs : List Change) (c : Change) (i : Image) → apply_all (xs ++ c ∷ []) i ≡ apply c (apply_all xs i)
apply_more xs c i = apply_append xs (c ∷ []) i

-- ... of a list
pub apply_next : (xs : List Change) (n : ℕ) (c : Change) (i : Image) → n < length xs → c ≡ get_or xs n c → apply_all (take (n + 1) xs) i ≡ apply c (apply_all (take n xs) i)
apply_next xs n c i within is =
    ap (λ cs. apply_all cs i) (take_more xs n c within ∙ ap (λ d. take n xs ++ d ∷ []) (sym is)) ∙ apply_more (take n xs) c i

-- The first changes can be made, and then the others of what they made.
pub can_parts : (xs ys : List Change) (i : Image) → CanMakeAll (xs ++ ys) i → CanMakeAll xs i × CanMakeAll ys (apply_all xs i)
can_parts [] ys i can = (tt, can)
can_parts (x ∷ xs) ys i can = let later = can_parts xs ys (apply x i) can.1 in ((can.0, later.0), later.1)

-- Changes can be made together where the last of them can be made of what the others made.
pub can_append : (xs ys : List Change) (i : Image) → CanMakeAll xs i → CanMakeAll ys (apply_all xs i) → CanMakeAll (xs ++ ys) i
can_append [] ys i can more = more
can_append (x ∷ xs) ys i can more = (can.0, can_append xs ys (apply x i) can.1 more)

pub can_more : (xs : List Change) (c : Change) (i : Image) → CanMakeAll xs i → CanMake c (apply_all xs i) → CanMakeAll (xs ++ c ∷ []) i
can_more xs c i can next = can_append xs (c ∷ []) i can (next, tt)

-- the first ones of some changes, and the others
pub can_split : (n : ℕ) (xs : List Change) (i : Image) → CanMakeAll xs i → CanMakeAll (take n xs) i × CanMakeAll (drop n xs) (apply_all (take n xs) i)
can_split n xs i can = can_parts (take n xs) (drop n xs) i (subst (λ cs. CanMakeAll cs i) (sym (take-append-drop n xs)) can)

pub can_first : (n : ℕ) (xs : List Change) (i : Image) → CanMakeAll xs i → CanMakeAll (take n xs) i
can_first n xs i can = (can_split n xs i can).0

-- the next one
pub can_next : (xs : List Change) (n : ℕ) (c : Change) (i : Image) → n < length xs → c ≡ get_or xs n c → CanMakeAll xs i → CanMake c (apply_all (take n xs) i)
can_next xs n c i within is can =
    let next = subst (λ cs. CanMakeAll cs i) (take_more xs n c within ∙ ap (λ d. take n xs ++ d ∷ []) (sym is)) (can_first (n + 1) xs i can) in
    (can_parts (take n xs) (c ∷ []) i next).1.0

-- Changes that can be made leave a sound image sound.
pub sound_after : (xs : List Change) (i : Image) → IsSound i → CanMakeAll xs i → IsSound (apply_all xs i)
sound_after [] i sound can = sound
sound_after (x ∷ xs) i sound can = sound_after xs (apply x i) can.0.sound can.1

-- ... and so do the first ones of them.
pub sound_first : (n : ℕ) (xs : List Change) (i : Image) → IsSound i → CanMakeAll xs i → IsSound (apply_all (take n xs) i)
sound_first n xs i sound can = sound_after (take n xs) i sound (can_first n xs i can)

-- Each change is one edit.
pub edits_after : (xs : List Change) (i : Image) → length (apply_all xs i).edits ≡ length i.edits + length xs
edits_after [] i = omega (arith)
edits_after (x ∷ xs) i = edits_after xs (apply x i) ∙ one_more x xs i
  where
    one_more : (y : Change) (ys : List Change) (j : Image) → length (apply y j).edits + length ys ≡ length j.edits + length (y ∷ ys)
    one_more y ys j = omega (arith, length_push j.edits y.edit)

-- One more change lists its rows more.
pub rows_more : (xs : List Change) (c : Change) → rows_in (xs ++ c ∷ []) ≡ rows_in xs + rows_of c.difference
rows_more [] c = omega arith
rows_more (x ∷ xs) c = let rest = rows_more xs c in omega (arith, rest)
