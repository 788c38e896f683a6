-- A keeper in memory: what becomes of it where all of its changes are kept.
use Rattle.std.proofs.Common.{◌≡◌, ℕ, ◌++◌, ◌≤◌, true, List, [], ◌∷◌, length, take, drop, refl, sym, ap, subst, ◌∙◌, arith, Result, Ok, IfOk}
use Rattle.std.proofs.lemmas.Bool.{false≢true}
use Rattle.std.proofs.lemmas.List.{take_all, take-append-drop, take-append-le, length-take-le}
use Rattle.lrs_machine.specs.declared.image.Image.{Image}
use Rattle.lrs_machine.specs.declared.table.Table.{Table}
use Rattle.lrs_machine.specs.Sound.{IsSound}
use Rattle.lrs_image.specs.declared.change.Change.{Change}
use Rattle.lrs_desk.specs.declared.plain.Content.{Content}
use Rattle.lrs_desk.specs.declared.plain.Content.TheVariants.{Sound, Unsound}
use Rattle.lrs_image.specs.KeeperCalls.{is_image, HoldsSound}
use Rattle.lrs_image.specs.OpenLists.{image_of}
use Rattle.lrs_desk.specs.PlainKeeper.{content_after, IsContent, IsPlain, PlainView}
use Rattle.lrs_image.specs.ChangeLists.{apply_all, CanMakeAll, IsChangedBy}
use Rattle.lrs_image.proofs.Together.{apply_append, can_append, sound_after}

-- What is found of a sound image and changes that can be made is sound.
found_sound : (xs : List Change) (base : Content) → IsContent xs base → IfOk (content_after xs base) (λ image. IsSound image)
found_sound xs (Sound kept) is = sound_after xs (image_of kept) is.sound is.can
found_sound xs (Unsound table) is = tt

pub holds_sound : (xs : List Change) (base : Content) → IsContent xs base → HoldsSound (λ c. c ≡ content_after xs base)
holds_sound xs base is c e = subst (λ (x : Result Image Table). IfOk x (λ image. IsSound image)) (sym e) (found_sound xs base is)

module _ (kept n : ℕ) (xs : List Change) (all : n ≡ length xs) where
  whole : take n xs ≡ xs
  whole = take_all n xs (omega (arith, all))

  -- those that are kept and those that are staged
  both : take kept xs ++ drop kept xs ≡ take n xs
  both = take-append-drop kept xs ∙ sym whole

  content : (base : Content) → IsContent (take kept xs) base → ((c : Result Image Table) → c ≡ content_after (take kept xs) base → IfOk c (CanMakeAll (drop kept xs))) → IsContent (take n xs) base
  content (Sound k) is can = record {
    sound = is.sound;
    can = subst (λ (cs : List Change). CanMakeAll cs (image_of k)) both (can_append (take kept xs) (drop kept xs) (image_of k) is.can (can (content_after (take kept xs) (Sound k)) refl));
  }
  content (Unsound table) is can = tt

  changed : (base : Content) → is_image (content_after (take kept xs) base) ≡ true → IsChangedBy (λ c. c ≡ content_after (take kept xs) base) (drop kept xs) (content_after (take n xs) base)
  changed (Sound k) loaded =
      (apply_all (take kept xs) (image_of k), refl, ap (λ (cs : List Change). content_after cs (Sound k)) (sym both) ∙ ap (λ (i : Image). let c : Result Image Table = Ok i in c) (apply_append (take kept xs) (drop kept xs) (image_of k)))
  changed (Unsound table) loaded = absurd (false≢true loaded)

  loaded_with : (base : Content) → is_image (content_after (take kept xs) base) ≡ true → is_image (content_after (take n xs) base) ≡ true
  loaded_with (Sound k) loaded = refl
  loaded_with (Unsound table) loaded = loaded

  module _ (base : Content) (old : PlainView) (is : IsPlain base kept xs) (view : record { content = content_after (take kept xs) base; staged = drop kept xs } ≡ old) where
    -- All can be made, one after the other.
    pub all_kept : ((c : Result Image Table) → c ≡ old.content → IfOk c (CanMakeAll old.staged)) → IsPlain base n xs
    all_kept can = record {
      within = omega (arith, all);
      content = content base is.content (subst (λ (v : PlainView). (c : Result Image Table) → c ≡ v.content → IfOk c (CanMakeAll v.staged)) (sym view) can);
    }

    -- What is found then is what those that were staged make of what was found.
    pub all_made : is_image old.content ≡ true → (c : Result Image Table) → c ≡ content_after (take n xs) base → IsChangedBy (λ c. c ≡ old.content) old.staged c
    all_made loaded c e =
        subst (λ (v : PlainView). is_image v.content ≡ true → IsChangedBy (λ c. c ≡ v.content) v.staged c) view
        (λ l. subst (IsChangedBy (λ c. c ≡ content_after (take kept xs) base) (drop kept xs)) (sym e) (changed base l)) loaded

    -- An image is found still.
    pub still_loaded : is_image old.content ≡ true → is_image (content_after (take n xs) base) ≡ true
    still_loaded loaded = loaded_with base (subst (λ (v : PlainView). is_image v.content ≡ true) (sym view) loaded)

-- One more that is staged leaves what is found.
pub same_content : (kept : ℕ) (xs ys : List Change) (c : Change) (base : Content) → kept ≤ length xs → ys ≡ xs ++ c ∷ [] → content_after (take kept ys) base ≡ content_after (take kept xs) base
same_content kept xs ys c base within e = ap (λ (cs : List Change). content_after cs base) (ap (take kept) e ∙ take-append-le kept xs (c ∷ []) within)

-- Without those that are staged what is found is sound, as before.
pub truncated : (kept : ℕ) (xs ys : List Change) (base : Content) → kept ≤ length xs → ys ≡ take kept xs → IsContent (take kept xs) base → HoldsSound (λ c. c ≡ content_after (take kept ys) base)
truncated kept xs ys base within e is =
    holds_sound (take kept ys) base (subst (λ (zs : List Change). IsContent zs base) (sym (ap (take kept) e ∙ take_all kept (take kept xs) (omega (arith, length-take-le kept xs within)))) is)
