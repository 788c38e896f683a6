-- Fronts of lines that are added one by one.
use Rattle.std.proofs.Common.{◌≡◌, ◌∙◌, ℕ, List, [], ◌∷◌, ◌++◌, ap, refl, append_assoc}
use Rattle.std.specs.Global.{Vec}
use Rattle.lrs_machine.specs.Lines.{Text}
use Rattle.lrs_drafts.specs.Fronts.{texts_of}

more_texts : (fronts : List (Vec ℕ)) (v : Vec ℕ) → texts_of (fronts ++ v ∷ []) ≡ texts_of fronts ++ v.items ∷ []
more_texts [] v = refl
more_texts (f ∷ fronts) v = ap (λ (ts : List Text). f.items ∷ ts) (more_texts fronts v)

-- one more
pub one_pushed : (fronts more : List (Vec ℕ)) (v : Vec ℕ) (text : Text) → more ≡ fronts ++ v ∷ [] → v.items ≡ text → texts_of more ≡ texts_of fronts ++ text ∷ []
one_pushed fronts more v text grown is =
    ap texts_of grown ∙ more_texts fronts v ∙ ap (λ (t : Text). texts_of fronts ++ t ∷ []) is

-- two more
pub two_pushed : (zero one two : List (Vec ℕ)) (x y : Text) → texts_of one ≡ texts_of zero ++ x ∷ [] → texts_of two ≡ texts_of one ++ y ∷ [] → texts_of two ≡ texts_of zero ++ x ∷ y ∷ []
two_pushed zero one two x y first second = second ∙ ap (λ (ts : List Text). ts ++ y ∷ []) first ∙ append_assoc (texts_of zero) (x ∷ []) (y ∷ [])

-- those of one thing alone
pub only_fronts : (zero one : List (Vec ℕ)) (a : List Text) → zero ≡ [] → texts_of one ≡ texts_of zero ++ a → texts_of one ≡ a
only_fronts zero one a none first = first ∙ ap (λ (fs : List (Vec ℕ)). texts_of fs ++ a) none

-- those of two things
pub both_fronts : (zero one two : List (Vec ℕ)) (a b : List Text) → zero ≡ [] → texts_of one ≡ texts_of zero ++ a → texts_of two ≡ texts_of one ++ b → texts_of two ≡ a ++ b
both_fronts zero one two a b none first second = second ∙ ap (λ (ts : List Text). ts ++ b) (only_fronts zero one a none first)
