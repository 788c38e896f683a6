-- Words and their parts.
use Rattle.std.proofs.Common.{◌<◌, ◌≡◌, Option, Some, None, take, drop, ◌-◌, append_assoc, ℕ, suc, ◌+◌, ◌≤◌, Bool, true, false, List, [], ◌∷◌, ◌++◌, length, refl, sym, ap, ◌∙◌, arith, length-append}
use Rattle.std.specs.Prelude.{◌==◌, IsTrue, IfNone, IfSome, codes}
use Rattle.lrs_machine.specs.EnteredNumbers.{are_entered_pieces, are_entered_marks}
use Rattle.lrs_machine.specs.declared.answer.Field.{Field}
use Rattle.lrs_sheet_records.proofs.Said.{pieces-said, marks-said}
use Rattle.lrs_sheet_records.specs.Shapes.{Fits, Pieces, Marks}
use Rattle.std.specs.List.{position, position_or_len}
use Rattle.std.proofs.Math.Dec.{ltb}
use Rattle.std.proofs.lemmas.Bool.Decides.{nat_tests}
use Rattle.std.proofs.lemmas.List.{length-drop, take_all}
use Rattle.std.proofs.lemmas.List.Quantifiers.{position-Some}
use Rattle.std.proofs.lemmas.List.Sums.{fails_before_first, position_or_len_is}
use Rattle.std.proofs.lemmas.List.Splits.{length-slice_split, slice_split_first, slice_split_none}
use Rattle.lrs_element.specs.declared.link.Piece.{Piece}
use Rattle.lrs_element.specs.declared.marks.Mark.{Mark}
use Rattle.lrs_measure.specs.Texts.{same_name}
use Rattle.lrs_machine.proofs.Joined.{differ}
use Rattle.lrs_sheet_records.specs.Words.{AreSaid, IsMarkText, IsPieceText, parts_of, sign_text, words_of}

-- there is a part
pub some-part : (separator : ℕ) (text : List ℕ) → 1 ≤ length (parts_of separator text)
some-part separator text = let e = length-slice_split (λ (byte : ℕ). byte == separator) text in omega (arith, e)

-- as many are said as there are words
pub said-length : {X : Type 0} (says : List ℕ → X → Type 0) (words : List (List ℕ)) (xs : List X) → AreSaid says words xs → length xs ≡ length words
said-length says [] [] h = refl
said-length says (word ∷ words) (x ∷ xs) h = ap suc (said-length says words xs h.1)
said-length says [] (x ∷ xs) h = absurd h
said-length says (word ∷ words) [] h = absurd h

-- one more word
pub said-more : {X : Type 0} (says : List ℕ → X → Type 0) (words : List (List ℕ)) (xs : List X) (word : List ℕ) (x : X) → AreSaid says words xs → says word x → AreSaid says (words ++ word ∷ []) (xs ++ x ∷ [])
said-more says [] [] word x h last = (last, tt)
said-more says (w ∷ words) (y ∷ xs) word x h last = (h.0, said-more says words xs word x h.1 last)
said-more says [] (y ∷ xs) word x h last = absurd h
said-more says (w ∷ words) [] word x h last = absurd h

-- each word says something
pub said-inside : {X : Type 0} (says : List ℕ → X → Type 0) (front : List (List ℕ)) (word : List ℕ) (more : List (List ℕ)) (xs : List X) → AreSaid says (front ++ word ∷ more) xs → (x : X) × says word x
said-inside says [] word more [] h = absurd h
said-inside says [] word more (x ∷ xs) h = (x, h.0)
said-inside says (w ∷ front) word more [] h = absurd h
said-inside says (w ∷ front) word more (x ∷ xs) h = said-inside says front word more xs h.1

-- where each word says at most one thing, a list says at most one list
pub one-said : {X : Type 0} (says : List ℕ → X → Type 0) → ((word : List ℕ) (x y : X) → says word x → says word y → x ≡ y)
    → (words : List (List ℕ)) (xs ys : List X) → AreSaid says words xs → AreSaid says words ys → xs ≡ ys
one-said says one [] [] [] h g = refl
one-said says one [] [] (y ∷ ys) h g = absurd g
one-said says one [] (x ∷ xs) ys h g = absurd h
one-said says one (w ∷ words) [] ys h g = absurd h
one-said says one (w ∷ words) (x ∷ xs) [] h g = absurd g
one-said says one (w ∷ words) (x ∷ xs) (y ∷ ys) h g = let first = one w x y h.0 g.0 in let others = one-said says one words xs ys h.1 g.1 in rw (first, others) refl

one-sign : (p q : Bool) → sign_text p ≡ sign_text q → p ≡ q
one-sign true true e = refl
one-sign false false e = refl
one-sign true false e = absurd (differ (same_name (codes "+")) (codes "+") (codes "-") e refl refl)
one-sign false true e = absurd (differ (same_name (codes "-")) (codes "-") (codes "+") e refl refl)

-- a word says one piece
pub one-piece : (word : List ℕ) (p q : Piece) → IsPieceText word p → IsPieceText word q → p ≡ q
one-piece word p q h g =
    let link : p.link ≡ q.link = h.link.value ∙ sym g.link.value in
    let a : p.from ≡ q.from = h.from.value ∙ sym g.from.value in
    let b : p.to ≡ q.to = h.to.value ∙ sym g.to.value in
    let forward : p.forward ≡ q.forward = one-sign p.forward q.forward (sym h.direction ∙ g.direction) in
    λ i. record { link = link i; from = a i; to = b i; forward = forward i }

-- or one mark
pub one-mark : (word : List ℕ) (m n : Mark) → IsMarkText word m → IsMarkText word n → m ≡ n
one-mark word m n h g =
    let chainage : m.chainage ≡ n.chainage = h.chainage.value ∙ sym g.chainage.value in
    let measure : m.measure ≡ n.measure = h.measure.value ∙ sym g.measure.value in
    λ i. record { chainage = chainage i; measure = measure i }

-- a text that is cut at its first separator
pub cut-more : (separator : ℕ) (text : List ℕ) (place : ℕ) → position (λ (byte : ℕ). byte == separator) text ≡ Some place
    → parts_of separator text ≡ take place text ∷ parts_of separator (take (length text - (place + 1)) (drop (place + 1) text))
cut-more separator text place h =
    let p : ℕ → Bool = λ byte. byte == separator in
    let found = position-Some p text place 0 h in
    let first : position_or_len p text ≡ place = position_or_len_is p text place 0 (omega (arith, found.0)) found.2 (λ below. found.1) in
    let split = slice_split_first p text 0 (rw first found.0) in
    let size = length-drop (place + 1) text in
    let all : take (length text - (place + 1)) (drop (place + 1) text) ≡ drop (place + 1) text = take_all (length text - (place + 1)) (drop (place + 1) text) (omega (arith, size)) in
    rw all (rw first at split)

-- a text without a separator
pub cut-last : (separator : ℕ) (text : List ℕ) → position (λ (byte : ℕ). byte == separator) text ≡ None → parts_of separator text ≡ text ∷ []
cut-last separator text h =
    let none : length text ≤ position_or_len (λ (byte : ℕ). byte == separator) text = by (ltb (position_or_len (λ (byte : ℕ). byte == separator) text) (length text)) refl in
    slice_split_none (λ (byte : ℕ). byte == separator) text (λ k d below. fails_before_first (λ (byte : ℕ). byte == separator) text k d (omega (arith, below, none)))
  where
    by : (t : Bool) → ltb (position_or_len (λ (byte : ℕ). byte == separator) text) (length text) ≡ t → length text ≤ position_or_len (λ (byte : ℕ). byte == separator) text
    by true e = absurd (grind (arith, h, e))
    by false e = grind (arith, nat_tests)

-- after some words of a text
pub record HasTaken {X : Type 0} (says : List ℕ → X → Type 0) (text rest : List ℕ) (xs : List X) (turns : ℕ) : Type 0 where
  pub front : List (List ℕ)
  pub split : words_of text ≡ front ++ words_of rest
  pub said : AreSaid says front xs
  pub count : length front ≡ turns

-- before the first word
pub start-taken : {X : Type 0} (says : List ℕ → X → Type 0) (text : List ℕ) (xs : List X) → xs ≡ [] → HasTaken says text text xs 0
start-taken says text xs none = rw none (record { front = []; split = refl; said = tt; count = refl })

-- one more word
pub more-taken : {X : Type 0} (says : List ℕ → X → Type 0) (text rest behind word : List ℕ) (xs ys : List X) (x : X) (turns : ℕ) → HasTaken says text rest xs turns
    → ys ≡ xs ++ x ∷ [] → words_of rest ≡ word ∷ words_of behind → says word x → HasTaken says text behind ys (turns + 1)
more-taken says text rest behind word xs ys x turns h grown cut said = rw grown (record {
  front = h.front ++ word ∷ [];
  split = h.split ∙ ap (λ (words : List (List ℕ)). h.front ++ words) cut ∙ sym (append_assoc h.front (word ∷ []) (words_of behind));
  said = said-more says h.front xs word x h.said said;
  count = length-append h.front (word ∷ []) ∙ ap (λ (n : ℕ). n + 1) h.count;
})

-- the last word
pub all-taken : {X : Type 0} (says : List ℕ → X → Type 0) (text rest word : List ℕ) (xs ys : List X) (x : X) (turns : ℕ) → HasTaken says text rest xs turns
    → ys ≡ xs ++ x ∷ [] → words_of rest ≡ word ∷ [] → says word x → AreSaid says (words_of text) ys
all-taken says text rest word xs ys x turns h grown cut said =
    rw (grown, h.split ∙ ap (λ (words : List (List ℕ)). h.front ++ words) cut) (said-more says h.front xs word x h.said said)

-- there are no more than turns
pub few-taken : {X : Type 0} (says : List ℕ → X → Type 0) (text rest : List ℕ) (xs ys : List X) (x : X) (turns : ℕ) → HasTaken says text rest xs turns → ys ≡ xs ++ x ∷ [] → turns < 1_000 → length ys ≤ 1_000
few-taken says text rest xs ys x turns h grown below =
    let size = said-length says h.front xs h.said in
    let count = h.count in
    let more = length-append xs (x ∷ []) in
    rw grown (omega (arith, size, count, more, below))

-- a word that says nothing
pub nothing-said : {X : Type 0} (says : List ℕ → X → Type 0) (text rest word : List ℕ) (more : List (List ℕ)) (xs ys : List X) (turns : ℕ) → HasTaken says text rest xs turns
    → words_of rest ≡ word ∷ more → ((x : X) → says word x → ⊥) → AreSaid says (words_of text) ys → ⊥
nothing-said says text rest word more xs ys turns h cut none said =
    let (x, is) = said-inside says h.front word more ys (rw (h.split ∙ ap (λ (words : List (List ℕ)). h.front ++ words) cut) at said) in
    none x is

-- too many words
pub too-many : {X : Type 0} (says : List ℕ → X → Type 0) (text rest : List ℕ) (xs ys : List X) (turns : ℕ) → HasTaken says text rest xs turns → AreSaid says (words_of text) ys → length ys ≤ turns → ⊥
too-many says text rest xs ys turns h said few =
    let size = said-length says (words_of text) ys said in
    let all : length (words_of text) ≡ length h.front + length (words_of rest) = ap length h.split ∙ length-append h.front (words_of rest) in
    let some = some-part 32 rest in
    let count = h.count in
    absurd (omega (arith, size, all, some, count, few))

-- a text has a first word
pub first-word : {B : Type 0} (now : B → List ℕ) (behind : Option B) (words : List (List ℕ)) (word : List ℕ) → IfNone behind (words ≡ word ∷ []) → IfSome behind (λ rest. words ≡ word ∷ words_of (now rest))
    → (more : List (List ℕ)) × (words ≡ word ∷ more)
first-word now None words word last more = ([], last)
first-word now (Some rest) words word last more = (words_of (now rest), more)

-- a text that goes on has two parts or more
pub more-parts : {B : Type 0} (now : B → List ℕ) (behind : Option B) (parts : List (List ℕ)) (first : List ℕ) → (behind ≡ None → ⊥) → IfSome behind (λ rest. parts ≡ first ∷ parts_of 58 (now rest)) → 2 ≤ length parts
more-parts now None parts first goes more = absurd (goes refl)
more-parts now (Some rest) parts first goes more =
    let some = some-part 58 (now rest) in
    let size : length parts ≡ suc (length (parts_of 58 (now rest))) = ap length more in
    omega (arith, some, size)

-- pieces that no command can state
pub no-pieces : (texts : Field → List ℕ) (text : List ℕ) (ps : List Piece) → AreSaid IsPieceText (words_of text) ps → (IsTrue (are_entered_pieces ps) → ⊥) → Fits texts (Some Pieces) text → ⊥
no-pieces texts text ps said not fits =
    let (qs, is, other, entered) = pieces-said texts text fits.0 fits.1 in
    not (rw (one-said IsPieceText one-piece (words_of text) ps qs said other) entered)

-- marks that none can state
pub no-marks : (texts : Field → List ℕ) (text : List ℕ) (ms : List Mark) → AreSaid IsMarkText (words_of text) ms → (IsTrue (are_entered_marks ms) → ⊥) → Fits texts (Some Marks) text → ⊥
no-marks texts text ms said not fits =
    let (ns, is, other, entered) = marks-said texts text fits.0 fits.1 in
    not (rw (one-said IsMarkText one-mark (words_of text) ms ns said other) entered)
