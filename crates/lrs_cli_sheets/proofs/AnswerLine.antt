-- The first line of an answer, byte by byte.
use Rattle.std.proofs.Common.{◌≡◌, ◌∙◌, ◌<◌, ◌+◌, ℕ, zero, suc, Bool, true, false, not, List, [], ◌∷◌, ◌++◌, length, take, arith, bytes_eq, codes, ◌&&◌, nat_eq, Option, Some, None, IfSome, ap, refl, subst, sym}
use Rattle.std.specs.Io.KnownBytes.{Consumes, IsAtEnd}
use Rattle.std.specs.List.{before_first, position_or_len}
use Rattle.std.proofs.lemmas.List.{append-nil, append_assoc, take_all, take_at}
use Rattle.lrs_cli_sheets.specs.Sheets.{ends_line}
use Rattle.lrs_cli_sheets.specs.Trials.{says_yes}

-- The first bytes of a line were read: none of them ends it.
pub record IsLineSoFar (old rest : Option (List ℕ)) (line : List ℕ) : Type 0 where
  pub consumed : Consumes old rest line
  pub goes_on : (others : List ℕ) → before_first ends_line (line ++ others) ≡ line ++ before_first ends_line others

pub no_line : (old : Option (List ℕ)) → Consumes old old []
no_line None = tt
no_line (Some xs) = refl

pub line_begun : (old : Option (List ℕ)) (line : List ℕ) → line ≡ [] → IsLineSoFar old old line
line_begun old line none = subst (IsLineSoFar old old) (sym none) (record { consumed = no_line old; goes_on = λ others. refl })

pub consumed_more : (old rest new : Option (List ℕ)) (line : List ℕ) (byte : ℕ) → Consumes old rest line → Consumes rest new (byte ∷ []) → Consumes old new (line ++ (byte ∷ []))
consumed_more None rest new line byte first next = tt
consumed_more (Some xs) None new line byte first next = absurd first
consumed_more (Some xs) (Some ys) None line byte first next = absurd next
consumed_more (Some xs) (Some ys) (Some zs) line byte first next = first ∙ ap (λ (t : List ℕ). line ++ t) next ∙ sym (append_assoc line (byte ∷ []) zs)

-- one byte more at the front
front : (n byte : ℕ) (others : List ℕ) → take (1 + n) (byte ∷ others) ≡ byte ∷ take n others
front n byte others = ap (λ (k : ℕ). take k (byte ∷ others)) (one_more n)
  where
    one_more : (n : ℕ) → 1 + n ≡ suc n
    one_more n = omega (arith)

-- a byte in front that does not end the line
pub passes : (byte : ℕ) (others : List ℕ) → ends_line byte ≡ false → before_first ends_line (byte ∷ others) ≡ byte ∷ before_first ends_line others
passes byte others goes = rw goes (front (position_or_len ends_line others) byte others)

-- ... and one that does
pub stops : (byte : ℕ) (others : List ℕ) → ends_line byte ≡ true → before_first ends_line (byte ∷ others) ≡ []
stops byte others ends = rw ends refl

pub line_longer : (old rest new : Option (List ℕ)) (line : List ℕ) (byte : ℕ) → IsLineSoFar old rest line → Consumes rest new (byte ∷ []) → ends_line byte ≡ false
    → IsLineSoFar old new (line ++ (byte ∷ []))
line_longer old rest new line byte is next goes = record {
  consumed = consumed_more old rest new line byte is.consumed next;
  goes_on = λ others. ap (before_first ends_line) (append_assoc line (byte ∷ []) others) ∙ is.goes_on (byte ∷ others)
      ∙ ap (λ (t : List ℕ). line ++ t) (passes byte others goes) ∙ sym (append_assoc line (byte ∷ []) (before_first ends_line others));
}

-- a line that is short enough counts whole
pub short_line : (most : ℕ) (line : List ℕ) → length line < most → take most line ≡ line
short_line most line short = take_all most line (omega (arith, short))

pub line_ended : (most : ℕ) (old rest new : Option (List ℕ)) (line : List ℕ) (byte : ℕ) → length line < most → IsLineSoFar old rest line → Consumes rest new (byte ∷ []) → ends_line byte ≡ true
    → IfSome old (λ text. line ≡ take most (before_first ends_line text))
line_ended most None rest new line byte short is next ends = tt
line_ended most (Some text) None new line byte short is next ends = absurd is.consumed
line_ended most (Some text) (Some ys) None line byte short is next ends = absurd next
line_ended most (Some text) (Some ys) (Some others) line byte short is next ends =
    sym (ap (λ (t : List ℕ). take most (before_first ends_line t)) (is.consumed ∙ ap (λ (t : List ℕ). line ++ t) next) ∙ ap (take most) (is.goes_on (byte ∷ others)
    ∙ ap (λ (t : List ℕ). line ++ t) (stops byte others ends) ∙ append-nil line) ∙ short_line most line short)

pub text_ended : (most : ℕ) (old rest : Option (List ℕ)) (line : List ℕ) → length line < most → IsLineSoFar old rest line → IsAtEnd rest → IfSome old (λ text. line ≡ take most (before_first ends_line text))
text_ended most None rest line short is end = tt
text_ended most (Some text) None line short is end = absurd is.consumed
text_ended most (Some text) (Some ys) line short is end =
    sym (ap (λ (t : List ℕ). take most (before_first ends_line t)) (is.consumed ∙ ap (λ (t : List ℕ). line ++ t) end) ∙ ap (take most) (is.goes_on [] ∙ append-nil line) ∙ short_line most line short)

pub line_full : (most : ℕ) (old rest : Option (List ℕ)) (line : List ℕ) → length line ≡ most → IsLineSoFar old rest line → IfSome old (λ text. line ≡ take most (before_first ends_line text))
line_full most None rest line long is = tt
line_full most (Some text) None line long is = absurd is.consumed
line_full most (Some text) (Some ys) line long is =
    sym (ap (λ (t : List ℕ). take most (before_first ends_line t)) is.consumed ∙ ap (take most) (is.goes_on ys) ∙ take_at line (before_first ends_line ys) most long)

-- a short word is read in the first bytes
pub in_first : (most : ℕ) (text word : List ℕ) → length word < most → bytes_eq (take most text) word ≡ bytes_eq text word
in_first zero text word short = absurd (omega (arith, short))
in_first (suc most) [] word short = refl
in_first (suc most) (x ∷ text) [] short = refl
in_first (suc most) (x ∷ text) (y ∷ word) short = ap (λ (b : Bool). nat_eq x y && b) (in_first most text word (omega (arith, short)))

-- whether the first bytes of the line are `yes`
pub said : (old : Option (List ℕ)) (line : List ℕ) (is_yes : Bool) → is_yes ≡ bytes_eq line (codes "yes") → IfSome old (λ text. line ≡ take 4096 (before_first ends_line text)) → IfSome old (λ text. is_yes ≡ says_yes text)
said None line is_yes compared first = tt
said (Some text) line is_yes compared first = compared ∙ ap (λ (t : List ℕ). bytes_eq t (codes "yes")) first ∙ in_first 4096 (before_first ends_line text) (codes "yes") (omega (arith))

-- what an answer says
pub answered : (answer : Option (List ℕ)) (is_yes is : Bool) → IfSome answer (λ text. is_yes ≡ says_yes text) → is_yes ≡ is → IfSome answer (λ text. says_yes text ≡ is)
answered None is_yes is said_so same = tt
answered (Some text) is_yes is said_so same = sym said_so ∙ same
