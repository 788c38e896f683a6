-- A list in pieces: its first line, what is told of it, and the stage behind it.
use Rattle.std.proofs.Common.{◌≡◌, ℕ, suc, ◌+◌, ◌-◌, ◌<◌, ◌≤◌, Bool, true, false, List, [], ◌∷◌, ◌++◌, Option, Some, None, length, take, refl, sym, ap, subst, ◌∙◌, arith, append_assoc}
use Rattle.std.specs.Prelude.{◌==◌, ◌||◌, cond, nat_lt, not, if◌then◌else◌}
use Rattle.std.specs.List.{list_any, position, prefix_len}
use Rattle.std.proofs.lemmas.Bool.Decides.{nat_tests}
use Rattle.std.proofs.lemmas.List.Sums.{sum_by-append}
use Rattle.std.specs.Io.KnownBytes.{Appends}
use Rattle.csv.proofs.WriteFacts.{appends-none}
use Rattle.lrs_report.proofs.Writing.{appends_more}
use Rattle.lrs_machine.specs.Lines.{Text}
use Rattle.lrs_sheet_questions.specs.Entries.{behind_first, fronted, line_count}
use Rattle.lrs_sheet_questions.specs.FirstLine.{line_length}
use Rattle.lrs_sheet_questions.specs.Passing.{line_stage, next_stage, stage_behind, told_from}
use Rattle.lrs_sheet_questions.specs.declared.stage.Stage.{Stage}
use Rattle.lrs_sheet_questions.specs.declared.stage.Stage.TheVariants.{Header, Start, Inside}

abbrev is_end : ℕ → Bool
is_end byte = byte == 10

abbrev front_length : Text → ℕ
front_length text = prefix_len (λ byte. not (byte == 10)) text

-- a text with a line end
found : (text : Text) → front_length text < length text → (line_length text ≡ front_length text + 1) × (list_any is_end text ≡ true)
found [] below = absurd (omega (arith, below))
found (b ∷ t) below = by (b == 10) (found t) below
  where
    by : (v : Bool) → (front_length t < length t → (line_length t ≡ front_length t + 1) × (list_any is_end t ≡ true)) → cond (not v) (1 + front_length t) 0 < suc (length t)
        → ((if v then 1 else suc (line_length t)) ≡ cond (not v) (1 + front_length t) 0 + 1) × ((v || list_any is_end t) ≡ true)
    by true more h = (omega arith, refl)
    by false more h = let (long, any) = more (omega (arith, h)) in (omega (arith, long), any)

-- and one without
missing : (text : Text) → length text ≤ front_length text → (line_length text ≡ length text) × (list_any is_end text ≡ false)
missing [] most = (refl, refl)
missing (b ∷ t) most = by (b == 10) (missing t) most
  where
    by : (v : Bool) → (length t ≤ front_length t → (line_length t ≡ length t) × (list_any is_end t ≡ false)) → suc (length t) ≤ cond (not v) (1 + front_length t) 0
        → ((if v then 1 else suc (line_length t)) ≡ suc (length t)) × ((v || list_any is_end t) ≡ false)
    by true more h = absurd (omega (arith, h))
    by false more h = let (long, any) = more (omega (arith, h)) in (omega (arith, long), any)

-- the line up to the first line end
pub line-found : (text : Text) (place : ℕ) → position is_end text ≡ Some place → (line_length text ≡ place + 1) × (list_any is_end text ≡ true)
line-found text place is = by (nat_lt (front_length text) (length text)) refl is
  where
    by : (v : Bool) → nat_lt (front_length text) (length text) ≡ v → cond v (Some (front_length text)) None ≡ Some place → (line_length text ≡ place + 1) × (list_any is_end text ≡ true)
    by true e h =
        let below : front_length text < length text = grind (arith, nat_tests) in
        let (long, any) = found text below in
        let same : front_length text ≡ place = cc in
        (long ∙ ap (λ n. n + 1) same, any)
    by false e h = absurd (cc h)

-- or to the end of the text
pub line-missing : (text : Text) → position is_end text ≡ None → (line_length text ≡ length text) × (list_any is_end text ≡ false)
line-missing text is = by (nat_lt (front_length text) (length text)) refl is
  where
    by : (v : Bool) → nat_lt (front_length text) (length text) ≡ v → cond v (Some (front_length text)) None ≡ None → (line_length text ≡ length text) × (list_any is_end text ≡ false)
    by true e h = absurd (cc h)
    by false e h =
        let most : length text ≤ front_length text = grind (arith, nat_tests) in
        missing text most

-- the first line has no other
pub one-line : (text : Text) → take (line_length text) text ≡ take (line_length (take (line_length text) text)) (take (line_length text) text)
one-line [] = refl
one-line (b ∷ t) = by (b == 10) refl (one-line t)
  where
    by : (v : Bool) → b == 10 ≡ v → take (line_length t) t ≡ take (line_length (take (line_length t) t)) (take (line_length t) t)
        → take (if v then 1 else suc (line_length t)) (b ∷ t) ≡ take (line_length (take (if v then 1 else suc (line_length t)) (b ∷ t))) (take (if v then 1 else suc (line_length t)) (b ∷ t))
    by true e more = rw e refl
    by false e more = rw e (ap (λ (x : Text). b ∷ x) more)

-- what is told of a line: nothing in the header, ...
pub header-line : (front text : Text) → told_from front Header (take (line_length text) text) ≡ []
header-line front [] = refl
header-line front (b ∷ t) = by (b == 10) refl (header-line front t)
  where
    by : (v : Bool) → b == 10 ≡ v → told_from front Header (take (line_length t) t) ≡ [] → told_from front Header (take (if v then 1 else suc (line_length t)) (b ∷ t)) ≡ []
    by true e more = rw e refl
    by false e more = rw e more

-- the rest of it inside, ...
pub inside-line : (front text : Text) → told_from front Inside (take (line_length text) text) ≡ take (line_length text) text
inside-line front [] = refl
inside-line front (b ∷ t) = by (b == 10) refl (inside-line front t)
  where
    by : (v : Bool) → b == 10 ≡ v → told_from front Inside (take (line_length t) t) ≡ take (line_length t) t
        → told_from front Inside (take (if v then 1 else suc (line_length t)) (b ∷ t)) ≡ take (if v then 1 else suc (line_length t)) (b ∷ t)
    by true e more = rw e refl
    by false e more = rw e (ap (λ (x : Text). b ∷ x) more)

-- and the front and the line where one begins
pub start-line : (front text : Text) → 0 < length text → told_from front Start (take (line_length text) text) ≡ front ++ take (line_length text) text
start-line front [] some = absurd (omega (arith, some))
start-line front (b ∷ t) some = by (b == 10) refl
  where
    by : (v : Bool) → b == 10 ≡ v → told_from front Start (take (if v then 1 else suc (line_length t)) (b ∷ t)) ≡ front ++ take (if v then 1 else suc (line_length t)) (b ∷ t)
    by true e = rw e refl
    by false e = rw e (ap (λ (x : Text). front ++ b ∷ x) (inside-line front t))

-- the stage behind it
inside-stage : (text : Text) → stage_behind Inside (take (line_length text) text) ≡ line_stage (list_any is_end text)
inside-stage [] = refl
inside-stage (b ∷ t) = by (b == 10) refl (inside-stage t)
  where
    by : (v : Bool) → b == 10 ≡ v → stage_behind Inside (take (line_length t) t) ≡ line_stage (list_any is_end t)
        → stage_behind Inside (take (if v then 1 else suc (line_length t)) (b ∷ t)) ≡ line_stage (v || list_any is_end t)
    by true e more = ap (λ w. stage_behind (line_stage w) []) e
    by false e more = ap (λ w. stage_behind (line_stage w) (take (line_length t) t)) e ∙ more

header-stage : (text : Text) → stage_behind Header (take (line_length text) text) ≡ next_stage Header (list_any is_end text)
header-stage [] = refl
header-stage (b ∷ t) = by (b == 10) refl (header-stage t)
  where
    by : (v : Bool) → b == 10 ≡ v → stage_behind Header (take (line_length t) t) ≡ next_stage Header (list_any is_end t)
        → stage_behind Header (take (if v then 1 else suc (line_length t)) (b ∷ t)) ≡ next_stage Header (v || list_any is_end t)
    by true e more = ap (λ w. if w then stage_behind Start [] else stage_behind Header []) e
    by false e more = ap (λ w. if w then stage_behind Start (take (line_length t) t) else stage_behind Header (take (line_length t) t)) e ∙ more

next-inside : (v : Bool) → line_stage v ≡ next_stage Inside v
next-inside true = refl
next-inside false = refl

next-start : (v : Bool) → line_stage v ≡ next_stage Start v
next-start true = refl
next-start false = refl

pub stage-line : (stage : Stage) (text : Text) → 0 < length text → stage_behind stage (take (line_length text) text) ≡ next_stage stage (list_any is_end text)
stage-line Header text some = header-stage text
stage-line Inside text some = inside-stage text ∙ next-inside (list_any is_end text)
stage-line Start [] some = absurd (omega (arith, some))
stage-line Start (b ∷ t) some = by (b == 10) refl
  where
    by : (v : Bool) → b == 10 ≡ v → stage_behind Start (take (if v then 1 else suc (line_length t)) (b ∷ t)) ≡ next_stage Start (v || list_any is_end t)
    by true e = ap (λ w. stage_behind (line_stage w) []) e
    by false e = ap (λ w. stage_behind (line_stage w) (take (line_length t) t)) e ∙ (inside-stage t ∙ next-start (list_any is_end t))

-- two pieces one behind the other
each-more : (front x y : Text) (v : Bool) → fronted front v (x ++ y) ≡ fronted front v x ++ told_from front (stage_behind (line_stage v) x) y
each-more front [] y true = refl
each-more front [] y false = refl
each-more front (b ∷ x) y true =
    ap (λ (t : Text). front ++ b ∷ t) (each-more front x y (b == 10)) ∙ sym (append_assoc front (b ∷ fronted front (b == 10) x) (told_from front (stage_behind (line_stage (b == 10)) x) y))
each-more front (b ∷ x) y false = ap (λ (t : Text). b ∷ t) (each-more front x y (b == 10))

pub told-more : (front x y : Text) → told_from front Header (x ++ y) ≡ told_from front Header x ++ told_from front (stage_behind Header x) y
told-more front [] y = refl
told-more front (b ∷ x) y = by (b == 10) (told-more front x y)
  where
    by : (v : Bool) → told_from front Header (x ++ y) ≡ told_from front Header x ++ told_from front (stage_behind Header x) y → fronted front true (if v then x ++ y else behind_first (x ++ y))
        ≡ fronted front true (if v then x else behind_first x) ++ told_from front (if v then stage_behind Start x else stage_behind Header x) y
    by true more = each-more front x y true
    by false more = more

pub stage-more : (stage : Stage) (x y : Text) → stage_behind stage (x ++ y) ≡ stage_behind (stage_behind stage x) y
stage-more Header [] y = refl
stage-more Start [] y = refl
stage-more Inside [] y = refl
stage-more Start (b ∷ x) y = stage-more (line_stage (b == 10)) x y
stage-more Inside (b ∷ x) y = stage-more (line_stage (b == 10)) x y
stage-more Header (b ∷ x) y = by (b == 10) (stage-more Start x y) (stage-more Header x y)
  where
    by : (v : Bool) → stage_behind Start (x ++ y) ≡ stage_behind (stage_behind Start x) y → stage_behind Header (x ++ y) ≡ stage_behind (stage_behind Header x) y → (if v then stage_behind Start (x ++ y) else stage_behind Header (x ++ y)) ≡ stage_behind (if v then stage_behind Start x else stage_behind Header x) y
    by true start header = start
    by false start header = header

-- the lines behind the first
count-cons : (b : ℕ) (t : Text) → line_count (b ∷ t) ≡ cond (b == 10) 1 0 + line_count t
count-cons b t = sum_by-append (λ byte. cond (byte == 10) 1 0) (b ∷ []) t ∙ omega arith

pub behind-count : (text : Text) → line_count (behind_first text) ≡ line_count text - 1
behind-count [] = refl
behind-count (b ∷ t) = by (b == 10) (behind-count t) ∙ ap (λ n. n - 1) (sym (count-cons b t))
  where
    by : (v : Bool) → line_count (behind_first t) ≡ line_count t - 1 → line_count (if v then t else behind_first t) ≡ cond v 1 0 + line_count t - 1
    by true more = omega arith
    by false more = more ∙ omega arith

-- one more line of a list: the stage behind it, ...
pub staged-next : (stage : Stage) (text bytes : Text) → 0 < length bytes → stage ≡ stage_behind Header text → next_stage stage (list_any is_end bytes) ≡ stage_behind Header (text ++ take (line_length bytes) bytes)
staged-next stage text bytes some is =
    sym (stage-line stage bytes some) ∙ ap (λ s. stage_behind s (take (line_length bytes) bytes)) is ∙ sym (stage-more Header text (take (line_length bytes) bytes))

-- and what the writer behind holds
pub told-next : (front text line : Text) (stage : Stage) (a b c : Option Text) → stage ≡ stage_behind Header text → Appends a b (told_from front Header text) → Appends b c (told_from front stage line)
    → Appends a c (told_from front Header (text ++ line))
told-next front text line stage a b c is before now =
    rw (told-more front text line) (appends_more a b c (told_from front Header text) (told_from front (stage_behind Header text) line) before (subst (λ (s : Stage). Appends b c (told_from front s line)) is now))

pub some-line : (text : Text) → 0 < length text → 0 < length (take (line_length text) text)
some-line [] some = some
some-line (b ∷ t) some = by (b == 10)
  where
    by : (v : Bool) → 0 < length (take (if v then 1 else suc (line_length t)) (b ∷ t))
    by true = omega arith
    by false = omega arith

-- the same of what grows by the line
pub staged-behind : (stage : Stage) (whole : Bool) (n : ℕ) (text bytes grown : Text) → 0 < length bytes → stage ≡ stage_behind Header text → n ≡ line_length bytes → whole ≡ list_any is_end bytes → grown ≡ text ++ take n bytes
    → next_stage stage whole ≡ stage_behind Header grown
staged-behind stage whole n text bytes grown some is long any grows =
    ap (next_stage stage) any ∙ staged-next stage text bytes some is ∙ sym (ap (stage_behind Header) (grows ∙ ap (λ k. text ++ take k bytes) long))

pub told-behind : (front text line grown : Text) (stage : Stage) (start begun a b : Option Text) → stage ≡ stage_behind Header text → begun ≡ start → grown ≡ text ++ line → Appends start a (told_from front Header text)
    → Appends a b (told_from front stage line) → Appends begun b (told_from front Header grown)
told-behind front text line grown stage start begun a b is same grows before now =
    subst (λ (s : Option Text). Appends s b (told_from front Header grown)) (sym same)
    (subst (λ (t : Text). Appends start b (told_from front Header t)) (sym grows) (told-next front text line stage start a b is before now))

-- before the first line
pub told-begun : (front text : Text) (start known now : Option Text) → text ≡ [] → start ≡ known → now ≡ known → Appends start now (told_from front Header text)
told-begun front text start known now none begun held =
    subst (λ (s : Option Text). Appends s now (told_from front Header text)) (held ∙ sym begun) (subst (λ (t : Text). Appends now now (told_from front Header t)) (sym none) (appends-none now))
