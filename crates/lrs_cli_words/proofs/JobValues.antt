-- Each row that `clap` makes of the words of a job has a value, but for an option whose value is missing.
use Rattle.std.proofs.Common.{◌≡◌, ◌∙◌, ◌⊎◌, ◌&&◌, ◌||◌, ℕ, Bool, true, false, true≢false, cond, zero, suc, List, [], ◌∷◌, ◌++◌, Option, Some, None, is_some, IfSome, ap, refl, sym, inl, inr, length, drop, codes}
use Rattle.std.specs.List.{fold, find, list_all, list_any, slice_get}
use Rattle.std.specs.Option.{option_map_or, option_and_then}
use Rattle.std.specs.Str.{bytes_eq, chars}
use Rattle.std.specs.Prelude.{encode_utf8, ⊤}
use Rattle.std.proofs.lemmas.Slice.Eq.{bytes_eq-Decides}
use Rattle.clap.specs.Lexer.{long_of, short_of}
use Rattle.clap.specs.Walk.{Held, Names, Outcome, done, waits, plain, refused, Row, Rule, Step, next, trailing, subcommand, value, Text, Waiting, idle, option, positional, Walk, action_of, after_flag, after_step, arg_by_id, arg_by_index, arg_by_long, arg_by_short, at_row, attached_value, bundle, bundle_met, bundle_step, default_rows, finished, first_of, flag_met, has_row, is_pending, long_met, long_or_other, more_values, option_met, option_word, plain_word, positional_held, pushed, reacted, reading_by, settled, settled_rows, short_met, short_or_plain, subcommand_met, subcommand_or_other, takes_several, takes_values, to_positional, used, used_as, used_by_id, walked, walked_from, with_default, with_values, word_met}
use Rattle.clap.specs.Takes.{is_given}
use Rattle.clap.specs.Facts.{explicit_source}
use Rattle.clap.specs.declared.builder.ArgAction.{ArgAction}
use Rattle.clap.specs.declared.builder.ArgAction.TheVariants as action
use Rattle.clap.specs.declared.builder.value_parser.Reading.{Reading}
use Rattle.clap.specs.declared.parser.matches.ValueSource.{ValueSource}
use Rattle.clap.specs.declared.parser.matches.ValueSource.TheVariants.{CommandLine, DefaultValue}

abbrev has_text : List Text → Bool
has_text values = is_some (slice_get values 0)

abbrev valued : List Text
valued = codes "from" ∷ codes "to" ∷ codes "route" ∷ codes "side" ∷ codes "class" ∷ codes "asset" ∷ codes "edit" ∷ codes "since" ∷ codes "until" ∷ codes "key" ∷ codes "columns" ∷ codes "by" ∷ codes "number" ∷ codes "most-reply" ∷ []

-- an option that has a value: it is used with none where that is missing, which `clap` refuses only later
abbrev pub lacks : Text → Bool
lacks id = list_any (λ option. bytes_eq id option) valued

abbrev has_value : Row → Bool
has_value r = has_text r.values || lacks r.id

abbrev pub Filled : List Row → Type 0
Filled rows = list_all has_value rows ≡ true

first_true : (a b : Bool) → (a && b) ≡ true → a ≡ true
first_true true b e = refl
first_true false b e = e

second_true : (a b : Bool) → (a && b) ≡ true → b ≡ true
second_true true b e = e
second_true false b e = absurd (true≢false (sym e))

both_true : (a b : Bool) → a ≡ true → b ≡ true → (a && b) ≡ true
both_true true b e f = f
both_true false b e f = e

either_true : (a b : Bool) → a ≡ true → (a || b) ≡ true
either_true true b e = refl
either_true false b e = absurd (true≢false (sym e))

first_of_either : (a b : Bool) → (a || b) ≡ true → b ≡ false → a ≡ true
first_of_either true b e other = refl
first_of_either false b e other = absurd (true≢false (sym e ∙ other))

more_text : (values : List Text) (v : Text) (vs : List Text) → has_text (values ++ v ∷ vs) ≡ true
more_text [] v vs = refl
more_text (x ∷ xs) v vs = refl

no_more_text : (values : List Text) (b : Bool) → (has_text values || b) ≡ true → (has_text (values ++ []) || b) ≡ true
no_more_text [] b e = e
no_more_text (x ∷ xs) b e = refl

-- ---- rows

with_values-row : (id : Text) (how : Reading) (s : ValueSource) (v : Text) (vs : List Text) (r : Row) (rs : List Row) (b : Bool) → Filled (r ∷ rs)
    → Filled (with_values id how s (v ∷ vs) rs) → Filled (cond b (more_values s (v ∷ vs) r ++ rs) (r ∷ with_values id how s (v ∷ vs) rs))
with_values-row id how s v vs r rs true e below =
    both_true (has_text (r.values ++ v ∷ vs) || lacks r.id) _ (either_true (has_text (r.values ++ v ∷ vs)) (lacks r.id) (more_text r.values v vs)) (second_true (has_value r) (list_all has_value rs) e)
with_values-row id how s v vs r rs false e below = both_true (has_value r) _ (first_true (has_value r) (list_all has_value rs) e) below

with_values-filled : (id : Text) (how : Reading) (s : ValueSource) (v : Text) (vs : List Text) (rows : List Row) → Filled rows → Filled (with_values id how s (v ∷ vs) rows)
with_values-filled id how s v vs [] e = refl
with_values-filled id how s v vs (r ∷ rs) e =
    with_values-row id how s v vs r rs (bytes_eq r.id id) e (with_values-filled id how s v vs rs (second_true (has_value r) (list_all has_value rs) e))

with_none-row : (id : Text) (how : Reading) (s : ValueSource) (r : Row) (rs : List Row) (b : Bool) → Filled (r ∷ rs)
    → Filled (with_values id how s [] rs) → Filled (cond b (more_values s [] r ++ rs) (r ∷ with_values id how s [] rs))
with_none-row id how s r rs true e below =
    both_true (has_text (r.values ++ []) || lacks r.id) _ (no_more_text r.values (lacks r.id) (first_true (has_value r) (list_all has_value rs) e)) (second_true (has_value r) (list_all has_value rs) e)
with_none-row id how s r rs false e below = both_true (has_value r) _ (first_true (has_value r) (list_all has_value rs) e) below

pub with_none-filled : (id : Text) (how : Reading) (s : ValueSource) (rows : List Row) → lacks id ≡ true → Filled rows → Filled (with_values id how s [] rows)
with_none-filled id how s [] lack e = both_true (lacks id) true lack refl
with_none-filled id how s (r ∷ rs) lack e =
    with_none-row id how s r rs (bytes_eq r.id id) e (with_none-filled id how s rs lack (second_true (has_value r) (list_all has_value rs) e))

without-row : (id : Text) (r : Row) (rs : List Row) (b : Bool) → Filled (r ∷ rs) → Filled (at_row id (λ _. []) [] rs) → Filled (cond b rs (r ∷ at_row id (λ _. []) [] rs))
without-row id r rs true e below = second_true (has_value r) (list_all has_value rs) e
without-row id r rs false e below = both_true (has_value r) _ (first_true (has_value r) (list_all has_value rs) e) below

pub without-filled : (id : Text) (rows : List Row) → Filled rows → Filled (at_row id (λ _. []) [] rows)
without-filled id [] e = refl
without-filled id (r ∷ rs) e = without-row id r rs (bytes_eq r.id id) e (without-filled id rs (second_true (has_value r) (list_all has_value rs) e))

pub used-filled : (x : ArgAction) (id : Text) (how : Reading) (v : Text) (vs : List Text) (rows : List Row) → Filled rows → Filled (used_as x id how (v ∷ vs) rows)
used-filled action.Set id how v vs rows e = with_values-filled id how CommandLine v vs _ (without-filled id rows e)
used-filled action.SetTrue id how v vs rows e = with_values-filled id how CommandLine v vs _ (without-filled id rows e)
used-filled action.SetFalse id how v vs rows e = with_values-filled id how CommandLine v vs _ (without-filled id rows e)
used-filled action.Append id how v vs rows e = with_values-filled id how CommandLine v vs rows e
used-filled action.Count id how v vs rows e = with_values-filled id how CommandLine v vs _ (without-filled id rows e)
used-filled action.Help id how v vs rows e = e
used-filled action.HelpShort id how v vs rows e = e
used-filled action.HelpLong id how v vs rows e = e
used-filled action.Version id how v vs rows e = e

-- ---- what is held

-- the rule is used with no value, and the rows stay filled
abbrev pub Fills : Rule → Type 0
Fills a = (rows : List Row) → Filled rows → Filled (used a [] rows)

-- what is pending has a value, or is used with none
abbrev WaitsFilled : List Rule → Option (Text × List Text) → Type 0
WaitsFilled c None = ⊤
WaitsFilled c (Some p) = (has_text p.1 ≡ true) ⊎ IfSome (arg_by_id c p.0) Fills

-- each row has a value, and what is pending leaves it so
pub record IsFilled (c : List Rule) (h : Held) : Type 0 where
  pub rows : Filled h.rows
  pub pending : WaitsFilled c h.pending

by_id-filled : (a : Option Rule) (values : List Text) (rows : List Row) → (has_text values ≡ true) ⊎ IfSome a Fills → Filled rows → Filled (used_by_id a values rows)
by_id-filled None values rows h e = e
by_id-filled (Some a) [] rows (inl h) e = absurd (true≢false (sym h))
by_id-filled (Some a) [] rows (inr fills) e = fills rows e
by_id-filled (Some a) (v ∷ vs) rows h e = used-filled (action_of a) a.id _ v vs rows e

settled-filled : (c : List Rule) (p : Option (Text × List Text)) (rows : List Row) → WaitsFilled c p → Filled rows → Filled (settled_rows c p rows)
settled-filled c None rows h e = e
settled-filled c (Some p) rows h e = by_id-filled (arg_by_id c p.0) p.1 rows h e

pub settle : (c : List Rule) (h : Held) → IsFilled c h → IsFilled c (settled c h)
settle c h f = record { rows = settled-filled c h.pending h.rows f.pending f.rows; pending = tt }

push : (c : List Rule) (id word : Text) (h : Held) → IsFilled c h → IsFilled c (pushed id word h)
push c id word h f = record { rows = f.rows; pending = inl (more_text _ word []) }

placed-filled : (c : List Rule) (a : Rule) (word : Text) (h : Held) → IsFilled c h → IsFilled c (positional_held c a word h)
placed-filled c a word h f = push c a.id word _ (go (is_pending a h.pending && takes_several a))
  where
    go : (b : Bool) → IsFilled c (cond b h (settled c h))
    go true = f
    go false = settle c h f

-- ---- what a name calls up: a flag, which takes no value, or an option, which may wait for one

pub record IsNamed (c : List Rule) (a : Rule) : Type 0 where
  pub fills : Fills a
  pub waits : IfSome (arg_by_id c a.id) Fills

react : (c : List Rule) (a : Rule) (h : Held) → IsNamed c a → IsFilled c h → IsFilled c (reacted c a [] h)
react c a h is f = record { rows = is.fills _ (settle c h f).rows; pending = tt }

opted : (c : List Rule) (a : Rule) (v : Option Text) (h : Held) → IsNamed c a → IsFilled c h → IsFilled c (option_met c a v h).0
opted c a None h is f = record { rows = (settle c h f).rows; pending = inr is.waits }
opted c a (Some v) h is f = record { rows = used-filled (action_of a) a.id _ v [] _ (settle c h f).rows; pending = tt }

flagged : (c : List Rule) (a : Rule) (v : Option Text) (h : Held) → IsNamed c a → IsFilled c h → IsFilled c (flag_met c a v h).0
flagged c a None h is f = react c a h is f
flagged c a (Some v) h is f = f

long-filled : (c : List Rule) (named : Option Rule) (v : Option Text) (h : Held) → IfSome named (IsNamed c) → IsFilled c h → IsFilled c (long_met c named v h).0
long-filled c None v h is f = f
long-filled c (Some a) v h is f = go (takes_values a)
  where
    go : (b : Bool) → IsFilled c (cond {A = Held × Outcome} b (option_met c a v h) (flag_met c a v h)).0
    go true = opted c a v h is f
    go false = flagged c a v h is f

short-filled : (c : List Rule) (named : Option Rule) (rest : Text) (h : Held) (others : Held → Held × Outcome) → IfSome named (IsNamed c) → IsFilled c h
    → ((g : Held) → IsFilled c g → IsFilled c (others g).0) → IsFilled c (short_met c named rest h others).0
short-filled c None rest h others is f below = f
short-filled c (Some a) rest h others is f below = go (takes_values a)
  where
    go : (b : Bool) → IsFilled c (cond {A = Held × Outcome} b (option_met c a (attached_value rest) h) (others (reacted c a [] h))).0
    go true = opted c a (attached_value rest) h is f
    go false = below (reacted c a [] h) (react c a h is f)

-- each name calls up what leaves the rows filled
pub record HasFlags (c : List Rule) : Type 0 where
  pub long : (name : Text) → IfSome (arg_by_long c name) (IsNamed c)
  pub short : (x : ℕ) → IfSome (arg_by_short c x) (IsNamed c)

bundle_step-filled : (c : List Rule) (o : Option ℕ) (flags : Text) (skip : ℕ) (so_far : Outcome) (h : Held) (others : Text → ℕ → Outcome → Held → Held × Outcome) → HasFlags c → IsFilled c h
    → ((rest : Text) (n : ℕ) (p : Outcome) (g : Held) → IsFilled c g → IsFilled c (others rest n p g).0) → IsFilled c (bundle_step c o flags skip so_far h others).0
bundle_step-filled c None flags skip so_far h others has f go = f
bundle_step-filled c (Some x) flags zero so_far h others has f go =
    let rest = drop (length (encode_utf8 x)) flags in
    short-filled c (arg_by_short c x) rest h (others rest 0 done) (has.short x) f (go rest 0 done)
bundle_step-filled c (Some x) flags (suc skip) so_far h others has f go = go (drop (length (encode_utf8 x)) flags) skip so_far h f

bundle-filled : (c : List Rule) (k : ℕ) (flags : Text) (skip : ℕ) (so_far : Outcome) (h : Held) → HasFlags c → IsFilled c h → IsFilled c (bundle_met c k flags skip so_far h).0
unfolding bundle_met
bundle-filled c zero flags skip so_far h has f = f
bundle-filled c (suc k) flags skip so_far h has f =
    bundle_step-filled c (slice_get (chars flags) 0) flags skip so_far h (bundle_met c k) has f (λ rest n p g good. bundle-filled c k rest n p g has good)

-- ---- one word

option-filled : (c : List Rule) (a : Option Rule) (id word : Text) (h : Held) → IsFilled c h → IsFilled c (option_word a id word h).0
option-filled c None id word h f = f
option-filled c (Some a) id word h f = push c id word h f

plain-filled : (c : List Rule) (waiting : Waiting) (word : Text) (h : Held) → IsFilled c h → IsFilled c (plain_word c waiting word h).0
plain-filled c idle word h f = f
plain-filled c (option id) word h f = option-filled c (arg_by_id c id) id word h f
plain-filled c positional word h f = f

after-filled : (c : List Rule) (waiting : Waiting) (word : Text) (h : Held) (o : Outcome) → IsFilled c h → IsFilled c (after_flag c waiting word h o).0
after-filled c waiting word h done f = f
after-filled c waiting word h (waits id) f = f
after-filled c waiting word h plain f = plain-filled c waiting word h f
after-filled c waiting word h refused f = plain-filled c waiting word h f

shorts-filled : (c : List Rule) (waiting : Waiting) (word : Text) (o : Option Text) (h : Held) → HasFlags c → IsFilled c h → IsFilled c (short_or_plain c waiting word o h).0
shorts-filled c waiting word None h has f = plain-filled c waiting word h f
shorts-filled c waiting word (Some flags) h has f =
    after-filled c waiting word (bundle c flags h).0 (bundle c flags h).1
    (bundle-filled c (length flags) flags h.skip plain (record h { skip = 0 }) has (record { rows = f.rows; pending = f.pending }))

longs-filled : (c : List Rule) (waiting : Waiting) (word : Text) (l : Option (Text × Option Text)) (h : Held) → HasFlags c → IsFilled c h → IsFilled c (long_or_other c waiting word l h).0
longs-filled c waiting word None h has f = shorts-filled c waiting word (short_of word) h has f
longs-filled c waiting word (Some p) h has f =
    after-filled c waiting word (long_met c (arg_by_long c p.0) p.1 h).0 (long_met c (arg_by_long c p.0) p.1 h).1
    (long-filled c (arg_by_long c p.0) p.1 h (has.long p.0) f)

subs-filled : (c : List Rule) (met : Option Text) (waiting : Waiting) (position : ℕ) (word : Text) (h : Held) → HasFlags c → IsFilled c h
    → IsFilled c (subcommand_or_other c met waiting position word h).0
subs-filled c (Some name) waiting position word h has f = f
subs-filled c None waiting position word h has f = go (bytes_eq word (45 ∷ 45 ∷ []))
  where
    go : (b : Bool) → IsFilled c (cond {A = Held × Step} b (h, trailing position) (long_or_other c waiting word (long_of word) h)).0
    go true = f
    go false = longs-filled c waiting word (long_of word) h has f

word-filled : (c : List Rule) (names : Names) (is_trailing : Bool) (waiting : Waiting) (position : ℕ) (word : Text) (h : Held) → HasFlags c → IsFilled c h
    → IsFilled c (word_met c names is_trailing waiting position word h).0
word-filled c names true waiting position word h has f = f
word-filled c names false waiting position word h has f = subs-filled c (subcommand_met names waiting word) waiting position word h has f

to-filled : (c : List Rule) (o : Option Rule) (word : Text) (w : Walk) (h : Held) → IsFilled c h → IsFilled c (to_positional c o word w h).held
to-filled c None word w h f = f
to-filled c (Some a) word w h f = placed-filled c a word h f

step-filled : (c : List Rule) (word : Text) (w : Walk) (h : Held) (step : Step) → IsFilled c h → IsFilled c (after_step c word w h step).held
step-filled c word w h (next waiting) f = f
step-filled c word w h (trailing position) f = f
step-filled c word w h (subcommand name) f = f
step-filled c word w h value f = to-filled c (arg_by_index c w.position) word w h f

turn-filled : (c : List Rule) (names : Names) (stop : Option (Text × List Text)) (w : Walk) (word : Text) → HasFlags c → IsFilled c w.held → IsFilled c (walked_from c names stop w word).held
turn-filled c names (Some p) w word has f = f
turn-filled c names None w word has f =
    let met = word_met c names w.is_trailing w.waiting w.position word w.held in
    step-filled c word w met.0 met.1 (word-filled c names w.is_trailing w.waiting w.position word w.held has f)

walk-filled : (c : List Rule) (names : Names) (w : Walk) (words : List Text) → HasFlags c → IsFilled c w.held → IsFilled c (fold (walked c names) w words).held
unfolding walked
walk-filled c names w [] has f = f
walk-filled c names w (word ∷ rest) has f = walk-filled c names (walked c names w word) rest has (turn-filled c names w.stopped w word has f)

-- ---- defaults

default-filled : (id : Text) (how : Reading) (values : List Text) (rows : List Row) → Filled rows → Filled (default_rows id how values rows)
default-filled id how [] rows e = e
default-filled id how (v ∷ vs) rows e = with_values-filled id how DefaultValue v vs rows e

with_default-filled : (a : Rule) (rows : List Row) (b : Bool) → Filled rows → Filled (cond b rows (default_rows a.id (reading_by a) a.defaults rows))
with_default-filled a rows true e = e
with_default-filled a rows false e = default-filled a.id (reading_by a) a.defaults rows e

defaults-filled : (rules : List Rule) (rows : List Row) → Filled rows → Filled (fold with_default rows rules)
defaults-filled [] rows e = e
defaults-filled (a ∷ rest) rows e = defaults-filled rest (with_default rows a) (with_default-filled a rows (has_row a.id rows) e)

-- the rows at the end of a walk
pub rows-filled : (c : List Rule) (names : Names) (w : Walk) (words : List Text) → HasFlags c → IsFilled c w.held → Filled (finished c (fold (walked c names) w words).held)
rows-filled c names w words has f = defaults-filled c _ (settle c _ (walk-filled c names w words has f)).rows

-- ---- a row that is given has a first value

given_here : (id : Text) (r : Row) (rs : List Row) (b : Bool) → (b ≡ true → lacks r.id ≡ false) → Filled (r ∷ rs) → (is_given id rs ≡ true → is_some (first_of id rs) ≡ true)
    → option_map_or (λ r. explicit_source r.source) (cond b (Some r) (find (λ r. bytes_eq r.id id) rs)) false ≡ true
    → is_some (option_and_then (λ r. slice_get r.values 0) (cond b (Some r) (find (λ r. bytes_eq r.id id) rs))) ≡ true
given_here id r rs true other e below h = first_of_either (has_text r.values) (lacks r.id) (first_true (has_value r) (list_all has_value rs) e) (other refl)
given_here id r rs false other e below h = below h

pub given_first : (id : Text) (rows : List Row) → lacks id ≡ false → Filled rows → is_given id rows ≡ true → is_some (first_of id rows) ≡ true
given_first id [] other e given = absurd (true≢false (sym given))
given_first id (r ∷ rs) other e given =
    given_here id r rs (bytes_eq r.id id) (λ same. ap lacks ((bytes_eq-Decides r.id id).0 same) ∙ other) e
    (given_first id rs other (second_true (has_value r) (list_all has_value rs) e)) given
