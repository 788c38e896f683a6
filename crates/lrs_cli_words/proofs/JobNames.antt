-- Where `clap` finds no fault with the words, they name a job and no help.
use Rattle.std.proofs.Common.{◌≡◌, ◌&&◌, ℕ, Bool, true, false, true≢false, not, cond, List, [], ◌∷◌, Option, Some, None, is_some, refl, ap, codes}
use Rattle.std.specs.List.{fold}
use Rattle.std.specs.Option.{option_map_or}
use Rattle.std.specs.Str.{bytes_eq}
use Rattle.clap.specs.Lexer.{long_of, short_of}
use Rattle.clap.specs.Kinds.{Kinds, or_else}
use Rattle.clap.specs.Walk.{Held, Names, Outcome, done, waits, plain, refused, Rule, Step, next, trailing, subcommand, value, Text, Waiting, idle, option, positional, Walk, after_flag, after_step, arg_by_index, arg_by_long, bundle, long_met, long_or_other, plain_word, short_or_plain, subcommand_met, subcommand_or_other, to_positional, walked, walked_from, word_met}
use Rattle.clap.specs.Faults.{other_fault, step_fault, turn_fault, walk_fault, word_fault}
use Rattle.clap.specs.Simple.{Shape}
use Rattle.clap.specs.declared.error.ErrorKind.{ErrorKind}
use Rattle.clap.specs.declared.error.ErrorKind.TheVariants as kind

abbrev has_kinds : Kinds → Bool
has_kinds [] = false
has_kinds (k ∷ ks) = true

pub no_kinds : {P : Type 0} (k : ErrorKind) (ks : Kinds) → k ∷ ks ≡ [] → P
no_kinds k ks e = absurd (true≢false (ap has_kinds e))

pub first_none : (a b : Kinds) → or_else a b ≡ [] → a ≡ []
first_none [] b e = refl
first_none (k ∷ ks) b e = e

pub second_none : (a b : Kinds) → or_else a b ≡ [] → b ≡ []
second_none [] b e = e
second_none (k ∷ ks) b e = no_kinds k ks e

-- the walk stopped at the word `help`
abbrev pub names_help : Option (Text × List Text) → Bool
names_help stop = option_map_or (λ p. bytes_eq p.0 (codes "help")) stop false

abbrev helps : Step → Bool
helps (subcommand name) = bytes_eq name (codes "help")
helps _ = false

plain_helps : (c : List Rule) (waiting : Waiting) (word : Text) (h : Held) → helps (plain_word c waiting word h).1 ≡ false
plain_helps c idle word h = refl
plain_helps c (option id) word h = refl
plain_helps c positional word h = refl

flag_helps : (c : List Rule) (waiting : Waiting) (word : Text) (h : Held) (o : Outcome) → helps (after_flag c waiting word h o).1 ≡ false
flag_helps c waiting word h done = refl
flag_helps c waiting word h (waits id) = refl
flag_helps c waiting word h plain = plain_helps c waiting word h
flag_helps c waiting word h refused = plain_helps c waiting word h

short_helps : (c : List Rule) (waiting : Waiting) (word : Text) (o : Option Text) (h : Held) → helps (short_or_plain c waiting word o h).1 ≡ false
short_helps c waiting word None h = plain_helps c waiting word h
short_helps c waiting word (Some flags) h = flag_helps c waiting word (bundle c flags h).0 (bundle c flags h).1

long_helps : (c : List Rule) (waiting : Waiting) (word : Text) (l : Option (Text × Option Text)) (h : Held) → helps (long_or_other c waiting word l h).1 ≡ false
long_helps c waiting word None h = short_helps c waiting word (short_of word) h
long_helps c waiting word (Some p) h = flag_helps c waiting word (long_met c (arg_by_long c p.0) p.1 h).0 (long_met c (arg_by_long c p.0) p.1 h).1

named : (b d : Bool) (k : ErrorKind) (ks : Kinds) → d ≡ false → cond (b && not d) (k ∷ ks) [] ≡ [] → b ≡ false
named false d k ks off e = refl
named true true k ks off e = off
named true false k ks off e = no_kinds k ks e

dashes : (c : List Rule) (waiting : Waiting) (position : ℕ) (word : Text) (h : Held) (b : Bool)
    → helps (cond {A = Held × Step} b (h, trailing position) (long_or_other c waiting word (long_of word) h)).1 ≡ false
dashes c waiting position word h true = refl
dashes c waiting position word h false = long_helps c waiting word (long_of word) h

sub_helps : (s : Shape) (met : Option Text) (waiting : Waiting) (position : ℕ) (word : Text) (h : Held) → s.disable_help_subcommand ≡ false
    → other_fault s met word h ≡ [] → helps (subcommand_or_other s.rules met waiting position word h).1 ≡ false
sub_helps s None waiting position word h off e = dashes s.rules waiting position word h (bytes_eq word (45 ∷ 45 ∷ []))
sub_helps s (Some name) waiting position word h off e = named (bytes_eq name (codes "help")) s.disable_help_subcommand kind.DisplayHelp _ off e

word_helps : (s : Shape) (names : Names) (is_trailing : Bool) (waiting : Waiting) (position : ℕ) (word : Text) (h : Held) → s.disable_help_subcommand ≡ false
    → word_fault s names is_trailing waiting word h ≡ [] → helps (word_met s.rules names is_trailing waiting position word h).1 ≡ false
word_helps s names true waiting position word h off e = refl
word_helps s names false waiting position word h off e = sub_helps s (subcommand_met names waiting word) waiting position word h off e

placed : (c : List Rule) (o : Option Rule) (word : Text) (w : Walk) (h : Held) → names_help w.stopped ≡ false → names_help (to_positional c o word w h).stopped ≡ false
placed c None word w h e = e
placed c (Some a) word w h e = refl

step_stops : (c : List Rule) (word : Text) (w : Walk) (h : Held) (step : Step) → helps step ≡ false → names_help w.stopped ≡ false
    → names_help (after_step c word w h step).stopped ≡ false
step_stops c word w h (next waiting) other e = e
step_stops c word w h (trailing position) other e = e
step_stops c word w h (subcommand name) other e = other
step_stops c word w h value other e = placed c (arg_by_index c w.position) word w h e

turn_from : (s : Shape) (names : Names) (w : Walk) (word : Text) (stop : Option (Text × List Text)) → s.disable_help_subcommand ≡ false
    → cond (is_some stop) [] (or_else (word_fault s names w.is_trailing w.waiting word w.held)
    (step_fault s w.position (word_met s.rules names w.is_trailing w.waiting w.position word w.held).0 (word_met s.rules names w.is_trailing w.waiting w.position word w.held).1)) ≡ []
    → names_help stop ≡ false → names_help w.stopped ≡ false → names_help (walked_from s.rules names stop w word).stopped ≡ false
turn_from s names w word (Some p) off e stays stopped = stays
turn_from s names w word None off e stays stopped =
    let met = word_met s.rules names w.is_trailing w.waiting w.position word w.held in
    step_stops s.rules word w met.0 met.1 (word_helps s names w.is_trailing w.waiting w.position word w.held off (first_none _ _ e)) stopped

-- a walk that finds no fault does not stop at `help`
pub walk_stops : (s : Shape) (names : Names) (w : Walk) (words : List Text) → s.disable_help_subcommand ≡ false → walk_fault s names w words ≡ []
    → names_help w.stopped ≡ false → names_help (fold (walked s.rules names) w words).stopped ≡ false
unfolding walked walk_fault
walk_stops s names w [] off e stopped = stopped
walk_stops s names w (word ∷ rest) off e stopped =
    walk_stops s names (walked s.rules names w word) rest off (second_none (turn_fault s names w word) _ e)
    (turn_from s names w word w.stopped off (first_none (turn_fault s names w word) _ e) stopped stopped)
