-- The bytes of names are ASCII.
use Rattle.std.proofs.Common.{◌≡◌, ℕ, ◌<◌, Bool, true, List, [], ◌∷◌, arith}
use Rattle.std.specs.List.{list_all}
use Rattle.std.specs.Str.{IsAscii}
use Rattle.std.proofs.lemmas.Bool.{and_parts}
use Rattle.std.proofs.lemmas.Bool.Decides.{nat_tests}
use Rattle.std.proofs.lemmas.Str.Ascii.{IsAscii-nil, IsAscii-cons}
use Rattle.lrs_measure.specs.Alphabets.{is_capital, is_word_byte, is_text, has_length, has_dash_first, is_lone_dash}
use Rattle.lrs_position.specs.Names.{is_route_byte, is_route_name, is_referent_name}
use Rattle.lrs_events.specs.Names.{is_class_name, is_value}
use Rattle.std.specs.Prelude.{not}

IsAscii-from_test : (test : ℕ → Bool) → ((b : ℕ) → test b ≡ true → b < 128) → (bs : List ℕ) → list_all test bs ≡ true → IsAscii bs
IsAscii-from_test test small [] h = IsAscii-nil
IsAscii-from_test test small (b ∷ bs) h = let p = and_parts (test b) (list_all test bs) h in IsAscii-cons b bs (small b p.0) (IsAscii-from_test test small bs p.1)

IsAscii-from_text : (most : ℕ) (test : ℕ → Bool) → ((b : ℕ) → test b ≡ true → b < 128) → (bs : List ℕ) → is_text most test bs ≡ true → IsAscii bs
IsAscii-from_text most test small bs h = IsAscii-from_test test small bs (and_parts (has_length most bs) (list_all test bs) h).1

capital_small : (b : ℕ) → is_capital b ≡ true → b < 128
capital_small b h = grind (arith, nat_tests)

route_small : (b : ℕ) → is_route_byte b ≡ true → b < 128
route_small b h = grind (arith, nat_tests)

word_small : (b : ℕ) → is_word_byte b ≡ true → b < 128
word_small b h = grind (arith, nat_tests)

pub IsAscii-route : (name : List ℕ) → is_route_name name ≡ true → IsAscii name
IsAscii-route name h = IsAscii-from_text 12 is_route_byte route_small name (and_parts (is_text 12 is_route_byte name) (not (has_dash_first name)) h).0

pub IsAscii-referent : (name : List ℕ) → is_referent_name name ≡ true → IsAscii name
IsAscii-referent name h = IsAscii-from_text 12 is_capital capital_small name h

pub IsAscii-class : (name : List ℕ) → is_class_name name ≡ true → IsAscii name
IsAscii-class name h = IsAscii-from_text 8 is_capital capital_small name h

pub IsAscii-value : (value : List ℕ) → is_value value ≡ true → IsAscii value
IsAscii-value value h = IsAscii-from_text 12 is_word_byte word_small value (and_parts (is_text 12 is_word_byte value) (not (is_lone_dash value)) h).0
