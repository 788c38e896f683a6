use Rattle.std.proofs.Common.{◌≡◌, ◌∙◌, ℕ, List, Option, Some, None, option_map, sym, Bor, IfSome, IfNone}
use Rattle.clap.specs.Words.{found_of}
use Rattle.clap.proofs.WalkLemmas.{first_value-rows}
use Rattle.lrs_cli_words.proofs.arguments.word_in.Goals as goal

none_of : (o : Option (Bor (List ℕ))) (row : Option (List ℕ)) → option_map (λ s. s.now) o ≡ row → IfNone o (row ≡ None)
none_of None row e = sym e
none_of (Some w) row e = tt

some_of : (o : Option (Bor (List ℕ))) (row : Option (List ℕ)) → option_map (λ s. s.now) o ≡ row → IfSome o (λ w. row ≡ Some w.now)
some_of None row e = tt
some_of (Some w) row e = sym e

pub returns : goal.returns
returns c =
    let same = c.get_str.ensures ∙ first_value-rows (found_of c.args.given.now) c.args.id.now in
    record { none = none_of c.get_str.result _ same; some = some_of c.get_str.result _ same }
