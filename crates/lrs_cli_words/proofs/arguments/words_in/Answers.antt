use Rattle.std.proofs.Common.{◌≡◌, ◌∙◌, ℕ, true≢false, List, Option, Some, None, is_some, map, option_map, refl, sym, ap, Bor, IfSome, IfNone}
use Rattle.std.specs.Prelude.{option_and_then, slice_get}
use Rattle.clap.specs.Words.{Row, found_of}
use Rattle.clap.proofs.WalkLemmas.{raw_values-rows}
use Rattle.lrs_cli_words.proofs.arguments.words_in.Goals as goal

abbrev Found : Type 0
Found = Option (Bor (List (Bor (List ℕ))))

none_of : (o : Found) (row : Option Row) → option_map (λ s. map (λ v. v.now) s.now) o ≡ option_map (λ r. r.values) row → IfNone o (option_and_then (λ r. slice_get r.values 0) row ≡ None)
none_of None None e = refl
none_of None (Some r) e = absurd (true≢false (sym (ap is_some e)))
none_of (Some w) row e = tt

none_at_all_of : (o : Found) (all : Option (List (List ℕ))) → option_map (λ s. map (λ v. v.now) s.now) o ≡ all → IfNone o (all ≡ None)
none_at_all_of None all e = sym e
none_at_all_of (Some w) all e = tt

some_of : (o : Found) (all : Option (List (List ℕ))) → option_map (λ s. map (λ v. v.now) s.now) o ≡ all → IfSome o (λ w. all ≡ Some (map (λ v. v.now) w.now))
some_of None all e = tt
some_of (Some w) all e = sym e

pub returns : goal.returns
returns c =
    let same = c.get_strs.ensures ∙ raw_values-rows (found_of c.args.given.now) c.args.id.now in
    record { none = none_of c.get_strs.result _ same; none_at_all = none_at_all_of c.get_strs.result _ same; some = some_of c.get_strs.result _ same }
