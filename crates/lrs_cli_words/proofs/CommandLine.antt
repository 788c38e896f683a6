-- What `clap` says of the command line of the program.
use Rattle.std.proofs.Common.{◌≡◌, ◌∙◌, ◌⊎◌, List, true, ap, refl, subst}
use Rattle.clap.specs.Words.{App, HasKind, IsAmong, Kinds, Text, fault_of, is_simple_and_free, kind_of}
use Rattle.clap.specs.declared.error.Error.{Error}
use Rattle.clap.specs.declared.error.ErrorKind.{ErrorKind}
use Rattle.clap.specs.declared.error.ErrorKind.TheVariants as kind
use Rattle.lrs_cli_words.specs.Words.{line_of_program}

is_free : is_simple_and_free line_of_program ≡ true
is_free = refl

-- an error has a kind that the words bring
pub kind_at : (a : App) (words : List Text) (e : Error) → a ≡ line_of_program → (is_simple_and_free a ≡ true → HasKind (fault_of a words) e)
    → (kind_of e ≡ kind.OutOfMemory) ⊎ IsAmong (kind_of e) (fault_of line_of_program words)
kind_at a words e same found = subst (λ (x : App). HasKind (fault_of x words) e) same (found (ap is_simple_and_free same ∙ is_free))

pub among : (ks : Kinds) {k l : ErrorKind} → k ≡ l → IsAmong k ks → IsAmong l ks
among ks same h = subst (λ (k : ErrorKind). IsAmong k ks) same h
