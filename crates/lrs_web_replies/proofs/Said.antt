-- What is said where it may be left out, of what may not be.
use Rattle.std.proofs.Common.{◌≡◌, ℕ, Option, None, Some, inl, inr}
use Rattle.std.specs.Prelude.{◌⊎◌, codes}
use Rattle.lrs_web_requests.specs.Query.{parameter}
use Rattle.lrs_web_replies.specs.Faults.{Lacks}
use Rattle.lrs_web_replies.specs.Questions.{Text, Said, SaidIfGiven, SaidOrFirst, SaysEdit}
use Rattle.lrs_web_replies.specs.declared.question.Parameter.TheVariants.{FirstEdit}
use Rattle.lrs_web_replies.specs.declared.question.QueryFault.{QueryFault}
use Rattle.lrs_web_replies.specs.declared.question.QueryFault.TheVariants.{Malformed, Memory}

-- nothing is given, so nothing is said
pub none_said : {A : Type 0} (Says : Text → A → Type 0) (text : Option Text) → SaidIfGiven Says text None → (x : A) → Said Says text x → ⊥
none_said Says None given x said = said
none_said Says (Some text) given x said = given

-- what is given is said
pub some_said : {A : Type 0} (Says : Text → A → Type 0) (text : Option Text) (x : A) → SaidIfGiven Says text (Some x) → Said Says text x
some_said Says None x given = given
some_said Says (Some text) x given = given

-- what cannot be given is not said
pub not_said : {A : Type 0} (Says : Text → A → Type 0) (text : Option Text) → ((o : Option A) → SaidIfGiven Says text o → ⊥) → (x : A) → Said Says text x → ⊥
not_said Says None none x said = said
not_said Says (Some text) none x said = none (Some x) said

-- what cannot be given is not said, and lack of memory stays
pub not_given : {A : Type 0} (Says : Text → A → Type 0) (text : Option Text) (fault e : QueryFault) → (e ≡ Memory) ⊎ ((e ≡ fault) × ((o : Option A) → SaidIfGiven Says text o → ⊥))
    → (e ≡ Memory) ⊎ ((e ≡ fault) × ((x : A) → Said Says text x → ⊥))
not_given Says text fault e (inl memory) = inl memory
not_given Says text fault e (inr none) = inr (none.0, not_said Says text none.1)

not_first : (text : Option Text) → ((o : Option ℕ) → SaidIfGiven SaysEdit text o → ⊥) → (number : ℕ) → SaidOrFirst text number → ⊥
not_first None none number said = none None tt
not_first (Some text) none number said = none (Some number) said

-- neither the number of an edit nor nothing is given
pub lacks_first : (query : Text) (e : QueryFault) → (e ≡ Memory) ⊎ ((e ≡ Malformed FirstEdit) × ((o : Option ℕ) → SaidIfGiven SaysEdit (parameter (codes "from") query) o → ⊥)) → Lacks FirstEdit query e
lacks_first query e (inl memory) = inl memory
lacks_first query e (inr none) = inr (none.0, λ given. not_first (parameter (codes "from") query) none.1 given.0 given.1)
