-- Parts as rows of what is gone.
use Rattle.std.proofs.Common.{◌≡◌, ℕ, Bool, true, false, List, [], ◌∷◌, map, refl, sym, ap, ap₂, subst, ◌∙◌}
use Rattle.std.specs.Prelude.{◌&&◌, nat_eq, nat_lt, if◌then◌else◌}
use Rattle.std.specs.List.{list_any, list_all}
use Rattle.std.proofs.lemmas.List.Folds.{list_all-map}
use Rattle.lrs_measure.specs.Lists.{each_two}
use Rattle.lrs_measure.proofs.Members.{list_any-map}
use Rattle.lrs_events.specs.declared.part.Part.{Part}
use Rattle.lrs_events.specs.declared.part.Gone.{Gone}
use Rattle.lrs_events.specs.Parts.{has_pair, IsHadOnce, part_before}
use Rattle.lrs_events.specs.Places.{Place}
use Rattle.lrs_machine.specs.State.{Reason, Retired, Abandoned, same_reason}
use Rattle.lrs_machine.specs.Image.{reason_of}
use Rattle.lrs_machine.specs.Sound.{gone_before, parts_of}
use Rattle.lrs_machine.proofs.Pairs.{each_two-map}
use Rattle.lrs_image_laws.specs.Orderly.{is_filled}
use Rattle.lrs_image_laws.specs.GoneRows.{AreGone}

abbrev pub gone_of : Bool → Part → Gone
gone_of abandoned part = record { part = part; abandoned = abandoned }

abbrev why_of : Bool → Reason
why_of abandoned = if abandoned then Abandoned else Retired

parts_are : (b : Bool) (parts : List Part) → parts_of (map (gone_of b) parts) ≡ parts
parts_are b [] = refl
parts_are b (x ∷ xs) = ap (λ t. x ∷ t) (parts_are b xs)

-- they keep their order, since they are of one reason
same_order : (b : Bool) (x y : Part) → gone_before (gone_of b x) (gone_of b y) ≡ part_before x y
same_order true x y = refl
same_order false x y = refl

either_way : (b : Bool) (because : Reason) → same_reason (why_of b) because ≡ same_reason because (why_of b)
either_way true Retired = refl
either_way true Abandoned = refl
either_way false Retired = refl
either_way false Abandoned = refl

any_and : (c : Bool) (p : Part → Bool) (xs : List Part) → list_any (λ x. c && p x) xs ≡ (c && list_any p xs)
any_and true p xs = refl
any_and false p [] = refl
any_and false p (x ∷ xs) = any_and false p xs

swap : (a b c : Bool) → (a && (b && c)) ≡ ((b && a) && c)
swap true true c = refl
swap true false c = refl
swap false true c = refl
swap false false c = refl

pub are_gone : (edit : ℕ) (b : Bool) (taken : ℕ → Place → Bool) (parts : List Part) → list_all (λ part. nat_eq part.edit edit) parts ≡ true
    → ((m asset : ℕ) (p : Place) → list_any (λ part. has_pair part m asset p) parts ≡ (nat_eq m edit && taken asset p))
    → IsHadOnce parts → each_two part_before parts ≡ true → list_all (λ part. nat_lt part.from part.to) parts ≡ true
    → AreGone edit (why_of b) taken (map (gone_of b) parts)
are_gone edit b taken parts own pairs once order filled = record {
  edit_is = list_all-map (λ (g : Gone). nat_eq g.part.edit edit) (gone_of b) parts ∙ own;
  pairs = λ m because a p.
      list_any-map (λ g. same_reason (reason_of g) because && has_pair g.part m a p) (gone_of b) parts
      ∙ any_and (same_reason (why_of b) because) (λ part. has_pair part m a p) parts
      ∙ ap₂ (λ r t. r && t) (either_way b because) (pairs m a p)
      ∙ swap (same_reason because (why_of b)) (nat_eq m edit) (taken a p);
  once = subst IsHadOnce (sym (parts_are b parts)) once;
  order = each_two-map gone_before (gone_of b) parts ∙ ap (λ test. each_two test parts) (λ i x y. same_order b x y i) ∙ order;
  filled = ap (list_all is_filled) (parts_are b parts) ∙ filled;
}
