-- Why rows rise by their keys: for the law of `Keyed`.
use Rattle.std.proofs.Common.{◌≡◌, ℕ, Bool, true, false, cond, refl, sym, ap, ◌∙◌}
use Rattle.std.specs.Prelude.{nat_lt, nat_eq}
use Rattle.std.specs.declared.cmp.Ordering.{Ordering}
use Rattle.std.specs.declared.cmp.Ordering.TheVariants.{Less, Equal, Greater}
use Rattle.std.specs.Ordering.{nat_cmp, is_lt}
use Rattle.std.specs.Cmp.{IsTotalOrder, alike_right}
use Rattle.std.proofs.lemmas.Cmp.{nat_cmp_total, nat_list_cmp_total}
use Rattle.std.proofs.lemmas.Bool.{false≢true}
use Rattle.lrs_measure.specs.Texts.{Name, name_cmp, name_before}

is_less : (r : Ordering) → is_lt r ≡ true → r ≡ Less
is_less Less h = refl
is_less Equal h = absurd (false≢true h)
is_less Greater h = absurd (false≢true h)

module _ {K : Type 0} {R : K → K → Ordering} (o : IsTotalOrder R) where
  after_by : (a b k : K) (r : Ordering) → R b k ≡ r → R a b ≡ Less → is_lt (R a k) ≡ false → r ≡ Greater
  after_by a b k Less e less from = absurd (false≢true (sym from ∙ ap is_lt (o.trans a b k less e)))
  after_by a b k Equal e less from = absurd (false≢true (sym from ∙ ap is_lt (sym (alike_right o b k a e) ∙ less)))
  after_by a b k Greater e less from = refl

  -- Behind one that is not below k, each is above k.
  pub key_after : (a b k : K) → is_lt (R a b) ≡ true → is_lt (R a k) ≡ false → R b k ≡ Greater
  key_after a b k less from = after_by a b k (R b k) refl (is_less (R a b) less) from

-- to be less and to be before in the order of numbers are one
pub numbers_agree : (m n : ℕ) → nat_lt m n ≡ is_lt (nat_cmp m n)
numbers_agree m n = by (nat_lt m n) (nat_eq m n)
  where
    by : (b c : Bool) → b ≡ is_lt (cond b Less (cond c Equal Greater))
    by true c = refl
    by false true = refl
    by false false = refl

-- of numbers
pub number_after : (a b n : ℕ) → nat_lt a b ≡ true → is_lt (nat_cmp a n) ≡ false → nat_cmp b n ≡ Greater
number_after a b n less from = key_after nat_cmp_total a b n (sym (numbers_agree a b) ∙ less) from

-- of names
pub name_after : (a b n : Name) → name_before a b ≡ true → is_lt (name_cmp a n) ≡ false → name_cmp b n ≡ Greater
name_after = key_after nat_list_cmp_total
