-- No name and no value has a character that means something in a picture.
use Rattle.std.proofs.Common.{◌≡◌, ℕ, ◌∙◌, Bool, true, false, List, [], ◌∷◌, refl, ap, sym, cond}
use Rattle.std.specs.Prelude.{◌&&◌, ◌||◌, ◌==◌, not, nat_eq, IsTrue}
use Rattle.std.specs.List.{list_all, list_any}
use Rattle.std.proofs.lemmas.Bool.{eqb-true}
use Rattle.lrs_measure.specs.Alphabets.{is_capital, is_text, is_word_byte}
use Rattle.lrs_events.specs.Names.{is_class_name, is_value}
use Rattle.lrs_position.specs.Names.{is_referent_name, is_route_byte, is_route_name}
use Rattle.lrs_report.specs.Drawings.Laws.{IsPlain, TextsArePlain, is_plain_byte}

both : (a b : Bool) → (a && b) ≡ true → (a ≡ true) × (b ≡ true)
both true true h = (refl, refl)
both true false h = absurd (cc)
both false b h = absurd (cc)

-- a byte that passes a test is none that does not
differs : (test : ℕ → Bool) (byte other : ℕ) → test byte ≡ true → test other ≡ false → nat_eq byte other ≡ false
differs test byte other passes fails = by (nat_eq byte other) refl
  where
    by : (b : Bool) → nat_eq byte other ≡ b → nat_eq byte other ≡ false
    by false h = h
    by true h = absurd (cc (ap test (eqb-true byte other h), passes, fails))

plain_byte : (test : ℕ → Bool) → test 38 ≡ false → test 39 ≡ false → test 60 ≡ false → (byte : ℕ) → test byte ≡ true → is_plain_byte byte ≡ true
plain_byte test ampersand apostrophe less byte passes =
    simp (differs test byte 38 passes ampersand, differs test byte 39 passes apostrophe, differs test byte 60 passes less)

all_plain : (test : ℕ → Bool) → test 38 ≡ false → test 39 ≡ false → test 60 ≡ false → (text : List ℕ) → list_all test text ≡ true → list_all is_plain_byte text ≡ true
all_plain test a b c [] h = refl
all_plain test a b c (byte ∷ rest) h =
    let parts = both (test byte) (list_all test rest) h in
    ap (λ p. p && list_all is_plain_byte rest) (plain_byte test a b c byte parts.0) ∙ all_plain test a b c rest parts.1

pub are_plain : TextsArePlain
are_plain text = (
  λ h. all_plain is_route_byte refl refl refl text (both _ _ (both _ _ h).0).1,
  λ h. all_plain is_capital refl refl refl text (both _ _ h).1,
  λ h. all_plain is_capital refl refl refl text (both _ _ h).1,
  λ h. all_plain is_word_byte refl refl refl text (both _ _ (both _ _ h).0).1,
)
