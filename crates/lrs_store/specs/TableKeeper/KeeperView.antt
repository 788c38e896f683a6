-- What is seen of a keeper over tables.
use Rattle.std.specs.Prelude.{ℕ, Bool, refl}
use Rattle.std.specs.Coded.{Coded, code_by, coded×, coded_ℕ, coded_bool}
use Rattle.sqlite.specs.Held.{Held, held_code}

pub record KeeperView (S R : Type 0) : Type 0 where
  pub conn : Held S
  pub reader : R
  -- how many edits are kept, once the image is loaded
  pub edits : ℕ
  pub is_loaded : Bool
  -- whether a write has failed, so that the connection is not used again
  pub is_broken : Bool
  pub failures : ℕ

abbrev pub view_code : {S R : Type 0} → Coded S → Coded R → Coded (KeeperView S R)
view_code {S} {R} store reader =
    code_by (Held S × (R × (ℕ × (Bool × (Bool × ℕ)))))
    (coded× (held_code store) (coded× reader (coded× coded_ℕ (coded× coded_bool (coded× coded_bool coded_ℕ)))))
    (λ k. (k.conn, (k.reader, (k.edits, (k.is_loaded, (k.is_broken, k.failures))))))
    (λ p. record { conn = p.0; reader = p.1.0; edits = p.1.1.0; is_loaded = p.1.1.1.0; is_broken = p.1.1.1.1.0; failures = p.1.1.1.1.1 })
    (λ _. refl)
