-- Known bytes that are read or written one text after another.
use Rattle.std.proofs.Common.{ℕ, List, [], ◌++◌, Option, Some, None, refl, sym, ap, ◌∙◌, append_assoc}
use Rattle.std.specs.Io.KnownBytes.{Consumes}

pub Consumes-nothing : (a : Option (List ℕ)) → Consumes a a []
Consumes-nothing None = tt
Consumes-nothing (Some x) = refl

pub Consumes-then : (u v w : Option (List ℕ)) (a b : List ℕ) → Consumes u v a → Consumes v w b → Consumes u w (a ++ b)
Consumes-then None v w a b x y = tt
Consumes-then (Some xs) None w a b x y = absurd x
Consumes-then (Some xs) (Some ys) None a b x y = y
Consumes-then (Some xs) (Some ys) (Some zs) a b x y = x ∙ ap (λ (t : List ℕ). a ++ t) y ∙ sym (append_assoc a b zs)
