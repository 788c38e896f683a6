use Rattle.std.proofs.Common.{◌≡◌, ℕ, List, ◌∷◌, Bool, true, false, bytes_eq, Option, Some, sym, ap, ◌∙◌}
use Rattle.std.proofs.lemmas.Result.{IfOk-at_ok}
use Rattle.std.specs.Cow.{cow_str_bytes}
use Rattle.std.specs.List.{list_any}
use Rattle.lrs_web_requests.specs.Query.{first_unknown, text_of}
use Rattle.lrs_web_requests.proofs.query.unknown_name.Goals as goal

-- a name that is known is passed over
passed : (knows : List ℕ → Bool) (rest left : List (List ℕ × List ℕ)) (due : Option (List ℕ)) (k v key : List ℕ) → rest ≡ (k, v) ∷ left → key ≡ text_of k → knows key ≡ true → first_unknown knows rest ≡ due → first_unknown knows left ≡ due
passed knows rest left due k v key is says known was =
    let e : knows (text_of k) ≡ true = ap knows (sym says) ∙ known in
    let f : first_unknown knows rest ≡ first_unknown knows left = ap (first_unknown knows) is ∙ rw e in
    sym f ∙ was

-- one that is not known is the first
found : (knows : List ℕ → Bool) (rest left : List (List ℕ × List ℕ)) (due : Option (List ℕ)) (k v key : List ℕ) → rest ≡ (k, v) ∷ left → key ≡ text_of k → knows key ≡ false → first_unknown knows rest ≡ due → Some key ≡ due
found knows rest left due k v key is says unknown was =
    let e : knows (text_of k) ≡ false = ap knows (sym says) ∙ unknown in
    let f : first_unknown knows rest ≡ Some (text_of k) = ap (first_unknown knows) is ∙ rw e in
    ap Some says ∙ sym f ∙ was

pub returns-then-not-is_among : goal.returns-then-not-is_among
returns-then-not-is_among c =
    let knows : List ℕ → Bool = λ text. list_any (λ one. bytes_eq text one.now) c.args.known.now in
    let a = c.in-Some.ensures.steps.0 in
    let e = IfOk-at_ok _ c.in_ok-key.was a.3 in
    found knows _ _ _ a.0 a.1 (cow_str_bytes c.in_ok-key.key) a.2 e.0.2 (ap knows (sym c.as_str.ensures.value) ∙ sym c.is_among.ensures ∙ c.if-not-is_among.true) c.loop-pair.invariant

pub loop-pair-preserved-else-not-is_among : goal.loop-pair-preserved-else-not-is_among
loop-pair-preserved-else-not-is_among c =
    let knows : List ℕ → Bool = λ text. list_any (λ one. bytes_eq text one.now) c.args.known.now in
    let a = c.in-Some.ensures.steps.0 in
    let e = IfOk-at_ok _ c.in_ok-key.was a.3 in
    passed knows _ _ _ a.0 a.1 (cow_str_bytes c.in_ok-key.key) a.2 e.0.2 (ap knows (sym c.as_str.ensures.value) ∙ sym c.is_among.ensures ∙ c.if-not-is_among.false) c.loop-pair.invariant

pub loop-pair-preserved : goal.loop-pair-preserved
loop-pair-preserved c =
    let knows : List ℕ → Bool = λ text. list_any (λ one. bytes_eq text one.now) c.args.known.now in
    let a = c.in-Some.ensures.steps.0 in
    let e = IfOk-at_ok _ c.in_ok-key.was a.3 in
    passed knows _ _ _ a.0 a.1 (cow_str_bytes c.in_ok-key.key) a.2 e.0.2 (ap knows (sym c.as_str.ensures.value) ∙ sym c.is_among.ensures ∙ c.if-not-is_among.false) c.loop-pair.invariant
