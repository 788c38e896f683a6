use Rattle.std.proofs.Common.{◌≡◌, ℕ, List, [], ◌∷◌, ◌++◌, true, false, bytes_eq, map, sym, ap, ◌∙◌, append_assoc}
use Rattle.std.proofs.lemmas.List.{map-append}
use Rattle.std.proofs.lemmas.Result.{err_from_is_err_and, IfOk-at_ok}
use Rattle.std.specs.Cow.{cow_str_bytes}
use Rattle.lrs_web_requests.specs.Query.{text_of, all_values}
use Rattle.lrs_web_requests.proofs.query.values_of.Goals.{then-eq+in_ok-push, else-eq+in-Owned-1, else-eq+in-Borrowed-1}
use Rattle.lrs_web_requests.proofs.query.values_of.Goals as goal

-- a pair of another name gives no value
passed : (name : List ℕ) (rest left : List (List ℕ × List ℕ)) (before all : List (List ℕ)) (k v key : List ℕ) → rest ≡ (k, v) ∷ left → key ≡ text_of k → bytes_eq key name ≡ false → before ++ all_values name rest ≡ all → before ++ all_values name left ≡ all
passed name rest left before all k v key is says other was =
    let e : bytes_eq (text_of k) name ≡ false = ap (λ t. bytes_eq t name) (sym says) ∙ other in
    let f : all_values name rest ≡ all_values name left = ap (all_values name) is ∙ rw e in
    ap (λ xs. before ++ xs) (sym f) ∙ was

-- a pair of the name gives its value
taken : {A : Type 0} (text : A → List ℕ) (name : List ℕ) (rest left : List (List ℕ × List ℕ)) (before : List A) (all : List (List ℕ)) (k v key : List ℕ) (value : A) → rest ≡ (k, v) ∷ left → key ≡ text_of k → text value ≡ text_of v → bytes_eq key name ≡ true
    → map text before ++ all_values name rest ≡ all → map text (before ++ value ∷ []) ++ all_values name left ≡ all
taken text name rest left before all k v key value is says means same was =
    let e : bytes_eq (text_of k) name ≡ true = ap (λ t. bytes_eq t name) (sym says) ∙ same in
    let f : all_values name rest ≡ text value ∷ all_values name left = ap (all_values name) is ∙ rw (e, means) in
    rw (map-append, append_assoc) (ap (λ xs. map text before ++ xs) (sym f) ∙ was)

pub loop-pair-preserved-after-eq : goal.loop-pair-preserved-after-eq
loop-pair-preserved-after-eq c =
    let a = c.in-Some.ensures.steps.0 in
    let e = IfOk-at_ok _ c.in_ok-key.was a.3 in
    let same = ap (λ t. bytes_eq t c.args.name.now) (sym c.as_str.ensures.value) ∙ sym c.eq.ensures in
    elim c.if-eq.branch [
      | then-eq+in_ok-push w ↦ rw (w.values-is, rw w.in_ok-push.was at w.push.ensures.items) (taken cow_str_bytes c.args.name.now _ _ c.loop-pair.values.items _ a.0 a.1 _ c.in_ok-key.value a.2 e.0.2 e.1.2 (same ∙ w.if-eq.true) c.loop-pair.invariant)
      | else-eq+in-Owned-1 w ↦ rw w.values-is (passed c.args.name.now _ _ _ _ a.0 a.1 _ a.2 e.0.2 (same ∙ w.if-eq.false) c.loop-pair.invariant)
      | else-eq+in-Borrowed-1 w ↦ rw w.values-is (passed c.args.name.now _ _ _ _ a.0 a.1 _ a.2 e.0.2 (same ∙ w.if-eq.false) c.loop-pair.invariant)
    ]

pub loop-pair-preserved : goal.loop-pair-preserved
loop-pair-preserved c =
    let a = c.in-Some.ensures.steps.0 in
    let e = IfOk-at_ok _ c.in_ok-key.was a.3 in
    let same = ap (λ t. bytes_eq t c.args.name.now) (sym c.as_str.ensures.value) ∙ sym c.eq.ensures in
    elim c.if-eq.branch [
      | then-eq+in_ok-push w ↦ rw (w.values-is, rw w.in_ok-push.was at w.push.ensures.items) (taken cow_str_bytes c.args.name.now _ _ c.loop-pair.values.items _ a.0 a.1 _ c.in_ok-key.value a.2 e.0.2 e.1.2 (same ∙ w.if-eq.true) c.loop-pair.invariant)
      | else-eq+in-Owned-1 w ↦ rw w.values-is (passed c.args.name.now _ _ _ _ a.0 a.1 _ a.2 e.0.2 (same ∙ w.if-eq.false) c.loop-pair.invariant)
      | else-eq+in-Borrowed-1 w ↦ rw w.values-is (passed c.args.name.now _ _ _ _ a.0 a.1 _ a.2 e.0.2 (same ∙ w.if-eq.false) c.loop-pair.invariant)
    ]

pub returns-in_err-key : goal.returns-in_err-key
returns-in_err-key c = rw (err_from_is_err_and c.from_residual.result c.from_residual.ensures.1).1 tt

pub returns-in_err-push : goal.returns-in_err-push
returns-in_err-push c = rw (err_from_is_err_and c.from_residual-in_err-push.result c.from_residual-in_err-push.ensures.1).1 tt
