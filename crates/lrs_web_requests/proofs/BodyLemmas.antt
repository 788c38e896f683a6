-- Lemmas on a buffer that is filled from an input.
use Rattle.std.proofs.Common.{◌≡◌, ℕ, ◌+◌, ◌≤◌, List, [], ◌++◌, length, take, drop, Option, None, Some, IfSome, sym, ap, ◌∙◌, subst, append_assoc, append-nil, arith, length-append, cond, nat_lt, length-take-le}
use Rattle.std.proofs.lemmas.List.{take-take, drop-append-le, take-append-drop, take_all}
use Rattle.std.proofs.Math.Seq.{take-add, take-append_seam}
use Rattle.std.proofs.Math.ListN.{drop_of_length-le}
use Rattle.std.specs.Io.KnownBytes.{Consumes}
use Rattle.lrs_web_requests.specs.HeadReadings.{ReadsOn}
use Rattle.lrs_web_requests.specs.Body.{FilledTo, Fills, body_at}

Consumes-then : (u v w : Option (List ℕ)) (a b : List ℕ) → Consumes u v a → Consumes v w b → Consumes u w (a ++ b)
Consumes-then None v w a b x y = tt
Consumes-then (Some xs) None w a b x y = absurd x
Consumes-then (Some xs) (Some ys) None a b x y = y
Consumes-then (Some xs) (Some ys) (Some zs) a b x y = x ∙ ap (λ (t : List ℕ). a ++ t) y ∙ sym (append_assoc a b zs)

-- one more read
pub filled_on : (a b c : Option (List ℕ)) (from filled count : ℕ) (first before after : List ℕ)
    → FilledTo a b from first before filled → ReadsOn b c filled count before after → length after ≡ length before
    → FilledTo a c from first after (filled + count)
filled_on a b c from filled count first before after earlier read kept =
    let within : from ≤ filled = earlier.starts in
    let fits : filled ≤ length after = omega (arith, read.fits) in
    let same : take from after ≡ take from before = sym (take-take from filled after within) ∙ ap (take from) read.front ∙ take-take from filled before within in
    let long : from ≤ length (take filled after) = omega (arith, length-take-le filled after fits) in
    let joined : drop from (take (filled + count) after) ≡ drop from (take filled before) ++ take count (drop filled after) =
    ap (drop from) (take-add filled count after) ∙ drop-append-le from (take filled after) (take count (drop filled after)) long
    ∙ ap (λ l. drop from l ++ take count (drop filled after)) read.front in
    record {
      starts = omega arith;
      fits = read.fits;
      same_length = kept ∙ earlier.same_length;
      front = same ∙ earlier.front;
      consumed = subst (Consumes a c) (sym joined) (Consumes-then a b c _ _ earlier.consumed read.consumed);
    }

chosen : (n m : ℕ) (x y : Option (List ℕ)) → m ≤ n → cond (nat_lt n m) x y ≡ y
chosen n m x y h = grind arith

-- a buffer that is full has the first bytes of the input
pub full_body : (a b : Option (List ℕ)) (front before after : List ℕ) (n filled : ℕ)
    → Fills a b (length front) before after filled → length before ≡ n → n ≤ filled → take (length front) before ≡ front
    → IfSome a (λ rest. Some after ≡ body_at n (front ++ rest))
full_body None b front before after n filled fills long full begins = tt
full_body (Some rest) None front before after n filled fills long full begins = absurd fills.read.consumed
full_body (Some rest) (Some left) front before after n filled fills long full begins =
    let read = fills.read in
    let all : take filled after ≡ after = take_all filled after (omega (arith, read.same_length)) in
    let whole : after ≡ front ++ drop (length front) after =
    sym (take-append-drop (length front) after) ∙ ap (λ l. l ++ drop (length front) after) (read.front ∙ begins) in
    let input : front ++ rest ≡ after ++ left =
    ap (λ l. front ++ l) (read.consumed ∙ ap (λ l. drop (length front) l ++ left) all) ∙ sym (append_assoc front (drop (length front) after) left)
    ∙ ap (λ l. l ++ left) (sym whole) in
    let size : length after ≡ n = read.same_length ∙ long in
    let enough : n ≤ length (front ++ rest) = rw input (simp length-append (omega arith)) in
    sym (chosen (length (front ++ rest)) n None (Some (take n (front ++ rest))) enough
    ∙ ap Some (ap (take n) input ∙ ap (λ k. take k (after ++ left)) (sym size) ∙ take-append_seam after left))

-- a vector after its whole slice was written
pub written_back : (len : ℕ) (items after : List ℕ) → len ≡ length items → length after ≡ length items → take len (after ++ drop (length after) items) ≡ after
written_back len items after size same =
    let none : drop (length after) items ≡ [] = drop_of_length-le items (omega (arith, same)) in
    ap (λ l. take len (after ++ l)) none ∙ ap (take len) (append-nil after) ∙ take_all len after (omega (arith, same, size))

-- the front, and then zeros
pub prepared : (n : ℕ) (front start grown items before zeros : List ℕ) → before ≡ items → items ≡ take n grown ++ zeros → grown ≡ start ++ front → start ≡ []
    → length front ≤ n → take (length front) before ≡ front
prepared n front start grown items before zeros e1 e2 e3 e4 fits =
    let g : grown ≡ front = e3 ∙ ap (λ l. l ++ front) e4 in
    let whole : before ≡ front ++ zeros = e1 ∙ e2 ∙ ap (λ l. take n l ++ zeros) g ∙ ap (λ l. l ++ zeros) (take_all n front fits) in
    ap (take (length front)) whole ∙ take-append_seam front zeros
