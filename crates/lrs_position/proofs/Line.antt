use Rattle.std.proofs.Common.{ℕ, ◌≡◌, ◌+◌, ◌-◌, ◌*◌, ◌<◌, ◌≤◌, sym, ◌∙◌, ap, refl, subst, arith, Bool, true, false, ◌&&◌, cond, nat_le, is_some, List, [], ◌∷◌, map, Option, Some, inl, inr}
use Rattle.std.specs.Int.{IsGcd, ◌∣◌}
use Rattle.std.proofs.lemmas.Nat.Gcd.{IsGcd-swap}
use Rattle.lrs_measure.proofs.Lowest.{divides_other}
use Rattle.std.proofs.Math.Nat.{mul-le-mul_right, mul-pos, le_of_mul-le-mul_right, eq_of_mul-eq-mul_right, mul-lt-mul_of_pos_right, le_trans, mul-le-mul_left, le_of_dvd, dvd-mul_left}
use Rattle.std.proofs.lemmas.Nat.{mul-le}
use Rattle.std.proofs.lemmas.Bool.{and_parts, and_from, both_ways, leb-true, le-leb}
use Rattle.std.proofs.lemmas.Option.{same_Some}
use Rattle.lrs_element.specs.declared.marks.Mark.{Mark}
use Rattle.lrs_element.specs.Marks.{last_of, last_mark, IsBetween, IsOnLine, chainage_at, chainage_between}
use Rattle.lrs_element.specs.Line.{Rises}
use Rattle.lrs_element.proofs.LineLemmas.{Follow, rises_next, IsBetween-from_chainage}

-- each mark rises from the one before it
abbrev pub Climb : List Mark → Type 0
Climb [] = Unit {0}
Climb (p ∷ []) = Unit {0}
Climb (p ∷ q ∷ rest) = Rises p q × Climb (q ∷ rest)

pub Climb-from_follow : (len : ℕ) (before : Option Mark) (marks : List Mark) → Follow len before marks → Climb marks
Climb-from_follow len before [] h = tt
Climb-from_follow len before (p ∷ []) h = tt
Climb-from_follow len before (p ∷ q ∷ rest) h = (rises_next p q h.3.0, Climb-from_follow len (Some p) (q ∷ rest) h.3)

-- ---- between two marks

-- c2 = c1 + w, m2 = m1 + r, x = c1 d + u, n = m1 e + v, and v to r e is as u to w d
record Parts (p q : Mark) (x d n e : ℕ) : Type 0 where
  w : ℕ
  r : ℕ
  u : ℕ
  v : ℕ
  wide : 0 < w
  high : 0 < r
  q_chainage : q.chainage ≡ p.chainage + w
  q_measure : q.measure ≡ p.measure + r
  x_is : x ≡ p.chainage * d + u
  n_is : n ≡ p.measure * e + v
  u_in : u ≤ w * d
  v_in : v ≤ r * e
  line : v * (w * d) ≡ u * (r * e)

sum_times : (a b c k : ℕ) → a ≡ b + c → a * k ≡ b * k + c * k
sum_times a b c k e = ap (λ (i : ℕ). i * k) e ∙ omega arith

-- what is a share of at most the whole is at most the whole
share_in : (u v w r : ℕ) → 0 < w → u ≤ w → v * w ≡ u * r → v ≤ r
share_in u v w r p h e = let b : u * r ≤ w * r = mul-le u r w r h (omega arith) in let c : v * w ≤ r * w = omega arith in le_of_mul-le-mul_right c p

parts_of : (p q : Mark) (x d n e : ℕ) → Rises p q → 0 < d → IsBetween p q x d n e → Parts p q x d n e
parts_of p q x d n e h dp b =
    let hc = h.chainage in
    let hm = h.measure in
    let from = b.from in
    let to = b.to in
    let above = b.above in
    let w : ℕ = q.chainage - p.chainage in
    let r : ℕ = q.measure - p.measure in
    let u : ℕ = x - p.chainage * d in
    let v : ℕ = n - p.measure * e in
    let wp : 0 < w = omega arith in
    let qc : q.chainage ≡ p.chainage + w = omega arith in
    let qd : q.chainage * d ≡ p.chainage * d + w * d = sum_times q.chainage p.chainage w d qc in
    let u_in : u ≤ w * d = omega arith in
    let l : v * w * d ≡ u * r * e = b.line in
    let line : v * (w * d) ≡ u * (r * e) = regroup v w d ∙ l ∙ sym (regroup u r e) in
    record { w = w; r = r; u = u; v = v; wide = wp; high = omega arith; q_chainage = qc; q_measure = omega arith; x_is = omega arith; n_is = omega arith; u_in = u_in; v_in = share_in u v (w * d) (r * e) (mul-pos wp dp) u_in line; line = line }
  where
    regroup : (a b c : ℕ) → a * (b * c) ≡ a * b * c
    regroup a b c = omega arith

-- the line's equation goes through where both sides are scaled and cancelled
same_share : (u v u' v' w r d e d' e' : ℕ) → 0 < w → 0 < d → 0 < d' → v * (w * d) ≡ u * (r * e) → v' * (w * d') ≡ u' * (r * e') → u * d' ≡ u' * d → v * e' ≡ v' * e
same_share u v u' v' w r d e d' e' wp dp dp' l l' s =
    let a : v * (w * d) * (e' * d') ≡ u * (r * e) * (e' * d') = ap (λ (k : ℕ). k * (e' * d')) l in
    let b : v' * (w * d') * (e * d) ≡ u' * (r * e') * (e * d) = ap (λ (k : ℕ). k * (e * d)) l' in
    let c : u * d' * (r * e * e') ≡ u' * d * (r * e * e') = ap (λ (k : ℕ). k * (r * e * e')) s in
    eq_of_mul-eq-mul_right (w * (d * d')) (mul-pos wp (mul-pos dp dp')) (v * e') (v' * e) (omega arith)

-- one measure at one chainage between two marks
same_between : (p q : Mark) (x d n e x' d' n' e' : ℕ) → Rises p q → 0 < d → 0 < d' → IsBetween p q x d n e → IsBetween p q x' d' n' e' → x * d' ≡ x' * d → n * e' ≡ n' * e
same_between p q x d n e x' d' n' e' h dp dp' b b' s =
    let s1 = parts_of p q x d n e h dp b in
    let s2 = parts_of p q x' d' n' e' h dp' b' in
    let w_same : s2.w ≡ s1.w = omega (arith, s1.q_chainage, s2.q_chainage) in
    let r_same : s2.r ≡ s1.r = omega (arith, s1.q_measure, s2.q_measure) in
    let l2 : s2.v * (s1.w * d') ≡ s2.u * (s1.r * e') = rw (w_same, r_same) at s2.line in
    let x1 : x * d' ≡ p.chainage * d * d' + s1.u * d' = sum_times x (p.chainage * d) s1.u d' s1.x_is in
    let x2 : x' * d ≡ p.chainage * d' * d + s2.u * d = sum_times x' (p.chainage * d') s2.u d s2.x_is in
    let us : s1.u * d' ≡ s2.u * d = omega arith in
    let vs : s1.v * e' ≡ s2.v * e = same_share s1.u s1.v s2.u s2.v s1.w s1.r d e d' e' s1.wide dp dp' s1.line l2 us in
    let n1 : n * e' ≡ p.measure * e * e' + s1.v * e' = sum_times n (p.measure * e) s1.v e' s1.n_is in
    let n2 : n' * e ≡ p.measure * e' * e + s2.v * e = sum_times n' (p.measure * e') s2.v e s2.n_is in
    omega arith

-- the start of the stretch has the first measure, and its end the second
starts_between : (p q : Mark) (x d n e : ℕ) → Rises p q → 0 < d → IsBetween p q x d n e → x ≡ p.chainage * d → n ≡ p.measure * e
starts_between p q x d n e h dp b s =
    let t = parts_of p q x d n e h dp b in
    let u_zero : t.u ≡ 0 = omega (arith, t.x_is) in
    let z : t.v * (t.w * d) ≡ 0 * (t.w * d) = t.line ∙ ap (λ (k : ℕ). k * (t.r * e)) u_zero ∙ omega arith in
    let v_zero : t.v ≡ 0 = eq_of_mul-eq-mul_right (t.w * d) (mul-pos t.wide dp) t.v 0 z in
    omega (arith, t.n_is)

ends_between : (p q : Mark) (x d n e : ℕ) → Rises p q → 0 < d → IsBetween p q x d n e → x ≡ q.chainage * d → n ≡ q.measure * e
ends_between p q x d n e h dp b s =
    let t = parts_of p q x d n e h dp b in
    let qd : q.chainage * d ≡ p.chainage * d + t.w * d = sum_times q.chainage p.chainage t.w d t.q_chainage in
    let qm : q.measure * e ≡ p.measure * e + t.r * e = sum_times q.measure p.measure t.r e t.q_measure in
    let u_full : t.u ≡ t.w * d = omega (arith, t.x_is) in
    let z : t.v * (t.w * d) ≡ t.r * e * (t.w * d) = t.line ∙ ap (λ (k : ℕ). k * (t.r * e)) u_full ∙ omega arith in
    let v_full : t.v ≡ t.r * e = eq_of_mul-eq-mul_right (t.w * d) (mul-pos t.wide dp) t.v (t.r * e) z in
    omega (arith, t.n_is)

-- it reaches no further than the second measure
below_between : (p q : Mark) (x d n e : ℕ) → Rises p q → 0 < d → IsBetween p q x d n e → n ≤ q.measure * e
below_between p q x d n e h dp b =
    let t = parts_of p q x d n e h dp b in
    let qm : q.measure * e ≡ p.measure * e + t.r * e = sum_times q.measure p.measure t.r e t.q_measure in
    omega (arith, t.n_is, t.v_in)

-- the chainage may be written with another denominator
scale_between : (p q : Mark) (x d n e x' d' : ℕ) → Rises p q → 0 < d → 0 < d' → IsBetween p q x d n e → x * d' ≡ x' * d → IsBetween p q x' d' n e
scale_between p q x d n e x' d' h dp dp' b s =
    let t = parts_of p q x d n e h dp b in
    let from : p.chainage * d' ≤ x' = le_of_mul-le-mul_right {k = d} (let f : p.chainage * d * d' ≤ x * d' = mul-le-mul_right d' b.from in omega arith) dp in
    let to : x' ≤ q.chainage * d' = le_of_mul-le-mul_right {k = d} (let f : x * d' ≤ q.chainage * d * d' = mul-le-mul_right d' b.to in omega arith) dp in
    let u' : ℕ = x' - p.chainage * d' in
    let x_split : x' ≡ p.chainage * d' + u' = omega arith in
    let x1 : x * d' ≡ p.chainage * d * d' + t.u * d' = sum_times x (p.chainage * d) t.u d' t.x_is in
    let x2 : x' * d ≡ p.chainage * d' * d + u' * d = sum_times x' (p.chainage * d') u' d x_split in
    let us : t.u * d' ≡ u' * d = omega arith in
    let a : t.v * (t.w * d) * d' ≡ t.u * (t.r * e) * d' = ap (λ (k : ℕ). k * d') t.line in
    let c : t.u * d' * (t.r * e) ≡ u' * d * (t.r * e) = ap (λ (k : ℕ). k * (t.r * e)) us in
    let line : t.v * t.w * d' ≡ u' * t.r * e = eq_of_mul-eq-mul_right d dp _ _ (omega arith) in
    let v_is : n - p.measure * e ≡ t.v = omega (arith, t.n_is) in
    let w_is : q.chainage - p.chainage ≡ t.w = omega (arith, t.q_chainage) in
    let r_is : q.measure - p.measure ≡ t.r = omega (arith, t.q_measure) in
    record { from = from; to = to; above = b.above; line = rw (v_is, w_is, r_is) line }

-- ---- on the whole line

-- what is on the line lies at or after its first mark, in both
pub after_first : (p : Mark) (rest : List Mark) (x d n e : ℕ) → Climb (p ∷ rest) → 0 < d → IsOnLine (p ∷ rest) (x, d) (n, e)
    → (p.chainage * d ≤ x) × (p.measure * e ≤ n) × (x ≡ p.chainage * d → n ≡ p.measure * e)
after_first p [] x d n e c dp h = absurd h
after_first p (q ∷ rest) x d n e c dp (inl b) = (b.from, b.above, starts_between p q x d n e c.0 dp b)
after_first p (q ∷ rest) x d n e c dp (inr h) =
    let a = after_first q rest x d n e c.1 dp h in
    let hc : p.chainage * d < q.chainage * d = mul-lt-mul_of_pos_right c.0.chainage dp in
    let hm : p.measure * e ≤ q.measure * e = mul-le-mul_right e (omega (arith, c.0.measure)) in
    let from = a.0 in
    (omega arith, le_trans hm a.1, λ s. absurd (omega arith))

-- what is before a mark and what is after it are at one chainage only where both are at that mark
same_across : (p q : Mark) (x d n e x' d' n' e' : ℕ) → Rises p q → 0 < d → 0 < d' → IsBetween p q x d n e → q.chainage * d' ≤ x' → (x' ≡ q.chainage * d' → n' ≡ q.measure * e') → x * d' ≡ x' * d → n * e' ≡ n' * e
same_across p q x d n e x' d' n' e' h dp dp' b from at s =
    let low : q.chainage * d' * d ≤ x' * d = mul-le-mul_right d from in
    let high : x * d' ≤ q.chainage * d * d' = mul-le-mul_right d' b.to in
    let here : x ≡ q.chainage * d = eq_of_mul-eq-mul_right d' dp' x (q.chainage * d) (omega arith) in
    let there : x' ≡ q.chainage * d' = eq_of_mul-eq-mul_right d dp x' (q.chainage * d') (omega arith) in
    let n1 : n * e' ≡ q.measure * e * e' = ap (λ (k : ℕ). k * e') (ends_between p q x d n e h dp b here) in
    let n2 : n' * e ≡ q.measure * e' * e = ap (λ (k : ℕ). k * e) (at there) in
    omega arith

-- one chainage has one measure
pub same_measure : (marks : List Mark) (x d n e x' d' n' e' : ℕ) → Climb marks → 0 < d → 0 < d' → IsOnLine marks (x, d) (n, e) → IsOnLine marks (x', d') (n', e') → x * d' ≡ x' * d → n * e' ≡ n' * e
same_measure [] x d n e x' d' n' e' c dp dp' h k s = absurd h
same_measure (p ∷ []) x d n e x' d' n' e' c dp dp' h k s = absurd h
same_measure (p ∷ q ∷ rest) x d n e x' d' n' e' c dp dp' (inl b) (inl b') s = same_between p q x d n e x' d' n' e' c.0 dp dp' b b' s
same_measure (p ∷ q ∷ rest) x d n e x' d' n' e' c dp dp' (inl b) (inr k) s =
    let a = after_first q rest x' d' n' e' c.1 dp' k in
    same_across p q x d n e x' d' n' e' c.0 dp dp' b a.0 a.2 s
same_measure (p ∷ q ∷ rest) x d n e x' d' n' e' c dp dp' (inr h) (inl b') s =
    let a = after_first q rest x d n e c.1 dp h in
    sym (same_across p q x' d' n' e' x d n e c.0 dp' dp b' a.0 a.2 (sym s))
same_measure (p ∷ q ∷ rest) x d n e x' d' n' e' c dp dp' (inr h) (inr k) s = same_measure (q ∷ rest) x d n e x' d' n' e' c.1 dp dp' h k s

-- the chainage may be written with another denominator
pub IsOnLine-scale : (marks : List Mark) (x d n e x' d' : ℕ) → Climb marks → 0 < d → 0 < d' → IsOnLine marks (x, d) (n, e) → x * d' ≡ x' * d → IsOnLine marks (x', d') (n, e)
IsOnLine-scale [] x d n e x' d' c dp dp' h s = absurd h
IsOnLine-scale (p ∷ []) x d n e x' d' c dp dp' h s = absurd h
IsOnLine-scale (p ∷ q ∷ rest) x d n e x' d' c dp dp' (inl b) s = inl (scale_between p q x d n e x' d' c.0 dp dp' b s)
IsOnLine-scale (p ∷ q ∷ rest) x d n e x' d' c dp dp' (inr h) s = inr (IsOnLine-scale (q ∷ rest) x d n e x' d' c.1 dp dp' h s)

-- the last mark is the highest
last_highest : (p : Mark) (rest : List Mark) → Climb (p ∷ rest) → (p.chainage ≤ (last_of p rest).chainage) × (p.measure ≤ (last_of p rest).measure)
last_highest p [] c = (omega arith, omega arith)
last_highest p (q ∷ rest) c = let l = last_highest q rest c.1 in let a = l.0 in let b = l.1 in let r = c.0.chainage in let s = c.0.measure in (omega arith, omega arith)

-- what is on the line lies at or before its last mark, in both
pub before_last : (p : Mark) (rest : List Mark) (x d n e : ℕ) → Climb (p ∷ rest) → 0 < d → IsOnLine (p ∷ rest) (x, d) (n, e) → (x ≤ (last_of p rest).chainage * d) × (n ≤ (last_of p rest).measure * e)
before_last p [] x d n e c dp h = absurd h
before_last p (q ∷ rest) x d n e c dp (inl b) =
    let l = last_highest q rest c.1 in
    (le_trans b.to (mul-le-mul_right d l.0), le_trans (below_between p q x d n e c.0 dp b) (mul-le-mul_right e l.1))
before_last p (q ∷ rest) x d n e c dp (inr h) = before_last q rest x d n e c.1 dp h

-- ---- seen with chainages and measures exchanged

abbrev pub exchanged : Mark → Mark
exchanged m = record { chainage = m.measure; measure = m.chainage }

exchange_between : (p q : Mark) (x d n e : ℕ) → Rises p q → 0 < d → IsBetween p q x d n e → IsBetween (exchanged p) (exchanged q) n e x d
exchange_between p q x d n e h dp b = record { from = b.above; to = below_between p q x d n e h dp b; above = b.from; line = sym b.line }

exchange_climb : (marks : List Mark) → Climb marks → Climb (map exchanged marks)
exchange_climb [] c = tt
exchange_climb (p ∷ []) c = tt
exchange_climb (p ∷ q ∷ rest) c = (record { chainage = c.0.measure; measure = c.0.chainage }, exchange_climb (q ∷ rest) c.1)

exchange_line : (marks : List Mark) (x d n e : ℕ) → Climb marks → 0 < d → IsOnLine marks (x, d) (n, e) → IsOnLine (map exchanged marks) (n, e) (x, d)
exchange_line [] x d n e c dp h = absurd h
exchange_line (p ∷ []) x d n e c dp h = absurd h
exchange_line (p ∷ q ∷ rest) x d n e c dp (inl b) = inl (exchange_between p q x d n e c.0 dp b)
exchange_line (p ∷ q ∷ rest) x d n e c dp (inr h) = inr (exchange_line (q ∷ rest) x d n e c.1 dp h)

-- one measure is at one chainage
pub same_chainage : (marks : List Mark) (x d n e x' d' n' e' : ℕ) → Climb marks → 0 < d → 0 < d' → 0 < e → 0 < e' → IsOnLine marks (x, d) (n, e) → IsOnLine marks (x', d') (n', e') → n * e' ≡ n' * e → x * d' ≡ x' * d
same_chainage marks x d n e x' d' n' e' c dp dp' ep ep' h k s =
    same_measure (map exchanged marks) n e x d n' e' x' d' (exchange_climb marks c) ep ep' (exchange_line marks x d n e c dp h) (exchange_line marks x' d' n' e' c dp' k) s

-- ---- the chainage at a measure

-- what is found between two marks is between them
found_between : (p q : Mark) (x d n e : ℕ) → Rises p q → 0 < e → p.measure * e ≤ n → n ≤ q.measure * e → chainage_between p q n e ≡ (x, d) → (0 < d) × IsBetween p q x d n e
found_between p q x d n e h ep f t s =
    let hm = h.measure in
    let r : ℕ = q.measure - p.measure in
    let v : ℕ = n - p.measure * e in
    let w : ℕ = q.chainage - p.chainage in
    let rp : 0 < r = omega arith in
    let xs : p.chainage * e * r + v * w ≡ x = ap (λ (k : ℕ × ℕ). k.0) s in
    let ds : e * r ≡ d = ap (λ (k : ℕ × ℕ). k.1) s in
    let dp : 0 < e * r = mul-pos ep rp in
    let line : x * (r * e) ≡ (p.chainage * (r * e) + v * w) * d = ap (λ (k : ℕ). k * (r * e)) (sym xs) ∙ scaled p.chainage e r v w ∙ ap (λ (k : ℕ). (p.chainage * (r * e) + v * w) * k) ds in
    (subst (λ (k : ℕ). 0 < k) ds dp, IsBetween-from_chainage p q x d n e h ep f t line)
  where
    scaled : (a b c v w : ℕ) → (a * b * c + v * w) * (c * b) ≡ (a * (c * b) + v * w) * (b * c)
    scaled a b c v w = omega arith

-- a stretch is searched, and then the ones behind it
at_stretch : (p q : Mark) (rest : List Mark) (n e x d : ℕ) → Rises p q → 0 < e → (chainage_at (q ∷ rest) n e ≡ Some (x, d) → (0 < d) × IsOnLine (q ∷ rest) (x, d) (n, e))
    → (b : Bool) → (nat_le (p.measure * e) n && nat_le n (q.measure * e)) ≡ b → cond b (Some (chainage_between p q n e)) (chainage_at (q ∷ rest) n e) ≡ Some (x, d) → (0 < d) × IsOnLine (p ∷ q ∷ rest) (x, d) (n, e)
at_stretch p q rest n e x d h ep behind true t s =
    let b = and_parts _ _ t in
    let f = found_between p q x d n e h ep (leb-true _ _ b.0) (leb-true _ _ b.1) (same_Some _ _ s) in
    (f.0, inl f.1)
at_stretch p q rest n e x d h ep behind false t s = let f = behind s in (f.0, inr f.1)

-- the chainage that is found is on the line
pub chainage_at-IsOnLine : (marks : List Mark) (n e x d : ℕ) → Climb marks → 0 < e → chainage_at marks n e ≡ Some (x, d) → (0 < d) × IsOnLine marks (x, d) (n, e)
chainage_at-IsOnLine [] n e x d c ep h = absurd (cc h)
chainage_at-IsOnLine (p ∷ []) n e x d c ep h = absurd (cc h)
chainage_at-IsOnLine (p ∷ q ∷ rest) n e x d c ep h = at_stretch p q rest n e x d c.0 ep (chainage_at-IsOnLine (q ∷ rest) n e x d c.1 ep) (nat_le (p.measure * e) n && nat_le n (q.measure * e)) refl h

-- the first stretch has a chainage for the measure, or one behind it has
either_stretch : (p q : Mark) (rest : List Mark) (n e x d : ℕ) → Rises p q → 0 < d → (IsOnLine (q ∷ rest) (x, d) (n, e) → is_some (chainage_at (q ∷ rest) n e) ≡ true) → IsOnLine (p ∷ q ∷ rest) (x, d) (n, e)
    → (b : Bool) → (nat_le (p.measure * e) n && nat_le n (q.measure * e)) ≡ b → is_some (cond b (Some (chainage_between p q n e)) (chainage_at (q ∷ rest) n e)) ≡ true
either_stretch p q rest n e x d h dp behind o true t = refl
either_stretch p q rest n e x d h dp behind (inr k) false t = behind k
either_stretch p q rest n e x d h dp behind (inl b) false t =
    let low : nat_le (p.measure * e) n ≡ true = le-leb _ _ b.above in
    let high : nat_le n (q.measure * e) ≡ true = le-leb _ _ (below_between p q x d n e h dp b) in
    absurd (both_ways _ t (and_from _ _ low high))

-- each measure on the line has a chainage that is found
pub chainage_at-some : (marks : List Mark) (n e x d : ℕ) → Climb marks → 0 < d → IsOnLine marks (x, d) (n, e) → is_some (chainage_at marks n e) ≡ true
chainage_at-some [] n e x d c dp h = absurd h
chainage_at-some (p ∷ []) n e x d c dp h = absurd h
chainage_at-some (p ∷ q ∷ rest) n e x d c dp h = either_stretch p q rest n e x d c.0 dp (chainage_at-some (q ∷ rest) n e x d c.1 dp) h (nat_le (p.measure * e) n && nat_le n (q.measure * e)) refl

-- ---- denominators

-- between two marks the measure's denominator divides the width times that of the chainage
den_between : (p q : Mark) (x d n e : ℕ) → Rises p q → 0 < d → IsGcd n e 1 → IsBetween p q x d n e → e ≤ q.chainage * d
den_between p q x d n e h dp g b =
    let t = parts_of p q x d n e h dp b in
    let s : n * (t.w * d) ≡ p.measure * e * (t.w * d) + t.v * (t.w * d) = sum_times n (p.measure * e) t.v (t.w * d) t.n_is in
    let l = t.line in
    let m : n * (t.w * d) ≡ (p.measure * (t.w * d) + t.u * t.r) * e = omega arith in
    let o : e ∣ t.w * d = divides_other e n (t.w * d) (IsGcd-swap n e 1 g) (rw m (dvd-mul_left e (p.measure * (t.w * d) + t.u * t.r))) in
    let wide : e ≤ t.w * d = le_of_dvd (mul-pos t.wide dp) o in
    let k : t.w * d ≤ q.chainage * d = mul-le-mul_right d (omega (arith, t.q_chainage)) in
    le_trans wide k

den_from : (p : Mark) (rest : List Mark) (x d n e : ℕ) → Climb (p ∷ rest) → 0 < d → IsGcd n e 1 → IsOnLine (p ∷ rest) (x, d) (n, e) → e ≤ (last_of p rest).chainage * d
den_from p [] x d n e c dp g h = absurd h
den_from p (q ∷ rest) x d n e c dp g (inl b) = le_trans (den_between p q x d n e c.0 dp g b) (mul-le-mul_right d (last_highest q rest c.1).0)
den_from p (q ∷ rest) x d n e c dp g (inr h) = den_from q rest x d n e c.1 dp g h

-- the denominator of a measure in lowest terms is at most the length times that of the chainage
pub den_on_line : (marks : List Mark) (x d n e : ℕ) → Climb marks → 0 < d → IsGcd n e 1 → IsOnLine marks (x, d) (n, e) → e ≤ (last_mark marks).chainage * d
den_on_line [] x d n e c dp g h = absurd h
den_on_line (p ∷ rest) x d n e c dp g h = den_from p rest x d n e c dp g h

-- the denominator of a chainage that is found is at most the last measure times that of the measure
found_den : (p q : Mark) (rest : List Mark) (n e : ℕ) (x : ℕ × ℕ) → Climb (q ∷ rest) → (chainage_at (q ∷ rest) n e ≡ Some x → x.1 ≤ e * (last_of q rest).measure)
    → (b : Bool) → cond b (Some (chainage_between p q n e)) (chainage_at (q ∷ rest) n e) ≡ Some x → x.1 ≤ e * (last_of q rest).measure
found_den p q rest n e x c behind true s =
    let d : e * (q.measure - p.measure) ≡ x.1 = ap (λ (k : ℕ × ℕ). k.1) (same_Some _ _ s) in
    let l = (last_highest q rest c).1 in
    let m : e * (q.measure - p.measure) ≤ e * (last_of q rest).measure = mul-le-mul_left e (omega arith) in
    omega arith
found_den p q rest n e x c behind false s = behind s

den_after : (p : Mark) (rest : List Mark) (n e : ℕ) (x : ℕ × ℕ) → Climb (p ∷ rest) → chainage_at (p ∷ rest) n e ≡ Some x → x.1 ≤ e * (last_of p rest).measure
den_after p [] n e x c h = absurd (cc h)
den_after p (q ∷ rest) n e x c h = found_den p q rest n e x c.1 (den_after q rest n e x c.1) (nat_le (p.measure * e) n && nat_le n (q.measure * e)) h

pub chainage_at-den : (marks : List Mark) (n e : ℕ) (x : ℕ × ℕ) → Climb marks → chainage_at marks n e ≡ Some x → x.1 ≤ e * (last_mark marks).measure
chainage_at-den [] n e x c h = absurd (cc h)
chainage_at-den (p ∷ rest) n e x c h = den_after p rest n e x c h
