-- Routes that are met between two edges of a link, from its last stretch backwards.
use Rattle.std.proofs.Common.{ℕ, ◌≡◌, ◌<◌, ◌≤◌, max, Bool, true, false, cond, ◌⊎◌, inl, inr, Option, Some, refl, sym, ap, ◌∙◌, arith, ⊎_elim}
use Rattle.std.specs.List.{list_any}
use Rattle.std.specs.Ordering.{eq_by_cmp}
use Rattle.std.specs.Cmp.{Equal-is}
use Rattle.std.specs.BTreeSet.{BTreeSet, Updates}
use Rattle.std.proofs.lemmas.Bool.{cases_lt}
use Rattle.std.proofs.lemmas.Map.Lookups.{exact_bytes}
use Rattle.lrs_measure.specs.Texts.{Name, name_cmp}
use Rattle.lrs_position.specs.declared.ground_index.LinkStretch.{LinkStretch}
use Rattle.lrs_position.specs.Index.Ground.{Stretches, route_over}
use Rattle.lrs_position.specs.Index.Stretches.{AreApart, IsFirst, IsLast}
use Rattle.lrs_position.specs.Index.MetRoutes.{IsAmong, RunsBetween}
use Rattle.lrs_position.proofs.Index.Over.{over_gives, over_stretch, one_stretch, no_later}

-- ---- the last stretch before an edge

module _ (kept : Stretches) (l from e : ℕ) where
  abbrev IsMet : Name → Type 0
  IsMet = RunsBetween (route_over kept) l from e

  -- where no stretch begins before the edge, none is met
  pub none_first : IsFirst kept l e → (r : Name) → IsMet r → ⊥
  none_first first r met =
      let o = over_gives kept l met.mm r met.runs in
      let b = o.begins in
      let h = met.high in
      cc (sym (first o.from (omega (arith, b, h))) ∙ o.is)

  pub none_past : e ≤ from → (r : Name) → IsMet r → ⊥
  none_past past r met = let low = met.low in let high = met.high in omega (arith, low, high, past)

  module _ (a : ℕ) (s : LinkStretch) (apart : AreApart kept) (last : IsLast kept l e a s) where
    -- where the last one ends in front of both, none is met
    pub none_behind : s.end ≤ from → (r : Name) → IsMet r → ⊥
    none_behind ends r met =
        let o = over_gives kept l met.mm r met.runs in
        let b = o.begins in
        let h = met.high in
        let n = no_later kept l e a o.from s o.stretch apart last o.is (omega (arith, b, h)) in
        let k = o.ends in
        let low = met.low in
        omega (arith, n, k, low, ends)

    -- else it is met
    pub last_is_met : from < e → from < s.end → IsMet s.route
    last_is_met filled ends =
        let f = apart.filled l a s last.stretch in
        let b = last.before in
        record { mm = max from a; low = omega arith; high = omega (arith, filled, b); runs = over_stretch kept l (max from a) a s apart last.stretch (omega arith) (omega (arith, ends, f)) }

    -- from where it begins on, no other route runs
    only_last : (m : ℕ) (r : Name) → a ≤ m → m < e → route_over kept (l, m) ≡ Some r → s.route ≡ r
    only_last m r low high h =
        let o = over_gives kept l m r h in
        let b = o.begins in
        let k = o.ends in
        let le = last.last o.from o.stretch o.is (omega (arith, b, high)) in
        ⊎_elim
        (λ (lower : o.from < a). let n = apart.apart l o.from a o.stretch s o.is last.stretch lower in absurd (omega (arith, n, k, low)))
        (λ (ge : a ≤ o.from). ap (λ (x : LinkStretch). x.route) (one_stretch kept l a o.from s o.stretch (omega (arith, le, ge)) last.stretch o.is) ∙ o.route)
        (cases_lt o.from a)

-- ---- names that are added

module _ (old new : BTreeSet Name) (name : Name) (added : Updates name_cmp old new name true) where
  pub kept_among : (q : Name) → IsAmong q old → IsAmong q new
  kept_among q m = added.0 q ∙ by (eq_by_cmp name_cmp name q) ∙ m
    where
      by : (b : Bool) → cond b true (list_any (eq_by_cmp name_cmp q) old.keys) ≡ list_any (eq_by_cmp name_cmp q) old.keys
      by true = sym m
      by false = refl

  pub added_among : IsAmong name new
  added_among = added.1

  pub only_added : (q : Name) → IsAmong q new → IsAmong q old ⊎ (q ≡ name)
  only_added q m = by (eq_by_cmp name_cmp name q) refl
    where
      by : (b : Bool) → eq_by_cmp name_cmp name q ≡ b → IsAmong q old ⊎ (q ≡ name)
      by true e = inr (sym (exact_bytes name q ((Equal-is _).0 e)))
      by false e = inl (ap (λ (b : Bool). cond b true (list_any (eq_by_cmp name_cmp q) old.keys)) (sym e) ∙ sym (added.0 q) ∙ m)

-- ---- what is found so far

-- The routes that are met from the edge on are among those found, beside those of before, and no other.
pub record HasMet (over : ℕ × ℕ → Option Name) (l from edge to : ℕ) (old new : BTreeSet Name) : Type 0 where
  pub within : edge ≤ to
  pub met : (r : Name) → RunsBetween over l edge to r → IsAmong r new
  pub kept : (r : Name) → IsAmong r old → IsAmong r new
  pub only : (r : Name) → IsAmong r new → IsAmong r old ⊎ RunsBetween over l from to r

module _ (kept : Stretches) (l from edge to : ℕ) (old now new : BTreeSet Name) (sofar : HasMet (route_over kept) l from edge to old now) where
  -- a route that is met up to the edge is met up to a later one
  wider : (r : Name) → RunsBetween (route_over kept) l from edge r → RunsBetween (route_over kept) l from to r
  wider r met = let high = met.high in let within = sofar.within in record { mm = met.mm; low = met.low; high = omega (arith, high, within); runs = met.runs }

  module _ (a : ℕ) (s : LinkStretch) (apart : AreApart kept) (last : IsLast kept l edge a s) (here : RunsBetween (route_over kept) l from edge s.route) (added : Updates name_cmp now new s.route true) where
    pub met_more : HasMet (route_over kept) l from a to old new
    met_more = record {
      within = let b = last.before in let w = sofar.within in omega (arith, b, w);
      met = λ r met. ⊎_elim
          (λ (lower : met.mm < edge). ap (λ (q : Name). list_any (eq_by_cmp name_cmp q) new.keys) (sym (only_last kept l from edge a s apart last met.mm r met.low lower met.runs)) ∙ added_among now new s.route added)
          (λ (ge : edge ≤ met.mm). kept_among now new s.route added r (sofar.met r (record { mm = met.mm; low = ge; high = met.high; runs = met.runs })))
          (cases_lt met.mm edge);
      kept = λ r m. kept_among now new s.route added r (sofar.kept r m);
      only = λ r m. ⊎_elim
          (λ (before : IsAmong r now). sofar.only r before)
          (λ (is : r ≡ s.route). inr (wider r (record { mm = here.mm; low = here.low; high = here.high; runs = here.runs ∙ ap (λ (q : Name). Some q) (sym is) })))
          (only_added now new s.route added r m);
    }
