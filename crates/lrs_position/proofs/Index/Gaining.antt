-- A stretch that comes where no route runs.
use Rattle.std.proofs.Common.{ℕ, ◌≡◌, ◌<◌, ◌≤◌, Bool, true, false, if◌then◌else◌, List, [], ◌∷◌, Option, Some, None, refl, sym, ap, ◌∙◌, arith, ⊎_elim}
use Rattle.std.specs.FinMap.{insert, get}
use Rattle.std.proofs.lemmas.Bool.{cases_lt, cases_Bool, and_from, or_left, eq-eqb, both_ways}
use Rattle.std.proofs.lemmas.List.{append-nil}
use Rattle.lrs_measure.specs.Texts.{Name}
use Rattle.lrs_element.specs.declared.link.Piece.{Piece}
use Rattle.lrs_element.specs.declared.link.Ground.{Ground}
use Rattle.lrs_element.specs.Course.{Millimetre, expand, runs_over}
use Rattle.lrs_element.specs.Pieces.{IsFilled}
use Rattle.lrs_position.specs.declared.ground_index.LinkStretch.{LinkStretch}
use Rattle.lrs_position.specs.Index.Ground.{Stretches, route_over, is_shared, HasGained}
use Rattle.lrs_position.specs.Index.Stretches.{AreApart}
use Rattle.lrs_position.proofs.Index.Over.{over_gives, over_from, over_stretch, same_answer}
use Rattle.lrs_position.proofs.Index.Sharing.{some_millimetre, runs_over_from, runs_over_gives, is_taken, taken_from}
use Rattle.lrs_position.proofs.Index.Putting.{put_here, put_there, put_which}

module _ (old : Stretches) (route : Name) (p : Piece) where
  abbrev begin : Millimetre
  begin = (p.link, p.from)

  abbrev stretch : LinkStretch
  stretch = record { end = p.to; route = route }

  abbrev more : Stretches
  more = insert old begin stretch

  module _ (free : is_shared old (expand p) ≡ false) (filled : IsFilled p) (apart : AreApart old) where
    -- no millimetre of the piece is on a stretch
    not_on : (m a : ℕ) (s : LinkStretch) → p.from ≤ m → m < p.to → get old (p.link, a) ≡ Some s → a ≤ m → m < s.end → ⊥
    not_on m a s h l is k j = both_ways _ free (some_millimetre (is_taken old) p m h l (taken_from old p.link m a s apart is k j))

    pub none_begins : get old begin ≡ None
    none_begins = by (get old begin) refl
      where
        by : (o : Option LinkStretch) → get old begin ≡ o → get old begin ≡ None
        by None e = e
        by (Some s) e = absurd (not_on p.from p.from s (omega arith) filled e (omega arith) (apart.filled p.link p.from s e))

    pub apart_more : AreApart more
    apart_more = record {
      filled = λ l a s h. ⊎_elim
          (λ is. let e = ap (λ (q : Millimetre). q.1) is.0 in let f = ap (λ (t : LinkStretch). t.end) is.1 in let lt : p.from < p.to = filled in omega (arith, e, f, lt))
          (λ was. apart.filled l a s was.1)
          (put_which old begin stretch (l, a) s h);
      apart = λ l a c s t h g lt. ⊎_elim
          (λ is. ⊎_elim
          (λ js. let e = ap (λ (q : Millimetre). q.1) is.0 in let f = ap (λ (q : Millimetre). q.1) js.0 in absurd (omega (arith, e, f, lt)))
          (λ was.
          let k : l ≡ p.link = ap (λ (q : Millimetre). q.0) is.0 in
          let e : a ≡ p.from = ap (λ (q : Millimetre). q.1) is.0 in
          let f : s.end ≡ p.to = ap (λ (x : LinkStretch). x.end) is.1 in
          let g' : get old (p.link, c) ≡ Some t = ap (λ (n : ℕ). get old (n, c)) (sym k) ∙ was.1 in
          ⊎_elim
          (λ (over : c < p.to). absurd (not_on c c t (omega (arith, e, lt)) over g' (omega arith) (apart.filled p.link c t g')))
          (λ (ge : p.to ≤ c). omega (arith, f, ge))
          (cases_lt c p.to))
          (put_which old begin stretch (l, c) t g))
          (λ was. ⊎_elim
          (λ js.
          let k : l ≡ p.link = ap (λ (q : Millimetre). q.0) js.0 in
          let e : c ≡ p.from = ap (λ (q : Millimetre). q.1) js.0 in
          let h' : get old (p.link, a) ≡ Some s = ap (λ (n : ℕ). get old (n, a)) (sym k) ∙ was.1 in
          ⊎_elim
          (λ (over : p.from < s.end). absurd (not_on p.from a s (omega arith) filled h' (omega (arith, e, lt)) over))
          (λ (le : s.end ≤ p.from). omega (arith, e, le))
          (cases_lt p.from s.end))
          (λ wast. apart.apart l a c s t was.1 wast.1 lt)
          (put_which old begin stretch (l, c) t g))
          (put_which old begin stretch (l, a) s h);
    }

    over_more : (l m : ℕ) → route_over more (l, m) ≡ (if runs_over (expand p) (l, m) then Some route else route_over old (l, m))
    over_more l m = ⊎_elim
        (λ (t : runs_over (expand p) (l, m) ≡ true).
        let r = runs_over_gives p l m t in
        over_stretch more l m p.from stretch apart_more (ap (λ (n : ℕ). get more (n, p.from)) (sym r.0) ∙ put_here old begin stretch) r.1 r.2
        ∙ sym (ap (λ (b : Bool). if b then Some route else route_over old (l, m)) t))
        (λ (f : runs_over (expand p) (l, m) ≡ false).
        same_answer (route_over more (l, m)) (route_over old (l, m))
        (λ r h.
        let o = over_gives more l m r h in
        ⊎_elim
        (λ is.
        let k = ap (λ (q : Millimetre). q.0) is.0 in
        let e = ap (λ (q : Millimetre). q.1) is.0 in
        let g = ap (λ (x : LinkStretch). x.end) is.1 in
        absurd (both_ways _ f (runs_over_from p l m (sym k) (omega (arith, o.begins, e)) (omega (arith, o.ends, g)))))
        (λ was. over_from old l m r apart (record { from = o.from; stretch = o.stretch; is = was.1; begins = o.begins; ends = o.ends; route = o.route }))
        (put_which old begin stretch (l, o.from) o.stretch o.is))
        (λ r h.
        let o = over_gives old l m r h in
        over_from more l m r apart_more (record {
          from = o.from;
          stretch = o.stretch;
          is = put_there old begin stretch (l, o.from) (λ e. absurd (cc (sym (ap (get old) e ∙ none_begins) ∙ o.is))) ∙ o.is;
          begins = o.begins;
          ends = o.ends;
          route = o.route;
        }))
        ∙ sym (ap (λ (b : Bool). if b then Some route else route_over old (l, m)) f))
        (cases_Bool (runs_over (expand p) (l, m)))

    pub gained_one : HasGained old more route (p ∷ [])
    gained_one = record {
      over = λ m. over_more m.0 m.1 ∙ ap (λ (xs : List Ground). if runs_over xs m then Some route else route_over old m) (sym (append-nil (expand p)));
      stretches = (put_here old begin stretch, tt);
      begun = (none_begins, tt);
      others = λ q h. put_there old begin stretch q (λ e. both_ways _ h (or_left _ _ (and_from _ _ (eq-eqb _ _ (ap (λ (x : Millimetre). x.0) (sym e))) (eq-eqb _ _ (ap (λ (x : Millimetre). x.1) (sym e))))));
    }
