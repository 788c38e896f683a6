-- Visits, and others after them.
use Rattle.std.proofs.Common.{◌≡◌, ℕ, ◌+◌, List, [], ◌∷◌, ◌++◌, Option, Some, None, IfOk, IfSome, Result, Ok, Err, refl, sym, ap, subst, ◌∙◌, append_assoc, append-nil, length-append, map, arith}
use Rattle.std.specs.Prelude.{OnErr}
use Rattle.std.specs.Io.KnownBytes.{Appends}
use Rattle.std.proofs.lemmas.List.{map-append}
use Rattle.lrs_machine.specs.Lines.{Text}
use Rattle.lrs_machine.specs.declared.image.Image.{Image}
use Rattle.lrs_machine.specs.declared.table.Table.{Table}
use Rattle.lrs_web.specs.DeskView.{DeskView}
use Rattle.lrs_web.specs.Visits.{Connection, Exchange, HasVisited, Visited, Visits, back_as, exchange_of, given_as, nobody, full_visit, cut_visit}
use Rattle.lrs_web.specs.declared.door.Served.{Served}
use Rattle.lrs_web.proofs.Visiting.{has_visited}
use Rattle.lrs_web_server.specs.Announcements.{HasSaid, listening_line}
use Rattle.lrs_web_server.specs.declared.service.ServiceFault.{ServiceFault}
use Rattle.lrs_web_server.specs.declared.service.ServiceFault.TheVariants.{Port, Door, Write, Desk}

-- a service that listens has said so, however it ends
pub said_so : (port : ℕ) (r : Result Served ServiceFault) (before after : Option Text) → Appends before after (listening_line port) → (r ≡ Err Port → ⊥) → (r ≡ Err Write → ⊥) → HasSaid port r before after
said_so port (Ok served) before after said listens says = said
said_so port (Err Port) before after said listens says = absurd (listens refl)
said_so port (Err Door) before after said listens says = said
said_so port (Err Write) before after said listens says = absurd (says refl)
said_so port (Err Desk) before after said listens says = said

-- ---- connections of the list of a door

module _ {R W : Type 0} where
  -- those that were taken off it, and others after them
  taken_both : (w l m : Option (List (R × W))) (some more : List (Connection R W)) → IfSome w (λ all. (rest : List (R × W)) × (all ≡ map given_as some ++ rest) × (l ≡ Some rest))
      → IfSome l (λ all. (rest : List (R × W)) × (all ≡ map given_as more ++ rest) × (m ≡ Some rest)) → IfSome w (λ all. (rest : List (R × W)) × (all ≡ map given_as (some ++ more) ++ rest) × (m ≡ Some rest))
  taken_both None l m some more first later = tt
  taken_both (Some all) l m some more (left, is, now) later =
      let (rest, are, end) = subst (λ list. IfSome list (λ all. (rest : List (R × W)) × (all ≡ map given_as more ++ rest) × (m ≡ Some rest))) now later in
      let both = sym (append_assoc (map given_as some) (map given_as more) rest) ∙ ap (λ given. given ++ rest) (sym (map-append given_as some more)) in
      (rest, is ∙ ap (λ list. map given_as some ++ list) are ∙ both, end)

  -- those that it has back, and others behind them
  back_both : (e b p : Option (List W)) (some more : List (Connection R W)) → IfSome e (λ earlier. b ≡ Some (earlier ++ map back_as some)) → IfSome b (λ earlier. p ≡ Some (earlier ++ map back_as more))
      → IfSome e (λ earlier. p ≡ Some (earlier ++ map back_as (some ++ more)))
  back_both None b p some more first later = tt
  back_both (Some earlier) b p some more first later =
      subst (λ list. IfSome list (λ earlier. p ≡ Some (earlier ++ map back_as more))) first later
      ∙ ap Some (append_assoc earlier (map back_as some) (map back_as more) ∙ ap (λ back. earlier ++ back) (sym (map-append back_as some more)))

module _ {K : Type 0} (holds : K → Result Image Table → Type 0) (shown : Option Text) where
  moved : {xs ys : List Exchange} {f g c d : ℕ} {old new : DeskView K} → xs ≡ ys → f ≡ g → c ≡ d → Visits holds shown xs f c old new → Visits holds shown ys g d old new
  moved {xs} {ys} {f} {g} {c} {d} {old} {new} inputs full cut visits =
      subst (λ x. Visits holds shown x g d old new) inputs (subst (λ x. Visits holds shown xs x d old new) full (subst (λ x. Visits holds shown xs f x old new) cut visits))

  together : {inputs : List Exchange} {more_full more_cut : ℕ} {mid new : DeskView K} → Visits holds shown inputs more_full more_cut mid new
      → (before : List Exchange) (full cut : ℕ) (old : DeskView K) → Visits holds shown before full cut old mid
      → Visits holds shown (before ++ inputs) (full + more_full) (cut + more_cut) old new
  together (nobody desk) before full cut old first =
      let same_full : full ≡ full + 0 = omega arith in
      let same_cut : cut ≡ cut + 0 = omega arith in
      moved (sym (append-nil before)) same_full same_cut first
  together (full_visit inputs input f c from by to earlier done) before full cut old first =
      let same_full : full + f + 1 ≡ full + (f + 1) = omega arith in
      moved (append_assoc before inputs (input ∷ [])) same_full refl
      (full_visit (before ++ inputs) input (full + f) (cut + c) old by to (together earlier before full cut old first) done)
  together (cut_visit inputs input f c from by to earlier done) before full cut old first =
      let same_cut : cut + c + 1 ≡ cut + (c + 1) = omega arith in
      moved (append_assoc before inputs (input ∷ [])) refl same_cut
      (cut_visit (before ++ inputs) input (full + f) (cut + c) old by to (together earlier before full cut old first) done)

  module _ {R W : Type 0} (remaining : R → Option Text) (contents : W → Option Text) where
    -- connections that were visited, and then more
    pub visited_more : (w l m : Option (List (R × W))) (e b p : Option (List W)) (full cut more_full more_cut : ℕ) (old mid new : DeskView K) → Visited holds shown remaining contents w l e b full cut old mid
        → Visited holds shown remaining contents l m b p more_full more_cut mid new → Visited holds shown remaining contents w m e p (full + more_full) (cut + more_cut) old new
    visited_more w l m e b p full cut more_full more_cut old mid new first more = record {
      served = first.served ++ more.served;
      taken = taken_both w l m first.served more.served first.taken more.taken;
      returned = back_both e b p first.served more.served first.returned more.returned;
      number = simp length-append (omega (arith, first.number, more.number));
      visits = subst (λ list. Visits holds shown list (full + more_full) (cut + more_cut) old new) (sym (map-append (exchange_of remaining contents) first.served more.served))
          (together more.visits (map (exchange_of remaining contents) first.served) full cut old first.visits);
    }

    -- what connections tell may be forgotten, however a service ends

    pub ended_so : {E : Type 0} (w l : Option (List (R × W))) (e b : Option (List W)) (old new : DeskView K) (r : Result Served E) → IfOk r (λ s. Visited holds shown remaining contents w l e b s.full s.cut old new)
        → IfOk r (λ s. HasVisited holds s.full s.cut old new)
    ended_so w l e b old new (Ok s) visited = has_visited holds shown remaining contents w l e b s.full s.cut old new visited
    ended_so w l e b old new (Err fault) visited = tt

    pub stopped_so : {E : Type 0} (w l : Option (List (R × W))) (e b : Option (List W)) (old new : DeskView K) (r : Result Served E) → OnErr r ((full : ℕ) × (cut : ℕ) × Visited holds shown remaining contents w l e b full cut old new)
        → OnErr r ((full : ℕ) × (cut : ℕ) × HasVisited holds full cut old new)
    stopped_so w l e b old new (Ok s) visited = tt
    stopped_so w l e b old new (Err fault) (full, cut, visited) = (full, cut, has_visited holds shown remaining contents w l e b full cut old new visited)
