-- One more connection.
use Rattle.std.proofs.Common.{◌≡◌, ℕ, ◌+◌, List, [], ◌∷◌, ◌++◌, Option, None, Some, IfOk, IfSome, IsOkAnd, Result, Ok, Err, refl, sym, ap, ◌∙◌, subst, append_assoc, append-nil, length-append, map, arith, inl, inr}
use Rattle.std.proofs.lemmas.List.{length-map, map-append}
use Rattle.lrs_machine.specs.Lines.{Text}
use Rattle.lrs_machine.specs.declared.image.Image.{Image}
use Rattle.lrs_machine.specs.declared.table.Table.{Table}
use Rattle.lrs_sheet.specs.DeskView.{DeskView}
use Rattle.lrs_web_requests.specs.Request.{Asked, AsksWith}
use Rattle.lrs_web_requests.specs.Text.{Answer}
use Rattle.lrs_web.specs.declared.request.WebFault.{WebFault}
use Rattle.lrs_web.specs.RequestAnswers.{Does, Responds, Writes}
use Rattle.lrs_web.specs.Door.{Gives, KeepsAll, TakesBack}
use Rattle.lrs_web.specs.Visits.{Connection, HasVisited, IsCut, IsFull, Visited, Visits, back_as, exchange_of, given_as, nobody, full_visit, cut_visit}

-- what is mapped, and one more
snoc : {A B : Type 0} (f : A → B) (xs : List A) (x : A) → map f xs ++ f x ∷ [] ≡ map f (xs ++ x ∷ [])
snoc f xs x = sym (map-append f xs (x ∷ []))

-- ---- connections on the list of a door

module _ {C : Type 0} where
  none_taken : (w : Option (List C)) → IfSome w (λ all. (rest : List C) × (all ≡ [] ++ rest) × (w ≡ Some rest))
  none_taken None = tt
  none_taken (Some all) = (all, refl, refl)

  one_more : (given rest cs : List C) (c : C) → rest ≡ c ∷ cs → given ++ rest ≡ (given ++ c ∷ []) ++ cs
  one_more given rest cs c e = ap (λ l. given ++ l) e ∙ sym (append_assoc given (c ∷ []) cs)

  -- what the door gave was the first that was left
  given_first : (rest : List C) (c : C) (left : Option (List C)) → Gives (Some rest) c left → (cs : List C) × (rest ≡ c ∷ cs) × (left ≡ Some cs)
  given_first [] c left gives = absurd gives
  given_first (x ∷ cs) c None gives = absurd gives
  given_first (x ∷ cs) c (Some left) gives = (cs, ap (λ y. y ∷ cs) gives.0, ap Some gives.1)

  one_taken : (w l m : Option (List C)) (given : List C) (c : C) → IfSome w (λ all. (rest : List C) × (all ≡ given ++ rest) × (l ≡ Some rest)) → Gives l c m
      → IfSome w (λ all. (rest : List C) × (all ≡ (given ++ c ∷ []) ++ rest) × (m ≡ Some rest))
  one_taken None l m given c taken gives = tt
  one_taken (Some all) l m given c taken gives =
      let first = given_first taken.0 c m (subst (λ x. Gives x c m) taken.2 gives) in
      (first.0, taken.1 ∙ one_more given taken.0 first.0 c first.1, first.2)

  kept_left : (rest : List C) (m : Option (List C)) → KeepsAll (Some rest) m → m ≡ Some rest
  kept_left rest None keeps = absurd keeps
  kept_left rest (Some left) keeps = ap Some keeps

  kept : (w l m : Option (List C)) (given : List C) → IfSome w (λ all. (rest : List C) × (all ≡ given ++ rest) × (l ≡ Some rest)) → KeepsAll l m
      → IfSome w (λ all. (rest : List C) × (all ≡ given ++ rest) × (m ≡ Some rest))
  kept None l m given taken keeps = tt
  kept (Some all) l m given taken keeps = (taken.0, taken.1, kept_left taken.0 m (subst (λ x. KeepsAll x m) taken.2 keeps))

  -- ---- connections that a door has back

  none_back : (e : Option (List C)) → IfSome e (λ earlier. e ≡ Some (earlier ++ []))
  none_back None = tt
  none_back (Some earlier) = ap Some (sym (append-nil earlier))

  back_kept : (e b m : Option (List C)) (back : List C) → IfSome e (λ earlier. b ≡ Some (earlier ++ back)) → KeepsAll b m → IfSome e (λ earlier. m ≡ Some (earlier ++ back))
  back_kept None b m back is keeps = tt
  back_kept (Some earlier) b m back is keeps = kept_left (earlier ++ back) m (subst (λ x. KeepsAll x m) is keeps)

  back_behind : (cs : List C) (c : C) (n : Option (List C)) → TakesBack (Some cs) c n → n ≡ Some (cs ++ c ∷ [])
  back_behind cs c None takes = absurd takes
  back_behind cs c (Some all) takes = ap Some takes

  one_back : (e b n : Option (List C)) (back : List C) (c : C) → IfSome e (λ earlier. b ≡ Some (earlier ++ back)) → TakesBack b c n
      → IfSome e (λ earlier. n ≡ Some (earlier ++ (back ++ c ∷ [])))
  one_back None b n back c is takes = tt
  one_back (Some earlier) b n back c is takes =
      back_behind (earlier ++ back) c n (subst (λ x. TakesBack x c n) is takes) ∙ ap Some (append_assoc earlier back (c ∷ []))

module _ {K : Type 0} (holds : K → Result Image Table → Type 0) (shown : Option Text) where
  -- an answer that is no 503 is the one that is due
  pub full_by : (input before after : Option Text) (asked : Asked) (old new : DeskView K) (r : Result ℕ WebFault) → IfSome input (λ bytes. AsksWith shown bytes asked)
      → IfOk r (λ status. (answer : Answer) × Writes before after status answer × Responds holds asked old answer new) → IsOkAnd r (λ status. status ≡ 503 → ⊥)
      → IsFull holds shown (record { input = input; before = before; after = after }) old new
  full_by input before after asked old new (Ok status) asks (answer, writes, (due, does, inl same)) other =
      (asked, due, status, record { asks = asks; does = does }, subst (λ a. Writes before after status a) same writes, other)
  full_by input before after asked old new (Ok status) asks (answer, writes, (due, does, inr none)) other = absurd (other (writes.0 ∙ ap (λ (a : Answer). a.status) none))
  full_by input before after asked old new (Err fault) asks written other = absurd other

  pub cut_by : (bytes : Option Text) (asked : Asked) (old new : DeskView K) → IfSome bytes (λ input. AsksWith shown input asked) → (due : Answer) × Does holds asked old due new → IsCut holds shown bytes old new
  cut_by bytes asked old new asks (due, does) = inr (asked, due, record { asks = asks; does = does })

  module _ {R W : Type 0} (remaining : R → Option Text) (contents : W → Option Text) where
    pub visited_nobody : (w : Option (List (R × W))) (e : Option (List W)) (desk : DeskView K) → Visited holds shown remaining contents w w e e 0 0 desk desk
    visited_nobody w e desk = record { served = []; taken = none_taken w; returned = none_back e; number = refl; visits = nobody desk }

    -- a connection comes, is served and goes back
    taken_with : (w l m n : Option (List (R × W))) (served : List (Connection R W)) (c : Connection R W)
        → IfSome w (λ all. (rest : List (R × W)) × (all ≡ map given_as served ++ rest) × (l ≡ Some rest)) → Gives l (given_as c) m → KeepsAll m n
        → IfSome w (λ all. (rest : List (R × W)) × (all ≡ map given_as (served ++ c ∷ []) ++ rest) × (n ≡ Some rest))
    taken_with w l m n served c taken gives keeps =
        subst (λ given. IfSome w (λ all. (rest : List (R × W)) × (all ≡ given ++ rest) × (n ≡ Some rest))) (snoc given_as served c)
        (kept w m n (map given_as served ++ given_as c ∷ []) (one_taken w l m (map given_as served) (given_as c) taken gives) keeps)

    back_with : (e b m n : Option (List W)) (served : List (Connection R W)) (c : Connection R W) → IfSome e (λ earlier. b ≡ Some (earlier ++ map back_as served))
        → KeepsAll b m → TakesBack m (back_as c) n → IfSome e (λ earlier. n ≡ Some (earlier ++ map back_as (served ++ c ∷ [])))
    back_with e b m n served c is keeps takes =
        subst (λ back. IfSome e (λ earlier. n ≡ Some (earlier ++ back))) (snoc back_as served c)
        (one_back e m n (map back_as served) (back_as c) (back_kept e b m (map back_as served) is keeps) takes)

    pub visited_full : (w l m n : Option (List (R × W))) (e b p q : Option (List W)) (c : Connection R W) (full cut : ℕ) (old mid new : DeskView K)
        → Visited holds shown remaining contents w l e b full cut old mid → Gives l (given_as c) m → KeepsAll m n → KeepsAll b p → TakesBack p (back_as c) q
        → IsFull holds shown (exchange_of remaining contents c) mid new → Visited holds shown remaining contents w n e q (full + 1) cut old new
    visited_full w l m n e b p q c full cut old mid new before gives keeps stays takes done = record {
      served = before.served ++ c ∷ [];
      taken = taken_with w l m n before.served c before.taken gives keeps;
      returned = back_with e b p q before.served c before.returned stays takes;
      number = simp length-append (omega (arith, before.number));
      visits = subst (λ l. Visits holds shown l (full + 1) cut old new) (snoc (exchange_of remaining contents) before.served c) (full_visit _ (exchange_of remaining contents c) full cut old mid new before.visits done);
    }

    pub visited_cut : (w l m n : Option (List (R × W))) (e b p q : Option (List W)) (c : Connection R W) (full cut : ℕ) (old mid new : DeskView K)
        → Visited holds shown remaining contents w l e b full cut old mid → Gives l (given_as c) m → KeepsAll m n → KeepsAll b p → TakesBack p (back_as c) q
        → IsCut holds shown (remaining c.reader) mid new → Visited holds shown remaining contents w n e q full (cut + 1) old new
    visited_cut w l m n e b p q c full cut old mid new before gives keeps stays takes done = record {
      served = before.served ++ c ∷ [];
      taken = taken_with w l m n before.served c before.taken gives keeps;
      returned = back_with e b p q before.served c before.returned stays takes;
      number = simp length-append (omega (arith, before.number));
      visits = subst (λ l. Visits holds shown l full (cut + 1) old new) (snoc (exchange_of remaining contents) before.served c) (cut_visit _ (exchange_of remaining contents c) full cut old mid new before.visits done);
    }

    -- what connections tell may be forgotten
    pub has_visited : (w l : Option (List (R × W))) (e b : Option (List W)) (full cut : ℕ) (old new : DeskView K) → Visited holds shown remaining contents w l e b full cut old new → HasVisited holds full cut old new
    has_visited w l e b full cut old new before =
        (shown, map (exchange_of remaining contents) before.served, length-map before.served (exchange_of remaining contents) ∙ before.number, before.visits)

    -- a door that fails takes nobody off its list, and has nobody back
    pub visited_kept : (w l m : Option (List (R × W))) (e b p : Option (List W)) (full cut : ℕ) (old new : DeskView K) → Visited holds shown remaining contents w l e b full cut old new → KeepsAll l m → KeepsAll b p
        → Visited holds shown remaining contents w m e p full cut old new
    visited_kept w l m e b p full cut old new before keeps stays = record {
      served = before.served;
      taken = kept w l m (map given_as before.served) before.taken keeps;
      returned = back_kept e b p (map back_as before.served) before.returned stays;
      number = before.number;
      visits = before.visits;
    }
