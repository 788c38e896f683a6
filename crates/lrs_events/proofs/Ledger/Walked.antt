-- Walks over the pieces of a course: those before a run and behind it have none of it.
use Rattle.std.proofs.Common.{◌≡◌, ℕ, zero, suc, ◌+◌, ◌-◌, ◌<◌, ◌≤◌, min, cond, ◌⊎◌, inl, inr, List, [], ◌∷◌, ◌++◌, length, get_or, take, drop, refl, sym, ap, ◌∙◌, arith, append_assoc, append-nil}
use Rattle.std.specs.List.{flat_map}
use Rattle.std.proofs.lemmas.Bool.{cases_lt, le-ltb}
use Rattle.std.proofs.lemmas.List.{drop_more, drop_all, length-append}
use Rattle.lrs_element.specs.declared.link.Piece.{Piece}
use Rattle.lrs_element.specs.Course.{expand, course_of}
use Rattle.lrs_element.specs.Pieces.{piece_len, start_of, AreStarts}
use Rattle.lrs_element.proofs.Expanding.{length-expand}
use Rattle.lrs_element.proofs.Walking.{start_of_more}
use Rattle.lrs_events.specs.declared.part.Part.{Part}
use Rattle.lrs_events.specs.declared.side.LinkSide.{LinkSide}
use Rattle.lrs_events.specs.declared.ledgers.run.Run.{Run}
use Rattle.lrs_events.specs.Ledger.Cuts.{part_between, parts_in, parts_from}

module _ (n : ℕ) (run : Run) (s : LinkSide) where
  none_in : (st : ℕ) (q : Piece) → min (run.to - st) (piece_len q) ≤ run.from - st → parts_in n run s st q ≡ []
  none_in st q h = ap (λ b. cond b (part_between n run.asset s q (run.from - st) (min (run.to - st) (piece_len q)) ∷ []) []) (le-ltb (run.from - st) (min (run.to - st) (piece_len q)) h)

  -- nothing lies behind its end
  pub none_behind : (st : ℕ) (ps : List Piece) → run.to ≤ st → parts_from n run s st ps ≡ []
  none_behind st [] h = refl
  none_behind st (q ∷ qs) h = (λ i. none_in st q (omega (arith, h)) i ++ parts_from n run s (st + piece_len q) qs) ∙ none_behind (st + piece_len q) qs (omega (arith, h))

  -- nor before its start
  pub none_before : (st i : ℕ) (ps : List Piece) → i ≤ length ps → st + start_of ps i ≤ run.from ⊎ (i ≡ 0) → parts_from n run s st ps ≡ parts_from n run s (st + start_of ps i) (drop i ps)
  none_before st zero ps h e = ap (λ k. parts_from n run s k ps) (omega arith)
  none_before st (suc i) [] h e = absurd (omega (arith, h))
  none_before st (suc i) (q ∷ qs) h (inr e) = absurd (omega (arith, e))
  none_before st (suc i) (q ∷ qs) h (inl low) =
      let len = length-append (expand q) (course_of (take i qs)) in
      let one = length-expand q in
      let sum : (st + piece_len q) + start_of qs i ≡ st + start_of (q ∷ qs) (suc i) = omega (arith, len, one) in
      (λ j. none_in st q (omega (arith, len, one, low)) j ++ parts_from n run s (st + piece_len q) qs)
      ∙ none_before (st + piece_len q) i qs (omega (arith, h)) (inl (omega (arith, sum, low)))
      ∙ ap (λ k. parts_from n run s k (drop i qs)) sum

  -- the walk, as far as piece i
  abbrev pub Walked : List Part → List Part → List Piece → ℕ → Type 0
  Walked old now ps i = now ++ parts_from n run s (start_of ps i) (drop i ps) ≡ old ++ parts_from n run s 0 ps

  pub walk_start : (old : List Part) (ps : List Piece) (starts : List ℕ) (up first : ℕ) → AreStarts starts ps → up ≤ length starts → ((k : ℕ) → k < up → get_or starts k 0 ≤ run.from) → first ≡ up - 1 → Walked old old ps first
  walk_start old ps starts up first are within low e = ap (λ xs. old ++ xs) (sym (none_before 0 first ps (omega (arith, c, within, e)) (by (cases_lt 0 up)) ∙ ap (λ k. parts_from n run s k (drop first ps)) (omega arith)))
    where
      c : length starts ≡ length ps
      c = are.count

      by : (0 < up) ⊎ (up ≤ 0) → (0 + start_of ps first ≤ run.from) ⊎ (first ≡ 0)
      by (inl h) =
          let l = low first (omega (arith, e, h)) in
          let is = are.start first (omega (arith, e, h, c, within)) in
          inl (omega (arith, l, is))
      by (inr h) = inr (omega (arith, e, h))

  pub walk_step : (old now next : List Part) (ps : List Piece) (i st : ℕ) (d : Piece) → i < length ps → st ≡ start_of ps i → Walked old now ps i → next ≡ now ++ parts_in n run s st (get_or ps i d) → Walked old next ps (i + 1)
  walk_step old now next ps i st d h is was e =
      let q : Piece = get_or ps i d in
      let more : st + piece_len q ≡ start_of ps (i + 1) = start_of_more ps i st (piece_len q) d h is refl in
      (λ j. e j ++ parts_from n run s (sym more j) (drop (i + 1) ps))
      ∙ append_assoc now (parts_in n run s st q) (parts_from n run s (st + piece_len q) (drop (i + 1) ps))
      ∙ (λ j. now ++ sym (ap (parts_from n run s st) (drop_more ps i d h)) j)
      ∙ (λ j. now ++ parts_from n run s (is j) (drop i ps))
      ∙ was

  pub walk_end : (old now : List Part) (ps : List Piece) (starts : List ℕ) (i end to : ℕ) → AreStarts starts ps → end ≤ i → ((k : ℕ) → end ≤ k → k < length starts → to < get_or starts k 0) → to ≡ run.to - 1 → Walked old now ps i → now ≡ old ++ parts_from n run s 0 ps
  walk_end old now ps starts i end to are past behind e was = sym (append-nil now) ∙ ap (λ xs. now ++ xs) (sym (by (cases_lt i (length ps)))) ∙ was
    where
      c : length starts ≡ length ps
      c = are.count

      by : (i < length ps) ⊎ (length ps ≤ i) → parts_from n run s (start_of ps i) (drop i ps) ≡ []
      by (inl h) =
          let b = behind i past (omega (arith, h, c)) in
          let is = are.start i h in
          none_behind (start_of ps i) (drop i ps) (omega (arith, b, is, e))
      by (inr h) = ap (parts_from n run s (start_of ps i)) (drop_all i ps h)

-- ---- run by run

pub runs_more : (f : Run → List Part) (runs : List Run) (i : ℕ) (d : Run) (old now next : List Part) → i < length runs → now ++ flat_map f (drop i runs) ≡ old → next ≡ now ++ f (get_or runs i d) → next ++ flat_map f (drop (i + 1) runs) ≡ old
runs_more f runs i d old now next h was e =
    ap (λ xs. xs ++ flat_map f (drop (i + 1) runs)) e ∙ append_assoc now (f (get_or runs i d)) (flat_map f (drop (i + 1) runs)) ∙ (λ j. now ++ sym (ap (flat_map f) (drop_more runs i d h)) j) ∙ was

pub runs_done : (f : Run → List Part) (runs : List Run) (i : ℕ) (old now : List Part) → length runs ≤ i → now ++ flat_map f (drop i runs) ≡ old → now ≡ old
runs_done f runs i old now past was = sym (append-nil now) ∙ sym (ap (λ xs. now ++ flat_map f xs) (drop_all i runs past)) ∙ was
