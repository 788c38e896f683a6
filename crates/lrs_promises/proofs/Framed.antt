-- Which records of a sheet are answered is decided by its bytes, whoever answers them.
use Rattle.std.proofs.Common.{◌≡◌, ◌⊎◌, inl, inr, List, [], ◌∷◌, ◌++◌, length, append_assoc, ℕ, None, Result, Ok, Err, refl, sym, ap, subst, ◌∙◌}
use Rattle.std.specs.List.{AllByRecursion}
use Rattle.csv.specs.Machine.{next_record}
use Rattle.csv.specs.Reading.{Reached, default_config, strip_bom}
use Rattle.csv.specs.declared.parser.Config.{Config}
use Rattle.csv.specs.declared.parser.State.{State as Place}
use Rattle.csv.specs.declared.parser.State.TheVariants as st
use Rattle.lrs_machine.specs.Lines.{Text}
use Rattle.lrs_sheet_records.specs.Rows.{AreAll, BeginsWith}
use Rattle.lrs_sheet_records.specs.declared.fault.SheetFault.{SheetFault}
use Rattle.lrs_sheet_records.specs.declared.fault.SheetFault.TheVariants as fault
use Rattle.lrs_sheet.proofs.Determined.{all-one}
use Rattle.lrs_sheet.proofs.Resuming.{no_first, one_first, reached_front}

-- ---- lists

pub first_same : {X : Type 0} (x y : X) (xs ys : List X) → x ∷ xs ≡ y ∷ ys → x ≡ y
first_same x y xs ys e = cc

pub rest_same : {X : Type 0} (x y : X) (xs ys : List X) → x ∷ xs ≡ y ∷ ys → xs ≡ ys
rest_same x y xs ys e = cc

behind_same : {X : Type 0} (front xs ys : List X) → front ++ xs ≡ front ++ ys → xs ≡ ys
behind_same [] xs ys e = e
behind_same (f ∷ front) xs ys e = behind_same front xs ys (rest_same f f (front ++ xs) (front ++ ys) e)

snoc_behind : {X : Type 0} (xs behind : List X) (f : X) → (xs ++ f ∷ []) ++ behind ≡ xs ++ f ∷ behind
snoc_behind [] behind f = refl
snoc_behind (x ∷ xs) behind f = ap (λ l. x ∷ l) (snoc_behind xs behind f)

module _ {X : Type 0} (P : X → Type 0) where
  -- those before the first that does not pass are the same
  odd_first : (xs ys behind beyond : List X) (f g : X) → AllByRecursion P xs → AllByRecursion P ys → (P f → ⊥) → (P g → ⊥) → xs ++ f ∷ behind ≡ ys ++ g ∷ beyond → xs ≡ ys
  odd_first [] [] behind beyond f g p q odd other e = refl
  odd_first [] (y ∷ ys) behind beyond f g p q odd other e = absurd (odd (subst P (sym (first_same f y behind (ys ++ g ∷ beyond) e)) q.0))
  odd_first (x ∷ xs) [] behind beyond f g p q odd other e = absurd (other (subst P (first_same x g (xs ++ f ∷ behind) beyond e) p.0))
  odd_first (x ∷ xs) (y ∷ ys) behind beyond f g p q odd other e =
      let first = first_same x y (xs ++ f ∷ behind) (ys ++ g ∷ beyond) e in
      let rest = odd_first xs ys behind beyond f g p.1 q.1 odd other (rest_same x y (xs ++ f ∷ behind) (ys ++ g ∷ beyond) e) in
      λ i. first i ∷ rest i

  -- one among them passes
  pub among : (xs behind : List X) (f : X) → AllByRecursion P (xs ++ f ∷ behind) → P f
  among [] behind f p = p.0
  among (x ∷ xs) behind f p = among xs behind f p.1

  -- those behind the first ones pass
  pub all_behind : (front behind : List X) → AllByRecursion P (front ++ behind) → AllByRecursion P behind
  all_behind [] behind p = p
  all_behind (f ∷ front) behind p = all_behind front behind p.1

-- ---- the records of a text

-- one of the lists begins the other
abbrev pub Begin : List (List Text) → List (List Text) → Type 0
Begin a b = ((behind : List (List Text)) × (a ≡ b ++ behind)) ⊎ ((behind : List (List Text)) × (b ≡ a ++ behind))

begin_more : (r q : List Text) (a b : List (List Text)) → r ≡ q → Begin a b → Begin (r ∷ a) (q ∷ b)
begin_more r q a b e (inl (behind, is)) = inl (behind, λ i. e i ∷ is i)
begin_more r q a b e (inr (behind, is)) = inr (behind, λ i. sym e i ∷ is i)

begin_less : (r q : List Text) (a b : List (List Text)) → Begin (r ∷ a) (q ∷ b) → (r ≡ q) × Begin a b
begin_less r q a b (inl (behind, is)) = (first_same r q a (b ++ behind) is, inl (behind, rest_same r q a (b ++ behind) is))
begin_less r q a b (inr (behind, is)) = (sym (first_same q r b (a ++ behind) is), inr (behind, rest_same q r b (a ++ behind) is))

-- ... also behind the same first ones
begin_behind : (front a b : List (List Text)) → Begin (front ++ a) (front ++ b) → Begin a b
begin_behind [] a b h = h
begin_behind (f ∷ front) a b h = begin_behind front a b (begin_less f f (front ++ a) (front ++ b) h).1

-- ... and in front of others
pub begin_before : (a b others more : List (List Text)) → Begin (a ++ others) (b ++ more) → Begin a b
begin_before [] b others more h = inr (b, refl)
begin_before (r ∷ rs) [] others more h = inl (r ∷ rs, refl)
begin_before (r ∷ rs) (q ∷ qs) others more h =
    let less = begin_less r q (rs ++ others) (qs ++ more) h in
    begin_more r q rs qs less.0 (begin_before rs qs others more less.1)

both_begin : (cfg : Config) (s s1 s2 : Place) (xs y1 y2 : Text) (a b : List (List Text)) → Reached cfg s xs a s1 y1 → Reached cfg s xs b s2 y2 → Begin a b
both_begin cfg s s1 s2 xs y1 y2 a [] h g = inl (a, refl)
both_begin cfg s s1 s2 xs y1 y2 [] (q ∷ qs) h g = inr (q ∷ qs, refl)
both_begin cfg s s1 s2 xs y1 y2 (r ∷ rs) (q ∷ qs) h g =
    let first = one_first cfg s s1 s2 xs y1 y2 r q rs qs h g in
    begin_more r q rs qs first.same (both_begin cfg first.place s1 s2 first.rest y1 y2 rs qs first.one first.other)

-- both stand at the front of the text, under one header
pub record UnderOne (header other : List Text) (a b : List (List Text)) : Type 0 where
  pub same : header ≡ other
  pub begin : Begin a b

pub under_one : (input : Text) (header other : List Text) (a b : List (List Text)) → BeginsWith input (header ∷ a) → BeginsWith input (other ∷ b) → UnderOne header other a b
under_one input header other a b (s1, y1, reached) (s2, y2, reached') =
    let first = one_first default_config st.StartRecord s1 s2 (strip_bom input) y1 y2 header other a b reached reached' in
    record { same = first.same; begin = both_begin default_config first.place s1 s2 first.rest y1 y2 a b first.one first.other }

-- what begins a text begins the list of all its records
begin_with : (cfg : Config) (s s1 s2 : Place) (xs y1 y2 : Text) (all front : List (List Text)) → Reached cfg s xs all s1 y1 → next_record cfg s1 [] [] y1 ≡ None → Reached cfg s xs front s2 y2
    → (behind : List (List Text)) × (all ≡ front ++ behind)
unfolding Reached
begin_with cfg s s1 s2 xs y1 y2 all [] h none g = (all, refl)
begin_with cfg s s1 s2 xs y1 y2 [] (q ∷ qs) h none (p, next, is, more) = cc (ap (λ (q : Place). next_record cfg q [] [] xs) h.0, ap (λ (q : Text). next_record cfg s1 [] [] q) h.1, none, next)
begin_with cfg s s1 s2 xs y1 y2 (r ∷ rs) (q ∷ qs) h none g =
    let first = one_first cfg s s1 s2 xs y1 y2 r q rs qs h g in
    let (behind, is) = begin_with cfg first.place s1 s2 first.rest y1 y2 rs qs first.one none first.other in
    (behind, λ j. first.same j ∷ is j)

begun : (input : Text) (header other : List Text) (records front : List (List Text)) → AreAll input (header ∷ records) → BeginsWith input (other ∷ front) → (behind : List (List Text)) × (records ≡ front ++ behind)
begun input header other records front (end, left, all, none) (place, rest, reached) =
    let first = one_first default_config st.StartRecord end place (strip_bom input) left rest header other records front all reached in
    begin_with default_config first.place end place first.rest left rest records front first.one none first.other

pub all_begin : (input : Text) (records : List (List Text)) → AreAll input records → BeginsWith input records
all_begin input records (s, y, reached, end) = (s, y, reached)

-- the first of the records that begin a text begin it
pub front_begins : (input : Text) (header : List Text) (front behind : List (List Text)) → BeginsWith input (header ∷ (front ++ behind)) → BeginsWith input (header ∷ front)
front_begins input header front behind (end, left, reached) = reached_front default_config st.StartRecord end (strip_bom input) left (header ∷ front) behind reached

-- ---- how a sheet is decided

-- how many fields each record has
abbrev pub Wide : ℕ → List (List Text) → Type 0
Wide width records = AllByRecursion (λ (fields : List Text). length fields ≡ width) records

-- A sheet is decided behind these first records: nothing is done where it is empty, or under another header; else its records are done, all or those before one of another width.
pub data Framed {X T : Type 0} (IsHead : List Text → Type 0) (width : ℕ) (input : Text) (count : X → T) (none : X) (passed : List (List Text)) (Nothing : Type 0) (Done : List (List Text) → X → Type 0) : Result T SheetFault → Type 0 where
  empty : AreAll input [] → Nothing → Framed IsHead width input count none passed Nothing Done (Ok (count none))
  other_header : (header : List Text) → BeginsWith input (header ∷ []) → (IsHead header → ⊥) → Nothing → Framed IsHead width input count none passed Nothing Done (Err fault.BadHeader)
  whole : (header : List Text) (records : List (List Text)) (replies : X) → IsHead header → AreAll input (header ∷ (passed ++ records)) → Wide width records → Done records replies
      → Framed IsHead width input count none passed Nothing Done (Ok (count replies))
  other_width : (header : List Text) (records : List (List Text)) (fields : List Text) (replies : X) → IsHead header → BeginsWith input (header ∷ (passed ++ (records ++ fields ∷ [])))
      → (length fields ≡ width → ⊥) → Wide width records → Done records replies → Framed IsHead width input count none passed Nothing Done (Err fault.BadCsv)

-- Two sheets are decided alike: nothing is done of either, or the same records of both.
pub data Alike {X T : Type 0} (Nothing Nought : Type 0) (Done Did : List (List Text) → X → Type 0) : Result T SheetFault → Result T SheetFault → Type 0 where
  neither : (ended : Result T SheetFault) → Nothing → Nought → Alike Nothing Nought Done Did ended ended
  each : (end : X → Result T SheetFault) (records : List (List Text)) (replies more : X) → Done records replies → Did records more → Alike Nothing Nought Done Did (end replies) (end more)

-- behind which records each goes on, where that is one list
abbrev pub PassAlike : (List Text → Type 0) → Text → List (List Text) → List (List Text) → Type 0
PassAlike IsHead input passed beyond =
    (header : List Text) (records others : List (List Text)) → IsHead header → BeginsWith input (header ∷ (passed ++ records)) → BeginsWith input (header ∷ (beyond ++ others)) → passed ≡ beyond

module _ {X T : Type 0} (IsHead : List Text → Type 0) (width : ℕ) (input : Text) (count : X → T) (none : X) (passed beyond : List (List Text)) (pass : PassAlike IsHead input passed beyond) (Nothing Nought : Type 0) (Done Did : List (List Text) → X → Type 0) where
  header_not : (header other : List Text) → (IsHead header → ⊥) → header ≡ other → IsHead other → ⊥
  header_not header other differs same is = differs (subst IsHead (sym same) is)

  -- two sheets behind the same first records, under one header
  record Shared (records others : List (List Text)) : Type 0 where
    pub begin : Begin records others
    pub passes : passed ≡ beyond

  shared : (h k : List Text) (records others : List (List Text)) → IsHead h → BeginsWith input (h ∷ (passed ++ records)) → BeginsWith input (k ∷ (beyond ++ others)) → Shared records others
  shared h k records others is one two =
      let under = under_one input h k (passed ++ records) (beyond ++ others) one two in
      let same = pass h records others is one (subst (λ (x : List Text). BeginsWith input (x ∷ (beyond ++ others))) (sym under.same) two) in
      record {
        begin = begin_behind passed records others (subst (λ (p : List (List Text)). Begin (passed ++ records) (p ++ others)) (sym same) under.begin);
        passes = same;
      }

  both_whole : (h k : List Text) (records others : List (List Text)) (replies more : X) → IsHead h → AreAll input (h ∷ (passed ++ records)) → AreAll input (k ∷ (beyond ++ others)) → Done records replies → Did others more
      → Alike Nothing Nought Done Did (Ok (count replies)) (Ok (count more))
  both_whole h k records others replies more is all also done did =
      let same = (shared h k records others is (all_begin input (h ∷ (passed ++ records)) all) (all_begin input (k ∷ (beyond ++ others)) also)).passes in
      let rows = rest_same h k (passed ++ records) (beyond ++ others) (all-one input (h ∷ (passed ++ records)) (k ∷ (beyond ++ others)) all also) in
      let e : records ≡ others = behind_same passed records others (rows ∙ ap (λ (p : List (List Text)). p ++ others) (sym same)) in
      each (λ (x : X). Ok (count x)) records replies more done (subst (λ (r : List (List Text)). Did r more) (sym e) did)

  -- where all records have the width, none has another
  not_both : (h k : List Text) (front records others : List (List Text)) (fields : List Text) → AreAll input (h ∷ (front ++ records)) → Wide width records → BeginsWith input (k ∷ (front ++ (others ++ fields ∷ [])))
      → length fields ≡ width
  not_both h k front records others fields all wide begins =
      let (behind, is) = begun input h k (front ++ records) (front ++ (others ++ fields ∷ [])) all begins in
      let e = behind_same front records ((others ++ fields ∷ []) ++ behind) (is ∙ append_assoc front (others ++ fields ∷ []) behind) in
      among (λ (f : List Text). length f ≡ width) others behind fields (subst (Wide width) (e ∙ snoc_behind others behind fields) wide)

  odd_records : (records others : List (List Text)) (f g : List Text) → Wide width records → Wide width others → (length f ≡ width → ⊥) → (length g ≡ width → ⊥) → Begin (records ++ f ∷ []) (others ++ g ∷ []) → records ≡ others
  odd_records records others f g wide also odd other (inl (behind, is)) =
      odd_first (λ (r : List Text). length r ≡ width) records others [] behind f g wide also odd other (is ∙ snoc_behind others behind g)
  odd_records records others f g wide also odd other (inr (behind, is)) =
      sym (odd_first (λ (r : List Text). length r ≡ width) others records [] behind g f also wide other odd (is ∙ snoc_behind records behind f))

  both_odd : (h k : List Text) (records others : List (List Text)) (f g : List Text) (replies more : X) → IsHead h → BeginsWith input (h ∷ (passed ++ (records ++ f ∷ []))) → BeginsWith input (k ∷ (beyond ++ (others ++ g ∷ [])))
      → (length f ≡ width → ⊥) → (length g ≡ width → ⊥) → Wide width records → Wide width others → Done records replies → Did others more → Alike {X = X} {T = T} Nothing Nought Done Did (Err fault.BadCsv) (Err fault.BadCsv)
  both_odd h k records others f g replies more is begins begin odd other wide also done did =
      let e : records ≡ others = odd_records records others f g wide also odd other (shared h k (records ++ f ∷ []) (others ++ g ∷ []) is begins begin).begin in
      each (λ (x : X). Err fault.BadCsv) records replies more done (subst (λ (r : List (List Text)). Did r more) (sym e) did)

  -- Sheets of the same bytes are decided alike.
  pub framed_alike : (ended end : Result T SheetFault) → Framed IsHead width input count none passed Nothing Done ended → Framed IsHead width input count none beyond Nought Did end → Alike Nothing Nought Done Did ended end
  framed_alike _ _ (empty all nothing) (empty also nought) = neither (Ok (count none)) nothing nought
  framed_alike _ _ (empty all nothing) (other_header h begins differs nought) = absurd (no_first input h [] begins all)
  framed_alike _ _ (empty all nothing) (whole h records replies is also wide did) = absurd (no_first input h (beyond ++ records) (all_begin input (h ∷ (beyond ++ records)) also) all)
  framed_alike _ _ (empty all nothing) (other_width h records fields replies is begins odd wide did) = absurd (no_first input h (beyond ++ (records ++ fields ∷ [])) begins all)
  framed_alike _ _ (other_header h begins differs nothing) (empty all nought) = absurd (no_first input h [] begins all)
  framed_alike _ _ (other_header h begins differs nothing) (other_header k begin differ nought) = neither (Err fault.BadHeader) nothing nought
  framed_alike _ _ (other_header h begins differs nothing) (whole k records replies is all wide did) =
      absurd (header_not h k differs (under_one input h k [] (beyond ++ records) begins (all_begin input (k ∷ (beyond ++ records)) all)).same is)
  framed_alike _ _ (other_header h begins differs nothing) (other_width k records fields replies is begin odd wide did) =
      absurd (header_not h k differs (under_one input h k [] (beyond ++ (records ++ fields ∷ [])) begins begin).same is)
  framed_alike _ _ (whole h records replies is all wide done) (empty also nought) = absurd (no_first input h (passed ++ records) (all_begin input (h ∷ (passed ++ records)) all) also)
  framed_alike _ _ (whole h records replies is all wide done) (other_header k begins differs nought) =
      absurd (header_not k h differs (under_one input k h [] (passed ++ records) begins (all_begin input (h ∷ (passed ++ records)) all)).same is)
  framed_alike _ _ (whole h records replies is all wide done) (whole k others more it also width did) = both_whole h k records others replies more is all also done did
  framed_alike _ _ (whole h records replies is all wide done) (other_width k others fields more it begins odd width did) =
      let same = (shared h k records (others ++ fields ∷ []) is (all_begin input (h ∷ (passed ++ records)) all) begins).passes in
      absurd (odd (not_both h k passed records others fields all wide (subst (λ (p : List (List Text)). BeginsWith input (k ∷ (p ++ (others ++ fields ∷ [])))) (sym same) begins)))
  framed_alike _ _ (other_width h records fields replies is begins odd wide done) (empty all nought) = absurd (no_first input h (passed ++ (records ++ fields ∷ [])) begins all)
  framed_alike _ _ (other_width h records fields replies is begins odd wide done) (other_header k begin differs nought) =
      absurd (header_not k h differs (under_one input k h [] (passed ++ (records ++ fields ∷ [])) begin begins).same is)
  framed_alike _ _ (other_width h records fields replies is begins odd wide done) (whole k others more it all width did) =
      let same = (shared h k (records ++ fields ∷ []) others is begins (all_begin input (k ∷ (beyond ++ others)) all)).passes in
      absurd (odd (not_both k h passed others records fields (subst (λ (p : List (List Text)). AreAll input (k ∷ (p ++ others))) (sym same) all) width begins))
  framed_alike _ _ (other_width h records fields replies is begins odd wide done) (other_width k others field more it begin other width did) =
      both_odd h k records others fields field replies more is begins begin odd other wide width done did
