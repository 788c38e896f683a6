-- What is told of a position, and the segments of a route, is one answer unless memory runs out.
use Rattle.std.proofs.Common.{◌≡◌, ℕ, List, [], ◌∷◌, map, Option, Some, None, Result, Ok, Err, refl, sym, ap, subst, ◌∙◌}
use Rattle.std.specs.Prelude.{MatchOption, MatchResult, slice_get}
use Rattle.lrs_measure.specs.Runs.{Run}
use Rattle.lrs_measure.specs.Texts.{Name}
use Rattle.lrs_position.specs.Locations.{Alignment, located_or_fault}
use Rattle.lrs_position.specs.declared.expression.Expr.{Expr}
use Rattle.lrs_position.specs.declared.location.PlaceFault.{PlaceFault}
use Rattle.lrs_events.specs.declared.side.LinkSide.{LinkSide}
use Rattle.lrs_events.specs.declared.side.LinkSide.TheVariants.{Left, Right}
use Rattle.lrs_events.specs.declared.side.Side.{Side}
use Rattle.lrs_events.specs.declared.side.Side.TheVariants.{L, R, B}
use Rattle.lrs_events.specs.RouteSpans.Search.{one_side}
use Rattle.lrs_machine.specs.Machine.{referent_chainage}
use Rattle.lrs_machine.specs.Readings.{hits_on, segments_on}
use Rattle.lrs_machine.specs.Register.{get}
use Rattle.lrs_machine.specs.Segments.{Values, fault_at, segment_fault}
use Rattle.lrs_machine.specs.State.{State}
use Rattle.lrs_machine.specs.declared.segment.SegFault.{SegFault}
use Rattle.lrs_machine.specs.declared.segment.SegFault.TheVariants.{NoClass, NotExclusive, SideB}
use Rattle.lrs_machine.specs.declared.segment.Segment.{Segment}
use Rattle.lrs_report.specs.Sweep.{run_of}
use Rattle.lrs_report_answers.specs.Answers.{IsAt, OnRoute, StandsAt, UnlessMemory, route_missing}
use Rattle.lrs_report_answers.specs.RouteSegments.{IsSegmented, class_list}
use Rattle.lrs_machine.specs.declared.image.Image.{Image}
use Rattle.lrs_machine.specs.declared.question.Place.{Place as PlaceOfRoute}
use Rattle.lrs_report_answers.specs.Stretches.{OnStretch, end_of}
use Rattle.lrs_report_answers.specs.declared.stretch.End.TheVariants.{From, To}
use Rattle.lrs_report_answers.specs.ToldAnswers.{Tells}
use Rattle.lrs_report_answers.specs.declared.fault.AskFault.{AskFault}
use Rattle.lrs_report_answers.specs.declared.fault.AskFault.TheVariants.{Memory, Place, Seg}
use Rattle.lrs_report_answers.specs.declared.hits.AtAnswer.{AtAnswer}
use Rattle.lrs_report_answers.specs.declared.told.Told.{Told}
use Rattle.lrs_web_requests.specs.Text.{Answer}
use Rattle.lrs_web_requests.specs.declared.paths.Format.{Format}
use Rattle.lrs_web_replies.specs.QuestionAnswers.{IsReplyTo, ShowsTold}
use Rattle.lrs_web_replies.specs.declared.pages.Page.{Page}
use Rattle.lrs_web_replies.specs.Replies.{refusal}

pub same_some : {A : Type 0} (x y : A) → ◌≡◌ {A = Option A} (Some x) (Some y) → x ≡ y
same_some x y is = cc

pub some_is_not_none : {A : Type 0} (x : A) → ◌≡◌ {A = Option A} (Some x) None → ⊥
some_is_not_none x is = cc

pub ok_is_not_err : {A E : Type 0} (a : A) (e : E) → ◌≡◌ {A = Result A E} (Ok a) (Err e) → ⊥
ok_is_not_err a e is = cc

pub same_ok : {A E : Type 0} (x y : A) → ◌≡◌ {A = Result A E} (Ok x) (Ok y) → x ≡ y
same_ok x y is = cc

pub same_err : {A E : Type 0} (d e : E) → ◌≡◌ {A = Result A E} (Err d) (Err e) → d ≡ e
same_err d e is = cc

-- ---- answers that pass

-- two answers that pass are one, unless memory ran out for either
abbrev pub OneUnlessMemory : {A : Type 0} → (Result A AskFault → Type 0) → Type 0
OneUnlessMemory {A} Passes = (r q : Result A AskFault) → Passes r → Passes q → (r ≡ Err Memory → ⊥) → (q ≡ Err Memory → ⊥) → r ≡ q

pub unless_memory : {A : Type 0} (Passes : A → Type 0) → ((x y : A) → Passes x → Passes y → x ≡ y) → OneUnlessMemory (UnlessMemory Passes)
unless_memory Passes one (Ok x) (Ok y) h g some also = ap Ok (one x y h g)
unless_memory Passes one (Ok x) (Err e) h g some also = absurd (also (ap (λ (f : AskFault). Err f) g))
unless_memory Passes one (Err d) q h g some also = absurd (some (ap (λ (f : AskFault). Err f) h))

on_route : {A : Type 0} (s : State) (name : Name) (Asked : Alignment → Result A AskFault → Type 0) → ((a : Alignment) → OneUnlessMemory (Asked a)) → OneUnlessMemory (OnRoute s name Asked)
on_route {A} s name Asked one r q h g some also = by (get s.routes name) h g
  where
    by : (o : Option Alignment) → MatchOption o (r ≡ Err route_missing) (λ a. Asked a r) → MatchOption o (q ≡ Err route_missing) (λ a. Asked a q) → r ≡ q
    by None x y = x ∙ sym y
    by (Some a) x y = one a r q x y some also

-- what is told of answers of which one passes is one
pub tells_once : {A : Type 0} (Passes : Result A AskFault → Type 0) (told_of : A → Told) → OneUnlessMemory Passes → OneUnlessMemory (Tells Passes told_of)
tells_once {A} Passes told_of one r q h g some also = by r q h g some also
  where
    fails : (x : A) (fault : AskFault) → Passes (Ok x) → Passes (Err fault) → (fault ≡ Memory → ⊥) → ⊥
    fails x fault h g lacks = ok_is_not_err x fault (one (Ok x) (Err fault) h g (ok_is_not_err x Memory) (λ e. lacks (same_err fault Memory e)))

    by : (r q : Result Told AskFault) → Tells Passes told_of r → Tells Passes told_of q → (r ≡ Err Memory → ⊥) → (q ≡ Err Memory → ⊥) → r ≡ q
    by (Ok t) (Ok u) (x, h, is) (y, g, tells) some also =
        let same = one (Ok x) (Ok y) h g (ok_is_not_err x Memory) (ok_is_not_err y Memory) in
        ap (λ (v : Told). Ok v) (is ∙ ap told_of (same_ok x y same) ∙ sym tells)
    by (Ok t) (Err fault) (x, h, is) g some also = absurd (fails x fault h g (λ e. also (ap (λ (f : AskFault). Err f) e)))
    by (Err fault) (Ok u) h (y, g, tells) some also = absurd (fails y fault g h (λ e. some (ap (λ (f : AskFault). Err f) e)))
    by (Err d) (Err e) h g some also =
        let same = one (Err d) (Err e) h g (λ k. some (ap (λ (f : AskFault). Err f) (same_err d Memory k))) (λ k. also (ap (λ (f : AskFault). Err f) (same_err e Memory k))) in
        ap (λ (f : AskFault). Err f) (same_err d e same)

-- ---- a position

pub stands_once : (s : State) (a : Alignment) (x : ℕ × ℕ) (f g : AtAnswer) → StandsAt s a x f → StandsAt s a x g → f ≡ g
stands_once s a x f g h k =
    let at : f.at ≡ g.at = h.at ∙ sym k.at in
    let ground : f.ground ≡ g.ground = same_some f.ground g.ground (sym h.ground ∙ ap (slice_get a.course) at ∙ k.ground) in
    let hits : f.hits ≡ g.hits = h.hits ∙ ap (hits_on s) ground ∙ sym k.hits in
    λ i. record { at = at i; ground = ground i; hits = hits i }

located_once : (s : State) (a : Alignment) (found : Result (ℕ × ℕ) PlaceFault) → OneUnlessMemory (λ result. MatchResult found (λ x. UnlessMemory (StandsAt s a x) result) (λ fault. result ≡ Err (Place fault)))
located_once s a (Ok x) = unless_memory (StandsAt s a x) (stands_once s a x)
located_once s a (Err fault) = λ r q h g some also. h ∙ sym g

pub at_once : (s : State) (name : Name) (e : Expr) → OneUnlessMemory (IsAt s name e)
at_once s name e = on_route s name (λ a result. MatchResult (located_or_fault a (referent_chainage s a) e) (λ x. UnlessMemory (StandsAt s a x) result) (λ fault. result ≡ Err (Place fault)))
    (λ a. located_once s a (located_or_fault a (referent_chainage s a) e))

-- ---- segments

first_same : {X : Type 0} (x y : X) (xs ys : List X) → x ∷ xs ≡ y ∷ ys → x ≡ y
first_same x y xs ys e = cc

rest_same : {X : Type 0} (x y : X) (xs ys : List X) → x ∷ xs ≡ y ∷ ys → xs ≡ ys
rest_same x y xs ys e = cc

none_is_not_some : {X : Type 0} (x : X) (xs : List X) → [] ≡ x ∷ xs → ⊥
none_is_not_some x xs e = cc

same_runs : (xs ys : List Segment) → map run_of xs ≡ map run_of ys → xs ≡ ys
same_runs [] [] e = refl
same_runs [] (y ∷ ys) e = absurd (none_is_not_some (run_of y) (map run_of ys) e)
same_runs (x ∷ xs) [] e = absurd (none_is_not_some (run_of x) (map run_of xs) (sym e))
same_runs (x ∷ xs) (y ∷ ys) e =
    let first : run_of x ≡ run_of y = first_same (run_of x) (run_of y) (map run_of xs) (map run_of ys) e in
    let rest = same_runs xs ys (rest_same (run_of x) (run_of y) (map run_of xs) (map run_of ys) e) in
    λ i. record { from = (first i).from; to = (first i).to; values = (first i).value } ∷ rest i

-- both sides at once are refused
refuses_both : (o p : Option ℕ) → fault_at o NoClass (fault_at p NotExclusive (Some SideB)) ≡ None → ⊥
refuses_both None None e = some_is_not_none SideB e
refuses_both None (Some n) e = some_is_not_none (NotExclusive n) e
refuses_both (Some n) p e = some_is_not_none (NoClass n) e

one_sided : (s : State) (wanted : List Name) (side : Side) (runs : LinkSide → List (Run Values)) → segment_fault (class_list s) wanted side ≡ None
    → (xs ys : List Segment) → ((on : LinkSide) → side ≡ one_side on → map run_of xs ≡ runs on) → ((on : LinkSide) → side ≡ one_side on → map run_of ys ≡ runs on) → xs ≡ ys
one_sided s wanted L runs none xs ys h g = same_runs xs ys (h Left refl ∙ sym (g Left refl))
one_sided s wanted R runs none xs ys h g = same_runs xs ys (h Right refl ∙ sym (g Right refl))
one_sided s wanted B runs none xs ys h g = absurd (refuses_both _ _ none)

segmented_once_by : (s : State) (a : Alignment) (wanted : List Name) (side : Side) (o : Option SegFault) → segment_fault (class_list s) wanted side ≡ o
    → OneUnlessMemory (λ result. MatchOption o (UnlessMemory (λ found. (on : LinkSide) → side ≡ one_side on → map run_of found ≡ segments_on s a.course wanted on) result) (λ fault. result ≡ Err (Seg fault)))
segmented_once_by s a wanted side None none = unless_memory (λ found. (on : LinkSide) → side ≡ one_side on → map run_of found ≡ segments_on s a.course wanted on) (one_sided s wanted side (segments_on s a.course wanted) none)
segmented_once_by s a wanted side (Some fault) is = λ r q h g some also. h ∙ sym g

pub segmented_once : (s : State) (name : Name) (wanted : List Name) (side : Side) → OneUnlessMemory (IsSegmented s name wanted side)
segmented_once s name wanted side = on_route s name (λ a result. MatchOption (segment_fault (class_list s) wanted side)
    (UnlessMemory (λ found. (on : LinkSide) → side ≡ one_side on → map run_of found ≡ segments_on s a.course wanted on) result)
    (λ fault. result ≡ Err (Seg fault)))
    (λ a. segmented_once_by s a wanted side (segment_fault (class_list s) wanted side) refl)

-- ---- replies

module _ (format : Format) (page : Page) where
  -- the reply to an answer, or to why there is none
  abbrev Replies : {A : Type 0} → (A → Told) → Result A AskFault → Answer → Type 0
  Replies told_of (Ok x) answer = ShowsTold format page (told_of x) answer
  Replies told_of (Err fault) answer = answer ≡ refusal fault

  -- an answer passes, memory did not run out for it, and this is the reply to it
  record Replied {A : Type 0} (Passes : Result A AskFault → Type 0) (told_of : A → Told) (answer : Answer) : Type 0 where
    pub found : Result A AskFault
    pub passes : Passes found
    pub some : found ≡ Err Memory → ⊥
    pub shows : Replies told_of found answer

  replied : {A : Type 0} (Passes : Result A AskFault → Type 0) (told_of : A → Told) (answer : Answer) → (answer.status ≡ 503 → ⊥) → (said : Result Told AskFault)
      → Tells Passes told_of said → IsReplyTo format page said answer → Replied Passes told_of answer
  replied Passes told_of answer served (Ok t) (x, passes, is) shows = record {
    found = Ok x;
    passes = passes;
    some = ok_is_not_err x Memory;
    shows = subst (λ u. ShowsTold format page u answer) is shows;
  }
  replied Passes told_of answer served (Err fault) passes shows = record {
    found = Err fault;
    passes = passes;
    some = λ e. served (ap (λ (a : Answer). a.status) (shows ∙ ap refusal (same_err fault Memory e)));
    shows = shows;
  }

  one_reply : {A : Type 0} (told_of : A → Told) → ((x : A) (a b : Answer) → ShowsTold format page (told_of x) a → ShowsTold format page (told_of x) b → a ≡ b)
      → (found : Result A AskFault) (a b : Answer) → Replies told_of found a → Replies told_of found b → a ≡ b
  one_reply told_of one (Ok x) a b h g = one x a b h g
  one_reply told_of one (Err fault) a b h g = h ∙ sym g

  -- two replies to what passes are one
  pub told_once : {A : Type 0} (Passes : Result A AskFault → Type 0) (told_of : A → Told) → OneUnlessMemory Passes → ((x : A) (a b : Answer) → ShowsTold format page (told_of x) a → ShowsTold format page (told_of x) b → a ≡ b)
      → (a b : Answer) → (a.status ≡ 503 → ⊥) → (b.status ≡ 503 → ⊥) → (said other : Result Told AskFault) → Tells Passes told_of said → Tells Passes told_of other → IsReplyTo format page said a → IsReplyTo format page other b → a ≡ b
  told_once Passes told_of once one a b served also said other tells more h g =
      let x = replied Passes told_of a served said tells h in
      let y = replied Passes told_of b also other more g in
      let same = once x.found y.found x.passes y.passes x.some y.some in
      one_reply told_of one x.found a b x.shows (subst (λ r. Replies told_of r b) (sym same) y.shows)

  -- so are two that are told of a stretch between two ends
  pub stretch_once : {A : Type 0} (i : Image) (route : Option Name) (from to : Option PlaceOfRoute) (Passes : Option ℕ → Option ℕ → Result A AskFault → Type 0) (told_of : A → Told)
      → ((first last : Option ℕ) → OneUnlessMemory (Passes first last)) → ((x : A) (a b : Answer) → ShowsTold format page (told_of x) a → ShowsTold format page (told_of x) b → a ≡ b)
      → (a b : Answer) → (a.status ≡ 503 → ⊥) → (b.status ≡ 503 → ⊥) → (said other : Result Told AskFault)
      → OnStretch i route from to (λ first last. Tells (Passes first last) told_of) said → OnStretch i route from to (λ first last. Tells (Passes first last) told_of) other
      → IsReplyTo format page said a → IsReplyTo format page other b → a ≡ b
  stretch_once {A} i route from to Passes told_of once one a b served also said other tells more h g = by (end_of i route From from) (end_of i route To to) tells more
    where
      refused : (fault : AskFault) → said ≡ Err fault → other ≡ Err fault → a ≡ b
      refused fault x y = subst (λ r. IsReplyTo format page r a) x h ∙ sym (subst (λ r. IsReplyTo format page r b) y g)

      by : (f t : Result (Option ℕ) AskFault)
          → MatchResult f (λ first. MatchResult t (λ last. Tells (Passes first last) told_of said) (λ fault. said ≡ Err fault)) (λ fault. said ≡ Err fault)
          → MatchResult f (λ first. MatchResult t (λ last. Tells (Passes first last) told_of other) (λ fault. other ≡ Err fault)) (λ fault. other ≡ Err fault) → a ≡ b
      by (Err fault) t x y = refused fault x y
      by (Ok first) (Err fault) x y = refused fault x y
      by (Ok first) (Ok last) x y = told_once (Passes first last) told_of (once first last) one a b served also said other x y h g
