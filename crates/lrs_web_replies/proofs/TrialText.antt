-- The text of a trial, which is written part by part.
use Rattle.std.proofs.Common.{◌≡◌, ℕ, List, [], ◌∷◌, ◌++◌, codes, append_assoc, append-nil, refl, sym, ap, ◌∙◌, Bor, None, Some, Result, Ok, Err, OnOk}
use Rattle.std.proofs.lemmas.Iterator.Splits.{YieldsList-from_lines}
use Rattle.std.specs.Iterator.{AlwaysYields}
use Rattle.std.specs.Prelude.{option_map, vec_items}
use Rattle.std.specs.List.{flat_map}
use Rattle.std.specs.declared.str.Lines.{Lines}
use Rattle.std.specs.Str.Iter.{lines_rest, lines_steps}
use Rattle.std.specs.Str.Lines.{lines}
use Rattle.serde_json.specs.Data.{string}
use Rattle.serde_json.specs.Written.{compact_text}
use Rattle.lrs_machine.specs.Lines.{Text}
use Rattle.lrs_sheet_advice.specs.declared.advice_list.AdviceItem.{AdviceItem}
use Rattle.lrs_web_replies.specs.JsonParts.{each}
use Rattle.lrs_web_replies.specs.Parts.{item_text}
use Rattle.lrs_web_replies.specs.Trials.{Outcome, advice_data, count_data, counted, counts_text, fault_data, lines_data, member_text, named_data, place_text, text_data, trial_text, words_text}

-- lines, each with a comma before it
abbrev pub texts : List Text → Text
texts all = flat_map (λ line. item_text (string line)) all

-- what is written so far, and the lines that are still to come behind it
pub record LinesLeft (before bytes : Text) (all : List Text) (s : Lines) : Type 0 where
  pub left : List Text
  pub gives : AlwaysYields lines_steps (λ line. line.now) s left
  pub leads : bytes ++ texts left ≡ before ++ texts all

pub none_yet : (before text : Text) (s : Lines) → lines_rest s ≡ text → LinesLeft before before (lines text) s
none_yet before text s rest = record { left = lines text; gives = (YieldsList-from_lines text rest).runs; leads = refl }

pub one_more : (before bytes more : Text) (all : List Text) (s t : Lines) (line : Bor (List ℕ)) → LinesLeft before bytes all s → lines_steps s (Some line) t
    → more ≡ bytes ++ item_text (string line.now) → LinesLeft before more all t
one_more before bytes more all s t line so steps added = by so.left so.gives so.leads
  where
    by : (left : List Text) → AlwaysYields lines_steps (λ x. x.now) s left → bytes ++ texts left ≡ before ++ texts all → LinesLeft before more all t
    by [] gives leads = absurd (gives line t steps)
    by (y ∷ ys) gives leads =
        let both = gives.1 line t steps in
        record {
          left = ys;
          gives = both.1;
          leads = ap (λ m. m ++ texts ys) added ∙ append_assoc bytes (item_text (string line.now)) (texts ys) ∙ ap (λ l. bytes ++ (item_text (string l) ++ texts ys)) both.0 ∙ leads;
        }

pub all_told : (before bytes : Text) (all : List Text) (s t : Lines) → LinesLeft before bytes all s → lines_steps s None t → bytes ≡ before ++ texts all
all_told before bytes all s t so steps = by so.left so.gives so.leads
  where
    by : (left : List Text) → AlwaysYields lines_steps (λ x. x.now) s left → bytes ++ texts left ≡ before ++ texts all → bytes ≡ before ++ texts all
    by [] gives leads = sym (append-nil bytes) ∙ leads
    by (y ∷ ys) gives leads = absurd (gives.0 t steps)

-- ---- advice

-- what is added in four steps, and in five
pub four_added : {R E : Type 0} (r : Result R E) (before w x y z a b c d : List ℕ) → a ≡ before ++ w → b ≡ a ++ x → c ≡ b ++ y → OnOk r (d ≡ c ++ z) → OnOk r (d ≡ before ++ (w ++ (x ++ (y ++ z))))
four_added (Ok r) before w x y z a b c d e0 e1 e2 e3 =
    e3 ∙ ap (λ t. t ++ z) (e2 ∙ ap (λ t. t ++ y) (e1 ∙ ap (λ t. t ++ x) e0 ∙ append_assoc before w x) ∙ append_assoc before (w ++ x) y) ∙ append_assoc before ((w ++ x) ++ y) z
    ∙ ap (λ t. before ++ t) (append_assoc (w ++ x) y z ∙ append_assoc w x (y ++ z))
four_added (Err e) before w x y z a b c d e0 e1 e2 e3 = tt

pub five_added : {R E : Type 0} (r : Result R E) (before v w x y z a b c d e : List ℕ) → a ≡ before ++ v → b ≡ a ++ w → c ≡ b ++ x → d ≡ c ++ y → OnOk r (e ≡ d ++ z) → OnOk r (e ≡ before ++ (v ++ (w ++ (x ++ (y ++ z)))))
five_added {E = E} (Ok r) before v w x y z a b c d e e0 e1 e2 e3 e4 =
    four_added {E = E} (Ok r) before (v ++ w) x y z b c d e (e1 ∙ ap (λ t. t ++ w) e0 ∙ append_assoc before v w) e2 e3 e4 ∙ ap (λ t. before ++ t) (append_assoc v w (x ++ (y ++ z)))
five_added (Err x0) before v w x y z a b c d e e0 e1 e2 e3 e4 = tt

-- an item that is an object of six members, by its parts
item_joined : (before a u b v c w d x e y f z : List ℕ)
    → (((before ++ 44 ∷ []) ++ ((123 ∷ (a ++ 58 ∷ [])) ++ (u ++ (((44 ∷ (b ++ 58 ∷ [])) ++ v) ++ ((44 ∷ (c ++ 58 ∷ [])) ++ w)))))
    ++ (((44 ∷ (d ++ 58 ∷ [])) ++ x) ++ (((44 ∷ (e ++ 58 ∷ [])) ++ y) ++ ((44 ∷ (f ++ 58 ∷ [])) ++ z)))) ++ 125 ∷ []
    ≡ before ++ (44 ∷ (123 ∷ (a ++ 58 ∷ (u ++ 44 ∷ (b ++ 58 ∷ (v ++ 44 ∷ (c ++ 58 ∷ (w ++ 44 ∷ (d ++ 58 ∷ (x ++ 44 ∷ (e ++ 58 ∷ (y ++ 44 ∷ (f ++ 58 ∷ (z ++ 125 ∷ []))))))))))))))
item_joined before a u b v c w d x e y f z = simp append_assoc

pub advice_written : (a : AdviceItem) (before comma place words whole : Text) → comma ≡ before ++ 44 ∷ [] → place ≡ comma ++ place_text a → words ≡ place ++ words_text a → whole ≡ words ++ 125 ∷ []
    → whole ≡ before ++ item_text (advice_data a)
advice_written a before comma place words whole e0 e1 e2 e3 =
    let b = e1 ∙ ap (λ t. t ++ place_text a) e0 in
    let c = e2 ∙ ap (λ t. t ++ words_text a) b in
    e3 ∙ ap (λ t. t ++ 125 ∷ []) c
    ∙ item_joined before (compact_text (string (codes "line"))) (compact_text (count_data a.line)) (compact_text (string (codes "key"))) (compact_text (named_data (option_map vec_items a.key)))
    (compact_text (string (codes "column"))) (compact_text (named_data (option_map (λ letter. letter ∷ []) a.column)))
    (compact_text (string (codes "value"))) (compact_text (named_data (option_map vec_items a.value))) (compact_text (string (codes "wanted"))) (compact_text (named_data (option_map vec_items a.wanted)))
    (compact_text (string (codes "text"))) (compact_text (text_data a.text.items))

-- ---- the object

-- the object of seven members, by its parts
members_text : (a v b w c x d y e z f p g q : List ℕ)
    → ((((((123 ∷ (a ++ 58 ∷ [])) ++ (v ++ ((44 ∷ (b ++ 58 ∷ [])) ++ (w ++ ((44 ∷ (c ++ 58 ∷ [])) ++ x))))) ++ ((44 ∷ (d ++ 58 ∷ [])) ++ y)) ++ ((44 ∷ (e ++ 58 ∷ [])) ++ z)) ++ ((44 ∷ (f ++ 58 ∷ [])) ++ p)) ++ ((44 ∷ (g ++ 58 ∷ [])) ++ q)) ++ 125 ∷ []
    ≡ 123 ∷ (a ++ 58 ∷ (v ++ 44 ∷ (b ++ 58 ∷ (w ++ 44 ∷ (c ++ 58 ∷ (x ++ 44 ∷ (d ++ 58 ∷ (y ++ 44 ∷ (e ++ 58 ∷ (z ++ 44 ∷ (f ++ 58 ∷ (p ++ 44 ∷ (g ++ 58 ∷ (q ++ 125 ∷ []))))))))))))))
members_text a v b w c x d y e z f p g q = simp append_assoc

-- what is written before the end of the object
abbrev pub open_text : Outcome → Text → List AdviceItem → Text → Text
open_text outcome replies advice difference =
    (((counts_text (counted (λ c. c.done) outcome) (counted (λ c. c.again) outcome) (counted (λ c. c.refused) outcome) ++ member_text (codes "fault") (fault_data outcome))
    ++ member_text (codes "replies") (lines_data replies)) ++ member_text (codes "advice") (each advice_data advice)) ++ member_text (codes "difference") (lines_data difference)

trial_joined : (outcome : Outcome) (replies : Text) (advice : List AdviceItem) (difference : Text) → open_text outcome replies advice difference ++ 125 ∷ [] ≡ trial_text outcome replies advice difference
trial_joined outcome replies advice difference =
    members_text (compact_text (string (codes "done"))) (compact_text (count_data (counted (λ c. c.done) outcome)))
    (compact_text (string (codes "again"))) (compact_text (count_data (counted (λ c. c.again) outcome)))
    (compact_text (string (codes "refused"))) (compact_text (count_data (counted (λ c. c.refused) outcome)))
    (compact_text (string (codes "fault"))) (compact_text (fault_data outcome))
    (compact_text (string (codes "replies"))) (compact_text (lines_data replies))
    (compact_text (string (codes "advice"))) (compact_text (each advice_data advice))
    (compact_text (string (codes "difference"))) (compact_text (lines_data difference))

pub trial_written : (outcome : Outcome) (replies : Text) (advice : List AdviceItem) (difference counts faulty replied advised differing whole : Text)
    → counts ≡ counts_text (counted (λ c. c.done) outcome) (counted (λ c. c.again) outcome) (counted (λ c. c.refused) outcome)
    → faulty ≡ counts ++ member_text (codes "fault") (fault_data outcome) → replied ≡ faulty ++ member_text (codes "replies") (lines_data replies)
    → advised ≡ replied ++ member_text (codes "advice") (each advice_data advice) → differing ≡ advised ++ member_text (codes "difference") (lines_data difference)
    → whole ≡ differing ++ 125 ∷ [] → whole ≡ trial_text outcome replies advice difference
trial_written outcome replies advice difference counts faulty replied advised differing whole e0 e1 e2 e3 e4 e5 =
    let a = e1 ∙ ap (λ t. t ++ member_text (codes "fault") (fault_data outcome)) e0 in
    let b = e2 ∙ ap (λ t. t ++ member_text (codes "replies") (lines_data replies)) a in
    let c = e3 ∙ ap (λ t. t ++ member_text (codes "advice") (each advice_data advice)) b in
    let d = e4 ∙ ap (λ t. t ++ member_text (codes "difference") (lines_data difference)) c in
    e5 ∙ ap (λ t. t ++ 125 ∷ []) d ∙ trial_joined outcome replies advice difference
