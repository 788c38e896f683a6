use Rattle.std.proofs.Common.{◌≡◌, ℕ, ◌≤◌, ◌-◌, List, ◌++◌, length, take, drop, map, Option, None, Some, Result, Ok, Err, IfOk, IfSome, arith, ap, sym, ◌∙◌}
use Rattle.std.proofs.Math.Nat.{le_trans}
use Rattle.std.proofs.lemmas.List.{length-map, length-take-le, length-drop, take_all}
use Rattle.httparse.proofs.GrammarLemmas.{ReadsRequest-append}
use Rattle.httparse.specs.declared.spans.HeaderSpan.{HeaderSpan}
use Rattle.httparse.specs.declared.spans.RequestSpans.{RequestSpans}
use Rattle.httparse.specs.Grammar.{RequestHead}
use Rattle.httparse.specs.Spans.{span_bytes, header_bytes, name_and_value, IsRequestOf, IsRequestWithin}
use Rattle.lrs_web_requests.specs.declared.request.Request.{Request}
use Rattle.lrs_web_requests.specs.Request.{Asked, AsksByHead, asked_by, asked_with, most_head, most_fields, page_text}
use Rattle.lrs_web_requests.proofs.request.read_on_from.Goals as goal

-- the slice from a place to the end is all that stands behind it
all_behind : (n : ℕ) (text : List ℕ) → take (length text - n) (drop n text) ≡ drop n text
all_behind n text = take_all _ _ (simp length-drop (omega arith))

-- what the parts of a head ask for is asked by the head that they are of
by_parts : (shown : Option (List ℕ)) (text : List ℕ) (spans : List HeaderSpan) (head : RequestSpans) (method target more : List ℕ) (asked : Asked) → length text ≤ most_head → length spans ≤ most_fields → IsRequestWithin text spans head → IsRequestOf text spans head
    → method ≡ span_bytes text head.method → target ≡ span_bytes text head.path → asked ≡ asked_with shown method target (map (header_bytes text) (take head.headers spans)) (drop head.len text ++ more) → (h : RequestHead) × (rest : List ℕ) × AsksByHead shown (text ++ more) asked h rest
by_parts shown text spans head method target more asked bytes fields within parsed method_is target_is asks =
    let h = parsed.0 in
    let at = parsed.1 in
    let as_many : length (take head.headers spans) ≡ length h.fields = sym (length-map (take head.headers spans) (header_bytes text)) ∙ ap length at.fields ∙ length-map h.fields name_and_value in
    let few = length-take-le head.headers spans within.section.count_fits in (
      h,
      drop head.len text ++ more,
      record {
        reads = ReadsRequest-append text h (drop head.len text) more at.reads;
        bytes = omega (arith, at.len, within.section.len_fits);
        fields = omega (arith, within.section.count_fits);
        asks = asks ∙ ap (λ m. asked_with shown m target (map (header_bytes text) (take head.headers spans)) (drop head.len text ++ more)) (method_is ∙ at.method)
            ∙ ap (λ t. asked_with shown h.method t (map (header_bytes text) (take head.headers spans)) (drop head.len text ++ more)) (target_is ∙ at.path)
            ∙ ap (λ f. asked_with shown h.method h.target f (drop head.len text ++ more)) at.fields;
      },
    )

by_result : {E : Type 0} (result : Result Request E) (shown left : Option (List ℕ)) (text : List ℕ) (spans : List HeaderSpan) (head : RequestSpans) (method target front : List ℕ) → length text ≤ most_head → length spans ≤ most_fields → IsRequestWithin text spans head → IsRequestOf text spans head
    → method ≡ span_bytes text head.method → target ≡ span_bytes text head.path → front ≡ drop head.len text
    → IfOk result (λ task. IfSome left (λ more. asked_by task ≡ asked_with shown method target (map (header_bytes text) (take head.headers spans)) (front ++ more)))
    → IfOk result (λ task. IfSome left (λ more. (h : RequestHead) × (rest : List ℕ) × AsksByHead shown (text ++ more) (asked_by task) h rest))
by_result (Err e) shown left text spans head method target front bytes fields within parsed method_is target_is front_is asks = tt
by_result (Ok task) shown None text spans head method target front bytes fields within parsed method_is target_is front_is asks = tt
by_result (Ok task) shown (Some more) text spans head method target front bytes fields within parsed method_is target_is front_is asks =
    by_parts shown text spans head method target more (asked_by task) bytes fields within parsed method_is target_is (asks ∙ ap (λ l. asked_with shown method target (map (header_bytes text) (take head.headers spans)) (l ++ more)) front_is)

pub read_with-requires-clause-fields : goal.read_with-requires-clause-fields
read_with-requires-clause-fields g c = λ k d below.
    let within = c.requires.within.section.headers_fit k d below in
    let fits = c.requires.within.section.len_fits in
    ((within.0.0, le_trans within.0.1 fits), (within.1.0, le_trans within.1.1 fits))

pub returns-clause-asked : goal.returns-clause-asked
returns-clause-asked g c =
    let text = c.args.text.now in
    let head = c.args.head in
    by_result c.read_with.result (page_text c.args.page) (g.R.Read.remaining c.args.reader.now) text c.args.spans.now head c.of-2.result.now c.in-Ok.target.now (take (length text - head.len) (drop head.len text)) c.requires.bytes c.requires.fields c.requires.within c.requires.parsed c.of-2.ensures
    (c.in-Ok.ensures.cases.0 ∙ c.of.ensures) (all_behind head.len text) c.read_with.ensures.asked
