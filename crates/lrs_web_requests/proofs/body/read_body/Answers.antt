use Rattle.std.proofs.Common.{◌≡◌, ◌++◌, List, ℕ, length, Some, IfSome, subst, sym, ap, ◌∙◌, arith}
use Rattle.lrs_web_requests.specs.Body.{body_at}
use Rattle.lrs_web_requests.proofs.BodyLemmas.{full_body, written_back, prepared}
use Rattle.lrs_web_requests.proofs.body.read_body.Goals as goal

pub returns : goal.returns
returns g c =
    let vector = c.resize.new.self in
    let before = c.as_mut_slice.result.now in
    let after = c.fill.new.buffer in
    let front = c.args.front.now in
    let same : length before ≡ length vector.items = ap length c.as_mut_slice.ensures.value in
    let kept : length after ≡ length before = c.in_ok-fill.ensures.read.same_length in
    let size : length vector.items ≡ c.args.length = sym vector.ok.0 ∙ c.in_ok-resize.ensures.len in
    let begins = prepared c.args.length front _ _ _ _ _ c.as_mut_slice.ensures.value c.in_ok-resize.ensures.items c.in_ok-extend_from_slice.ensures.items c.in_ok-body.ensures.items (omega arith) in
    let whole = full_body _ _ front before after c.args.length _ c.in_ok-fill.ensures (same ∙ size) c.if-branch-length.false begins in
    subst (λ (x : List ℕ). IfSome (g.R.Read.remaining c.args.reader.now) (λ rest. Some x ≡ body_at c.args.length (front ++ rest)))
    (sym (written_back vector.len vector.items after vector.ok.0 (kept ∙ same))) whole
