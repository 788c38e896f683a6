use Rattle.std.proofs.Common.{◌≡◌, ◌-◌, List, ℕ, length, drop, arith, ap, ◌∙◌, ◌++◌, sym, length-append, length-drop}
use Rattle.std.proofs.Math.Seq.{drop-append_seam}
use Rattle.std.proofs.lemmas.List.{drop-replicate, length-replicate}
use Rattle.std.specs.Prelude.{replicate}
use Rattle.lrs_measure.proofs.text.Text.new.Goals as goal

-- n bytes, and then the zeros past the n-th
full : (size n : ℕ) (xs : List ℕ) → n ≡ length xs → ◌≡◌ (drop n (xs ++ drop n (replicate size 0))) (replicate (size - n) 0)
full size n xs e = rw e (drop-append_seam xs (drop (length xs) (replicate size 0)) ∙ drop-replicate (length xs) size 0)

pub invariant_of-result : goal.invariant_of-result
invariant_of-result g c =
    let copied : length c.copy_from_slice.new.self ≡ length c.args.bytes.now = ap length c.copy_from_slice.ensures.after in (
      c.requires,
      simp (length-append, length-drop, length-replicate) (omega (arith, c.requires)),
      full g.row.N (length c.args.bytes.now) c.copy_from_slice.new.self (sym copied),
    )
