-- What is written of segments that are passed one by one.
use Rattle.std.proofs.Common.{◌≡◌, ℕ, Option, Some, None, List, [], ◌∷◌, ◌++◌, drop, append-nil, sym, subst}
use Rattle.std.specs.Prelude.{slice_get}
use Rattle.std.specs.List.{flat_map}
use Rattle.std.specs.Io.KnownBytes.{Appends}
use Rattle.lrs_machine.specs.declared.segment.Segment.{Segment}
use Rattle.lrs_report.proofs.Writing.{appends_more}

-- what goes on behind what is written now with the texts of those that are left has then gone on behind the start with all
abbrev pub Leads : (Segment → List ℕ) → Option (List ℕ) → Option (List ℕ) → List Segment → List Segment → Type 0
Leads text start now left all = (end : Option (List ℕ)) → Appends now end (flat_map text left) → Appends start end (flat_map text all)

appends_none : (a : Option (List ℕ)) → Appends a a []
appends_none None = tt
appends_none (Some bytes) = sym (append-nil bytes)

module _ (text : Segment → List ℕ) (start : Option (List ℕ)) (all : List Segment) where
  pub leads_first : Leads text start start all all
  leads_first end h = h

  pub leads_next : (s : Segment) (left next : List Segment) (now new : Option (List ℕ)) → Leads text start now left all → slice_get left 0 ≡ Some s → next ≡ drop 1 left → Appends now new (text s) → Leads text start new next all
  leads_next s [] next now new h first passed wrote end k = absurd cc
  leads_next s (q ∷ qs) next now new h first passed wrote end k =
      let same : s ≡ q = cc in
      h end (subst (Appends now end) (λ i. text (same i) ++ flat_map text (passed i)) (appends_more now new end (text s) (flat_map text next) wrote k))

  pub leads_end : (left : List Segment) (now : Option (List ℕ)) → Leads text start now left all → slice_get left 0 ≡ None → Appends start now (flat_map text all)
  leads_end [] now h none = h now (appends_none now)
  leads_end (q ∷ qs) now h none = absurd cc
