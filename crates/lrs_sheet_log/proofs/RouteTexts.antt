-- What is written of a route, put together.
use Rattle.std.proofs.Common.{◌≡◌, ℕ, ◌+◌, ◌<◌, Bool, true, false, Option, List, [], ◌∷◌, ◌++◌, length, take, map, sym, ap, subst, ◌∙◌, append_assoc, append-nil}
use Rattle.std.specs.Prelude.{if◌then◌else◌, nat_eq, slice_index_or}
use Rattle.std.specs.List.{flat_map}
use Rattle.std.specs.Io.KnownBytes.{Appends}
use Rattle.std.proofs.lemmas.List.Concat.{flat_map-append}
use Rattle.std.proofs.lemmas.List.Folds.{flat_map-map}
use Rattle.lrs_measure.specs.Lists.{is_nothing}
use Rattle.lrs_position.specs.declared.route.Route.{Route}
use Rattle.lrs_machine.specs.Lines.{Text, words}
use Rattle.lrs_machine.specs.Texts.{after_words}
use Rattle.lrs_machine.proofs.Words.{one_more}
use Rattle.lrs_sheet_records.specs.Kinds.{edit_header}
use Rattle.lrs_sheet_log.proofs.Written.{appends-more}
use Rattle.lrs_sheet_log.specs.Log.{record_text}
use Rattle.lrs_sheet_log.specs.RouteSheets.{calibrated, chainage_marks, command_line, laid, laid_with_referents, route_sheet, set_on}

-- ---- words between spaces

behind : (b : Bool) (before word : Text) → (before ++ (if b then [] else 32 ∷ [])) ++ word ≡ after_words b before word
behind true before word = ap (λ (t : Text). t ++ word) (append-nil before)
behind false before word = append_assoc before (32 ∷ []) word

module _ {X : Type 0} (text : X → Text) where
  -- one more word behind those before it
  pub word-next : (xs : List X) (i : ℕ) (x : X) (a b c d : Option (List ℕ)) → i < length xs → Appends a b (words (map text (take i xs))) → Appends b c (if nat_eq i 0 then [] else 32 ∷ []) → Appends c d (text (slice_index_or xs i x))
      → Appends a d (words (map text (take (i + 1) xs)))
  word-next xs i x a b c d low before space one =
      let so_far = words (map text (take i xs)) in
      let spaced = appends-more a b c so_far (if nat_eq i 0 then [] else 32 ∷ []) before space in
      let whole = appends-more a c d (so_far ++ (if nat_eq i 0 then [] else 32 ∷ [])) (text (slice_index_or xs i x)) spaced one in
      let e = behind (nat_eq i 0) so_far (text (slice_index_or xs i x)) ∙ sym (one_more text xs i x low) in
      subst (λ (t : List ℕ). Appends a d t) e whole

-- ---- records: a head, what the command has, and commas

pub laid-text : (a n b p m s t : Text) → ((((a ++ (n ++ (b ++ (n ++ 44 ∷ [])))) ++ p) ++ 44 ∷ []) ++ m) ++ (s ++ t) ≡ (a ++ (n ++ (b ++ (n ++ 44 ∷ (p ++ 44 ∷ (m ++ s)))))) ++ t
laid-text a n b p m s t = simp append_assoc

pub set-text : (a n b r c at s t : Text) → ((a ++ (n ++ (b ++ (n ++ 44 ∷ [])))) ++ r) ++ (c ++ (at ++ (s ++ t))) ≡ (a ++ (n ++ (b ++ (n ++ 44 ∷ (r ++ (c ++ (at ++ s))))))) ++ t
set-text a n b r c at s t = simp append_assoc

pub calibrated-text : (a n b m s t : Text) → ((a ++ (n ++ (b ++ (n ++ 44 ∷ [])))) ++ m) ++ (s ++ t) ≡ (a ++ (n ++ (b ++ (n ++ 44 ∷ (m ++ s))))) ++ t
calibrated-text a n b m s t = simp append_assoc

-- ---- the records of a route with referents

pub all-lines : (r : Route) → (command_line (laid r (chainage_marks (length r.course))) ++ flat_map (λ x. command_line (set_on r.name x)) r.refs) ++ command_line (calibrated r) ≡ flat_map command_line (laid_with_referents r)
all-lines r =
    let first = command_line (laid r (chainage_marks (length r.course))) in
    let last = command_line (calibrated r) in
    let refs : flat_map command_line (map (set_on r.name) r.refs) ≡ flat_map (λ x. command_line (set_on r.name x)) r.refs = flat_map-map command_line (set_on r.name) r.refs in
    let end : flat_map command_line (calibrated r ∷ []) ≡ last = append-nil last in
    append_assoc first (flat_map (λ x. command_line (set_on r.name x)) r.refs) last
    ∙ ap (λ (t : Text). first ++ t) ((λ i. sym refs i ++ sym end i) ∙ sym (flat_map-append command_line (map (set_on r.name) r.refs) (calibrated r ∷ [])))

-- ---- the sheet

pub sheet-without : (r : Route) → is_nothing r.refs ≡ true → record_text edit_header ++ command_line (laid r r.marks) ≡ route_sheet r
sheet-without r e =
    ap (λ (t : Text). record_text edit_header ++ t) (sym (append-nil (command_line (laid r r.marks))))
    ∙ ap (λ (b : Bool). record_text edit_header ++ flat_map command_line (if b then laid r r.marks ∷ [] else laid_with_referents r)) (sym e)

pub sheet-with : (r : Route) → is_nothing r.refs ≡ false → record_text edit_header ++ flat_map command_line (laid_with_referents r) ≡ route_sheet r
sheet-with r e = ap (λ (b : Bool). record_text edit_header ++ flat_map command_line (if b then laid r r.marks ∷ [] else laid_with_referents r)) (sym e)
