-- The text of a list that is written item by item.
use Rattle.std.proofs.Common.{◌≡◌, ℕ, List, [], ◌∷◌, ◌++◌, length, map, filter, codes, append_assoc, refl, sym, ap, ◌∙◌, Bool, true, if◌then◌else◌, Result, Ok, Err, IfOk, OnOk, Vec, Global}
use Rattle.std.specs.List.{flat_map}
use Rattle.serde_json.specs.Data.{Data, string}
use Rattle.serde_json.specs.View.{items_of}
use Rattle.serde_json.specs.Written.{compact_text, items_text}
use Rattle.lrs_measure.specs.Texts.{Name}
use Rattle.lrs_events.specs.declared.side.Side.{Side}
use Rattle.lrs_events.specs.Names.{side_text}
use Rattle.lrs_machine.specs.declared.segment.Segment.{Segment}
use Rattle.lrs_machine.specs.Lines.{Text}
use Rattle.lrs_report_lists.proofs.Chosen.{texts_of_chosen}
use Rattle.lrs_web_replies.specs.Answers.{segment_data, segments_data}
use Rattle.lrs_web_replies.specs.Parts.{front_text, item_text, opened_text, segments_end, segments_front}
use Rattle.lrs_web_replies.specs.Listings.{named_list}
use Rattle.lrs_web_replies.specs.JsonParts.{each, list}

-- what follows the first item
tail_text : (ds : List Data) → items_text true (items_of ds) ≡ flat_map item_text ds ++ 93 ∷ []
tail_text [] = refl
tail_text (d ∷ ds) = ap (λ t. 44 ∷ (compact_text d ++ t)) (tail_text ds) ∙ ap (λ t. 44 ∷ t) (sym (append_assoc (compact_text d) (flat_map item_text ds) (93 ∷ [])))

-- with its closing bracket
closed_text : (ds : List Data) → opened_text ds ++ 93 ∷ [] ≡ compact_text (list ds)
closed_text [] = refl
closed_text (d ∷ ds) = ap (λ t. 91 ∷ t) (append_assoc (compact_text d) (flat_map item_text ds) (93 ∷ []) ∙ ap (λ t. compact_text d ++ t) (sym (tail_text ds)))

pub closed : (front : List ℕ) (ds : List Data) (bytes whole : List ℕ) → bytes ≡ front ++ opened_text ds → whole ≡ bytes ++ 93 ∷ [] → whole ≡ front ++ compact_text (list ds)
closed front ds bytes whole is ends = ends ∙ ap (λ t. t ++ 93 ∷ []) is ∙ append_assoc front (opened_text ds) (93 ∷ []) ∙ ap (λ t. front ++ t) (closed_text ds)

pub ended : (front : List ℕ) (ds : List Data) (bytes whole : List ℕ) → bytes ≡ front ++ compact_text (list ds) → whole ≡ bytes ++ 125 ∷ []
    → whole ≡ front ++ (compact_text (list ds) ++ 125 ∷ [])
ended front ds bytes whole is ends = ends ∙ ap (λ t. t ++ 125 ∷ []) is ∙ append_assoc front (compact_text (list ds)) (125 ∷ [])

-- the object whose one member is the list
pub object_text : (name : Text) (ds : List Data) → front_text name ++ (compact_text (list ds) ++ 125 ∷ []) ≡ compact_text (named_list name ds)
object_text name ds = ap (λ t. 123 ∷ t) (append_assoc (compact_text (string name)) (58 ∷ []) (compact_text (list ds) ++ 125 ∷ []))

-- what an ended list is, as the object whose one member it is
pub named : {E : Type 0} (r : Result (Vec ℕ Global) E) (filled : List ℕ) (start : ℕ) (name : Text) (ds : List Data)
    → IfOk r (λ whole. (front : Text) (items : List Data) → length front ≡ start → filled ≡ front ++ flat_map item_text items → whole.items ≡ front ++ (compact_text (list items) ++ 125 ∷ []))
    → length (front_text name) ≡ start → filled ≡ front_text name ++ flat_map item_text ds → IfOk r (λ whole. whole.items ≡ compact_text (named_list name ds))
named (Ok whole) filled start name ds told at is = told (front_text name) ds at is ∙ object_text name ds
named (Err e) filled start name ds told at is = tt

-- items behind a front
pub behind : (front before after part all : List ℕ) → before ≡ front → after ≡ before ++ part → part ≡ all → after ≡ front ++ all
behind front before after part all is added same = added ∙ ap (λ t. t ++ part) is ∙ ap (λ t. front ++ t) same

-- ---- items, one behind the other

pub of_each : {A : Type 0} (shown : A → Data) (xs : List A) → flat_map (λ x. item_text (shown x)) xs ≡ flat_map item_text (map shown xs)
of_each shown [] = refl
of_each shown (x ∷ xs) = ap (λ t. item_text (shown x) ++ t) (of_each shown xs)

-- of those that are asked for
pub of_chosen : {A : Type 0} (asked : A → Bool) (shown : A → Data) (xs : List A) → flat_map (λ x. if asked x then item_text (shown x) else []) xs ≡ flat_map item_text (map shown (filter asked xs))
of_chosen asked shown xs = texts_of_chosen asked (λ x. item_text (shown x)) xs ∙ of_each shown (filter asked xs)

-- a list that was added and ended, behind what there was
pub added : {R E A : Type 0} (r : Result R E) (before filled after : List ℕ) (start : ℕ) (shown : A → Data) (xs : List A)
    → OnOk r ((front : Text) (items : List Data) → length front ≡ start → filled ≡ front ++ flat_map item_text items → after ≡ front ++ compact_text (list items))
    → length before ≡ start → filled ≡ before ++ flat_map (λ x. item_text (shown x)) xs → OnOk r (after ≡ before ++ compact_text (each shown xs))
added (Ok x) before filled after start shown xs told at is = told before (map shown xs) at (is ∙ ap (λ t. before ++ t) (of_each shown xs))
added (Err e) before filled after start shown xs told at is = tt

-- ---- segments

-- an object of three members, by its parts
members_text : (a v b w c x : List ℕ) → ((123 ∷ (a ++ 58 ∷ [])) ++ (v ++ (44 ∷ b ++ 58 ∷ []))) ++ (w ++ ((44 ∷ c ++ 58 ∷ []) ++ (x ++ 125 ∷ [])))
    ≡ 123 ∷ (a ++ 58 ∷ (v ++ 44 ∷ (b ++ 58 ∷ (w ++ 44 ∷ (c ++ 58 ∷ (x ++ 125 ∷ []))))))
members_text a v b w c x = simp append_assoc

-- the object of segments, by its parts
segments_joined : (route : Name) (side : Side) (segments : List Segment) → segments_front route ++ (compact_text (each segment_data segments) ++ segments_end side) ≡ compact_text (segments_data route side segments)
segments_joined route side segments =
    members_text (compact_text (string (codes "route"))) (compact_text (string route)) (compact_text (string (codes "segments"))) (compact_text (each segment_data segments))
    (compact_text (string (codes "side"))) (compact_text (string (side_text side)))

pub segments_text : (route : Name) (side : Side) (segments : List Segment) (front filled whole : List ℕ) → front ≡ segments_front route
    → filled ≡ front ++ compact_text (each segment_data segments) → whole ≡ filled ++ segments_end side → whole ≡ compact_text (segments_data route side segments)
segments_text route side segments front filled whole begun added ends =
    ends ∙ ap (λ t. t ++ segments_end side) (added ∙ ap (λ t. t ++ compact_text (each segment_data segments)) begun)
    ∙ append_assoc (segments_front route) (compact_text (each segment_data segments)) (segments_end side) ∙ segments_joined route side segments
