-- What is written of the same rows is the same rows.
use Rattle.std.proofs.Common.{ℕ, List, [], map, not, pos}
use Rattle.std.specs.Prelude.{Option, Some, None}
use Rattle.std.specs.List.{list_any}
use Rattle.std.proofs.lemmas.List.Sorted.{IsPermutation-refl, IsPermutation-cons, IsPermutation-map, IsPermutation-append_right}
use Rattle.sqlite_keyed.proofs.ListLemmas.{IsPermutation-filter}
use Rattle.lrs_measure.specs.Texts.{Name, same_name}
use Rattle.lrs_element.specs.declared.link.Link.{Link}
use Rattle.lrs_element.specs.declared.link.Piece.{Piece}
use Rattle.lrs_element.specs.declared.marks.Mark.{Mark}
use Rattle.lrs_position.specs.declared.route.Referent.{Referent}
use Rattle.lrs_events.specs.declared.class.Class.{Class}
use Rattle.lrs_events.specs.declared.class.Asset.{Asset}
use Rattle.lrs_events.specs.declared.span.Span.{Span}
use Rattle.lrs_events.specs.declared.part.Part.{Part}
use Rattle.lrs_events.specs.declared.part.Gone.{Gone}
use Rattle.lrs_machine.specs.declared.image.Edit.{Edit}
use Rattle.lrs_machine.specs.declared.image.RouteRow.{RouteRow}
use Rattle.lrs_image.specs.declared.change.ReferentChange.{ReferentChange}
use Rattle.lrs_image.specs.declared.change.RouteChange.{RouteChange}
use Rattle.lrs_image.specs.declared.change.RouteKeys.{RouteKeys}
use Rattle.lrs_image.specs.declared.change.Difference.{Difference}
use Rattle.lrs_store_tables.specs.Contents.Tables.{Tables}
use Rattle.lrs_store_tables.specs.Contents.Laws.{origin_row}
use Rattle.lrs_store_tables.specs.Contents.Tables.{AreSame}
use Rattle.lrs_store_tables.specs.Contents.Encoders.{link_row, class_row, asset_row, piece_row, mark_row, ref_row, span_row, entered_row, gone_row, edit_row, numbered}
use Rattle.lrs_store_tables.specs.RowChanges as it
use Rattle.lrs_store_tables.specs.RowChanges.{has_key_of}
use Rattle.lrs_store_tables.proofs.Only.{same-version, same-link, same-class, same-asset, same-piece, same-mark, same-ref, same-span, same-entered, same-gone, same-edit, same-origin}
use Rattle.lrs_store_tables.specs.Writes.{with_some, new_pieces, new_marks, changed_refs, changed_spans, changed_route, new_route, with_ledgers}

-- what makes the same rows of the same rows
abbrev pub IsSteady : (Tables → Tables) → Type 0
IsSteady f = (a b : Tables) → AreSame a b → AreSame (f a) (f b)

pub steady_both : (f g : Tables → Tables) → IsSteady f → IsSteady g → IsSteady (λ t. g (f t))
steady_both f g s r a b h = r (f a) (f b) (s a b h)

pub steady-with_version : (v : ℕ) → IsSteady (it.with_version v)
steady-with_version v a b h = same-version h (IsPermutation-cons (pos v) _ _ h.version)

pub steady-with_link : (l : Link) → IsSteady (it.with_link l)
steady-with_link l a b h = same-link h (IsPermutation-cons (link_row l) _ _ h.link)

pub steady-with_class : (c : Class) → IsSteady (it.with_class c)
steady-with_class c a b h = same-class h (IsPermutation-cons (class_row c) _ _ h.class)

pub steady-with_asset_row : (x : Asset) → IsSteady (it.with_asset_row x)
steady-with_asset_row x a b h = same-asset h (IsPermutation-cons (asset_row x) _ _ h.asset)

pub steady-with_origin : (x : Asset) → IsSteady (it.with_origin x)
steady-with_origin x a b h = same-origin h (IsPermutation-cons (origin_row x) _ _ h.origin)

pub steady-with_pieces : (route : Name) (n : ℕ) (ps : List Piece) → IsSteady (it.with_pieces route n ps)
steady-with_pieces route n ps a b h = same-piece h (IsPermutation-append_right (numbered (piece_row route) n ps) _ _ h.piece)

pub steady-with_marks : (route : Name) (n : ℕ) (ms : List Mark) → IsSteady (it.with_marks route n ms)
steady-with_marks route n ms a b h = same-mark h (IsPermutation-append_right (numbered (mark_row route) n ms) _ _ h.mark)

pub steady-with_refs : (route : Name) (rs : List Referent) → IsSteady (it.with_refs route rs)
steady-with_refs route rs a b h = same-ref h (IsPermutation-append_right (map (ref_row route) rs) _ _ h.ref)

pub steady-with_spans : (route : Name) (ss : List Span) → IsSteady (it.with_spans route ss)
steady-with_spans route ss a b h = same-span h (IsPermutation-append_right (map (span_row route) ss) _ _ h.span)

pub steady-with_entered : (ps : List Part) → IsSteady (it.with_entered ps)
steady-with_entered ps a b h = same-entered h (IsPermutation-append_right (map entered_row ps) _ _ h.entered)

pub steady-with_gone : (gs : List Gone) → IsSteady (it.with_gone gs)
steady-with_gone gs a b h = same-gone h (IsPermutation-append_right (map gone_row gs) _ _ h.gone)

pub steady-with_origins : (xs : List Asset) → IsSteady (it.with_origins xs)
steady-with_origins xs a b h = same-origin h (IsPermutation-append_right (map origin_row xs) _ _ h.origin)

pub steady-without_version : IsSteady it.without_version
steady-without_version a b h = same-version h (IsPermutation-refl [])

pub steady-with_edit : (n : ℕ) (e : Edit) → IsSteady (it.with_edit n e)
steady-with_edit n e a b h = same-edit h (IsPermutation-cons (edit_row n e) _ _ h.edit)

pub steady-without_pieces : (route : Name) → IsSteady (it.without_pieces route)
steady-without_pieces route a b h = same-piece h (IsPermutation-filter (λ r. not (same_name r.route route)) _ _ h.piece)

pub steady-renamed_pieces : (old : Name) (new : Name) → IsSteady (it.renamed_pieces old new)
steady-renamed_pieces old new a b h = same-piece h (IsPermutation-map (it.renamed_piece old new) _ _ h.piece)

pub steady-without_marks : (route : Name) → IsSteady (it.without_marks route)
steady-without_marks route a b h = same-mark h (IsPermutation-filter (λ r. not (same_name r.route route)) _ _ h.mark)

pub steady-renamed_marks : (old : Name) (new : Name) → IsSteady (it.renamed_marks old new)
steady-renamed_marks old new a b h = same-mark h (IsPermutation-map (it.renamed_mark old new) _ _ h.mark)

pub steady-renamed_refs : (old : Name) (new : Name) (ns : List Name) → IsSteady (it.renamed_refs old new ns)
steady-renamed_refs old new ns a b h = same-ref h (IsPermutation-map (it.renamed_ref old new ns) _ _ h.ref)

pub steady-renamed_spans : (old : Name) (new : Name) (ss : List Span) → IsSteady (it.renamed_spans old new ss)
steady-renamed_spans old new ss a b h = same-span h (IsPermutation-map (it.renamed_span old new ss) _ _ h.span)

pub steady-less_spans : (route : Name) (ss : List Span) → IsSteady (it.less_spans route ss)
steady-less_spans route ss a b h = same-span h (IsPermutation-filter (λ r. not (list_any (λ s. has_key_of route s r) ss)) _ _ h.span)

pub steady-less_refs : (ns : List Name) → IsSteady (it.less_refs ns)
steady-less_refs ns a b h = same-ref h (IsPermutation-filter (λ r. not (list_any (same_name r.name) ns)) _ _ h.ref)

-- what is made of something, if there is one
pub steady_some : {X : Type 0} (made : X → Tables → Tables) → ((x : X) → IsSteady (made x)) → (o : Option X) → IsSteady (with_some made o)
steady_some made each None a b h = h
steady_some made each (Some x) a b h = each x a b h

pub steady-with_asset : (x : Asset) → IsSteady (it.with_asset x)
steady-with_asset x a b h = steady-with_origin x _ _ (steady-with_asset_row x a b h)

pub steady-new_marks : (route : Name) (ms : List Mark) → IsSteady (new_marks route ms)
steady-new_marks route ms a b h = steady-with_marks route 0 ms _ _ (steady-without_marks route a b h)

pub steady-changed_refs : (route : Name) (c : ReferentChange) → IsSteady (changed_refs route c)
steady-changed_refs route c a b h = steady-with_refs route c.come _ _ (steady-less_refs c.gone a b h)

pub steady-changed_spans : (c : RouteChange) → IsSteady (changed_spans c)
steady-changed_spans c a b h = steady-with_spans c.route c.spans_come _ _ (steady-less_spans c.route c.spans_gone a b h)

pub steady-renamed_route : (old new : Name) (keys : RouteKeys) → IsSteady (it.renamed_route old new keys)
steady-renamed_route old new keys a b h = steady-renamed_spans old new keys.spans _ _ (steady-renamed_refs old new keys.refs _ _ (steady-renamed_marks old new _ _ (steady-renamed_pieces old new a b h)))

pub steady-without_route : (route : Name) (keys : RouteKeys) → IsSteady (it.without_route route keys)
steady-without_route route keys a b h = steady-less_spans route keys.spans _ _ (steady-less_refs keys.refs _ _ (steady-without_marks route _ _ (steady-without_pieces route a b h)))

pub steady-new_pieces : (route : Name) (ps : List Piece) → IsSteady (new_pieces route ps)
steady-new_pieces route ps a b h = steady-with_pieces route 0 ps _ _ (steady-without_pieces route a b h)

pub steady-changed_route : (c : RouteChange) (pieces : Option (List Piece)) → IsSteady (changed_route c pieces)
steady-changed_route c pieces a b h =
    steady-renamed_route c.route c.name c.keys _ _ (steady-changed_spans c _ _ (steady-changed_refs c.route c.refs _ _
    (steady_some (new_marks c.route) (steady-new_marks c.route) c.marks _ _ (steady_some (new_pieces c.route) (steady-new_pieces c.route) pieces a b h))))

pub steady-new_route : (e : RouteRow) (pieces : Option (List Piece)) → IsSteady (new_route e pieces)
steady-new_route e pieces a b h =
    steady-with_spans e.route.name e.spans _ _ (steady-with_refs e.route.name e.route.refs _ _ (steady-with_marks e.route.name 0 e.route.marks _ _
    (steady_some (it.with_pieces e.route.name 0) (λ ps. steady-with_pieces e.route.name 0 ps) pieces a b h)))

pub steady-with_ledgers : (d : Difference) → IsSteady (with_ledgers d)
steady-with_ledgers d a b h = steady-with_gone d.gone _ _ (steady-with_entered d.entered a b h)
