-- Where parts begin and end, in the order of their lines.
use Rattle.std.specs.Prelude.{◌≡◌, false}
use Rattle.std.specs.Ordering.{is_lt, nat_cmp, bool_cmp, ordering_then}
use Rattle.lrs_events.specs.declared.part.Part.{Part}
use Rattle.lrs_image_sound.specs.declared.ends.End.{End}
use Rattle.lrs_image_sound.specs.SweptParts.{is_right}

abbrev pub start_of : Part → End
start_of p = record { asset = p.asset; link = p.link; right = is_right p.side; mm = p.from }

abbrev pub end_of : Part → End
end_of p = record { asset = p.asset; link = p.link; right = is_right p.side; mm = p.to }

-- by asset, link and side, and then by millimetre
abbrev pub IsRising : End → End → Type 0
IsRising x y = is_lt (ordering_then (ordering_then (ordering_then (nat_cmp y.asset x.asset) (nat_cmp y.link x.link)) (bool_cmp y.right x.right)) (nat_cmp y.mm x.mm)) ≡ false
