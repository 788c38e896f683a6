use Rattle.lrs_element.proofs.Finding.{in_order_from_test}
use Rattle.lrs_element.proofs.known_links.RefSliceLinkKnownLinks.link.Goals as goal

pub find_link-requires : goal.find_link-requires
find_link-requires c = in_order_from_test _ c.requires.order
