use Rattle.std.proofs.Common.{◌≡◌, ◌∷◌, [], take}
use Rattle.std.specs.List.{flat_map}
use Rattle.lrs_web_replies.specs.PagedText.{add_all}
use Rattle.lrs_web_replies.proofs.listings.add_list_on.Given as goal

abbrev pub invariant-loop-one : goal.invariant-loop-one
invariant-loop-one g l = l.text ≡ add_all l.fn.text (flat_map (λ one. g.T.OnRoute.shown l.route one ∷ []) (take l.one-index l.list))
