use Rattle.std.proofs.Common.{◌≡◌, bytes_eq}
use Rattle.std.specs.List.{list_any}
use Rattle.form_urlencoded.specs.Parse.{pairs_left}
use Rattle.lrs_web_requests.specs.Query.{first_unknown, unknown_name}
use Rattle.lrs_web_requests.proofs.query.unknown_name.Given as goal

-- the first unknown name is that of what is left
abbrev pub invariant-loop-pair : goal.invariant-loop-pair
invariant-loop-pair l =
    first_unknown (λ text. list_any (λ one. bytes_eq text one.now) l.known) (pairs_left l.pair-iterator)
    ≡ unknown_name (λ text. list_any (λ one. bytes_eq text one.now) l.known) l.query
