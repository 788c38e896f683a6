use Rattle.std.proofs.Common.{◌≡◌, ℕ, Bool, Option, sym, ap, ◌∙◌}
use Rattle.std.proofs.lemmas.Result.{err_from_is_err_and}
use Rattle.std.specs.Prelude.{is_some}
use Rattle.std.specs.Option.{option_map}
use Rattle.lrs_inventory.specs.Prelude.{Asset, Image, state_of, asset_entry, contains_key}
use Rattle.lrs_machine.specs.declared.answer.Cause.TheVariants as cause
use Rattle.lrs_machine.specs.Register.{get}
use Rattle.lrs_machine.specs.Machine.{wanted_of}
use Rattle.lrs_verbs.specs.EntryRequests.{is_left_out}
use Rattle.lrs_inventory.proofs.Stopping.{answers_refused, passed}
use Rattle.lrs_inventory.proofs.Known.{none_found, same_known}
use Rattle.lrs_verbs.proofs.EntryChecks.{refuses_known, refuses_class, refuses_route}
use Rattle.lrs_verbs.proofs.verbs.location.wanted_of.Goals as goal

-- whether the asset is known
known : (i : Image) (n m : ℕ) (o : Option Asset) (b : Bool) → n ≡ m → option_map asset_entry o ≡ option_map (λ a. (n, a)) (get (state_of i).assets n) → b ≡ is_some o → contains_key (state_of i).assets m ≡ b
known i n m o b same found is = ap (contains_key (state_of i).assets) (sym same) ∙ same_known _ _ o (get (state_of i).assets n) found ∙ sym is

pub returns-in_err-refuse_if-clause-refused : goal.returns-in_err-refuse_if-clause-refused
returns-in_err-refuse_if-clause-refused c =
    let i = c.args.inventory.now in
    let e = c.args.asked.now in
    let test = is_left_out c.args.only_exclusive in
    let err = err_from_is_err_and c.from_residual.result c.from_residual.ensures.1 in
    rw (err.1, err.2) (answers_refused (wanted_of test e (state_of i)) c.is_some-is_known.result cause.AssetKnown c.refuse_if.result _ c.refuse_if.ensures c.in_err-refuse_if.was
    (λ is. refuses_known e (state_of i) test (known i c.get.result e.asset c.asset.result c.is_some-is_known.result c.get.ensures.number c.asset.ensures c.is_some-is_known.ensures ∙ is)))

pub returns-in-None-clause-refused : goal.returns-in-None-clause-refused
returns-in-None-clause-refused c =
    let i = c.args.inventory.now in
    let e = c.args.asked.now in
    let fresh =
    known i c.get.result e.asset c.asset.result c.is_some-is_known.result c.get.ensures.number c.asset.ensures c.is_some-is_known.ensures
    ∙ passed c.is_some-is_known.result cause.AssetKnown c.refuse_if.result _ c.refuse_if.ensures c.in_ok-refuse_if.was in
    refuses_class e (state_of i) (is_left_out c.args.only_exclusive) fresh (sym c.in-None.ensures)

pub returns-in-None-route-clause-refused : goal.returns-in-None-route-clause-refused
returns-in-None-route-clause-refused c =
    let i = c.args.inventory.now in
    let e = c.args.asked.now in
    let fresh =
    known i c.get.result e.asset c.asset.result c.is_some-is_known.result c.get.ensures.number c.asset.ensures c.is_some-is_known.ensures
    ∙ passed c.is_some-is_known.result cause.AssetKnown c.refuse_if.result _ c.refuse_if.ensures c.in_ok-refuse_if.was in
    refuses_route e (state_of i) (is_left_out c.args.only_exclusive) fresh c.in-Some.kind (sym c.in-Some.ensures) (none_found _ (get (state_of i).routes e.route) c.in-None-route.ensures.route)
