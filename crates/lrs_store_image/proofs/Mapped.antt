-- What decoded rows say.
use Rattle.std.proofs.Common.{◌≡◌, List, [], ◌∷◌, map, Option, refl, sym, ap, ◌∙◌}
use Rattle.lrs_store_tables.specs.Contents.Decoders.{each_of}
use Rattle.lrs_store_tables.proofs.SaidRows.{one, each-one}

-- what decoded rows say is what the rows say
pub each_of-map : {Row Said X : Type 0} (said : Said → Option X) (decoded : Row → Said) (rows : List Row) → each_of said (map decoded rows) ≡ each_of (λ r. said (decoded r)) rows
each_of-map said decoded [] = refl
each_of-map {Row} {Said} {X} said decoded (r ∷ rs) =
    let both : Row → Option X = λ r. said (decoded r) in
    each-one said (decoded r) (map decoded rs) ∙ ap (one said (said (decoded r))) (each_of-map said decoded rs) ∙ sym (each-one both r rs)
