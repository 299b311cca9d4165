-- Where shown columns come from, column by column.
use Rattle.std.proofs.Common.{◌≡◌, ◌∙◌, ◌+◌, ◌<◌, ◌≤◌, ◌++◌, ℕ, List, [], ◌∷◌, length, drop, get_or, sym, ap}
use Rattle.std.proofs.Math.ListN.{drop_of_length-le}
use Rattle.std.proofs.lemmas.List.{append-nil, append_assoc, drop_more}
use Rattle.lavzimo_words.specs.AskedQuery.{source_at, sources_from, width}
use Rattle.lavzimo_words.specs.declared.asked_column.AskedColumn.{AskedColumn}
use Rattle.lavzimo_words.specs.declared.source.Source.{Source}

-- one column more
pub sources-more : (cs : List AskedColumn) (i place next : ℕ) (d : AskedColumn) (done new all : List Source) → i < length cs
    → done ++ sources_from place (drop i cs) ≡ all → new ≡ done ++ source_at place (get_or cs i d) ∷ [] → next ≡ place + width (get_or cs i d).role
    → new ++ sources_from next (drop (i + 1) cs) ≡ all
sources-more cs i place next d done new all few h grew at =
    let c : AskedColumn = get_or cs i d in
    ap (λ ss. ss ++ sources_from next (drop (i + 1) cs)) grew
    ∙ append_assoc done (source_at place c ∷ []) (sources_from next (drop (i + 1) cs))
    ∙ ap (λ n. done ++ source_at place c ∷ sources_from n (drop (i + 1) cs)) at
    ∙ ap (λ xs. done ++ sources_from place xs) (sym (drop_more cs i d few)) ∙ h

pub sources-all : (cs : List AskedColumn) (i place : ℕ) (done all : List Source) → length cs ≤ i → done ++ sources_from place (drop i cs) ≡ all → done ≡ all
sources-all cs i place done all past h =
    sym (append-nil done) ∙ ap (λ xs. done ++ sources_from place xs) (sym (drop_of_length-le cs past)) ∙ h
