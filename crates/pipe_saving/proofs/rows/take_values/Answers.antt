use Rattle.std.proofs.Common.{◌≡◌, ◌∙◌, ◌+◌, ◌<◌, ◌∷◌, [], ◌++◌, List, length, drop, get_or, sym, ap, arith}
use Rattle.std.proofs.lemmas.List.{get_or_default, length-set}
use Rattle.pipe_columns.specs.declared.any_value.AnyValue.{AnyValue}
use Rattle.pipe_columns.specs.Frame.{value_at}
use Rattle.pipe_saving.proofs.RowFacts.{drop-same, lists-behind, list-same, same-set, values-more}
use Rattle.pipe_saving.proofs.rows.take_values.Goals as goal

pub loop-i-preserved : goal.loop-i-preserved
loop-i-preserved c =
    let n = c.args.number in
    let i = c.loop-i.i in
    let all : List (List AnyValue) = c.args.lists.now in
    let now : List (List AnyValue) = c.loop-i.lists in
    let there : i < length now = omega (arith, c.loop-i-test.true, c.loop-i.invariant.many) in
    let read : get_or now i c.index-lists-i.result ≡ get_or now i [] = get_or_default now i c.index-lists-i.result [] there in
    let own : get_or now i [] ≡ get_or all i [] = list-same now all i c.loop-i.invariant.behind in
    let value : c.take_out.result ≡ value_at (get_or all i []) n = c.take_out.ensures.value ∙ ap (λ (l : List AnyValue). value_at l n) (read ∙ own) in
    record {
      values = c.in_ok-push.ensures.items ∙ (λ j. c.loop-i.invariant.values j ++ value j ∷ []) ∙ sym (values-more n all i c.loop-i-test.true);
      behind = drop-same now i c.take_out.new.self ∙ lists-behind now all i c.loop-i.invariant.behind;
      rest = same-set (n + 1) now i c.take_out.new.self [] (c.take_out.ensures.rest ∙ ap (drop (n + 1)) read) ∙ c.loop-i.invariant.rest;
      many = length-set now i c.take_out.new.self ∙ c.loop-i.invariant.many;
    }
