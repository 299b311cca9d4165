use Rattle.std.proofs.Common.{◌≡◌, ◌∙◌, List, get_or}
use Rattle.pipe_columns.specs.declared.any_value.AnyValue.{AnyValue}
use Rattle.pipe_saving.specs.Lists.{extent_at, no_place, values_in}
use Rattle.pipe_saving.proofs.RowFacts.{rows-more, same-behind, values-same}
use Rattle.pipe_saving.proofs.rows.state_rows.Goals as goal

pub loop-number-preserved : goal.loop-number-preserved
loop-number-preserved c =
    let n = c.loop-number.number in
    let keys : List (List AnyValue) = c.args.keys.now in
    let results : List (List AnyValue) = c.args.results.now in
    let key : c.in_ok-key.key ≡ values_in n keys = c.in_ok-key.ensures.values ∙ values-same n c.loop-number.keys keys c.loop-number.invariant.keys in
    let given : c.in_ok-given.given ≡ values_in n results = c.in_ok-given.ensures.values ∙ values-same n c.loop-number.results results c.loop-number.invariant.results in
    record {
      rows = c.in_ok-push.ensures.items ∙ rows-more keys results c.args.firsts.now c.args.extents.now n c.loop-number.rows.items _ c.loop-number.invariant.rows
          (λ j. record {
            key = key j;
            first = get_or c.args.firsts.now n no_place;
            last = (extent_at c.args.extents.now n).last;
            rows = (extent_at c.args.extents.now n).rows;
            results = given j;
          });
      keys = c.in_ok-key.ensures.rest ∙ same-behind n c.loop-number.keys keys c.loop-number.invariant.keys;
      results = c.in_ok-given.ensures.rest ∙ same-behind n c.loop-number.results results c.loop-number.invariant.results;
    }
