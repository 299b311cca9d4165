use Rattle.std.proofs.Common.{rules, arith, ◌≡◌, ◌∙◌, ◌-◌, ◌<◌, ◌≤◌, ◌++◌, ℕ, List, length, set, sym, ap}
use Rattle.std.proofs.lemmas.List.{set-append_left, set-append_right}
use Rattle.pipe_columns.specs.declared.any_value.AnyValue.{AnyValue}
use Rattle.pipe_columns.specs.declared.any_value.AnyValue.TheVariants as av
use Rattle.pipe_columns.specs.Frame.{value_at}
use Rattle.pipe_regroup.proofs.FrameRows.{value-is, value-past, value-right}
use Rattle.pipe_regroup.proofs.frame.take_value.Goals as goal

pub returns-then-place-width-clause-rest : goal.returns-then-place-width-clause-rest
returns-then-place-width-clause-rest c =
    let key : List AnyValue = c.args.group.now.key.items in
    let results : List AnyValue = c.args.group.now.results.items in
    ap (λ (v : AnyValue). set key c.args.place v ++ results) c.replace.ensures.after ∙ sym (set-append_left key results c.args.place av.Null (search rules))

pub returns-then-place-width-2-clause-value : goal.returns-then-place-width-2-clause-value
returns-then-place-width-2-clause-value c =
    let key : List AnyValue = c.args.group.now.key.items in
    let results : List AnyValue = c.args.group.now.results.items in
    let wide : c.len-width.result ≡ length key = search rules in
    let there : c.args.place - c.len-width.result < length results = search rules in
    let past : length key ≤ c.args.place = search (rules, arith) in
    c.replace-then-place-width-2.ensures.value ∙ c.index_mut-then-place-width-2.ensures.value
    ∙ value-is results (c.args.place - c.len-width.result) _ there
    ∙ ap (λ (n : ℕ). value_at results (c.args.place - n)) wide
    ∙ value-right key results c.args.place past

pub returns-then-place-width-2-clause-rest : goal.returns-then-place-width-2-clause-rest
returns-then-place-width-2-clause-rest c =
    let key : List AnyValue = c.args.group.now.key.items in
    let results : List AnyValue = c.args.group.now.results.items in
    let wide : c.len-width.result ≡ length key = search rules in
    let past : c.len-width.result ≤ c.args.place = search (rules, arith) in
    ap (λ (v : AnyValue). key ++ set results (c.args.place - c.len-width.result) v) c.replace-then-place-width-2.ensures.after
    ∙ sym (set-append_right key results c.len-width.result c.args.place av.Null (sym wide) past)

pub returns-clause-value : goal.returns-clause-value
returns-clause-value c =
    let key : List AnyValue = c.args.group.now.key.items in
    let results : List AnyValue = c.args.group.now.results.items in
    let wide : c.len-width.result ≡ length key = search rules in
    let past : length key ≤ c.args.place = search (rules, arith) in
    let behind : length results ≤ c.args.place - c.len-width.result = search (rules, arith) in
    value-past results (c.args.place - c.len-width.result) behind
    ∙ ap (λ (n : ℕ). value_at results (c.args.place - n)) wide
    ∙ value-right key results c.args.place past
