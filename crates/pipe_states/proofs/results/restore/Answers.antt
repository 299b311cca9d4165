use Rattle.std.proofs.Common.{rules, ◌≡◌, ◌∙◌, ◌++◌, ◌∷◌, [], List, true, ap, sym, append_assoc}
use Rattle.std.specs.Prelude.{Some, None, option_map}
use Rattle.pipe_columns.specs.declared.any_value.AnyValue.{AnyValue}
use Rattle.pipe_states.specs.Forms.{is_mean, joined_halves}
use Rattle.pipe_states.proofs.Fronts.{taken_mean}
use Rattle.pipe_states.proofs.results.restore.Goals as goal

pub joined_halves-requires-clause-high : goal.joined_halves-requires-clause-high
joined_halves-requires-clause-high c =
    let mean : is_mean c.args.function.now ≡ true = search rules in
    (taken_mean c.args.function.now c.args.values.now c.take_out-high.new.self c.take_out-low.new.self c.args.j c.take_out-high.result c.take_out-low.result c.take_out-count.result mean c.requires.typed
    c.take_out-high.ensures.value c.take_out-high.ensures.rest c.take_out-low.ensures.value c.take_out-low.ensures.rest c.take_out-count.ensures.value).high_fits

pub joined_halves-requires-clause-low : goal.joined_halves-requires-clause-low
joined_halves-requires-clause-low c =
    let mean : is_mean c.args.function.now ≡ true = search rules in
    (taken_mean c.args.function.now c.args.values.now c.take_out-high.new.self c.take_out-low.new.self c.args.j c.take_out-high.result c.take_out-low.result c.take_out-count.result mean c.requires.typed
    c.take_out-high.ensures.value c.take_out-high.ensures.rest c.take_out-low.ensures.value c.take_out-low.ensures.rest c.take_out-count.ensures.value).low_fits

pub returns-in_default-clause-refused : goal.returns-in_default-clause-refused
returns-in_default-clause-refused c = λ h.
    let mean : is_mean c.args.function.now ≡ true = search rules in
    let count : AnyValue = c.take_out-count.result in
    let is = taken_mean c.args.function.now c.args.values.now c.take_out-high.new.self c.take_out-low.new.self c.args.j c.take_out-high.result c.take_out-low.result count mean c.requires.typed
    c.take_out-high.ensures.value c.take_out-high.ensures.rest c.take_out-low.ensures.value c.take_out-low.ensures.rest c.take_out-count.ensures.value in
    let none : joined_halves c.take_out-high.result c.take_out-low.result ≡ None = search rules in
    is.gives ∙ ap (option_map (λ (sum : AnyValue). sum ∷ count ∷ [])) none

pub returns-clause-restored : goal.returns-clause-restored
returns-clause-restored c =
    let mean : is_mean c.args.function.now ≡ true = search rules in
    let old : List AnyValue = c.args.results.now.items in
    let sum : AnyValue = c.in-Some.sum in
    let count : AnyValue = c.take_out-count.result in
    let is = taken_mean c.args.function.now c.args.values.now c.take_out-high.new.self c.take_out-low.new.self c.args.j c.take_out-high.result c.take_out-low.result count mean c.requires.typed
    c.take_out-high.ensures.value c.take_out-high.ensures.rest c.take_out-low.ensures.value c.take_out-low.ensures.rest c.take_out-count.ensures.value in
    let some : joined_halves c.take_out-high.result c.take_out-low.result ≡ Some sum = search rules in
    let first : c.push-2.new.self.items ≡ old ++ sum ∷ [] = search rules in
    let second : c.push-3.new.self.items ≡ c.push-2.new.self.items ++ count ∷ [] = search rules in
    ap (option_map (λ (more : List AnyValue). old ++ more)) (is.gives ∙ ap (option_map (λ (s : AnyValue). s ∷ count ∷ [])) some)
    ∙ ap Some (sym (second ∙ ap (λ (l : List AnyValue). l ++ count ∷ []) first ∙ append_assoc old (sum ∷ []) (count ∷ [])))
