use Rattle.std.proofs.Common.{rules, ◌≡◌, ◌∙◌, ◌+◌, ◌++◌, ◌∷◌, [], ℕ, List, sym, ap, arith}
use Rattle.std.specs.Fmt.{decimal}
use Rattle.std.proofs.lemmas.List.FromFn.{map-range_with_len_more}
use Rattle.memory_states.proofs.names.names_of.Goals as goal

pub loop-i-preserved : goal.loop-i-preserved
loop-i-preserved c =
    let i : ℕ = c.loop-i.i in
    let made : c.in_ok-name_of.field-0 ≡ decimal (i + 1) = search rules in
    let more : c.push.new.self.items ≡ c.loop-i.names.items ++ c.in_ok-name_of.field-0 ∷ [] = search rules in
    more ∙ (λ j. c.loop-i.invariant j ++ made j ∷ []) ∙ sym (map-range_with_len_more decimal 1 i (i + 1) (omega arith))
