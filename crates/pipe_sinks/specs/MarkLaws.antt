-- Of the proofs alone: laws of the marks of keys of one value.
use Rattle.std.specs.Prelude.{◌≡◌, ℕ, List, [], ◌∷◌}
use Rattle.std.proofs.Common.{◌∙◌, ap, refl, sym}
use Rattle.pipe_columns.specs.declared.any_value.AnyValue.{AnyValue}
use Rattle.pipe_columns.specs.declared.data_type.DataType.{DataType}
use Rattle.pipe_columns.specs.Frame.{value_at}
use Rattle.pipe_spill.proofs.CodeOrder.{codes_injective}
use Rattle.pipe_sinks.specs.Marks.{IsMarkedKey, IsSought, mark_of, sole_code}

-- a code has one mark
pub mark_once : (types : List DataType) (code : List ℕ) (a b : ℕ) → IsMarkedKey types code a
    → IsMarkedKey types code b → a ≡ b
mark_once types code a b p q =
    let same : p.value ∷ [] ≡ q.value ∷ [] =
    codes_injective types (p.value ∷ []) (q.value ∷ []) p.fit q.fit (sym p.key_is ∙ q.key_is) in
    p.mark_is ∙ ap (λ (vs : List AnyValue). mark_of (value_at vs 0)) same ∙ sym q.mark_is

-- a value that is looked for has the mark of its code
pub sought_marked : (value : AnyValue) (types : List DataType) (mark : ℕ)
    → IsSought types value mark → IsMarkedKey types (sole_code types value) mark
sought_marked value types mark h = record {
  sole = h.sole;
  value = value;
  fit = h.fit;
  key_is = refl;
  mark_is = h.mark_is;
}
