-- The inputs of a row are read one by one into a list that has a place for each.
use Rattle.std.proofs.Common.{◌≡◌, ◌∙◌, ◌<◌, ◌+◌, ◌++◌, ℕ, List, length, take, get_or, arith, ap, sym, subst, false, set}
use Rattle.std.proofs.Math.Seq.{take-length}
use Rattle.std.proofs.lemmas.List.{length-set, take_more_set}
use Rattle.std.proofs.lemmas.List.Elements.{All-get_or}
use Rattle.pipe_columns.specs.declared.any_value.AnyValue.{AnyValue}
use Rattle.pipe_columns.specs.declared.data_type.DataType.{DataType}
use Rattle.pipe_columns.specs.DataType.{is_string}
use Rattle.pipe_columns.specs.Key.{code, value_code}
use Rattle.pipe_spill.specs.KeyTypes.{IsTuple, IsValue}
use Rattle.pipe_spill.proofs.ValuesRead.{IsReadTo, read_nothing, read_one, read_tuple}
use Rattle.pipe_waiting.specs.Waiting.{HaveNoTexts}

-- the first i values of the list were read, and these bytes are left
pub record ArePlacedTo (types : List DataType) (bytes : List ℕ) (values : List AnyValue) (rest : List ℕ) (i : ℕ) : Type 0 where
  pub fit : length values ≡ length types
  pub read : IsReadTo types bytes (take i values) rest i

-- before the first value the list holds what it held
pub none_placed : (types : List DataType) (bytes : List ℕ) (values : List AnyValue) → length values ≡ length types → ArePlacedTo types bytes values bytes 0
none_placed types bytes values fit = record { fit = fit; read = read_nothing types bytes }

-- one more value is read
pub one_placed : (types : List DataType) (bytes : List ℕ) (values : List AnyValue) (rest after : List ℕ) (i : ℕ) (d : DataType) (v : AnyValue) → ArePlacedTo types bytes values rest i → i < length types
    → IsValue (get_or types i d) v → value_code (get_or types i d) v ++ after ≡ rest → ArePlacedTo types bytes (set values i v) after (i + 1)
one_placed types bytes values rest after i d v h lt is front =
    let below : i < length values = omega (arith, lt, h.fit) in
    record {
      fit = length-set values i v ∙ h.fit;
      read = subst (λ (xs : List AnyValue). IsReadTo types bytes xs after (i + 1)) (sym (take_more_set values i v below))
          (read_one types bytes (take i values) rest after i d v h.read lt is front);
    }

-- past the last type the list is the tuple
pub all_placed : (types : List DataType) (bytes : List ℕ) (values : List AnyValue) (rest : List ℕ) (i : ℕ) → ArePlacedTo types bytes values rest i → i ≡ length types
    → IsTuple types values × (code types values ++ rest ≡ bytes)
all_placed types bytes values rest i h last =
    let whole : take (length types) values ≡ values = ap (λ (n : ℕ). take n values) (sym h.fit) ∙ take-length values in
    subst (λ (xs : List AnyValue). IsTuple types xs × (code types xs ++ rest ≡ bytes)) whole
    (read_tuple types bytes (take (length types) values) rest (subst (λ (n : ℕ). IsReadTo types bytes (take n values) rest n) last h.read))

-- a type at a place is none of texts
pub plain_at : (types : List DataType) (i : ℕ) (d : DataType) → HaveNoTexts types → i < length types → is_string (get_or types i d) ≡ false
plain_at types i d h lt = All-get_or (λ t. is_string t ≡ false) types i d lt h
