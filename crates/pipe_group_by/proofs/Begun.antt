-- A run of typed sinks before its first chunk.
use Rattle.std.proofs.Common.{◌≡◌, ◌∙◌, ◌==◌, ◌&&◌, ℕ, Bool, true, false, List, [], ◌∷◌, length, map, refl, sym, ap, subst, arith, None}
use Rattle.std.specs.List.{All, list_all}
use Rattle.std.proofs.lemmas.Bool.{eqb-true, false≢true}
use Rattle.std.proofs.lemmas.List.Elements.{All-nil}
use Rattle.pipe_columns.specs.declared.data_chunk.DataChunk.{DataChunk}
use Rattle.pipe_columns.specs.declared.data_type.DataType.{DataType}
use Rattle.pipe_columns.specs.declared.data_type.DataType.TheVariants as dt
use Rattle.pipe_columns.specs.DataType.{is_integer, is_string}
use Rattle.pipe_columns.specs.Frame.{FitsSchema, HoldsTypes}
use Rattle.pipe_aggs.specs.declared.query.Query.{Query}
use Rattle.pipe_aggs.specs.Faults.{first_fault}
use Rattle.pipe_aggs.specs.QueryTrees.{query_tree}
use Rattle.pipe_model.specs.Output.{key_types}
use Rattle.pipe_plan.specs.declared.event.SpillAction.{SpillAction}
use Rattle.pipe_plan.specs.declared.limits.Limits.{Limits}
use Rattle.pipe_plan.specs.declared.limits.SinkKind.{SinkKind}
use Rattle.pipe_plan.specs.declared.limits.SinkKind.TheVariants as sink_kind
use Rattle.pipe_plan.specs.Run.{is_generic, StoreSeen}
use Rattle.pipe_sinks.specs.Marks.{is_wide, IsSole}
use Rattle.pipe_sinks.specs.Runs.{Run}
use Rattle.pipe_run.specs.Refusals.{are_sole, limits_fit, suits_keys}
use Rattle.pipe_run.specs.Setting.{Setting}
use Rattle.pipe_run.proofs.RunEnds.{fits-setting}
use Rattle.pipe_group_by.specs.Typed.{IsTypedRun}
use Rattle.pipe_group_by.proofs.Taking.{taken-none}

-- ---- keys that a typed sink suits

both : (a b : Bool) → (a && b) ≡ true → (a ≡ true) × (b ≡ true)
both true b is = (refl, is)
both false b is = absurd (false≢true is)

sole-of : (test : DataType → Bool) → ((t : DataType) → test t ≡ true → is_wide t ≡ false) → (types : List DataType) → are_sole test types ≡ true → IsSole types
sole-of test narrow [] is = absurd (false≢true is)
sole-of test narrow (t ∷ []) is = record { dtype = t; is = refl; narrow = narrow t (both (test t) (list_all test []) (both (length (t ∷ []) == 1) (list_all test (t ∷ [])) is).1).0 }
sole-of test narrow (t ∷ u ∷ types) is =
    let long : length (t ∷ u ∷ types) ≡ 1 = eqb-true (length (t ∷ u ∷ types)) 1 (both (length (t ∷ u ∷ types) == 1) (list_all test (t ∷ u ∷ types)) is).0 in
    absurd (omega (arith, long))

narrow-integer : (t : DataType) → is_integer t ≡ true → is_wide t ≡ false
narrow-integer dt.Int128 is = absurd (false≢true is)
narrow-integer t is = refl

narrow-string : (t : DataType) → is_string t ≡ true → is_wide t ≡ false
narrow-string dt.Int128 is = absurd (false≢true is)
narrow-string t is = refl

-- are one, and narrow
pub sole-suited : (kind : SinkKind) (types : List DataType) → is_generic kind ≡ false → suits_keys kind types ≡ true → IsSole types
sole-suited sink_kind.Generic types typed suited = absurd (false≢true (sym typed))
sole-suited sink_kind.Primitive types typed suited = sole-of is_integer narrow-integer types suited
sole-suited sink_kind.Text types typed suited = sole-of is_string narrow-string types suited

-- ---- the run

pub typed-begun : {A V : Type 0} (seen : A → StoreSeen) (items : V → List SpillAction) (q asked : Query) (l limits : Limits) (lists : List V) (rules : List SpillAction) (stores now : List A) (n : ℕ) (sinks : List Run) (chunks : List DataChunk)
    → q ≡ asked → l ≡ limits → n ≡ length lists → now ≡ stores → limits_fit limits n (map (λ s. (seen s).held) now) ≡ true → first_fault asked ≡ None
    → suits_keys limits.sink (key_types (query_tree asked)) ≡ true → is_generic limits.sink ≡ false → length sinks ≡ limits.workers → All (λ s. s ≡ record { query = q; partitions = limits.partitions; taken = [] }) sinks
    → chunks ≡ [] → IsTypedRun (record { query = q; limits = l; actions = map items lists; rules = rules; stores = map seen stores }) chunks sinks 0
typed-begun seen items q asked l limits lists rules stores now n sinks chunks query copied same alike fit faultless suited typed count unused none =
    let x : Setting = record { query = q; limits = limits; actions = map items lists; rules = rules; stores = map seen stores } in
    subst (λ (l : Limits). IsTypedRun (record { query = q; limits = l; actions = map items lists; rules = rules; stores = map seen stores }) chunks sinks 0) (sym copied) (subst (λ (cs : List DataChunk). IsTypedRun x cs sinks 0) (sym none) (record {
      typed = typed;
      begin = record {
        fit = fits-setting seen items q limits lists rules stores now n same alike ∙ fit;
        faultless = ap first_fault query ∙ faultless;
        suited = ap (λ (q : Query). suits_keys limits.sink (key_types (query_tree q))) query ∙ suited;
      };
      chunks_are = record {
        columns = All-nil (λ (c : DataChunk). FitsSchema (query_tree q).schema c.frame);
        typed = All-nil (λ (c : DataChunk). HoldsTypes c.frame);
        rows = omega arith;
        number = omega arith;
      };
      rows_are = refl;
      sinks_are = taken-none q limits.partitions limits.workers sinks count unused;
    }))
