use Rattle.std.proofs.Common.{◌≡◌, ◌∙◌, ℕ, List, refl, sym, ap, subst}
use Rattle.pipe_columns.specs.declared.any_value.AnyValue.{AnyValue}
use Rattle.pipe_columns.specs.declared.data_type.DataType.{DataType}
use Rattle.pipe_columns.specs.Key.{code}
use Rattle.pipe_inputs.specs.ChunkRows.{row_at}
use Rattle.pipe_groups.specs.Groups.{Group}
use Rattle.pipe_groups.proofs.PutFacts.{cover-new, cover-there, is_covered-at}
use Rattle.pipe_keyed.specs.Keyed.{IsAt}
use Rattle.pipe_sinks.proofs.SoleFacts.{new-at, sole-fit, sole-is, sole-marked}
use Rattle.pipe_sinks.proofs.cover_lent.cover_lent.Goals as goal

pub mark_of-mark-requires : goal.mark_of-mark-requires
mark_of-mark-requires c =
    let types : List DataType = c.args.keyed.now.shape.key_types in
    (types, c.requires.sole, sole-fit types (row_at c.args.rows.now c.args.row).key c.key-value.result.now c.key-value.ensures c.requires.sole c.requires.key)

pub find-requires : goal.find-requires
find-requires c =
    let types : List DataType = c.args.keyed.now.shape.key_types in
    record {
      sole = c.requires.sole;
      fit = sole-fit types (row_at c.args.rows.now c.args.row).key c.key-value.result.now c.key-value.ensures c.requires.sole c.requires.key;
      mark_is = c.mark_of-mark.ensures;
    }

pub push-requires : goal.push-requires
push-requires c =
    let types : List DataType = c.args.keyed.now.shape.key_types in
    let k : List AnyValue = (row_at c.args.rows.now c.args.row).key in
    sole-marked types k c.key-value.result.now c.key-value.ensures c.requires.sole c.requires.key c.mark_of-mark.result c.deref.result.now c.mark_of-mark.ensures
    (c.deref.ensures.value ∙ c.in_ok-encode_row-in-None.ensures.ok ∙ ap (λ (ts : List DataType). code ts k) c.requires.types)

pub returns-in-Some-clause-at : goal.returns-in-Some-clause-at
returns-in-Some-clause-at c =
    let types : List DataType = c.args.keyed.now.shape.key_types in
    let k : List AnyValue = (row_at c.args.rows.now c.args.row).key in
    subst (λ (x : List ℕ). IsAt c.args.keyed.now.groups x c.in-Some.index) (sole-is types k c.key-value.result.now c.key-value.ensures c.requires.sole c.requires.key) c.in-Some.ensures

pub returns-in-Some-clause-ok : goal.returns-in-Some-clause-ok
returns-in-Some-clause-ok c =
    let types : List DataType = c.args.keyed.now.shape.key_types in
    let k : List AnyValue = (row_at c.args.rows.now c.args.row).key in
    let at : IsAt c.args.keyed.now.groups (code types k) c.in-Some.index =
    subst (λ (x : List ℕ). IsAt c.args.keyed.now.groups x c.in-Some.index) (sole-is types k c.key-value.result.now c.key-value.ensures c.requires.sole c.requires.key) c.in-Some.ensures in
    (sym (cover-there (code types k) c.args.keyed.now.shape.prototypes c.args.keyed.now.groups (is_covered-at (code types k) c.args.keyed.now.groups c.in-Some.index at.0 at.1)), refl)

pub returns-in-None-clause-ok : goal.returns-in-None-clause-ok
returns-in-None-clause-ok c =
    let types : List DataType = c.args.keyed.now.shape.key_types in
    let k : List AnyValue = (row_at c.args.rows.now c.args.row).key in
    let gs : List Group = c.args.keyed.now.groups in
    let is : c.deref.result.now ≡ code types k = c.deref.ensures.value ∙ c.in_ok-encode_row-in-None.ensures.ok ∙ ap (λ (ts : List DataType). code ts k) c.requires.types in
    let absent = rw (sole-is types k c.key-value.result.now c.key-value.ensures c.requires.sole c.requires.key) at c.in-None.ensures in
    (c.in_ok-index-in-None.ensures.ok.0 ∙ rw is (sym (cover-new (code types k) c.args.keyed.now.shape.prototypes gs absent)), c.in_ok-index-in-None.ensures.ok.1)

pub returns-in-None-clause-at : goal.returns-in-None-clause-at
returns-in-None-clause-at c =
    let types : List DataType = c.args.keyed.now.shape.key_types in
    let k : List AnyValue = (row_at c.args.rows.now c.args.row).key in
    let is : c.deref.result.now ≡ code types k = c.deref.ensures.value ∙ c.in_ok-encode_row-in-None.ensures.ok ∙ ap (λ (ts : List DataType). code ts k) c.requires.types in
    new-at c.args.keyed.now.shape.prototypes c.args.keyed.now.groups (code types k) _ _ (c.in_ok-index-in-None.ensures.ok.0 ∙ rw is refl) c.in_ok-index-in-None.ensures.index
