use Rattle.std.proofs.Common.{rules, ◌≡◌, ◌∙◌, ◌++◌, ◌∷◌, ◌+◌, [], List, ℕ, length, map, take, drop, get_or, ap, sym, subst, arith}
use Rattle.std.proofs.lemmas.List.{map-append, take_more}
use Rattle.pipe_columns.specs.Frame.{columns_from}
use Rattle.pipe_columns.specs.declared.schema.Field.{Field}
use Rattle.pipe_columns.proofs.FrameFacts.{whole}
use Rattle.pipe_groups.specs.declared.unfinished.Unfinished.{Unfinished}
use Rattle.pipe_spill.specs.SpillRow.{IsKey}
use Rattle.pipe_groups.specs.Columns.{columns_of_unfinished, HaveKey, HaveKeys, types_of}
use Rattle.pipe_groups.specs.Groups.{group_of, Seen}
use Rattle.pipe_groups.specs.Shape.{IsShape}
use Rattle.pipe_groups.proofs.ReadFacts.{key-typed, keys-more, keys-none}
use Rattle.pipe_groups.proofs.ShapeTypes.{shape-keys}
use Rattle.pipe_groups.proofs.groups.Groups.key_columns.Goals as goal

pub loop-index-init : goal.loop-index-init
loop-index-init c =
    let now : Seen = c.args.self.now in
    let fields : c.fields.result.now ≡ now.shape.fields = c.fields.ensures ∙ ap (λ (t : Seen). t.shape.fields) c.self.view_is in
    let keys : length c.self.inside.key_types.items ≡ length now.shape.key_types = ap (λ (t : Seen). length t.shape.key_types) c.self.view_is in
    let count : c.len.result ≡ length now.shape.key_types = omega (arith, keys, c.len.ensures, c.self.inside.key_types.ok.0) in
    keys-none now.shape.key_types (take (length now.shape.key_types) now.shape.fields) (columns_of_unfinished c.in_ok-columns.columns.items)
    (c.in_ok-columns.ensures.columns ∙ ap (λ (fs : List Field). columns_from 0 (take c.len.result fs) []) fields ∙ ap (λ (n : ℕ). columns_from 0 (take n now.shape.fields) []) count)

pub push_key-requires : goal.push_key-requires
push_key-requires c =
    let now : Seen = c.args.self.now in
    let k = c.loop-index.index-index in
    let i : ℕ = get_or c.args.taken.now k 0 in
    let shape : IsShape now.shape = subst (λ (t : Seen). IsShape t.shape) c.self.view_is c.self.invariant.shape in
    let is_key : IsKey now.shape.key_types (group_of now.groups i).key = c.requires.keys k 0 c.loop-index-test.true in
    let typed : IsKey (types_of (columns_of_unfinished c.loop-index.columns.items)) (group_of now.groups i).key =
    key-typed now.shape.key_types (take (length now.shape.key_types) now.shape.fields) (map (λ i. (group_of now.groups i).key) (take k c.args.taken.now)) (group_of now.groups i).key
    (columns_of_unfinished c.loop-index.columns.items) (shape-keys now.shape shape) c.loop-index.invariant is_key in
    subst (λ (cs : List Unfinished). IsKey (types_of (columns_of_unfinished cs)) c.key.result.now) (sym c.deref_mut.ensures.value)
    (subst (IsKey (types_of (columns_of_unfinished c.loop-index.columns.items))) (sym c.key.ensures) typed)

pub loop-index-preserved : goal.loop-index-preserved
loop-index-preserved c =
    let now : Seen = c.args.self.now in
    let k = c.loop-index.index-index in
    let taken : List ℕ = c.args.taken.now in
    let i : ℕ = get_or taken k 0 in
    let shape : IsShape now.shape = subst (λ (t : Seen). IsShape t.shape) c.self.view_is c.self.invariant.shape in
    let key_at : ℕ → List ℕ = λ i. (group_of now.groups i).key in
    let own : HaveKey (columns_of_unfinished c.loop-index.columns.items) (key_at i) (columns_of_unfinished c.push_key.new.columns) =
    subst (λ (key : List ℕ). HaveKey (columns_of_unfinished c.loop-index.columns.items) key (columns_of_unfinished c.push_key.new.columns)) c.key.ensures
    (subst (λ (cs : List Unfinished). HaveKey (columns_of_unfinished cs) c.key.result.now (columns_of_unfinished c.push_key.new.columns)) c.deref_mut.ensures.value c.in_ok-push_key.ensures) in
    let fields : List Field = take (length now.shape.key_types) now.shape.fields in
    let more : map key_at (take k taken) ++ key_at i ∷ [] ≡ map key_at (take (k + 1) taken) =
    sym (ap (map key_at) (take_more taken k 0 c.loop-index-test.true) ∙ map-append key_at (take k taken) (i ∷ [])) in
    let items : List Unfinished = c.loop-index.columns.items in
    let long : length c.push_key.new.columns ≡ length items = search rules in
    let back : take c.loop-index.columns.len (c.push_key.new.columns ++ drop (length c.push_key.new.columns) items) ≡ c.push_key.new.columns =
    whole c.loop-index.columns.len c.push_key.new.columns items long c.loop-index.columns.ok.0 in
    subst (λ (cs : List Unfinished). HaveKeys now.shape.key_types fields (map key_at (take (k + 1) taken)) (columns_of_unfinished cs)) (sym back)
    (subst (λ (keys : List (List ℕ)). HaveKeys now.shape.key_types fields keys (columns_of_unfinished c.push_key.new.columns)) more
    (keys-more now.shape.key_types fields (map key_at (take k taken)) (key_at i) (columns_of_unfinished items) (columns_of_unfinished c.push_key.new.columns) (shape-keys now.shape shape) c.loop-index.invariant own))
