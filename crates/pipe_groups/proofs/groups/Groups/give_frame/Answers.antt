use Rattle.std.proofs.Common.{◌≡◌, ◌∙◌, ◌++◌, ℕ, [], List, length, map, take, drop, ap, sym, subst, arith}
use Rattle.std.proofs.lemmas.List.{length-map}
use Rattle.pipe_columns.specs.declared.any_value.AnyValue.{AnyValue}
use Rattle.pipe_columns.specs.Frame.{all_have_height, ColumnData, columns_from, FrameData}
use Rattle.pipe_groups.specs.Columns.{column_of_unfinished, columns_of_unfinished, HaveKeys, with_rows}
use Rattle.pipe_groups.specs.Given.{IsFrameOfGroups}
use Rattle.pipe_groups.specs.Groups.{Group, group_of, group_keys, Seen}
use Rattle.pipe_groups.specs.Shape.{IsShape}
use Rattle.pipe_groups.proofs.ColumnRows.{length-from}
use Rattle.pipe_groups.proofs.FrameFacts.{all-high, frame-of-groups, given-are, given-fit, givens, is_there, keys-fit}
use Rattle.pipe_groups.proofs.TakenFacts.{givens-taken, keys-each, keys-taken, shape-is}
use Rattle.pipe_groups.proofs.groups.Groups.give_frame.Goals as goal

pub key_columns-requires-clause-keys : goal.key_columns-requires-clause-keys
key_columns-requires-clause-keys c = keys-each c.self.inside c.args.self.now c.self.view_is c.self.invariant c.args.taken.now c.requires.within c.requires.gives

pub give_states-requires-clause-columns : goal.give_states-requires-clause-columns
give_states-requires-clause-columns c =
    sym (length-map c.in_ok-given.given.items column_of_unfinished) ∙ ap (λ (cs : List ColumnData). length cs) c.in_ok-given.ensures.columns
    ∙ length-from 0 (drop (length c.args.self.now.shape.key_types) c.args.self.now.shape.fields) []

pub finish_all-requires-clause-fit : goal.finish_all-requires-clause-fit
finish_all-requires-clause-fit c =
    let now : Seen = c.args.self.now in
    let taken : List ℕ = c.args.taken.now in
    let gs : List Group = map (group_of now.groups) taken in
    let shape : IsShape now.shape = shape-is c.self.inside now c.self.view_is c.self.invariant in
    let keys : HaveKeys now.shape.key_types (take (length now.shape.key_types) now.shape.fields) (group_keys gs) (columns_of_unfinished c.in_ok-keys.keys.items) =
    subst (λ (ks : List (List ℕ)). HaveKeys now.shape.key_types (take (length now.shape.key_types) now.shape.fields) ks (columns_of_unfinished c.in_ok-keys.keys.items))
    (keys-taken c.self.inside now c.self.view_is c.self.invariant taken) c.in_ok-keys.ensures in
    keys-fit now.shape shape gs c.requires.gives (columns_of_unfinished c.in_ok-keys.keys.items) keys

pub finish_all-requires-2-clause-fit : goal.finish_all-requires-2-clause-fit
finish_all-requires-2-clause-fit c =
    let now : Seen = c.args.self.now in
    let taken : List ℕ = c.args.taken.now in
    let gs : List Group = map (group_of now.groups) taken in
    let shape : IsShape now.shape = shape-is c.self.inside now c.self.view_is c.self.invariant in
    let given : columns_of_unfinished c.give_states.new.columns.items ≡ with_rows (givens gs) (columns_from 0 (drop (length now.shape.key_types) now.shape.fields) []) =
    c.give_states.ensures.columns ∙ ap (λ (rs : List (List AnyValue)). with_rows rs (columns_of_unfinished c.in_ok-given.given.items)) (givens-taken c.self.inside now c.self.view_is c.self.invariant taken)
    ∙ ap (with_rows (givens gs)) c.in_ok-given.ensures.columns in
    given-fit now.shape shape gs c.requires.gives (columns_of_unfinished c.give_states.new.columns.items) given

pub finish_all-requires-2-clause-room : goal.finish_all-requires-2-clause-room
finish_all-requires-2-clause-room c =
    let now : Seen = c.args.self.now in
    let taken : List ℕ = c.args.taken.now in
    let gs : List Group = map (group_of now.groups) taken in
    let fields = drop (length now.shape.key_types) now.shape.fields in
    let shape : IsShape now.shape = shape-is c.self.inside now c.self.view_is c.self.invariant in
    let given : columns_of_unfinished c.give_states.new.columns.items ≡ with_rows (givens gs) (columns_from 0 fields []) =
    c.give_states.ensures.columns ∙ ap (λ (rs : List (List AnyValue)). with_rows rs (columns_of_unfinished c.in_ok-given.given.items)) (givens-taken c.self.inside now c.self.view_is c.self.invariant taken)
    ∙ ap (with_rows (givens gs)) c.in_ok-given.ensures.columns in
    let after : length c.give_states.new.columns.items ≡ length fields =
    sym (length-map c.give_states.new.columns.items column_of_unfinished) ∙ ap (λ (cs : List ColumnData). length cs) (given ∙ given-are now.shape shape gs c.requires.gives) ∙ length-from 0 fields (givens gs) in
    let before : length c.in_ok-given.given.items ≡ length fields =
    sym (length-map c.in_ok-given.given.items column_of_unfinished) ∙ ap (λ (cs : List ColumnData). length cs) c.in_ok-given.ensures.columns ∙ length-from 0 fields [] in
    let keys : length c.finish_all.new.finished.items ≡ length c.in_ok-keys.keys.items =
    ap (λ (cs : List ColumnData). length cs) (c.finish_all.ensures.columns ∙ ap (λ (cs : List ColumnData). cs ++ columns_of_unfinished c.in_ok-keys.keys.items) c.in_ok-columns.ensures.items)
    ∙ length-map c.in_ok-keys.keys.items column_of_unfinished in
    omega (
      arith,
      after,
      before,
      keys,
      c.finish_all.new.finished.ok.0,
      c.give_states.new.columns.ok.0,
      c.in_ok-given.given.ok.0,
      c.in_ok-keys.keys.ok.0,
      c.len.ensures,
      c.len-2.ensures,
      c.in_ok-columns.ensures.capacity,
      c.finish_all.ensures.capacity,
    )

pub unwrap-requires : goal.unwrap-requires
unwrap-requires c =
    let now : Seen = c.args.self.now in
    let taken : List ℕ = c.args.taken.now in
    let gs : List Group = map (group_of now.groups) taken in
    let shape : IsShape now.shape = shape-is c.self.inside now c.self.view_is c.self.invariant in
    let front : List ColumnData = columns_of_unfinished c.in_ok-keys.keys.items in
    let back : List ColumnData = columns_of_unfinished c.give_states.new.columns.items in
    let given : back ≡ with_rows (givens gs) (columns_from 0 (drop (length now.shape.key_types) now.shape.fields) []) =
    c.give_states.ensures.columns ∙ ap (λ (rs : List (List AnyValue)). with_rows rs (columns_of_unfinished c.in_ok-given.given.items)) (givens-taken c.self.inside now c.self.view_is c.self.invariant taken)
    ∙ ap (with_rows (givens gs)) c.in_ok-given.ensures.columns in
    let keys : HaveKeys now.shape.key_types (take (length now.shape.key_types) now.shape.fields) (group_keys gs) front =
    subst (λ (ks : List (List ℕ)). HaveKeys now.shape.key_types (take (length now.shape.key_types) now.shape.fields) ks front)
    (keys-taken c.self.inside now c.self.view_is c.self.invariant taken) c.in_ok-keys.ensures in
    let all : c.finish_all-2.new.finished.items ≡ front ++ back =
    c.finish_all-2.ensures.columns ∙ ap (λ (cs : List ColumnData). cs ++ back) (c.finish_all.ensures.columns ∙ ap (λ (cs : List ColumnData). cs ++ front) c.in_ok-columns.ensures.items) in
    is_there c.new.result (all_have_height (length taken) c.finish_all-2.new.finished.items) c.new.ensures.none
    (ap (all_have_height (length taken)) all ∙ all-high now.shape shape gs c.requires.gives front keys back given (length taken) (sym (length-map taken (group_of now.groups))))

pub returns-clause-frame : goal.returns-clause-frame
returns-clause-frame c =
    let now : Seen = c.args.self.now in
    let taken : List ℕ = c.args.taken.now in
    let gs : List Group = map (group_of now.groups) taken in
    let shape : IsShape now.shape = shape-is c.self.inside now c.self.view_is c.self.invariant in
    let front : List ColumnData = columns_of_unfinished c.in_ok-keys.keys.items in
    let back : List ColumnData = columns_of_unfinished c.give_states.new.columns.items in
    let given : back ≡ with_rows (givens gs) (columns_from 0 (drop (length now.shape.key_types) now.shape.fields) []) =
    c.give_states.ensures.columns ∙ ap (λ (rs : List (List AnyValue)). with_rows rs (columns_of_unfinished c.in_ok-given.given.items)) (givens-taken c.self.inside now c.self.view_is c.self.invariant taken)
    ∙ ap (with_rows (givens gs)) c.in_ok-given.ensures.columns in
    let keys : HaveKeys now.shape.key_types (take (length now.shape.key_types) now.shape.fields) (group_keys gs) front =
    subst (λ (ks : List (List ℕ)). HaveKeys now.shape.key_types (take (length now.shape.key_types) now.shape.fields) ks front)
    (keys-taken c.self.inside now c.self.view_is c.self.invariant taken) c.in_ok-keys.ensures in
    let all : c.finish_all-2.new.finished.items ≡ front ++ back =
    c.finish_all-2.ensures.columns ∙ ap (λ (cs : List ColumnData). cs ++ back) (c.finish_all.ensures.columns ∙ ap (λ (cs : List ColumnData). cs ++ front) c.in_ok-columns.ensures.items) in
    let frame : c.unwrap.result ≡ record { height = length taken; columns = front ++ back } =
    rw c.unwrap.ensures at c.new.ensures.some ∙ ap (λ (cs : List ColumnData). record { height = length taken; columns = cs }) all in
    subst (λ (f : FrameData). IsFrameOfGroups now.shape gs f) (sym frame)
    (frame-of-groups now.shape shape gs c.requires.gives front keys back given (length taken) (sym (length-map taken (group_of now.groups))))
