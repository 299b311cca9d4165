use Rattle.std.proofs.Common.{◌≡◌, ◌∙◌, ℕ, true, List, ◌++◌, refl, sym, ap, subst}
use Rattle.pipe_columns.specs.Key.{code}
use Rattle.pipe_inputs.specs.ChunkRows.{row_at}
use Rattle.pipe_spill.specs.declared.spill_row.SpillRow.{SpillRow}
use Rattle.pipe_groups.specs.GroupRuns.{keep_no_text}
use Rattle.pipe_groups.specs.Groups.{group_keys}
use Rattle.pipe_groups.specs.Holds.{HoldFewer, Holds}
use Rattle.pipe_keyed.specs.Keyed.{IsAt}
use Rattle.pipe_sinks.specs.KeyRuns.{IsRun, run_rows}
use Rattle.pipe_sinks.specs.TableLayout.{table_in, table_of}
use Rattle.pipe_keyed.specs.Tables.{Table}
use Rattle.pipe_sinks.specs.Alike.{KeysStay}
use Rattle.pipe_sinks.proofs.InsertFacts.{Covered, covered-self, keys-stay, run-few, run-holds, run-plain, run-table, run-taken}
use Rattle.pipe_keyed.proofs.KeyFacts.{keys-set}
use Rattle.pipe_sinks.proofs.key_table.KeyTable.feed_run.Goals as goal

pub feed_run-requires-clause-within : goal.feed_run-requires-clause-within
feed_run-requires-clause-within c =
    let t : Table = table_in c.self.inside in
    (subst (λ (x : Table). IsAt x.groups (code x.shape.key_types (row_at c.args.rows.now c.args.row).key) c.args.index) (sym c.self.view_is) c.requires.at).0

pub feed_run-requires-clause-few : goal.feed_run-requires-clause-few
feed_run-requires-clause-few c =
    let t : Table = table_in c.self.inside in
    let k : List ℕ = code t.shape.key_types (row_at c.args.rows.now c.args.row).key in
    let rows = c.args.rows.now in
    let at : IsAt t.groups k c.args.index = subst (λ (x : Table). IsAt x.groups (code x.shape.key_types (row_at rows c.args.row).key) c.args.index) (sym c.self.view_is) c.requires.at in
    let covered : Covered t t k c.args.index = covered-self t k c.args.index c.self.invariant at in
    let few : HoldFewer t.shape t.groups c.args.len = subst (λ (x : Table). HoldFewer x.shape x.groups c.args.len) (sym c.self.view_is) c.requires.few in
    let run : IsRun t.shape rows c.args.row c.args.len = subst (λ (x : Table). IsRun x.shape rows c.args.row c.args.len) (sym c.self.view_is) c.requires.run in
    let plain : keep_no_text t.shape.prototypes t.shape.input_types ≡ true = subst (λ (x : Table). keep_no_text x.shape.prototypes x.shape.input_types ≡ true) (sym c.self.view_is) c.requires.plain in
    run-few t t k c.args.index covered rows c.args.row c.args.len few run refl plain

pub feed_run-requires-clause-taken : goal.feed_run-requires-clause-taken
feed_run-requires-clause-taken c =
    let t : Table = table_in c.self.inside in
    let k : List ℕ = code t.shape.key_types (row_at c.args.rows.now c.args.row).key in
    let rows = c.args.rows.now in
    let at : IsAt t.groups k c.args.index = subst (λ (x : Table). IsAt x.groups (code x.shape.key_types (row_at rows c.args.row).key) c.args.index) (sym c.self.view_is) c.requires.at in
    let covered : Covered t t k c.args.index = covered-self t k c.args.index c.self.invariant at in
    let few : HoldFewer t.shape t.groups c.args.len = subst (λ (x : Table). HoldFewer x.shape x.groups c.args.len) (sym c.self.view_is) c.requires.few in
    let run : IsRun t.shape rows c.args.row c.args.len = subst (λ (x : Table). IsRun x.shape rows c.args.row c.args.len) (sym c.self.view_is) c.requires.run in
    let plain : keep_no_text t.shape.prototypes t.shape.input_types ≡ true = subst (λ (x : Table). keep_no_text x.shape.prototypes x.shape.input_types ≡ true) (sym c.self.view_is) c.requires.plain in
    run-taken t t k c.args.index covered rows c.args.row c.args.len few run refl plain

pub feed_run-requires-clause-plain : goal.feed_run-requires-clause-plain
feed_run-requires-clause-plain c =
    let t : Table = table_in c.self.inside in
    let k : List ℕ = code t.shape.key_types (row_at c.args.rows.now c.args.row).key in
    let rows = c.args.rows.now in
    let at : IsAt t.groups k c.args.index = subst (λ (x : Table). IsAt x.groups (code x.shape.key_types (row_at rows c.args.row).key) c.args.index) (sym c.self.view_is) c.requires.at in
    let covered : Covered t t k c.args.index = covered-self t k c.args.index c.self.invariant at in
    let few : HoldFewer t.shape t.groups c.args.len = subst (λ (x : Table). HoldFewer x.shape x.groups c.args.len) (sym c.self.view_is) c.requires.few in
    let run : IsRun t.shape rows c.args.row c.args.len = subst (λ (x : Table). IsRun x.shape rows c.args.row c.args.len) (sym c.self.view_is) c.requires.run in
    let plain : keep_no_text t.shape.prototypes t.shape.input_types ≡ true = subst (λ (x : Table). keep_no_text x.shape.prototypes x.shape.input_types ≡ true) (sym c.self.view_is) c.requires.plain in
    run-plain t t k c.args.index covered rows c.args.row c.args.len few run refl plain

pub invariant_of-self : goal.invariant_of-self
invariant_of-self c =
    let t : Table = table_in c.self.inside in
    let k : List ℕ = code t.shape.key_types (row_at c.args.rows.now c.args.row).key in
    let rows = c.args.rows.now in
    let at : IsAt t.groups k c.args.index = subst (λ (x : Table). IsAt x.groups (code x.shape.key_types (row_at rows c.args.row).key) c.args.index) (sym c.self.view_is) c.requires.at in
    let covered : Covered t t k c.args.index = covered-self t k c.args.index c.self.invariant at in
    let few : HoldFewer t.shape t.groups c.args.len = subst (λ (x : Table). HoldFewer x.shape x.groups c.args.len) (sym c.self.view_is) c.requires.few in
    let run : IsRun t.shape rows c.args.row c.args.len = subst (λ (x : Table). IsRun x.shape rows c.args.row c.args.len) (sym c.self.view_is) c.requires.run in
    let plain : keep_no_text t.shape.prototypes t.shape.input_types ≡ true = subst (λ (x : Table). keep_no_text x.shape.prototypes x.shape.input_types ≡ true) (sym c.self.view_is) c.requires.plain in
    run-table t t k c.args.index covered rows c.args.row c.args.len few run refl plain (table_of c.feed_run.new.self) (c.feed_run.ensures.groups.0, c.feed_run.ensures.groups.1, refl)

pub returns-clause-stay : goal.returns-clause-stay
returns-clause-stay c =
    let t : Table = table_in c.self.inside in
    subst (λ (x : Table). KeysStay x (table_of c.feed_run.new.self)) c.self.view_is (keys-stay t (table_of c.feed_run.new.self) (ap group_keys c.feed_run.ensures.groups.0 ∙ keys-set t.groups c.args.index _ refl))

pub returns-clause-holds : goal.returns-clause-holds
returns-clause-holds c =
    let t : Table = table_in c.self.inside in
    let k : List ℕ = code t.shape.key_types (row_at c.args.rows.now c.args.row).key in
    let rows = c.args.rows.now in
    let at : IsAt t.groups k c.args.index = subst (λ (x : Table). IsAt x.groups (code x.shape.key_types (row_at rows c.args.row).key) c.args.index) (sym c.self.view_is) c.requires.at in
    let covered : Covered t t k c.args.index = covered-self t k c.args.index c.self.invariant at in
    let few : HoldFewer t.shape t.groups c.args.len = subst (λ (x : Table). HoldFewer x.shape x.groups c.args.len) (sym c.self.view_is) c.requires.few in
    let run : IsRun t.shape rows c.args.row c.args.len = subst (λ (x : Table). IsRun x.shape rows c.args.row c.args.len) (sym c.self.view_is) c.requires.run in
    let plain : keep_no_text t.shape.prototypes t.shape.input_types ≡ true = subst (λ (x : Table). keep_no_text x.shape.prototypes x.shape.input_types ≡ true) (sym c.self.view_is) c.requires.plain in
    subst (λ (x : Table). (taken : List SpillRow) → Holds x.shape.prototypes x.groups taken → Holds x.shape.prototypes c.feed_run.new.self.groups (taken ++ run_rows x.shape.key_types rows c.args.row c.args.len)) c.self.view_is
    (run-holds t t k c.args.index covered rows c.args.row c.args.len few run refl plain (table_of c.feed_run.new.self) (c.feed_run.ensures.groups.0, c.feed_run.ensures.groups.1, refl))
