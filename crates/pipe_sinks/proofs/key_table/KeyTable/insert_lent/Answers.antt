use Rattle.std.proofs.Common.{◌∙◌, ℕ, List, ◌∷◌, [], ◌++◌, refl, sym, ap, subst}
use Rattle.pipe_columns.specs.Key.{code}
use Rattle.pipe_inputs.specs.ChunkRows.{row_at}
use Rattle.pipe_spill.specs.KeyTypes.{AreOfTypes}
use Rattle.pipe_spill.specs.SpillRow.{IsRow, spilled}
use Rattle.pipe_spill.specs.declared.spill_row.SpillRow.{SpillRow}
use Rattle.pipe_groups.specs.Holds.{Holds}
use Rattle.pipe_sinks.specs.Marks.{IsSole}
use Rattle.pipe_sinks.specs.TableLayout.{table_in, table_of}
use Rattle.pipe_keyed.specs.Tables.{Table, TakesOne}
use Rattle.pipe_sinks.proofs.InsertFacts.{Covered, covered-table, one-few, one-holds, one-table}
use Rattle.pipe_keyed.proofs.TableFacts.{table-same}
use Rattle.pipe_sinks.proofs.key_table.KeyTable.insert_lent.Goals as goal

pub cover_lent-requires-clause-types : goal.cover_lent-requires-clause-types
cover_lent-requires-clause-types c = c.requires.types ∙ sym (ap (λ (t : Table). t.shape.key_types) c.self.view_is)

pub cover_lent-requires-clause-sole : goal.cover_lent-requires-clause-sole
cover_lent-requires-clause-sole c = subst (λ (t : Table). IsSole t.shape.key_types) (sym c.self.view_is) c.requires.sole

pub cover_lent-requires-clause-key : goal.cover_lent-requires-clause-key
cover_lent-requires-clause-key c = subst (λ (t : Table). AreOfTypes t.shape.key_types (row_at c.args.rows.now c.args.row).key) (sym c.self.view_is) c.requires.key

pub feed_lent-requires-clause-few : goal.feed_lent-requires-clause-few
feed_lent-requires-clause-few c =
    let t : Table = table_in c.self.inside in
    let u : Table = table_of c.cover_lent.new.keyed in
    let k : List ℕ = code t.shape.key_types (row_at c.args.rows.now c.args.row).key in
    let covered : Covered t u k c.in_ok-index.index = record { table = c.self.invariant; is = (c.in_ok-index.ensures.ok.0, c.in_ok-index.ensures.ok.1, refl); at = c.in_ok-index.ensures.at } in
    let r : SpillRow = spilled t.shape.key_types (row_at c.args.rows.now c.args.row) in
    let few : TakesOne t = subst (λ (x : Table). TakesOne x) (sym c.self.view_is) c.requires.few in
    let typed : IsRow t.shape.key_types t.shape.input_types r =
    subst (λ (x : Table). IsRow x.shape.key_types x.shape.input_types (spilled x.shape.key_types (row_at c.args.rows.now c.args.row))) (sym c.self.view_is) c.requires.typed in
    (one-few t u k c.in_ok-index.index covered r few typed refl).0

pub feed_lent-requires-clause-taken : goal.feed_lent-requires-clause-taken
feed_lent-requires-clause-taken c =
    let t : Table = table_in c.self.inside in
    let u : Table = table_of c.cover_lent.new.keyed in
    let k : List ℕ = code t.shape.key_types (row_at c.args.rows.now c.args.row).key in
    let covered : Covered t u k c.in_ok-index.index = record { table = c.self.invariant; is = (c.in_ok-index.ensures.ok.0, c.in_ok-index.ensures.ok.1, refl); at = c.in_ok-index.ensures.at } in
    let r : SpillRow = spilled t.shape.key_types (row_at c.args.rows.now c.args.row) in
    let few : TakesOne t = subst (λ (x : Table). TakesOne x) (sym c.self.view_is) c.requires.few in
    let typed : IsRow t.shape.key_types t.shape.input_types r =
    subst (λ (x : Table). IsRow x.shape.key_types x.shape.input_types (spilled x.shape.key_types (row_at c.args.rows.now c.args.row))) (sym c.self.view_is) c.requires.typed in
    (one-few t u k c.in_ok-index.index covered r few typed refl).1

pub invariant_of-self-2 : goal.invariant_of-self-2
invariant_of-self-2 c =
    let t : Table = table_in c.self.inside in
    let u : Table = table_of c.cover_lent.new.keyed in
    let k : List ℕ = code t.shape.key_types (row_at c.args.rows.now c.args.row).key in
    let covered : Covered t u k c.in_ok-index.index = record { table = c.self.invariant; is = (c.in_ok-index.ensures.ok.0, c.in_ok-index.ensures.ok.1, refl); at = c.in_ok-index.ensures.at } in
    let r : SpillRow = spilled t.shape.key_types (row_at c.args.rows.now c.args.row) in
    let few : TakesOne t = subst (λ (x : Table). TakesOne x) (sym c.self.view_is) c.requires.few in
    let typed : IsRow t.shape.key_types t.shape.input_types r =
    subst (λ (x : Table). IsRow x.shape.key_types x.shape.input_types (spilled x.shape.key_types (row_at c.args.rows.now c.args.row))) (sym c.self.view_is) c.requires.typed in
    one-table t u k c.in_ok-index.index covered r few typed refl (table_of c.feed_lent.new.self) (c.in_ok-feed_lent.ensures.ok.0, c.in_ok-feed_lent.ensures.ok.1, refl)

pub returns-clause-holds : goal.returns-clause-holds
returns-clause-holds c =
    let t : Table = table_in c.self.inside in
    let u : Table = table_of c.cover_lent.new.keyed in
    let k : List ℕ = code t.shape.key_types (row_at c.args.rows.now c.args.row).key in
    let covered : Covered t u k c.in_ok-index.index = record { table = c.self.invariant; is = (c.in_ok-index.ensures.ok.0, c.in_ok-index.ensures.ok.1, refl); at = c.in_ok-index.ensures.at } in
    let r : SpillRow = spilled t.shape.key_types (row_at c.args.rows.now c.args.row) in
    let few : TakesOne t = subst (λ (x : Table). TakesOne x) (sym c.self.view_is) c.requires.few in
    let typed : IsRow t.shape.key_types t.shape.input_types r =
    subst (λ (x : Table). IsRow x.shape.key_types x.shape.input_types (spilled x.shape.key_types (row_at c.args.rows.now c.args.row))) (sym c.self.view_is) c.requires.typed in
    subst (λ (x : Table). (taken : List SpillRow) → Holds x.shape.prototypes x.groups taken → Holds x.shape.prototypes c.feed_lent.new.self.groups (taken ++ spilled x.shape.key_types (row_at c.args.rows.now c.args.row) ∷ [])) c.self.view_is
    (one-holds t u k c.in_ok-index.index covered r few typed refl (table_of c.feed_lent.new.self) (c.in_ok-feed_lent.ensures.ok.0, c.in_ok-feed_lent.ensures.ok.1, refl))

pub invariant_of-self-in_err-feed_lent : goal.invariant_of-self-in_err-feed_lent
invariant_of-self-in_err-feed_lent c =
    let t : Table = table_in c.self.inside in
    let u : Table = table_of c.cover_lent.new.keyed in
    let k : List ℕ = code t.shape.key_types (row_at c.args.rows.now c.args.row).key in
    let covered : Covered t u k c.in_ok-index.index = record { table = c.self.invariant; is = (c.in_ok-index.ensures.ok.0, c.in_ok-index.ensures.ok.1, refl); at = c.in_ok-index.ensures.at } in
    table-same u (table_of c.feed_lent.new.self) (covered-table t u k c.in_ok-index.index covered) (c.in_err-feed_lent.ensures.err.0, c.in_err-feed_lent.ensures.err.1, refl)
