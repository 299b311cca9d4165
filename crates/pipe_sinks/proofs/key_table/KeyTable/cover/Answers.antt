use Rattle.std.proofs.Common.{◌∙◌, ℕ, List, refl, sym, ap, subst}
use Rattle.pipe_columns.specs.Key.{code}
use Rattle.pipe_inputs.specs.ChunkRows.{row_at}
use Rattle.pipe_spill.specs.KeyTypes.{AreOfTypes}
use Rattle.pipe_keyed.specs.Keyed.{IsAt}
use Rattle.pipe_sinks.specs.Marks.{IsSole}
use Rattle.pipe_sinks.specs.TableLayout.{table_in, table_of}
use Rattle.pipe_keyed.specs.Tables.{Table}
use Rattle.pipe_sinks.specs.Alike.{HoldAlike, KeysStay}
use Rattle.pipe_sinks.proofs.InsertFacts.{alike-covered, cover-stay, covered-table}
use Rattle.pipe_sinks.proofs.key_table.KeyTable.cover.Goals as goal

pub cover_lent-requires-clause-types : goal.cover_lent-requires-clause-types
cover_lent-requires-clause-types c = c.requires.types ∙ sym (ap (λ (t : Table). t.shape.key_types) c.self.view_is)

pub cover_lent-requires-clause-sole : goal.cover_lent-requires-clause-sole
cover_lent-requires-clause-sole c = subst (λ (t : Table). IsSole t.shape.key_types) (sym c.self.view_is) c.requires.sole

pub cover_lent-requires-clause-key : goal.cover_lent-requires-clause-key
cover_lent-requires-clause-key c = subst (λ (t : Table). AreOfTypes t.shape.key_types (row_at c.args.rows.now c.args.row).key) (sym c.self.view_is) c.requires.key

pub invariant_of-self-2 : goal.invariant_of-self-2
invariant_of-self-2 c =
    let t : Table = table_in c.self.inside in
    let u : Table = table_of c.cover_lent.new.keyed in
    let k : List ℕ = code t.shape.key_types (row_at c.args.rows.now c.args.row).key in
    covered-table t u k c.in_ok-index.index (record { table = c.self.invariant; is = (c.in_ok-index.ensures.ok.0, c.in_ok-index.ensures.ok.1, refl); at = c.in_ok-index.ensures.at })

pub returns-clause-alike : goal.returns-clause-alike
returns-clause-alike c =
    subst (λ (t : Table). HoldAlike t (table_of c.cover_lent.new.keyed)) c.self.view_is (alike-covered (table_in c.self.inside) (table_of c.cover_lent.new.keyed) _ (c.in_ok-index.ensures.ok.0, c.in_ok-index.ensures.ok.1, refl))

pub returns-clause-stay : goal.returns-clause-stay
returns-clause-stay c =
    subst (λ (t : Table). KeysStay t (table_of c.cover_lent.new.keyed)) c.self.view_is (cover-stay (table_in c.self.inside) (table_of c.cover_lent.new.keyed) _ (c.in_ok-index.ensures.ok.0, c.in_ok-index.ensures.ok.1, refl))

pub returns-clause-at : goal.returns-clause-at
returns-clause-at c =
    subst (λ (t : Table). IsAt c.cover_lent.new.keyed.groups (code t.shape.key_types (row_at c.args.rows.now c.args.row).key) c.in_ok-index.index) c.self.view_is c.in_ok-index.ensures.at
