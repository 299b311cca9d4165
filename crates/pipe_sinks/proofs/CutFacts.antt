-- Rows that are cut into runs, one by one.
use Rattle.std.proofs.Common.{◌≡◌, ◌∙◌, ℕ, ◌+◌, ◌-◌, ◌<◌, ◌≤◌, List, [], ◌∷◌, ◌++◌, length, drop, get_or, refl, sym, ap, subst}
use Rattle.std.proofs.lemmas.List.{drop_all, drop_more}
use Rattle.pipe_columns.specs.Key.{code}
use Rattle.pipe_columns.specs.Row.{Row}
use Rattle.pipe_inputs.specs.ChunkRows.{row_at}
use Rattle.pipe_groups.specs.Shape.{Shape}
use Rattle.pipe_sinks.specs.declared.key_runs.KeyRun.{KeyRun}
use Rattle.pipe_sinks.specs.KeyCuts.{AreCut}
use Rattle.pipe_keyed.specs.Keyed.{IsAt}
use Rattle.pipe_sinks.specs.KeyRuns.{IsRun}
use Rattle.pipe_keyed.specs.Tables.{Table}
use Rattle.pipe_sinks.specs.Alike.{KeysStay}

-- what stands for a run past the last
abbrev pub no_run : KeyRun
no_run = record { group = 0; end = 0 }

-- runs stay cut where the groups stay
pub cut-stay : (t u : Table) (rows : List Row) (a b : ℕ) (rs : List KeyRun) → u.shape ≡ t.shape → KeysStay t u → AreCut t rows a rs b → AreCut u rows a rs b
cut-stay t u rows a b [] shape stay h = h
cut-stay t u rows a b (r ∷ rs) shape stay h = (
  h.0,
  subst (λ (s : Shape). IsRun s rows a (r.end - a)) (sym shape) h.1,
  subst (λ (s : Shape). IsAt u.groups (code s.key_types (row_at rows a).key) r.group) (sym shape) (stay _ _ h.2),
  cut-stay t u rows r.end b rs shape stay h.3,
)

-- one run more
pub cut-push : (t : Table) (rows : List Row) (a b : ℕ) (rs : List KeyRun) (r : KeyRun) → AreCut t rows a rs b → b < r.end → IsRun t.shape rows b (r.end - b)
    → IsAt t.groups (code t.shape.key_types (row_at rows b).key) r.group → AreCut t rows a (rs ++ r ∷ []) r.end
cut-push t rows a b [] r h lt run at = rw h (lt, run, at, refl)
cut-push t rows a b (x ∷ rs) r h lt run at = (h.0, h.1, h.2, cut-push t rows x.end b rs r h.3 lt run at)

-- the next run
pub cut-next : (t : Table) (rows : List Row) (row to : ℕ) (rs : List KeyRun) (i : ℕ) (r : KeyRun) → i < length rs → r ≡ get_or rs i r → AreCut t rows row (drop i rs) to → AreCut t rows row (r ∷ drop (i + 1) rs) to
cut-next t rows row to rs i r lt is h = subst (λ (l : List KeyRun). AreCut t rows row l to) (drop_more rs i r lt ∙ ap (λ (x : KeyRun). x ∷ drop (i + 1) rs) (sym is)) h

-- no run is left
pub cut-end : (t : Table) (rows : List Row) (row to : ℕ) (rs : List KeyRun) (i : ℕ) → length rs ≤ i → AreCut t rows row (drop i rs) to → row ≡ to
cut-end t rows row to rs i le h = subst (λ (l : List KeyRun). AreCut t rows row l to) (drop_all i rs le) h
