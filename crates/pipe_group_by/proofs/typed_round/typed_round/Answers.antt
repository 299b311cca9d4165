use Rattle.std.proofs.Common.{rules, ◌≡◌, ◌∙◌, ◌++◌, ◌<◌, ℕ, false, List, ap, arith, length, map, subst, sym, vec_len}
use Rattle.std.specs.List.{slice_index_or}
use Rattle.std.proofs.lemmas.List.{length-map}
use Rattle.pipe_columns.specs.declared.data_chunk.DataChunk.{DataChunk}
use Rattle.pipe_sinks.specs.Runs.{with_taken}
use Rattle.pipe_group_by.specs.Jobs.{SinkJobSeen, MayWork}
use Rattle.pipe_group_by.specs.Positions.{numbered, turns_of}
use Rattle.pipe_group_by.specs.Taken.{HaveTaken}
use Rattle.pipe_group_by.proofs.Rounds.{gathered, jobs-may}
use Rattle.pipe_group_by.proofs.typed_round.typed_round.Goals as goal

pub work_all-jobs-requires-clause-may : goal.work_all-jobs-requires-clause-may
work_all-jobs-requires-clause-may g c κs within k d lt =
    let before : List DataChunk = map (λ m. m.value) c.args.before.now in
    let high : vec_len c.args.sinks ≡ length c.args.sinks.items = search rules in
    let count : vec_len c.in_ok-jobs.jobs ≡ length c.in_ok-jobs.jobs.items = search rules in
    let taken = subst (λ n. HaveTaken c.args.query.now c.args.partitions n before c.args.sinks.items) high c.requires.ready in
    let positions : numbered (length before) c.args.chunks.now ≡ c.args.chunks.now = ap (λ i. numbered i c.args.chunks.now) (length-map c.args.before.now (λ m. m.value)) ∙ c.requires.positions in
    subst (λ n. MayWork n k before c.args.chunks.now (slice_index_or c.in_ok-jobs.jobs.items k d).sink) (sym count)
    (jobs-may c.args.query.now c.args.partitions before c.args.chunks.now c.args.sinks.items c.in_ok-jobs.jobs.items c.in_ok-jobs.ensures taken positions c.requires.asked k d (omega (arith, lt, count)))

pub returns : goal.returns
returns g c =
    let before : List DataChunk = map (λ m. m.value) c.args.before.now in
    let high : vec_len c.args.sinks ≡ length c.args.sinks.items = search rules in
    let count : vec_len c.in_ok-jobs.jobs ≡ length c.in_ok-jobs.jobs.items = search rules in
    let done : vec_len c.work_all-jobs.result ≡ length c.work_all-jobs.result.items = search rules in
    let taken = subst (λ n. HaveTaken c.args.query.now c.args.partitions n before c.args.sinks.items) high c.requires.ready in
    let worked : (k : ℕ) (d : SinkJobSeen) → k < length c.work_all-jobs.result.items → (slice_index_or c.work_all-jobs.result.items k d).refused ≡ false
    → (slice_index_or c.work_all-jobs.result.items k d).sink ≡ with_taken (turns_of (length c.in_ok-jobs.jobs.items) k (before ++ c.args.chunks.now)) (slice_index_or c.in_ok-jobs.jobs.items k d).sink =
    λ k d lt on. c.work_all-jobs.ensures.worked k d (omega (arith, lt, done)) on ∙ ap (λ n. with_taken (turns_of n k (before ++ c.args.chunks.now)) (slice_index_or c.in_ok-jobs.jobs.items k d).sink) count in
    gathered c.args.query.now c.args.partitions before c.args.chunks.now c.args.sinks.items c.in_ok-jobs.jobs.items c.in_ok-jobs.ensures taken c.work_all-jobs.result.items (omega (arith, c.work_all-jobs.ensures.len, count, done)) worked
    (vec_len c.args.sinks) high c.gather.result c.gather.ensures.sinks c.gather.ensures.gone_on
