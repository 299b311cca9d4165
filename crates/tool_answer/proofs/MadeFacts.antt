-- How a run over generated rows ends.
use Rattle.std.proofs.Common.{◌≡◌, ◌<◌, ℕ, true, false, List, [], refl, subst, arith, inl, inr, Option, None}
use Rattle.std.specs.Prelude.{◌⊎◌, IsTrue}
use Rattle.std.specs.List.{All, slice_index_or}
use Rattle.pipe_aggs.specs.declared.query.Query.{Query}
use Rattle.pipe_aggs.specs.QueryTrees.{query_tree}
use Rattle.pipe_columns.specs.Causes.{Rose}
use Rattle.pipe_global.specs.Partition.{no_store}
use Rattle.pipe_io.specs.Files.{Files}
use Rattle.pipe_io.specs.Output.{WroteFront}
use Rattle.pipe_model.specs.Query.{QueryTree}
use Rattle.pipe_plan.specs.declared.event.PartitionEvent.{PartitionEvent}
use Rattle.pipe_plan.specs.Run.{StoreSeen}
use Rattle.pipe_run.specs.Answered.{HaveWholeFrames, IsAnswered}
use Rattle.pipe_run.specs.Fed.{FedSeen}
use Rattle.pipe_run.specs.Finish.{IsFinishCause}
use Rattle.pipe_run.specs.Refusals.{AllHaveFields}
use Rattle.pipe_run.specs.Setting.{run_over, Setting}
use Rattle.pipe_run.specs.declared.error.PipeError.{PipeError}
use Rattle.pipe_run.specs.declared.error.PipeError.TheVariants as pipe_error
use Rattle.pipe_run.specs.declared.output.GroupByOutput.{GroupByOutput}
use Rattle.pipe_words.specs.Plans.{PlanSeen}
use Rattle.tool_made.specs.Made.{made}
use Rattle.tool_made.specs.MadeQuery.{made_tree}
use Rattle.tool_made.specs.declared.made.Made.{Made}
use Rattle.tool_run.specs.Answering as run
use Rattle.tool_run.specs.MadeLines.{made_lines}
use Rattle.tool_words.specs.Asked.{makes}
use Rattle.tool_answer.specs.Asking.{asked_run}
use Rattle.tool_answer.specs.Ended.{IsSoundStore}
use Rattle.tool_answer.specs.Faults.{IsCaused}
use Rattle.tool_answer.specs.Headline.{HaveFront, IsBegun}
use Rattle.tool_answer.specs.Inside.{IsOfBegun, IsOfStores, run_fault}
use Rattle.tool_answer.specs.MadeRun.{HasMadeLines, HasMadeRun}
use Rattle.tool_answer.proofs.RunFacts.{all-sound, Began, frame-caused, HaveFrames, replayed-are, store-caused, whole-are}

-- ---- a run that was answered

pub has-made : (p : PlanSeen) (q : Query) (m : Made) (new stores : List StoreSeen) (s : FedSeen) (out : GroupByOutput)
    → Began p q new s → query_tree q ≡ made_tree → IsAnswered (run_over s.setting false (made m)) out stores → HasMadeRun p m out stores
has-made p q m new stores s out began is answered = record {
  new = new;
  are_made = began.new;
  count = began.count;
  paths = began.paths;
  answered = subst (λ (t : QueryTree). IsAnswered (asked_run p t false (made m) new) out stores) is
      (subst (λ (y : Setting). IsAnswered (run_over y false (made m)) out stores) began.setting answered);
}

-- without a folder its stores are sound
pub has-made-sound : (p : PlanSeen) (m : Made) (out : GroupByOutput) (stores : List StoreSeen) → HasMadeRun p m out stores
    → All (λ (x : StoreSeen). IsTrue x.sure → x.faults ≡ 0) stores → p.spill_dir ≡ None → All IsSoundStore stores
has-made-sound p m out stores run never =
    all-sound p made_tree false (made m) run.new stores run.are_made run.count (replayed-are (asked_run p made_tree false (made m) run.new) out stores run.answered) never

pub has-lines : (p : PlanSeen) (m : Made) (out : GroupByOutput) (stores : List StoreSeen) → HasMadeRun p m out stores
    → HasMadeLines p m out.journals stores (made_lines m.rows out)
has-lines p m out stores run = record { out = out; run = run; journals_are = refl; text_is = refl }

-- what was written of it is a front
pub lines-begun : {O : Type 0} (old new : O) (told : O → Option (List ℕ)) (p : PlanSeen) (m : Made) (files : Option Files) (journals : List (List PartitionEvent)) (stores : List StoreSeen) (text : List ℕ)
    → HasMadeLines p m journals stores text → (new ≡ old) ⊎ WroteFront (told old) (told new) text → (new ≡ old) ⊎ IsBegun (makes p m) files (told old) (told new) journals stores
lines-begun old new told p m files journals stores text has (inl same) = inl same
lines-begun old new told p m files journals stores text has (inr front) = inr (text, has, front)

-- ---- a run that stopped

-- one that was fed nothing
pub made-none : (m : Made) → run.AreFedMade m true []
made-none m = record { rest = made m; is = refl }

module _ (p : PlanSeen) (q : Query) (m : Made) (is : query_tree q ≡ made_tree) (new stores : List StoreSeen) (s : FedSeen) (began : Began p q new s) (back : run.HaveFront s.setting (run.AreFedMade m) stores) where
  whole : HaveWholeFrames (asked_run p made_tree back.is_open back.chunks new) stores
  whole =
      let begun : HaveWholeFrames (asked_run p (query_tree q) back.is_open back.chunks new) stores = subst (λ (x : Setting). HaveWholeFrames (run_over x back.is_open back.chunks) stores) began.setting back.frames in
      subst (λ (t : QueryTree). HaveWholeFrames (asked_run p t back.is_open back.chunks new) stores) is begun

  have : HaveFrames (asked_run p made_tree back.is_open back.chunks new) stores
  have = whole-are (asked_run p made_tree back.is_open back.chunks new) stores whole

  fit : AllHaveFields made_tree.schema back.chunks
  fit = subst (λ (t : QueryTree). AllHaveFields t.schema back.chunks) is (subst (λ (x : Setting). AllHaveFields x.query.schema back.chunks) began.setting back.fit)

  -- its stores have whole frames
  pub made-front : HaveFront p made_tree (run.AreFedMade m) stores
  made-front = record { made = new; are_made = began.new; count = began.count; paths = began.paths; chunks = back.chunks; is_open = back.is_open; fed = back.fed; fit = fit; frames = whole }

  -- without a folder they are sound
  pub made-sound : All (λ (x : StoreSeen). IsTrue x.sure → x.faults ≡ 0) stores → p.spill_dir ≡ None → All IsSoundStore stores
  made-sound never = all-sound p made_tree back.is_open back.chunks new stores began.new began.count have never

  -- it stopped for a store, or for want of memory
  rose-above : (before now : ℕ) → Rose before now → 0 < now
  rose-above before now rose = omega (arith, rose)

  pub made-caused : (told : Option Files) (never : All (λ (x : StoreSeen). IsTrue x.sure → x.faults ≡ 0) stores) (e : PipeError)
      → IsFinishCause s stores e → IsCaused (run_fault e) (makes p m) told stores
  made-caused told never (pipe_error.Store k) end =
      store-caused p made_tree back.is_open back.chunks new stores began.new began.count have never k end.exists (rose-above _ _ end.rose)
  made-caused told never (pipe_error.Damaged k n) end =
      frame-caused p made_tree back.is_open back.chunks new stores began.new began.count have never k n end.0
      (subst (λ (x : Setting). (slice_index_or x.stores k no_store).told ≡ None) began.setting end.1.untold) end.1.last
  made-caused told never pipe_error.Memory end = tt
  made-caused told never pipe_error.Limits end = absurd end
  made-caused told never (pipe_error.Query f) end = absurd end
  made-caused told never pipe_error.Sink end = absurd end
  made-caused told never (pipe_error.Schema i) end = absurd end
  made-caused told never pipe_error.TooLarge end = absurd end

-- an error of a run that was fed is one of a run that was begun
pub end-begun : (s : FedSeen) (stores : List StoreSeen) (e : PipeError) → IsFinishCause s stores e → IsOfBegun e
end-begun s stores (pipe_error.Store k) end = tt
end-begun s stores (pipe_error.Damaged k n) end = tt
end-begun s stores pipe_error.Memory end = tt
end-begun s stores pipe_error.Limits end = absurd end
end-begun s stores (pipe_error.Query f) end = absurd end
end-begun s stores pipe_error.Sink end = absurd end
end-begun s stores (pipe_error.Schema i) end = absurd end
end-begun s stores pipe_error.TooLarge end = absurd end

-- and its fault is one of stores, or of memory
pub begun-fault : (e : PipeError) → IsOfBegun e → IsOfStores (run_fault e)
begun-fault (pipe_error.Store k) is = tt
begun-fault (pipe_error.Damaged k n) is = tt
begun-fault pipe_error.Memory is = tt
begun-fault pipe_error.Limits is = absurd is
begun-fault (pipe_error.Query f) is = absurd is
begun-fault pipe_error.Sink is = absurd is
begun-fault (pipe_error.Schema i) is = absurd is
begun-fault pipe_error.TooLarge is = absurd is
