use Rattle.std.proofs.Common.{rules, ◌≡◌, [], false, List, map, refl, subst, sym, true}
use Rattle.std.specs.Prelude.{IfErr, IfOk, OnOk, Result}
use Rattle.std.specs.List.{sum_by}
use Rattle.pipe_columns.specs.declared.data_chunk.DataChunk.{DataChunk}
use Rattle.pipe_model.specs.Rows.{total_height}
use Rattle.pipe_global.specs.Partition.{PartitionSeen}
use Rattle.pipe_global.specs.declared.batch_error.BatchError.{BatchError}
use Rattle.pipe_run.specs.Ending.{IsAnswerCause}
use Rattle.pipe_asked.specs.Left.{CountOn}
use Rattle.pipe_run.specs.Fed.{FedSeen}
use Rattle.pipe_run.specs.Finish.{IsFinishCause}
use Rattle.pipe_run.specs.Setting.{run_over}
use Rattle.pipe_run.specs.Wholes.{IsRunWhole}
use Rattle.pipe_run.proofs.Endings.{answered-shut, few-shut, groups-cause, groups-left, round-cause, round-left, runnable-shut, unfailed-shut}
use Rattle.pipe_run.proofs.finish.finish_with.Goals as goal

pub returns-in-Err-clause-cause : goal.returns-in-Err-clause-cause
returns-in-Err-clause-cause g c =
    let x = c.args.begun.now in
    let taken : List DataChunk = map (λ m. m.value) c.args.chunks.now in
    let journals = map (λ (p : PartitionSeen). p.journal) c.args.closed.items in
    let seen = map (λ (p : PartitionSeen). p.store) c.args.closed.items in
    let s : FedSeen = record { setting = x; chunks = taken; journals = journals; stores = seen } in
    subst (IsFinishCause s (map (λ s. record { held = g.S.SpillStore.held s; told = g.S.SpillStore.told s; faults = g.S.SpillStore.faults s; sure = g.S.SpillStore.sure s; path = g.S.SpillStore.path s }) c.stores_of.result.items)) (sym c.error.ensures)
    (round-cause x taken journals seen s refl (map (λ s. record { held = g.S.SpillStore.held s; told = g.S.SpillStore.told s; faults = g.S.SpillStore.faults s; sure = g.S.SpillStore.sure s; path = g.S.SpillStore.path s }) c.stores_of.result.items)
    c.args.closed.items c.args.rested.items (total_height taken) c.requires.fed c.in-Err.closed.items c.in-Err.stop c.in-Err.ensures.back c.stores_of.ensures refl c.in-Err.ensures.store)

pub returns-in-Err-clause-back : goal.returns-in-Err-clause-back
returns-in-Err-clause-back g c =
    let x = c.args.begun.now in
    let taken : List DataChunk = map (λ m. m.value) c.args.chunks.now in
    let journals = map (λ (p : PartitionSeen). p.journal) c.args.closed.items in
    let seen = map (λ (p : PartitionSeen). p.store) c.args.closed.items in
    let s : FedSeen = record { setting = x; chunks = taken; journals = journals; stores = seen } in
    round-left x taken journals seen s refl (map (λ s. record { held = g.S.SpillStore.held s; told = g.S.SpillStore.told s; faults = g.S.SpillStore.faults s; sure = g.S.SpillStore.sure s; path = g.S.SpillStore.path s }) c.stores_of.result.items)
    c.args.closed.items c.args.rested.items (total_height taken) c.requires.fed c.in-Err.closed.items c.in-Err.ensures.back c.stores_of.ensures

pub answer_of_run-groups-requires-clause-run : goal.answer_of_run-groups-requires-clause-run
answer_of_run-groups-requires-clause-run g c κs within =
    let x = c.args.begun.now in
    let taken : List DataChunk = map (λ m. m.value) c.args.chunks.now in
    let journals = map (λ (p : PartitionSeen). p.journal) c.args.closed.items in
    let seen = map (λ (p : PartitionSeen). p.store) c.args.closed.items in
    let s : FedSeen = record { setting = x; chunks = taken; journals = journals; stores = seen } in
    runnable-shut x taken journals seen s refl []
    c.args.closed.items c.args.rested.items (total_height taken) c.requires.fed

pub returns-in-Err-groups-clause-cause : goal.returns-in-Err-groups-clause-cause
returns-in-Err-groups-clause-cause g c =
    let x = c.args.begun.now in
    let taken : List DataChunk = map (λ m. m.value) c.args.chunks.now in
    let journals = map (λ (p : PartitionSeen). p.journal) c.args.closed.items in
    let seen = map (λ (p : PartitionSeen). p.store) c.args.closed.items in
    let s : FedSeen = record { setting = x; chunks = taken; journals = journals; stores = seen } in
    let after = c.answer_of_run-groups.result.1.items in
    let cause : IsAnswerCause (run_over x false taken) c.in-Ok.ended.closed.items after c.in-Err-groups.error =
    subst (λ (r : Result _ BatchError). IfErr r (λ e. IsAnswerCause (run_over x false taken) c.in-Ok.ended.closed.items after e)) c.in-Err-groups.is c.answer_of_run-groups.ensures.cause in
    subst (IsFinishCause s (map (λ s. record { held = g.S.SpillStore.held s; told = g.S.SpillStore.told s; faults = g.S.SpillStore.faults s; sure = g.S.SpillStore.sure s; path = g.S.SpillStore.path s }) c.stores_of-in-Err-groups.result.items)) (sym c.of_groups.ensures)
    (groups-cause x taken journals seen s refl (map (λ s. record { held = g.S.SpillStore.held s; told = g.S.SpillStore.told s; faults = g.S.SpillStore.faults s; sure = g.S.SpillStore.sure s; path = g.S.SpillStore.path s }) c.stores_of-in-Err-groups.result.items)
    c.args.closed.items c.args.rested.items (total_height taken) c.requires.fed c.in-Ok.ended.closed.items c.answer_of_run-groups.result.1.items c.in-Ok.ensures.whole c.answer_of_run-groups.ensures.kept c.in-Err-groups.error c.stores_of-in-Err-groups.ensures refl c.in-Ok.ensures.counted cause)

pub returns-in-Err-groups-clause-back : goal.returns-in-Err-groups-clause-back
returns-in-Err-groups-clause-back g c =
    let x = c.args.begun.now in
    let taken : List DataChunk = map (λ m. m.value) c.args.chunks.now in
    let journals = map (λ (p : PartitionSeen). p.journal) c.args.closed.items in
    let seen = map (λ (p : PartitionSeen). p.store) c.args.closed.items in
    let s : FedSeen = record { setting = x; chunks = taken; journals = journals; stores = seen } in
    groups-left x taken journals seen s refl (map (λ s. record { held = g.S.SpillStore.held s; told = g.S.SpillStore.told s; faults = g.S.SpillStore.faults s; sure = g.S.SpillStore.sure s; path = g.S.SpillStore.path s }) c.stores_of-in-Err-groups.result.items)
    c.args.closed.items c.args.rested.items (total_height taken) c.requires.fed c.in-Ok.ended.closed.items c.answer_of_run-groups.result.1.items c.in-Ok.ensures.whole c.answer_of_run-groups.ensures.kept c.stores_of-in-Err-groups.ensures

pub parts_of-journals-requires-clause-few : goal.parts_of-journals-requires-clause-few
parts_of-journals-requires-clause-few g c =
    let x = c.args.begun.now in
    let taken : List DataChunk = map (λ m. m.value) c.args.chunks.now in
    let journals = map (λ (p : PartitionSeen). p.journal) c.args.closed.items in
    let seen = map (λ (p : PartitionSeen). p.store) c.args.closed.items in
    let s : FedSeen = record { setting = x; chunks = taken; journals = journals; stores = seen } in
    few-shut x taken journals seen s refl []
    c.args.closed.items c.args.rested.items (total_height taken) c.requires.fed c.in-Ok.ended.closed.items c.answer_of_run-groups.result.1.items c.in-Ok.ensures.whole c.answer_of_run-groups.ensures.kept

pub returns-clause-answered : goal.returns-clause-answered
returns-clause-answered g c =
    let x = c.args.begun.now in
    let taken : List DataChunk = map (λ m. m.value) c.args.chunks.now in
    let journals = map (λ (p : PartitionSeen). p.journal) c.args.closed.items in
    let seen = map (λ (p : PartitionSeen). p.store) c.args.closed.items in
    let s : FedSeen = record { setting = x; chunks = taken; journals = journals; stores = seen } in
    let after = c.answer_of_run-groups.result.1.items in
    let named : c.new.result ≡ map (λ (p : PartitionSeen). p.journal) after = search rules in
    let count : c.parts_of-journals.result.arrived ≡ sum_by (λ (p : PartitionSeen). p.arrived) after = search rules in
    let is = g.F.Form.is c.args.form.now in
    let told : IsRunWhole is (run_over x false taken) c.in-Ok-groups.whole =
    subst (λ (r : Result _ BatchError). IfOk r (IsRunWhole is (run_over x false taken))) c.in-Ok-groups.is c.answer_of_run-groups.ensures.answer in
    record {
      frame = told.frame;
      fits = told.fits;
      is = told.is;
      answered = answered-shut x taken journals seen s refl (map (λ s. record { held = g.S.SpillStore.held s; told = g.S.SpillStore.told s; faults = g.S.SpillStore.faults s; sure = g.S.SpillStore.sure s; path = g.S.SpillStore.path s }) c.parts_of-journals.result.stores.items)
          c.args.closed.items c.args.rested.items (total_height taken) c.requires.fed c.in-Ok.ended.closed.items c.answer_of_run-groups.result.1.items c.in-Ok.ensures.whole c.answer_of_run-groups.ensures.kept told.frame c.new.result c.parts_of-journals.result.arrived c.parts_of-journals.ensures.stores named count told.answer;
    }

pub answer_of_run-groups-requires-clause-takes : goal.answer_of_run-groups-requires-clause-takes
answer_of_run-groups-requires-clause-takes g c = λ κs lives. c.requires.takes

pub round-requires-clause-generic : goal.round-requires-clause-generic
round-requires-clause-generic g c = λ κs lives. c.requires.fed.generic

pub round-requires-clause-fed : goal.round-requires-clause-fed
round-requires-clause-fed g c = λ κs lives. c.requires.fed.fed

pub returns-clause-unfailed : goal.returns-clause-unfailed
returns-clause-unfailed g c =
    let x = c.args.begun.now in
    let taken : List DataChunk = map (λ m. m.value) c.args.chunks.now in
    let journals = map (λ (p : PartitionSeen). p.journal) c.args.closed.items in
    let seen = map (λ (p : PartitionSeen). p.store) c.args.closed.items in
    let s : FedSeen = record { setting = x; chunks = taken; journals = journals; stores = seen } in
    let after = c.answer_of_run-groups.result.1.items in
    let calm : CountOn c.in-Ok.ended.closed.items after =
    subst (λ (r : Result _ BatchError). OnOk r (CountOn c.in-Ok.ended.closed.items after)) c.in-Ok-groups.is c.answer_of_run-groups.ensures.calm in
    unfailed-shut x taken journals seen s refl (map (λ s. record { held = g.S.SpillStore.held s; told = g.S.SpillStore.told s; faults = g.S.SpillStore.faults s; sure = g.S.SpillStore.sure s; path = g.S.SpillStore.path s }) c.parts_of-journals.result.stores.items)
    c.args.closed.items c.args.rested.items (total_height taken) c.requires.fed c.in-Ok.ended.closed.items after c.in-Ok.ensures.whole c.answer_of_run-groups.ensures.kept c.parts_of-journals.ensures.stores refl c.in-Ok.ensures.counted calm
