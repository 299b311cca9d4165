use Rattle.std.proofs.Common.{◌∙◌, ◌∷◌, [], List, ap, rules, subst, sym}
use Rattle.pipe_columns.specs.declared.data_chunk.DataChunk.{DataChunk}
use Rattle.crossbeam_channel.specs.Claims.{view}
use Rattle.pipe_writer.specs.Carries.{AreWhole}
use Rattle.pipe_writer.specs.Sender.{first_chunks}
use Rattle.pipe_writer.specs.Wrote.{HasRun, Wrote}
use Rattle.pipe_writer.specs.declared.message.SentChunk.{SentChunk}
use Rattle.pipe_writer.proofs.LineFacts.{unled-are}
use Rattle.pipe_writer.proofs.ruled_files_sink.RuledFilesSink.begin.Goals as goal

pub invariant_of-sink-in-Err : goal.invariant_of-sink-in-Err
invariant_of-sink-in-Err g c =
    let a = c.args in
    let unled = c.unled-first_way.ensures in
    let received = c.received-writer.ensures in
    let ran : HasRun {kind = g.W.SinkWriter} (record { receiving = a.line.receiving; writing = c.new-writing.result }) c.spawn_with-in-Err.result = search rules in
    let at_first = subst (λ (came : List SentChunk). Wrote {kind = g.W.SinkWriter} a.writer a.maintain_order a.morsels_per_sink c.new-writing.result came) (sym c.requires.line.waits.none_got)
    c.new-writing.ensures.wrote in
    let first_none = ap (λ v. first_chunks v.sent) c.end.ensures.same ∙ unled.none in (
      c.requires.one,
      c.requires.two,
      record {
        whole = subst (λ (lists : List (List DataChunk)). AreWhole lists (view c.received-writer.result.receiving.pass).got) (λ i. first_none i ∷ unled.second_none i ∷ []) received.whole;
        wrote = rw c.of-made_of.ensures (received.wrote a.writer a.maintain_order a.morsels_per_sink (ran.wrote a.writer a.maintain_order a.morsels_per_sink at_first));
      },
    )

pub returns-in-Err-clause-senders : goal.returns-in-Err-clause-senders
returns-in-Err-clause-senders g c =
    let line = c.requires.line in
    let unled = c.unled-first_way.ensures in
    unled-are _ c.args.senders _ c.args.line.first c.args.line.second line.first line.second line.count _ _ c.gathered-in-Err.result.items unled.first unled.second c.gathered-in-Err.ensures
    _ (ap (λ v. g.W.SinkWriter.fields (g.W.SinkWriter.format v)) c.of-made_of.ensures)
