use Rattle.std.proofs.Common.{◌∙◌, ◌++◌, ◌∷◌, [], Option, None, Some, subst, sym}
use Rattle.crossbeam_channel.specs.Claims.{view}
use Rattle.pipe_writer.specs.Arrivals.{list_of}
use Rattle.pipe_writer.specs.Sender.{SenderSeen}
use Rattle.pipe_writer.specs.Sent.{numbered}
use Rattle.pipe_writer.specs.Sink.{IsSunk}
use Rattle.pipe_writer.proofs.ArrivedFacts.{one-whole, two-whole}
use Rattle.pipe_writer.proofs.SunkFacts.{sizes-are, sunk}
use Rattle.pipe_writer.proofs.ruled_files_sink.RuledFilesSink.sunk.Goals as goal

pub returns-in-None : goal.returns-in-None
returns-in-None g c =
    let w = g.W.SinkWriter in
    let s = c.args.self in
    let p = c.parted-first_way.ensures in
    let rest = c.parted-first_way.result.1 in
    let got = (view c.received.result.receiving.pass).got in
    record {
      sunk = subst (λ (second : Option SenderSeen). IsSunk w.told w.faults (w.text (w.format s.made_of)) s (c.args.first ∷ list_of second) c.into_end.result) (sym c.in-None.is)
          (sunk w s (c.args.first ∷ []) c.put_rest.new.self c.into_end.result (got ++ numbered rest.sender rest.first rest.chunks.items)
          (c.into_end.ensures s.made_of s.maintain_order s.morsels _ (c.put_rest.ensures.wrote s.made_of s.maintain_order s.morsels got (rw c.into_writing-writing.ensures c.received.ensures.wrote)))
          (one-whole _ rest.chunks.items c.args.first.list got rest.sender rest.first c.received.ensures.whole (p.sender ∙ c.requires.senders.0) p.first p.list)
          (sizes-are c.args.first None p.sent tt));
    }

pub returns-in-Some : goal.returns-in-Some
returns-in-Some g c =
    let w = g.W.SinkWriter in
    let s = c.args.self in
    let p = c.parted-first_way.ensures in
    let rest = c.parted-first_way.result.1 in
    let q = c.parted-second_way.ensures in
    let rest2 = c.parted-second_way.result.1 in
    let got = (view c.received-in-Some.result.receiving.pass).got in
    let are = rw c.in-Some.is at c.requires.senders in
    record {
      sunk = subst (λ (second : Option SenderSeen). IsSunk w.told w.faults (w.text (w.format s.made_of)) s (c.args.first ∷ list_of second) c.into_end-in-Some.result) (sym c.in-Some.is)
          (sunk w s (c.args.first ∷ c.in-Some.second ∷ []) c.put_rest-in-Some-2.new.self c.into_end-in-Some.result
          ((got ++ numbered rest.sender rest.first rest.chunks.items) ++ numbered rest2.sender rest2.first rest2.chunks.items)
          (c.into_end-in-Some.ensures s.made_of s.maintain_order s.morsels _ (c.put_rest-in-Some-2.ensures.wrote s.made_of s.maintain_order s.morsels _
          (c.put_rest-in-Some.ensures.wrote s.made_of s.maintain_order s.morsels got (rw c.into_writing-writing-in-Some.ensures c.received-in-Some.ensures.wrote))))
          (two-whole _ rest.chunks.items c.args.first.list _ rest2.chunks.items c.in-Some.second.list got rest.sender rest.first rest2.sender rest2.first
          c.received-in-Some.ensures.whole (p.sender ∙ c.requires.senders.0) p.first p.list (q.sender ∙ are.3.0) q.first q.list)
          (sizes-are c.args.first (Some c.in-Some.second) p.sent q.sent));
    }
