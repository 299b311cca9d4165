use Rattle.pipe_sinks.proofs.add_chunk.add_through.Goals as goal

pub combine-requires-clause-few : goal.combine-requires-clause-few
combine-requires-clause-few c = c.requires.few c.add_chunk.new.table c.add_chunk.ensures.types c.in_ok-add_chunk.ensures.holds
