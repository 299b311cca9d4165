use Rattle.pipe_writer.proofs.receiving.Receiving.next_way.Given as goal

abbrev pub ghosts-another : goal.ghosts-another
ghosts-another a = record { fields = a.schema.now }
