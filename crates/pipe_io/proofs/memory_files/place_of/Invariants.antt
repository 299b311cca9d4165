use Rattle.std.proofs.Common.{◌≡◌, drop}
use Rattle.pipe_io.specs.Files.{file_of}
use Rattle.pipe_io.specs.MemoryFiles.{entries}
use Rattle.pipe_io.proofs.memory_files.place_of.Given as goal

-- the files before this one have other names
abbrev pub invariant-loop-i : goal.invariant-loop-i
invariant-loop-i l = file_of (entries l.files) l.name ≡ file_of (entries (drop l.i l.files)) l.name
