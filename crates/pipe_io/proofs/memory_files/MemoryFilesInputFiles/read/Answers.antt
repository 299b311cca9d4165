use Rattle.std.proofs.Common.{rules, ap, ◌≡◌, ◌∙◌, ◌-◌, min, drop, take, Some, true, is_some, length, option_and_then}
use Rattle.pipe_io.specs.FilePlace.{file_rest}
use Rattle.pipe_io.specs.MemoryFiles.{begun_of}
use Rattle.pipe_io.proofs.MemoryFacts.{begun-there, copied}
use Rattle.pipe_io.proofs.memory_files.MemoryFilesInputFiles.read.Goals as goal

pub returns-clause-bytes : goal.returns-clause-bytes
returns-clause-bytes c =
    let files = c.self.inside.files.items in
    let at = c.self.inside.at in
    let place = c.unwrap-place.result in
    let file = c.index.result.now in
    let room = length c.args.into.now in
    let given = c.copy_front-count.new.into in
    let n = c.copy_front-count.result in
    let current : c.self.inside.current ≡ Some place = search rules in
    let begun : is_some (option_and_then (file_rest files at) c.self.inside.current) ≡ true = ap begun_of c.self.view_is ∙ c.requires.started in
    let here = begun-there files at place file (rw current at begun) c.index.ensures in
    let count : n ≡ min (length file.1.items - at) room = search rules in
    let same : take n given ≡ take n (drop at file.1.items) = search rules in
    let took = copied files at place n room given file here count c.requires.room same in
    rw (← c.self.view_is, current) (took.0, λ e _. took.1 e)
