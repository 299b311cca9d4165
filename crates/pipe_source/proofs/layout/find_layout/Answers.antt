use Rattle.std.proofs.Common.{◌≡◌, ◌∙◌, arith, rules}
use Rattle.csv.specs.Records.{fields_of}
use Rattle.pipe_source.proofs.LayoutFacts.{places-end, places-more, places-start, places-stop}
use Rattle.pipe_source.proofs.layout.find_layout.Goals as goal
