-- The folder's name, and what stands behind it.
use Rattle.std.proofs.Common.{rules, ◌≡◌, ◌≢◌, ◌++◌, [], ◌∷◌, ℕ, List, IfOk, string_bytes, refl, sym, ◌∙◌, append_assoc}
use Rattle.std.specs.Prelude.{codes}
use Rattle.std.specs.Fmt.{decimal}
use Rattle.pipe_spill.specs.FileStore.{path_in}
use Rattle.pipe_spill.proofs.file_store.path_in.Goals as goal

-- the path in a folder that has a name
named : (dir : List ℕ) (partition : ℕ) → dir ≢ [] → dir ++ (codes "/partition-" ++ (decimal partition ++ codes ".spill")) ≡ path_in dir partition
named [] partition n = absurd (n refl)
named (b ∷ name) partition n =
    let front : List ℕ = (b ∷ name) ++ codes "/partition-" in
    sym (append_assoc (b ∷ name) (codes "/partition-") (decimal partition ++ codes ".spill")) ∙ sym (append_assoc front (decimal partition) (codes ".spill"))

pub returns : goal.returns
returns c =
    let some : c.args.dir.now ≢ [] = search rules in
    let text : IfOk c.format.result (λ s. string_bytes s ≡ c.args.dir.now ++ (codes "/partition-" ++ (decimal c.args.partition ++ codes ".spill"))) = search rules in
    rw (named c.args.dir.now c.args.partition some) at text
