-- What is known of a store of the program: that of a store in memory, or that of one in a file, which tells nothing.
use Rattle.std.specs.Prelude.{◌≡◌, ℕ, Bool, false, List, Option, None, Some, IsTrue, refl}
use Rattle.pipe_spill.specs.MemoryStore as memory
use Rattle.pipe_spill.specs.FileStore as file
use Rattle.pipe_spill.specs.Store.{HasHeld}
use Rattle.tool_stores.specs.declared.program_store.ProgramStore.{ProgramStore}
use Rattle.tool_stores.specs.declared.program_store.ProgramStore.TheVariants as store

-- the frames in the order of their puts
abbrev pub program_told : {R : Type 0} → ProgramStore R → Option (List (List ℕ))
program_told (store.Memory s) = memory.told_of s
program_told (store.Files s) = None

-- how many frames there are
abbrev pub program_held : {R : Type 0} → ProgramStore R → ℕ
program_held (store.Memory s) = memory.held_of s
program_held (store.Files s) = file.held_of s.frames

-- how many calls failed
abbrev pub program_faults : {R : Type 0} → ProgramStore R → ℕ
program_faults (store.Memory s) = memory.faults_of s
program_faults (store.Files s) = file.faults_of s.frames

-- whether it never fails
abbrev pub is_program_sure : {R : Type 0} → ProgramStore R → Bool
is_program_sure (store.Memory s) = memory.is_sure s
is_program_sure (store.Files s) = false

-- the path of its file; a store in memory has none
abbrev pub path_of : {R : Type 0} → ProgramStore R → Option (List ℕ)
path_of (store.Memory s) = None
path_of (store.Files s) = Some s.path

-- as many frames are told as are held
pub has_held : {R : Type 0} (s : ProgramStore R) → HasHeld (program_told s) (program_held s)
has_held (store.Memory s) = refl
has_held (store.Files s) = tt

-- a sure store has never failed
pub sure_never_failed : {R : Type 0} (s : ProgramStore R) → IsTrue (is_program_sure s) → program_faults s ≡ 0
sure_never_failed (store.Memory s) sure = memory.sure_never_failed s sure
sure_never_failed (store.Files s) sure = file.sure_never_failed s sure
