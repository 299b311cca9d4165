-- What is known of a store of a run: that of one in memory, or that of one in a file, which tells nothing.
use Rattle.std.specs.Prelude.{◌≡◌, ℕ, Bool, false, List, Option, None, Some, IsTrue, refl}
use Rattle.pipe_spill.specs.MemoryStore as memory
use Rattle.pipe_spill.specs.FileStore as file
use Rattle.pipe_spill.specs.Store.{HasHeld}
use Rattle.lavzimo_stores.specs.declared.own_store.OwnStore.{OwnStore}
use Rattle.lavzimo_stores.specs.declared.own_store.OwnStore.TheVariants as store

-- the frames in the order of their puts
abbrev pub own_told : {R : Type 0} → OwnStore R → Option (List (List ℕ))
own_told (store.Memory s) = memory.told_of s
own_told (store.Unnamed s) = None

-- how many frames there are
abbrev pub own_held : {R : Type 0} → OwnStore R → ℕ
own_held (store.Memory s) = memory.held_of s
own_held (store.Unnamed s) = file.held_of s.frames

-- how many calls failed
abbrev pub own_faults : {R : Type 0} → OwnStore R → ℕ
own_faults (store.Memory s) = memory.faults_of s
own_faults (store.Unnamed s) = file.faults_of s.frames

-- whether it never fails
abbrev pub is_own_sure : {R : Type 0} → OwnStore R → Bool
is_own_sure (store.Memory s) = memory.is_sure s
is_own_sure (store.Unnamed s) = false

-- the path of its file: one in memory has none, and a file without a name has none either
abbrev pub own_path : {R : Type 0} → OwnStore R → Option (List ℕ)
own_path s = None

-- the path by which its file is made, before what tells apart who makes it; one in memory has no file
abbrev pub file_of : {R : Type 0} → OwnStore R → Option (List ℕ)
file_of (store.Memory s) = None
file_of (store.Unnamed s) = Some s.path

-- as many frames are told as are held
pub has_held : {R : Type 0} (s : OwnStore R) → HasHeld (own_told s) (own_held s)
has_held (store.Memory s) = refl
has_held (store.Unnamed s) = tt

-- a sure store has never failed
pub sure_never_failed : {R : Type 0} (s : OwnStore R) → IsTrue (is_own_sure s) → own_faults s ≡ 0
sure_never_failed (store.Memory s) sure = memory.sure_never_failed s sure
sure_never_failed (store.Unnamed s) sure = file.sure_never_failed s sure
