-- Files in memory: the search for a name, and a read.
use Rattle.std.proofs.Common.{◌≡◌, ◌∙◌, ◌+◌, ◌-◌, ◌<◌, ℕ, List, ◌++◌, length, take, drop, min, Option, Some, None, is_some, true, false, slice_get, get_or, Vec, Global, refl, sym, ap, arith, take-append-drop}
use Rattle.std.proofs.lemmas.List.{at_drop_more, drop-drop, drop_all}
use Rattle.std.proofs.lemmas.Option.{get_or_from_slice_get, slice_get-get_or}
use Rattle.std.specs.Str.{bytes_eq}
use Rattle.std.specs.Io.KnownBytes.{Consumes, IsAtEnd}
use Rattle.pipe_io.specs.Files.{file_of}
use Rattle.pipe_io.specs.FilePlace.{file_rest}
use Rattle.pipe_io.specs.MemoryFiles.{entries}

-- a name and its bytes, as the code holds them
abbrev Named : Type 0
Named = List ℕ × Vec ℕ Global

-- the bytes of the first file of a name
abbrev search_of : List ℕ → List Named → Option (List ℕ)
search_of name fs = file_of (entries fs) name

-- a file of another name is passed
pub pass : (fs : List Named) (name : List ℕ) (i : ℕ) (d : Named) → i < length fs → bytes_eq (get_or fs i d).0 name ≡ false → file_of (entries (drop i fs)) name ≡ file_of (entries (drop (i + 1) fs)) name
pass fs name i d h other = at_drop_more (search_of name) fs i d h ∙ rw other refl

-- a file of the name is the one
pub hit : (fs : List Named) (name : List ℕ) (i : ℕ) (d : Named) → i < length fs → bytes_eq (get_or fs i d).0 name ≡ true → file_of (entries (drop i fs)) name ≡ Some (get_or fs i d).1.items
hit fs name i d h same = at_drop_more (search_of name) fs i d h ∙ rw same refl

-- what a copy of the front took
pub copied : (fs : List Named) (at i n room : ℕ) (buf : List ℕ) (f : Named) → slice_get fs i ≡ Some f → n ≡ min (length f.1.items - at) room → 0 < room → take n buf ≡ take n (drop at f.1.items)
    → Consumes (file_rest fs at i) (file_rest fs (at + n) i) (take n buf) × (n ≡ 0 → IsAtEnd (file_rest fs (at + n) i))
copied fs at i n room buf f e size some same = rw (e, same) (
  sym (ap (λ (t : List ℕ). take n (drop at f.1.items) ++ t) (sym (drop-drop n at f.1.items)) ∙ take-append-drop n (drop at f.1.items)),
  λ none. drop_all (at + n) f.1.items (omega arith),
)

-- where the file at a place is the first of its name
pub placed : (fs : List Named) (name : List ℕ) (i : ℕ) (d : Named) → i < length fs → file_of (entries fs) name ≡ file_of (entries (drop i fs)) name → bytes_eq (get_or fs i d).0 name ≡ true
    → (bytes : List ℕ) × (file_rest fs 0 i ≡ Some bytes) × (file_of (entries fs) name ≡ Some bytes)
placed fs name i d h passed same = ((get_or fs i d).1.items, rw (slice_get-get_or fs i d h) refl, passed ∙ hit fs name i d h same)

-- the begun file is the one at its place
pub begun-there : (fs : List Named) (at i : ℕ) (d : Named) → is_some (file_rest fs at i) ≡ true → d ≡ get_or fs i d → slice_get fs i ≡ Some d
begun-there fs at i d begun read = by_case (slice_get fs i) refl where
  by_case : (o : Option Named) → slice_get fs i ≡ o → slice_get fs i ≡ Some d
  by_case None none = let no : is_some (file_rest fs at i) ≡ false = rw none refl in cc
  by_case (Some x) some = some ∙ ap Some (sym (get_or_from_slice_get fs i x d some) ∙ sym read)
