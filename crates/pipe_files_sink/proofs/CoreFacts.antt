-- What a writer core has taken, chunk by chunk.
use Rattle.std.proofs.Common.{◌≡◌, ◌≢◌, ◌∙◌, ◌++◌, ◌∷◌, ◌+◌, ◌<◌, ◌≤◌, ℕ, zero, suc, List, [], Bool, true, false, Option, None, Result, Ok, Err, OnOk, OnErr, length, take, flat_map, sym, ap, arith, refl, subst, append_assoc, append-nil}
use Rattle.std.proofs.lemmas.Bool.{eq-eqb, ne_eqb}
use Rattle.std.proofs.lemmas.List.Elements.{filter-append}
use Rattle.std.proofs.lemmas.Grind.{flat_map-append}
use Rattle.std.proofs.lemmas.List.{length-append}
use Rattle.pipe_columns.specs.declared.data_chunk.DataChunk.{DataChunk}
use Rattle.pipe_columns.specs.Frame.{FrameData}
use Rattle.pipe_plan.proofs.Cutting.{full-append, full-filled, full-short, full-unfilled, last_piece, pieces-full_rest, rest-filled, rest-lt, rest-short, rest-unfilled}
use Rattle.pipe_plan.specs.Payloads.{full_pieces, rest_of}
use Rattle.pipe_lines.specs.Rows.{Row}
use Rattle.pipe_writers.specs.WriteOrder.{chunk_has_rows, rows_of_chunks, chunks_with_rows, write_order, written_piece}
use Rattle.pipe_writers.specs.WriterLaws.{told_alike}
use Rattle.pipe_writers.specs.Writers.{TellsFront}
use Rattle.pipe_files_sink.specs.Core.{CoreSeen, HasTaken, full_order}
use Rattle.pipe_files_sink.specs.Joined.{HasPut, waits_after}
use Rattle.pipe_files_sink.specs.JoinedState.{HasPutFront}
use Rattle.pipe_files_sink.proofs.JoinedFacts.{front-more, put-front, rows-both, waits-both}

-- what holds on either answer holds
pub on-either : {T E : Type 0} {P : Type 0} (r : Result T E) → OnOk r P → OnErr r P → P
on-either (Ok x) ok err = ok
on-either (Err e) ok err = err

-- what two facts of an Ok give
pub on-ok-both : {T E : Type 0} {A B C : Type 0} (r : Result T E) → OnOk r A → OnOk r B → (A → B → C) → OnOk r C
on-ok-both (Ok x) a b f = f a b
on-ok-both (Err e) a b f = tt

-- what holds anyway holds of an Ok
pub on-ok : {T E : Type 0} {P : Type 0} (r : Result T E) → P → OnOk r P
on-ok (Ok x) p = p
on-ok (Err e) p = tt

-- what a fact of an Err gives
pub on-err-then : {T E : Type 0} {A B : Type 0} (r : Result T E) → OnErr r A → (A → B) → OnErr r B
on-err-then (Ok x) a f = tt
on-err-then (Err e) a f = f a

-- ---- chunks with rows

-- one more chunk without rows
pub rows-same : (chunks : List DataChunk) (c : DataChunk) → c.frame.height ≡ 0 → chunks_with_rows (chunks ++ c ∷ []) ≡ chunks_with_rows chunks
rows-same chunks c none =
    let not : chunk_has_rows c ≡ false = rw (eq-eqb c.frame.height 0 none) refl in
    filter-append chunk_has_rows chunks (c ∷ []) ∙ rw not (append-nil (chunks_with_rows chunks))

-- one more chunk with rows
pub rows-one : (chunks : List DataChunk) (c : DataChunk) → c.frame.height ≢ 0 → chunks_with_rows (chunks ++ c ∷ []) ≡ chunks_with_rows chunks ++ c ∷ []
rows-one chunks c some =
    let has : chunk_has_rows c ≡ true = rw (ne_eqb c.frame.height 0 some) refl in
    filter-append chunk_has_rows chunks (c ∷ []) ∙ rw has refl

-- ---- the order of writing

module _ (m : ℕ) (maintain : Bool) (some : 0 < m) where
  abbrev written : List (List DataChunk) → List DataChunk
  written ps = flat_map (written_piece maintain) ps

  -- full pieces are in front of what is written
  order-parts : (chunks : List DataChunk) → write_order chunks m maintain ≡ full_order chunks m maintain ++ written (last_piece (rest_of m (chunks_with_rows chunks)))
  order-parts chunks =
      ap written (pieces-full_rest m (chunks_with_rows chunks) some) ∙ flat_map-append (written_piece maintain) (full_pieces m (chunks_with_rows chunks)) (last_piece (rest_of m (chunks_with_rows chunks)))

  -- and so are they of what is written of more chunks
  full-more : (chunks more : List DataChunk) → full_order (chunks ++ more) m maintain ≡ full_order chunks m maintain ++ written (full_pieces m (rest_of m (chunks_with_rows chunks) ++ chunks_with_rows more))
  full-more chunks more =
      ap (λ (cs : List DataChunk). written (full_pieces m cs)) (filter-append chunk_has_rows chunks more)
      ∙ ap written (full-append m (chunks_with_rows chunks) (chunks_with_rows more) some)
      ∙ flat_map-append (written_piece maintain) (full_pieces m (chunks_with_rows chunks)) (full_pieces m (rest_of m (chunks_with_rows chunks) ++ chunks_with_rows more))

  -- what follows them
  pub follows : (chunks more : List DataChunk) → (left : List DataChunk) × (full_order chunks m maintain ++ left ≡ write_order (chunks ++ more) m maintain)
  follows chunks more =
      let next = written (full_pieces m (rest_of m (chunks_with_rows chunks) ++ chunks_with_rows more)) in
      let last = written (last_piece (rest_of m (chunks_with_rows (chunks ++ more)))) in
      (next ++ last, sym (append_assoc (full_order chunks m maintain) next last) ∙ ap (λ (cs : List DataChunk). cs ++ last) (sym (full-more chunks more)) ∙ sym (order-parts (chunks ++ more)))

  none-written : (b : Bool) → written_piece b [] ≡ []
  none-written true = refl
  none-written false = refl

  last-written : (rest : List DataChunk) → written (last_piece rest) ≡ written_piece maintain rest
  last-written [] = sym (none-written maintain)
  last-written (x ∷ rest) = append-nil (written_piece maintain (x ∷ rest))

  -- the last piece is written behind the full ones
  pub order-last : (chunks : List DataChunk) → full_order chunks m maintain ++ written_piece maintain (rest_of m (chunks_with_rows chunks)) ≡ write_order chunks m maintain
  order-last chunks = ap (λ (cs : List DataChunk). full_order chunks m maintain ++ cs) (sym (last-written (rest_of m (chunks_with_rows chunks)))) ∙ sym (order-parts chunks)

  -- a chunk that fills a piece
  pub full-order-filled : (chunks : List DataChunk) (c : DataChunk) → c.frame.height ≢ 0 → length (rest_of m (chunks_with_rows chunks)) + 1 ≡ m
      → full_order (chunks ++ c ∷ []) m maintain ≡ full_order chunks m maintain ++ written_piece maintain (rest_of m (chunks_with_rows chunks) ++ c ∷ [])
  full-order-filled chunks c has full =
      ap (λ (cs : List DataChunk). written (full_pieces m cs)) (rows-one chunks c has)
      ∙ ap written (full-filled m (chunks_with_rows chunks) c some full)
      ∙ flat_map-append (written_piece maintain) (full_pieces m (chunks_with_rows chunks)) ((rest_of m (chunks_with_rows chunks) ++ c ∷ []) ∷ [])
      ∙ ap (λ (cs : List DataChunk). full_order chunks m maintain ++ cs) (append-nil (written_piece maintain (rest_of m (chunks_with_rows chunks) ++ c ∷ [])))

  -- a chunk that fills none
  pub full-order-unfilled : (chunks : List DataChunk) (c : DataChunk) → c.frame.height ≢ 0 → length (rest_of m (chunks_with_rows chunks)) + 1 ≢ m
      → full_order (chunks ++ c ∷ []) m maintain ≡ full_order chunks m maintain
  full-order-unfilled chunks c has not =
      ap (λ (cs : List DataChunk). written (full_pieces m cs)) (rows-one chunks c has) ∙ ap written (full-unfilled m (chunks_with_rows chunks) c some not)

-- ---- what a core has taken

-- at first nothing
pub taken-none : {Writer : Type 0} (Stands : List Row → List ℕ → Type 0) (core : CoreSeen Writer) (since : List ℕ) → 0 < core.morsels → core.piece ≡ [] → core.waiting ≡ None
    → Stands [] since → HasTaken Stands core [] since
taken-none Stands core since some piece waiting stands =
    let none : full_order [] core.morsels core.maintain_order ≡ [] = ap (λ (ps : List (List DataChunk)). flat_map (written_piece core.maintain_order) ps) (full-short core.morsels [] some) in
    record {
      piece = piece ∙ sym (rest-short core.morsels [] some);
      waiting = waiting ∙ sym (ap (λ (cs : List DataChunk). waits_after core.least None cs) none);
      put = rw (waiting, none) ([], stands, refl);
    }

module _ {Writer : Type 0} (Stands : List Row → List ℕ → Type 0) (core : CoreSeen Writer) (chunks : List DataChunk) (since : List ℕ) (some : 0 < core.morsels)
    (taken : HasTaken Stands core chunks since) where
  -- a chunk without rows is none
  pub taken-empty : (new : CoreSeen Writer) (c : DataChunk) → new ≡ core → c.frame.height ≡ 0 → HasTaken Stands new (chunks ++ c ∷ []) since
  taken-empty new c same none =
      let rows = rows-same chunks c none in
      rw same (record {
        piece = taken.piece ∙ sym (ap (λ (cs : List DataChunk). rest_of core.morsels cs) rows);
        waiting = rw rows taken.waiting;
        put = rw rows taken.put;
      })

  -- a chunk that the piece has room for
  pub taken-waits : (new : CoreSeen Writer) (c : DataChunk) (pushed : List DataChunk) → pushed ≡ core.piece ++ c ∷ [] → new ≡ record core { piece = pushed } → c.frame.height ≢ 0
      → length pushed < core.morsels → HasTaken Stands new (chunks ++ c ∷ []) since
  taken-waits new c pushed is same has short =
      let rest = rest_of core.morsels (chunks_with_rows chunks) in
      let size : length pushed ≡ length rest + 1 = ap (λ (cs : List DataChunk). length cs) is ∙ length-append core.piece (c ∷ []) ∙ ap (λ (cs : List DataChunk). length cs + 1) taken.piece in
      let not : length rest + 1 ≢ core.morsels = λ e. omega (arith, e, size, short) in
      let order = full-order-unfilled core.morsels core.maintain_order some chunks c has not in
      rw (same, is) (record {
        piece = ap (λ (cs : List DataChunk). cs ++ c ∷ []) taken.piece ∙ sym (ap (λ (cs : List DataChunk). rest_of core.morsels cs) (rows-one chunks c has) ∙ rest-unfilled core.morsels (chunks_with_rows chunks) c some not);
        waiting = rw order taken.waiting;
        put = rw order taken.put;
      })

  -- what is written so far is a front of what is written of more chunks
  pub front-of-more : (more : List DataChunk) → HasPutFront Stands (rows_of_chunks (write_order (chunks ++ more) core.morsels core.maintain_order)) since
  front-of-more more =
      let order = full_order chunks core.morsels core.maintain_order in
      let rest = follows core.morsels core.maintain_order some chunks more in
      front-more Stands (rows_of_chunks order ++ []) (rows_of_chunks rest.0) (rows_of_chunks (write_order (chunks ++ more) core.morsels core.maintain_order)) since
      (put-front Stands core.waiting (rows_of_chunks order) since taken.put [])
      (ap (λ (rs : List Row). rs ++ rows_of_chunks rest.0) (append-nil (rows_of_chunks order)) ∙ sym (rows-both order rest.0) ∙ ap rows_of_chunks rest.1)

  -- a chunk that makes the piece full
  module _ (c : DataChunk) (pushed : List DataChunk) (is : pushed ≡ core.piece ++ c ∷ []) (has : c.frame.height ≢ 0) (full : core.morsels ≤ length pushed) where
    abbrev rest : List DataChunk
    rest = rest_of core.morsels (chunks_with_rows chunks)

    abbrev order : List DataChunk
    order = full_order chunks core.morsels core.maintain_order

    abbrev piece : List DataChunk
    piece = written_piece core.maintain_order pushed

    fills : length rest + 1 ≡ core.morsels
    fills =
        let size : length pushed ≡ length rest + 1 = ap (λ (cs : List DataChunk). length cs) is ∙ length-append core.piece (c ∷ []) ∙ ap (λ (cs : List DataChunk). length cs + 1) taken.piece in
        let short = rest-lt core.morsels (chunks_with_rows chunks) some in
        omega (arith, size, short, full)

    -- it is written behind those before it
    order-is : full_order (chunks ++ c ∷ []) core.morsels core.maintain_order ≡ order ++ piece
    order-is =
        full-order-filled core.morsels core.maintain_order some chunks c has fills
        ∙ ap (λ (cs : List DataChunk). order ++ written_piece core.maintain_order cs) (ap (λ (cs : List DataChunk). cs ++ c ∷ []) (sym taken.piece) ∙ sym is)

    pub taken-full : (After : List Row → List ℕ → Type 0) (new : CoreSeen Writer) → new.piece ≡ [] → new.morsels ≡ core.morsels → new.maintain_order ≡ core.maintain_order → new.least ≡ core.least
        → new.waiting ≡ waits_after core.least core.waiting piece → HasPut After new.waiting (rows_of_chunks order ++ rows_of_chunks piece) since
        → HasTaken After new (chunks ++ c ∷ []) since
    taken-full After new none morsels maintain least waiting put =
        let waits : waits_after core.least None (order ++ piece) ≡ waits_after core.least core.waiting piece =
        waits-both core.least None order piece ∙ ap (λ (w : Option FrameData). waits_after core.least w piece) (sym taken.waiting) in
        record {
          piece = none ∙ sym (ap (λ (k : ℕ). rest_of k (chunks_with_rows (chunks ++ c ∷ []))) morsels ∙ ap (λ (cs : List DataChunk). rest_of core.morsels cs) (rows-one chunks c has) ∙ rest-filled core.morsels (chunks_with_rows chunks) c some fills);
          waiting = rw (morsels, maintain, least, order-is) (waiting ∙ sym waits);
          put = rw (morsels, maintain, order-is, rows-both order piece) put;
        }

    pub front-full : (After : List Row → List ℕ → Type 0) → HasPutFront After (rows_of_chunks order ++ rows_of_chunks piece) since
        → HasPutFront After (rows_of_chunks (write_order (chunks ++ c ∷ []) core.morsels core.maintain_order)) since
    front-full After front =
        let all = chunks ++ c ∷ [] in
        let left = follows core.morsels core.maintain_order some all [] in
        let same : rows_of_chunks (full_order all core.morsels core.maintain_order) ≡ rows_of_chunks order ++ rows_of_chunks piece = ap rows_of_chunks order-is ∙ rows-both order piece in
        let whole : full_order all core.morsels core.maintain_order ++ left.0 ≡ write_order all core.morsels core.maintain_order =
        left.1 ∙ ap (λ (cs : List DataChunk). write_order cs core.morsels core.maintain_order) (append-nil all) in
        front-more After (rows_of_chunks order ++ rows_of_chunks piece) (rows_of_chunks left.0) _ since front
        (ap (λ (rs : List Row). rs ++ rows_of_chunks left.0) (sym same) ∙ sym (rows-both (full_order all core.morsels core.maintain_order) left.0) ∙ ap rows_of_chunks whole)

  -- the rest is written behind what was written
  pub order-whole : rows_of_chunks (full_order chunks core.morsels core.maintain_order) ++ rows_of_chunks (written_piece core.maintain_order core.piece)
      ≡ rows_of_chunks (write_order chunks core.morsels core.maintain_order)
  order-whole =
      let order = full_order chunks core.morsels core.maintain_order in
      sym (rows-both order (written_piece core.maintain_order core.piece))
      ∙ ap (λ (cs : List DataChunk). rows_of_chunks (order ++ written_piece core.maintain_order cs)) taken.piece
      ∙ ap rows_of_chunks (order-last core.morsels core.maintain_order some chunks)

-- what is written so far is a front of what is written of the chunks that were taken
pub front-of-taken : {Writer : Type 0} (Stands : List Row → List ℕ → Type 0) (core : CoreSeen Writer) (chunks : List DataChunk) (since : List ℕ) (m : ℕ) (maintain : Bool) → core.morsels ≡ m → core.maintain_order ≡ maintain
    → 0 < m → HasTaken Stands core chunks since → HasPutFront Stands (rows_of_chunks (write_order chunks m maintain)) since
front-of-taken Stands core chunks since m maintain morsels order some taken =
    let here : HasPutFront Stands (rows_of_chunks (write_order (chunks ++ []) core.morsels core.maintain_order)) since =
    front-of-more Stands core chunks since (rw morsels some) taken [] in
    rw (append-nil chunks, morsels, order) at here

-- which calls a core had doesn't matter
pub taken-as : {Writer : Type 0} (Stands : List Row → List ℕ → Type 0) (core new : CoreSeen Writer) (chunks : List DataChunk) (since : List ℕ) → new ≡ record core { calls = new.calls }
    → HasTaken Stands core chunks since → HasTaken Stands new chunks since
taken-as Stands core new chunks since same taken = rw same (record { piece = taken.piece; waiting = taken.waiting; put = taken.put })

-- a writer that stands for rows stands for a front of them
pub stands-front : (Stands : List Row → List ℕ → Type 0) (rows : List Row) (since : List ℕ) → Stands rows since → HasPutFront Stands rows since
stands-front Stands rows since stands = (rows, ([], stands, append-nil rows))

-- ---- what outputs tell

front-twice : (k n : ℕ) (xs : List ℕ) → (j : ℕ) × (take k (take n xs) ≡ take j xs)
front-twice zero n xs = (0, refl)
front-twice (suc k) zero xs = (0, refl)
front-twice (suc k) (suc n) [] = (0, refl)
front-twice (suc k) (suc n) (x ∷ xs) = let more = front-twice k n xs in (suc more.0, ap (λ (l : List ℕ). x ∷ l) more.1)

-- a writer that stands for a front of rows tells a front of their text
pub tells-front : (Stands : List Row → List ℕ → Type 0) (told : Option (List ℕ)) (text : List Row → List ℕ) (rows : List Row) (since : List ℕ)
    → ((rs : List Row) → Stands rs since → TellsFront told since (text rs)) → ((rs more : List Row) → (n : ℕ) × (text rs ≡ take n (text (rs ++ more))))
    → HasPutFront Stands rows since → TellsFront told since (text rows)
tells-front Stands told text rows since front grows put =
    let done = put.0 in
    let left = put.1 in
    let here = front done left.1 in
    let longer = grows done left.0 in
    let twice = front-twice here.0 longer.0 (text rows) in
    let same : take here.0 (text done) ≡ take twice.0 (text rows) =
    ap (λ (bs : List ℕ). take here.0 bs) (longer.1 ∙ ap (λ (rs : List Row). take longer.0 (text rs)) left.2) ∙ twice.1 in
    (twice.0, told_alike told since _ _ same here.1)

-- the same of a writer by its laws, and by what fixes its text
module _ {Writer Format : Type 0} (Stands : Writer → List Row → List ℕ → Type 0) (told : Writer → Option (List ℕ)) (format : Writer → Format) (text : Format → List Row → List ℕ)
    (front : (w : Writer) → (rows : List Row) → (since : List ℕ) → Stands w rows since → TellsFront (told w) since (text (format w) rows))
    (grows : (f : Format) → (rows more : List Row) → (n : ℕ) × (text f rows ≡ take n (text f (rows ++ more)))) where
  pub writer-front : (w : Writer) (f : Format) (rows : List Row) (since : List ℕ) → format w ≡ f → HasPutFront (Stands w) rows since → TellsFront (told w) since (text f rows)
  writer-front w f rows since same put =
      tells-front (Stands w) (told w) (text f) rows since (λ rs here. subst (λ (x : Format). TellsFront (told w) since (text x rs)) same (front w rs since here)) (grows f) put
