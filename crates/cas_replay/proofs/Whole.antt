-- A segment is its header and its blocks, and a log its segments, one after another.
use Rattle.std.proofs.Common.{◌≡◌, ⊎_elim, ℕ, true, List, [], ◌∷◌, ◌++◌, length, drop, Result, Option, Ok, Err, refl, sym, ap, subst, ◌∙◌, arith, length-drop}
use Rattle.std.specs.List.{AllByRecursion}
use Rattle.cas_types.specs.declared.schema.TableSchema.{TableSchema}
use Rattle.cas_codec.specs.declared.fault.ReadFault.{ReadFault}
use Rattle.cas_codec.specs.Reading.{Left, Read, ◌>>=◌}
use Rattle.cas_disk.specs.declared.name.Name.{Name}
use Rattle.cas_disk.specs.declared.name.Name.TheVariants.{Log}
use Rattle.cas_disk.specs.Disk.{Image, Disk, During, Follows, Same, bytes_of}
use Rattle.cas_disk.proofs.Moments.{left_after, reads_on}
use Rattle.cas_atoms.specs.declared.atom.Mutation.{Mutation}
use Rattle.cas_files.specs.Ahead.{AreNext}
use Rattle.cas_replay.specs.Reading.{header_at, blocks_at, segment_at, segment_of, in_segment, log_of}
use Rattle.cas_replay.specs.Replays.{Last}
use Rattle.cas_replay.specs.Inner.Steps.{gated_at, left_of, values_of}
use Rattle.cas_replay.proofs.Steps.{Comes, one_more, gated_left}

-- what is said of the files as they are read now is so of those at the start
pub at_start : (start now : Disk) → During Same start now → Follows Same start.reads now.reads → (n m : Name) → m ≡ n → (P : List ℕ → Type 0)
    → ((c : Image) → now.reads c → P (bytes_of (c m))) → (c : Image) → start.reads c → P (bytes_of (c n))
at_start start now during reads n m e P given c read =
    let (d, still, same) = reads_on start now during reads c read in
    subst (λ (x : Option (List ℕ)). P (bytes_of x)) (same n) (subst (λ (k : Name). P (bytes_of (d k))) e (given d still))

-- at a file's start nothing is at hand
pub none_next : (file : List ℕ) → AreNext 0 file []
none_next file = record { next = refl }

module _ (tables : List TableSchema) (shards size : ℕ) where
  -- one block more of a file
  pub comes_more : (before all : List Mutation) (at place : ℕ) (file : List ℕ) (whole : Read (List Mutation)) → Comes tables shards size before (left_of file at) whole
      → gated_at tables shards size before (left_of file at) ≡ Ok ((true, all), left_of file place) → Comes tables shards size all (left_of file place) whole
  comes_more before all at place file whole comes e =
      let (k, within, so, when, shut) = gated_left tables shards size before (left_of file at) (left_of file place) true all e in
      let least = (when refl).0 in
      one_more tables shards size before all (left_of file at) (left_of file place) whole comes e
      (omega (arith, least, within, ap (λ (l : Left). length l.bytes) so, length-drop k (drop at file)))

values_are : {A : Type 0} (r : Read A) → (r >>= λ (found : A × Left). Ok found.0) ≡ values_of r
values_are (Ok x) = refl
values_are (Err f) = refl

module _ (tables : List TableSchema) (shards number : ℕ) (before : List Mutation) (file : List ℕ) where
  abbrev blocks_behind : ℕ × Left → Read (List Mutation)
  blocks_behind size = blocks_at tables shards (length size.1.bytes) size.0 before size.1

  by_header : segment_of tables shards number before file ≡ ((header_at number (left_of file 0) >>= blocks_behind) >>= λ (found : List Mutation × Left). Ok found.0)
  unfolding segment_of segment_at
  by_header = refl

  -- behind its header a segment has its blocks
  pub segment_blocks : (size : ℕ) (l : Left) → header_at number (left_of file 0) ≡ Ok (size, l)
      → segment_of tables shards number before file ≡ values_of (blocks_at tables shards (length l.bytes) size before l)
  segment_blocks size l e =
      by_header ∙ ap (λ (r : Read ℕ). (r >>= blocks_behind) >>= λ (found : List Mutation × Left). Ok found.0) e
      ∙ values_are (blocks_at tables shards (length l.bytes) size before l)

  pub segment_fault : (g : ReadFault) → header_at number (left_of file 0) ≡ Err g → segment_of tables shards number before file ≡ Err g
  segment_fault g e = by_header ∙ ap (λ (r : Read ℕ). (r >>= blocks_behind) >>= λ (found : List Mutation × Left). Ok found.0) e

-- ---- a log

module _ (tables : List TableSchema) (shards : ℕ) (file : ℕ → List ℕ) (number : ℕ) (others all : List ℕ) (before : List Mutation) (whole : Result (List Mutation) (ℕ × ReadFault))
    (e : log_of tables shards file all before ≡ whole) (is : all ≡ number ∷ others) where
  pub by_segment : in_segment number (log_of tables shards file others) (segment_of tables shards number before (file number)) ≡ whole
  unfolding log_of
  by_segment = sym (ap (λ (ns : List ℕ). log_of tables shards file ns before) is) ∙ e

  -- one segment more
  pub log_more : (now : List Mutation) → segment_of tables shards number before (file number) ≡ Ok now → log_of tables shards file others now ≡ whole
  log_more now so = sym (ap (in_segment number (log_of tables shards file others)) so) ∙ by_segment

  pub log_fault : (g : ReadFault) → segment_of tables shards number before (file number) ≡ Err g → whole ≡ Err (number, g)
  log_fault g so = sym by_segment ∙ ap (in_segment number (log_of tables shards file others)) so

pub log_through : (tables : List TableSchema) (shards : ℕ) (file : ℕ → List ℕ) (before : List Mutation) (whole : Result (List Mutation) (ℕ × ReadFault)) (none : List ℕ) → none ≡ []
    → log_of tables shards file none before ≡ whole → whole ≡ Ok before
unfolding log_of
log_through tables shards file before whole none is e = sym e ∙ ap (λ (ns : List ℕ). log_of tables shards file ns before) is

-- ---- segments that last

-- as a segment is read, a crash leaves it
abbrev IsLast : Disk → Image → ℕ → Type 0
IsLast disk c n = (read : Image) × disk.reads read × (c (Log n) ≡ read (Log n))

both_last : (P : ℕ → Type 0) (ns others : List ℕ) → AllByRecursion P ns → AllByRecursion P others → AllByRecursion P (ns ++ others)
both_last P [] others first second = second
both_last P (n ∷ ns) others first second = (first.0, both_last P ns others first.1 second)

still_last : (a b : Disk) → During Same a b → Follows Same a.reads b.reads → (d c : Image) → ((k : Name) → c k ≡ d k) → (ns : List ℕ)
    → AllByRecursion (IsLast a d) ns → AllByRecursion (IsLast b c) ns
still_last a b during reads d c same [] all = tt
still_last a b during reads d c same (n ∷ ns) all =
    let (read, told, is) = all.0 in
    let (e, now, kept) = reads_on a b during reads read told in
    ((e, now, same (Log n) ∙ is ∙ sym (kept (Log n))), still_last a b during reads d c same ns all.1)

-- segments that last go on lasting while nothing changes
pub last_more : (ns : List ℕ) (n : ℕ) (a b : Disk) → During Same a b → Follows Same a.reads b.reads → Last ns a → Last (n ∷ []) b → Last (ns ++ n ∷ []) b
last_more ns n a b during reads before now c left =
    both_last (IsLast b c) ns (n ∷ [])
    (⊎_elim (λ (old : a.may_leave c). still_last a b during reads c c (λ k. refl) ns (before c old))
    (λ (made : (x : Image) × a.may_leave x × Same x c). still_last a b during reads made.0 c made.2 ns (before made.0 made.1))
    (left_after Same a b during c left)) (now c left)
