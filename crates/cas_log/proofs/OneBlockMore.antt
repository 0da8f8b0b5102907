-- What a segment is with one block more, and what a log stands for while it writes one.
use Rattle.std.proofs.Common.{◌≡◌, inl, inr, ℕ, ◌+◌, ◌≤◌, List, [], ◌∷◌, ◌++◌, length, Option, refl, sym, ◌∙◌, ap, subst, arith, append_assoc, length-append}
use Rattle.std.proofs.lemmas.Bool.{cases_eq}
use Rattle.std.proofs.lemmas.List.{flat_map_more, nil_from_length}
use Rattle.cas_disk.specs.Disk.{Disk, During, Changed, IsKept}
use Rattle.cas_disk.specs.declared.name.Name.TheVariants.{Log as log_name}
use Rattle.cas_disk.proofs.Moments.{leaves_file}
use Rattle.cas_gates.specs.Gates.{MayOpen}
use Rattle.cas_atoms.specs.declared.atom.Mutation.{Mutation}
use Rattle.cas_log.specs.declared.log.Log.{Log}
use Rattle.cas_log.specs.Segment.{body, block, written, joined, header, front, IsSize}
use Rattle.cas_log.specs.Logs.{MayHave, Place, Stands, HasPushed, place_of, moved}

-- ---- segments

module _ (number size : ℕ) (blocks : List (List Mutation)) (pushed : List Mutation) where
  joined_more : joined (blocks ++ pushed ∷ []) ≡ joined blocks ++ pushed
  joined_more = sym (flat_map_more (λ (ms : List Mutation). ms) [] blocks pushed)

  -- what is written behind the gate, with the gate open before it
  front_more : front number size blocks ++ 1 ∷ written (body pushed) (length pushed) ≡ front number size (blocks ++ pushed ∷ []) ++ 0 ∷ []
  front_more =
      sym (append_assoc (front number size blocks) (1 ∷ block pushed) (0 ∷ []))
      ∙ ap (λ (l : List ℕ). l ++ 0 ∷ []) (flat_map_more (λ (ms : List Mutation). 1 ∷ block ms) (header number size) blocks pushed)

  length_more : length (front number size (blocks ++ pushed ∷ [])) ≡ length (front number size blocks) + length (written (body pushed) (length pushed))
  length_more =
      let file = front number size (blocks ++ pushed ∷ []) in
      omega (arith, ap length front_more, length-append file (0 ∷ []), length-append (front number size blocks) (1 ∷ written (body pushed) (length pushed)))

  -- whatever its gate is, the file is a segment
  pub has_either : IsSize size → length (front number size blocks) + 1 ≤ size → length (front number size blocks) + length (written (body pushed) (length pushed)) + 1 ≤ size
      → (found : Option (List ℕ)) → MayOpen (front number size blocks) (written (body pushed) (length pushed)) found → MayHave number (joined blocks) pushed found
  has_either sized within room found opens = (
    front number size blocks ++ opens.gate ∷ opens.rest,
    opens.is,
    elim (cases_eq opens.gate 1) [
      | inl one ↦ inr (record {
        size = size;
        blocks = blocks ++ pushed ∷ [];
        gate = 0;
        rest = [];
        spelled = (λ i. front number size blocks ++ one i ∷ opens.whole one i) ∙ front_more;
        closed = λ e. absurd (omega (arith, e));
        all = joined_more;
        sized = sized;
        within = omega (arith, length_more, room);
      })
      | inr other ↦ inl (record { size = size; blocks = blocks; gate = opens.gate; rest = opens.rest; spelled = refl; closed = other; all = refl; sized = sized; within = within })
    ],
  )

-- ---- a log that writes what was pushed

module _ (log : Log) (old : Disk) (committed pushed : List Mutation) (stands : Stands (place_of log) old committed) (has : HasPushed log pushed) (bytes : List ℕ) (of_log : bytes ≡ log.block.items) where
  is_block : bytes ≡ written (body pushed) (length pushed)
  is_block = of_log ∙ has.bytes ∙ ap (λ (n : ℕ). written (body pushed) n) (sym has.count)

  -- what is written leaves the segment with the pushed mutations, or without
  pub leaves_either : log.end + length bytes + 1 ≤ log.size → (new : Disk)
      → ((f : List ℕ) → length f ≡ log.end → IsKept (log_name log.number) (f ++ 0 ∷ []) old → During (Changed (log_name log.number) (λ _ file. MayOpen f bytes file)) old new)
      → During (Changed (log_name log.number) (λ _ file. MayHave log.number committed pushed file)) old new
  leaves_either room new writes =
      let begun = front log.number log.size stands.blocks in
      leaves_file (log_name log.number) (λ _ file. MayOpen begun bytes file) (MayHave log.number committed pushed) old new (writes begun stands.end stands.kept)
      (λ d c was opens. subst (λ (ms : List Mutation). MayHave log.number ms pushed (c (log_name log.number))) stands.all
      (has_either log.number log.size stands.blocks pushed log.sized (omega (arith, stands.end, log.within)) (omega (arith, stands.end, room, ap length is_block))
      (c (log_name log.number)) (subst (λ (l : List ℕ). MayOpen begun l (c (log_name log.number))) is_block opens)))

  -- once it is written, the log stands for it
  pub stands_more : (new : Disk) → ((f : List ℕ) → length f ≡ log.end → IsKept (log_name log.number) (f ++ 0 ∷ []) old → IsKept (log_name log.number) (f ++ 1 ∷ bytes) new)
      → (after : Place) (n : ℕ) → n ≡ length bytes → after ≡ moved n (place_of log) → Stands after new (committed ++ pushed)
  stands_more new writes after n counts is =
      let begun = front log.number log.size stands.blocks in
      let more = stands.blocks ++ pushed ∷ [] in
      let file : begun ++ 1 ∷ bytes ≡ front log.number log.size more ++ 0 ∷ [] =
      ap (λ (l : List ℕ). begun ++ 1 ∷ l) is_block ∙ front_more log.number log.size stands.blocks pushed in
      let there : Stands (moved n (place_of log)) new (committed ++ pushed) = record {
        blocks = more;
        all = joined_more log.number log.size stands.blocks pushed ∙ ap (λ (l : List Mutation). l ++ pushed) stands.all;
        kept = subst (λ (f : List ℕ). IsKept (log_name log.number) f new) file (writes begun stands.end stands.kept);
        end = omega (arith, length_more log.number log.size stands.blocks pushed, stands.end, ap length is_block, counts);
      } in
      subst (λ (p : Place). Stands p new (committed ++ pushed)) (sym is) there

-- with nothing pushed there is nothing to commit
pub none_left : (log : Log) (pushed : List Mutation) → HasPushed log pushed → log.count ≡ 0 → HasPushed log []
none_left log pushed has none = subst (λ (l : List Mutation). HasPushed log l) (nil_from_length pushed (has.count ∙ none)) has
