-- Fields are found where they stand one behind another, and nowhere else.
use Rattle.std.proofs.Common.{◌≡◌, ℕ, ◌+◌, ◌*◌, eqb, cond, Bool, true, List, [], ◌∷◌, ◌++◌, length, Ok, Err, refl, sym, ap, ◌∙◌, append_assoc, arith}
use Rattle.std.specs.List.{flat_map}
use Rattle.std.specs.declared.cmp.Ordering.{Ordering}
use Rattle.std.specs.declared.cmp.Ordering.TheVariants.{Less, Equal, Greater}
use Rattle.std.specs.Ordering.{is_eq}
use Rattle.std.proofs.lemmas.Bool.{eqb-true, eq-eqb}
use Rattle.std.proofs.lemmas.List.{append-nil}
use Rattle.std.proofs.lemmas.Cmp.{nat_list_cmp_total, tied_itself}
use Rattle.cas_types.specs.Values.{bytes_cmp}
use Rattle.cas_types.proofs.OrderLaws.{bytes_orders}
use Rattle.cas_codec.specs.Fields.{u8, u32, u64, i64, bytes16, maybe}
use Rattle.cas_codec.specs.Exact.{AreBytes, IsExact}
use Rattle.cas_codec.specs.Reading.{Left, Read, ◌>>=◌, checked, bytes_at}
use Rattle.cas_codec.specs.declared.fault.ReadFault.TheVariants.{Bad}
use Rattle.cas_codec.proofs.Exactness.{bind_ok, test_ok, ok_is, exact_checked, exact_map, AreBytes-rest, read_left}
use Rattle.cas_codec.proofs.FieldLaws.{exact_bytes}
use Rattle.cas_records.specs.Spelling.{deletion_bytes, cut_bytes}
use Rattle.cas_info.specs.declared.info.TableInfo.{TableInfo}
use Rattle.cas_info.specs.Spelling.{range_bytes, times_bytes, rest_bytes, info_bytes}
use Rattle.cas_filter.specs.Spelling.{filter_bytes}
use Rattle.cas_index.specs.Spelling.{block_bytes, partition_bytes, index_bytes}
use Rattle.cas_index.specs.declared.entries.BlockEntry.{BlockEntry}
use Rattle.cas_index.specs.declared.entries.PartitionEntry.{PartitionEntry}
use Rattle.cas_sstread.specs.Reading.{filled_at}
use Rattle.cas_verify.specs.Checking.{filter_for, fields_for}
use Rattle.cas_verify.specs.Fields.{field_at, fields_at, block_fields, head_fields, partition_fields, index_fields, filter_fields, info_fields}
use Rattle.cas_verify.proofs.Turns.{flat_both}

-- ---- one field

eq_equal : (o : Ordering) → is_eq o ≡ true → o ≡ Equal
eq_equal Less e = absurd cc
eq_equal Equal e = refl
eq_equal Greater e = absurd cc

field_exact : (field : List ℕ) → IsExact (λ (u : Unit {0}). Unit {0}) (λ (u : Unit {0}). field) (field_at field)
unfolding field_at checked
field_exact field =
    exact_map (λ x. (length x ≡ length field) × (is_eq (bytes_cmp x field) ≡ true)) (λ x. x)
    (checked (λ bytes. is_eq (bytes_cmp bytes field)) (λ left. bytes_at left.at (length field) left)) (λ u. Unit {0}) (λ u. field) (λ k. tt)
    (exact_checked (λ x. length x ≡ length field) (λ x. x) (λ left. bytes_at left.at (length field) left) (λ bytes. is_eq (bytes_cmp bytes field))
    (exact_bytes (λ left. left.at) (length field)))
    (λ k fit. (tt, sym (bytes_orders.ties k field (eq_equal _ fit.1))))
    (λ u has. (field, (refl, ap is_eq (tied_itself nat_list_cmp_total field)), refl))

-- ---- fields

abbrev pub all_of : List (List ℕ) → List ℕ
all_of fields = flat_map (λ (f : List ℕ). f) fields

fields_found : (fs : List (List ℕ)) (left new : Left) → AreBytes left.bytes → fields_at fs left ≡ Ok (tt, new) → left.bytes ≡ all_of fs ++ new.bytes
unfolding fields_at
fields_found [] left new are e = ap (λ (q : Unit {0} × Left). q.1.bytes) (ok_is (tt, left) (tt, new) e)
fields_found (f ∷ fs) left new are e =
    let one = bind_ok (field_at f left) (λ (p : Unit {0} × Left). fields_at fs p.1) (tt, new) e in
    let g = (field_exact f).found left one.0.1 tt are one.1 in
    g.1.bytes ∙ ap (λ t. f ++ t) (fields_found fs one.0.1 new (AreBytes-rest left.bytes f one.0.1.bytes are g.1.bytes) one.2)
    ∙ sym (append_assoc f (all_of fs) new.bytes)

fields_again : (fs : List (List ℕ)) (rest : List ℕ) (at : ℕ) → (new : Left) × (fields_at fs (read_left (all_of fs ++ rest) at) ≡ Ok (tt, new)) × (new.bytes ≡ rest)
unfolding fields_at
fields_again [] rest at = (read_left rest at, refl, refl)
fields_again (f ∷ fs) rest at =
    let more = fields_again fs rest (at + length f) in (
      more.0,
      ap (λ (t : List ℕ). field_at f (read_left t at) >>= λ (p : Unit {0} × Left). fields_at fs p.1) (append_assoc f (all_of fs) rest)
          ∙ ap (λ (r : Read (Unit {0})). r >>= λ (p : Unit {0} × Left). fields_at fs p.1) ((field_exact f).again tt (all_of fs ++ rest) at tt) ∙ more.1,
      more.2,
    )

nothing : (xs : List ℕ) → length xs ≡ 0 → xs ≡ []
nothing [] e = refl
nothing (x ∷ xs) e = absurd (omega arith)

pub filled_found : (fs : List (List ℕ)) (left : Left) → AreBytes left.bytes → filled_at (fields_at fs) left ≡ Ok tt → left.bytes ≡ all_of fs
unfolding filled_at
filled_found fs left are e =
    let one = bind_ok (fields_at fs left) (λ (found : Unit {0} × Left). cond (eqb (length found.1.bytes) 0) (Ok found.0) (Err (Bad found.1.at))) tt e in
    let t = test_ok (eqb (length one.0.1.bytes) 0) (Bad one.0.1.at) one.0.0 tt one.2 in
    fields_found fs left one.0.1 are one.1 ∙ ap (λ t. all_of fs ++ t) (nothing one.0.1.bytes (eqb-true (length one.0.1.bytes) 0 t.0)) ∙ append-nil (all_of fs)

pub filled_again : (fs : List (List ℕ)) (bytes : List ℕ) (at : ℕ) → bytes ≡ all_of fs → filled_at (fields_at fs) (read_left bytes at) ≡ Ok tt
unfolding filled_at
filled_again fs bytes at is =
    let more = fields_again fs [] at in
    ap (λ (r : Read (Unit {0})). r >>= λ (found : Unit {0} × Left). cond (eqb (length found.1.bytes) 0) (Ok found.0) (Err (Bad found.1.at)))
    (ap (λ (t : List ℕ). fields_at fs (read_left t at)) (is ∙ sym (append-nil (all_of fs))) ∙ more.1)
    ∙ ap (λ (b : Bool). cond b (Ok tt) (Err (Bad more.0.at))) (eq-eqb (length more.0.bytes) 0 (ap length more.2))

-- ---- what they spell

block_is : (b : BlockEntry) → all_of (block_fields b) ≡ block_bytes b
block_is b = ap (λ t. cut_bytes b.cut ++ (u64 b.place ++ t)) (append-nil (maybe deletion_bytes b.in_force))

blocks_are : (bs : List BlockEntry) → all_of (flat_map block_fields bs) ≡ flat_map block_bytes bs
blocks_are [] = refl
blocks_are (b ∷ bs) = flat_both (λ (f : List ℕ). f) (block_fields b) (flat_map block_fields bs) ∙ (λ i. block_is b i ++ blocks_are bs i)

partition_is : (p : PartitionEntry) → all_of (partition_fields p) ≡ partition_bytes p
partition_is p =
    flat_both (λ (f : List ℕ). f) (head_fields p) (flat_map block_fields p.blocks)
    ∙ (λ i. (bytes16 p.key ++ (u64 p.place ++ append-nil (u32 (length p.blocks)) i)) ++ blocks_are p.blocks i)

partitions_are : (ps : List PartitionEntry) → all_of (flat_map partition_fields ps) ≡ flat_map partition_bytes ps
partitions_are [] = refl
partitions_are (p ∷ ps) = flat_both (λ (f : List ℕ). f) (partition_fields p) (flat_map partition_fields ps) ∙ (λ i. partition_is p i ++ partitions_are ps i)

index_is : (ps : List PartitionEntry) → all_of (index_fields ps) ≡ index_bytes ps
index_is ps = ap (λ t. u32 (length ps) ++ t) (partitions_are ps)

filter_is : (filter : List ℕ) → all_of (filter_fields filter) ≡ filter_bytes filter
filter_is filter = ap (λ t. u32 (8 * length filter) ++ t) (append-nil filter)

info_is : (i : TableInfo) → all_of (info_fields i) ≡ info_bytes i
info_is i =
    let rest : List ℕ = rest_bytes i.level i.keys in
    let times : List ℕ = times_bytes i.least i.greatest i.dead in
    ap (λ t. u64 i.number ++ (u64 i.bytes ++ (bytes16 i.first ++ (bytes16 i.last ++ (i64 i.least ++ (i64 i.greatest ++ (maybe i64 i.dead ++ (u8 i.level ++ t))))))))
    (append-nil (u32 i.keys))
    ∙ ap (λ t. u64 i.number ++ (u64 i.bytes ++ (bytes16 i.first ++ (bytes16 i.last ++ t))))
    (ap (λ t. i64 i.least ++ t) (sym (append_assoc (i64 i.greatest) (maybe i64 i.dead) rest)) ∙ sym (append_assoc (i64 i.least) (i64 i.greatest ++ maybe i64 i.dead) rest))
    ∙ ap (λ t. u64 i.number ++ (u64 i.bytes ++ t)) (sym (append_assoc (bytes16 i.first) (bytes16 i.last) (times ++ rest)))
    ∙ sym (append_assoc (u64 i.number) (u64 i.bytes) (range_bytes i.first i.last ++ (times ++ rest)))

-- index, filter and info
pub spelled : (ps : List PartitionEntry) (i : TableInfo) → all_of (fields_for ps i) ≡ index_bytes ps ++ (filter_bytes (filter_for ps) ++ info_bytes i)
spelled ps i =
    flat_both (λ (f : List ℕ). f) (index_fields ps) (filter_fields (filter_for ps) ++ info_fields i)
    ∙ (λ j. index_is ps j ++ (flat_both (λ (f : List ℕ). f) (filter_fields (filter_for ps)) (info_fields i) ∙ λ k. filter_is (filter_for ps) k ++ info_is i k) j)
