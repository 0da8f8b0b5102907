-- Just those files are loaded that are header, partitions, index, filter, info and footer one behind another; the file of contents is one.
use Rattle.std.proofs.Common.{◌≡◌, ℕ, ◌+◌, ◌-◌, ◌*◌, ◌<◌, ◌≤◌, leb, ltb, eqb, Bool, true, false, cond, List, [], ◌∷◌, ◌++◌, length, take, drop, None, Result, Ok, Err, refl, sym, ap, subst, ◌∙◌, append_assoc, arith, length-append, length-take, length-drop, take-append-drop}
use Rattle.std.specs.Prelude.{slice_get}
use Rattle.std.specs.Int.{is_in_range}
use Rattle.std.specs.List.{last_or}
use Rattle.std.proofs.lemmas.Bool.{leb-true, le-leb, ltb-true, lt-ltb, eqb-true, eq-eqb, and_parts, and_from}
use Rattle.std.proofs.lemmas.List.{append-nil, take_at, drop_at, take_all, drop-drop, length-take-le}
use Rattle.std.proofs.lemmas.List.Elements.{All-drop, All-take}
use Rattle.cas_bounds.specs.declared.order.Ordered.{Ordered}
use Rattle.cas_codec.specs.declared.fault.ReadFault.{ReadFault}
use Rattle.cas_codec.specs.declared.fault.ReadFault.TheVariants.{Bad}
use Rattle.cas_codec.specs.Reading.{Left, Read, ◌>>=◌}
use Rattle.cas_codec.specs.Exact.{AreBytes, IsExact}
use Rattle.cas_codec.proofs.Exactness.{bind_ok, test_ok, ok_is, read_left}
use Rattle.cas_info.specs.Allowed.{FitsInfo}
use Rattle.cas_info.specs.Spelling.{info_bytes}
use Rattle.cas_info.specs.declared.info.TableInfo.{TableInfo}
use Rattle.cas_filter.specs.Allowed.{FitsFilter}
use Rattle.cas_filter.specs.Filters.{bits_for}
use Rattle.cas_filter.specs.Reading.{filter_at}
use Rattle.cas_filter.specs.Spelling.{filter_bytes}
use Rattle.cas_filter.proofs.Exact.{filter_exact}
use Rattle.cas_index.specs.Allowed.{FitsIndex, FitsFooter}
use Rattle.cas_index.specs.Entries.{last_place}
use Rattle.cas_index.specs.Reading.{index_at, footer_at}
use Rattle.cas_index.specs.Spelling.{index_bytes, footer_bytes}
use Rattle.cas_index.specs.declared.footer.TheConstants.{FOOTER_LENGTH}
use Rattle.cas_index.specs.declared.footer.Footer.{Footer}
use Rattle.cas_index.specs.declared.entries.PartitionEntry.{PartitionEntry}
use Rattle.cas_index.proofs.IndexLaws.{index_exact, footer_exact}
use Rattle.cas_tables.specs.declared.header.TheConstants.{HEADER_LENGTH}
use Rattle.cas_fragments.specs.declared.heads.Version.{Version}
use Rattle.cas_fragments.specs.declared.heads.Version.TheVariants.{Second}
use Rattle.cas_tables.specs.Allowed.{FitsHeader}
use Rattle.cas_tables.specs.Reading.{header_of_at}
use Rattle.cas_tables.specs.Spelling.{header_bytes}
use Rattle.cas_tables.proofs.HeaderLaws.{header_of_exact}
use Rattle.cas_tables.proofs.Lengths.{header_long, footer_long}
use Rattle.cas_sstread.specs.Reading.{part, filled_at, in_order, last_footer_at, own_place, stand_before, own_index_at, own_filter_at, own_info_at, Loaded, loaded_at}
use Rattle.cas_sstread.specs.Laws.{head_for, footer_for, HaveKeys, LoadsAs}
use Rattle.cas_sstread.proofs.ToldLaws.{told_exact}

-- ---- steps

bind_to : {A B : Type 0} (r : Result A ReadFault) (x : A) (f : A → Result B ReadFault) (y : Result B ReadFault) → r ≡ Ok x → f x ≡ y → (r >>= f) ≡ y
bind_to r x f y e g = ap (λ s. s >>= f) e ∙ g

cond_yes : {A : Type 0} (b : Bool) (x y : A) → b ≡ true → cond b x y ≡ x
cond_yes b x y e = ap (λ (c : Bool). cond c x y) e

cond_ok : {A : Type 0} (b : Bool) (r : Result A ReadFault) (d : ReadFault) (y : A) → cond b r (Err d) ≡ Ok y → (b ≡ true) × (r ≡ Ok y)
cond_ok true r d y e = (refl, e)
cond_ok false r d y e = absurd cc

between : (least greatest n : ℕ) → least ≤ n → n ≤ greatest → is_in_range least greatest n ≡ true
between least greatest n low high = and_from (leb least n) (leb n greatest) (le-leb least n low) (le-leb n greatest high)

bounds : (least greatest n : ℕ) → is_in_range least greatest n ≡ true → (least ≤ n) × (n ≤ greatest)
bounds least greatest n e = let p = and_parts (leb least n) (leb n greatest) e in (leb-true least n p.0, leb-true n greatest p.1)

none : (xs : List ℕ) → length xs ≡ 0 → xs ≡ []
none [] e = refl
none (x ∷ xs) e = absurd (omega arith)

-- ---- what fills a part

module _ {A : Type 0} (Fits : A → Type 0) (spelling : A → List ℕ) (reading : Left → Read A) (exact : IsExact Fits spelling reading) where
  filled_again : (x : A) (bytes : List ℕ) (at : ℕ) → Fits x → bytes ≡ spelling x → filled_at reading (read_left bytes at) ≡ Ok x
  unfolding filled_at
  filled_again x bytes at fit is =
      let same : bytes ≡ spelling x ++ [] = is ∙ sym (append-nil (spelling x)) in
      ap (λ (r : Read A). r >>= λ (found : A × Left). cond (eqb (length found.1.bytes) 0) (Ok found.0) (Err (Bad found.1.at)))
      (ap (λ (l : List ℕ). reading (read_left l at)) same ∙ exact.again x [] at fit)

  filled_found : (x : A) (bytes : List ℕ) (at : ℕ) → AreBytes bytes → filled_at reading (read_left bytes at) ≡ Ok x → Fits x × (bytes ≡ spelling x)
  unfolding filled_at
  filled_found x bytes at are e =
      let p = bind_ok (reading (read_left bytes at)) (λ (found : A × Left). cond (eqb (length found.1.bytes) 0) (Ok found.0) (Err (Bad found.1.at))) x e in
      let t = test_ok (eqb (length p.0.1.bytes) 0) (Bad p.0.1.at) p.0.0 x p.2 in
      let g = exact.found (read_left bytes at) p.0.1 p.0.0 are p.1 in
      let end : p.0.1.bytes ≡ [] = none p.0.1.bytes (eqb-true (length p.0.1.bytes) 0 t.0) in
      let all : bytes ≡ spelling p.0.0 = g.1.bytes ∙ ap (λ (l : List ℕ). spelling p.0.0 ++ l) end ∙ append-nil (spelling p.0.0) in
      (subst Fits t.1 g.0, all ∙ ap spelling t.1)

-- ---- the parts

in_order_again : (end : ℕ) (f : Footer) → HEADER_LENGTH ≤ f.index → f.index ≤ f.filter → f.filter ≤ f.info → f.info ≤ end → in_order end f ≡ Ok f
unfolding in_order
in_order_again end f a b c d =
    cond_yes (is_in_range HEADER_LENGTH end f.index) _ _ (between HEADER_LENGTH end f.index a (omega arith))
    ∙ cond_yes (is_in_range f.index end f.filter) _ _ (between f.index end f.filter b (omega arith))
    ∙ cond_yes (is_in_range f.filter end f.info) _ _ (between f.filter end f.info c d)

in_order_found : (end : ℕ) (f g : Footer) → in_order end f ≡ Ok g → (HEADER_LENGTH ≤ f.index) × (f.index ≤ f.filter) × (f.filter ≤ f.info) × (f.info ≤ end) × (f ≡ g)
unfolding in_order
in_order_found end f g e =
    let p = cond_ok (is_in_range HEADER_LENGTH end f.index) _ _ g e in
    let q = cond_ok (is_in_range f.index end f.filter) _ _ g p.1 in
    let r = cond_ok (is_in_range f.filter end f.info) _ _ g q.1 in
    ((bounds _ _ _ p.0).0, (bounds _ _ _ q.0).0, (bounds _ _ _ r.0).0, (bounds _ _ _ r.0).1, ok_is f g r.1)

footer_again : (f : Footer) (bytes : List ℕ) (at : ℕ) → FitsFooter f → bytes ≡ footer_bytes f → HEADER_LENGTH ≤ f.index → f.index ≤ f.filter → f.filter ≤ f.info → f.info ≤ at
    → last_footer_at (read_left bytes at) ≡ Ok f
unfolding last_footer_at
footer_again f bytes at fit is a b c d =
    bind_to (filled_at footer_at (read_left bytes at)) f (λ g. in_order at g) (Ok f) (filled_again FitsFooter footer_bytes footer_at footer_exact f bytes at fit is) (in_order_again at f a b c d)

footer_found : (f : Footer) (bytes : List ℕ) (at : ℕ) → AreBytes bytes → last_footer_at (read_left bytes at) ≡ Ok f
    → (bytes ≡ footer_bytes f) × (HEADER_LENGTH ≤ f.index) × (f.index ≤ f.filter) × (f.filter ≤ f.info) × (f.info ≤ at)
unfolding last_footer_at
footer_found f bytes at are e =
    let p = bind_ok (filled_at footer_at (read_left bytes at)) (λ g. in_order at g) f e in
    let o = in_order_found at p.0 f p.2 in
    let g = filled_found FitsFooter footer_bytes footer_at footer_exact p.0 bytes at are p.1 in
    subst (λ (h : Footer). (bytes ≡ footer_bytes h) × (HEADER_LENGTH ≤ h.index) × (h.index ≤ h.filter) × (h.filter ≤ h.info) × (h.info ≤ at)) o.4 (g.1, o.0, o.1, o.2, o.3)

stand_parts : (end : ℕ) (ps : List PartitionEntry) → stand_before end ps ≡ true → (own_place (slice_get ps 0) ≡ HEADER_LENGTH) × (last_place (last_or None ps) < end)
unfolding stand_before
stand_parts end ps e =
    let p = and_parts (eqb (own_place (slice_get ps 0)) HEADER_LENGTH) (ltb (last_place (last_or None ps)) end) e in
    (eqb-true (own_place (slice_get ps 0)) HEADER_LENGTH p.0, ltb-true (last_place (last_or None ps)) end p.1)

stand_from : (end : ℕ) (ps : List PartitionEntry) → own_place (slice_get ps 0) ≡ HEADER_LENGTH → last_place (last_or None ps) < end → stand_before end ps ≡ true
unfolding stand_before
stand_from end ps a b =
    and_from (eqb (own_place (slice_get ps 0)) HEADER_LENGTH) (ltb (last_place (last_or None ps)) end) (eq-eqb _ _ a) (lt-ltb _ _ b)

index_again : (order : List Ordered) (ps : List PartitionEntry) (bytes : List ℕ) (at : ℕ) → FitsIndex order ps → bytes ≡ index_bytes ps
    → own_place (slice_get ps 0) ≡ HEADER_LENGTH → last_place (last_or None ps) < at → own_index_at order (read_left bytes at) ≡ Ok ps
unfolding own_index_at
index_again order ps bytes at fit is a b =
    bind_to (filled_at (index_at order) (read_left bytes at)) ps (λ qs. cond (stand_before at qs) (Ok qs) (Err (Bad at))) (Ok ps)
    (filled_again (FitsIndex order) index_bytes (index_at order) (index_exact order) ps bytes at fit is)
    (cond_yes (stand_before at ps) _ _ (stand_from at ps a b))

index_found : (order : List Ordered) (ps : List PartitionEntry) (bytes : List ℕ) (at : ℕ) → AreBytes bytes → own_index_at order (read_left bytes at) ≡ Ok ps
    → FitsIndex order ps × (bytes ≡ index_bytes ps) × (own_place (slice_get ps 0) ≡ HEADER_LENGTH) × (last_place (last_or None ps) < at)
unfolding own_index_at
index_found order ps bytes at are e =
    let p = bind_ok (filled_at (index_at order) (read_left bytes at)) (λ (qs : List PartitionEntry). cond (stand_before at qs) (Ok qs) (Err (Bad at))) ps e in
    let t = test_ok (stand_before at p.0) (Bad at) p.0 ps p.2 in
    let s = stand_parts at p.0 t.0 in
    let g = filled_found (FitsIndex order) index_bytes (index_at order) (index_exact order) p.0 bytes at are p.1 in
    subst (λ (qs : List PartitionEntry). FitsIndex order qs × (bytes ≡ index_bytes qs) × (own_place (slice_get qs 0) ≡ HEADER_LENGTH) × (last_place (last_or None qs) < at))
    t.1 (g.0, g.1, s.0, s.1)

filter_again : (keys : ℕ) (f : List ℕ) (bytes : List ℕ) (at : ℕ) → FitsFilter f → bytes ≡ filter_bytes f → 8 * length f ≡ bits_for keys
    → own_filter_at keys (read_left bytes at) ≡ Ok f
unfolding own_filter_at
filter_again keys f bytes at fit is bits =
    bind_to (filled_at filter_at (read_left bytes at)) f (λ g. cond (eqb (8 * length g) (bits_for keys)) (Ok g) (Err (Bad at))) (Ok f)
    (filled_again FitsFilter filter_bytes filter_at filter_exact f bytes at fit is)
    (cond_yes (eqb (8 * length f) (bits_for keys)) _ _ (eq-eqb _ _ bits))

filter_found : (keys : ℕ) (f : List ℕ) (bytes : List ℕ) (at : ℕ) → AreBytes bytes → own_filter_at keys (read_left bytes at) ≡ Ok f
    → FitsFilter f × (bytes ≡ filter_bytes f) × (8 * length f ≡ bits_for keys)
unfolding own_filter_at
filter_found keys f bytes at are e =
    let p = bind_ok (filled_at filter_at (read_left bytes at)) (λ (g : List ℕ). cond (eqb (8 * length g) (bits_for keys)) (Ok g) (Err (Bad at))) f e in
    let t = test_ok (eqb (8 * length p.0) (bits_for keys)) (Bad at) p.0 f p.2 in
    let g = filled_found FitsFilter filter_bytes filter_at filter_exact p.0 bytes at are p.1 in
    subst (λ (h : List ℕ). FitsFilter h × (bytes ≡ filter_bytes h) × (8 * length h ≡ bits_for keys)) t.1 (g.0, g.1, eqb-true _ _ t.0)

-- ---- pieces of a file

piece : (before x after file : List ℕ) (at count : ℕ) → file ≡ before ++ (x ++ after) → length before ≡ at → length x ≡ count → take count (drop at file) ≡ x
piece before x after file at count is long own =
    ap (λ (l : List ℕ). take count (drop at l)) is ∙ ap (take count) (drop_at before (x ++ after) at long) ∙ take_at x after count own

-- the last piece, of which more is asked for than there is
last_piece : (before x file : List ℕ) (at count : ℕ) → file ≡ before ++ x → length before ≡ at → length x ≤ count → take count (drop at file) ≡ x
last_piece before x file at count is long few =
    ap (λ (l : List ℕ). take count (drop at l)) is ∙ ap (take count) (drop_at before x at long) ∙ take_all count x few

later : (file a x r : List ℕ) → file ≡ a ++ (x ++ r) → file ≡ (a ++ x) ++ r
later file a x r e = e ∙ sym (append_assoc a x r)

-- ---- a file of that kind is loaded

-- how long its parts are
record Lengths (info : TableInfo) (file : List ℕ) (k : Loaded) (body : List ℕ) : Type 0 where
  end : k.end ≡ HEADER_LENGTH + length body
  whole : info.bytes ≡ k.end + length (index_bytes k.partitions) + length (filter_bytes k.filter) + length (info_bytes info) + FOOTER_LENGTH

lengths_of : (order : List Ordered) (table shard : ℕ) (info : TableInfo) (file : List ℕ) (k : Loaded) (l : LoadsAs order table shard info file k)
    → Lengths info file k l.body
lengths_of order table shard info file k l =
    let head : List ℕ = header_bytes (head_for table shard info.number k.version) in
    let index : List ℕ = index_bytes k.partitions in
    let filter : List ℕ = filter_bytes k.filter in
    let told : List ℕ = info_bytes info in
    let footer : List ℕ = footer_bytes (footer_for k) in
    record {
      end = l.end;
      whole = omega (
        arith,
        l.long,
        l.end,
        ap length l.spelled,
        header_long (head_for table shard info.number k.version),
        footer_long (footer_for k),
        length-append head (l.body ++ (index ++ (filter ++ (told ++ footer)))),
        length-append l.body (index ++ (filter ++ (told ++ footer))),
        length-append index (filter ++ (told ++ footer)),
        length-append filter (told ++ footer),
        length-append told footer,
      );
    }

-- where they stand
record Pieces (table shard : ℕ) (info : TableInfo) (file : List ℕ) (k : Loaded) : Type 0 where
  head : take HEADER_LENGTH file ≡ header_bytes (head_for table shard info.number k.version)
  index : take ((footer_for k).filter - (footer_for k).index) (drop (footer_for k).index file) ≡ index_bytes k.partitions
  filter : take ((footer_for k).info - (footer_for k).filter) (drop (footer_for k).filter file) ≡ filter_bytes k.filter
  told : take (info.bytes - FOOTER_LENGTH - (footer_for k).info) (drop (footer_for k).info file) ≡ info_bytes info
  footer : take (FOOTER_LENGTH + 1) (drop (info.bytes - FOOTER_LENGTH) file) ≡ footer_bytes (footer_for k)

pieces_of : (order : List Ordered) (table shard : ℕ) (info : TableInfo) (file : List ℕ) (k : Loaded) → LoadsAs order table shard info file k
    → Pieces table shard info file k
pieces_of order table shard info file k l =
    let head : List ℕ = header_bytes (head_for table shard info.number k.version) in
    let index : List ℕ = index_bytes k.partitions in
    let filter : List ℕ = filter_bytes k.filter in
    let told : List ℕ = info_bytes info in
    let footer : List ℕ = footer_bytes (footer_for k) in
    let n = lengths_of order table shard info file k l in
    let long : length head ≡ HEADER_LENGTH = header_long (head_for table shard info.number k.version) in
    let a : List ℕ = head ++ l.body in
    let a-long : length a ≡ k.end = omega (arith, length-append head l.body, n.end) in
    let at-index : file ≡ a ++ (index ++ (filter ++ (told ++ footer))) = later file head l.body (index ++ (filter ++ (told ++ footer))) l.spelled in
    let b : List ℕ = a ++ index in
    let b-long : length b ≡ k.end + length index = omega (arith, length-append a index) in
    let at-filter : file ≡ b ++ (filter ++ (told ++ footer)) = later file a index (filter ++ (told ++ footer)) at-index in
    let c : List ℕ = b ++ filter in
    let c-long : length c ≡ k.end + length index + length filter = omega (arith, length-append b filter) in
    let at-told : file ≡ c ++ (told ++ footer) = later file b filter (told ++ footer) at-filter in
    let d : List ℕ = c ++ told in
    let d-long : length d ≡ info.bytes - FOOTER_LENGTH = omega (arith, length-append c told, n.whole) in
    let at-footer : file ≡ d ++ footer = later file c told footer at-told in
    record {
      head = ap (take HEADER_LENGTH) l.spelled ∙ take_at head (l.body ++ (index ++ (filter ++ (told ++ footer)))) HEADER_LENGTH long;
      index = piece a index (filter ++ (told ++ footer)) file k.end (k.end + length index - k.end) at-index a-long (omega arith);
      filter = piece b filter (told ++ footer) file (k.end + length index) (k.end + length index + length filter - (k.end + length index)) at-filter b-long (omega arith);
      told = piece c told footer file (k.end + length index + length filter) (info.bytes - FOOTER_LENGTH - (k.end + length index + length filter)) at-told c-long
          (omega (arith, n.whole));
      footer = last_piece d footer file (info.bytes - FOOTER_LENGTH) (FOOTER_LENGTH + 1) at-footer d-long (omega (arith, footer_long (footer_for k)));
    }

footer_room : (info : TableInfo) (file : List ℕ) (k : Loaded) (body : List ℕ) → FitsInfo info → Lengths info file k body → FitsFooter (footer_for k)
footer_room info file k body fit n = let most = fit.bytes in (omega (arith, n.whole), omega (arith, n.whole), omega (arith, n.whole))

pub loads_again : (order : List Ordered) (table shard : ℕ) (info : TableInfo) (file : List ℕ) (k : Loaded) → FitsHeader (head_for table shard info.number Second)
    → FitsInfo info → LoadsAs order table shard info file k → loaded_at order table shard info file ≡ Ok k
unfolding loaded_at
loads_again order table shard info file k head fit l =
    let n = lengths_of order table shard info file k l in
    let p = pieces_of order table shard info file k l in
    let f : Footer = footer_for k in
    bind_to (filled_at (header_of_at table shard info.number) (part file 0 HEADER_LENGTH)) k.version _ (Ok k)
    (filled_again (λ v. Unit {0}) (λ v. header_bytes (head_for table shard info.number v)) (header_of_at table shard info.number)
    (header_of_exact (head_for table shard info.number Second) head) k.version (take HEADER_LENGTH file) 0 tt p.head)
    (bind_to (last_footer_at (part file (info.bytes - FOOTER_LENGTH) (FOOTER_LENGTH + 1))) f _ (Ok k)
    (footer_again f (take (FOOTER_LENGTH + 1) (drop (info.bytes - FOOTER_LENGTH) file)) (info.bytes - FOOTER_LENGTH) (footer_room info file k l.body fit n) p.footer
    (omega (arith, n.end)) (omega arith) (omega arith) (omega (arith, n.whole)))
    (bind_to (own_index_at order (part file f.index (f.filter - f.index))) k.partitions _ (Ok k)
    (index_again order k.partitions (take (f.filter - f.index) (drop f.index file)) f.index l.index p.index l.start l.within)
    (bind_to (own_filter_at (length k.partitions) (part file f.filter (f.info - f.filter))) k.filter _ (Ok k)
    (filter_again (length k.partitions) k.filter (take (f.info - f.filter) (drop f.filter file)) f.filter l.filter p.filter l.bits)
    (bind_to (filled_at (own_info_at info k.partitions) (part file f.info (info.bytes - FOOTER_LENGTH - f.info))) tt _ (Ok k)
    (filled_again (λ u. HaveKeys info k.partitions) (λ u. info_bytes info) (own_info_at info k.partitions) (told_exact info k.partitions fit) tt
    (take (info.bytes - FOOTER_LENGTH - f.info) (drop f.info file)) f.info l.keys p.told)
    refl))))

-- ---- what is loaded is a file of that kind

are_piece : (at count : ℕ) (file : List ℕ) → AreBytes file → AreBytes (take count (drop at file))
are_piece at count file are = record { each = All-take (λ b. b < 256) count (drop at file) (All-drop (λ b. b < 256) at file are.each) }

split : (a b : ℕ) (xs : List ℕ) → a ≤ b → drop a xs ≡ take (b - a) (drop a xs) ++ drop b xs
split a b xs low =
    let both : a + (b - a) ≡ b = omega arith in
    sym (take-append-drop (b - a) (drop a xs))
    ∙ ap (λ (t : List ℕ). take (b - a) (drop a xs) ++ t) (drop-drop (b - a) a xs ∙ ap (λ (n : ℕ). drop n xs) both)

-- what is shorter than what was asked for is all that there is
all_there : (n : ℕ) (xs : List ℕ) → length (take n xs) < n → take n xs ≡ xs
all_there n xs short = take_all n xs (omega (arith, length-take n xs))

-- one part of the file behind another, from the footer's places
in_parts : (file head index filter told footer : List ℕ) (i f n e : ℕ) → HEADER_LENGTH ≤ i → i ≤ f → f ≤ n → n ≤ e
    → take HEADER_LENGTH file ≡ head → take (f - i) (drop i file) ≡ index → take (n - f) (drop f file) ≡ filter → take (e - n) (drop n file) ≡ told
    → drop e file ≡ footer → file ≡ head ++ (take (i - HEADER_LENGTH) (drop HEADER_LENGTH file) ++ (index ++ (filter ++ (told ++ footer))))
in_parts file head index filter told footer i f n e a b c d is-head is-index is-filter is-told is-footer =
    let body : List ℕ = take (i - HEADER_LENGTH) (drop HEADER_LENGTH file) in
    let behind-told : drop n file ≡ told ++ footer = split n e file d ∙ (λ j. is-told j ++ is-footer j) in
    let behind-filter : drop f file ≡ filter ++ (told ++ footer) = split f n file c ∙ (λ j. is-filter j ++ behind-told j) in
    let behind-index : drop i file ≡ index ++ (filter ++ (told ++ footer)) = split i f file b ∙ (λ j. is-index j ++ behind-filter j) in
    let behind-head : drop HEADER_LENGTH file ≡ body ++ (index ++ (filter ++ (told ++ footer))) =
    split HEADER_LENGTH i file a ∙ ap (λ (t : List ℕ). body ++ t) behind-index in
    sym (take-append-drop HEADER_LENGTH file) ∙ (λ j. is-head j ++ behind-head j)

-- the numbers of a file whose parts were found
record Numbers (info : TableInfo) (file : List ℕ) (f : Footer) (ps : List PartitionEntry) (filter : List ℕ) : Type 0 where
  long : length file ≡ info.bytes
  body : length (take (f.index - HEADER_LENGTH) (drop HEADER_LENGTH file)) ≡ f.index - HEADER_LENGTH
  second : f.filter ≡ f.index + length (index_bytes ps)
  third : f.info ≡ f.index + length (index_bytes ps) + length (filter_bytes filter)

numbers_of : (info : TableInfo) (file : List ℕ) (f : Footer) (ps : List PartitionEntry) (filter : List ℕ) → HEADER_LENGTH ≤ f.index → f.index ≤ f.filter → f.filter ≤ f.info
    → f.info ≤ info.bytes - FOOTER_LENGTH → drop (info.bytes - FOOTER_LENGTH) file ≡ footer_bytes f
    → take (f.filter - f.index) (drop f.index file) ≡ index_bytes ps → take (f.info - f.filter) (drop f.filter file) ≡ filter_bytes filter
    → Numbers info file f ps filter
numbers_of info file f ps filter a b c d end is-index is-filter =
    let long : length file ≡ info.bytes = omega (arith, length-drop (info.bytes - FOOTER_LENGTH) file, ap length end, footer_long f) in
    record {
      long = long;
      body = length-take-le (f.index - HEADER_LENGTH) (drop HEADER_LENGTH file) (omega (arith, length-drop HEADER_LENGTH file));
      second = omega (arith, ap length is-index, length-take-le (f.filter - f.index) (drop f.index file) (omega (arith, length-drop f.index file)));
      third = omega (
        arith,
        ap length is-index,
        length-take-le (f.filter - f.index) (drop f.index file) (omega (arith, length-drop f.index file)),
        ap length is-filter,
        length-take-le (f.info - f.filter) (drop f.filter file) (omega (arith, length-drop f.filter file)),
      );
    }

pub loads_found : (order : List Ordered) (table shard : ℕ) (info : TableInfo) (file : List ℕ) (k : Loaded) → FitsHeader (head_for table shard info.number Second)
    → FitsInfo info → AreBytes file → loaded_at order table shard info file ≡ Ok k → LoadsAs order table shard info file k
unfolding loaded_at
loads_found order table shard info file k head fit are e =
    let one = bind_ok (filled_at (header_of_at table shard info.number) (part file 0 HEADER_LENGTH)) _ k e in
    let two = bind_ok (last_footer_at (part file (info.bytes - FOOTER_LENGTH) (FOOTER_LENGTH + 1))) _ k one.2 in
    let f : Footer = two.0 in
    let three = bind_ok (own_index_at order (part file f.index (f.filter - f.index))) _ k two.2 in
    let ps : List PartitionEntry = three.0 in
    let four = bind_ok (own_filter_at (length ps) (part file f.filter (f.info - f.filter))) _ k three.2 in
    let filter : List ℕ = four.0 in
    let five = bind_ok (filled_at (own_info_at info ps) (part file f.info (info.bytes - FOOTER_LENGTH - f.info))) _ k four.2 in
    let version : Version = one.0 in
    let made : Loaded = record { version = version; end = f.index; partitions = ps; filter = filter } in
    let same : made ≡ k = ok_is made k five.2 in
    let h = filled_found (λ v. Unit {0}) (λ v. header_bytes (head_for table shard info.number v)) (header_of_at table shard info.number)
    (header_of_exact (head_for table shard info.number Second) head) version (take HEADER_LENGTH file) 0 (are_piece 0 HEADER_LENGTH file are) one.1 in
    let g = footer_found f (take (FOOTER_LENGTH + 1) (drop (info.bytes - FOOTER_LENGTH) file)) (info.bytes - FOOTER_LENGTH)
    (are_piece (info.bytes - FOOTER_LENGTH) (FOOTER_LENGTH + 1) file are) two.1 in
    let i = index_found order ps (take (f.filter - f.index) (drop f.index file)) f.index (are_piece f.index (f.filter - f.index) file are) three.1 in
    let t = filter_found (length ps) filter (take (f.info - f.filter) (drop f.filter file)) f.filter (are_piece f.filter (f.info - f.filter) file are) four.1 in
    let w = filled_found (λ u. HaveKeys info ps) (λ u. info_bytes info) (own_info_at info ps) (told_exact info ps fit) five.0
    (take (info.bytes - FOOTER_LENGTH - f.info) (drop f.info file)) f.info (are_piece f.info (info.bytes - FOOTER_LENGTH - f.info) file are) five.1 in
    let end : drop (info.bytes - FOOTER_LENGTH) file ≡ footer_bytes f =
    sym (all_there (FOOTER_LENGTH + 1) (drop (info.bytes - FOOTER_LENGTH) file) (omega (arith, ap length g.0, footer_long f))) ∙ g.0 in
    let n = numbers_of info file f ps filter g.1 g.2 g.3 g.4 end i.1 t.1 in
    let places : f ≡ footer_for made = λ j. record { index = f.index; filter = n.second j; info = n.third j } in
    subst (λ (l : Loaded). LoadsAs order table shard info file l) same (record {
      body = take (f.index - HEADER_LENGTH) (drop HEADER_LENGTH file);
      spelled = in_parts file (header_bytes (head_for table shard info.number version)) (index_bytes ps) (filter_bytes filter) (info_bytes info) (footer_bytes (footer_for made))
          f.index f.filter f.info (info.bytes - FOOTER_LENGTH) g.1 g.2 g.3 g.4 h.1 i.1 t.1 w.1 (end ∙ ap footer_bytes places);
      end = omega (arith, n.body);
      long = n.long;
      index = i.0;
      start = i.2;
      within = i.3;
      keys = w.0;
      filter = t.0;
      bits = t.2;
    })
