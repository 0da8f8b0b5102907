-- A segment that is begun behind those of a store, and named.
use Rattle.std.proofs.Common.{◌≡◌, ◌≢◌, inl, inr, ⊎_elim, ℕ, ◌+◌, ◌<◌, ◌≤◌, ◌^◌, true, false, List, [], ◌∷◌, ◌++◌, length, take, Option, None, Some, refl, sym, ◌∙◌, ap, subst, arith}
use Rattle.std.specs.List.{AllByRecursion}
use Rattle.std.proofs.lemmas.List.{append-nil, take_all}
use Rattle.cas_codec.specs.Fields.{u8, u64}
use Rattle.cas_disk.specs.declared.name.Name.{Name}
use Rattle.cas_disk.specs.declared.name.Name.TheVariants.{Manifest as manifest_name, Log as log_name}
use Rattle.cas_disk.specs.Disk.{Image, Disk, During, Changed, Same, MayBeAnything, bytes_of}
use Rattle.cas_disk.proofs.Moments.{left_after, reworded, one_call_more, others_kept}
use Rattle.cas_atoms.specs.declared.atom.Mutation.{Mutation}
use Rattle.cas_mutations.specs.Allowed.{FitsRecord}
use Rattle.cas_changes.specs.declared.entry.Entry.{Entry}
use Rattle.cas_changes.specs.declared.entry.Entry.TheVariants.{NewSegment}
use Rattle.cas_changes.specs.declared.said.TheConstants.{FILE_LIMIT, SEGMENT_LIMIT}
use Rattle.cas_changes.specs.Saying.{Saying, nothing, after, said_by, is_listed}
use Rattle.cas_changes.specs.Allowed.{FitsEntry}
use Rattle.cas_changes.specs.Spelling.{entry_bytes}
use Rattle.cas_manifest.specs.File.{front, IsManifest, MayFollow}
use Rattle.cas_manifest.specs.Manifests.{Place, place_of, MayHave, Stands}
use Rattle.cas_manifest.specs.declared.manifest.Manifest.{Manifest}
use Rattle.cas_manifest.proofs.Appends.{said_more}
use Rattle.cas_log.specs.Segment.{IsSegment, joined}
use Rattle.cas_log.specs.Logs.{place_of as log_place}
use Rattle.cas_log.specs.declared.log.Log.{Log}
use Rattle.cas_replay.specs.Reading.{segment_in}
use Rattle.cas_replay.specs.Grammar.{AreSegments}
use Rattle.cas_journal.specs.Stores.{IsStore, Holds}
use Rattle.cas_journal.specs.Journals.{Writes, IsSpare, NoneAbove, Lasts, all_parts}
use Rattle.cas_journal.specs.declared.journal.Journal.{Journal}
use Rattle.cas_journal.proofs.Segments.{segments_agree, log_agrees, others_agree, none_is_manifest, other_log, log_is_no_manifest}
use Rattle.cas_journal.proofs.Holding.{log_file, store_with}
use Rattle.cas_journal.proofs.Moving.{lasting}
use Rattle.cas_opening.specs.Opening.{Stays, HasStayed, next_segment, while_named, found_with, told}
use Rattle.cas_journal.specs.Notes.{Noted}
use Rattle.cas_opening.specs.Inner.Reading.{AreNotedIn}
use Rattle.cas_opening.specs.Inner.Keeping.{Keeps}
use Rattle.cas_opening.specs.Inner.Naming.{HasBegun, IsNamed, IsBegunWith, IsToldOf}
use Rattle.cas_opening.specs.Inner.Sweeping.{Spares, HasOnlyListed}
use Rattle.cas_journal.proofs.Sayings.{is_made as made}
use Rattle.cas_opening.proofs.Saids.{sound, above_listed}
use Rattle.cas_opening.proofs.Keeps.{all_listed_from, keeps_store, spares_keeps, same_spares}

pub short_name : (n : ℕ) → length (u8 3 ++ u64 n) < 2 ^ 32
unfolding u8 u64
short_name n = omega arith

-- ---- images

pub store_spared : (entries : List Entry) (ms : List Mutation) (d c : Image) → IsStore entries ms d → Spares (said_by entries) d c → IsStore entries ms c
store_spared entries ms d c store spared =
    let s = said_by entries in
    record {
      file = store.file;
      there = spared manifest_name tt ∙ store.there;
      manifest = store.manifest;
      made = store.made;
      log = log_agrees s.tables s.shards (segment_in d) (segment_in c) s.segments ms
          (all_listed_from (λ n. segment_in c n ≡ segment_in d n) s.segments (λ n is. ap bytes_of (spared (log_name n) is))) store.log;
    }

-- its manifest was written again, with the same entries
store_again : (entries : List Entry) (ms : List Mutation) (d c : Image) → IsStore entries ms d → ((k : Name) → k ≢ manifest_name → c k ≡ d k) → (f : List ℕ) → c manifest_name ≡ Some f
    → IsManifest entries f → IsStore entries ms c
store_again entries ms d c store same f there is =
    let s = said_by entries in
    record {
      file = f;
      there = there;
      manifest = is;
      made = store.made;
      log = log_agrees s.tables s.shards (segment_in d) (segment_in c) s.segments ms (others_agree c d manifest_name s.segments same (none_is_manifest s.segments)) store.log;
    }

all_taken : (entries : List Entry) (ms : List Mutation) (c : Image) → IsStore entries ms c → IsStore entries (take (length ms) ms) c
all_taken entries ms c store = subst (λ (l : List Mutation). IsStore entries l c) (sym (take_all (length ms) ms (omega arith))) store

module _ (entries : List Entry) (ms : List Mutation) where
  pub holds_store : (c : Image) → IsStore entries ms c → Holds (while_named entries ms) c
  holds_store c store = record { entries = entries; listed = inl refl; gone = 0; front = inl refl; count = length ms; least = omega arith; most = omega arith; store = all_taken entries ms c store }

  holds_named : (n : ℕ) → n ≡ next_segment entries → (c : Image) → IsStore (entries ++ NewSegment n ∷ []) ms c → Holds (while_named entries ms) c
  holds_named n next c store = record {
    entries = entries ++ NewSegment n ∷ [];
    listed = inr (ap (λ (k : ℕ). entries ++ NewSegment k ∷ []) next);
    gone = 0;
    front = inl refl;
    count = length ms;
    least = omega arith;
    most = omega arith;
    store = all_taken (entries ++ NewSegment n ∷ []) ms c store;
  }

  pub stayed_more : (a b z : Disk) → During (HasStayed entries ms) a b → During (HasStayed entries ms) b z → During (HasStayed entries ms) a z
  stayed_more a b z first second =
      one_call_more (HasStayed entries ms) (HasStayed entries ms) a b z first second (λ d c was mid stayed. stayed)
      (λ e d c was before mid stayed. record { holds = stayed.holds; stays = λ n other stays. stayed.stays n other stays ∙ before.stays n other stays })

  -- ---- a segment that is begun

  module _ (place : Place) (n : ℕ) (next : n ≡ next_segment entries) where
    spares_next : (change : Option (List ℕ) → Option (List ℕ) → Type 0) (d c : Image) → MayFollow nothing entries → Changed (log_name n) change d c → Spares (said_by entries) d c
    spares_next change d c follow changed k stays = changed.others k (λ is. listed_not k is stays)
      where
        listed_not : (k : Name) → k ≡ log_name n → Stays (said_by entries) k → ⊥
        listed_not k is stays =
            let listed : is_listed (said_by entries).segments n ≡ true = subst (λ (m : Name). Stays (said_by entries) m) is stays in
            let above : is_listed (said_by entries).segments n ≡ false = above_listed (said_by entries) (sound entries follow) n (omega (arith, next)) in
            absurd cc

    pub begun_stayed : (a b : Disk) → Keeps place entries ms a → During (Changed (log_name n) MayBeAnything) a b → During (HasStayed entries ms) a b
    begun_stayed a b keeps call =
        reworded (Changed (log_name n) MayBeAnything) (HasStayed entries ms) a b call
        (λ d c was changed.
        let spared = spares_next MayBeAnything d c keeps.manifest.follow changed in
        record { holds = holds_store c (store_spared entries ms d c (keeps_store place entries ms a keeps d was) spared); stays = λ k other stays. spared k stays })

    pub begun_keeps : (a b : Disk) → Keeps place entries ms a → During (Changed (log_name n) MayBeAnything) a b → Keeps place entries ms b
    begun_keeps a b keeps call =
        spares_keeps place entries ms a b
        (reworded (Changed (log_name n) MayBeAnything) (Spares (said_by entries)) a b call (λ d c was changed. spares_next MayBeAnything d c keeps.manifest.follow changed)) keeps

    pub fits_next : (disk : Disk) → Keeps place entries ms disk → n ≤ SEGMENT_LIMIT → FitsEntry (said_by entries) (NewSegment n)
    fits_next disk keeps few = (made entries keeps.made keeps.manifest.follow, omega (arith, next), few)

    module _ (b z : Disk) (keeps : Keeps place entries ms b) (few : n ≤ SEGMENT_LIMIT) (log : Log) (number : (log_place log).number ≡ n) (begun : HasBegun log b)
        (call : During (Changed manifest_name (λ _ f. MayHave entries (NewSegment n) f)) b z) where
      its_segment : (d : Image) → b.may_leave d → IsSegment n [] (segment_in d n)
      its_segment d was = subst (λ (k : ℕ). IsSegment k [] (segment_in d k)) number (log_file log b [] begun.stands d was)

      pub named_stayed : During (HasStayed entries ms) b z
      named_stayed =
          reworded (Changed manifest_name (λ _ f. MayHave entries (NewSegment n) f)) (HasStayed entries ms) b z call
          (λ d c was changed. record { holds = by_manifest d c was changed.here changed.others; stays = λ k other stays. changed.others k other })
        where
          by_manifest : (d c : Image) → b.may_leave d → MayHave entries (NewSegment n) (c manifest_name) → ((k : Name) → k ≢ manifest_name → c k ≡ d k) → Holds (while_named entries ms) c
          by_manifest d c was (f, there, inl without) same = holds_store c (store_again entries ms d c (keeps_store place entries ms b keeps d was) same f there without)
          by_manifest d c was (f, there, inr with_it) same =
              holds_named n next c (store_with entries (NewSegment n) ms d c (keeps_store place entries ms b keeps d was) tt (fits_next b keeps few) (its_segment d was) same f there with_it)

      -- the journal that writes it
      pub named_lasts : (j : Journal) (m : Manifest) → j.manifest ≡ m → j.log ≡ Some log → j.spare ≡ None → j.last_segment ≡ n
          → Stands (place_of m) z (entries ++ NewSegment n ∷ []) → Noted j.notes (found_with entries ms) (after (said_by entries) (NewSegment n)) (keeps.parts ++ [] ∷ []) → Lasts j z (told entries ms (n ∷ []))
      named_lasts j m of writes none last stands noted =
          let s = said_by entries in
          let e = NewSegment n in
          let said : said_by (entries ++ e ∷ []) ≡ record s { segments = s.segments ++ n ∷ []; last_segment = n } = said_more entries e in
          lasting j z (told entries ms (n ∷ [])) (record {
            manifest = subst (λ (x : Manifest). Stands (place_of x) z (entries ++ e ∷ [])) (sym of) stands;
            none_failed = refl;
            none_leaving = refl;
            made = λ nil. one_there entries nil;
            before = s.segments;
            parts = keeps.parts;
            earlier = λ c left. subst (λ (u : Saying). AreSegments u.tables u.shards (segment_in c) s.segments keeps.parts) (sym said)
                (⊎_elim (λ was. keeps.segments c was)
                (λ changed. segments_agree s.tables s.shards (segment_in changed.0) (segment_in c) s.segments keeps.parts
                (others_agree c changed.0 manifest_name s.segments changed.2.others (none_is_manifest s.segments)) (keeps.segments changed.0 changed.1))
                (left_after (Changed manifest_name (λ _ f. MayHave entries e f)) b z call c left));
            written = [];
            pushed = [];
            writes = subst (λ (o : Option Log). Writes o (said_by (entries ++ e ∷ [])).segments s.segments [] [] z) (sym writes) (
              ap (λ (u : Saying). u.segments) said ∙ ap (λ (k : ℕ). s.segments ++ k ∷ []) (sym number),
              record {
                blocks = begun.stands.blocks;
                all = begun.stands.all;
                kept = others_kept (log_name (log_place log).number) manifest_name (λ _ f. MayHave entries e f) _ b z (log_is_no_manifest (log_place log).number) call begun.stands.kept;
                end = begun.stands.end;
              },
              begun.pushed,
            );
            all = append-nil (joined keeps.parts) ∙ keeps.all;
            committed = ap length (append-nil (joined keeps.parts) ∙ keeps.all);
            fit = subst (λ (u : Saying). AllByRecursion (FitsRecord u.tables u.shards) ms) (sym said) keeps.fit;
            ordered = keeps.ordered;
            last = omega (arith, ap (λ (u : Saying). u.last_segment) said, last);
            spare = subst (λ (o : Option Log). IsSpare o (said_by (entries ++ e ∷ [])).last_segment z) (sym none) tt;
            noted = subst (λ (u : Saying). Noted j.notes (found_with entries ms) u (all_parts j.log keeps.parts [])) (sym said)
                (subst (λ (o : Option Log). Noted j.notes (found_with entries ms) (after s e) (all_parts o keeps.parts [])) (sym writes) noted);
          })
        where
          one_there : (es : List Entry) → es ++ NewSegment n ∷ [] ≡ [] → ⊥
          one_there [] nil = absurd cc
          one_there (x ∷ es) nil = absurd cc

  -- ---- no segment is written

  pub unnamed_lasts : (j : Journal) (m : Manifest) (z : Disk) → j.manifest ≡ m → j.log ≡ None → Keeps (place_of m) entries ms z → (said_by entries).last_segment ≤ j.last_segment
      → IsSpare j.spare (said_by entries).last_segment z → AreNotedIn j.notes (said_by entries) ms → Lasts j z (told entries ms [])
  unnamed_lasts j m z of none keeps last spare noted =
      let s = said_by entries in
      subst (λ (es : List Entry). Lasts j z (record { found = found_with entries ms; entries = es; failed = []; taken = ms; committed = length ms; leaving = 0 })) (sym (append-nil entries))
      (lasting j z (record { found = found_with entries ms; entries = entries; failed = []; taken = ms; committed = length ms; leaving = 0 }) (record {
        manifest = subst (λ (x : Manifest). Stands (place_of x) z entries) (sym of) keeps.manifest;
        none_failed = refl;
        none_leaving = refl;
        made = keeps.made;
        before = s.segments;
        parts = keeps.parts;
        earlier = keeps.segments;
        written = [];
        pushed = [];
        writes = subst (λ (o : Option Log). Writes o s.segments s.segments [] [] z) (sym none) (refl, refl, refl);
        all = append-nil (joined keeps.parts) ∙ keeps.all;
        committed = ap length (append-nil (joined keeps.parts) ∙ keeps.all);
        fit = keeps.fit;
        ordered = keeps.ordered;
        last = last;
        spare = spare;
        noted = subst (λ (o : Option Log). Noted j.notes (found_with entries ms) s (all_parts o keeps.parts [])) (sym none) (noted keeps.parts keeps.long keeps.all);
      }))

-- ---- numbers above which there is no segment

pub none_above_log : (low n : ℕ) (a b : Disk) → low ≤ n → During (Changed (log_name n) MayBeAnything) a b → NoneAbove low a → NoneAbove n b
none_above_log low n a b le call none c left k above =
    ⊎_elim (λ was. none c was k (omega (arith, le, above)))
    (λ made. made.2.others (log_name k) (other_log k n (λ e. absurd (omega (arith, e, above)))) ∙ none made.0 made.1 k (omega (arith, le, above)))
    (left_after (Changed (log_name n) MayBeAnything) a b call c left)

pub none_above_manifest : (low : ℕ) (a b : Disk) → During (Changed manifest_name MayBeAnything) a b → NoneAbove low a → NoneAbove low b
none_above_manifest low a b call none c left k above =
    ⊎_elim (λ was. none c was k above) (λ made. made.2.others (log_name k) (log_is_no_manifest k) ∙ none made.0 made.1 k above)
    (left_after (Changed manifest_name MayBeAnything) a b call c left)

-- where only listed segments are, there is none above the last one
pub none_above_listed : (entries : List Entry) (s : Saying) (disk : Disk) → MayFollow nothing entries → s ≡ said_by entries → HasOnlyListed s.segments disk → NoneAbove s.last_segment disk
none_above_listed entries s disk follow says only c left k above =
    only c left k (subst (λ (u : Saying). u.last_segment < k → is_listed u.segments k ≡ false) (sym says) (above_listed (said_by entries) (sound entries follow) k) above)

-- ---- all of it

module _ (entries : List Entry) (ms : List Mutation) (place : Place) (n : ℕ) (next : n ≡ next_segment entries) (a b z : Disk) (keeps : Keeps place entries ms a) (few : n ≤ SEGMENT_LIMIT)
    (log : Log) (number : (log_place log).number ≡ n) (begun : HasBegun log b) (begins : During (Changed (log_name n) MayBeAnything) a b) where
  -- at each moment
  pub begin_stayed : (Stands place b entries → FitsEntry (said_by entries) (NewSegment n) → During (Changed manifest_name (λ _ f. MayHave entries (NewSegment n) f)) b z)
      → During (HasStayed entries ms) a z
  begin_stayed names =
      let stays = begun_keeps entries ms place n next a b keeps begins in
      stayed_more entries ms a b z (begun_stayed entries ms place n next a b keeps begins)
      (named_stayed entries ms place n next b z stays few log number begun (names stays.manifest (fits_next entries ms place n next b stays few)))

  module _ (s : Saying) (says : s ≡ said_by entries) (j : Journal) (m : Manifest) (of : j.manifest ≡ m) (last : j.last_segment ≡ n) where
    -- it was named
    pub begin_named : (named : Stands place b entries → FitsEntry (said_by entries) (NewSegment n) → Stands (place_of m) z (entries ++ NewSegment n ∷ []))
        → (Stands place b entries → FitsEntry (said_by entries) (NewSegment n) → During (Changed manifest_name (λ _ f. MayHave entries (NewSegment n) f)) b z)
        → (t : Saying) → t ≡ after s (NewSegment n) → j.log ≡ Some log → j.spare ≡ None
        → ((parts : List (List Mutation)) → length parts ≡ length (said_by entries).segments → joined parts ≡ ms → Noted j.notes (found_with entries ms) (after (said_by entries) (NewSegment n)) (parts ++ [] ∷ []))
        → IsBegunWith entries ms j t z
    begin_named named names t took writes none noted =
        let stays = begun_keeps entries ms place n next a b keeps begins in
        let fits = fits_next entries ms place n next b stays few in
        record {
          numbers = n ∷ [];
          begins = inl (ap (λ (k : ℕ). k ∷ []) next);
          lasts = named_lasts entries ms place n next b z stays few log number begun (names stays.manifest fits) j m of writes none last (named stays.manifest fits) (noted stays.parts stays.long stays.all);
          said = took ∙ ap (λ (u : Saying). after u (NewSegment n)) says ∙ sym (said_more entries (NewSegment n));
        }

    -- there was no place for its name
    pub begin_unnamed : (Stands place b entries → FitsEntry (said_by entries) (NewSegment n) → IsNamed entries (NewSegment n) place (place_of m) b z false)
        → j.log ≡ None → j.spare ≡ Some log → AreNotedIn j.notes (said_by entries) ms → IsBegunWith entries ms j s z
    begin_unnamed refused none spare noted =
        let stays = begun_keeps entries ms place n next a b keeps begins in
        let (same, call, full) = refused stays.manifest (fits_next entries ms place n next b stays few) in
        let after_all : Keeps place entries ms z = spares_keeps place entries ms b z (same_spares (said_by entries) b z call) stays in
        record {
          numbers = [];
          begins = inr (refl, inr (subst (λ (k : ℕ). FILE_LIMIT < length (front entries) + length (entry_bytes (NewSegment k)) + 10) next full));
          lasts = unnamed_lasts entries ms j m z of none (subst (λ (p : Place). Keeps p entries ms z) (sym same) after_all) (omega (arith, next, last))
              (subst (λ (o : Option Log). IsSpare o (said_by entries).last_segment z) (sym spare) (
                omega (arith, next, number),
                record {
                  blocks = begun.stands.blocks;
                  all = begun.stands.all;
                  kept = λ c left. ⊎_elim (λ was. begun.stands.kept c was) (λ made. made.2 (log_name (log_place log).number) ∙ begun.stands.kept made.0 made.1) (left_after Same b z call c left);
                  end = begun.stands.end;
                },
                begun.pushed,
              )) noted;
          said = says ∙ ap said_by (sym (append-nil entries));
        }

-- no number was left
pub begin_none : (entries : List Entry) (ms : List Mutation) (m : Manifest) (z : Disk) (s : Saying) (j : Journal) → Keeps (place_of m) entries ms z → s ≡ said_by entries → SEGMENT_LIMIT ≤ s.last_segment
    → j.manifest ≡ m → j.log ≡ None → j.spare ≡ None → j.last_segment ≡ s.last_segment → AreNotedIn j.notes (said_by entries) ms → IsBegunWith entries ms j s z
begin_none entries ms m z s j keeps says most of none no_spare last noted =
    let is : s.last_segment ≡ (said_by entries).last_segment = ap (λ (u : Saying). u.last_segment) says in
    record {
      numbers = [];
      begins = inr (refl, inl (omega (arith, most, is)));
      lasts = unnamed_lasts entries ms j m z of none keeps (omega (arith, last, is)) (subst (λ (o : Option Log). IsSpare o (said_by entries).last_segment z) (sym no_spare) tt) noted;
      said = says ∙ ap said_by (sym (append-nil entries));
    }

-- ---- what the entries alone tell

pub told_none : (entries : List Entry) (s : Saying) (j : Journal) → s ≡ said_by entries → j.last_segment ≤ next_segment entries → IsToldOf entries j s
told_none entries s j says last = record { numbers = []; begins = inl refl; said = says ∙ ap said_by (sym (append-nil entries)); last = last }

pub told_named : (entries : List Entry) (n : ℕ) → n ≡ next_segment entries → n ≤ SEGMENT_LIMIT → (s t : Saying) (j : Journal) → s ≡ said_by entries → t ≡ after s (NewSegment n)
    → j.last_segment ≡ n → IsToldOf entries j t
told_named entries n next few s t j says took last = record {
  numbers = n ∷ [];
  begins = inr (ap (λ (k : ℕ). k ∷ []) next, omega (arith, next, few));
  said = took ∙ ap (λ (u : Saying). after u (NewSegment n)) says ∙ sym (said_more entries (NewSegment n));
  last = omega (arith, next, last);
}

pub none_above_at : (low high : ℕ) (disk : Disk) → high ≡ low → NoneAbove low disk → NoneAbove high disk
none_above_at low high disk is none = subst (λ (k : ℕ). NoneAbove k disk) (sym is) none
