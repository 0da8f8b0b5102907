-- The mutations that a file's partitions tell stand in it.
use Rattle.std.proofs.Common.{◌≡◌, ℕ, suc, Bool, true, false, cond, List, [], ◌∷◌, ◌++◌, arith, refl, sym, ap, ◌∙◌, subst, append-nil}
use Rattle.std.proofs.lemmas.Cmp.{tied_itself}
use Rattle.std.specs.Ordering.{is_eq, ordering_reverse}
use Rattle.std.specs.List.{AllByRecursion, Contains}
use Rattle.std.specs.declared.cmp.Ordering.TheVariants.{Less}
use Rattle.cas_types.specs.Values.{bytes_cmp}
use Rattle.cas_types.specs.declared.schema.Column.{Column}
use Rattle.cas_types.proofs.OrderLaws.{bytes_orders}
use Rattle.cas_atoms.specs.Coordinates.{same_bytes}
use Rattle.cas_atoms.specs.Winners.{Same}
use Rattle.cas_atoms.specs.declared.atom.Atom.{Atom}
use Rattle.cas_laws.proofs.ShownProofs.{equal_bytes}
use Rattle.cas_partition.specs.Ends.{IsEnd}
use Rattle.cas_memtable.specs.Kept.{atoms_under}
use Rattle.cas_streams.specs.Merged.{flat_of}
use Rattle.cas_streams.specs.NoMore.{SaysNoMore}
use Rattle.cas_streams.specs.Streams.{IsThere}
use Rattle.cas_streams.proofs.NoMore.{no_more_itself}
use Rattle.cas_streams.proofs.Weaves.{Ascend, ascend_by_keys}
use Rattle.cas_tables.specs.Contents.{Contents, Partition}
use Rattle.cas_tables.specs.Fitting.{FitsContents, FitsPartition}
use Rattle.cas_flush.specs.Flushed.{said_at, said_under}
use Rattle.cas_stored.specs.Contents.{HasNone}
use Rattle.cas_stored.specs.Stored.{SaysWhatIsWritten}
use Rattle.cas_stored.proofs.Lists.{each_one}
use Rattle.cas_stored.proofs.Loaded.{loaded_stands}
use Rattle.cas_flushed.specs.Laws.{ContentsStand, FlushedSayTheSame, ListedContentsStand}
use Rattle.cas_flushed.specs.Written.{written_in}
use Rattle.cas_flushed.proofs.Ending.{told_ends}

-- ---- what is told under a key

under_is : (key : List ℕ) (ps : List Partition) → atoms_under key (written_in ps) ≡ said_under key ps
under_is key [] = refl
under_is key (p ∷ ps) = ap (λ (l : List Atom). said_at key p ++ l) (under_is key ps)

-- of no partition that has another key
apart : (key : List ℕ) (ps : List Partition) → AllByRecursion (λ p. same_bytes p.key key ≡ false) ps → said_under key ps ≡ []
apart key [] all = refl
apart key (p ∷ ps) all = ap (λ (b : Bool). cond b (flat_of p.stream) [] ++ said_under key ps) all.0 ∙ apart key ps all.1

differs : (a b : List ℕ) → (a ≡ b → ⊥) → same_bytes a b ≡ false
differs a b other = by (same_bytes a b) refl
  where
    by : (c : Bool) → same_bytes a b ≡ c → same_bytes a b ≡ false
    by true e = absurd (other (equal_bytes a b e))
    by false e = e

-- ---- keys that ascend stand once

both : {X : Type 0} (P Q R : X → Type 0) (xs : List X) → ((x : X) → P x → Q x → R x) → AllByRecursion P xs → AllByRecursion Q xs → AllByRecursion R xs
both P Q R [] goes ps qs = tt
both P Q R (x ∷ xs) goes ps qs = (goes x ps.0 qs.0, both P Q R xs goes ps.1 qs.1)

one : {X : Type 0} (P R : X → Type 0) (xs : List X) → ((x : X) → P x → R x) → AllByRecursion P xs → AllByRecursion R xs
one P R [] goes ps = tt
one P R (x ∷ xs) goes ps = (goes x ps.0, one P R xs goes ps.1)

each_of : {X : Type 0} (P : X → Type 0) (xs : List X) → ((x : X) → Contains xs x → P x) → AllByRecursion P xs
each_of P [] all = tt
each_of P (x ∷ xs) all = (all x (0, omega arith, refl), each_of P xs (λ y there. all y (suc there.0, omega (arith, there.1), there.2)))

behind : (p q : Partition) → bytes_cmp p.key q.key ≡ Less → same_bytes q.key p.key ≡ false
behind p q less = ap is_eq (bytes_orders.total.antisymm q.key p.key ∙ ap ordering_reverse less)

alone : (ps : List Partition) → Ascend bytes_cmp (λ p. p.key) ps → AllByRecursion (λ p. said_under p.key ps ≡ flat_of p.stream) ps
alone [] ascend = tt
alone (p ∷ ps) ascend = (
  ap (λ (b : Bool). cond b (flat_of p.stream) [] ++ said_under p.key ps) (ap is_eq (tied_itself bytes_orders.total p.key))
      ∙ ap (λ (l : List Atom). flat_of p.stream ++ l)
      (apart p.key ps (one (λ q. bytes_cmp p.key q.key ≡ Less) (λ q. same_bytes q.key p.key ≡ false) ps (λ q less. behind p q less) ascend.0))
      ∙ append-nil (flat_of p.stream),
  both (λ q. bytes_cmp p.key q.key ≡ Less) (λ q. said_under q.key ps ≡ flat_of q.stream) (λ q. said_under q.key (p ∷ ps) ≡ flat_of q.stream) ps
      (λ q less own. ap (λ (b : Bool). cond b (flat_of p.stream) [] ++ said_under q.key ps) (ap is_eq less) ∙ own) ascend.0 (alone ps ascend.1),
)

-- ---- a file of contents

module _ (c : Contents) (ascend : Ascend bytes_cmp (λ p. p.key) c.partitions) where
  told : (p : Partition) → Contains c.partitions p → atoms_under p.key (written_in c.partitions) ≡ flat_of p.stream
  told p there = under_is p.key c.partitions ∙ each_one (λ q. said_under q.key c.partitions ≡ flat_of q.stream) c.partitions p (alone c.partitions ascend) there

  says : (p : Partition) → Contains c.partitions p → IsThere (flat_of p.stream) → SaysWhatIsWritten (written_in c.partitions) p
  says p there some =
      let same = told p there in
      record {
        same = subst (Same (flat_of p.stream)) (sym same) (record { covers = λ x. refl; lives = λ r. refl; cells = λ x. refl });
        no_more = subst (SaysNoMore (flat_of p.stream)) (sym same) (no_more_itself (flat_of p.stream));
        written = λ none. subst IsThere (sym same ∙ none) some;
      }

  none : (key : List ℕ) → HasNone c key → atoms_under key (written_in c.partitions) ≡ []
  none key has =
      under_is key c.partitions
      ∙ apart key c.partitions (each_of (λ p. same_bytes p.key key ≡ false) c.partitions (λ p there. differs p.key key (has p there)))

module _ (columns : List Column) (c : Contents) (fits : FitsContents columns c) where
  in_order : Ascend bytes_cmp (λ p. p.key) c.partitions
  in_order = ascend_by_keys bytes_cmp (λ p. p.key) c.partitions fits.ascend

  each_says : (p : Partition) → Contains c.partitions p → SaysWhatIsWritten (written_in c.partitions) p
  each_says p there = says c in_order p there (each_one (FitsPartition columns) c.partitions p fits.each there).said

pub contents_stand : ContentsStand
contents_stand f c facts of of_atoms own listed =
    loaded_stands f c facts (written_in c.partitions) of of_atoms own listed (each_says f.table.columns c of.fits) (none c (in_order f.table.columns c of.fits))

pub listed_contents_stand : ListedContentsStand
listed_contents_stand t shard d i c file = record {
  contents = c;
  file = file;
  says = each_says t.columns c file.fits;
  none = none c (in_order t.columns c file.fits);
}

-- ---- a flush

pub flushed_say_the_same : FlushedSayTheSame
flushed_say_the_same = record {
  same = λ ws ps are key. subst (λ (l : List Atom). Same l (atoms_under key ws)) (sym (under_is key ps)) (are.same key refl);
  no_more = λ ws ps are key. subst (λ (l : List Atom). SaysNoMore l (atoms_under key ws)) (sym (under_is key ps)) (are.no_more key refl);
  ends = λ ws ps are key c at. told_ends ws ps are.ends key c (subst (λ (l : List Atom). IsEnd l c) (under_is key ps) at);
}
