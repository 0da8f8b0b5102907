-- Whose head stands at a place.
use Rattle.std.proofs.Common.{◌≡◌, ℕ, true, false, List, Some, Ok, Err, refl, sym, ap, subst, ◌∙◌}
use Rattle.std.specs.declared.cmp.Ordering.{Ordering}
use Rattle.std.specs.declared.cmp.Ordering.TheVariants.{Less, Equal, Greater}
use Rattle.std.specs.Prelude.{Option, Result}
use Rattle.std.specs.Ordering.{is_eq}
use Rattle.std.proofs.lemmas.Bool.{true≢false}
use Rattle.std.proofs.lemmas.Cmp.{nat_list_cmp_total, tied_itself}
use Rattle.cas_types.specs.Values.{bytes_cmp}
use Rattle.cas_types.specs.declared.schema.Column.{Column}
use Rattle.cas_types.proofs.OrderLaws.{bytes_orders}
use Rattle.cas_cell.specs.declared.deletion.Deletion.{Deletion}
use Rattle.cas_atoms.specs.declared.row.RowColumn.{RowColumn}
use Rattle.cas_codec.specs.Reading.{Left}
use Rattle.cas_codec.specs.declared.fault.ReadFault.{ReadFault}
use Rattle.cas_fragments.specs.Reading.{head_at}
use Rattle.cas_fragments.specs.declared.heads.Head.{Head}
use Rattle.cas_fragments.specs.declared.heads.Version.{Version}
use Rattle.cas_index.specs.declared.entries.PartitionEntry.{PartitionEntry}
use Rattle.cas_blocks.specs.Heads.{IsHeadAt}
use Rattle.cas_blocks.specs.Reading.{left_at}
use Rattle.cas_blocks.specs.declared.fault.TableFault.{TableFault}
use Rattle.cas_blocks.specs.declared.fault.TableFault.TheVariants as table_fault
use Rattle.cas_sstread.specs.Loading.{Held}
use Rattle.cas_reading.specs.Slices.{IsHead, HasNoHead}
use Rattle.cas_reading.specs.Inner.Parts.{HeadAnswers, IsFault}

eq_equal : (o : Ordering) → is_eq o ≡ true → o ≡ Equal
eq_equal Less e = absurd cc
eq_equal Equal e = refl
eq_equal Greater e = absurd cc

pub is_own : (version : Version) (columns : List Column) (left : Left) (key : List ℕ) (h : Head) → IsHeadAt version columns left h → is_eq (bytes_cmp h.key key) ≡ true
    → IsHead version columns left key h.top h.columns
is_own version columns left key h is e =
    let same : h.key ≡ key = bytes_orders.ties h.key key (eq_equal _ e) in
    record { rest = is.0; read = is.1 ∙ ap (λ (k : List ℕ). Ok ((k, h.top, h.columns), is.0)) same }

-- what a head is read as
abbrev pub Found : Type 0
Found = (List ℕ × Option Deletion × List RowColumn) × Left

ok_same : (x y : Found) → ◌≡◌ {A = Result Found ReadFault} (Ok x) (Ok y) → x ≡ y
ok_same x y e = cc

-- two heads that stand there are one
pub one_head : (version : Version) (columns : List Column) (left : Left) (x y : Found) → head_at version columns left ≡ Ok x → head_at version columns left ≡ Ok y → x ≡ y
one_head version columns left x y a b = ok_same x y (sym a ∙ b)

key_is : (version : Version) (columns : List Column) (left : Left) (key : List ℕ) (h : Head) (top : Option Deletion) (statics : List RowColumn) → IsHeadAt version columns left h
    → IsHead version columns left key top statics → h.key ≡ key
key_is version columns left key h top statics is own =
    ap (λ (x : Found). x.0.0) (one_head version columns left ((h.key, h.top, h.columns), is.0) ((key, top, statics), own.rest) is.1 own.read)

pub isnt_own : (version : Version) (columns : List Column) (left : Left) (key : List ℕ) (h : Head) → IsHeadAt version columns left h → is_eq (bytes_cmp h.key key) ≡ false
    → HasNoHead version columns left key
isnt_own version columns left key h is e = λ top statics own.
    true≢false (sym (equal (key_is version columns left key h top statics is own)) ∙ e)
  where
    equal : h.key ≡ key → is_eq (bytes_cmp h.key key) ≡ true
    equal same = ap (λ (k : List ℕ). is_eq (bytes_cmp k key)) same ∙ ap is_eq (tied_itself nat_list_cmp_total key)

-- ---- faults

no_head_too : (v w : Version) (a b : List Column) (end last place there : ℕ) (file key : List ℕ) → v ≡ w → a ≡ b → end ≡ last → place ≡ there
    → HasNoHead v a (left_at file end place) key → HasNoHead w b (left_at file last there) key
no_head_too v w a b end last place there file key same-version same-columns same-end same-place none =
    subst (λ (n : ℕ). HasNoHead w b (left_at file last n) key) same-place
    (subst (λ (n : ℕ). HasNoHead w b (left_at file n place) key) same-end
    (subst (λ (cs : List Column). HasNoHead w cs (left_at file end place) key) same-columns
    (subst (λ (u : Version). HasNoHead u a (left_at file end place) key) same-version none)))

-- a fault of the head's reading, from the table's file
pub entry_fault : (t : Held) (key : List ℕ) (e : PartitionEntry) (fault : TableFault) (contents : Option (List ℕ)) (version : Version) (columns : List Column)
    (number end place : ℕ) → contents ≡ t.contents → version ≡ t.kept.version → columns ≡ t.columns
    → number ≡ t.info.number → end ≡ t.kept.end → place ≡ e.place
    → ((file : List ℕ) → contents ≡ Some file → HeadAnswers version columns number (left_at file end place) key (Err fault))
    → IsFault t key e fault
entry_fault t key e table_fault.Read contents version columns number end place its-contents its-version its-columns its-number its-end its-place told = tt
entry_fault t key e (table_fault.BadBlock n at) contents version columns number end place its-contents its-version its-columns its-number its-end its-place told = λ file is.
    let bad = told file (its-contents ∙ is) in (
      bad.0 ∙ its-number,
      bad.1 ∙ its-place,
      no_head_too version t.kept.version columns t.columns end t.kept.end place e.place file key its-version its-columns its-end its-place bad.2,
    )
entry_fault t key e table_fault.Mem contents version columns number end place its-contents its-version its-columns its-number its-end its-place told = tt
