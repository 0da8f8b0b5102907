-- A partition is written: its head, its rows and markers, and its end.
use Rattle.std.proofs.Common.{◌≡◌, ℕ, ◌+◌, ◌<◌, ◌^◌, List, [], ◌++◌, length, Option, None, Some, refl, sym, ap, subst, ◌∙◌, arith}
use Rattle.std.specs.Option.{option_to_list}
use Rattle.std.proofs.lemmas.List.{append-nil, length-append}
use Rattle.cas_atoms.specs.declared.atom.Atom.{Atom}
use Rattle.cas_atoms.specs.declared.row.RowColumn.{RowColumn}
use Rattle.cas_cell.specs.declared.deletion.Deletion.{Deletion}
use Rattle.cas_streams.specs.declared.fragment.Fragment.{Fragment}
use Rattle.cas_streams.specs.declared.fragment.Fragment.TheVariants as fragment
use Rattle.cas_facts.specs.Facts.{AreFactsSoFar}
use Rattle.cas_facts.specs.Told.{top_told}
use Rattle.cas_facts.specs.declared.facts.Facts.{Facts}
use Rattle.cas_fragments.specs.Allowed.{HaveRoom}
use Rattle.cas_tables.specs.Places.{block_entries}
use Rattle.cas_fragments.specs.Blocks.{blocks_of, blocks_bytes, statics_in, behind_statics, head_bytes}
use Rattle.cas_fragments.specs.declared.heads.Version.TheVariants.{Second}
use Rattle.cas_sstwrite.specs.declared.fault.Measure.TheVariants.{FileBytes, BlockBytes, Partitions}
use Rattle.cas_sstwrite.specs.declared.fault.WriteFault.{WriteFault}
use Rattle.cas_sstwrite.specs.declared.fault.WriteFault.TheVariants.{Failed, Order, TooMany, Unfit, Mem}
use Rattle.cas_sstwrite.specs.declared.fault.PartitionFault.{PartitionFault}
use Rattle.cas_sstwrite.specs.declared.fault.PartitionFault.TheVariants.{Write, Source}
use Rattle.cas_sstwrite.specs.declared.held.Part.{Part}
use Rattle.cas_sstwrite.specs.declared.held.Sink.{Sink}
use Rattle.cas_sstwrite.specs.Inner.Sinks.{Took, LongFault}
use Rattle.cas_sstwrite.specs.Inner.Parts.{Taken, WroteRows, Says, BeginWith, Hinders, RowsFault}
use Rattle.cas_sstwrite.specs.Inner.Whole.{HeadFault, WrotePartition, Stops, PartFault}
use Rattle.cas_sstwrite.proofs.Rowing.{took_both}

-- before the first fragment
pub nothing_taken : (start : ℕ) (before : Option Facts) (top : Option Deletion) (p : Part) → p.buffer.items ≡ [] → p.entries.items ≡ [] → p.force ≡ None
    → ((A : List Atom) → AreFactsSoFar A before → AreFactsSoFar (A ++ top_told top) p.seen.facts) → Taken start before top [] p []
nothing_taken start before top p buffer entries force seen = record {
  done = [];
  begun = [];
  rows = refl;
  cut = λ rest. refl;
  text = refl;
  buffer = buffer;
  entries = entries;
  force = force;
  full = tt;
  short = tt;
  held = tt;
  early = omega arith;
  facts = λ A h. subst (λ (xs : List Atom). AreFactsSoFar (A ++ xs) p.seen.facts) (sym (append-nil (top_told top))) (seen A h);
}

-- the static columns stand in the first fragment alone
statics_first : (first : Option Fragment) (gs : List Fragment) → BeginWith first gs → statics_in (option_to_list first) ≡ statics_in gs
statics_first None gs begin = ap statics_in (sym begin)
statics_first (Some (fragment.Static cs)) gs begin = ap statics_in (sym begin.1)
statics_first (Some (fragment.Row r)) gs begin = ap statics_in (sym begin.1)
statics_first (Some (fragment.Marker cut d)) gs begin = ap statics_in (sym begin.1)

pub says_begin : (first : Option Fragment) (told : Option (List Fragment)) (fs : List Fragment) → Says first told fs → BeginWith first fs
says_begin None told fs says = says
says_begin (Some f) told fs says = (says.0, says.2)

pub partition_written : {D : Type 0} (number_of : D → ℕ) (written : D → List ℕ → Type 0) (key : List ℕ) (top : Option Deletion) (first : Option Fragment)
    (before : Option Facts) (s t u : Sink D) (p q : Part) (told : Option (List Fragment)) → length key < 2 ^ 16 → HaveRoom (statics_in (option_to_list first))
    → Took number_of written (head_bytes Second key top (statics_in (option_to_list first))) s t
    → ((start : ℕ) → Taken start before top [] p [])
    → ((start : ℕ) (before : Option Facts) (top : Option Deletion) (text : List ℕ) → Taken start before top [] p text → t.place ≡ start + length text
    → WroteRows number_of written start before top first t u q text told)
    → WrotePartition number_of written key top first before s u q told
partition_written number_of written key top first before s t u p q told short room head none rows =
    let w = rows t.place before top [] (none t.place) (let e : t.place ≡ t.place + 0 = omega arith in e) in
    let same : statics_in (option_to_list first) ≡ statics_in w.given = statics_first first w.given w.front in
    let headed : Took number_of written (head_bytes Second key top (statics_in w.given)) s t = subst (λ (cs : List RowColumn). Took number_of written (head_bytes Second key top cs) s t) same head in
    record {
      given = w.given;
      took = subst (λ (xs : List ℕ). Took number_of written (head_bytes Second key top (statics_in w.given) ++ xs) s u) w.ends.whole
          (took_both number_of written (head_bytes Second key top (statics_in w.given)) w.ends.more s t u headed w.ends.took);
      entries = w.ends.entries ∙ ap (λ n. block_entries n None (blocks_of (behind_statics w.given))) headed.place;
      few = w.ends.few;
      short = w.ends.short;
      facts = w.ends.facts;
      key = short;
      statics = subst HaveRoom same room;
      held = w.ends.held;
      front = w.front;
      all = w.all;
    }

-- why it isn't

pub head_long : (place n : ℕ) (key : List ℕ) (top : Option Deletion) (cs : List RowColumn) (e : WriteFault) → n ≡ length (head_bytes Second key top cs) → LongFault place n e
    → HeadFault place key top cs e
head_long place n key top cs Failed same why = tt
head_long place n key top cs Order same why = absurd why
head_long place n key top cs (TooMany FileBytes limit) same why = (why.0, omega (arith, why.1))
head_long place n key top cs (TooMany BlockBytes limit) same why = absurd why
head_long place n key top cs (TooMany Partitions limit) same why = absurd why
head_long place n key top cs Unfit same why = absurd why
head_long place n key top cs Mem same why = tt

pub head_stops : (place : ℕ) (key : List ℕ) (top : Option Deletion) (first : Option Fragment) (told : Option (List Fragment)) (fs : List Fragment) (e : WriteFault)
    → Says first told fs → HeadFault place key top (statics_in (option_to_list first)) e → Stops place key top fs e
head_stops place key top first told fs e says why =
    of (statics_in (option_to_list first)) (statics_first first fs (says_begin first told fs says)) e why
  where
    of : (cs : List RowColumn) → cs ≡ statics_in fs → (e : WriteFault) → HeadFault place key top cs e → Stops place key top fs e
    of cs same Failed why = tt
    of cs same Order why = absurd why
    of cs same (TooMany FileBytes limit) why = (
      why.0,
      omega (
        arith,
        why.1,
        ap (λ (xs : List RowColumn). length (head_bytes Second key top xs)) same,
        length-append (head_bytes Second key top (statics_in fs)) (blocks_bytes (blocks_of (behind_statics fs))),
      ),
    )
    of cs same (TooMany BlockBytes limit) why = absurd why
    of cs same (TooMany Partitions limit) why = absurd why
    of cs same Unfit why = λ fit. why (fit.0, subst HaveRoom (sym same) fit.1)
    of cs same Mem why = tt

pub rows_stop : (E : Type 0) (place start : ℕ) (key : List ℕ) (top : Option Deletion) (fs : List Fragment) (e : PartitionFault E)
    → start ≡ place + length (head_bytes Second key top (statics_in fs)) → RowsFault start (behind_statics fs) e → PartFault place key top fs e
rows_stop E place start key top fs (Source e) at why = tt
rows_stop E place start key top fs (Write e) at why = of e why
  where
    of : (e : WriteFault) → Hinders start (behind_statics fs) e → Stops place key top fs e
    of Failed why = tt
    of Order why = absurd why
    of (TooMany FileBytes limit) why =
        (why.0, omega (arith, why.1, at, length-append (head_bytes Second key top (statics_in fs)) (blocks_bytes (blocks_of (behind_statics fs)))))
    of (TooMany BlockBytes limit) why = why
    of (TooMany Partitions limit) why = absurd why
    of Unfit why = λ fit. why fit.2
    of Mem why = tt

pub head_place : {D : Type 0} (number_of : D → ℕ) (written : D → List ℕ → Type 0) (key : List ℕ) (top : Option Deletion) (first : Option Fragment) (told : Option (List Fragment))
    (fs : List Fragment) (s t : Sink D) → Says first told fs → Took number_of written (head_bytes Second key top (statics_in (option_to_list first))) s t
    → t.place ≡ s.place + length (head_bytes Second key top (statics_in fs))
head_place number_of written key top first told fs s t says took =
    took.place ∙ ap (λ (cs : List RowColumn). s.place + length (head_bytes Second key top cs)) (statics_first first fs (says_begin first told fs says))
