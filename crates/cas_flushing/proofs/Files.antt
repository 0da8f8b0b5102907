-- The file of a flush: what stands in it, as it stands in an image and as it is opened.
use Rattle.std.proofs.Common.{◌≡◌, ℕ, List, [], ◌∷◌, Some, refl, sym, ap, ◌∙◌, subst}
use Rattle.std.specs.Prelude.{slice_get}
use Rattle.std.proofs.lemmas.Option.{same_Some}
use Rattle.cas_types.specs.declared.schema.TableSchema.{TableSchema}
use Rattle.cas_bounds.specs.ClusteringOrder.{clustering_order}
use Rattle.cas_bounds.specs.declared.order.Ordered.{Ordered}
use Rattle.cas_atoms.specs.declared.atom.Mutation.{Mutation}
use Rattle.cas_disk.specs.Disk.{Image}
use Rattle.cas_disk.specs.declared.name.Name.TheVariants.{Table as table_name}
use Rattle.cas_facts.proofs.Joining.{facts_are_one}
use Rattle.cas_info.specs.Allowed.{FitsInfo}
use Rattle.cas_info.specs.declared.info.TableInfo.{TableInfo}
use Rattle.cas_memtable.specs.Kept.{StandInEach, all_of}
use Rattle.cas_memtable.specs.declared.memtable.MemPart.{MemPart}
use Rattle.cas_tables.specs.Contents.{Contents, atoms_of}
use Rattle.cas_tables.specs.Files.{table_bytes}
use Rattle.cas_tables.proofs.InfoFits.{info_fits}
use Rattle.cas_flush.specs.Flushed.{at_level_0}
use Rattle.cas_sstread.specs.declared.fault.TableFault.{TableFault}
use Rattle.cas_sstread.specs.declared.fault.TableFault.TheVariants.{ReadFault as Unread, BadBlock, Mem}
use Rattle.cas_sstread.specs.Loading.{Held, IsBadAt, IsNoBlock}
use Rattle.cas_sstread.specs.Reading.{loaded_at}
use Rattle.cas_view.specs.Views.{File}
use Rattle.cas_stored.specs.Stored.{StandInFile}
use Rattle.cas_listed.specs.Listed.{IsFileIn, IsLoaded, StandIn}
use Rattle.cas_listed.proofs.Holding.{files_are_never_bad, listed_files_hold}
use Rattle.cas_flushed.specs.Written.{written_in}
use Rattle.cas_flushed.proofs.Standing.{flushed_say_the_same, listed_contents_stand}
use Rattle.cas_shard.specs.Flushing.{SaysWhatTheyDo}
use Rattle.cas_shard.specs.Stands.{order_at, order_of}
use Rattle.cas_flushing.specs.Flushed.{IsFlushed, IsOpened, WhyUnopened, head_of}
use Rattle.cas_flushing.specs.Laws.{FlushStands, SayTheSame, StandsForThem}
use Rattle.cas_flushing.proofs.Frozen.{in_memory}

module _ {D : Type 0} (number_of : D → ℕ) (wrote : D → List ℕ → Type 0) (t : TableSchema) (shard number : ℕ) (ms : List MemPart) (told : TableInfo) (draft : D)
    (is : IsFlushed number_of wrote t shard number ms told draft) where
  abbrev own : Contents
  own = at_level_0 (head_of t shard number) is.partitions

  abbrev ws : List Mutation
  ws = written_in is.partitions

  bytes_are : (b : List ℕ) → wrote draft b → b ≡ table_bytes own is.file.facts
  bytes_are b w =
      let table = is.file.table b w in
      table.spelled
      ∙ ap (table_bytes own) (same_Some table.facts is.file.facts (facts_are_one.one (atoms_of own) (Some table.facts) (Some is.file.facts) table.of_atoms is.file.of_atoms))

  in_image : (c : Image) (b : List ℕ) → wrote draft b → c (table_name told.number) ≡ Some b → IsFileIn t shard c told own
  in_image c b w there = record {
    facts = is.file.facts;
    fits = is.file.fits;
    of_atoms = is.file.of_atoms;
    table_is = refl;
    shard_is = refl;
    listed = is.file.info;
    there = there ∙ ap (λ (l : List ℕ). Some l) (bytes_are b w);
  }

  listed : (c : Image) (b : List ℕ) → wrote draft b → c (table_name told.number) ≡ Some b → StandIn t shard c told ws
  listed c b w there = listed_contents_stand t shard c told own (in_image c b w there)

  says : SayTheSame t.columns ms ws
  says wss stand =
      let are = is.says wss stand in
      record {
        same = flushed_say_the_same.same (all_of wss) is.partitions are;
        no_more = flushed_say_the_same.no_more (all_of wss) is.partitions are;
        ends = flushed_say_the_same.ends (all_of wss) is.partitions are;
      }

  module _ (b : List ℕ) (w : wrote draft b) where
    -- an image that has the file under each name
    abbrev image : Image
    image n = Some b

    stand_there : StandIn t shard image told ws
    stand_there = listed image b w refl

    stands : (f : File Held) → IsOpened t shard told (Some b) f → StandInFile (clustering_order t.columns) f ws
    stands f o =
        let loaded : IsLoaded t shard image told f
        = record { bytes = b; there = refl; contents = o.contents; columns = o.columns; info = o.info; own_info = o.own_info; kept = o.kept b refl } in
        (listed_files_hold t shard image (told ∷ []) (f ∷ []) (ws ∷ []) (loaded, tt) (stand_there, tt)).0

    opened : (tables : List TableSchema) (f : File Held) → slice_get tables t.number ≡ Some t → IsOpened t shard told (Some b) f → SaysWhatTheyDo (order_at tables t.number) ms f
    opened tables f at o =
        let order : order_at tables t.number ≡ clustering_order t.columns = ap order_of at in
        record {
          written = ws;
          stand = subst (λ (l : List Ordered). StandInFile l f ws) (sym order) (stands f o);
          says = λ wss stand. says wss (subst (λ (l : List Ordered). StandInEach l ms wss) order stand);
        }

    fit : (n at : ℕ) → n ≡ told.number → IsBadAt (loaded_at (clustering_order t.columns) t.number shard told b) at → ⊥
    fit n at is_own bad =
        files_are_never_bad t shard image (told ∷ []) (ws ∷ []) n at (stand_there, tt)
        (record {
          before = [];
          info = told;
          behind = [];
          place = refl;
          others = tt;
          bad = record { number_is = is_own; bad = bad };
        })

    whole : (e : TableFault) → WhyUnopened t shard told (Some b) e → IsNoBlock e
    whole Unread why = tt
    whole (BadBlock n at) why = fit n at (why b refl).0 (why b refl).1
    whole Mem why = tt

  for_them : StandsForThem t shard ms told (wrote draft)
  for_them = record {
    written = ws;
    says = says;
    listed = listed;
    opened = λ tables b f at w. opened b w tables f at;
    whole = λ b e w. whole b w e;
  }

  is_told : FitsInfo told × (told.number ≡ number) × (number_of draft ≡ number)
  is_told = (
    subst FitsInfo (sym is.file.info) (info_fits t.columns own is.file.facts is.file.fits is.file.of_atoms),
    ap (λ (i : TableInfo). i.number) is.file.info,
    is.file.number,
  )

pub flush_stands : {D : Type 0} (number_of : D → ℕ) (wrote : D → List ℕ → Type 0) → FlushStands number_of wrote
flush_stands number_of wrote = record { stands = for_them number_of wrote; told = is_told number_of wrote; memory = in_memory }
