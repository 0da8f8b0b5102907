-- What is noted of the segments that were found.
use Rattle.std.proofs.Common.{◌≡◌, ℕ, List, length, ap, sym, subst, ◌∙◌}
use Rattle.cas_types.specs.declared.schema.TableSchema.{TableSchema}
use Rattle.cas_disk.specs.Disk.{Disk}
use Rattle.cas_atoms.specs.declared.atom.Mutation.{Mutation}
use Rattle.cas_changes.specs.Saying.{Saying}
use Rattle.cas_log.specs.Segment.{joined}
use Rattle.cas_replay.specs.Replays.{IsReplayOf}
use Rattle.cas_replay.specs.Tops.{AreNotesOf}
use Rattle.cas_replay.specs.declared.tops.Tops.{Tops}
use Rattle.cas_journal.specs.Stores.{found_in}
use Rattle.cas_journal.specs.Notes.{Know}
use Rattle.cas_journal.specs.declared.notes.Notes.{Notes}
use Rattle.cas_opening.specs.Inner.Reading.{AreNotedIn}

-- what was replayed, by what is said
pub replay_as : (ts us : List TableSchema) (n m : ℕ) (ns ks fs hs : List ℕ) → ts ≡ us → n ≡ m → ns ≡ ks → fs ≡ hs → (disk : Disk) (given : List Mutation) (tops : Tops)
    → (r : IsReplayOf ts n ns fs disk given) × AreNotesOf n tops r.all → (q : IsReplayOf us m ks hs disk given) × AreNotesOf m tops q.all
replay_as ts us n m ns ks fs hs tables shards segments frontiers disk given tops replayed =
    subst (λ (x : List TableSchema). (q : IsReplayOf x m ks hs disk given) × AreNotesOf m tops q.all) tables
    (subst (λ (x : ℕ). (q : IsReplayOf ts x ks hs disk given) × AreNotesOf x tops q.all) shards
    (subst (λ (x : List ℕ). (q : IsReplayOf ts n x hs disk given) × AreNotesOf n tops q.all) segments
    (subst (λ (x : List ℕ). (q : IsReplayOf ts n ns x disk given) × AreNotesOf n tops q.all) frontiers replayed)))

-- each segment is noted with all mutations together
pub noted_in : (notes : Notes) (s : Saying) (n : ℕ) (ns : List ℕ) (tops : Tops) (all : List Mutation) → n ≡ s.shards → ns ≡ s.segments → notes.shards ≡ n
    → ((parts : List (List Mutation)) → length parts ≡ length ns → AreNotesOf n tops (joined parts) → Know notes (found_in ns (joined parts)) ns parts)
    → AreNotesOf s.shards tops all → AreNotedIn notes s all
noted_in notes s n ns tops all same listed shards know noted parts long is =
    let of_all : AreNotesOf n tops (joined parts) =
    subst (λ (k : ℕ). AreNotesOf k tops (joined parts)) (sym same) (subst (λ (l : List Mutation). AreNotesOf s.shards tops l) (sym is) noted) in (
      shards ∙ same,
      subst (λ (ms : List Mutation). Know notes (found_in s.segments ms) s.segments parts) is
          (subst (λ (l : List ℕ). Know notes (found_in l (joined parts)) l parts) listed (know parts (long ∙ ap length (sym listed)) of_all)),
    )
