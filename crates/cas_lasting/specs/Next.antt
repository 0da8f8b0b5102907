-- What the next run of a store may begin with, by what a crash left of this one (own).
use Rattle.std.specs.Prelude.{◌≡◌, ℕ, ◌<◌, List, [], ◌∷◌, ◌++◌, take}
use Rattle.cas_disk.specs.Disk.{Disk, Image}
use Rattle.cas_atoms.specs.declared.atom.Mutation.{Mutation}
use Rattle.cas_changes.specs.Saying.{said_by}
use Rattle.cas_changes.specs.declared.entry.Entry.{Entry as ManifestEntry}
use Rattle.cas_history.specs.declared.item.Item.{Item}
use Rattle.cas_opening.specs.Opening.{IsOfBytes}
use Rattle.cas_room.specs.declared.event.Event.{Event}
use Rattle.cas_room.specs.Rooms.{accepted_in}
use Rattle.cas_replay.specs.Grammar.{AscendByOne, numbers_of}
use Rattle.cas_shard.specs.declared.entry.ShardOpening.{ShardOpening}
use Rattle.cas_recovery.specs.Found.{AreOfAStore}
use Rattle.cas_recovery.specs.Openings.{AreOpenings}
use Rattle.cas_lasting.specs.Entered.{IsLeft}
use Rattle.cas_lasting.specs.Explained.{as_told, only, with_more}
use Rattle.cas_lasting.specs.History.{History}
use Rattle.cas_lasting.specs.Listing.{HasBehind, SameListed}

-- the front of what a run accepted that the image has
abbrev pub front_left : (found : List Mutation) (list : List (Item Event)) (h : History) (i : Image) → IsLeft found list h i → List Mutation
front_left found list h i left = take left.count (accepted_in list)

-- An image that a crash left of a run is what the run's promise says; and for the next run, which finds just this image and what its log has, each shard may
-- have been what it was before the run, with the front of what the run accepted behind; and its moment and its last drawn timestamp are those that the manifest
-- tells, where a flush told greater ones.
pub record IsExplained (found : List Mutation) (list : List (Item Event)) (h : History) (openings : ℕ → ShardOpening) (i : Image) : Type 0 where
  pub left : IsLeft found list h i
  pub next : AreOpenings left.entries left.store.logged (only i)
      (λ n. as_told (said_by left.entries) n (with_more n (front_left found list h i left) (openings n)))

-- What is left explains the history. Where the shards of a store may have been these before a run, and an image that a crash left has what the run's promise
-- says (a front of what it accepted, all of it in the log, the table files that were listed, all of their bytes, and a manifest that lists no others), then for
-- the next run, which finds just this image, the shards may have been these with that front behind. The new mutations of a shard are numbered on from its last;
-- where the log had some of it before the run, the image's own order tells that.
abbrev pub LeftExplains : Disk → Type 0
LeftExplains before =
    (entries : List ManifestEntry) (mutations : List Mutation) (openings : ℕ → ShardOpening) (list : List (Item Event)) (h : History) (b i : Image)
    → AreOfAStore entries mutations → AreOpenings entries mutations before openings
    → before.may_leave b → SameListed entries b i → HasBehind entries i → (left : IsLeft mutations list h i) → left.store.dropped ≡ []
    → IsOfBytes i
    → ((n : ℕ) → n < (said_by entries).shards → numbers_of n mutations ≡ []
    → AscendByOne ((openings n).number ∷ numbers_of n (front_left mutations list h i left)))
    → AreOpenings left.entries (mutations ++ front_left mutations list h i left) (only i)
    (λ n. with_more n (front_left mutations list h i left) (openings n))
