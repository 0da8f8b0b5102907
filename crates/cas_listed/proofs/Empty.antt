-- A file without bytes isn't as it must be from its beginning on.
use Rattle.std.proofs.Common.{◌≡◌, ℕ, inl, List, [], Option, refl, subst, sym}
use Rattle.cas_bounds.specs.declared.order.Ordered.{Ordered}
use Rattle.cas_codec.specs.Reading.{bytes_at, checked, u64_at, unsigned_at}
use Rattle.cas_disk.specs.Disk.{bytes_of}
use Rattle.cas_info.specs.declared.info.TableInfo.{TableInfo}
use Rattle.cas_tables.specs.Reading.{header_of_at, start_at}
use Rattle.cas_sstread.specs.Loading.{IsBadAt}
use Rattle.cas_sstread.specs.Reading.{filled_at, loaded_at}

pub empty_is_bad : (order : List Ordered) (table shard : ℕ) (i : TableInfo) → IsBadAt (loaded_at order table shard i []) 0
unfolding loaded_at filled_at header_of_at start_at checked u64_at unsigned_at bytes_at
empty_is_bad order table shard i = inl refl

-- what is bad in the bytes of a file is bad in what is read of it
pub read_as : (order : List Ordered) (table shard : ℕ) (i : TableInfo) (file : Option (List ℕ)) (bytes : List ℕ) (at : ℕ) → bytes_of file ≡ bytes
    → IsBadAt (loaded_at order table shard i bytes) at → IsBadAt (loaded_at order table shard i (bytes_of file)) at
read_as order table shard i file bytes at is bad = subst (λ (b : List ℕ). IsBadAt (loaded_at order table shard i b) at) (sym is) bad
