-- A manifest that is found in its folder.
use Rattle.std.proofs.Common.{◌≡◌, ⊎_elim, true, ℕ, List, Option, None, Some, is_some, Result, Ok, sym, ◌∙◌, ap, subst}
use Rattle.cas_disk.specs.declared.name.Name.TheVariants.{Manifest as manifest_name}
use Rattle.cas_disk.specs.Disk.{Image, Disk, During, Follows, Same, IsKept, bytes_of}
use Rattle.cas_disk.proofs.Moments.{left_after, reads_on}
use Rattle.cas_disk.proofs.WrittenLasts.{Syncs}
use Rattle.cas_codec.specs.declared.fault.ReadFault.{ReadFault}
use Rattle.cas_codec.specs.Reading.{Left, ◌>>=◌}
use Rattle.cas_codec.specs.Exact.{AreBytes}
use Rattle.cas_manifest.proofs.ManifestLaws.{manifest_found}
use Rattle.cas_manifest.specs.Manifests.{Stands}
use Rattle.cas_manifest.specs.Reading.{Far, manifest_at, manifest_of}
use Rattle.cas_manifest.specs.Reads.{IsRead}

-- the manifest's file is there, with these bytes
is_there : (file : Option (List ℕ)) (bytes : List ℕ) → is_some file ≡ true → bytes ≡ bytes_of file → file ≡ Some bytes
is_there None bytes some is = absurd cc
is_there (Some file) bytes some is = ap (λ (l : List ℕ). Some l) (sym is)

module _ (o s z : Disk) (some : (c : Image) → o.reads c → is_some (c manifest_name) ≡ true) (first : During Same o s) (same : Follows Same o.reads s.reads) (bytes : List ℕ)
    (read : (c : Image) → s.reads c → bytes ≡ bytes_of (c manifest_name)) where
  read_there : (c : Image) → s.reads c → c manifest_name ≡ Some bytes
  read_there c now =
      let (d, was, still) = same c now in
      is_there (c manifest_name) bytes (ap is_some (still manifest_name) ∙ some d was) (read c now)

  pub read_before : (c : Image) → o.reads c → c manifest_name ≡ Some bytes
  read_before c was = let (d, now, still) = reads_on o s first same c was in sym (still manifest_name) ∙ read_there d now

  -- a file that is synced, and read after it
  pub read_lasts : Syncs manifest_name s → During Same s z → IsKept manifest_name bytes z
  read_lasts synced call c left = ⊎_elim (λ was. of_synced c was) (λ made. made.2 manifest_name ∙ of_synced made.0 made.1) (left_after Same s z call c left)
    where
      of_synced : (d : Image) → s.may_leave d → d manifest_name ≡ Some bytes
      of_synced d was = let (there, now, is) = synced d was in is.here ∙ read_there there now

pub found_stands : (disk : Disk) (bytes : List ℕ) → IsKept manifest_name bytes disk → (far : Far) (end listed : ℕ) → IsRead far end bytes
    → far.0.listed ≡ listed → Stands (record { end = end; listed = listed }) disk far.1
found_stands disk bytes kept far end listed is count = record {
  gate = is.manifest.gate;
  rest = is.manifest.rest;
  closed = is.manifest.closed;
  kept = subst (λ (f : List ℕ). IsKept manifest_name f disk) is.manifest.spelled kept;
  end = sym is.end;
  listed = sym (ap (λ s. s.listed) is.said) ∙ count;
  follow = is.manifest.follow;
}

-- a manifest that was read is the file's
pub found_by : (file : List ℕ) → AreBytes file → (left new : Left) (far : Far) (at : ℕ) → left.bytes ≡ file → left.at ≡ 0 → manifest_at left ≡ Ok ((far, at), new) → IsRead far at file
unfolding manifest_of
found_by file are left new far at is start e =
    let start_of : left ≡ record { bytes = file; at = 0 } = (λ i. record { bytes = is i; at = start i }) in
    manifest_found file far at are (ap (λ (r : Result ((Far × ℕ) × Left) ReadFault). r >>= λ found. Ok found.0)
    (subst (λ (l : Left). manifest_at l ≡ Ok ((far, at), new)) start_of e))
