-- A stream is small by what it says no more than.
use Rattle.std.proofs.Common.{◌+◌, ◌*◌, ◌≤◌, List, [], ◌∷◌, length, arith, length-append}
use Rattle.std.proofs.lemmas.List.Sums.{sum_by-cons, sum_by-append}
use Rattle.std.specs.List.{flat_map, sum_by}
use Rattle.cas_types.specs.declared.schema.Column.{Column}
use Rattle.cas_bounds.specs.ClusteringOrder.{clustering_order}
use Rattle.cas_atoms.specs.LogLength.{atom_length}
use Rattle.cas_atoms.specs.declared.atom.Atom.{Atom}
use Rattle.cas_atoms.specs.declared.atom.Atom.TheVariants.{PartitionDeletion}
use Rattle.cas_fragments.specs.Spelling.{fragment_bytes, body_bytes}
use Rattle.cas_fragments.proofs.LengthLaws.{fragment_long}
use Rattle.cas_partition.specs.Ends.{AllAtEnds}
use Rattle.cas_streams.specs.Flat.{atom_of, own, changes}
use Rattle.cas_streams.specs.Joined.{Stream}
use Rattle.cas_streams.specs.Merged.{flat_of}
use Rattle.cas_streams.specs.NoMore.{SaysNoMore}
use Rattle.cas_streams.specs.Streams.{WellFormed}
use Rattle.cas_streams.specs.declared.fragment.Fragment.{Fragment}
use Rattle.cas_streams.specs.declared.fragment.Fragment.TheVariants as fragment
use Rattle.cas_sizes.specs.Laws.{StreamsAreSmall}
use Rattle.cas_sizes.proofs.Answered.{weight, own_atoms_counted}
use Rattle.cas_sizes.proofs.Markers.{markers_counted}
use Rattle.cas_sizes.proofs.Shapes.{size, fragments_small}

-- the deletion of the whole, and all fragments
pub stream_small : (columns : List Column) (s : Stream) (atoms : List Atom) → WellFormed columns s.fragments → SaysNoMore (flat_of s) atoms
    → AllAtEnds atoms (changes s.fragments)
    → sum_by weight (atom_of PartitionDeletion s.top) + sum_by size s.fragments ≤ 5 * sum_by atom_length atoms
stream_small columns s atoms formed no_more at =
    omega (
      arith,
      sum_by-append weight (atom_of PartitionDeletion s.top) (flat_map own s.fragments),
      own_atoms_counted columns s atoms formed no_more,
      fragments_small columns s.fragments formed.fragments,
      markers_counted (clustering_order columns) s.fragments atoms formed.ordered.places at,
    )

-- ---- bytes

bytes_small : (f : Fragment) → length (fragment_bytes f) ≤ size f
bytes_small (fragment.Static cs) = omega arith
bytes_small (fragment.Row r) = omega (arith, fragment_long (fragment.Row r))
bytes_small (fragment.Marker cut d) = omega (arith, fragment_long (fragment.Marker cut d))

pub body_small : (fs : List Fragment) → length (body_bytes fs) ≤ sum_by size fs
body_small [] = omega arith
body_small (f ∷ fs) = omega (arith, length-append (fragment_bytes f) (body_bytes fs), sum_by-cons size f fs, bytes_small f, body_small fs)

pub streams_are_small : StreamsAreSmall
streams_are_small columns s atoms formed no_more at = omega (arith, body_small s.fragments, stream_small columns s atoms formed no_more at)
