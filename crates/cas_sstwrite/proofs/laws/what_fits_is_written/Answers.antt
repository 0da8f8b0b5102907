use Rattle.std.proofs.Common.{List, [], ◌∷◌, arith}
use Rattle.std.specs.List.{AllByRecursion}
use Rattle.cas_types.specs.Schemas.{is_static}
use Rattle.cas_types.specs.declared.schema.Column.{Column}
use Rattle.cas_streams.specs.declared.fragment.Fragment.{Fragment}
use Rattle.cas_streams.specs.declared.fragment.Fragment.TheVariants as fragment
use Rattle.cas_fragments.specs.Allowed.{FitsFragment}
use Rattle.cas_fragments.specs.Blocks.{statics_in, behind_statics}
use Rattle.cas_fragments.proofs.LengthLaws.{have_room, has_spelling}
use Rattle.cas_sstwrite.specs.Rooms.{IsHeld}
use Rattle.cas_sstwrite.proofs.laws.what_fits_is_written.Goals as goal

held : (columns : List Column) (f : Fragment) → FitsFragment columns f → IsHeld f
held columns (fragment.Static cs) fit = absurd fit
held columns (fragment.Row r) fit = has_spelling columns (fragment.Row r) fit
held columns (fragment.Marker cut d) fit = has_spelling columns (fragment.Marker cut d) fit

all_held : (columns : List Column) (fs : List Fragment) → AllByRecursion (FitsFragment columns) fs → AllByRecursion IsHeld fs
all_held columns [] fit = tt
all_held columns (f ∷ fs) fit = (held columns f fit.0, all_held columns fs fit.1)

pub returns : goal.returns
returns c columns key top fs fit unfit =
    unfit (omega (arith, fit.key.1), have_room is_static columns (statics_in fs) fit.statics, all_held columns (behind_statics fs) fit.rest)
