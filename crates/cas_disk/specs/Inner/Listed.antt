-- Whether a list of files has a name. Own.
use Rattle.std.specs.Prelude.{Bool, false, ◌||◌, List, [], ◌∷◌}
use Rattle.cas_disk.specs.declared.name.Name.{Name}
use Rattle.cas_disk.specs.declared.name.Entry.{Entry}
use Rattle.cas_disk.specs.Names.{same_name}

abbrev pub is_listed : Name → List Entry → Bool
is_listed _ [] = false
is_listed n (e ∷ entries) = same_name e.name n || is_listed n entries
