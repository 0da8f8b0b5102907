-- When two files have one name. Own.
use Rattle.std.specs.Prelude.{Bool, true, false, ◌==◌}
use Rattle.cas_disk.specs.declared.name.Name.{Name}
use Rattle.cas_disk.specs.declared.name.Name.TheVariants.{Manifest, Log, Table, Import}

-- both are the manifest, or of one kind and one number: log 3 is log 3, and neither log 4 nor table 3
abbrev pub same_name : Name → Name → Bool
same_name Manifest Manifest = true
same_name (Log m) (Log n) = m == n
same_name (Table m) (Table n) = m == n
same_name (Import m) (Import n) = m == n
same_name _ _ = false

-- whether it is a table's file
abbrev pub is_table : Name → Bool
is_table (Table _) = true
is_table _ = false
