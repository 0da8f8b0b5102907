-- The versions of the format of table files.
-- Own format.
use Rattle.std.specs.Prelude.{ℕ, ◌==◌, if◌then◌else◌}
use Rattle.cas_tables.specs.declared.header.TheConstants.{FIRST_VERSION, LAST_VERSION}
use Rattle.cas_fragments.specs.declared.heads.Version.{Version}
use Rattle.cas_fragments.specs.declared.heads.Version.TheVariants.{First, Second}

-- each has a number: the first, in which partitions have no static columns, is 1, and the second 2
abbrev pub version_number : Version → ℕ
version_number First = FIRST_VERSION
version_number Second = LAST_VERSION

-- the version of such a number
abbrev pub version_of : ℕ → Version
version_of n = if n == FIRST_VERSION then First else Second
