-- The bytes that a spelled value is.
use Rattle.std.specs.Prelude.{ℕ, List}
use Rattle.cas_terms.specs.declared.constants.Spelled.{Spelled}
use Rattle.cas_terms.specs.declared.constants.Spelled.TheVariants.{Borrowed, One, Two, Four, Eight}

abbrev pub spelled_bytes : Spelled → List ℕ
spelled_bytes (Borrowed b) = b.now
spelled_bytes (One b) = b
spelled_bytes (Two b) = b
spelled_bytes (Four b) = b
spelled_bytes (Eight b) = b
