-- A file in which mutations stand is the file of contents, so that a check finds nothing in it.
use Rattle.std.proofs.Common.{◌≡◌, ◌≤◌, ℕ, List, Some, Ok, Result, refl, sym, ◌∙◌, subst, inl, inr, arith}
use Rattle.cas_types.specs.Limits.{IsNarrow}
use Rattle.cas_bounds.specs.declared.order.Ordered.{Ordered}
use Rattle.cas_atoms.specs.declared.atom.Mutation.{Mutation}
use Rattle.cas_codec.specs.declared.fault.ReadFault.{ReadFault}
use Rattle.cas_info.specs.declared.info.TableInfo.{TableInfo}
use Rattle.cas_info.specs.declared.info.TheConstants.{FILE_LIMIT}
use Rattle.cas_tables.specs.Contents.{Contents}
use Rattle.cas_tables.specs.Files.{IsTable, table_bytes}
use Rattle.cas_tables.proofs.InfoFits.{info_fits}
use Rattle.cas_sstread.specs.Loading.{Held, IsBadAt}
use Rattle.cas_sstread.specs.Reading.{Loaded}
use Rattle.cas_verify.specs.Checking.{AreFactsOf, whole_at}
use Rattle.cas_verify.proofs.CheckLaws.{checking_is_exact}
use Rattle.cas_view.specs.Views.{File}
use Rattle.cas_stored.specs.Stored.{StandInFile}
use Rattle.cas_sessions.specs.Laws.{FilesAreWhole}
use Rattle.cas_sessions.specs.Verifying.{IsFoundSo}

never_bad : (read : Result (Unit {0}) ReadFault) (at : ℕ) → read ≡ Ok tt → IsBadAt read at → ⊥
never_bad read at well (inl bad) = cc
never_bad read at well (inr bad) = cc

module _ (order : List Ordered) (f : File Held) (ws : List Mutation) (stand : StandInFile order f ws) where
  abbrev c : Contents
  c = stand.contents

  short : f.table.info.bytes ≤ FILE_LIMIT
  short = subst (λ (i : TableInfo). i.bytes ≤ FILE_LIMIT) (sym stand.told) (info_fits f.table.columns c stand.facts stand.of.fits stand.of_atoms).bytes

  abbrev is_table : IsTable c (table_bytes c stand.facts)
  is_table = record { facts = stand.facts; of_atoms = stand.of_atoms; spelled = refl }

  -- by its own facts nothing is found in it, as it is listed and as what is kept of it tells
  nothing_found : IsNarrow f.table.columns → AreFactsOf f.table.columns f.table.kept (table_bytes c stand.facts) stand.facts
      × (whole_at f.table.columns f.table.info f.table.kept stand.facts (table_bytes c stand.facts) ≡ Ok tt)
  nothing_found narrow =
      let (facts, whole) = checking_is_exact.again f.table.columns narrow c (table_bytes c stand.facts) stand.of.fits is_table in (
        subst (λ (k : Loaded). AreFactsOf f.table.columns k (table_bytes c stand.facts) stand.facts) (sym stand.of.kept) facts,
        (λ i. whole_at f.table.columns (stand.told i) (stand.of.kept i) stand.facts (table_bytes c stand.facts)) ∙ whole,
      )

  not_found : (at : ℕ) → IsFoundSo f.table (Some at) → ⊥
  not_found at (narrow, inl found) =
      let (facts, whole) = nothing_found narrow in
      never_bad _ at whole (found.1 (table_bytes c stand.facts) stand.of.contents stand.facts facts)
  not_found at (narrow, inr found) = let long = found.0 in absurd (omega (arith, short, long))

pub files_are_whole : FilesAreWhole
files_are_whole order f ws at stand found = not_found order f ws stand at found
