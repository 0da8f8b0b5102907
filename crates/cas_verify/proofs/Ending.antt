-- The whole check, by what its parts answer.
use Rattle.std.proofs.Common.{◌≡◌, ℕ, List, [], map, None, Some, Result, Ok, Err, inl, inr, refl, sym, ap, subst, ◌∙◌}
use Rattle.cas_types.specs.declared.schema.Column.{Column}
use Rattle.cas_atoms.specs.Coordinates.{atom_at}
use Rattle.cas_atoms.specs.declared.atom.Atom.{Atom}
use Rattle.cas_laws.specs.Given.{Has}
use Rattle.cas_codec.specs.Reading.{◌>>=◌}
use Rattle.cas_codec.specs.declared.fault.ReadFault.{ReadFault}
use Rattle.cas_codec.specs.declared.fault.ReadFault.TheVariants.{Short, Bad, Mem}
use Rattle.cas_info.specs.declared.info.TableInfo.{TableInfo}
use Rattle.cas_facts.specs.Facts.{AreFacts, AreFactsSoFar}
use Rattle.cas_facts.specs.declared.facts.Facts.{Facts}
use Rattle.cas_facts.proofs.Joining.{facts_are_one}
use Rattle.cas_tables.specs.declared.header.TheConstants.{HEADER_LENGTH}
use Rattle.cas_sstread.specs.Loading.{Answers}
use Rattle.cas_sstread.specs.Reading.{Loaded}
use Rattle.cas_sstread.specs.declared.fault.TableFault.{TableFault}
use Rattle.cas_sstread.specs.declared.fault.TableFault.TheVariants as table_fault
use Rattle.cas_verify.specs.Partitions.{Part, atoms_in, entries_for}
use Rattle.cas_verify.specs.Checking.{own_partitions_at, own_rest_at, whole_at, AreFactsOf}
use Rattle.cas_verify.specs.Inner.Ends.{Ends, Settles, fault_in}
use Rattle.cas_verify.specs.Inner.Scans.{IsSeen}
use Rattle.cas_verify.specs.declared.partitions.Scan.{Scan}
use Rattle.cas_verify.proofs.Turns.{bad_then, bad_is}

-- what was compared in memory
pub compared : (number : ℕ) (f : ReadFault) (read : Result (Unit {0}) ReadFault) → Settles (let r : Result (Unit {0}) ReadFault = Err f in r) read
    → Answers (λ (u : Unit {0}). u) number (let r : Result (Unit {0}) TableFault = Err (fault_in number f) in r) read
compared number (Short at) read is = (refl, inl is)
compared number (Bad at) read is = (refl, inr is)
compared number Mem read is = tt

module _ (columns : List Column) (info : TableInfo) (k : Loaded) (b : List ℕ) (f : Facts) where
  abbrev Rest : List Part → Result (Unit {0}) ReadFault
  Rest ps = own_rest_at (entries_for k.version HEADER_LENGTH ps) info f k.end b

  whole_is : whole_at columns info k f b ≡ (own_partitions_at columns k b >>= Rest)
  unfolding whole_at
  whole_is = refl

  pub parts_bad : (number : ℕ) (e : TableFault) → Ends (IsSeen k.version) number (let r : Result Scan TableFault = Err e in r) (own_partitions_at columns k b)
      → Answers (λ (u : Unit {0}). u) number (let r : Result (Unit {0}) TableFault = Err e in r) (whole_at columns info k f b)
  parts_bad number table_fault.ReadFault is = tt
  parts_bad number (table_fault.BadBlock n at) is =
      (is.0, bad_is (own_partitions_at columns k b >>= Rest) (whole_at columns info k f b) at (sym whole_is) (bad_then (own_partitions_at columns k b) Rest at is.1))
  parts_bad number table_fault.Mem is = tt

  module _ (scan : Scan) (ps : List Part) (there : own_partitions_at columns k b ≡ Ok ps) (seen : IsSeen k.version scan ps) (facts : AreFactsOf columns k b f) where
    pub no_facts : scan.seen.facts ≡ None → ⊥
    no_facts none =
        let empty : atoms_in ps ≡ [] = subst (AreFactsSoFar (atoms_in ps)) none seen.facts in
        subst (λ (xs : List Atom). Has (map atom_at xs) f.least) empty (facts ps there).least.one

    same_fact : (a g : Facts) → Some a ≡ Some g → a ≡ g
    same_fact a g e = cc

    pub rest_then : (g : Facts) (number : ℕ) (r : Result (Unit {0}) TableFault) → scan.seen.facts ≡ Some g
        → Answers (λ (u : Unit {0}). u) number r (own_rest_at scan.entries.items info g k.end b)
        → Answers (λ (u : Unit {0}). u) number r (whole_at columns info k f b)
    rest_then g number r some is =
        let have : AreFacts (atoms_in ps) g = subst (AreFactsSoFar (atoms_in ps)) some seen.facts in
        let same : g ≡ f = same_fact g f (facts_are_one.one (atoms_in ps) (Some g) (Some f) have (facts ps there)) in
        let all : own_rest_at scan.entries.items info g k.end b ≡ whole_at columns info k f b =
        (λ i. own_rest_at (seen.entries i) info (same i) k.end b) ∙ sym (whole_is ∙ ap (λ x. x >>= Rest) there) in
        subst (λ (read : Result (Unit {0}) ReadFault). Answers (λ (u : Unit {0}). u) number r read) all is
