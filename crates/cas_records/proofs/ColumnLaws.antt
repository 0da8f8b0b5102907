-- The numbers of columns, and the paths of their cells, are read exactly.
use Rattle.std.proofs.Common.{◌≡◌, ℕ, ◌<◌, ◌+◌, ◌^◌, Bool, true, false, cond, List, length, Option, None, Some, Result, Ok, Err, refl, sym, ap, subst, ◌∙◌}
use Rattle.std.specs.Prelude.{slice_get}
use Rattle.cas_codec.specs.declared.fault.ReadFault.TheVariants.{Bad}
use Rattle.cas_codec.specs.Reading.{Left, Read, ◌>>=◌, checked, u16_at, bytes16_at}
use Rattle.cas_codec.specs.Fields.{u16, bytes16}
use Rattle.cas_codec.specs.Exact.{Begins, IsExact}
use Rattle.cas_codec.proofs.Exactness.{bind_ok, test_ok, ok_is, done, read_left, exact_checked}
use Rattle.cas_codec.proofs.FieldLaws.{u16_field, bytes16_field}
use Rattle.cas_types.specs.Schemas.{path_type}
use Rattle.cas_types.specs.declared.schema.Column.{Column}
use Rattle.cas_atoms.specs.declared.atom.ColumnRef.{ColumnRef}
use Rattle.cas_atoms.specs.Fits.{Names, is_path, FitsPath}
use Rattle.cas_records.specs.declared.columns.Wanted.{Wanted}
use Rattle.cas_records.specs.Columns.{is_wanted, ref_of, named_at, column_at, has_path, path_at}
use Rattle.cas_records.specs.Allowed.{IsNamed}

named_ok : (place : ℕ) (wanted : Wanted) (n : ℕ) (left : Left) (o : Option Column) (p : ColumnRef × Column) (new : Left)
    → named_at place wanted n left o ≡ Ok (p, new) → (column : Column) × (o ≡ Some column) × (is_wanted wanted column ≡ true) × ((ref_of n column, column) ≡ p) × (left ≡ new)
named_ok place wanted n left None p new e = absurd cc
named_ok place wanted n left (Some column) p new e =
    let t = test_ok (is_wanted wanted column) (Bad place) ((ref_of n column, column), left) (p, new) e in
    (column, refl, t.0, ap (λ (x : (ColumnRef × Column) × Left). x.0) t.1, ap (λ (x : (ColumnRef × Column) × Left). x.1) t.1)

pub column_exact : (wanted : Wanted) (columns : List Column) → IsExact (IsNamed wanted columns) (λ p. u16 p.0.number) (column_at wanted columns)
unfolding column_at
column_exact wanted columns = record {
  found = λ old new p are e.
      let q = bind_ok (u16_at old) (λ (number : ℕ × Left). named_at old.at wanted number.0 number.1 (slice_get columns number.0)) (p, new) e in
      let f = u16_field.exact.found old q.0.1 q.0.0 are q.1 in
      let m = named_ok old.at wanted q.0.0 q.0.1 (slice_get columns q.0.0) p new q.2 in
      subst (λ (y : (ColumnRef × Column) × Left). IsNamed wanted columns y.0 × Begins (u16 y.0.0.number) old y.1)
      (ap (λ (x : ColumnRef × Column). (x, q.0.1)) m.3 ∙ ap (λ (l : Left). (p, l)) m.4)
      ((record { there = m.1; path = refl }, f.0, m.2), f.1);
  again = λ p rest at fit.
      rw (u16_field.exact.again p.0.number rest at fit.1, fit.0.there, fit.2)
      (ap (λ path. done ((record { number = p.0.number; path = path }, p.1), read_left rest (at + length (u16 p.0.number)))) (sym fit.0.path));
}

pub path_exact : (column : Column) → IsExact (FitsPath column) bytes16 (path_at column)
unfolding path_at has_path is_path checked
path_exact column = exact_checked (λ b. length b < 2 ^ 16) bytes16 bytes16_at (is_path column) bytes16_field.exact
