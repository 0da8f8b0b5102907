-- A table without static columns has no statement of the static row.
use Rattle.std.proofs.Common.{◌≡◌, ℕ, Bool, true, false, ◌||◌, ◌&&◌, cond, List, [], ◌∷◌, Some, refl, ap, ◌∙◌}
use Rattle.std.specs.List.{list_any, list_all, find}
use Rattle.std.specs.Option.{option_map_or}
use Rattle.std.specs.Str.{bytes_eq}
use Rattle.cas_types.specs.Schemas.{is_static}
use Rattle.cas_types.specs.declared.schema.Column.{Column}
use Rattle.cas_terms.specs.Columns.{names_static, names_partition, column_named}
use Rattle.cas_reasons.specs.Extents.{inserts_static}

neither : (a b : Bool) → (a || b) ≡ false → (a ≡ false) × (b ≡ false)
neither false false e = (refl, refl)
neither false true e = cc
neither true b e = cc

module _ (n : List ℕ) where
  found_by : (c : Column) (cs : List Column) (b : Bool) → is_static c.kind ≡ false
      → option_map_or (λ d. is_static d.kind) (find (λ d. bytes_eq d.name n) cs) false ≡ false
      → option_map_or (λ d. is_static d.kind) (cond b (Some c) (find (λ d. bytes_eq d.name n) cs)) false ≡ false
  found_by c cs true e h = e
  found_by c cs false e h = h

  found : (cs : List Column) → list_any (λ c. is_static c.kind) cs ≡ false
      → option_map_or (λ d. is_static d.kind) (find (λ d. bytes_eq d.name n) cs) false ≡ false
  found [] e = refl
  found (c ∷ cs) e =
      let parts = neither (is_static c.kind) (list_any (λ d. is_static d.kind) cs) e in
      found_by c cs (bytes_eq c.name n) parts.0 (found cs parts.1)

  names_none : (cs : List Column) → list_any (λ c. is_static c.kind) cs ≡ false → names_static cs n ≡ false
  unfolding names_static column_named
  names_none cs e = found cs e

any_none : (cs : List Column) (ns : List (List ℕ)) → list_any (λ c. is_static c.kind) cs ≡ false → list_any (names_static cs) ns ≡ false
any_none cs [] e = refl
any_none cs (n ∷ ns) e = ap (λ b. b || list_any (names_static cs) ns) (names_none n cs e) ∙ any_none cs ns e

pub no_static_row : (cs : List Column) (ns : List (List ℕ)) → list_any (λ c. is_static c.kind) cs ≡ false → inserts_static cs ns ≡ false
unfolding inserts_static
no_static_row cs ns e = ap (λ b. b && list_all (λ n. cond (names_partition cs n) true (names_static cs n)) ns) (any_none cs ns e)
