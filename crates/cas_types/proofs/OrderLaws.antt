-- The order of the values of each type is total, and only equal values tie.
use Rattle.std.proofs.Common.{◌≡◌, ℕ, List, ap}
use Rattle.std.proofs.lemmas.Bool.{true≢false}
use Rattle.std.specs.declared.cmp.Ordering.{Ordering}
use Rattle.std.specs.declared.cmp.Ordering.TheVariants.{Less, Equal, Greater}
use Rattle.std.specs.Ordering.{is_lt, is_gt, ordering_then, on, then_cmp}
use Rattle.std.specs.Cmp.{IsTotalOrder}
use Rattle.std.specs.Cmp.Lexicographic.{options_total}
use Rattle.std.proofs.lemmas.Cmp.{then_total, on_total, nat_cmp_total, int_cmp_total, nat_list_cmp_total}
use Rattle.std.specs.FinMap.{nat_cmp-IsAntisymmetric, slice_cmp-IsAntisymmetric}
use Rattle.std.specs.Int.{w8, w16, w32, w64}
use Rattle.cas_types.specs.Values.{bytes_cmp, signed_number, day_number, uuid_version, uuid_time}
use Rattle.cas_types.specs.Orders.{Orders}
use Rattle.cas_types.specs.Laws.{ValueOrders}
use Rattle.cas_types.specs.declared.tag.TypeTag.TheVariants.{Ascii, BigInt, Blob, Boolean, Date, Int, SmallInt, Text, Time, Timestamp, TimeUuid, TinyInt, Uuid}

-- what ties in both ties in the last
last_ties : (r s : Ordering) → ordering_then r s ≡ Equal → s ≡ Equal
last_ties Less s e = absurd (true≢false (ap is_lt e))
last_ties Equal s e = e
last_ties Greater s e = absurd (true≢false (ap is_gt e))

pub bytes_orders : Orders bytes_cmp
bytes_orders = record { total = nat_list_cmp_total; ties = slice_cmp-IsAntisymmetric nat_cmp-IsAntisymmetric }

-- an order by what the bytes mean, and then by what is an order of them
refined : {K : Type 0} {R : K → K → Ordering} (f : List ℕ → K) → IsTotalOrder R → {S : List ℕ → List ℕ → Ordering} → Orders S → Orders (then_cmp (on f R) S)
refined f total rest = record {
  total = then_total (on_total f total) rest.total;
  ties = λ x y e. rest.ties x y (last_ties _ _ e);
}

pub value_orders : ValueOrders
value_orders Ascii = bytes_orders
value_orders BigInt = refined (signed_number w64) (options_total int_cmp_total) bytes_orders
value_orders Blob = bytes_orders
value_orders Boolean = bytes_orders
value_orders Date = refined day_number (options_total nat_cmp_total) bytes_orders
value_orders Int = refined (signed_number w32) (options_total int_cmp_total) bytes_orders
value_orders SmallInt = refined (signed_number w16) (options_total int_cmp_total) bytes_orders
value_orders Text = bytes_orders
value_orders Time = refined (signed_number w64) (options_total int_cmp_total) bytes_orders
value_orders Timestamp = refined (signed_number w64) (options_total int_cmp_total) bytes_orders
value_orders TimeUuid = refined uuid_version (options_total nat_cmp_total) (refined uuid_time (options_total nat_cmp_total) bytes_orders)
value_orders TinyInt = refined (signed_number w8) (options_total int_cmp_total) bytes_orders
value_orders Uuid = refined uuid_version (options_total nat_cmp_total) (refined uuid_time (options_total nat_cmp_total) bytes_orders)
