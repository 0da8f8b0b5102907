-- Why a file isn't opened that isn't loaded.
use Rattle.std.proofs.Common.{◌≡◌, ℕ, List, Option, Some, Err}
use Rattle.cas_types.specs.declared.schema.TableSchema.{TableSchema}
use Rattle.cas_bounds.specs.ClusteringOrder.{clustering_order}
use Rattle.cas_info.specs.declared.info.TableInfo.{TableInfo}
use Rattle.cas_sstread.specs.declared.fault.TableFault.{TableFault}
use Rattle.cas_sstread.specs.declared.fault.TableFault.TheVariants.{ReadFault as Unread, BadBlock, Mem}
use Rattle.cas_sstread.specs.Loading.{Answers, Held}
use Rattle.cas_sstread.specs.Reading.{loaded_at}
use Rattle.cas_flushing.specs.Flushed.{WhyUnopened}

pub unloaded : (t : TableSchema) (shard : ℕ) (told : TableInfo) (bytes : Option (List ℕ)) (e : TableFault)
    → ((b : List ℕ) → bytes ≡ Some b → Answers (λ (h : Held). h.kept) told.number (Err e) (loaded_at (clustering_order t.columns) t.number shard told b))
    → WhyUnopened t shard told bytes e
unloaded t shard told bytes Unread answers = tt
unloaded t shard told bytes (BadBlock n at) answers = answers
unloaded t shard told bytes Mem answers = tt
