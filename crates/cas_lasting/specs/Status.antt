-- What `\status` lists, in the words of the history.
-- Cassandra documentation, "nodetool tablestats"; own.
use Rattle.std.specs.Prelude.{ℕ, List, map}
use Rattle.cas_render.specs.Listing.{status_of}
use Rattle.cas_render.specs.declared.reply.Listed.{Listed}
use Rattle.cas_sstread.specs.Loading.{Held}
use Rattle.cas_view.specs.Views.{File}
use Rattle.cas_lasting.specs.History.{History}

-- the numbers of the files that a table has in a shard
abbrev pub file_numbers : (ℕ → ℕ → List (File Held)) → ℕ → ℕ → List ℕ
file_numbers files shard table = map (λ f. f.info.number) (files shard table)

-- each table in each shard, in order, with the numbers of its files there
abbrev pub status : History → List Listed
status h = status_of h.tables h.limits.shards (file_numbers h.disk.files)
