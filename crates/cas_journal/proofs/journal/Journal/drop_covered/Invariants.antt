use Rattle.std.proofs.Common.{◌≡◌, ◌≤◌, ◌+◌, None, length, vec_len}
use Rattle.cas_disk.specs.Disk.{During}
use Rattle.cas_journal.specs.Reach.{reach_dropped, reach_of}
use Rattle.cas_journal.specs.Stores.{Told, SameTables, Dropped, HoldsDropped}
use Rattle.cas_journal.specs.Journals.{Lasts, AreFree}
use Rattle.cas_journal.proofs.journal.Journal.drop_covered.Given as goal

abbrev pub invariant-turns : goal.invariant-turns
invariant-turns g l = record {
  free : AreFree l.self (g.F.Folder.disk l.folder);
  going : l.self.first ≡ None;
  lasts : (t : Told) → Lasts l.fn.self (g.F.Folder.disk l.fn.folder) t
      → (u : Told) × (d : Dropped l.fn.self.notes.shards l.frontiers t u) × (length d.numbers ≡ l.dropped) × Lasts l.self (g.F.Folder.disk l.folder) u;
  during : (t : Told) → Lasts l.fn.self (g.F.Folder.disk l.fn.folder) t
      → During (λ _ c. HoldsDropped l.fn.self.notes.shards l.frontiers t c) (g.F.Folder.disk l.fn.folder) (g.F.Folder.disk l.folder);
  tables : During SameTables (g.F.Folder.disk l.fn.folder) (g.F.Folder.disk l.folder);
  faults : g.F.Folder.faults_of l.fn.folder ≤ g.F.Folder.faults_of l.folder;
  few : l.dropped + vec_len l.self.notes.list ≤ vec_len l.fn.self.notes.list;
  shards : l.self.notes.shards ≡ l.fn.self.notes.shards;
  log : l.self.log ≡ l.fn.self.log;
  spare : l.self.spare ≡ l.fn.self.spare;
  last : l.self.last_segment ≡ l.fn.self.last_segment;
  reach : reach_of l.self ≡ reach_dropped l.dropped (reach_of l.fn.self);
  size : l.self.size ≡ l.fn.self.size;
}

abbrev pub decreases-turns : goal.decreases-turns
decreases-turns g l = vec_len l.self.notes.list
