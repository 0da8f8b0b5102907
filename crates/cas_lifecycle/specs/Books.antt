-- The book of table files, and the files that shards have.
use Rattle.std.specs.Prelude.{◌≡◌, ℕ, ◌<◌, Bool, true, false, not, Option, None, Some}
use Rattle.cas_history.specs.Log.{Has}
use Rattle.cas_history.specs.Hands.{Owns}
use Rattle.cas_history.specs.declared.hand.Hand.{Hand}
use Rattle.cas_refs.specs.declared.Count.{Count}
use Rattle.cas_refs.specs.declared.RefBook.{RefBook}
use Rattle.cas_refs.specs.Counts.{at}
use Rattle.cas_history.specs.declared.item.Item.{Item}
use Rattle.cas_history.specs.Items.{listed, book_changes}
use Rattle.cas_history.specs.Last.{files_of}

-- the file is in the book, and not retired (own)
abbrev pub is_live : Option Count → Bool
is_live None = false
is_live (Some c) = not c.retired

module _ {E : Type 0} where
  -- the book's seat knows the changes of each shard; and each file that a shard has is in the book and not retired (own)
  pub record Booked (refs : RefBook) (h : Hand (Item E)) : Type 0 where
    pub owns : (s : ℕ) → s < 16 → Owns h (book_changes s)
    pub live : (s : ℕ) → s < 16 → (k : ℕ) → Has (files_of (listed (book_changes s) h.saw)) k → is_live (at refs k) ≡ true
