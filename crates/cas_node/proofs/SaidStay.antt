-- Along a run the tables are as a manifest may tell them.
use Rattle.std.proofs.Common.{◌≡◌, ◌⊎◌, ◌≤◌, inl, inr, ⊎_elim, ℕ, ℤ, List, [], ◌∷◌, ◌++◌, Result, Ok, Err, refl, sym, ap, ◌∙◌, subst, arith}
use Rattle.std.specs.List.{fold}
use Rattle.cas_types.specs.declared.schema.TableSchema.{TableSchema}
use Rattle.cas_bind.specs.Meaning.{meaning}
use Rattle.cas_bind.specs.Tables.{AreTables, tables_after}
use Rattle.cas_bind.specs.declared.bound.Bound.{Bound}
use Rattle.cas_bind.specs.declared.bound.Bound.TheVariants as bound
use Rattle.cas_changes.specs.Allowed.{IsListable}
use Rattle.cas_changes.specs.Saying.{Saying, after, nothing, said_by}
use Rattle.cas_changes.specs.declared.entry.Entry.{Entry as ManifestEntry}
use Rattle.cas_changes.specs.declared.entry.Entry.TheVariants as told
use Rattle.cas_changes.specs.declared.said.TheConstants.{LISTED_LIMIT}
use Rattle.cas_effects.specs.declared.refusal.Refusal.{Refusal}
use Rattle.cas_manifest.specs.File.{MayFollow}
use Rattle.cas_manifest.proofs.Appends.{may_follow, said_more}
use Rattle.cas_render.specs.declared.reply.Failure.TheVariants as failure
use Rattle.cas_render.specs.declared.reply.Reply.{Reply}
use Rattle.cas_render.specs.declared.reply.Reply.TheVariants as reply
use Rattle.cas_words.specs.declared.words.ClockKind.{ClockKind}
use Rattle.cql_parse.specs.declared.syntax.Statement.{Statement}
use Rattle.define_laws.specs.Entries.{MayTell}
use Rattle.define_laws.proofs.Telling.{defined_columns_may_be_told, defined_tables_may_be_told}
use Rattle.define_laws.proofs.Told.{told_tables_are_tables}
use Rattle.cas_sessions.specs.Calls.{IsSpelled}
use Rattle.cas_lasting.specs.History.{History, Changes, Defines, DiskState, Does}
use Rattle.cas_lasting.specs.Listing.{ListsNone}
use Rattle.cas_lasting.specs.Starts.{start}
use Rattle.cas_lasting.proofs.Next.{Grows, grows_after}
use Rattle.cas_node.specs.Laws.{AreSaid, FoundSaid, MayBeSaid, SaidStay}
use Rattle.cas_node.proofs.Along.{along}

-- ---- before the first line

pub found_said : FoundSaid
unfolding start
found_said l entries mutations openings files faults h store begins =
    subst AreSaid (sym begins.history) (record { entries = entries; follow = store.follow; made = store.shards.0; tables_are = refl; shards_are = refl })

-- ---- a definition

-- at most so many files are listed as may be
few_listed : (s : Saying) (entries : List ManifestEntry) → s.listed ≤ LISTED_LIMIT → MayFollow s entries → (fold after s entries).listed ≤ LISTED_LIMIT
few_listed s [] few follow = few
few_listed s (e ∷ entries) few follow = few_listed (after s e) entries (listed e follow.0.1) follow.1
  where
    listed : (e : ManifestEntry) → IsListable s e → (after s e).listed ≤ LISTED_LIMIT
    listed (told.Store shards) is = is
    listed (told.Schema t) is = is
    listed (told.NewSegment n) is = is
    listed (told.DropSegment n) is = is
    listed (told.Change c) is = is
    listed (told.AddColumns table columns) is = is

few_said : (entries : List ManifestEntry) → MayFollow nothing entries → (said_by entries).listed ≤ LISTED_LIMIT
unfolding said_by
few_said entries follow = few_listed nothing entries (omega arith) follow

listable : (s : Saying) (e : ManifestEntry) → ListsNone e → s.listed ≤ LISTED_LIMIT → IsListable s e
listable s (told.Store shards) none few = absurd none
listable s (told.Schema t) none few = few
listable s (told.NewSegment n) none few = few
listable s (told.DropSegment n) none few = absurd none
listable s (told.Change c) none few = absurd none
listable s (told.AddColumns table columns) none few = few

-- with an entry more that may be told, which lists no file
still_said : (tables more : List TableSchema) (shards : ℕ) (e : ManifestEntry) → ListsNone e → (said : MayBeSaid tables shards)
    → MayTell (said_by said.entries) e more → MayBeSaid more shards
still_said tables more shards e lists said tells =
    let grows : Grows (said_by said.entries) (after (said_by said.entries) e) = grows_after (said_by said.entries) e lists tells.fits in
    let is : said_by (said.entries ++ e ∷ []) ≡ after (said_by said.entries) e = said_more said.entries e in
    let shards_are : (said_by (said.entries ++ e ∷ [])).shards ≡ (said_by said.entries).shards = ap (λ (s : Saying). s.shards) is ∙ grows.shards in
    record {
      entries = said.entries ++ e ∷ [];
      follow = may_follow said.entries e said.follow (tells.fits, listable (said_by said.entries) e lists (few_said said.entries said.follow));
      made = omega (arith, said.made, shards_are);
      tables_are = ap (λ (s : Saying). s.tables) is ∙ tells.tells;
      shards_are = shards_are ∙ said.shards_are;
    }

-- a definition is done, or isn't
either_way : (x : ManifestEntry) (old new : List TableSchema) (d : DiskState) (r : Reply) (tables : List TableSchema) (e : DiskState)
    → Defines x old new d r tables e → (tables ≡ new) ⊎ (tables ≡ old)
either_way x old new d reply.Done tables e t = inl t.0
either_way x old new d (reply.Wrote number) tables e t = absurd t
either_way x old new d (reply.Rows rows shard front now) tables e t = absurd t
either_way x old new d (reply.Flushed files) tables e t = absurd t
either_way x old new d (reply.Verified files) tables e t = absurd t
either_way x old new d (reply.Status listed) tables e t = absurd t
either_way x old new d (reply.Refused why) tables e t = inr t.0
either_way x old new d (reply.Failed failure.Memory) tables e t = inr t.0
either_way x old new d (reply.Failed failure.Stopped) tables e t = inr t.0
either_way x old new d (reply.Failed failure.Disk) tables e t = inr t.0
either_way x old new d (reply.Failed failure.Read) tables e t = absurd t
either_way x old new d (reply.Failed (failure.Block n at)) tables e t = absurd t

defined_said : (h : History) (x : ManifestEntry) (b : Bound) (r : Reply) (after : History) → (said : AreSaid h) → ListsNone x
    → MayTell (said_by said.entries) x (tables_after h.tables b) → Changes h x b r after → AreSaid after
defined_said h x b r after said lists tells a =
    subst AreSaid (sym a.3) (⊎_elim new old (either_way x h.tables (tables_after h.tables b) h.disk r a.0 a.1 a.2))
  where
    new : a.0 ≡ tables_after h.tables b → MayBeSaid a.0 h.limits.shards
    new is =
        subst (λ (ts : List TableSchema). MayBeSaid ts h.limits.shards) (sym is)
        (still_said h.tables (tables_after h.tables b) h.limits.shards x lists said tells)

    old : a.0 ≡ h.tables → MayBeSaid a.0 h.limits.shards
    old is = subst (λ (ts : List TableSchema). MayBeSaid ts h.limits.shards) (sym is) said

its_tables : (tables : List TableSchema) (shards : ℕ) → MayBeSaid tables shards → AreTables tables
its_tables tables shards said = subst AreTables said.tables_are (told_tables_are_tables said.entries said.follow)

-- ---- a statement, and a run

module _ (kind : ClockKind) (Gives : ℤ → Type 0) (h : History) (s : Statement) (spelled : IsSpelled s) (said : AreSaid h) where
  pub done_so : (m : Result Bound Refusal) → meaning h.limits.shards h.tables s ≡ m → (r : Reply) (t : History) → Does kind Gives h m r t → AreSaid t
  done_so (Err x) is r t a = subst AreSaid (sym a.1) said
  done_so (Ok (bound.Create x)) is r t a =
      defined_said h (told.Schema x) (bound.Create x) r t said tt
      (defined_tables_may_be_told spelled.0 spelled.1 s spelled.2 h.limits.shards h.tables x is (said_by said.entries) said.tables_are said.made) a
  done_so (Ok (bound.Alter x)) is r t a =
      defined_said h (told.AddColumns x.table x.columns) (bound.Alter x) r t said tt
      (defined_columns_may_be_told spelled.0 spelled.1 s spelled.2 h.limits.shards h.tables x (its_tables h.tables h.limits.shards said) is
      (said_by said.entries) said.tables_are said.made).1 a
  done_so (Ok (bound.Write w)) is r t a = subst AreSaid (sym a.2.3) said
  done_so (Ok (bound.Read q)) is r t a = subst AreSaid (sym a.2.3) said

pub said_stay : (Gives : ℤ → Type 0) → SaidStay Gives
said_stay Gives kind h after ls os said runs =
    along kind Gives AreSaid (λ h left full changes trimmed e so. so) (λ h seconds when so. so)
    (λ h s answer after spelled does so. done_so kind Gives h s spelled so (meaning h.limits.shards h.tables s) refl answer after does)
    h after ls os runs said
