-- A merge says something where its streams do: from a silent merge it follows, step by step back, that each stream is silent.
use Rattle.std.proofs.Common.{◌≡◌, Option, None, Some, List, [], ◌∷◌, ◌++◌, map, filter, fold, refl, sym}
use Rattle.std.specs.List.{AllByRecursion, flat_map, cons_option}
use Rattle.std.specs.Ordering.{nat_cmp}
use Rattle.std.specs.declared.cmp.Ordering.{Ordering}
use Rattle.std.specs.declared.cmp.Ordering.TheVariants.{Equal}
use Rattle.cas_types.specs.declared.tag.TypeTag.{TypeTag}
use Rattle.cas_cell.specs.Deletions.{deletion_cmp}
use Rattle.cas_cell.specs.Lives.{live_at, live_cmp}
use Rattle.cas_cell.specs.Cells.{cell_at}
use Rattle.cas_cell.specs.declared.deletion.Deletion.{Deletion}
use Rattle.cas_cell.specs.declared.liveness.Liveness.{Liveness}
use Rattle.cas_bounds.specs.declared.cuts.Clustering.{Clustering}
use Rattle.cas_atoms.specs.Greatest.{greater}
use Rattle.cas_atoms.specs.RowsAndPaths.{path_cmp}
use Rattle.cas_atoms.specs.Winners.{standing}
use Rattle.cas_atoms.specs.declared.atom.Atom.{Atom}
use Rattle.cas_atoms.specs.declared.atom.Atom.TheVariants.{PartitionDeletion, RangeDeletion, RowDeletion, Live}
use Rattle.cas_atoms.specs.declared.row.Row.{Row}
use Rattle.cas_atoms.specs.declared.row.RowColumn.{RowColumn}
use Rattle.cas_atoms.specs.declared.row.PathCell.{PathCell}
use Rattle.cas_laws.proofs.GreatestProofs.{no_none}
use Rattle.cas_streams.specs.Flat.{atom_of, writes, empties, of_column, own, Change, changes, between, ranges_after, ranges, at_end}
use Rattle.cas_streams.specs.Streams.{IsThere}
use Rattle.cas_streams.specs.Weaving.{Weave, rights, among, woven}
use Rattle.cas_streams.specs.Joined.{plainly, joined_cell, joined_cells, joined_column, joined_columns, raised, joined_fragment, by_place, Stream, joined}
use Rattle.cas_streams.specs.Settled.{is_bare, if_said, bare_column, bare_columns, bare_row, bare, settled_from}
use Rattle.cas_streams.specs.Merged.{Draw, nobody, one, pair, entered, draw, joined_all, merged, flat_of, flats}
use Rattle.cas_streams.specs.MergeLaws.{MergeSaysSomething}
use Rattle.cas_streams.specs.declared.fragment.Fragment.{Fragment}
use Rattle.cas_streams.specs.declared.fragment.Fragment.TheVariants as fragment
use Rattle.cas_streams.proofs.Weaves.{by_case, all_and, all_of}
use Rattle.cas_streams.proofs.Twins.{Twins, twins}
use Rattle.cas_streams.proofs.Forces.{forces}
use Rattle.cas_streams.proofs.Merges.{Each, merge_ordered}

-- ---- nothing

-- nothing is there
abbrev pub No : {X : Type 0} → List X → Type 0
No xs = AllByRecursion (λ x. ⊥) xs

pub there_if : {X Y : Type 0} (xs : List X) (ys : List Y) → (No ys → No xs) → IsThere xs → IsThere ys
there_if [] ys h is = absurd is
there_if (x ∷ xs) [] h is = absurd ((h tt).0)
there_if (x ∷ xs) (y ∷ ys) h is = tt

pub no_map : {X Y : Type 0} (f : X → Y) (xs : List X) → No xs → No (map f xs)
no_map f [] n = tt
no_map f (x ∷ xs) n = absurd (n.0)

pub map_no : {X Y : Type 0} (f : X → Y) (xs : List X) → No (map f xs) → No xs
map_no f [] n = tt
map_no f (x ∷ xs) n = absurd (n.0)

pub none_made : {X : Type 0} (make : X → Atom) (d : Option X) → d ≡ None → No (atom_of make d)
none_made make None e = tt
none_made make (Some d) e = no_none d (sym e)

pub made_none : {X : Type 0} (make : X → Atom) (d : Option X) → No (atom_of make d) → d ≡ None
made_none make None n = refl
made_none make (Some d) n = absurd (n.0)

-- the greater of two is none only where neither is there
pub greater_none_of : {Y : Type 0} (cmp : Y → Y → Ordering) (a b : Option Y) → greater cmp a b ≡ None → (a ≡ None) × (b ≡ None)
greater_none_of cmp None b e = (refl, e)
greater_none_of cmp (Some x) None e = no_none x (sym e)
greater_none_of cmp (Some x) (Some y) e = no_none _ (sym e)

-- ---- silent pieces

abbrev pub SilentColumn : RowColumn → Type 0
SilentColumn c = (c.deletion ≡ None) × No c.cells

-- a fragment that says nothing: a row or a static row of which nothing is said, a marker from which on nothing is in force
abbrev pub Silent : Fragment → Type 0
Silent (fragment.Static cs) = AllByRecursion SilentColumn cs
Silent (fragment.Row r) = (r.deletion ≡ None) × (r.live ≡ None) × AllByRecursion SilentColumn r.columns
Silent (fragment.Marker cut d) = d ≡ None

pub column_silent : (at : Option Clustering) (c : RowColumn) → No (of_column at c) → SilentColumn c
column_silent at c n =
    let (d, w) = all_of (λ a. ⊥) (atom_of (empties at c.column) c.deletion) (map (writes at c.column) c.cells) n in
    (made_none (empties at c.column) c.deletion d, map_no (writes at c.column) c.cells w)

silent_column : (at : Option Clustering) (c : RowColumn) → SilentColumn c → No (of_column at c)
silent_column at c s =
    all_and (λ a. ⊥) (atom_of (empties at c.column) c.deletion) (map (writes at c.column) c.cells) (none_made (empties at c.column) c.deletion s.0) (no_map (writes at c.column) c.cells s.1)

columns_silent : (at : Option Clustering) (cs : List RowColumn) → No (flat_map (of_column at) cs) → AllByRecursion SilentColumn cs
columns_silent at [] n = tt
columns_silent at (c ∷ cs) n =
    let (b, w) = all_of (λ a. ⊥) (of_column at c) (flat_map (of_column at) cs) n in (column_silent at c b, columns_silent at cs w)

silent_columns : (at : Option Clustering) (cs : List RowColumn) → AllByRecursion SilentColumn cs → No (flat_map (of_column at) cs)
silent_columns at [] s = tt
silent_columns at (c ∷ cs) s = all_and (λ a. ⊥) (of_column at c) (flat_map (of_column at) cs) (silent_column at c s.0) (silent_columns at cs s.1)

pub row_silent : (r : Row) → No (own (fragment.Row r)) → Silent (fragment.Row r)
row_silent r n =
    let at : Clustering = r.clustering in
    let (d, rest) = all_of (λ a. ⊥) (atom_of (RowDeletion at) r.deletion) (atom_of (Live at) r.live ++ flat_map (of_column (Some at)) r.columns) n in
    let (l, cs) = all_of (λ a. ⊥) (atom_of (Live at) r.live) (flat_map (of_column (Some at)) r.columns) rest in
    (made_none (RowDeletion at) r.deletion d, made_none (Live at) r.live l, columns_silent (Some at) r.columns cs)

pub static_silent : (cs : List RowColumn) → No (own (fragment.Static cs)) → Silent (fragment.Static cs)
static_silent cs n = columns_silent None cs n

pub silent_own : (f : Fragment) → Silent f → No (own f)
silent_own (fragment.Static cs) s = silent_columns None cs s
silent_own (fragment.Row r) s =
    let at : Clustering = r.clustering in
    let (d, l, cs) = s in
    all_and (λ a. ⊥) (atom_of (RowDeletion at) r.deletion) (atom_of (Live at) r.live ++ flat_map (of_column (Some at)) r.columns) (none_made (RowDeletion at) r.deletion d)
    (all_and (λ a. ⊥) (atom_of (Live at) r.live) (flat_map (of_column (Some at)) r.columns) (none_made (Live at) r.live l) (silent_columns (Some at) r.columns cs))
silent_own (fragment.Marker cut d) s = tt

-- ---- silent streams

-- from no change on anything is in force
abbrev pub Still : List Change → Type 0
Still ms = AllByRecursion (λ m. m.to ≡ None) ms

pub ranges_still : (ms : List Change) → at_end None ms ≡ None → No (ranges ms) → Still ms
ranges_still [] closed n = tt
ranges_still (m ∷ ms) closed n = go m ms closed n
  where
    go : (m : Change) (ms : List Change) → at_end m.to ms ≡ None → No (ranges_after m ms) → Still (m ∷ ms)
    go m [] closed n = (closed, tt)
    go m (k ∷ ms) closed n =
        let (b, w) = all_of (λ a. ⊥) (between m k) (ranges_after k ms) n in (made_none (RangeDeletion m.at k.at) m.to b, go k ms closed w)

pub still_ranges : (ms : List Change) → Still ms → No (ranges ms)
still_ranges [] s = tt
still_ranges (m ∷ ms) s = go m ms s
  where
    go : (m : Change) (ms : List Change) → Still (m ∷ ms) → No (ranges_after m ms)
    go m [] s = tt
    go m (k ∷ ms) s = all_and (λ a. ⊥) (between m k) (ranges_after k ms) (none_made (RangeDeletion m.at k.at) m.to s.0) (go k ms s.1)

-- the deletion of the whole is none, and all fragments are silent
abbrev pub IsSilent : Stream → Type 0
IsSilent s = (s.top ≡ None) × AllByRecursion Silent s.fragments

pub fragments_silent : (fs : List Fragment) → Still (changes fs) → No (flat_map own fs) → AllByRecursion Silent fs
fragments_silent [] m n = tt
fragments_silent (fragment.Static cs ∷ fs) m n =
    let (b, w) = all_of (λ a. ⊥) (own (fragment.Static cs)) (flat_map own fs) n in (static_silent cs b, fragments_silent fs m w)
fragments_silent (fragment.Row r ∷ fs) m n =
    let (b, w) = all_of (λ a. ⊥) (own (fragment.Row r)) (flat_map own fs) n in (row_silent r b, fragments_silent fs m w)
fragments_silent (fragment.Marker cut d ∷ fs) m n = (m.0, fragments_silent fs m.1 n)

pub silent_changes : (fs : List Fragment) → AllByRecursion Silent fs → Still (changes fs)
silent_changes [] s = tt
silent_changes (fragment.Static cs ∷ fs) s = silent_changes fs s.1
silent_changes (fragment.Row r ∷ fs) s = silent_changes fs s.1
silent_changes (fragment.Marker cut d ∷ fs) s = (s.0, silent_changes fs s.1)

pub silent_rows : (fs : List Fragment) → AllByRecursion Silent fs → No (flat_map own fs)
silent_rows [] s = tt
silent_rows (f ∷ fs) s = all_and (λ a. ⊥) (own f) (flat_map own fs) (silent_own f s.0) (silent_rows fs s.1)

pub stream_silent : (s : Stream) → at_end None (changes s.fragments) ≡ None → No (flat_of s) → IsSilent s
stream_silent s closed n =
    let (t, rest) = all_of (λ a. ⊥) (atom_of PartitionDeletion s.top) (ranges (changes s.fragments) ++ flat_map own s.fragments) n in
    let (m, w) = all_of (λ a. ⊥) (ranges (changes s.fragments)) (flat_map own s.fragments) rest in
    (made_none PartitionDeletion s.top t, fragments_silent s.fragments (ranges_still (changes s.fragments) closed m) w)

pub silent_stream : (s : Stream) → IsSilent s → No (flat_of s)
silent_stream s i =
    all_and (λ a. ⊥) (atom_of PartitionDeletion s.top) (ranges (changes s.fragments) ++ flat_map own s.fragments) (none_made PartitionDeletion s.top i.0)
    (all_and (λ a. ⊥) (ranges (changes s.fragments)) (flat_map own s.fragments) (still_ranges (changes s.fragments) (silent_changes s.fragments i.1)) (silent_rows s.fragments i.1))

-- ---- what was left of a stream

-- where what says nothing is left out, what is left out is silent
either_said : {X : Type 0} (P : X → Type 0) (atoms : List Atom) (x : X) (rest : List X) → (No atoms → P x) → AllByRecursion P (cons_option (if_said atoms x) rest) → P x × AllByRecursion P rest
either_said P [] x rest h a = (h tt, a)
either_said P (t ∷ atoms) x rest h a = a

-- under no deletion each cell stays
unfiltered : (d : Option Deletion) → d ≡ None → (ps : List PathCell) → No (filter (λ p. is_bare (greater deletion_cmp None d) (cell_at p.cell)) ps) → No ps
unfiltered None e [] n = tt
unfiltered None e (p ∷ ps) n = absurd (n.0)
unfiltered (Some d) e ps n = no_none d (sym e)

bare_columns_silent : (at : Option Clustering) (over : Option Deletion) → over ≡ None → (cs : List RowColumn) → AllByRecursion SilentColumn (bare_columns at over cs) → AllByRecursion SilentColumn cs
bare_columns_silent at None e [] s = tt
bare_columns_silent at None e (c ∷ cs) s =
    let (b, w) = either_said SilentColumn (of_column at (bare_column None c)) (bare_column None c) (bare_columns at None cs) (column_silent at (bare_column None c)) s in
    ((b.0, unfiltered c.deletion b.0 c.cells b.1), bare_columns_silent at None e cs w)
bare_columns_silent at (Some d) e cs s = no_none d (sym e)

-- nor is a liveness dropped
standing_none : (d : Option Deletion) → d ≡ None → (l : Option Liveness) → standing live_at d l ≡ None → l ≡ None
standing_none None e l s = s
standing_none (Some d) e l s = no_none d (sym e)

bare_row_silent : (r : Row) → Silent (fragment.Row (bare_row None r)) → Silent (fragment.Row r)
bare_row_silent r s =
    let (d, l, cs) = s in
    (d, standing_none r.deletion d r.live l, bare_columns_silent (Some r.clustering) r.deletion d r.columns cs)

settled_silent : (top : Option Deletion) → top ≡ None → (fs : List Fragment) → AllByRecursion Silent (settled_from top None fs) → AllByRecursion Silent fs
settled_silent None e [] s = tt
settled_silent None e (fragment.Static cs ∷ fs) s =
    let f : Fragment = bare None None (fragment.Static cs) in
    let (b, w) = either_said Silent (own f) f (settled_from None None fs) (static_silent (bare_columns None None cs)) s in
    (bare_columns_silent None None refl cs b, settled_silent None e fs w)
settled_silent None e (fragment.Row r ∷ fs) s =
    let f : Fragment = bare None None (fragment.Row r) in
    let (b, w) = either_said Silent (own f) f (settled_from None None fs) (row_silent (bare_row None r)) s in
    (bare_row_silent r b, settled_silent None e fs w)
settled_silent None e (fragment.Marker cut None ∷ fs) s = (refl, settled_silent None e fs s)
settled_silent None e (fragment.Marker cut (Some d) ∷ fs) s = no_none d (sym (s.0))
settled_silent (Some d) e fs s = no_none d (sym e)

-- ---- two woven into one

-- what holds of all that is woven, held of all on both sides
module _ {S X : Type 0} (w : Weave S X) (P : X → Type 0) (l : (s : S) (x : X) → P (w.left s x) → P x) (r : (s : S) (y : X) → P (w.right s y) → P y)
    (b : (s : S) (x y : X) → w.order x y ≡ Equal → P (w.both s x y) → P x × P y) where
  rights_from : (s : S) (ys : List X) → AllByRecursion P (rights w s ys) → AllByRecursion P ys
  rights_from s [] a = tt
  rights_from s (y ∷ ys) a = (r s y a.0, rights_from (w.past_right s y) ys a.1)

  among_from : (x : X) (xs : List X) (others : S → List X → List X) → ((t : S) (zs : List X) → AllByRecursion P (others t zs) → AllByRecursion P xs × AllByRecursion P zs)
      → (s : S) (ys : List X) → AllByRecursion P (among w x others s ys) → AllByRecursion P (x ∷ xs) × AllByRecursion P ys
  among_from x xs others h s [] a = let (p, q) = h (w.past_left s x) [] a.1 in ((l s x a.0, p), tt)
  among_from x xs others h s (y ∷ ys) a =
      by_case (λ zs. AllByRecursion P zs → AllByRecursion P (x ∷ xs) × AllByRecursion P (y ∷ ys)) (w.order x y)
      (w.left s x ∷ others (w.past_left s x) (y ∷ ys)) (w.both s x y ∷ others (w.past_right (w.past_left s x) y) ys) (w.right s y ∷ among w x others (w.past_right s y) ys)
      (λ e c. let (p, q) = h (w.past_left s x) (y ∷ ys) c.1 in ((l s x c.0, p), q))
      (λ e c. let (p, q) = h (w.past_right (w.past_left s x) y) ys c.1 in let (i, j) = b s x y e c.0 in ((i, p), (j, q)))
      (λ e c. let (p, q) = among_from x xs others h (w.past_right s y) ys c.1 in (p, (r s y c.0, q))) a

  pub woven_from : (s : S) (xs ys : List X) → AllByRecursion P (woven w s xs ys) → AllByRecursion P xs × AllByRecursion P ys
  woven_from s [] ys a = (tt, rights_from s ys a)
  woven_from s (x ∷ xs) ys a = among_from x xs (λ t zs. woven w t xs zs) (λ t zs c. woven_from t xs zs c) s ys a

cells_from : (tag : Option TypeTag) (ps rs : List PathCell) → No (joined_cells tag ps rs) → No ps × No rs
cells_from tag ps rs n = woven_from (plainly (λ p r. path_cmp tag p.path r.path) joined_cell) (λ p. ⊥) (λ s p h. h) (λ s r h. h) (λ s p r e h. absurd h) tt ps rs n

columns_from : (cs ds : List RowColumn) → AllByRecursion SilentColumn (joined_columns cs ds) → AllByRecursion SilentColumn cs × AllByRecursion SilentColumn ds
columns_from cs ds a =
    woven_from (plainly (λ c d. nat_cmp c.column.number d.column.number) joined_column) SilentColumn (λ s c h. h) (λ s d h. h) (λ s c d e h. both c d h) tt cs ds a
  where
    both : (c d : RowColumn) → SilentColumn (joined_column c d) → SilentColumn c × SilentColumn d
    both c d h =
        let (i, j) = greater_none_of deletion_cmp c.deletion d.deletion h.0 in
        let (p, q) = cells_from c.column.path c.cells d.cells h.1 in
        ((i, p), (j, q))

pub joined_from : (f g : Fragment) → Twins f g → Silent (joined_fragment f g) → Silent f × Silent g
joined_from (fragment.Static cs) (fragment.Static ds) t s = columns_from cs ds s
joined_from (fragment.Row r) (fragment.Row q) t s =
    let (d, l, cs) = s in
    let (a, b) = greater_none_of deletion_cmp r.deletion q.deletion d in
    let (i, j) = greater_none_of live_cmp r.live q.live l in
    let (p, k) = columns_from r.columns q.columns cs in
    ((a, i, p), (b, j, k))
joined_from (fragment.Marker k d) (fragment.Marker l e) t s = greater_none_of deletion_cmp d e s
joined_from (fragment.Static cs) (fragment.Row q) t s = absurd t
joined_from (fragment.Static cs) (fragment.Marker l e) t s = absurd t
joined_from (fragment.Row r) (fragment.Static ds) t s = absurd t
joined_from (fragment.Row r) (fragment.Marker l e) t s = absurd t
joined_from (fragment.Marker k d) (fragment.Static ds) t s = absurd t
joined_from (fragment.Marker k d) (fragment.Row q) t s = absurd t

raised_from : (other : Option Deletion) (f : Fragment) → Silent (raised other f) → Silent f
raised_from other (fragment.Static cs) s = s
raised_from other (fragment.Row r) s = s
raised_from other (fragment.Marker k d) s = (greater_none_of deletion_cmp d other s).0

streams_from : (a b : Stream) → IsSilent (joined a b) → IsSilent a × IsSilent b
streams_from a b i =
    let (t, u) = greater_none_of deletion_cmp a.top b.top i.0 in
    let (f, g) = woven_from by_place Silent (λ s f. raised_from s.right f) (λ s g. raised_from s.left g) (λ s f g e. joined_from f g (twins f g e)) (forces None None) a.fragments b.fragments i.1 in
    ((t, f), (u, g))

-- ---- all streams

drawn_silent : (d : Draw) → IsSilent (joined_all d) → Each IsSilent d
drawn_silent nobody i = tt
drawn_silent (one s) i = i
drawn_silent (pair l r) i = let (a, b) = streams_from (joined_all l) (joined_all r) i in (drawn_silent l a, drawn_silent r b)

entered_from : (d : Draw) (s : Stream) → Each IsSilent (entered d s) → Each IsSilent d × IsSilent s
entered_from nobody s a = (tt, a)
entered_from (one t) s a = a
entered_from (pair l r) s a = let (b, c) = entered_from r s a.0 in ((a.1, b), c)

draw_from : (d : Draw) (ss : List Stream) → Each IsSilent (fold entered d ss) → Each IsSilent d × AllByRecursion IsSilent ss
draw_from d [] a = (a, tt)
draw_from d (s ∷ ss) a =
    let (b, w) = draw_from (entered d s) ss a in
    let (c, i) = entered_from d s b in
    (c, (i, w))

silent_streams : (ss : List Stream) → AllByRecursion IsSilent ss → No (flats ss)
silent_streams [] a = tt
silent_streams (s ∷ ss) a = all_and (λ a. ⊥) (flat_of s) (flats ss) (silent_stream s a.0) (silent_streams ss a.1)

pub merge_says_something : MergeSaysSomething
merge_says_something order ss all = there_if (flats ss) (flat_of (merged ss)) (λ n.
    let (top, fs) = stream_silent (merged ss) ((merge_ordered order ss all).closed) n in
    let all_of_it : Stream = joined_all (draw ss) in
    silent_streams ss (draw_from nobody ss (drawn_silent (draw ss) (top, settled_silent all_of_it.top top all_of_it.fragments fs))).1)
