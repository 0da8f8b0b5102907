-- What is answered of a field that was refused, and how answers go together.
use Rattle.std.proofs.Common.{◌≡◌, inl, inr, Bool, ℕ, List, [], ◌++◌, filter, Result, Ok, Err, refl, sym, ap, ◌∙◌}
use Rattle.cas_codec.specs.declared.fault.ReadFault.{ReadFault}
use Rattle.cas_codec.specs.declared.fault.ReadFault.TheVariants.{Short, Bad as BadField, Mem as NoMemory}
use Rattle.cas_codec.specs.Reading.{Left, Read, Gives}
use Rattle.cas_files.specs.Ahead.{Ahead}
use Rattle.cas_atoms.specs.declared.atom.Mutation.{Mutation}
use Rattle.cas_replay.specs.declared.fault.ReplayFault.{ReplayFault}
use Rattle.cas_replay.specs.declared.fault.ReplayFault.TheVariants.{Failed, Bad, Mem}
use Rattle.cas_replay.specs.Inner.Faults.{of_field}
use Rattle.cas_replay.specs.Inner.Steps.{ReadsOn, Reaches, StepsOn, opened_at, left_of, values_of}
use Rattle.cas_replay.specs.Inner.Progress.{Tells, GoesThrough}
use Rattle.cas_replay.specs.Reading.{is_above, above_in}
use Rattle.cas_replay.specs.Replays.{HandsOn, Replays, IsFront, IsRefusedAt}
use Rattle.cas_replay.proofs.Fronts.{values_front, above_front}

-- the field that a part refused is the one that the whole refuses
module _ {Z A : Type 0} (part : Z → A) (segment : ℕ) (file : List ℕ) (ahead : Ahead) where
  pub reads_refused : {X Y : Type 0} (view : X → Y) (f : ReadFault) (new : Left) (read : Read A) (whole : Read Y) (r : ReplayFault) → r ≡ of_field segment f
      → Gives part (Err f) new read → ((g : ReadFault) → read ≡ Err g → whole ≡ Err g) → ReadsOn view segment file ahead (Err r) whole
  reads_refused view (Short at) new read whole r is e so = rw is (refl, inl (so (Short at) e))
  reads_refused view (BadField at) new read whole r is e so = rw is (refl, inr (so (BadField at) e))
  reads_refused view NoMemory new read whole r is e so = rw is tt

  pub steps_refused : (all : A → List Mutation) (found : List Mutation) (f : ReadFault) (new : Left) (read : Read A) (whole : Read (Bool × List Mutation)) (r : ReplayFault)
      → r ≡ of_field segment f → Tells part all found (Err f) new read → ((g : ReadFault) → read ≡ Err g → whole ≡ Err g)
      → (IsFront (λ (x : A × Left). all x.0) found read → IsFront (λ (x : (Bool × List Mutation) × Left). x.0.1) found whole) → StepsOn segment file ahead found (Err r) whole
  steps_refused all found (Short at) new read whole r is e so front = rw is (refl, inl (so (Short at) e))
  steps_refused all found (BadField at) new read whole r is e so front = rw is (refl, inr (so (BadField at) e))
  steps_refused all found NoMemory new read whole r is e so front = rw is (front e)

  pub part_refused : (found : List Mutation) (f : ReadFault) (new : Left) (read : Read A) (whole : Read (Bool × List Mutation)) (r : ReplayFault) → r ≡ of_field segment f
      → Gives part (Err f) new read → ((g : ReadFault) → read ≡ Err g → whole ≡ Err g) → IsFront (λ (x : (Bool × List Mutation) × Left). x.0.1) found whole
      → StepsOn segment file ahead found (Err r) whole
  part_refused found (Short at) new read whole r is e so front = rw is (refl, inl (so (Short at) e))
  part_refused found (BadField at) new read whole r is e so front = rw is (refl, inr (so (BadField at) e))
  part_refused found NoMemory new read whole r is e so front = rw is front

  pub reach_refused : (size at : ℕ) (f : ReadFault) (new : Left) (read : Read A) (r : ReplayFault) → r ≡ of_field segment f
      → Gives part (Err f) new read → ((g : ReadFault) → read ≡ Err g → opened_at size (left_of file at) ≡ Err g) → Reaches segment size at file ahead (Err r)
  reach_refused size at (Short place) new read r is e so = rw is (refl, inl (so (Short place) e))
  reach_refused size at (BadField place) new read r is e so = rw is (refl, inr (so (BadField place) e))
  reach_refused size at NoMemory new read r is e so = rw is tt

-- a part that is refused, of a reading that hands on what it reads
module _ {X Y A B : Type 0} (part : Y → B) (view : X → A) (all : A → List Mutation) (found : List Mutation) where
  pub tells_fault : (f : ReadFault) (old new : Left) (read : Read B) (whole : Read A) → Gives part (Err f) old read → ((g : ReadFault) → read ≡ Err g → whole ≡ Err g)
      → IsFront (λ (x : A × Left). all x.0) found whole → Tells view all found (Err f) new whole
  tells_fault (Short at) old new read whole e so front = so (Short at) e
  tells_fault (BadField at) old new read whole e so front = so (BadField at) e
  tells_fault NoMemory old new read whole e so front = front

  pub told_fault : (every : B → List Mutation) (f : ReadFault) (old new : Left) (read : Read B) (whole : Read A) → Tells part every found (Err f) old read
      → ((g : ReadFault) → read ≡ Err g → whole ≡ Err g) → (IsFront (λ (x : B × Left). every x.0) found read → IsFront (λ (x : A × Left). all x.0) found whole)
      → Tells view all found (Err f) new whole
  told_fault every (Short at) old new read whole e so front = so (Short at) e
  told_fault every (BadField at) old new read whole e so front = so (BadField at) e
  told_fault every NoMemory old new read whole e so front = front e

refused_as : {A B : Type 0} (place : ℕ) (read : Result A ReadFault) (whole : Result B ReadFault) → ((g : ReadFault) → read ≡ Err g → whole ≡ Err g) → IsRefusedAt place read → IsRefusedAt place whole
refused_as place read whole so (inl e) = inl (so (Short place) e)
refused_as place read whole so (inr e) = inr (so (BadField place) e)

-- a block that isn't there, or is refused, by what its gate and its length say
pub step_refused : (segment size at : ℕ) (file : List ℕ) (ahead other : Ahead) (found : List Mutation) (f : ReplayFault) (whole : Read (Bool × List Mutation))
    → Reaches segment size at file ahead (Err f) → ((g : ReadFault) → opened_at size (left_of file at) ≡ Err g → whole ≡ Err g)
    → IsFront (λ (x : (Bool × List Mutation) × Left). x.0.1) found whole → StepsOn segment file other found (Err f) whole
step_refused segment size at file ahead other found (Bad of place) whole r so front = (r.0, refused_as place (opened_at size (left_of file at)) whole so r.1)
step_refused segment size at file ahead other found Failed whole r so front = front
step_refused segment size at file ahead other found Mem whole r so front = front

-- blocks of which the next is refused
pub blocks_refused : (X : Type 0) (segment : ℕ) (file : List ℕ) (ahead : Ahead) (found : List Mutation) (f : ReplayFault) (step : Read (Bool × List Mutation)) (whole : Read (List Mutation))
    → StepsOn segment file ahead found (Err f) step → ((g : ReadFault) → step ≡ Err g → whole ≡ Err g)
    → (IsFront (λ (x : (Bool × List Mutation) × Left). x.0.1) found step → IsFront (λ (x : List Mutation × Left). x.0) found whole)
    → GoesThrough {X = X} found segment (Err f) (values_of whole)
blocks_refused X segment file ahead found (Bad of place) step whole r so front = (r.0, refused_as place step (values_of whole) (λ g e. ap values_of (so g e)) r.1)
blocks_refused X segment file ahead found Failed step whole r so front = values_front found whole (front r)
blocks_refused X segment file ahead found Mem step whole r so front = values_front found whole (front r)

-- a header that is refused
pub header_refused : (X : Type 0) (found : List Mutation) (segment : ℕ) (file : List ℕ) (ahead : Ahead) (f : ReplayFault) (read : Read ℕ) (whole : Result (List Mutation) ReadFault)
    → ReadsOn (λ (size : ℕ). size) segment file ahead (Err f) read → ((g : ReadFault) → read ≡ Err g → whole ≡ Err g) → IsFront (λ ms. ms) found whole
    → GoesThrough {X = X} found segment (Err f) whole
header_refused X found segment file ahead (Bad of place) read whole r so front = (r.0, refused_as place read whole so r.1)
header_refused X found segment file ahead Failed read whole r so front = front
header_refused X found segment file ahead Mem read whole r so front = front

-- a log of which a segment is refused
pub log_refused : (X Y : Type 0) (shards : ℕ) (frontiers : List ℕ) (took : List Mutation → Type 0) (found : List Mutation) (segment : ℕ) (f : ReplayFault) (read : Result (List Mutation) ReadFault)
    (whole : Result (List Mutation) (ℕ × ReadFault)) → GoesThrough {X = X} found segment (Err f) read → ((g : ReadFault) → read ≡ Err g → whole ≡ Err (segment, g))
    → (IsFront (λ ms. ms) found read → IsFront (λ ms. ms) found whole) → took (filter (is_above shards frontiers) found)
    → HandsOn {X = Y} took (Err f) (above_in shards frontiers whole)
log_refused X Y shards frontiers took found segment (Bad of place) read whole (is, inl e) so front handed = rw is (inl (ap (above_in shards frontiers) (so (Short place) e)))
log_refused X Y shards frontiers took found segment (Bad of place) read whole (is, inr e) so front handed = rw is (inr (ap (above_in shards frontiers) (so (BadField place) e)))
log_refused X Y shards frontiers took found segment Failed read whole r so front handed = above_front shards frontiers took found whole handed (front r)
log_refused X Y shards frontiers took found segment Mem read whole r so front handed = above_front shards frontiers took found whole handed (front r)

-- what was handed on to one that had nothing is what is answered
pub all_handed : (new : List Mutation) (read : Result (List Mutation) (ℕ × ReadFault)) → (given : List Mutation) × (new ≡ given) × (read ≡ Ok given) → read ≡ Ok new
all_handed new read (given, is, e) = e ∙ ap kept (sym is)
  where
    kept : List Mutation → Result (List Mutation) (ℕ × ReadFault)
    kept l = Ok l

pub fault_handed : (X : Type 0) {Y : Type 0} (view : Y → List Mutation) (took : List Mutation → Type 0) (f : ReplayFault) (read : Result (List Mutation) (ℕ × ReadFault))
    → HandsOn {X = X} took (Err f) read → Replays view (Err f) read
fault_handed X view took (Bad of place) read r = r
fault_handed X view took Failed read r = tt
fault_handed X view took Mem read r = tt
