-- What a sync makes last, and that what is kept by a choice is an image.
use Rattle.std.proofs.Common.{◌≡◌, inl, inr, ◌||◌, Bool, true, false, if◌then◌else◌, ℕ, List, [], ◌∷◌, length, replicate, Option, None, Some, is_some, is_none, Result, Ok, Err, OnOk, refl, sym, ◌∙◌, ap, subst}
use Rattle.cas_disk.specs.declared.name.Name.{Name}
use Rattle.cas_disk.specs.declared.name.Name.TheVariants.{Manifest, Log, Table, Import}
use Rattle.cas_disk.specs.declared.event.Stored.{Stored}
use Rattle.cas_disk.specs.declared.event.Event.{Event}
use Rattle.cas_disk.specs.declared.event.Event.TheVariants.{Create, Write, Sync, Remove, Draft, Admit}
use Rattle.cas_disk.specs.declared.event.Choice.{Choice}
use Rattle.cas_disk.specs.declared.event.Choice.TheVariants.{Old, New, Fill}
use Rattle.cas_disk.specs.Names.{same_name}
use Rattle.cas_disk.specs.Disk.{Image, Changed, MayTear, Is}
use Rattle.cas_disk.specs.Inner.Past.{image_of, with_file, written, now, Left, mixed, lasts, chosen}
use Rattle.cas_disk.specs.Inner.PastLaws.{same_self, same_is, with_file_changed, written_tears, not_torn, now_left}
use Rattle.std.proofs.lemmas.List.{length-replicate}
use Rattle.cas_disk.proofs.FileLemmas.{those, image_of-those}
use Rattle.cas_disk.proofs.Mixing.{mix}

-- what holds where a call answered Ok
pub on_ok : {T E A B : Type 0} (r : Result T E) → OnOk r A → (A → B) → OnOk r B
on_ok (Ok x) first says = says first
on_ok (Err e) first says = tt

-- the manifest, with which the files that are gone last as such
dropped_if : (k : Name) (b : Bool) (read : Image) (file : Option (List ℕ)) → same_name Manifest k ≡ b → (x : Option (List ℕ)) → read k ≡ x → (if b then read Manifest else if is_some x then file else None) ≡ (if b || is_none x then read k else file)
dropped_if k true read file is x e = ap read (same_is Manifest k is)
dropped_if k false read file isnt None e = sym e
dropped_if k false read file isnt (Some bytes) e = refl

pub settled_manifest : (read : Image) (kept : List Stored) → with_file Manifest (read Manifest) (image_of (those (λ n. is_some (read n)) kept)) ≡ mixed (lasts Manifest read) read (image_of kept)
settled_manifest read kept = λ i k. (ap (λ (file : Option (List ℕ)). if same_name Manifest k then read Manifest else file) (image_of-those (λ n. is_some (read n)) kept k) ∙ dropped_if k (same_name Manifest k) read (image_of kept k) refl (read k) refl) i

lasts_here : (n : Name) (read : Image) → lasts n read n ≡ true
lasts_here Manifest read = refl
lasts_here (Log n) read = same_self (Log n)
lasts_here (Table n) read = same_self (Table n)
lasts_here (Import n) read = same_self (Import n)

or_true : (b : Bool) → (b || true) ≡ true
or_true true = refl
or_true false = refl

gone_at : (n : Name) (read c : Image) (k : Name) → n ≡ Manifest → read k ≡ None → mixed (lasts n read) read c k ≡ None
gone_at n read c k is none = ap (λ (m : Name). mixed (lasts m read) read c k) is ∙ ap (λ (b : Bool). if b then read k else c k) (ap (λ (x : Option (List ℕ)). same_name Manifest k || is_none x) none ∙ or_true (same_name Manifest k)) ∙ none

synced : (n : Name) (start : Image) (past : List Event) (d : Image) → Left start past d → Left start (Sync n ∷ past) (mixed (lasts n (now start past)) (now start past) d)
synced n start past d left =
    let read = now start past in (
      mix (lasts n read) start past read d (now_left start past) left,
      record {
        here = ap (λ (b : Bool). if b then read n else d n) (lasts_here n read);
        removed = λ is k other none. gone_at n read d k is none;
      },
    )

unchanged : (n : Name) (change : Option (List ℕ) → Option (List ℕ) → Type 0) (d : Image) → change (d n) (d n) → Changed n change d d
unchanged n change d here = record { here = here; others = λ k other. refl }

may_not_tear : (at n : ℕ) (file : Option (List ℕ)) → MayTear at n file file
may_not_tear at n None = refl
may_not_tear at n (Some file) = (file, refl, not_torn at n file)

filled : (at : ℕ) (bytes : List ℕ) (byte : ℕ) (file : Option (List ℕ)) → MayTear at (length bytes) file (written at (replicate (length bytes) byte) file)
filled at bytes byte file = subst (λ (n : ℕ). MayTear at n file (written at (replicate (length bytes) byte) file)) (length-replicate (length bytes) byte) (written_tears at (replicate (length bytes) byte) file)

pub chosen_left : (choice : Choice) (start : Image) (past : List Event) → Left start past (chosen choice start past)
chosen_left choice start [] = refl
chosen_left Old start (Create n ∷ past) = (chosen Old start past, chosen_left Old start past, with_file_changed n _ _ _ refl)
chosen_left New start (Create n ∷ past) = (chosen New start past, chosen_left New start past, with_file_changed n _ _ _ refl)
chosen_left (Fill byte) start (Create n ∷ past) = (chosen (Fill byte) start past, chosen_left (Fill byte) start past, with_file_changed n _ _ _ refl)
chosen_left Old start (Write n at bytes ∷ past) = (chosen Old start past, chosen_left Old start past, unchanged n _ _ (may_not_tear at (length bytes.items) (chosen Old start past n)))
chosen_left New start (Write n at bytes ∷ past) = (chosen New start past, chosen_left New start past, with_file_changed n _ _ _ (written_tears at bytes.items (chosen New start past n)))
chosen_left (Fill byte) start (Write n at bytes ∷ past) = (chosen (Fill byte) start past, chosen_left (Fill byte) start past, with_file_changed n _ _ _ (filled at bytes.items byte (chosen (Fill byte) start past n)))
chosen_left Old start (Sync n ∷ past) = synced n start past (chosen Old start past) (chosen_left Old start past)
chosen_left New start (Sync n ∷ past) = synced n start past (chosen New start past) (chosen_left New start past)
chosen_left (Fill byte) start (Sync n ∷ past) = synced n start past (chosen (Fill byte) start past) (chosen_left (Fill byte) start past)
chosen_left Old start (Remove n ∷ past) = (chosen Old start past, chosen_left Old start past, unchanged n _ _ (inl refl))
chosen_left New start (Remove n ∷ past) = (chosen New start past, chosen_left New start past, with_file_changed n _ _ _ (inr refl))
chosen_left (Fill byte) start (Remove n ∷ past) = (chosen (Fill byte) start past, chosen_left (Fill byte) start past, with_file_changed n _ _ _ (inr refl))
chosen_left Old start (Draft number ∷ past) = (chosen Old start past, chosen_left Old start past, unchanged (Table number) _ _ tt)
chosen_left New start (Draft number ∷ past) = (chosen New start past, chosen_left New start past, unchanged (Table number) _ _ tt)
chosen_left (Fill byte) start (Draft number ∷ past) = (chosen (Fill byte) start past, chosen_left (Fill byte) start past, with_file_changed (Table number) _ _ _ tt)
chosen_left Old start (Admit number bytes ∷ past) = (chosen Old start past, chosen_left Old start past, with_file_changed (Table number) (Is bytes.items) _ _ refl)
chosen_left New start (Admit number bytes ∷ past) = (chosen New start past, chosen_left New start past, with_file_changed (Table number) (Is bytes.items) _ _ refl)
chosen_left (Fill byte) start (Admit number bytes ∷ past) = (chosen (Fill byte) start past, chosen_left (Fill byte) start past, with_file_changed (Table number) (Is bytes.items) _ _ refl)
