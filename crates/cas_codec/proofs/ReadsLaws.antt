-- What a reader answers, said in the grammar's words.
use Rattle.std.proofs.Common.{◌≡◌, ℕ, List, Result, Ok, Err}
use Rattle.std.specs.Prelude.{OnErr, IfOk}
use Rattle.cas_codec.specs.declared.fault.ReadFault.{ReadFault}
use Rattle.cas_codec.specs.Reading.{Left, Read}
use Rattle.cas_codec.specs.Exact.{AreBytes, Begins, IsExact, IsField, Reads}
use Rattle.cas_codec.specs.Inner.Answers.{Answers}

pub reads_from : {X A : Type 0} (view : X → A) (Fits : A → Type 0) (spelling : A → List ℕ) (reading : Left → Read A) (r : Result X ReadFault) (old new : Left)
    → IsField Fits spelling reading → AreBytes old.bytes → Answers view r new (reading old) → OnErr r (new ≡ old) → Reads view Fits spelling r old new
reads_from view Fits spelling reading (Ok x) old new field are answer stays = field.exact.found old new (view x) are answer
reads_from view Fits spelling reading (Err f) old new field are answer stays = (field.refused old f are answer, stays)

pub found_from : {X A : Type 0} (view : X → A) (Fits : A → Type 0) (spelling : A → List ℕ) (reading : Left → Read A) (r : Result X ReadFault) (old new : Left)
    → IsExact Fits spelling reading → AreBytes old.bytes → Answers view r new (reading old) → IfOk r (λ x. Begins (spelling (view x)) old new)
found_from view Fits spelling reading (Ok x) old new exact are answer = (exact.found old new (view x) are answer).1
found_from view Fits spelling reading (Err f) old new exact are answer = tt
