-- What is told of a result that was passed on.
use Rattle.std.proofs.Common.{◌≡◌, Result, Ok, Err, sym, subst}
use Rattle.std.specs.Prelude.{IfErr, IsErrAnd, IsErrOf}

pub passed_on : {T E : Type 0} (r : Result T E) (e : E) (P : E → Type 0) → IsErrAnd r (λ y. y ≡ e) → P e → IfErr r P
passed_on (Ok x) e P was p = tt
passed_on (Err y) e P was p = subst P (sym was) p

pub another : {T E : Type 0} (r : Result T E) (e x : E) → IsErrAnd r (λ y. y ≡ e) → (e ≡ x → ⊥) → IsErrOf r x → ⊥
another (Ok v) e x was differs is = cc
another (Err y) e x was differs is = differs (let k : e ≡ x = cc in k)
