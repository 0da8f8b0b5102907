use Rattle.std.proofs.Common.{List, ℕ, [], ◌∷◌, ◌++◌, length, drop, OnOk, subst, arith, length-append}
use Rattle.cas_disk.specs.Disk.{IsKept}
use Rattle.cas_disk.proofs.Moments.{leaves_file, leaves_file_twice}
use Rattle.cas_gates.specs.Gates.{MayOpen, MayOpenOver}
use Rattle.cas_gates.proofs.Tearing.{block_put, gate_put, stays_closed, stays_whole, block_put_over, gate_put_over, stays_closed_over, stays_whole_over}
use Rattle.cas_gates.proofs.gated.write_gated.Goals as goal

pub returns-in_err-put-clause-during : goal.returns-in_err-put-clause-during
returns-in_err-put-clause-during g c front at kept =
    leaves_file c.args.n _ (MayOpen front c.args.block.now) _ _ c.put.ensures.during
    (λ d x was torn. stays_closed front c.args.block.now c.args.gate at _ (d c.args.n) (x c.args.n) (kept d was) torn)

pub returns-in_err-put-clause-others : goal.returns-in_err-put-clause-others
returns-in_err-put-clause-others g c = leaves_file c.args.n _ (λ file. Unit {0}) _ _ c.put.ensures.during (λ d x was torn. tt)

pub returns-clause-others : goal.returns-clause-others
returns-clause-others g c =
    leaves_file_twice c.args.n _ _ (λ file. Unit {0}) _ _ _ c.put.ensures.during c.put-2.ensures.during (λ d x was torn. tt) (λ d x mid torn. tt)

-- after the first write the block stands behind the closed gate
pub returns-clause-opened : goal.returns-clause-opened
returns-clause-opened g c front at kept =
    let lasts = λ (file : List ℕ). IsKept c.args.n file (g.F.Folder.disk c.put.new.folder) in
    let staged = subst lasts (block_put front c.args.block.now c.args.gate at) (c.in_ok-put.ensures.kept (front ++ 0 ∷ []) (omega (arith, at, length-append front (0 ∷ []))) kept) in
    subst (λ (file : List ℕ). OnOk c.put-2.result (IsKept c.args.n file (g.F.Folder.disk c.put-2.new.folder))) (gate_put front c.args.block.now c.args.gate at)
    (c.put-2.ensures.kept (front ++ 0 ∷ c.args.block.now) (omega (arith, at, length-append front (0 ∷ c.args.block.now))) staged)

pub returns-clause-during : goal.returns-clause-during
returns-clause-during g c front at kept =
    let n = c.args.n in
    let lasts = λ (file : List ℕ). IsKept n file (g.F.Folder.disk c.put.new.folder) in
    let staged = subst lasts (block_put front c.args.block.now c.args.gate at) (c.in_ok-put.ensures.kept (front ++ 0 ∷ []) (omega (arith, at, length-append front (0 ∷ []))) kept) in
    leaves_file_twice n _ _ (MayOpen front c.args.block.now) _ (g.F.Folder.disk c.put.new.folder) _ c.put.ensures.during c.put-2.ensures.during
    (λ d x was torn. stays_closed front c.args.block.now c.args.gate at _ (d n) (x n) (kept d was) torn)
    (λ d x mid torn. stays_whole front c.args.block.now c.args.gate at (d n) (x n) (staged d mid) torn)

pub returns-in_err-put-clause-during_over : goal.returns-in_err-put-clause-during_over
returns-in_err-put-clause-during_over g c front rest closed at shut kept =
    leaves_file c.args.n _ (MayOpenOver front c.args.block.now) _ _ c.put.ensures.during
    (λ d x was torn. stays_closed_over front c.args.block.now c.args.gate at closed shut rest _ (d c.args.n) (x c.args.n) (kept d was) torn)

pub returns-clause-opened_over : goal.returns-clause-opened_over
returns-clause-opened_over g c front rest closed at shut kept =
    let block = c.args.block.now in
    let lasts = λ (file : List ℕ). IsKept c.args.n file (g.F.Folder.disk c.put.new.folder) in
    let left = block ++ drop (length block) rest in
    let staged = subst lasts (block_put_over front block c.args.gate at closed rest)
    (c.in_ok-put.ensures.kept (front ++ closed ∷ rest) (omega (arith, at, length-append front (closed ∷ rest))) kept) in
    subst (λ (file : List ℕ). OnOk c.put-2.result (IsKept c.args.n file (g.F.Folder.disk c.put-2.new.folder))) (gate_put_over front block c.args.gate at closed left)
    (c.put-2.ensures.kept (front ++ closed ∷ left) (omega (arith, at, length-append front (closed ∷ left))) staged)

pub returns-clause-during_over : goal.returns-clause-during_over
returns-clause-during_over g c front rest closed at shut kept =
    let n = c.args.n in
    let block = c.args.block.now in
    let lasts = λ (file : List ℕ). IsKept n file (g.F.Folder.disk c.put.new.folder) in
    let staged = subst lasts (block_put_over front block c.args.gate at closed rest)
    (c.in_ok-put.ensures.kept (front ++ closed ∷ rest) (omega (arith, at, length-append front (closed ∷ rest))) kept) in
    leaves_file_twice n _ _ (MayOpenOver front block) _ (g.F.Folder.disk c.put.new.folder) _ c.put.ensures.during c.put-2.ensures.during
    (λ d x was torn. stays_closed_over front block c.args.gate at closed shut rest _ (d n) (x n) (kept d was) torn)
    (λ d x mid torn. stays_whole_over front block c.args.gate at closed (drop (length block) rest) (d n) (x n) (staged d mid) torn)
