use Rattle.std.proofs.Common.{ℕ, List, Option, inl, refl, arith, Vec, Global, sym, subst}
use Rattle.lru.specs.LruCache.{LruCache}
use Rattle.cas_reading.specs.Caching.{IsFileBlock, MayKeep, kept_of}
use Rattle.cas_reading.proofs.Keeping.{AreTrue, copy_is_true, true_after_use, true_after, may_keep}
use Rattle.cas_reading.proofs.Leading.{kept_block, read_block}
use Rattle.cas_reading.proofs.cache.FromCacheOrigin.body.Goals as goal
use Rattle.cas_reading.proofs.cache.FromCacheOrigin.body.Goals.{in-Some-body, in_default-body}

pub returns-in_err-found-clause-fits : goal.returns-in_err-found-clause-fits
returns-in_err-found-clause-fits g c =
    true_after_use (λ (v : Vec ℕ Global). v.items) (g.F.Sealed.contents c.args.file.now.sealed.now) c.args.file.now.end c.args.cache.now.blocks
    c.find.new.blocks c.args.place c.in-Some.ensures.blocks c.requires.fits

pub returns-in_err-found-clause-leads : goal.returns-in_err-found-clause-leads
returns-in_err-found-clause-leads g c =
    kept_block c.args.place (kept_of c.args.cache.now.blocks c.args.cache.now.reads) (kept_of c.find.new.blocks c.args.cache.now.reads)
    c.in-Some.ensures.found.0 c.in-Some.ensures.found.1 refl c.in-Some.ensures.blocks

pub returns-in-Some-clause-told : goal.returns-in-Some-clause-told
returns-in-Some-clause-told g c = λ b is.
    (copy_is_true (λ (v : Vec ℕ Global). v.items) (g.F.Sealed.contents c.args.file.now.sealed.now) c.args.file.now.end c.args.cache.now.blocks
    c.requires.fits c.args.place c.in-Some.ensures.found.0 c.in-Some.ensures.found.1 c.in_ok-found.field-0.items
    (rw c.in_ok-found.was at c.in-Some.ensures.found.2)).there b is

pub returns-in-Some-clause-within : goal.returns-in-Some-clause-within
returns-in-Some-clause-within g c =
    let one = copy_is_true (λ (v : Vec ℕ Global). v.items) (g.F.Sealed.contents c.args.file.now.sealed.now) c.args.file.now.end c.args.cache.now.blocks
    c.requires.fits c.args.place c.in-Some.ensures.found.0 c.in-Some.ensures.found.1 c.in_ok-found.field-0.items
    (rw c.in_ok-found.was at c.in-Some.ensures.found.2) in
    omega (arith, one.within)

pub returns-in-Some-clause-fits : goal.returns-in-Some-clause-fits
returns-in-Some-clause-fits g c =
    true_after_use (λ (v : Vec ℕ Global). v.items) (g.F.Sealed.contents c.args.file.now.sealed.now) c.args.file.now.end c.args.cache.now.blocks
    c.find.new.blocks c.args.place c.in-Some.ensures.blocks c.requires.fits

pub returns-in-Some-clause-leads : goal.returns-in-Some-clause-leads
returns-in-Some-clause-leads g c =
    kept_block c.args.place (kept_of c.args.cache.now.blocks c.args.cache.now.reads) (kept_of c.find.new.blocks c.args.cache.now.reads)
    c.in-Some.ensures.found.0 c.in-Some.ensures.found.1 refl c.in-Some.ensures.blocks

pub returns-in_err-body-clause-leads : goal.returns-in_err-body-clause-leads
returns-in_err-body-clause-leads g c =
    read_block c.args.place (kept_of c.args.cache.now.blocks c.args.cache.now.reads) (kept_of c.find.new.blocks c.saturating_add-cache.result)
    c.in_default.ensures.found c.saturating_add-cache.ensures (inl c.in_default.ensures.blocks)

pub returns-clause-fits : goal.returns-clause-fits
returns-clause-fits g c =
    let bytes : Vec ℕ Global → List ℕ = λ v. v.items in
    let contents : Option (List ℕ) = g.F.Sealed.contents c.args.file.now.sealed.now in
    let end : ℕ = c.args.file.now.end in
    let are : AreTrue bytes contents end c.find.new.blocks = subst (AreTrue bytes contents end) (sym c.in_default.ensures.blocks) c.requires.fits in
    elim c.match-body.branch [
      | in-Some-body w ↦
          let there : IsFileBlock contents end c.args.place w.in-Some-body.block.items = record {
            there = λ b is. rw w.in-Some-body.is at (c.in_ok-body.ensures.told b is);
            within = let room = rw w.in-Some-body.is at c.in_ok-body.ensures.within in omega (arith, room);
          } in
          let one : IsFileBlock contents end c.args.place w.deref.result.now =
          subst (λ (b : List ℕ). IsFileBlock contents end c.args.place b) (sym w.deref.ensures.value) there in
          rw w.cache-is (true_after bytes contents end c.find.new.blocks w.keep.new.blocks c.args.place w.deref.result.now w.keep.result w.keep.ensures.kept
          w.keep.ensures.same one are)
      | in_default-body w ↦ rw w.cache-is are
    ]

pub returns-clause-leads : goal.returns-clause-leads
returns-clause-leads g c =
    let bytes : Vec ℕ Global → List ℕ = λ v. v.items in
    let contents : Option (List ℕ) = g.F.Sealed.contents c.args.file.now.sealed.now in
    elim c.match-body.branch [
      | in-Some-body w ↦
          let kept = may_keep bytes contents c.args.file.now.end c.find.new.blocks w.keep.new.blocks c.args.place w.deref.result.now w.keep.result
          w.keep.ensures.kept w.keep.ensures.same in
          rw w.cache-is (read_block c.args.place (kept_of c.args.cache.now.blocks c.args.cache.now.reads)
          (kept_of w.keep.new.blocks c.saturating_add-cache.result) c.in_default.ensures.found c.saturating_add-cache.ensures
          (subst (λ (o : LruCache ℕ (Vec ℕ Global)). MayKeep c.args.place o w.keep.new.blocks) c.in_default.ensures.blocks kept))
      | in_default-body w ↦
          rw w.cache-is (read_block c.args.place (kept_of c.args.cache.now.blocks c.args.cache.now.reads)
          (kept_of c.find.new.blocks c.saturating_add-cache.result) c.in_default.ensures.found c.saturating_add-cache.ensures
          (inl c.in_default.ensures.blocks))
    ]
