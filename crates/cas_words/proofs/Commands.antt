-- The limits of a command lie in the ranges of their options.
use Rattle.std.proofs.Common.{◌≡◌, ◌≤◌, ℕ, Bool, true, false, List, Option, None, Some, refl, sym, subst, arith}
use Rattle.std.proofs.lemmas.Bool.Decides.{nat_tests}
use Rattle.std.proofs.lemmas.Option.{same_Some}
use Rattle.std.specs.Prelude.{IfSome, option_and_then, option_map, if◌then◌else◌}
use Rattle.cas_bind.specs.declared.bound.Limits.{Limits}
use Rattle.cas_words.specs.declared.words.Command.{Command}
use Rattle.cas_words.specs.declared.words.Setting.{Setting}
use Rattle.cas_words.specs.declared.words.Setting.TheVariants as setting
use Rattle.cas_words.specs.Words.{Text, arguments, is_once, command_of, command_in, limits_in, number_or, is_numeral, number_between, folder_in, clock_or, text_for, AreLimits}
use Rattle.cas_types.specs.declared.limits.TheConstants.{SHARD_LIMIT}
use Rattle.cas_words.specs.declared.words.TheConstants.{SHARDS_USUAL, SEGMENT_LEAST, SEGMENT_LIMIT, MEMTABLE_LEAST, MEMTABLE_LIMIT, MEMTABLE_USUAL, COMPACTOR_LIMIT, COMPACTORS_USUAL}

-- what is given by two steps is given by the first
then_some : {X Y : Type 0} (f : X → Option Y) (o : Option X) (y : Y) → option_and_then f o ≡ Some y → (x : X) × (o ≡ Some x) × (f x ≡ Some y)
then_some f None y e = cc
then_some f (Some x) y e = (x, refl, e)

map_some : {X Y : Type 0} (f : X → Y) (o : Option X) (y : Y) → option_map f o ≡ Some y → (x : X) × (o ≡ Some x) × (Some (f x) ≡ Some y)
map_some f None y e = cc
map_some f (Some x) y e = (x, refl, e)

range_is : (least most n m : ℕ) → number_between least most n ≡ Some m → (least ≤ m) × (m ≤ most)
range_is least most n m e = grind (arith, nat_tests, e)

numeral_is : (b : Bool) (least most n m : ℕ) → (if b then number_between least most n else None) ≡ Some m → (least ≤ m) × (m ≤ most)
numeral_is true least most n m e = range_is least most n m e
numeral_is false least most n m e = cc

number_is : (least most default : ℕ) (o : Option Text) (m : ℕ) → least ≤ default → default ≤ most → number_or least most default o ≡ Some m → (least ≤ m) × (m ≤ most)
number_is least most default None m a b e = grind (arith, e)
number_is least most default (Some t) m a b e = numeral_is (is_numeral t) least most _ m e

limits_are : (text : Setting → Option Text) (l : Limits) → limits_in text ≡ Some l → AreLimits l
limits_are text l e =
    let s = then_some _ (number_or 1 SHARD_LIMIT SHARDS_USUAL (text setting.Shards)) l e in
    let g = then_some _ (number_or SEGMENT_LEAST SEGMENT_LIMIT SEGMENT_LIMIT (text setting.Segment)) l s.2 in
    let m = then_some _ (number_or MEMTABLE_LEAST MEMTABLE_LIMIT MEMTABLE_USUAL (text setting.Memtable)) l g.2 in
    let c = map_some _ (number_or 0 COMPACTOR_LIMIT COMPACTORS_USUAL (text setting.Compactors)) l m.2 in
    let shards = number_is 1 SHARD_LIMIT SHARDS_USUAL (text setting.Shards) s.0 (omega arith) (omega arith) s.1 in
    let segment = number_is SEGMENT_LEAST SEGMENT_LIMIT SEGMENT_LIMIT (text setting.Segment) g.0 (omega arith) (omega arith) g.1 in
    let memtable = number_is MEMTABLE_LEAST MEMTABLE_LIMIT MEMTABLE_USUAL (text setting.Memtable) m.0 (omega arith) (omega arith) m.1 in
    let compactors = number_is 0 COMPACTOR_LIMIT COMPACTORS_USUAL (text setting.Compactors) c.0 (omega arith) (omega arith) c.1 in
    subst AreLimits (same_Some _ _ c.2) (record { shards = shards; segment = segment; memtable = memtable; compactors = compactors.1 })

commands_are : (text : Setting → Option Text) (c : Command) → command_in text ≡ Some c → AreLimits c.limits
commands_are text c e =
    let l = then_some _ (limits_in text) c e in
    let k = then_some _ (clock_or (text setting.Clock)) c l.2 in
    let f = map_some _ (folder_in (text setting.Folder)) c k.2 in
    subst (λ (d : Command). AreLimits d.limits) (same_Some _ _ f.2) (limits_are text l.0 l.1)

once_is : (b : Bool) (o : Option Command) (c : Command) → (if b then o else None) ≡ Some c → o ≡ Some c
once_is true o c e = e
once_is false o c e = cc

pub command_is : (words : List Text) (c : Command) → command_of words ≡ Some c → AreLimits c.limits
unfolding command_of
command_is words c e =
    let g = then_some _ (arguments words None) c e in
    commands_are (text_for g.0) c (once_is (is_once g.0) (command_in (text_for g.0)) c g.2)

pub each_command : (words : List Text) (o : Option Command) → o ≡ command_of words → IfSome o (λ c. AreLimits c.limits)
each_command words None e = tt
each_command words (Some c) e = command_is words c (sym e)
