use Rattle.std.proofs.Common.{[], ◌∷◌, ◌++◌, ◌<◌, ◌≤◌, List, vec_len, length, leb, subst, sym, ap, ◌∙◌, arith}
use Rattle.std.specs.Prelude.{is_none}
use Rattle.std.specs.List.{flat_map}
use Rattle.std.proofs.lemmas.Bool.{leb-true}
use Rattle.std.proofs.lemmas.List.Elements.{All-same, All-push}
use Rattle.cas_index.specs.Allowed.{HasRoom}
use Rattle.cas_facts.specs.Told.{told}
use Rattle.cas_streams.specs.declared.fragment.Fragment.{Fragment}
use Rattle.cas_tables.specs.Places.{block_entries}
use Rattle.cas_verify.specs.Inner.Walks.{reached, Sees}
use Rattle.cas_verify.proofs.Steps.{first_there, first_some, reached_pop, block_long, none_is, none_by}
use Rattle.cas_verify.proofs.blocks.Walk.pass.Goals as goal

pub returns-clause-goes : goal.returns-clause-goes
returns-clause-goes c =
    let fs = c.args.block.fragments.items in
    let w = c.args.self.now in
    let some : 0 < vec_len c.args.block.fragments = let n : 0 < length fs = first_some fs c.requires.first in omega arith in record {
      some = first_there fs c.requires.first;
      reached_is = reached_pop (reached w) fs c.pop.new.self.items c.pop.result c.args.block.force c.pop.ensures.items (c.pop.ensures.variant.1 some) c.requires.force;
      ends = none_by c.args.block.force c.is_none-self.result c.is_none-self.ensures ∙ ap is_none c.requires.force;
      goes_on = c.is_full-self.ensures ∙ ap (leb 4096) c.requires.long;
      place = omega (arith, c.requires.long, block_long fs);
      entries = c.in_ok-push.ensures.items ∙ ap (λ es. w.entries.items ++ es) c.in_ok-entry.ensures.told
          ∙ ap (λ (xs : List Fragment). w.entries.items ++ block_entries w.place w.force (xs ∷ [])) c.deref.ensures.value;
      seen = subst (λ (xs : List Fragment). Sees w.seen (flat_map told xs) c.see_all.new.seen) c.deref-2.ensures.value c.see_all.ensures;
    }

pub returns-clause-sound : goal.returns-clause-sound
returns-clause-sound c =
    let w = c.args.self.now in record {
      rooms = All-same HasRoom c.push.new.self.items (w.entries.items ++ c.in_ok-entry.entry ∷ []) c.in_ok-push.ensures.items
          (All-push HasRoom w.entries.items c.in_ok-entry.entry c.requires.sound.rooms c.in_ok-entry.ensures.room);
      few = omega (arith, c.requires.sound.full c.requires.may, c.in_ok-push.ensures.len);
      full = λ e. let long : 4096 ≤ c.args.long = leb-true 4096 c.args.long (sym c.is_full-self.ensures ∙ e) in omega (arith, c.requires.sound.full c.requires.may, c.in_ok-push.ensures.len);
      closed = λ e. none_is c.args.block.force (sym (none_by c.args.block.force c.is_none-self.result c.is_none-self.ensures) ∙ e);
    }
