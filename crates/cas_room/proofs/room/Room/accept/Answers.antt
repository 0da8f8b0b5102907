use Rattle.std.proofs.Common.{ℕ, ◌+◌, ◌-◌, ◌^◌, ◌≤◌, min, List, length, sym, ◌∙◌, subst, arith}
use Rattle.cas_history.specs.Items.{listed, log_list}
use Rattle.cas_history.specs.declared.item.Item.{Item}
use Rattle.cas_journal.specs.Stores.{took}
use Rattle.cas_room.specs.declared.event.Event.{Event}
use Rattle.cas_room.specs.Rooms.{accepted_in}
use Rattle.cas_room.specs.Keeping.{Keeps}
use Rattle.cas_journal.proofs.Taking.{may_still_take}
use Rattle.cas_room.proofs.Accepting.{counts_one_more, has_room, keeps_one_more}
use Rattle.cas_room.proofs.room.Room.accept.Goals as goal

pub invariant_of-self-2-clause-counted : goal.invariant_of-self-2-clause-counted
invariant_of-self-2-clause-counted g c =
    subst (λ (n : ℕ). n ≤ length (accepted_in (listed log_list c.write-number.new.log.pass.saw))) (sym c.saturating_add-self.ensures)
    (subst (λ (list : List (Item Event)). min (c.args.self.now.accepted + 1) (2 ^ 64 - 1) ≤ length (accepted_in list)) (sym c.write-number.ensures.log)
    (counts_one_more c.args.self.now.accepted (listed log_list c.args.self.now.log.pass.saw) c.args.front.now.shard c.args.session.now.list
    c.write-number.new.session.calls c.write-number.result c.args.mutation.now c.args.self.now.counted))

pub invariant_of-self-2-clause-free : goal.invariant_of-self-2-clause-free
invariant_of-self-2-clause-free g c = λ d left n above. c.prepare.ensures.free d left n (omega (arith, above, c.push.ensures.last))

pub returns-clause-kept : goal.returns-clause-kept
returns-clause-kept g c found t keeps may =
    let (u, made, lasts) = c.prepare.ensures.lasts t keeps.lasts in
    let pushed = c.push.ensures.lasts u lasts (may_still_take t u c.args.mutation.now made may) in (
      u,
      made,
      subst (λ (list : List (Item Event)). Keeps c.push.new.self (g.F.Folder.disk c.prepare.new.folder) list c.args.self.now.faults.committed found
          (took c.args.mutation.now u)) (sym c.write-number.ensures.log)
          (keeps_one_more _ _ _ _ found t u _ _ _ _ c.args.mutation.now keeps.has made pushed),
    )

pub returns-in-Err-clause-kept : goal.returns-in-Err-clause-kept
returns-in-Err-clause-kept g c found t keeps may =
    let (u, made, lasts) = c.prepare.ensures.lasts t keeps.lasts in (
      u,
      made,
      subst (λ n. Keeps c.prepare.new.self (g.F.Folder.disk c.prepare.new.folder) (listed log_list c.args.self.now.log.pass.saw) n found u) (sym (c.note.ensures.said.1 ∙ sym c.args.self.now.told.0))
          (record { lasts = lasts; has = has_room found (accepted_in (listed log_list c.args.self.now.log.pass.saw)) c.args.self.now.faults.committed t u keeps.has made }),
    )
