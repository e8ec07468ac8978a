-- What the edit sets or takes out, what it sets or puts in, and the node that it gives a voltage.
use Rattle.std.proofs.Common.{ap}
use Rattle.edit_damage.proofs.ByEdit.{found_near}
use Rattle.edit_damage.proofs.by_edit.damaged_by.Goals as goal

pub returns : goal.returns
returns c = found_near c.args.old.now c.args.new.now c.args.edit.now c.args.circuit.now c.none-found.result c.add_lost.new.found c.add_lost-2.new.found c.add_start.new.found c.sorted.result.items
    (c.know_accepted.ensures c.requires.accepted) c.requires.edited (ap (λ v. v.deck) c.requires.circuit)
    (record {
      none = c.none-found.ensures;
      gone = c.in_ok-add_lost.ensures {u = tt};
      come = c.in_ok-add_lost-2.ensures {u = tt};
      start = c.in_ok-add_start.ensures {u = tt};
    })
    c.sorted.ensures.rising c.sorted.ensures.same
