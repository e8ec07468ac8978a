use Rattle.std.proofs.Common.{rules}
use Rattle.event_order.proofs.MarkBits.{found_ahead, found_other, found_behind, none_marked}
use Rattle.event_order.proofs.marks.next_mark.Goals as goal

pub returns-then-ahead-ne0-clause-some : goal.returns-then-ahead-ne0-clause-some
returns-then-ahead-ne0-clause-some c = found_ahead c.args.marks.now c.args.place c.requires (search rules) c.if-ahead-ne0.true

pub returns-then-other-ne0-clause-some : goal.returns-then-other-ne0-clause-some
returns-then-other-ne0-clause-some c = found_other c.args.marks.now c.args.place c.requires (search rules) c.if-ahead-ne0.false c.if-other-ne0.true

pub returns-then-here-ne0-clause-some : goal.returns-then-here-ne0-clause-some
returns-then-here-ne0-clause-some c = found_behind c.args.marks.now c.args.place c.requires (search rules) c.if-ahead-ne0.false c.if-other-ne0.false c.if-here-ne0.true

pub returns-clause-none : goal.returns-clause-none
returns-clause-none c = none_marked c.args.marks.now c.args.place c.requires c.if-here-ne0.false c.if-other-ne0.false
