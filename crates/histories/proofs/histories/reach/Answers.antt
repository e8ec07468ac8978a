-- Each new place has nothing.
use Rattle.std.proofs.Common.{◌+◌, arith, rules}
use Rattle.histories.proofs.Records.{nones, room}
use Rattle.histories.proofs.histories.reach.Goals as goal

pub returns-in_ok-resize_with-clause-same : goal.returns-in_ok-resize_with-clause-same
returns-in_ok-resize_with-clause-same c = λ n.
    let e = c.in_ok-resize_with.ensures.items in
    rw e.2 (room c.args.tracks.now.items e.0 (c.args.place + 1) (omega (arith, c.if-len-place.true, c.len.ensures, c.args.tracks.now.ok)) (nones _ _ _ e.0 (λ f x g k. search rules) e.3) n)
