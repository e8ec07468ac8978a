use Rattle.std.proofs.Common.{◌≡◌, ◌≤◌, ◌+◌, ◌-◌, vec_len}
use Rattle.outside.specs.Content.{SameBytes, SameElsewhere}
use Rattle.outside.specs.declared.reading.TheConstants.{READ_LIMIT}
use Rattle.outside.proofs.Taken.{Taken}
use Rattle.outside.proofs.reading.read_whole.Given as goal

abbrev pub invariant-loop-piece : goal.invariant-loop-piece
invariant-loop-piece g l =
    Taken (g.S.Shelf.bytes l.initial.shelf l.name) l.bytes.items
    × (g.S.Shelf.names l.shelf ≡ g.S.Shelf.names l.initial.shelf)
    × SameBytes (g.S.Shelf.bytes l.initial.shelf) (g.S.Shelf.bytes l.shelf)
    × (g.S.Shelf.faults l.initial.shelf l.name ≤ g.S.Shelf.faults l.shelf l.name)
    × SameElsewhere l.name (g.S.Shelf.faults l.initial.shelf) (g.S.Shelf.faults l.shelf)

abbrev pub decreases-loop-piece : goal.decreases-loop-piece
decreases-loop-piece g l = READ_LIMIT + 1 - vec_len l.bytes
