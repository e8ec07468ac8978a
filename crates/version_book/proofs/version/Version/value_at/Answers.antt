-- What a wave has at a tick, by the laws of waves.
use Rattle.std.proofs.Common.{◌≡◌, true, subst, sym, arith}
use Rattle.semantics.specs.Valid.{is_valid}
use Rattle.semantics.proofs.Limits.{Limits, limits}
use Rattle.histories.specs.Track.{IsTrack}
use Rattle.version_book.specs.Version.{VersionValue}
use Rattle.version_book.proofs.NamedNodes.{node_below, node_has, node_track, waved}
use Rattle.version_book.proofs.version.Version.value_at.Goals as goal

pub numerator_at-requires-clause-lines : goal.numerator_at-requires-clause-lines
numerator_at-requires-clause-lines c =
    let l : Limits c.args.self.now.deck = limits c.args.self.now.deck (subst (λ (v : VersionValue). is_valid v.deck ≡ true) c.self.view_is c.self.invariant.edited.valid) in
    let is = waved c.args.self.now.deck c.args.node.now c.in_ok-lines.lines.now c.in_ok-lines.ensures.wave in
    subst (IsTrack 0) (sym is.1) (node_track c.args.self.now.deck c.args.node.now l is.0)

pub numerator_at-requires-clause-tick : goal.numerator_at-requires-clause-tick
numerator_at-requires-clause-tick c =
    let l = limits c.self.inside.deck c.self.invariant.edited.valid in
    omega (arith, l.stop, c.if-tick-stop.false, c.stop.ensures.value)

pub returns-clause-below : goal.returns-clause-below
returns-clause-below c = λ there low.
    let l : Limits c.args.self.now.deck = limits c.args.self.now.deck (subst (λ (v : VersionValue). is_valid v.deck ≡ true) c.self.view_is c.self.invariant.edited.valid) in
    node_below c.args.self.now.deck c.args.node.now c.args.tick l there low

pub returns-clause-up_to : goal.returns-clause-up_to
returns-clause-up_to c = λ there up_to.
    let l : Limits c.args.self.now.deck = limits c.args.self.now.deck (subst (λ (v : VersionValue). is_valid v.deck ≡ true) c.self.view_is c.self.invariant.edited.valid) in
    node_has c.args.self.now.deck c.args.node.now c.args.tick l there up_to
