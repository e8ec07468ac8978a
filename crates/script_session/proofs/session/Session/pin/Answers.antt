use Rattle.std.proofs.Common.{◌≡◌, Option, Some, IfSome, sym, subst}
use Rattle.std.specs.Arc.{arc_value}
use Rattle.deck_cards.specs.Settled.{put}
use Rattle.version_book.specs.Version.{VersionValue}
use Rattle.board_core.specs.Board.{BoardValue, IsVersionOf}
use Rattle.script_session.specs.Held.{Bindings, session, IsSession}
use Rattle.script_session.specs.Session.{SessionValue}
use Rattle.script_session.proofs.Pinned.{put_all_hold, put_numbered}
use Rattle.script_session.proofs.Played.{on_ok}
use Rattle.script_session.proofs.session.Session.pin.Goals as goal

pub invariant_of-self-2 : goal.invariant_of-self-2
invariant_of-self-2 c =
    let b : BoardValue = c.self.inside.board in
    let v : VersionValue = arc_value c.self.inside.current in
    let pins : Bindings = c.self.inside.pins in
    subst (λ (m : Bindings). IsSession b v m) (sym c.in_ok-bind.ensures.bound) (record {
      current = c.self.invariant.current;
      pinned = put_all_hold (λ o. IfSome o (IsVersionOf b.base b.edits)) pins (c.args.name.now, Some v) c.self.invariant.pinned c.self.invariant.current;
    })

pub returns-clause-moved : goal.returns-clause-moved
returns-clause-moved c =
    let b : BoardValue = c.self.inside.board in
    let v : VersionValue = arc_value c.self.inside.current in
    let n = c.args.name.now in
    on_ok c.pinned_line.result
    (subst (λ (s : SessionValue). session b v c.bind.new.self ≡ record s { pins = put s.pins (n, Some s.current) }) c.self.view_is
    (put_numbered b v c.self.inside.pins c.bind.new.self n (Some v) c.in_ok-bind.ensures.bound))
