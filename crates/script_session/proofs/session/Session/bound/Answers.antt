use Rattle.std.proofs.Common.{◌≡◌, Bor, Option, length, unwrap_or, ◌∙◌, sym, ap, subst}
use Rattle.std.specs.Arc.{arc_value}
use Rattle.version_book.specs.Version.{VersionValue}
use Rattle.board_core.specs.Board.{BoardValue, IsVersionOf}
use Rattle.script_session.specs.Held.{Bindings, bound_to}
use Rattle.script_session.specs.Session.{SessionValue, bound}
use Rattle.script_session.proofs.Pinned.{held, holds_of, number_is, taken}
use Rattle.script_session.proofs.session.Session.bound.Goals as goal

pub returns-clause-number : goal.returns-clause-number
returns-clause-number c =
    let v : VersionValue = arc_value c.self.inside.current in
    let pins : Bindings = c.self.inside.pins in
    let n = c.args.name.now in
    let is = ap (λ x. arc_value x.now) c.unwrap_or.ensures ∙ taken arc_value c.get.result _ (bound_to pins n) c.get.ensures in
    ap (λ (x : VersionValue). length x.edits) is ∙ number_is pins n v ∙ ap (λ (s : SessionValue). bound s n) c.self.view_is

pub returns-clause-of : goal.returns-clause-of
returns-clause-of c =
    let b : BoardValue = c.self.inside.board in
    let v : VersionValue = arc_value c.self.inside.current in
    let pins : Bindings = c.self.inside.pins in
    let n = c.args.name.now in
    let is = ap (λ x. arc_value x.now) c.unwrap_or.ensures ∙ taken arc_value c.get.result _ (bound_to pins n) c.get.ensures in
    let holds = holds_of (IsVersionOf b.base b.edits) (bound_to pins n) v (held (IsVersionOf b.base b.edits) pins n c.self.invariant.pinned) c.self.invariant.current in
    subst (λ (s : SessionValue). IsVersionOf s.base s.edits (arc_value c.unwrap_or.result.now)) c.self.view_is (subst (IsVersionOf b.base b.edits) (sym is) holds)
