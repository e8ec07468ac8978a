use Rattle.std.proofs.Common.{◌≡◌, IfOk, false, sym, ap, ◌∙◌, subst}
use Rattle.std.specs.Prelude.{string_bytes}
use Rattle.std.specs.Arc.{arc_value}
use Rattle.wave_text.specs.Answers.{edit_text}
use Rattle.version_book.specs.Version.{VersionValue}
use Rattle.board_core.specs.Board.{BoardValue}
use Rattle.script_session.specs.Held.{is_wanting, session}
use Rattle.script_session.specs.Session.{SessionValue, answer_to, with_edit}
use Rattle.script_session.proofs.Played.{answered, edited, on_ok}
use Rattle.script_session.proofs.session.Session.edit.Goals as goal

pub returns-clause-text : goal.returns-clause-text
returns-clause-text c =
    let b : BoardValue = c.self.inside.board in
    let v : VersionValue = arc_value c.self.inside.current in
    let e = c.args.edit.now in
    let r = c.edit-answer.result in
    let told : is_wanting r ≡ false = sym c.is_wanting.ensures ∙ c.if-is_wanting.false in
    let is = answered b c.edit-answer.new.self v c.self.inside.pins e r c.edit-answer.ensures.cause c.edit-answer.ensures.number c.edit-answer.ensures.edited told in
    subst (λ a. IfOk c.edit_line.result (λ text. string_bytes text ≡ edit_text c.args.line a)) (is ∙ ap (λ (s : SessionValue). answer_to s e) c.self.view_is) c.edit_line.ensures

pub returns-clause-moved : goal.returns-clause-moved
returns-clause-moved c =
    let b : BoardValue = c.self.inside.board in
    let v : VersionValue = arc_value c.self.inside.current in
    let e = c.args.edit.now in
    let r = c.edit-answer.result in
    let told : is_wanting r ≡ false = sym c.is_wanting.ensures ∙ c.if-is_wanting.false in
    on_ok c.edit_line.result
    (edited b c.edit-answer.new.self v c.self.inside.pins e r c.edit-answer.ensures.cause c.edit-answer.ensures.edited c.edit-answer.ensures.kept told
    ∙ ap (λ (s : SessionValue). with_edit s e) c.self.view_is)
