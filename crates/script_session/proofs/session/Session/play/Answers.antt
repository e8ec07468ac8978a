use Rattle.std.proofs.Common.{◌≡◌, ◌∙◌, ap}
use Rattle.std.specs.Prelude.{string_bytes}
use Rattle.std.specs.Arc.{arc_value}
use Rattle.version_book.specs.Version.{VersionValue}
use Rattle.wave_script.specs.declared.command.Command.TheVariants as command
use Rattle.wave_text.specs.Happened.{events_text}
use Rattle.wave_text.specs.Shown.{show_text}
use Rattle.script_session.proofs.Played.{both_ok, current_deck, for_command, gives, then_ok, played_edit, played_events, played_look, played_pin, played_run, played_show, played_unpin, played_use, played_work}
use Rattle.script_session.proofs.session.Session.play.Goals as goal

pub returns-in-Edit : goal.returns-in-Edit
returns-in-Edit c = for_command string_bytes c.args.self.now c.edit.new.self c.args.line c.args.command.now (command.Edit c.in-Edit.edit) c.edit.result c.in-Edit.is
    (gives c.edit.result (λ text t m. played_edit c.args.self.now c.args.line c.in-Edit.edit (string_bytes text) c.edit.new.self t m) c.edit.ensures.text c.edit.ensures.moved)

pub returns-in-Run : goal.returns-in-Run
returns-in-Run c = for_command string_bytes c.args.self.now c.run.new.self c.args.line c.args.command.now command.Run c.run.result c.in-Run.is
    (gives c.run.result (λ text t m. played_run c.args.self.now c.args.line (string_bytes text) c.run.new.self t m) c.run.ensures.text c.run.ensures.moved)

pub returns-in-Pin : goal.returns-in-Pin
returns-in-Pin c = for_command string_bytes c.args.self.now c.pin.new.self c.args.line c.args.command.now (command.Pin c.in-Pin.name) c.pin.result c.in-Pin.is
    (gives c.pin.result (λ text t m. played_pin c.args.self.now c.args.line c.in-Pin.name (string_bytes text) c.pin.new.self t m) c.pin.ensures.text c.pin.ensures.moved)

pub returns-in-UsePin : goal.returns-in-UsePin
returns-in-UsePin c = for_command string_bytes c.args.self.now c.use_pin.new.self c.args.line c.args.command.now (command.UsePin c.in-UsePin.name) c.use_pin.result c.in-UsePin.is
    (gives c.use_pin.result (λ text t m. played_use c.args.self.now c.args.line c.in-UsePin.name (string_bytes text) c.use_pin.new.self t m) c.use_pin.ensures.text c.use_pin.ensures.moved)

pub returns-in-Unpin : goal.returns-in-Unpin
returns-in-Unpin c = for_command string_bytes c.args.self.now c.unpin.new.self c.args.line c.args.command.now (command.Unpin c.in-Unpin.name) c.unpin.result c.in-Unpin.is
    (gives c.unpin.result (λ text t m. played_unpin c.args.self.now c.args.line c.in-Unpin.name (string_bytes text) c.unpin.new.self t m) c.unpin.ensures.text c.unpin.ensures.moved)

pub returns-in-Look : goal.returns-in-Look
returns-in-Look c = for_command string_bytes c.args.self.now c.look.new.self c.args.line c.args.command.now command.Look c.look.result c.in-Look.is
    (gives c.look.result (λ text t m. played_look c.args.self.now c.args.line (string_bytes text) c.look.new.self m.0 t m.1) c.look.ensures.text (both_ok _ _ c.look.result c.look.ensures.within c.look.ensures.moved))

pub returns-in-Show : goal.returns-in-Show
returns-in-Show c =
    let s = c.args.self.now in
    let node = c.in-Show.node in
    let range = c.in-Show.range in
    let deck = ap (λ (x : VersionValue). x.deck) c.deref.ensures ∙ current_deck c.self.inside.board (arc_value c.self.inside.current) c.self.inside.pins s c.self.invariant.current c.self.view_is in
    for_command string_bytes s s c.args.line c.args.command.now (command.Show node range) c.wave_text.result c.in-Show.is
    (then_ok c.wave_text.result (λ text t. played_show s c.args.line node range (string_bytes text) (t ∙ ap (λ d. show_text d node range) deck)) c.wave_text.ensures)

pub returns-in-Events : goal.returns-in-Events
returns-in-Events c =
    let s = c.args.self.now in
    let range = c.in-Events.range in
    let self = c.self-in-Events in
    let deck = ap (λ (x : VersionValue). x.deck) c.deref-in-Events.ensures ∙ current_deck self.inside.board (arc_value self.inside.current) self.inside.pins s self.invariant.current self.view_is in
    for_command string_bytes s s c.args.line c.args.command.now (command.Events range) c.events_text.result c.in-Events.is
    (then_ok c.events_text.result (λ text t. played_events s c.args.line range (string_bytes text) (t ∙ ap (λ d. events_text d range) deck)) c.events_text.ensures)

pub returns-in-Work : goal.returns-in-Work
returns-in-Work c =
    let s = c.args.self.now in
    for_command string_bytes s s c.args.line c.args.command.now command.Work c.work_line.result c.in-Work.is
    (then_ok c.work_line.result (λ text t. played_work s c.args.line c.made.result (string_bytes text) t) c.work_line.ensures)
