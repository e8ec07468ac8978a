use Rattle.std.proofs.Common.{◌≡◌, List, Option, Some, None, unwrap_or, ◌∙◌, sym, ap}
use Rattle.std.specs.Arc.{arc_value}
use Rattle.std.specs.Map.{lookup}
use Rattle.std.specs.Option.{option_map}
use Rattle.std.specs.Str.{bytes_eq}
use Rattle.deck_cards.proofs.Once.{look_up_is}
use Rattle.script_session.proofs.Pinned.{found, map_copied}
use Rattle.script_session.proofs.pins.Pins.get.Goals as goal

pub returns-in-None : goal.returns-in-None
returns-in-None c =
    let n = c.args.name.now in
    let es = c.self.inside.names.entries in
    found arc_value es n c.args.self.now None c.self.view_is (c.in-None.ensures.value ∙ look_up_is n es)

pub returns-in-Some : goal.returns-in-Some
returns-in-Some c =
    let n = c.args.name.now in
    let es = c.self.inside.names.entries in
    map_copied arc_value c.as_ref.result ∙ ap (option_map arc_value) c.as_ref.ensures.value ∙ found arc_value es n c.args.self.now (Some c.in-Some.bound.now) c.self.view_is (c.in-Some.ensures.value ∙ look_up_is n es)
