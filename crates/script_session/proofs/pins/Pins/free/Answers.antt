use Rattle.std.proofs.Common.{◌≡◌, List, Option, None, map, ◌∙◌, ap}
use Rattle.std.specs.Arc.{arc_value}
use Rattle.std.specs.Option.{option_map}
use Rattle.std.specs.Str.{bytes_eq}
use Rattle.indexmap.specs.IndexMap.{insert_entry}
use Rattle.deck_cards.proofs.Once.{put_is}
use Rattle.deck_cards.specs.Settled.{put}
use Rattle.script_session.specs.Held.{Bindings}
use Rattle.script_session.proofs.Pinned.{put_map}
use Rattle.script_session.proofs.pins.Pins.free.Goals as goal

pub returns-clause-bound : goal.returns-clause-bound
returns-clause-bound c =
    let n = c.args.name.now in
    let es = c.self.inside.names.entries in
    ap (map (λ e. (e.0, option_map arc_value e.1)))
    (c.in_ok-insert.ensures.entries
    ∙ ap (λ name. insert_entry bytes_eq es name None) c.in_ok-copy.ensures
    ∙ put_is es n None)
    ∙ put_map (option_map arc_value) es (n, None)
    ∙ ap (λ (m : Bindings). put m (n, None)) c.self.view_is
