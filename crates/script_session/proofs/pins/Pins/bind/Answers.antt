use Rattle.std.proofs.Common.{◌≡◌, List, Option, Some, map, ◌∙◌, ap}
use Rattle.std.specs.Arc.{arc_value}
use Rattle.std.specs.Option.{option_map}
use Rattle.std.specs.Str.{bytes_eq}
use Rattle.indexmap.specs.IndexMap.{insert_entry}
use Rattle.deck_cards.proofs.Once.{put_is}
use Rattle.deck_cards.specs.Settled.{put}
use Rattle.script_session.specs.Held.{Bindings}
use Rattle.script_session.proofs.Pinned.{put_map}
use Rattle.script_session.proofs.pins.Pins.bind.Goals as goal

pub returns-clause-bound : goal.returns-clause-bound
returns-clause-bound c =
    let n = c.args.name.now in
    let es = c.self.inside.names.entries in
    let own = c.in_ok-own.own in
    ap (map (λ e. (e.0, option_map arc_value e.1)))
    (c.in_ok-insert.ensures.entries
    ∙ ap (λ name. insert_entry bytes_eq es name (Some own)) c.in_ok-copy.ensures
    ∙ put_is es n (Some own))
    ∙ put_map (option_map arc_value) es (n, Some own)
    ∙ ap (λ v. put (map (λ e. (e.0, option_map arc_value e.1)) es) (n, Some v)) c.in_ok-own.ensures
    ∙ ap (λ (m : Bindings). put m (n, Some (arc_value c.args.version.now))) c.self.view_is
