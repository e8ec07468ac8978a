use Rattle.std.proofs.Common.{◌∙◌, ap}
use Rattle.std.specs.Str.{bytes_eq}
use Rattle.indexmap.specs.IndexMap.{insert_entry}
use Rattle.deck_cards.proofs.Once.{put_is}
use Rattle.wave_script.proofs.pins.put.Goals as goal

pub returns : goal.returns
returns c =
    c.in_ok-insert.ensures.entries
    ∙ ap (λ name. insert_entry bytes_eq c.args.names.now.entries name c.args.is_bound) c.in_ok-copy.ensures
    ∙ put_is c.args.names.now.entries c.args.name.now c.args.is_bound
