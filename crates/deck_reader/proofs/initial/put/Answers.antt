use Rattle.std.proofs.Common.{◌∙◌, ap, w64}
use Rattle.std.proofs.lemmas.Int.{to_z-of_z}
use Rattle.std.specs.Str.{bytes_eq}
use Rattle.indexmap.specs.IndexMap.{insert_entry}
use Rattle.deck_cards.proofs.Once.{put_is}
use Rattle.deck_reader.proofs.initial.put.Goals as goal

pub returns : goal.returns
returns c =
    c.in_ok-insert.ensures.entries
    ∙ ap (insert_entry bytes_eq c.args.voltages.now.entries c.args.node) (to_z-of_z w64 c.args.volts c.ranges.volts)
    ∙ put_is c.args.voltages.now.entries c.args.node c.args.volts
