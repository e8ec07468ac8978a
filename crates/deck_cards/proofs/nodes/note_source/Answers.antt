use Rattle.std.proofs.Common.{ℕ, Option, Some, get_or, ap}
use Rattle.std.specs.Option.{option_or}
use Rattle.deck_cards.proofs.Known.{nothing}
use Rattle.deck_cards.proofs.Named.{changed, unchanged}
use Rattle.deck_cards.proofs.nodes.note_source.Goals as goal

pub returns-in-Some : goal.returns-in-Some
returns-in-Some c =
    let old = get_or c.args.facts.now c.in-Some.place nothing in
    changed (λ f. record f { source = option_or f.source (Some c.args.source) }) _ c.args.name.now _ c.in-Some.place nothing _ c.requires.differ c.in-Some.ensures.index (ap (λ (s : Option ℕ). record old { source = s }) c.or.ensures)

pub returns-in_default : goal.returns-in_default
returns-in_default c =
    unchanged (λ f. record f { source = option_or f.source (Some c.args.source) }) _ c.args.name.now _ _ c.get_index_of.ensures.found c.in_default.is
