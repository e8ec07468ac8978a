use Rattle.std.proofs.Common.{◌+◌, refl}
use Rattle.deck_cards.proofs.Named.{changed, unchanged}
use Rattle.deck_cards.proofs.terminals.count_end.Goals as goal

pub returns-in-Some : goal.returns-in-Some
returns-in-Some c =
    changed (λ count. count + 1) _ c.args.name.now _ c.in-Some.place _ _ c.requires.differ c.in-Some.ensures.index refl

pub returns-in_default : goal.returns-in_default
returns-in_default c =
    unchanged (λ count. count + 1) _ c.args.name.now _ _ c.get_index_of.ensures.found c.in_default.is
