use Rattle.std.proofs.Common.{◌∙◌, [], replicate, ap}
use Rattle.deck_cards.specs.Facts.{terminals_of}
use Rattle.deck_cards.proofs.Ends.{terminals-none}
use Rattle.deck_cards.proofs.Named.{one_value}
use Rattle.deck_cards.proofs.terminals.counts_of.Goals as goal

pub loop-place-init : goal.loop-place-init
loop-place-init c =
    c.in_ok-counts.ensures.items_if_clones_equal (λ y e. e) ∙ ap (λ count. replicate count 0) c.len.ensures.len ∙ one_value (λ n. terminals_of n []) 0 terminals-none c.args.names.now.keys
