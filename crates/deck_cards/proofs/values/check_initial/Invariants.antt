use Rattle.std.proofs.Common.{◌≡◌}
use Rattle.semantics.specs.Deck.{first_some}
use Rattle.semantics.specs.Valid.{small_volts}
use Rattle.deck_cards.specs.declared.which.Which.TheVariants.{Volts}
use Rattle.deck_cards.specs.Causes.{limit}
use Rattle.deck_cards.proofs.values.check_initial.Given as goal

abbrev pub invariant-loop-name : goal.invariant-loop-name
invariant-loop-name l =
    first_some (λ p. limit (small_volts p.1) Volts p.0) l.voltages.entries ≡ first_some (λ p. limit (small_volts p.1) Volts p.0) l.name-iterator
