-- The voltage that is given, and else 0.
use Rattle.std.proofs.Common.{◌∙◌, ap, pos, w64, unwrap_or, rules}
use Rattle.std.proofs.lemmas.Int.{to_z-of_z}
use Rattle.semantics.specs.Deck.{initial_of}
use Rattle.edit_damage.proofs.damage.start.Goals as goal

pub returns : goal.returns
unfolding initial_of
returns c = to_z-of_z w64 c.unwrap_or.result (search rules) ∙ c.unwrap_or.ensures ∙ ap (λ o. unwrap_or o (pos 0)) c.initial.ensures
