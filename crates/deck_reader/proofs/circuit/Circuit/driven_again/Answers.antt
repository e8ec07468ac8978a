use Rattle.std.proofs.Common.{◌∙◌, ap}
use Rattle.std.specs.List.{list_any, flat_map}
use Rattle.std.specs.Str.{bytes_eq}
use Rattle.semantics.specs.Valid.{driven_of}
use Rattle.deck_cards.specs.Causes.{first_that}
use Rattle.deck_reader.specs.Circuit.{elements_of}
use Rattle.deck_reader.proofs.circuit.Circuit.driven_again.Goals as goal

pub returns : goal.returns
returns c =
    c.driven_again.ensures
    ∙ ap (λ ks. first_that (λ n. list_any (bytes_eq n) ks) (driven_of c.args.element.now)) (c.self.invariant.drives ∙ ap (λ l. flat_map driven_of (elements_of l)) c.self.view_is)
