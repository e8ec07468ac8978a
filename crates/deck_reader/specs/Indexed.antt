-- What the body keeps beside the elements of a circuit, to look names up; it defines nothing of a deck.
use Rattle.std.specs.Prelude.{◌≡◌, List, map}
use Rattle.std.specs.List.{flat_map}
use Rattle.semantics.specs.Deck.{name_of}
use Rattle.semantics.specs.Valid.{driven_of}
use Rattle.deck_reader.specs.Words.{Word}
use Rattle.deck_reader.specs.Circuit.{Circuit, elements_of, nodes_of}

-- the names of the elements, the nodes that they drive, and the nodes at their ends
pub record IsIndexed (circuit : Circuit) (names driven ends : List Word) : Type 0 where
  pub named : names ≡ map name_of (elements_of circuit)
  pub drives : driven ≡ flat_map driven_of (elements_of circuit)
  pub nodes : ends ≡ nodes_of circuit
