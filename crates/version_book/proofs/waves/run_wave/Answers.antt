-- The number of the node's name is that of the node.
use Rattle.std.proofs.Common.{◌≡◌, ℕ, List, [], get_or, None, Some, IfOk, sym, ap, ◌∙◌, subst}
use Rattle.std.specs.Prelude.{slice_get}
use Rattle.std.proofs.lemmas.Option.{get_or_from_slice_get}
use Rattle.semantics.specs.declared.line.Line.{Line}
use Rattle.semantics.specs.Deck.{DeckValue, nodes}
use Rattle.semantics.specs.Wave.{wave}
use Rattle.circuit_model.specs.Ends.{number}
use Rattle.circuit_model.specs.Numbers.{CircuitValue, name_at}
use Rattle.version_book.proofs.NamedNodes.{IsNumberOf, numbered, unnumbered}
use Rattle.version_book.proofs.waves.run_wave.Goals as goal

-- the circuit is that of this deck and these names
same_deck : (c : CircuitValue) (d : DeckValue) (names : List (List ℕ)) → c ≡ record { deck = d; names = names } → c.deck ≡ d
same_deck c d names is = ap (λ (x : CircuitValue). x.deck) is

same_names : (c : CircuitValue) (d : DeckValue) (names : List (List ℕ)) → c ≡ record { deck = d; names = names } → c.names ≡ names
same_names c d names is = ap (λ (x : CircuitValue). x.names) is

here : (c : CircuitValue) (d : DeckValue) (names : List (List ℕ)) (n : List ℕ) (i : ℕ) → c ≡ record { deck = d; names = names } → slice_get (nodes d) i ≡ Some n → slice_get (nodes c.deck) i ≡ Some n
here c d names n i is at = ap (λ (x : DeckValue). slice_get (nodes x) i) (same_deck c d names is) ∙ at

is_number : (c : CircuitValue) (d : DeckValue) (names : List (List ℕ)) (n : List ℕ) (i k : ℕ) → c ≡ record { deck = d; names = names } → slice_get (nodes d) i ≡ Some n → number names n ≡ Some k → IsNumberOf c n k
is_number c d names n i k is at found = numbered c n i k (here c d names n i is at) (ap (λ (ns : List (List ℕ)). number ns n) (same_names c d names is) ∙ found)

pub wave-requires-clause-node : goal.wave-requires-clause-node
wave-requires-clause-node c =
    (is_number c.args.circuit.now c.args.deck.now c.args.names.now c.node.result.now c.args.i c.in-Some.number c.requires.circuit c.node.ensures (sym c.find.ensures ∙ c.in-Some.is)).present

pub unreachable-requires : goal.unreachable-requires
unreachable-requires c =
    let n : List ℕ = c.node.result.now in
    let none : number c.args.circuit.now.names n ≡ None = ap (λ (ns : List (List ℕ)). number ns n) (same_names c.args.circuit.now c.args.deck.now c.args.names.now c.requires.circuit) ∙ sym c.find.ensures ∙ c.in-None.is in
    unnumbered c.args.circuit.now n c.args.i c.node_count.ensures.nodes (here c.args.circuit.now c.args.deck.now c.args.names.now n c.args.i c.requires.circuit c.node.ensures) none

pub returns : goal.returns
returns c =
    let d : DeckValue = c.args.deck.now in
    let name = (is_number c.args.circuit.now d c.args.names.now c.node.result.now c.args.i c.in-Some.number c.requires.circuit c.node.ensures (sym c.find.ensures ∙ c.in-Some.is)).name in
    let at : name_at c.args.circuit.now c.in-Some.number ≡ get_or (nodes d) c.args.i [] = name ∙ sym (get_or_from_slice_get (nodes d) c.args.i c.node.result.now [] c.node.ensures) in
    let same : wave c.args.circuit.now.deck (name_at c.args.circuit.now c.in-Some.number) ≡ wave d (get_or (nodes d) c.args.i []) = λ j. wave (same_deck c.args.circuit.now d c.args.names.now c.requires.circuit j) (at j) in
    subst (λ (ws : List Line). IfOk c.wave.result (λ lines. lines.items ≡ ws)) same c.wave.ensures
