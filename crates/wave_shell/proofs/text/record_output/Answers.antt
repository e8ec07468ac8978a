-- The wave of one node more, from the record.
use Rattle.std.proofs.Common.{◌≡◌, ◌<◌, ℕ, List, [], length, get_or, refl, sym, ap, ◌∙◌, arith}
use Rattle.semantics.specs.Deck.{DeckValue, nodes}
use Rattle.semantics.specs.Text.{version_text}
use Rattle.semantics.specs.Wave.{wave}
use Rattle.semantics.proofs.Limits.{limits}
use Rattle.semantics.proofs.Waves.{wave_dens}
use Rattle.circuit_model.specs.Numbers.{CircuitValue, name_at}
use Rattle.wave_shell.proofs.WaveTexts.{at_place, more, there}
use Rattle.wave_shell.proofs.text.record_output.Goals as goal

-- the names of the circuit are the nodes, and the name of a number is the node there
record Here (c : CircuitValue) (d : DeckValue) (node count : ℕ) : Type 0 where
  deck : c.deck ≡ d
  names : c.names ≡ nodes c.deck
  below : node < length (nodes d)
  name : name_at c node ≡ get_or (nodes d) node []

here : (c : CircuitValue) (d : DeckValue) (node count : ℕ) → c ≡ record { deck = d; names = nodes d } → count ≡ length c.names → node < count → Here c d node count
here c d node count is count_is low =
    let named : c.names ≡ nodes d = ap (λ (x : CircuitValue). x.names) is in
    let deck : c.deck ≡ d = ap (λ (x : CircuitValue). x.deck) is in
    record {
      deck = deck;
      names = named ∙ sym (ap nodes deck);
      below = omega (arith, low, count_is, ap (λ (ns : List (List ℕ)). length ns) named);
      name = ap (λ (ns : List (List ℕ)). get_or ns node []) named;
    }

pub wave-requires-clause-node : goal.wave-requires-clause-node
wave-requires-clause-node c =
    let h = here c.args.circuit.now c.args.deck.now c.loop-node.node c.node_count-node-end.result c.requires.circuit c.node_count-node-end.ensures.count c.loop-node-test.true in
    there c.args.circuit.now c.loop-node.node h.names (rw (h.deck) h.below)

pub push_wave-requires : goal.push_wave-requires
push_wave-requires c =
    let h = here c.args.circuit.now c.args.deck.now c.loop-node.node c.node_count-node-end.result c.requires.circuit c.node_count-node-end.ensures.count c.loop-node-test.true in
    let lines : c.in_ok-lines.lines.items ≡ wave c.args.deck.now (get_or (nodes c.args.deck.now) c.loop-node.node []) = c.in_ok-lines.ensures {u = tt} ∙ rw (h.deck, h.name) refl in
    rw (c.deref.ensures.value, lines) (wave_dens c.args.deck.now c.loop-node.node (limits c.args.deck.now c.requires.valid) h.below)

pub loop-node-preserved : goal.loop-node-preserved
loop-node-preserved c =
    let d : DeckValue = c.args.deck.now in
    let i : ℕ = c.loop-node.node in
    let h = here c.args.circuit.now d i c.node_count-node-end.result c.requires.circuit c.node_count-node-end.ensures.count c.loop-node-test.true in
    let n : c.node.result.now ≡ get_or (nodes d) i [] = at_place (nodes d) i c.node.result.now [] h.below c.node.ensures in
    let lines : c.deref.result.now ≡ wave d c.node.result.now = c.deref.ensures.value ∙ c.in_ok-lines.ensures {u = tt} ∙ rw (h.deck, h.name, n) refl in
    more d i _ _ (version_text 0) c.node.result.now c.deref.result.now h.below n lines c.loop-node.invariant (c.in_ok-push_wave.ensures {u = tt})
