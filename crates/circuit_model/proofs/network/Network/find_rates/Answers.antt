-- A driven node has its source's slope, and a free one what flows into it.
use Rattle.std.proofs.Common.{◌≡◌, ◌<◌, ◌≤◌, ℕ, [], None, length, get_or, set, ◌∙◌, arith, rules, ⊎_elim, ℤ, pos, FitsSigned}
use mir.Syntax.{w128}
use Rattle.std.proofs.lemmas.Int.{to_z-of_z}
use Rattle.std.proofs.lemmas.Bool.{cases_lt}
use Rattle.semantics.specs.Deck.{DeckValue, driver, nodes}
use Rattle.semantics.specs.Wave.{rate}
use Rattle.circuit_model.proofs.Networks.{written_done, written_rest}
use Rattle.circuit_model.proofs.Places.{map_from_places}
use Rattle.circuit_model.proofs.Totals.{rate_at}
use Rattle.circuit_model.proofs.network.Network.find_rates.Goals as goal
use Rattle.circuit_model.proofs.network.Network.find_rates.Goals.{in-Some, in_default}

pub loop-node-preserved : goal.loop-node-preserved
loop-node-preserved c =
    let d : DeckValue = c.args.self.now in
    let node : ℕ = c.loop-node.node in
    let inside : node < length c.loop-node.rates = omega (arith, c.loop-node-test.true, c.loop-node.auto.rates) in
    let count : length c.loop-node.rates ≡ length (nodes d) = c.loop-node.auto.rates ∙ c.find_currents.auto.rates ∙ c.requires.count in
    let here : ℕ → ℤ = λ i. rate d c.args.tick (get_or (nodes d) i []) in
    elim c.match-driven_rate.branch [
      | in-Some w ↦
          let slope : ℤ = w.in-Some.rate in
          let fits : FitsSigned w128 slope = search rules in
          let written : c.match-driven_rate.rates ≡ set c.loop-node.rates node slope = rw (to_z-of_z w128 slope fits) at w.rates-is in
          let value : slope ≡ here node = rw c.deck-deck.ensures.deck at w.in-Some.ensures.driven in
          record {
            done = written_done here c.loop-node.rates c.match-driven_rate.rates node slope written inside value c.loop-node.invariant.done;
            rest = λ i above below. written_rest c.loop-node.rates c.match-driven_rate.rates node slope written i above ∙ c.loop-node.invariant.rest i (omega arith) below;
          }
      | in_default w ↦
          let free : driver d (get_or (nodes d) node []) ≡ None = rw c.deck-deck.ensures.deck at w.in_default.ensures.free in
          let flows : get_or c.loop-node.rates node (pos 0) ≡ here node =
          c.loop-node.invariant.rest node (omega arith) (omega (arith, inside, count)) ∙ rw c.requires.cells (rate_at d c.args.tick node (omega (arith, inside, count)) free) in
          record {
            done = λ i below. rw w.rates-is (⊎_elim (λ (before : i < node). c.loop-node.invariant.done i before) (λ (last : node ≤ i). let same : i ≡ node = omega arith in rw same flows) (cases_lt i node));
            rest = λ i above below. rw w.rates-is (c.loop-node.invariant.rest i (omega arith) below);
          }
    ]

pub returns : goal.returns
returns c =
    let d : DeckValue = c.args.self.now in
    let size : length c.loop-node.rates ≡ length (nodes d) = c.loop-node.auto.rates ∙ c.find_currents.auto.rates ∙ c.requires.count in
    map_from_places (rate d c.args.tick) (nodes d) c.loop-node.rates [] (pos 0) size (λ i below. c.loop-node.invariant.done i (omega (arith, size, below, c.loop-node-test.false, c.loop-node.auto.rates)))
