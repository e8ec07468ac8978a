-- The wave at the place of the node.
use Rattle.std.proofs.Common.{◌≡◌, ◌≤◌, ℕ, List, None, Some, Vec, Global, sym, ap, ◌∙◌, subst}
use Rattle.std.specs.List.{All}
use Rattle.std.proofs.lemmas.Bool.{cond-true}
use Rattle.semantics.specs.declared.line.Line.{Line}
use Rattle.semantics.specs.Deck.{DeckValue}
use Rattle.semantics.specs.Wave.{wave}
use Rattle.semantics.proofs.Limits.{limits}
use Rattle.version_book.specs.Version.{is_node}
use Rattle.version_book.proofs.KeptWaves.{kept_wave}
use Rattle.version_book.proofs.NamedNodes.{is_there, node_dens}
use Rattle.version_book.proofs.version.Version.wave.Goals as goal

is_wave : (c : goal.After-as_slice) → c.as_slice.result.now ≡ wave c.self.inside.deck c.args.node.now
is_wave c =
    let f : Vec Line Global → List Line = λ v. v.items in
    c.as_slice.ensures.value ∙ kept_wave f c.self.inside.waves.items c.index.result.now c.self.inside.deck c.args.node.now c.in_ok-place.place c.self.invariant.waves_are c.in_ok-place.ensures.found c.index.ensures

pub returns-clause-wave : goal.returns-clause-wave
returns-clause-wave c =
    let d : DeckValue = c.self.inside.deck in
    let n : List ℕ = c.args.node.now in
    rw (← c.self.view_is) (ap Some (is_wave c) ∙ sym (cond-true (is_node d n) (Some (wave d n)) None (is_there d n c.in_ok-place.place c.in_ok-place.ensures.found)))

pub returns-clause-denominators : goal.returns-clause-denominators
returns-clause-denominators c =
    let d : DeckValue = c.self.inside.deck in
    let n : List ℕ = c.args.node.now in
    subst (λ xs. All (λ (l : Line). 1 ≤ l.den) xs) (sym (is_wave c)) (node_dens d n (limits d c.self.invariant.edited.valid) (is_there d n c.in_ok-place.place c.in_ok-place.ensures.found))
