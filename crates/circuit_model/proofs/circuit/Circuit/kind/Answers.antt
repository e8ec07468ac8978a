-- By the place of the name among the nodes, and by what drives it.
use Rattle.std.proofs.Common.{◌≡◌, ◌∙◌, ℕ, List, Some, true, false, ap, sym, subst}
use Rattle.std.specs.Prelude.{slice_get}
use Rattle.semantics.specs.Deck.{DeckValue, nodes}
use Rattle.circuit_model.specs.Numbers.{CircuitValue, name_at}
use Rattle.circuit_model.proofs.NodeKinds.{driver_is, kind_from, kind_none, kind_some, real_kind}
use Rattle.circuit_model.proofs.circuit.Circuit.kind.Goals as goal

pub returns-in-None : goal.returns-in-None
returns-in-None c = sym (kind_none c.args.self.now c.args.node (sym c.find_place.ensures ∙ c.in-None.is))

pub returns-in-Some : goal.returns-in-Some
returns-in-Some c =
    let d : DeckValue = c.self.inside.deck in
    let n : List ℕ = name_at c.args.self.now c.args.node in
    let deck : d ≡ c.args.self.now.deck = ap (λ (x : CircuitValue). x.deck) c.self.view_is in
    let has = kind_some c.args.self.now c.args.node c.in-Some.place (sym c.find_place.ensures ∙ c.in-Some.is) in
    let name : slice_get (nodes d) c.in-Some.place ≡ Some n = subst (λ e. slice_get (nodes e) c.in-Some.place ≡ Some n) (sym deck) has.name_is in
    let drives = driver_is d n c.in-Some.place (λ s. (s.0.now, s.1)) c.drive.result name c.drive.ensures in
    sym (has.kind_is ∙ ap (λ e. real_kind e n) (sym deck) ∙ kind_from d n (λ s. (s.0.now, s.1)) c.drive.result true drives (sym c.if-is_some.true ∙ c.is_some.ensures))

pub returns-in-Some-2 : goal.returns-in-Some-2
returns-in-Some-2 c =
    let d : DeckValue = c.self.inside.deck in
    let n : List ℕ = name_at c.args.self.now c.args.node in
    let deck : d ≡ c.args.self.now.deck = ap (λ (x : CircuitValue). x.deck) c.self.view_is in
    let has = kind_some c.args.self.now c.args.node c.in-Some.place (sym c.find_place.ensures ∙ c.in-Some.is) in
    let name : slice_get (nodes d) c.in-Some.place ≡ Some n = subst (λ e. slice_get (nodes e) c.in-Some.place ≡ Some n) (sym deck) has.name_is in
    let drives = driver_is d n c.in-Some.place (λ s. (s.0.now, s.1)) c.drive.result name c.drive.ensures in
    sym (has.kind_is ∙ ap (λ e. real_kind e n) (sym deck) ∙ kind_from d n (λ s. (s.0.now, s.1)) c.drive.result false drives (sym c.if-is_some.false ∙ c.is_some.ensures))
