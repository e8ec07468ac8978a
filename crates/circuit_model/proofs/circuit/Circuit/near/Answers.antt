-- The devices at a node are devices.
use Rattle.std.proofs.Common.{◌≡◌, ◌<◌, ℕ, List, [], Some, length, get_or, map, sym, ◌∙◌, ap, subst}
use Rattle.std.specs.Prelude.{slice_get}
use Rattle.std.specs.List.{All}
use Rattle.std.proofs.lemmas.List.{get_or-map}
use Rattle.std.proofs.lemmas.Option.{get_or_from_slice_get}
use Rattle.circuit_model.specs.Numbers.{devices, near_of}
use Rattle.circuit_model.proofs.NearLists.{near_inside}
use Rattle.circuit_model.proofs.circuit.Circuit.near.Goals as goal

-- what the lists say at one place
at_place : (near names : List (List ℕ)) (f : List ℕ → List ℕ) (i : ℕ) (v : List ℕ) → near ≡ map f names → i < length names → slice_get near i ≡ Some v → v ≡ f (get_or names i [])
at_place near names f i v same below is =
    sym (get_or_from_slice_get near i v [] is) ∙ ap (λ xs. get_or xs i []) same ∙ get_or-map f names i [] [] below

pub returns-clause-inside : goal.returns-clause-inside
returns-clause-inside c =
    let below = rw (← c.self.view_is) at c.requires in
    let names : List (List ℕ) = c.self.inside.names in
    let is = at_place c.self.inside.near names (near_of c.self.inside.deck) c.args.node c.at.result.now c.self.invariant.near_are below c.at.ensures in
    rw (← c.self.view_is) (subst (All (λ k. k < length (devices c.self.inside.deck))) (sym is) (near_inside c.self.inside.deck (get_or names c.args.node [])))
