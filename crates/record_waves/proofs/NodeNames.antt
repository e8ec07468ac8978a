-- What the kind of a node says of its name.
use Rattle.std.proofs.Common.{◌≡◌, ℕ, Bool, true, false, not, List, Option, Some, None, is_some, refl, sym, ◌∙◌, ℤ}
use Rattle.std.specs.List.{list_any}
use Rattle.std.specs.Str.{bytes_eq}
use Rattle.std.proofs.lemmas.Bool.{and_parts}
use Rattle.semantics.specs.Ground.{is_ground}
use Rattle.semantics.specs.Deck.{DeckValue, driver, nodes}
use Rattle.semantics.specs.Neighbours.{is_end}
use Rattle.semantics.proofs.Free.{free_real, free_undriven, node_is}
use Rattle.semantics.proofs.Limits.{Limits}
use Rattle.histories.specs.Record.{RecordValue, pair_at}
use Rattle.circuit_model.specs.declared.node_kind.NodeKind.TheVariants.{Absent, Driven, Free}
use Rattle.circuit_model.specs.Names.{AreNames}
use Rattle.circuit_model.specs.Numbers.{CircuitValue, kind_at, kind_of, name_at}
use Rattle.circuit_model.proofs.NodeKinds.{driven_some, held_here, kind_free, kind_here, kind_inside}
use Rattle.record_laws.proofs.Numbers.{named_at}
use Rattle.record_waves.specs.RunRecord as whole
use Rattle.record_waves.proofs.DrivenWaves.{IsDriven}
use Rattle.record_waves.proofs.FreeWaves.{IsRunOf}

not_false : (b : Bool) → not b ≡ true → b ≡ false
not_false true e = cc
not_false false e = refl

real_name : (d : DeckValue) (n : List ℕ) → (kind_of d n ≡ Absent → ⊥) → is_ground n ≡ false
unfolding kind_of
real_name d n there = by (list_any (bytes_eq n) (nodes d)) refl
  where
    by : (b : Bool) → list_any (bytes_eq n) (nodes d) ≡ b → is_ground n ≡ false
    by true is = not_false (is_ground n) (and_parts (not (is_ground n)) (list_any (is_end n) d.elements) (sym (node_is d n) ∙ is)).0
    by false is = absurd (there (rw (is) refl))

some_is : {A : Type 0} (o : Option A) → is_some o ≡ true → (x : A) × (o ≡ Some x)
some_is None e = cc
some_is (Some x) e = (x, refl)

-- a driven node has a source
pub driven_is : (c : CircuitValue) (node : ℕ) → kind_at c node ≡ Driven → (s : List (ℕ × ℤ) × Bool) × IsDriven c.deck (name_at c node) s
driven_is c node driven =
    let inside = kind_inside c node (λ absent. cc) in
    let source = some_is (driver c.deck (name_at c node)) (driven_some c node driven) in
    (source.0, record { real = real_name c.deck (name_at c node) (λ absent. let e = sym (kind_here c node inside) ∙ driven in cc); driven = source.1 })

-- a free node of a record of the run
pub free_is : (c : CircuitValue) (r : RecordValue) (node : ℕ) → Limits c.deck → AreNames c.names → whole.IsRunOf c r → kind_at c node ≡ Free → IsRunOf c.deck (name_at c node) (pair_at r node) c.deck.stop
free_is c r node limits names run free =
    let inside = kind_inside c node (λ absent. cc) in
    let among = kind_free c.deck (name_at c node) (sym (kind_here c node inside) ∙ free) in
    record {
      limits = limits;
      held = held_here c node limits free;
      real = free_real c.deck (name_at c node) among;
      free = free_undriven c.deck (name_at c node) among;
      run = λ t h. sym (named_at c.names (pair_at r) node t (λ j before. names.apart j node before inside) inside) ∙ run.run (name_at c node) t among h;
    }
