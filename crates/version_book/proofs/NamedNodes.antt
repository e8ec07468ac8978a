-- A node by its name, its place among the nodes of the deck, and its number in a circuit.
use Rattle.std.proofs.Common.{◌≡◌, ℕ, ◌<◌, ◌≤◌, Bool, true, false, cond, List, [], length, get_or, Option, Some, None, refl, sym, ap, ◌∙◌, subst, arith}
use Rattle.std.specs.Prelude.{is_some, max, slice_get}
use Rattle.std.specs.List.{All, list_any}
use Rattle.std.specs.Str.{bytes_eq}
use Rattle.std.proofs.lemmas.Bool.{false≢true, le-leb}
use Rattle.std.proofs.lemmas.Option.{get_or_from_slice_get, slice_get_within}
use Rattle.semantics.specs.declared.line.Line.{Line}
use Rattle.semantics.specs.Deck.{DeckValue, driver, nodes}
use Rattle.semantics.specs.Run.{run}
use Rattle.semantics.specs.Wave.{wave}
use Rattle.semantics.proofs.Free.{is_among}
use Rattle.semantics.proofs.Limits.{Limits}
use Rattle.semantics.proofs.Waves.{wave_dens}
use Rattle.histories.specs.Track.{IsTrack}
use Rattle.circuit_model.specs.declared.node_kind.NodeKind.{NodeKind}
use Rattle.circuit_model.specs.declared.node_kind.NodeKind.TheVariants.{Absent, Driven, Free}
use Rattle.circuit_model.specs.Carried.{HasVoltage, voltage_at}
use Rattle.circuit_model.specs.Ends.{number}
use Rattle.circuit_model.specs.Names.{HasNodes}
use Rattle.circuit_model.specs.Numbers.{CircuitValue, kind_at, kind_of, name_at}
use Rattle.circuit_model.proofs.Leads.{position_none}
use Rattle.circuit_model.proofs.Named.{numbered_at}
use Rattle.circuit_model.proofs.NodeKinds.{kind_here, kind_seen, real_kind}
use Rattle.version_book.specs.Version.{is_node, voltage_of, wave_of}
use Rattle.version_book.proofs.WaveLines.{wave_below, wave_track, wave_voltage}

-- the name stands at this place among the nodes
pub record IsAt (d : DeckValue) (n : List ℕ) (i : ℕ) : Type 0 where
  pub inside : i < length (nodes d)
  pub name : get_or (nodes d) i [] ≡ n

pub at_place : (d : DeckValue) (n : List ℕ) (i : ℕ) → slice_get (nodes d) i ≡ Some n → IsAt d n i
at_place d n i at = record { inside = slice_get_within (nodes d) i n at; name = get_or_from_slice_get (nodes d) i n [] at }

pub is_there : (d : DeckValue) (n : List ℕ) (i : ℕ) → slice_get (nodes d) i ≡ Some n → is_node d n ≡ true
is_there d n i at = is_among (nodes d) n (i, slice_get_within (nodes d) i n at, get_or_from_slice_get (nodes d) i n n at)

-- a node has a place
place_of : (d : DeckValue) (n : List ℕ) → is_node d n ≡ true → (i : ℕ) × IsAt d n i
place_of d n there = by (number (nodes d) n) refl
  where
    by : (o : Option ℕ) → number (nodes d) n ≡ o → (i : ℕ) × IsAt d n i
    by None is = absurd (false≢true (sym (position_none (bytes_eq n) (nodes d) is) ∙ there))
    by (Some i) is = (i, at_place d n i (numbered_at (nodes d) n i is))

-- what holds of the node at each place holds of each node
each_node : (d : DeckValue) (n : List ℕ) (P : List ℕ → Type 0) → is_node d n ≡ true → ((i : ℕ) → i < length (nodes d) → P (get_or (nodes d) i [])) → P n
each_node d n P there each = let at = place_of d n there in subst P at.1.name (each at.0 at.1.inside)

-- ---- its wave

pub node_track : (d : DeckValue) (n : List ℕ) → Limits d → is_node d n ≡ true → IsTrack 0 (wave d n)
node_track d n l there = each_node d n (λ m. IsTrack 0 (wave d m)) there (λ i inside. wave_track d i l inside)

pub node_dens : (d : DeckValue) (n : List ℕ) → Limits d → is_node d n ≡ true → All (λ (l : Line). 1 ≤ l.den) (wave d n)
node_dens d n l there = each_node d n (λ m. All (λ (l : Line). 1 ≤ l.den) (wave d m)) there (λ i inside. wave_dens d i l inside)

pub node_has : (d : DeckValue) (n : List ℕ) (t : ℕ) → Limits d → is_node d n ≡ true → t ≤ d.stop → HasVoltage (wave d n) t (run d t n)
node_has d n t l there up_to = each_node d n (λ m. HasVoltage (wave d m) t (run d t m)) there (λ i inside. wave_voltage d i t l inside up_to)

pub node_below : (d : DeckValue) (n : List ℕ) (t : ℕ) → Limits d → is_node d n ≡ true → t < max 1 d.stop → voltage_of d n t ≡ Some (run d t n)
node_below d n t l there low =
    let up_to : t ≤ d.stop = omega (arith, low) in
    rw (le-leb t d.stop up_to, there) (each_node d n (λ m. voltage_at (wave d m) t ≡ Some (run d t m)) there (λ i inside. wave_below d i t l inside low))

-- a name with a wave is a node
pub waved : (d : DeckValue) (n : List ℕ) (lines : List Line) → Some lines ≡ wave_of d n → (is_node d n ≡ true) × (lines ≡ wave d n)
waved d n lines is = by (is_node d n) refl is
  where
    by : (b : Bool) → is_node d n ≡ b → Some lines ≡ cond b (Some (wave d n)) None → (is_node d n ≡ true) × (lines ≡ wave d n)
    by true there same = (there, cc)
    by false none same = absurd (cc)

-- ---- its number

real_is : (b : Bool) → cond {A = NodeKind} b Driven Free ≡ Absent → ⊥
real_is true e = cc
real_is false e = cc

-- the number stands for the node of this name
pub record IsNumberOf (c : CircuitValue) (n : List ℕ) (k : ℕ) : Type 0 where
  pub present : kind_at c k ≡ Absent → ⊥
  pub name : name_at c k ≡ n

pub numbered : (c : CircuitValue) (n : List ℕ) (i k : ℕ) → slice_get (nodes c.deck) i ≡ Some n → number c.names n ≡ Some k → IsNumberOf c n k
numbered c n i k at is =
    let there : slice_get c.names k ≡ Some n = numbered_at c.names n k is in
    let name : name_at c k ≡ n = get_or_from_slice_get c.names k n [] there in
    let kind : kind_at c k ≡ real_kind c.deck n = kind_here c k (slice_get_within c.names k n there) ∙ ap (kind_of c.deck) name ∙ kind_seen c.deck n (is_there c.deck n i at) in
    record { present = λ absent. real_is (is_some (driver c.deck n)) (sym kind ∙ absent); name = name }

-- each node has a number
pub unnumbered : (c : CircuitValue) (n : List ℕ) (i : ℕ) → HasNodes c.deck c.names → slice_get (nodes c.deck) i ≡ Some n → number c.names n ≡ None → ⊥
unnumbered c n i has at none =
    let place = at_place c.deck n i at in
    let among : list_any (bytes_eq n) c.names ≡ true = subst (λ m. list_any (bytes_eq m) c.names ≡ true) place.name (has i place.inside) in
    false≢true (sym (position_none (bytes_eq n) c.names none) ∙ among)
