-- A deck as plain data: what its cards say, and what its nodes are.
use Rattle.std.specs.Prelude.{ℕ, ◌+◌, ℤ, pos, ◌+ℤ◌, Bool, true, false, ◌||◌, if◌then◌else◌, List, [], ◌∷◌, ◌++◌, Option, Some, None, filter, fold, unwrap_or, is_none, unsigned_abs}
use Rattle.std.specs.List.{flat_map, list_any}
use Rattle.std.specs.Str.{bytes_eq}
use Rattle.semantics.specs.Ground.{is_ground}
use Rattle.semantics.specs.Part.{Part}
use Rattle.semantics.specs.declared.element.Element.{Element}
use Rattle.semantics.specs.declared.element.Element.TheVariants.{Resistor, Capacitor, Source, Mos}

-- a name, as its bytes
abbrev pub Name : Type 0
Name = List ℕ

-- its first line; the stop tick in picoseconds; whether a node begins at 0 where no voltage is given; the grain in microvolts;
-- models and tables by name; the voltages in microvolts that names are given at the beginning; and the elements by their cards
pub record DeckValue : Type 0 where
  pub title : List ℕ
  pub stop : ℕ
  pub uic : Bool
  pub grain : ℕ
  pub parts : List (List ℕ × Part)
  pub initial : List (List ℕ × ℤ)
  pub elements : List Element

abbrev pub name_of : Element → List ℕ
name_of (Resistor name first second ohms) = name
name_of (Capacitor name plus minus farads) = name
name_of (Source name plus minus wave) = name
name_of (Mos name drain gate source bulk part len width) = name

-- what is found at the first element that has it
abbrev pub first_some : {A B : Type 0} → (A → Option B) → List A → Option B
first_some f [] = None
first_some f (x ∷ xs) = elim (f x) [ None ↦ first_some f xs | Some y ↦ Some y ]

-- what a list of names and values gives a name
abbrev pub given : {A : Type 0} → List ℕ → List ℕ × A → Option A
given n pair = if bytes_eq n pair.0 then Some pair.1 else None

abbrev pub look_up : {A : Type 0} → List ℕ → List (List ℕ × A) → Option A
look_up n pairs = first_some (given n) pairs

-- ---- nodes

-- the names at an element's ends, as its card has them; a bulk is no end
abbrev pub ends_of : Element → List (List ℕ)
ends_of (Resistor name first second ohms) = first ∷ second ∷ []
ends_of (Capacitor name plus minus farads) = plus ∷ minus ∷ []
ends_of (Source name plus minus wave) = plus ∷ minus ∷ []
ends_of (Mos name drain gate source bulk part len width) = drain ∷ gate ∷ source ∷ []

-- the names seen so far with one more, where it is new and not ground
abbrev pub with_node : List (List ℕ) → List ℕ → List (List ℕ)
with_node seen name = if is_ground name || list_any (bytes_eq name) seen then seen else seen ++ name ∷ []

-- the nodes of a deck but ground, by first appearance
unfoldable pub nodes : DeckValue → List (List ℕ)
nodes d = fold with_node [] (flat_map ends_of d.elements)

-- the points of a source that drives the node, and whether the node is its second, so that it is driven with the sign turned
abbrev pub drives : List ℕ → Element → Option (List (ℕ × ℤ) × Bool)
drives n (Source name plus minus wave) =
    if bytes_eq n plus then Some (wave, false) else if bytes_eq n minus then Some (wave, true) else None
drives n (Resistor name first second ohms) = None
drives n (Capacitor name plus minus farads) = None
drives n (Mos name drain gate source bulk part len width) = None

-- the source of a driven node; None for a free one
unfoldable pub driver : DeckValue → List ℕ → Option (List (ℕ × ℤ) × Bool)
driver d n = first_some (drives n) d.elements

-- the nodes that no source drives
unfoldable pub free_nodes : DeckValue → List (List ℕ)
free_nodes d = filter (λ n. is_none (driver d n)) (nodes d)

-- ---- what a free node has

-- what an element adds to the capacitance at a node
abbrev pub farads_at : List ℕ → Element → ℤ
farads_at n (Capacitor name plus minus farads) = if bytes_eq n plus || bytes_eq n minus then farads else pos 0
farads_at n (Resistor name first second ohms) = pos 0
farads_at n (Source name plus minus wave) = pos 0
farads_at n (Mos name drain gate source bulk part len width) = pos 0

-- the sum of the capacitors at a node
unfoldable pub total_farads : DeckValue → List ℕ → ℤ
total_farads d n = fold (λ total e. total +ℤ farads_at n e) (pos 0) d.elements

-- the capacitance of a node of a valid deck, where that sum is above 0
abbrev pub capacity : DeckValue → List ℕ → ℕ
capacity d n = unsigned_abs (total_farads d n)

-- the voltage of a node at the beginning: the one given, and else 0
unfoldable pub initial_of : DeckValue → List ℕ → ℤ
initial_of d n = unwrap_or (look_up n d.initial) (pos 0)

-- how many ends that carry current an element has at a node; a gate carries none
abbrev pub terminals_at : List ℕ → Element → ℕ
terminals_at n (Resistor name first second ohms) = (if bytes_eq n first then 1 else 0) + (if bytes_eq n second then 1 else 0)
terminals_at n (Capacitor name plus minus farads) = 0
terminals_at n (Source name plus minus wave) = 0
terminals_at n (Mos name drain gate source bulk part len width) = (if bytes_eq n drain then 1 else 0) + (if bytes_eq n source then 1 else 0)

unfoldable pub terminals : DeckValue → List ℕ → ℕ
terminals d n = fold (λ total e. total + terminals_at n e) 0 d.elements
