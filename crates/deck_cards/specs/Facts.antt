-- What a deck keeps of each of its nodes, and what it counts there, by the definitions.
use Rattle.std.specs.Prelude.{◌≡◌, ℕ, ◌+◌, ℤ, pos, ◌+ℤ◌, Bool, if◌then◌else◌, List, [], ◌∷◌, Option, Some, None, fold, map, is_some, IsTrue}
use Rattle.std.specs.Option.{option_map}
use Rattle.std.specs.Str.{bytes_eq}
use Rattle.semantics.specs.declared.element.Element.{Element}
use Rattle.semantics.specs.Deck.{DeckValue, name_of, nodes, drives, farads_at, terminals_at}
use Rattle.semantics.specs.Valid.{is_valid}
use Rattle.deck_cards.specs.declared.facts.NodeFacts.{NodeFacts}

-- the place of the first that passes
abbrev pub place_of : {A : Type 0} → (A → Bool) → List A → Option ℕ
place_of p [] = None
place_of p (x ∷ xs) = if p x then Some 0 else option_map (λ i. i + 1) (place_of p xs)

-- the place of the first source that drives the node
unfoldable pub source_of : List ℕ → List Element → Option ℕ
source_of n es = place_of (λ e. is_some (drives n e)) es

-- the sum of the capacitors at the node
unfoldable pub farads_of : List ℕ → List Element → ℤ
farads_of n es = fold (λ total e. total +ℤ farads_at n e) (pos 0) es

-- how many ends that carry current stand at the node
unfoldable pub terminals_of : List ℕ → List Element → ℕ
terminals_of n es = fold (λ total e. total + terminals_at n e) 0 es

-- what these elements say of the node
abbrev pub known : List Element → List ℕ → NodeFacts
known es n = record { source = source_of n es; farads = farads_of n es }

-- these are the nodes of the deck, and what is known of each
pub record IsTable (d : DeckValue) (keys : List (List ℕ)) (row : List NodeFacts) : Type 0 where
  pub names : keys ≡ nodes d
  pub facts : row ≡ map (known d.elements) (nodes d)

-- of the values that these names have, that of one name has changed by g
abbrev pub ChangesAt : {A : Type 0} → List (List ℕ) → List ℕ → (A → A) → List A → List A → Type 0
ChangesAt {A} names name g old new =
    (f : List ℕ → A) → old ≡ map f names → new ≡ map (λ n. if bytes_eq n name then g (f n) else f n) names

-- this deck is valid, these are the names of its elements and of its nodes, and what is known of each node
pub record IsIndex (d : DeckValue) (elements keys : List (List ℕ)) (row : List NodeFacts) : Type 0 where
  pub valid : IsTrue (is_valid d)
  pub names : elements ≡ map name_of d.elements
  pub table : IsTable d keys row
