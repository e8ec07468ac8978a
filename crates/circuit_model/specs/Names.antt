-- The names of nodes by number.
use Rattle.std.specs.Prelude.{◌≡◌, ℕ, ◌^◌, ◌<◌, true, false, List, [], length, fold, slice_index_or, Option, Some, None}
use Rattle.std.specs.declared.alloc.Global.{Global}
use Rattle.std.specs.declared.hash.BuildHasherDefault.{BuildHasherDefault}
use Rattle.std.specs.declared.hash.FoldHasher.{FoldHasher}
use Rattle.std.specs.declared.sync.Arc.{Arc}
use Rattle.std.specs.Arc.{arc_value}
use Rattle.std.specs.List.{list_any}
use Rattle.indexmap.specs.IndexSet.{IndexSet}
use Rattle.std.specs.Str.{bytes_eq}
use Rattle.semantics.specs.Ground.{is_ground}
use Rattle.semantics.specs.Deck.{DeckValue, nodes, with_node}

-- the names in a set that may be shared, in its order
abbrev pub names_in : Option (Arc (IndexSet (List ℕ) (BuildHasherDefault FoldHasher)) Global) → List (List ℕ)
names_in None = []
names_in (Some set) = (arc_value set).keys

-- no name stands twice, none is ground, and they are numbered in 32 bits
pub record AreNames (names : List (List ℕ)) : Type 0 where
  pub apart : (i j : ℕ) → i < j → j < length names → bytes_eq (slice_index_or names j []) (slice_index_or names i []) ≡ false
  pub real : (i : ℕ) → i < length names → is_ground (slice_index_or names i []) ≡ false
  pub few : length names < 2 ^ 32

-- these names, and behind them the nodes of the deck that are not among them
unfoldable pub with_nodes : List (List ℕ) → DeckValue → List (List ℕ)
with_nodes names d = fold with_node names (nodes d)

-- each node of the deck is among the names
abbrev pub HasNodes : DeckValue → List (List ℕ) → Type 0
HasNodes d names = (i : ℕ) → i < length (nodes d) → list_any (bytes_eq (slice_index_or (nodes d) i [])) names ≡ true
