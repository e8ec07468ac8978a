-- How the devices at each node are noted.
use Rattle.std.specs.Prelude.{◌≡◌, ℕ, ◌<◌, Bool, ◌||◌, if◌then◌else◌, List, [], ◌∷◌, ◌++◌, length, filter, None, slice_index_or}
use Rattle.std.specs.List.{range_with_len}
use Rattle.circuit_model.specs.declared.ends.Ends.{Ends}
use Rattle.circuit_model.specs.Wiring.{leads_to}

-- an end of a device leads to this node
abbrev pub ends_at : ℕ → Ends → Bool
ends_at i ends = leads_to i ends.first || (leads_to i ends.gate || leads_to i ends.second)

abbrev pub no_ends : Ends
no_ends = record { first = None; second = None; gate = None }

-- each node that passes has this device behind those that it had, and the others have no more
pub record AreNoted (passes : ℕ → Bool) (device : ℕ) (old new : List (List ℕ)) : Type 0 where
  pub count : length new ≡ length old
  pub each : (i : ℕ) → i < length old → slice_index_or new i [] ≡ slice_index_or old i [] ++ (if passes i then device ∷ [] else [])

-- of so many devices with these ends, the numbers of those at a node
unfoldable pub noted : List Ends → ℕ → ℕ → List ℕ
noted ends count i = filter (λ k. ends_at i (slice_index_or ends k no_ends)) (range_with_len 0 count)

-- each node has so many of them that are at it
pub record HaveNoted (ends : List Ends) (count nodes : ℕ) (near : List (List ℕ)) : Type 0 where
  pub size : length near ≡ nodes
  pub each : (i : ℕ) → i < nodes → slice_index_or near i [] ≡ noted ends count i
