-- The regions of a board: which nodes each has, what an edit does to them, and how a lent one comes back.
use Rattle.std.specs.Prelude.{◌≡◌, ◌≢◌, ◌⊎◌, ℕ, ◌==◌, Bool, true, false, not, ◌&&◌, if◌then◌else◌, List, [], ◌∷◌, Option, Some, None, unwrap_or}
use Rattle.std.specs.Option.{option_map}
use Rattle.semantics.specs.Deck.{Name}
use Rattle.semantics.specs.Edit.{IsNear}
use Rattle.semantics.specs.Neighbours.{share}
use Rattle.board_laws.specs.Board.{BoardValue}

-- ---- the nodes of a region

-- the region has the node
abbrev pub is_in : BoardValue → ℕ → Name → Bool
is_in b r n = unwrap_or (option_map (λ q. q == r) (b.owner n)) false

-- another region than this one is lent and has the node
abbrev pub is_taken : BoardValue → ℕ → Name → Bool
is_taken b r n = unwrap_or (option_map (λ q. not (q == r) && b.is_out q) (b.owner n)) false

-- no region is lent or returned
abbrev pub SameOut : BoardValue → BoardValue → Type 0
SameOut b c = (r : ℕ) → c.is_out r ≡ b.is_out r

-- none but this one is
abbrev pub SameOthers : ℕ → BoardValue → BoardValue → Type 0
SameOthers r b c = (q : ℕ) → q ≢ r → c.is_out q ≡ b.is_out q

-- one region has every name, those of nodes to come included
abbrev pub OneRegion : BoardValue → Type 0
OneRegion b = (n : Name) → b.owner n ≡ Some 0

-- ---- an edit

-- two nodes were in one region, or one device of the deck after the edit joins them
abbrev pub IsLinked : BoardValue → BoardValue → Name → Name → Type 0
IsLinked b c m n = (share c.deck m n ≡ true) ⊎ ((r : ℕ) × (b.owner m ≡ Some r) × (b.owner n ≡ Some r))

-- a way from one node to another over these, from link to link, where each between them is among some
abbrev pub IsChain : (Name → Name → Type 0) → (Name → Type 0) → Name → List Name → Name → Type 0
IsChain Link Among m [] n = Link m n
IsChain Link Among m (k ∷ ks) n = Link m k × Among k × IsChain Link Among k ks n

-- what an edit does to regions: the lent ones stay as they are, and nodes of one region are in one still (`together`);
-- each pending node has a region (`owned`); a node that comes into one is pending or near the edit (`new`); and within
-- a region a way of linked nodes leads from each node to each other (`chained`)
pub record Regroups (b c : BoardValue) : Type 0 where
  pub out : SameOut b c
  pub lent : (n : Name) (r : ℕ) → b.is_out r ≡ true → is_in c r n ≡ is_in b r n
  pub together : (m n : Name) (r : ℕ) → b.owner m ≡ Some r → b.owner n ≡ Some r
      → (c.owner m ≢ None) × (c.owner m ≡ c.owner n)
  pub owned : (n : Name) (t : ℕ) → c.pending n t ≡ true → c.owner n ≢ None
  pub new : (n : Name) (r : ℕ) → b.owner n ≡ None → c.owner n ≡ Some r
      → ((t : ℕ) × (c.pending n t ≡ true)) ⊎ IsNear b.deck c.deck n
  pub chained : (m n : Name) (r : ℕ) → m ≢ n → c.owner m ≡ Some r → c.owner n ≡ Some r
      → (ks : List Name) × IsChain (IsLinked b c) (λ k. c.owner k ≡ Some r) m ks n

-- ---- a region that comes back

-- the region of a node, or none where it was this one
abbrev pub without : ℕ → Option ℕ → Option ℕ
without r None = None
without r (Some q) = if q == r then None else Some q

-- nothing is pending on the nodes that these regions give this one
abbrev pub IsQuiet : ℕ → (Name → Option ℕ) → BoardValue → Type 0
IsQuiet r owner c = (n : Name) (t : ℕ) → owner n ≡ Some r → c.pending n t ≡ false

-- the board has these regions
abbrev pub HasRegions : (Name → Option ℕ) → BoardValue → Type 0
HasRegions owner c = (n : Name) → c.owner n ≡ owner n

-- a lent region comes back: the board has these regions and this one is idle or, where nothing is pending on it, gone
pub record Returns (r : ℕ) (owner : Name → Option ℕ) (b c : BoardValue) : Type 0 where
  pub idle : c.is_out r ≡ false
  pub others : SameOthers r b c
  pub regions : HasRegions owner c ⊎ (IsQuiet r owner c × HasRegions (λ n. without r (owner n)) c)
