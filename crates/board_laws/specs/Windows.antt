-- A window that a region hands in: its pieces, the nodes that are written of it, and what is looked at after it.
use Rattle.std.specs.Prelude.{ℕ, ◌<◌, ◌≤◌, ◌==◌, Bool, false, not, ◌&&◌, ◌||◌, if◌then◌else◌, List, Option, Some, is_none, unwrap_or}
use Rattle.std.specs.List.{list_any, range_with_len}
use Rattle.std.specs.Option.{option_map}
use Rattle.std.specs.Str.{bytes_eq}
use Rattle.semantics.specs.Deck.{Name, DeckValue, ends_of}
use Rattle.semantics.specs.Neighbours.{is_end, is_device, is_free}
use Rattle.semantics.specs.Pending.{spliced}
use Rattle.semantics.specs.Record.{Record}
use Rattle.record_laws.specs.Laws.{IsBoundedWithin}
use Rattle.board_laws.specs.Board.{BoardValue}
use Rattle.board_laws.specs.Regions.{is_in, is_taken}

-- the pieces of a window: its ticks are those after `from` and up to `until`; their nodes, and the voltages there
pub record WindowValue : Type 0 where
  pub from : ℕ
  pub until : ℕ
  pub nodes : List Name
  pub pairs : Record

-- a piece has the node
abbrev pub is_piece : WindowValue → Name → Bool
is_piece w n = list_any (bytes_eq n) w.nodes

-- it ends after it begins and not past the stop, and its voltages are such as calls on lines can hold
pub record IsWindow (d : DeckValue) (w : WindowValue) : Type 0 where
  pub order : w.from < w.until
  pub within : w.until ≤ d.stop
  pub bounded : IsBoundedWithin (is_piece w) w.from w.until w.pairs

-- ---- what is written

-- a piece is written where its node is free and no other region that is lent has it
abbrev pub is_written : BoardValue → ℕ → WindowValue → Name → Bool
is_written b r w n = is_piece w n && (is_free b.deck n && not (is_taken b r n))

-- the record with the pieces that are written
abbrev pub written : BoardValue → ℕ → WindowValue → Record
written b r w = spliced b.past w.pairs (is_written b r w) w.from w.until

-- ---- the region then

-- an idle region that has the node of a piece is joined
abbrev pub is_joined : BoardValue → WindowValue → ℕ → Bool
is_joined b w q = not (b.is_out q) && list_any (is_in b q) w.nodes

-- the nodes of the region and of those joined to it
abbrev pub is_mine : BoardValue → ℕ → WindowValue → Name → Bool
is_mine b r w n = unwrap_or (option_map (λ q. (q == r) || is_joined b w q) (b.owner n)) false

-- a tick of the node is pending
abbrev pub is_pending : BoardValue → Name → Bool
is_pending b n = list_any (b.pending n) (range_with_len 0 b.deck.stop)

-- the region has its nodes, those of the joined ones, and what is pending in no region; every other region stays
abbrev pub gathered : BoardValue → BoardValue → ℕ → WindowValue → Name → Option ℕ
gathered b c r w n = if is_mine b r w n || (is_none (b.owner n) && is_pending c n) then Some r else b.owner n

-- ---- what is looked at after it

-- one device has the name and one of these among its ends
abbrev pub is_beside : DeckValue → (Name → Bool) → Name → Bool
is_beside d among n = list_any (λ e. is_device e && (is_end n e && list_any among (ends_of e))) d.elements

-- the free nodes among the region's, the written ones, and the neighbours of both
abbrev pub is_swept : BoardValue → ℕ → WindowValue → Name → Bool
is_swept b r w n =
    is_free b.deck n
    && ((is_mine b r w n || is_written b r w n) || is_beside b.deck (λ m. is_mine b r w m || is_written b r w m) n)
