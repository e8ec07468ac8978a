-- What the bodies know of a wave and of events; it defines nothing that is printed.
use Rattle.std.specs.Prelude.{◌≡◌, ◌≤◌, ◌*◌, ◌^◌, true, List, unsigned_abs, slice_get, IsSomeAnd}
use Rattle.std.specs.List.{All}
use Rattle.std.specs.List.Sorted.{IsNonDecreasingBy}
use Rattle.semantics.specs.declared.event.Event.{Event}
use Rattle.semantics.specs.declared.line.Line.{Line}
use Rattle.semantics.specs.Deck.{DeckValue}
use Rattle.semantics.specs.Neighbours.{is_device}

-- a line whose numerator fits 128 bits at every tick
pub record IsSmall (l : Line) : Type 0 where
  pub den : 1 ≤ l.den
  pub num : unsigned_abs l.num ≤ 101 * 10 ^ 23
  pub rate : unsigned_abs l.rate ≤ 10 ^ 15

-- small lines, none of which begins before the one in front of it
pub record IsWave (lines : List Line) : Type 0 where
  pub rising : IsNonDecreasingBy (λ (l : Line). l.start) lines
  pub small : All IsSmall lines

-- its place is that of a resistor or a MOS device
abbrev pub IsEventOf : DeckValue → Event → Type 0
IsEventOf d event = IsSomeAnd (slice_get d.elements event.place) (λ e. is_device e ≡ true)
