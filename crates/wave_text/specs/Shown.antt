-- What `show` tells of a node: its wave, or the part of it that lies in a range of ticks.
use Rattle.std.specs.Prelude.{ℕ, suc, ◌-◌, nat_le, nat_lt, if◌then◌else◌, List, [], ◌++◌, length, Option, Some, None, filter, slice_get}
use Rattle.std.specs.Option.{option_map, option_to_list}
use Rattle.semantics.specs.declared.line.Line.{Line}
use Rattle.semantics.specs.Deck.{Name, DeckValue}
use Rattle.semantics.specs.Text.{wave_text}
use Rattle.semantics.specs.Wave.{wave}
use Rattle.node_ramps.specs.Lines.{turned}
use Rattle.version_book.specs.Version.{is_node}
use Rattle.wave_text.specs.Answers.{no_node_text}
use Rattle.wave_text.specs.Range.{is_in}

-- the lines that have begun at a tick
abbrev pub begun : ℕ → List Line → List Line
begun tick lines = filter (λ l. nat_le l.start tick) lines

-- the line in force at a tick: the last that has begun
abbrev pub in_force : ℕ → List Line → Option Line
in_force tick lines = slice_get (begun tick lines) (length (begun tick lines) - 1)

-- a line from a later tick on: it begins with the numerator there, and keeps its rate and denominator
abbrev pub from_tick : ℕ → Line → Line
from_tick tick l = turned l tick l.rate

-- the lines of a wave up to this stop tick. With a range: the line in force at its first tick, from there on, and each that
-- begins later in the range; none where the range begins behind the stop
unfoldable pub shown : ℕ → Option (ℕ × ℕ) → List Line → List Line
shown stop None lines = lines
shown stop (Some range) lines =
    if nat_lt stop range.0 then []
    else option_to_list (option_map (from_tick range.0) (in_force range.0 lines))
    ++ filter (λ l. is_in (suc range.0, range.1) l.start) lines

-- these lines behind `wave NODE COUNT`; `no node NODE` for a name that is no node of the deck
unfoldable pub show_text : DeckValue → Name → Option (ℕ × ℕ) → List ℕ
show_text d n range = if is_node d n then wave_text n (shown d.stop range (wave d n)) else no_node_text n
