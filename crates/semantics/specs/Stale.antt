-- How much of a record is not the run's: the lines of the run's waves at which the record is off, and the lines that a window makes anew.
use Rattle.std.specs.Prelude.{ℕ, zero, suc, max, ◌==◌, nat_lt, nat_le, Bool, true, not, ◌&&◌, ◌||◌, List, sum_by, count_by}
use Rattle.std.specs.List.{range_with_len}
use Rattle.std.specs.Ordering.{int_eq}
use Rattle.semantics.specs.declared.fraction.Fraction.{Fraction}
use Rattle.semantics.specs.Deck.{Name, DeckValue, free_nodes}
use Rattle.semantics.specs.Run.{run}
use Rattle.semantics.specs.Wave.{begins}
use Rattle.semantics.specs.Record.{Record, record_current}

abbrev pub same_pair : Fraction → Fraction → Bool
same_pair a b = int_eq a.num b.num && (a.den == b.den)

-- at this tick, or below the stop at the next, the record's voltage of the node is not the run's
abbrev pub is_off : DeckValue → Record → Name → ℕ → Bool
is_off d w n t = not (same_pair (w n t) (run d t n)) || (nat_lt t d.stop && not (same_pair (w n (suc t)) (run d (suc t) n)))

-- a line of the node's wave begins at the tick, and the record is off there
abbrev pub is_stale : DeckValue → Record → Name → ℕ → Bool
is_stale d w n t = begins d t n && is_off d w n t

-- the ticks at which a line of a wave can begin
abbrev pub line_ticks : DeckValue → List ℕ
line_ticks d = range_with_len 0 (max 1 d.stop)

-- at how many lines of the free nodes' waves the record is off
unfoldable pub stale : DeckValue → Record → ℕ
stale d w = sum_by (λ n. count_by (is_stale d w n) (line_ticks d)) (free_nodes d)

-- ---- what a window makes anew

-- the current into the node or its denominator is not that of the tick before
abbrev pub is_turn : DeckValue → Record → Name → ℕ → Bool
is_turn d x n zero = true
is_turn d x n (suc t) = not (int_eq (record_current d x (suc t) n) (record_current d x t n) && ((x n (suc t)).den == (x n t).den))

-- the record x turns at the tick, and is not the record w there or at the next tick
abbrev pub is_fresh : DeckValue → Record → Record → Name → ℕ → Bool
is_fresh d w x n t = is_turn d x n t && (not (same_pair (w n t) (x n t)) || not (same_pair (w n (suc t)) (x n (suc t))))

-- how often, at these free nodes and from one tick to below another
unfoldable pub fresh : DeckValue → Record → Record → (Name → Bool) → ℕ → ℕ → ℕ
fresh d w x among from until =
    sum_by (λ n. count_by (λ t. among n && ((nat_le from t && nat_lt t until) && is_fresh d w x n t)) (line_ticks d)) (free_nodes d)
