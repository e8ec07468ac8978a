-- The run from one tick to the next.
use Rattle.std.proofs.Common.{◌≡◌, ℕ, suc, Bool, false, List, Some, None, refl, ℤ, pos, ◌+ℤ◌, ◌*ℤ◌}
use Rattle.semantics.specs.Ground.{is_ground}
use Rattle.semantics.specs.declared.fraction.Fraction.{Fraction}
use Rattle.semantics.specs.Deck.{DeckValue, driver, capacity, initial_of}
use Rattle.semantics.specs.Source.{signed, slope_at}
use Rattle.semantics.specs.Run.{node_current, charge, run}
use Rattle.semantics.specs.Wave.{rate}
use Rattle.semantics.proofs.Limits.{run_free}

-- ---- voltages

pub charge_next : (d : DeckValue) (t : ℕ) (n : List ℕ) → charge d (suc t) n ≡ charge d t n +ℤ node_current d (run d t) n
unfolding charge run
charge_next d t n = refl

pub rate_free : (d : DeckValue) (t : ℕ) (n : List ℕ) → driver d n ≡ None → rate d t n ≡ node_current d (run d t) n
unfolding rate
rate_free d t n free = rw (free, rate) refl

pub rate_driven : (d : DeckValue) (t : ℕ) (n : List ℕ) (s : List (ℕ × ℤ) × Bool) → driver d n ≡ Some s → rate d t n ≡ signed s.1 (slope_at s.0 t)
unfolding rate
rate_driven d t n s driven = rw (driven, rate) refl

-- the voltage of a node whose slope is this, one tick later
abbrev pub moved : Fraction → ℤ → Fraction
moved v slope = record { num = v.num +ℤ slope; den = v.den }

-- a free node gains its rate
pub run_next_free : (d : DeckValue) (t : ℕ) (n : List ℕ) → is_ground n ≡ false → driver d n ≡ None → run d (suc t) n ≡ moved (run d t n) (rate d t n)
run_next_free d t n real free = rw (run_free d (suc t) n real free, run_free d t n real free, rate_free d t n free, charge_next d t n) refl

-- ---- tick 0

charge_first : (d : DeckValue) (n : List ℕ) → charge d 0 n ≡ pos (capacity d n) *ℤ initial_of d n
unfolding charge
charge_first d n = refl

pub start_free : (d : DeckValue) (n : List ℕ) → is_ground n ≡ false → driver d n ≡ None → run d 0 n ≡ record { num = pos (capacity d n) *ℤ initial_of d n; den = capacity d n }
start_free d n real free = rw (run_free d 0 n real free, charge_first d n) refl
