-- What a range of ticks takes in.
use Rattle.std.specs.Prelude.{ℕ, Bool, ◌&&◌, nat_le}

-- a tick from the first of a range to its last, both taken in
abbrev pub is_in : ℕ × ℕ → ℕ → Bool
is_in range tick = nat_le range.0 tick && nat_le tick range.1
