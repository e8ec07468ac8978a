-- A sink in memory: what was written, and which calls fail.
use Rattle.std.specs.Prelude.{◌≡◌, ℕ, ◌-◌, min, List, length, Bool, ◌&&◌, ◌||◌, nat_lt, nat_le, ◌==◌}
use Rattle.std.specs.List.{list_any}

-- the bytes that were written, the room for them, how many bytes a call takes at most, the numbers of the calls that
-- fail, and how many calls there were and failed
pub record SinkState : Type 0 where
  pub written : List ℕ
  pub room : ℕ
  pub most : ℕ
  pub failing : List ℕ
  pub calls : ℕ
  pub faults : ℕ

-- whether the next call fails: it is listed, or it brings bytes and the room is full
abbrev pub fails : SinkState → List ℕ → Bool
fails s buf = list_any (λ number. number == s.calls) s.failing || (nat_lt 0 (length buf) && nat_le s.room (length s.written))

-- how many bytes the next call takes, where it does not fail
abbrev pub count_taken : SinkState → List ℕ → ℕ
count_taken s buf = min s.most (min (length buf) (s.room - length s.written))

-- what calls leave alone: the room, how many bytes a call takes at most, and the list of failing calls
pub record SameRules (old new : SinkState) : Type 0 where
  pub room : new.room ≡ old.room
  pub most : new.most ≡ old.most
  pub failing : new.failing ≡ old.failing
