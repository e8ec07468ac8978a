-- A file of a shelf in memory.
use Rattle.std.specs.Prelude.{ℕ, ◌+◌, ◌-◌, ◌^◌, min, List, Bool, if◌then◌else◌, Option}

-- a name, its bytes where there is such a file, and how many calls on it there were and failed
pub record FileState : Type 0 where
  pub name : List ℕ
  pub bytes : Option (List ℕ)
  pub calls : ℕ
  pub faults : ℕ

-- one more, up to the largest `u64`
abbrev pub one_more : ℕ → ℕ
one_more n = min (n + 1) (2 ^ 64 - 1)

-- the file that no call was made on
abbrev pub untouched : List ℕ → Option (List ℕ) → FileState
untouched name bytes = record { name = name; bytes = bytes; calls = 0; faults = 0 }

-- the file after a call, which failed or not
abbrev pub after_call : Bool → FileState → FileState
after_call failed f = record {
  name = f.name;
  bytes = f.bytes;
  calls = one_more f.calls;
  faults = if failed then one_more f.faults else f.faults;
}
