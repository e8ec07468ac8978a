-- The two names of ground.
use Rattle.std.specs.Prelude.{Bool, ◌||◌, List, ℕ, codes}
use Rattle.std.specs.Str.{bytes_eq}

abbrev pub is_ground : List ℕ → Bool
is_ground name = bytes_eq name (codes "0") || bytes_eq name (codes "gnd")
