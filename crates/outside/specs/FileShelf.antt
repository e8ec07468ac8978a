-- A shelf of files: the names, each with its count of faults.
use Rattle.std.specs.Prelude.{ℕ, List, map, find, option_map, unwrap_or}
use Rattle.std.specs.Str.{bytes_eq}

pub record NameState : Type 0 where
  pub name : List ℕ
  pub faults : ℕ

abbrev pub names_of : List NameState → List (List ℕ)
names_of files = map (λ f. f.name) files

-- how many faults reading the name has met
abbrev pub faults_of : List NameState → List ℕ → ℕ
faults_of files name = unwrap_or (option_map (λ f. f.faults) (find (λ f. bytes_eq f.name name) files)) 0

-- the name on which no call was made
abbrev pub unread : List ℕ → NameState
unread name = record { name = name; faults = 0 }
