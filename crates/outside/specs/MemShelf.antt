-- A shelf in memory: its files, and which calls fail.
use Rattle.std.specs.Prelude.{◌≡◌, ◌≢◌, ℕ, ◌==◌, Bool, ◌&&◌, ◌||◌, is_none, min, List, map, find, Option, option_map, option_and_then, unwrap_or, String, string_bytes}
use Rattle.std.specs.declared.alloc.Global.{Global}
use Rattle.std.specs.List.{list_any}
use Rattle.std.specs.Str.{bytes_eq}
use Rattle.outside.specs.MemFile.{FileState}

-- the files, how many bytes a call gives at most, and the calls that fail, each a name and a number from 0
pub record ShelfState : Type 0 where
  pub files : List FileState
  pub most : ℕ
  pub failing : List (List ℕ × ℕ)

-- the first file of this name
abbrev pub file_of : ShelfState → List ℕ → Option FileState
file_of s name = find (λ f. bytes_eq f.name name) s.files

abbrev pub names_of : ShelfState → List (List ℕ)
names_of s = map (λ f. f.name) s.files

-- the bytes of the file, where there is one
abbrev pub bytes_of : ShelfState → List ℕ → Option (List ℕ)
bytes_of s name = option_and_then (λ f. f.bytes) (file_of s name)

-- how many calls there were on the name: the number of the next one
abbrev pub calls_of : ShelfState → List ℕ → ℕ
calls_of s name = unwrap_or (option_map (λ f. f.calls) (file_of s name)) 0

-- how many of them failed
abbrev pub faults_of : ShelfState → List ℕ → ℕ
faults_of s name = unwrap_or (option_map (λ f. f.faults) (file_of s name)) 0

-- whether the call of this number on the name is listed
abbrev pub is_listed : List (List ℕ × ℕ) → List ℕ → ℕ → Bool
is_listed failing name number = list_any (λ call. bytes_eq call.0 name && (call.1 == number)) failing

-- the list of calls, with the names as bytes
abbrev pub listed_calls : List (String Global × ℕ) → List (List ℕ × ℕ)
listed_calls failing = map (λ call. (string_bytes call.0, call.1)) failing

-- whether the next call on the name fails: there is no such file, or the call is listed
abbrev pub fails : ShelfState → List ℕ → Bool
fails s name = is_none (bytes_of s name) || is_listed s.failing name (calls_of s name)

-- how many bytes a call gives where `rest` are left from its place on
abbrev pub count_given : ℕ → ℕ → ℕ → ℕ
count_given most room rest = min most (min room rest)

-- what calls leave alone: the list of failing calls and how many bytes a call gives at most
pub record SameRules (old new : ShelfState) : Type 0 where
  pub most : new.most ≡ old.most
  pub failing : new.failing ≡ old.failing

-- every other file is as it was
abbrev pub SameFiles : List ℕ → ShelfState → ShelfState → Type 0
SameFiles name old new = (other : List ℕ) → other ≢ name → file_of new other ≡ file_of old other
