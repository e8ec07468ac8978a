-- Which files the words name.
use Rattle.std.specs.Prelude.{ℕ, Bool, not, ◌||◌, nat_eq, if◌then◌else◌, List, [], ◌∷◌, Option, Some, None, codes}
use Rattle.std.specs.List.{starts_with}
use Rattle.std.specs.Option.{option_map}
use Rattle.std.specs.Str.{bytes_eq}
use Rattle.wave_shell.specs.declared.words.FileNames.{FileNames}

-- a word is a name where it does not begin with `-`, or is `-` alone
abbrev pub is_name : List ℕ → Bool
is_name w = not (starts_with nat_eq w (codes "-")) || bytes_eq w (codes "-")

-- the word behind which each word is a name
abbrev pub is_dashes : List ℕ → Bool
is_dashes w = bytes_eq w (codes "--")

-- the names among the words: each word but the first `--`; None where a word before that is no name
unfoldable pub names_in : List (List ℕ) → Option (List (List ℕ))
names_in [] = Some []
names_in (w ∷ ws) =
    if is_dashes w then Some ws
    else if is_name w then option_map (λ names. w ∷ names) (names_in ws)
    else None

-- the deck's name, and the script's where there is one
pub record FilesValue : Type 0 where
  pub deck : List ℕ
  pub script : Option (List ℕ)

-- one name is the deck's, and a second the script's; None where there is no name, or a third
abbrev pub files_of : List (List ℕ) → Option FilesValue
files_of [] = None
files_of (d ∷ []) = Some (record { deck = d; script = None })
files_of (d ∷ s ∷ []) = Some (record { deck = d; script = Some s })
files_of (d ∷ s ∷ n ∷ ns) = None

-- the files that the words name; None where the words do not fit
unfoldable pub files : List (List ℕ) → Option FilesValue
files words = elim (names_in words) [ None ↦ None | Some names ↦ files_of names ]

abbrev pub deck_name : List (List ℕ) → Option (List ℕ)
deck_name words = option_map (λ f. f.deck) (files words)

abbrev pub script_name : List (List ℕ) → Option (List ℕ)
script_name words = elim (files words) [ None ↦ None | Some f ↦ f.script ]

-- the bytes of the names that a body holds
abbrev pub names_of : FileNames → FilesValue
names_of f = record { deck = f.deck.now; script = option_map (λ name. name.now) f.script }
