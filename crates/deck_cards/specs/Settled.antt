-- Lists of names and values in which a name may stand twice: its last value holds, at the place of its first.
use Rattle.std.specs.Prelude.{ℕ, if◌then◌else◌, List, [], ◌∷◌, fold}
use Rattle.std.specs.Str.{bytes_eq}
use Rattle.semantics.specs.Deck.{DeckValue}

-- the pairs with one more, whose value takes the place of that of the same name
abbrev pub put : {A : Type 0} → List (List ℕ × A) → List ℕ × A → List (List ℕ × A)
put [] p = p ∷ []
put (q ∷ qs) p = if bytes_eq p.0 q.0 then (q.0, p.1) ∷ qs else q ∷ put qs p

abbrev pub put_all : {A : Type 0} → List (List ℕ × A) → List (List ℕ × A)
put_all ps = fold put [] ps

-- the deck in which each part and each initial voltage stands once
unfoldable pub settled : DeckValue → DeckValue
settled d = record d { parts = put_all d.parts; initial = put_all d.initial }
