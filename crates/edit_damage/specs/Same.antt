-- Whether two elements have the same form: kind, name, ends and values.
use Rattle.std.specs.Prelude.{ℕ, ℤ, nat_eq, Bool, false, ◌&&◌, List}
use Rattle.std.specs.Cmp.Lexicographic.{pointwise}
use Rattle.std.specs.List.{list_any}
use Rattle.std.specs.Ordering.{int_eq}
use Rattle.std.specs.Str.{bytes_eq}
use Rattle.semantics.specs.declared.element.Element.{Element}
use Rattle.semantics.specs.declared.element.Element.TheVariants.{Resistor, Capacitor, Source, Mos}
use Rattle.semantics.specs.Deck.{DeckValue}

-- two points have the same tick and voltage
abbrev pub same_point : ℕ × ℤ → ℕ × ℤ → Bool
same_point p q = nat_eq p.0 q.0 && int_eq p.1 q.1

abbrev pub same_wave : List (ℕ × ℤ) → List (ℕ × ℤ) → Bool
same_wave ps qs = pointwise same_point ps qs

-- an element is this resistor
abbrev pub is_resistor : List ℕ → List ℕ → List ℕ → ℤ → Element → Bool
is_resistor name first second ohms (Resistor name' first' second' ohms') =
    bytes_eq name name' && (bytes_eq first first' && (bytes_eq second second' && int_eq ohms ohms'))
is_resistor name first second ohms (Capacitor name' plus minus farads) = false
is_resistor name first second ohms (Source name' plus minus wave) = false
is_resistor name first second ohms (Mos name' drain gate source bulk part len width) = false

-- an element is this capacitor
abbrev pub is_capacitor : List ℕ → List ℕ → List ℕ → ℤ → Element → Bool
is_capacitor name plus minus farads (Capacitor name' plus' minus' farads') =
    bytes_eq name name' && (bytes_eq plus plus' && (bytes_eq minus minus' && int_eq farads farads'))
is_capacitor name plus minus farads (Resistor name' first second ohms) = false
is_capacitor name plus minus farads (Source name' plus' minus' wave) = false
is_capacitor name plus minus farads (Mos name' drain gate source bulk part len width) = false

-- an element is this source
abbrev pub is_source : List ℕ → List ℕ → List ℕ → List (ℕ × ℤ) → Element → Bool
is_source name plus minus wave (Source name' plus' minus' wave') =
    bytes_eq name name' && (bytes_eq plus plus' && (bytes_eq minus minus' && same_wave wave wave'))
is_source name plus minus wave (Resistor name' first second ohms) = false
is_source name plus minus wave (Capacitor name' plus' minus' farads) = false
is_source name plus minus wave (Mos name' drain gate source bulk part len width) = false

-- an element is a MOS device with these four nodes
abbrev pub is_mos_between : List ℕ → List ℕ → List ℕ → List ℕ → Element → Bool
is_mos_between drain gate source bulk (Mos name drain' gate' source' bulk' part len width) =
    bytes_eq drain drain' && (bytes_eq gate gate' && (bytes_eq source source' && bytes_eq bulk bulk'))
is_mos_between drain gate source bulk (Resistor name first second ohms) = false
is_mos_between drain gate source bulk (Capacitor name plus minus farads) = false
is_mos_between drain gate source bulk (Source name plus minus wave) = false

-- an element is a MOS device with this name, part and size
abbrev pub is_mos_of : List ℕ → List ℕ → ℤ → ℤ → Element → Bool
is_mos_of name part len width (Mos name' drain gate source bulk part' len' width') =
    bytes_eq name name' && (bytes_eq part part' && (int_eq len len' && int_eq width width'))
is_mos_of name part len width (Resistor name' first second ohms) = false
is_mos_of name part len width (Capacitor name' plus minus farads) = false
is_mos_of name part len width (Source name' plus minus wave) = false

-- the two have the same form
abbrev pub same_element : Element → Element → Bool
same_element (Resistor name first second ohms) = is_resistor name first second ohms
same_element (Capacitor name plus minus farads) = is_capacitor name plus minus farads
same_element (Source name plus minus wave) = is_source name plus minus wave
same_element (Mos name drain gate source bulk part len width) = λ e. is_mos_between drain gate source bulk e && is_mos_of name part len width e

-- a deck has the element in the same form
abbrev pub has_element : DeckValue → Element → Bool
has_element d e = list_any (same_element e) d.elements
