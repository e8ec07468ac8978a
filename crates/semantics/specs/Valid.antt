-- What a valid deck is: no name stands twice, every node is driven once or has what a free node needs, and each value is in its limit.
use Rattle.std.specs.Prelude.{ℕ, ◌+◌, ◌*◌, ◌%◌, ◌^◌, ℤ, pos, unsigned_abs, int_le, int_lt, nat_le, Bool, true, not, ◌&&◌, ◌||◌, ◌==◌, if◌then◌else◌, List, [], ◌∷◌, length, map, filter}
use Rattle.std.specs.List.{list_all, list_any, flat_map}
use Rattle.std.specs.Option.{is_some}
use Rattle.std.specs.Str.{bytes_eq}
use Rattle.semantics.specs.declared.element.Element.{Element}
use Rattle.semantics.specs.declared.element.Element.TheVariants.{Resistor, Capacitor, Source, Mos}
use Rattle.semantics.specs.Ground.{is_ground}
use Rattle.semantics.specs.Points.{rising_times}
use Rattle.semantics.specs.Part.{Part, Level, Listed}
use Rattle.semantics.specs.Deck.{DeckValue, nodes, free_nodes, total_farads, terminals, name_of, look_up}

-- ---- limits of values

-- a voltage that is given or a threshold of a table: at most 1,000 V in size
abbrev pub small_volts : ℤ → Bool
small_volts volts = nat_le (unsigned_abs volts) (10 ^ 9)

-- 1 mΩ to 1 TΩ
abbrev pub some_ohms : ℤ → Bool
some_ohms ohms = int_le (pos 1) ohms && int_le ohms (pos (10 ^ 15))

-- 0 to 1 µF
abbrev pub some_farads : ℤ → Bool
some_farads farads = int_le (pos 0) farads && int_le farads (pos (10 ^ 12))

-- 1 pm to 1 mm
abbrev pub some_metres : ℤ → Bool
some_metres metres = int_le (pos 1) metres && int_le metres (pos (10 ^ 9))

-- a threshold voltage of a model: at most 100 V in size
abbrev pub small_vto : ℤ → Bool
small_vto vto = nat_le (unsigned_abs vto) (10 ^ 8)

-- a gain of a model: 0 to 100 mA per square volt
abbrev pub some_gain : ℤ → Bool
some_gain kp = int_le (pos 0) kp && int_le kp (pos (10 ^ 11))

-- a current of a table: at most 1 A in size
abbrev pub small_amps : ℤ → Bool
small_amps amps = nat_le (unsigned_abs amps) (10 ^ 12)

-- at most 10 ms
abbrev pub short_time : ℕ → Bool
short_time tick = nat_le tick (10 ^ 10)

-- an even number of microvolts from 2 µV to 1 V
abbrev pub some_grain : ℕ → Bool
some_grain grain = (grain % 2 == 0) && (nat_le 2 grain && nat_le grain (10 ^ 6))

-- a source has a point, its ticks rise, and each point is in its limits
abbrev pub is_source : List (ℕ × ℤ) → Bool
is_source points = not (length points == 0) && (rising_times points && list_all (λ p. short_time p.0 && small_volts p.1) points)

abbrev pub in_limits : Element → Bool
in_limits (Resistor name first second ohms) = some_ohms ohms
in_limits (Capacitor name plus minus farads) = some_farads farads
in_limits (Source name plus minus wave) = is_source wave
in_limits (Mos name drain gate source bulk part len width) = some_metres len && some_metres width

-- each threshold is above the one before it
abbrev pub rising : List ℤ → Bool
rising [] = true
rising (a ∷ []) = true
rising (a ∷ b ∷ zs) = int_lt a b && rising (b ∷ zs)

-- at most 256 thresholds, which rise
abbrev pub is_grid : List ℤ → Bool
is_grid thresholds = nat_le (length thresholds) 256 && (list_all small_volts thresholds && rising thresholds)

abbrev pub is_part : Part → Bool
is_part (Level channel vto kp) = small_vto vto && some_gain kp
is_part (Listed gate drain amps) =
    is_grid gate && (is_grid drain && ((length amps == (length gate + 1) * (length drain + 1)) && list_all small_amps amps))

-- ---- names and nodes

-- no two names are the same
abbrev pub differ : List (List ℕ) → Bool
differ [] = true
differ (n ∷ ns) = not (list_any (bytes_eq n) ns) && differ ns

-- the nodes that an element drives
abbrev pub driven_of : Element → List (List ℕ)
driven_of (Source name plus minus wave) = filter (λ n. not (is_ground n)) (plus ∷ minus ∷ [])
driven_of (Resistor name first second ohms) = []
driven_of (Capacitor name plus minus farads) = []
driven_of (Mos name drain gate source bulk part len width) = []

-- exactly one of the two is ground
abbrev pub one_ground : List ℕ → List ℕ → Bool
one_ground plus minus = if is_ground plus then not (is_ground minus) else is_ground minus

-- a capacitor or a source stands between a node and ground
abbrev pub is_grounded : Element → Bool
is_grounded (Source name plus minus wave) = one_ground plus minus
is_grounded (Capacitor name plus minus farads) = one_ground plus minus
is_grounded (Resistor name first second ohms) = true
is_grounded (Mos name drain gate source bulk part len width) = true

-- a device's model or table is there
abbrev pub has_part : DeckValue → Element → Bool
has_part d (Mos name drain gate source bulk part len width) = is_some (look_up part d.parts)
has_part d (Source name plus minus wave) = true
has_part d (Capacitor name plus minus farads) = true
has_part d (Resistor name first second ohms) = true

-- a free node has a capacitance of at most 1 µF, an initial voltage, and at most 1,000 ends that carry current
abbrev pub is_held : DeckValue → List ℕ → Bool
is_held d n =
    (int_lt (pos 0) (total_farads d n) && int_le (total_farads d n) (pos (10 ^ 12)))
    && ((d.uic || is_some (look_up n d.initial)) && nat_le (terminals d n) 1000)

-- ---- the whole deck

-- the stop tick, the grain, the parts and the initial voltages are in their limits, and no name stands twice among either
abbrev pub has_limits : DeckValue → Bool
has_limits d =
    (short_time d.stop && some_grain d.grain)
    && ((differ (map (λ p. p.0) d.parts) && list_all (λ p. is_part p.1) d.parts)
    && (differ (map (λ p. p.0) d.initial) && list_all (λ p. small_volts p.1) d.initial))

-- element names differ, no node is driven twice, and each element is in its limits and stands where it may
abbrev pub has_elements : DeckValue → Bool
has_elements d =
    (differ (map name_of d.elements) && differ (flat_map driven_of d.elements))
    && (list_all is_grounded d.elements && (list_all (has_part d) d.elements && list_all in_limits d.elements))

-- there are at most 100,000 elements and nodes, and each free node has what it needs
abbrev pub has_nodes : DeckValue → Bool
has_nodes d = (nat_le (length d.elements) 100000 && nat_le (length (nodes d)) 100000) && list_all (is_held d) (free_nodes d)

unfoldable pub is_valid : DeckValue → Bool
is_valid d = has_limits d && (has_elements d && has_nodes d)
