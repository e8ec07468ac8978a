-- Why parts make no valid deck: the first cause, in one order. Each element is taken as added in turn, and what only the whole deck can tell comes at the end.
use Rattle.std.specs.Prelude.{ℕ, ◌^◌, nat_le, ℤ, pos, int_le, Bool, not, ◌&&◌, if◌then◌else◌, List, [], ◌∷◌, ◌++◌, length, fold, Option, Some, None, is_none, slice_get, codes}
use Rattle.std.specs.Option.{option_map, option_or}
use Rattle.std.specs.Ordering.{int_eq}
use Rattle.std.specs.List.{list_all, list_any, flat_map}
use Rattle.std.specs.Str.{bytes_eq}
use Rattle.semantics.specs.Part as part
use Rattle.semantics.specs.declared.element.Element.{Element}
use Rattle.semantics.specs.declared.element.Element.TheVariants.{Resistor, Capacitor, Source, Mos}
use Rattle.semantics.specs.Deck.{DeckValue, name_of, look_up, first_some, ends_of, with_node, free_nodes, total_farads, terminals}
use Rattle.semantics.specs.Valid.{small_volts, some_ohms, some_farads, some_metres, short_time, some_grain, small_amps, small_vto, some_gain, is_grounded, has_part, driven_of}
use Rattle.deck_cards.specs.declared.which.Which.{Which}
use Rattle.deck_cards.specs.declared.which.Which.TheVariants.{Volts, Farads, Ohms, Seconds, Metres, Gain, Grain, Amps, Elements, Nodes, NodeFarads, Terminals}
use Rattle.deck_cards.specs.declared.edit_refusal.EditRefusal.{EditRefusal}
use Rattle.deck_cards.specs.declared.edit_refusal.EditRefusal.TheVariants.{DuplicateName, NoSuchModel, NotGrounded, TwoDrivers, Uncapped, NoInitial, Limit}

-- this, where it holds
abbrev pub when : {A : Type 0} → Bool → A → Option A
when b x = if b then Some x else None

-- the first of these causes
abbrev pub first_of : {A : Type 0} → List (Option A) → Option A
first_of [] = None
first_of (o ∷ os) = option_or o (first_of os)

-- the first that passes
abbrev pub first_that : {A : Type 0} → (A → Bool) → List A → Option A
first_that p xs = first_some (λ x. when (p x) x) xs

-- ---- an element behind others

abbrev pub is_named : List Element → List ℕ → Bool
is_named es n = list_any (λ e. bytes_eq n (name_of e)) es

abbrev pub is_driven : List Element → List ℕ → Bool
is_driven es n = list_any (bytes_eq n) (flat_map driven_of es)

-- the part of a device
abbrev pub part_name : Element → List ℕ
part_name (Mos name drain gate source bulk part len width) = part
part_name (Resistor name first second ohms) = []
part_name (Capacitor name plus minus farads) = []
part_name (Source name plus minus wave) = []

-- why an element can't be added behind these
unfoldable pub add_cause : DeckValue → List Element → Element → Option EditRefusal
add_cause d before e = first_of (
    when (is_named before (name_of e)) (DuplicateName (name_of e))
    ∷ when (not (has_part d e)) (NoSuchModel (part_name e))
    ∷ when (not (is_grounded e)) (NotGrounded (name_of e))
    ∷ option_map TwoDrivers (first_that (is_driven before) (driven_of e))
    ∷ [])

-- why these can't be added in turn behind those before
unfoldable pub adding_cause : DeckValue → List Element → List Element → Option EditRefusal
adding_cause d before [] = None
adding_cause d before (e ∷ es) = option_or (add_cause d before e) (adding_cause d (before ++ e ∷ []) es)

-- ---- free nodes

unfoldable pub uncapped : DeckValue → Option EditRefusal
uncapped d = option_map Uncapped (first_that (λ n. int_eq (total_farads d n) (pos 0)) (free_nodes d))

unfoldable pub no_initial : DeckValue → Option EditRefusal
no_initial d = option_map NoInitial (first_that (λ n. not d.uic && is_none (look_up n d.initial)) (free_nodes d))

unfoldable pub node_farads : DeckValue → Option EditRefusal
node_farads d = option_map (Limit NodeFarads) (first_that (λ n. not (int_le (total_farads d n) (pos (10 ^ 12)))) (free_nodes d))

unfoldable pub many_terminals : DeckValue → Option EditRefusal
many_terminals d = option_map (Limit Terminals) (first_that (λ n. not (nat_le (terminals d n) 1000)) (free_nodes d))

-- ---- values

abbrev pub limit : Bool → Which → List ℕ → Option EditRefusal
limit within which name = when (not within) (Limit which name)

-- what a value is of that is outside its limit
abbrev pub outside : Bool → Which → Option Which
outside within which = when (not within) which

-- what the first value of a part outside its limit is of
unfoldable pub part_limit : part.Part → Option Which
part_limit (part.Level channel vto kp) = first_of (outside (small_vto vto) Volts ∷ outside (some_gain kp) Gain ∷ [])
part_limit (part.Listed gate drain amps) =
    first_of (outside (list_all small_volts gate && list_all small_volts drain) Volts ∷ outside (list_all small_amps amps) Amps ∷ [])

abbrev pub point_limit : ℕ × ℤ → Option Which
point_limit p = first_of (outside (short_time p.0) Seconds ∷ outside (small_volts p.1) Volts ∷ [])

-- what the first value of an element outside its limit is of, by its place on the card
unfoldable pub element_limit : Element → Option Which
element_limit (Resistor name first second ohms) = outside (some_ohms ohms) Ohms
element_limit (Capacitor name plus minus farads) = outside (some_farads farads) Farads
element_limit (Source name plus minus wave) = first_some point_limit wave
element_limit (Mos name drain gate source bulk part len width) = outside (some_metres len && some_metres width) Metres

-- the cause that such a value of this name makes
abbrev pub limited : List ℕ → Option Which → Option EditRefusal
limited name which = option_map (λ w. Limit w name) which

-- stop tick, grain, parts, initial voltages, elements
unfoldable pub value_limit : DeckValue → Option EditRefusal
value_limit d = first_of (
    limit (short_time d.stop) Seconds (codes ".tran")
    ∷ limit (some_grain d.grain) Grain (codes ".options")
    ∷ first_some (λ (p : List ℕ × part.Part). limited p.0 (part_limit p.1)) d.parts
    ∷ first_some (λ p. limit (small_volts p.1) Volts p.0) d.initial
    ∷ first_some (λ e. limited (name_of e) (element_limit e)) d.elements
    ∷ [])

-- ---- numbers of things

-- the element that is one too many
unfoldable pub many_elements : DeckValue → Option EditRefusal
many_elements d = option_map (λ e. Limit Elements (name_of e)) (slice_get d.elements 100000)

-- the first element that names a node that is one too many, behind those that name these
unfoldable pub many_nodes_from : List (List ℕ) → List Element → Option EditRefusal
many_nodes_from seen [] = None
many_nodes_from seen (e ∷ es) =
    option_or (limit (nat_le (length (fold with_node seen (ends_of e))) 100000) Nodes (name_of e)) (many_nodes_from (fold with_node seen (ends_of e)) es)

unfoldable pub many_nodes : DeckValue → Option EditRefusal
many_nodes d = many_nodes_from [] d.elements

-- ---- the whole deck

-- the first free node that lacks something
unfoldable pub free_cause : DeckValue → Option EditRefusal
free_cause d = first_of (uncapped d ∷ no_initial d ∷ [])

-- what there is too much of
unfoldable pub size_cause : DeckValue → Option EditRefusal
size_cause d = first_of (many_elements d ∷ many_nodes d ∷ node_farads d ∷ many_terminals d ∷ [])

-- what no element alone can tell, where this is the first value outside its limit
abbrev pub whole_with : Option EditRefusal → DeckValue → Option EditRefusal
whole_with value d = first_of (
    uncapped d
    ∷ no_initial d
    ∷ value
    ∷ many_elements d
    ∷ many_nodes d
    ∷ node_farads d
    ∷ many_terminals d
    ∷ [])

unfoldable pub whole_cause : DeckValue → Option EditRefusal
whole_cause d = whole_with (value_limit d) d

unfoldable pub deck_cause : DeckValue → Option EditRefusal
deck_cause d = option_or (adding_cause d [] d.elements) (whole_cause d)
