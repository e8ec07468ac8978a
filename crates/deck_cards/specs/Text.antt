-- What a limit is of and why an edit is refused, as it is printed.
use Rattle.std.specs.Prelude.{ℕ, List, ◌∷◌, ◌++◌, codes}
use Rattle.deck_cards.specs.declared.which.Which.{Which}
use Rattle.deck_cards.specs.declared.which.Which.TheVariants.{Volts, Farads, Ohms, Seconds, Metres, Gain, Grain, Amps, Elements, Nodes, NodeFarads, Terminals}
use Rattle.deck_cards.specs.declared.edit_refusal.EditRefusal.{EditRefusal}
use Rattle.deck_cards.specs.declared.edit_refusal.EditRefusal.TheVariants.{NoSuchName, WrongKind, DuplicateName, NoSuchModel, NotGrounded, TwoDrivers, Uncapped, NoInitial, Limit, Memory}

abbrev pub which_text : Which → List ℕ
which_text Volts = codes "volts"
which_text Farads = codes "farads"
which_text Ohms = codes "ohms"
which_text Seconds = codes "seconds"
which_text Metres = codes "metres"
which_text Gain = codes "gain"
which_text Grain = codes "grain"
which_text Amps = codes "amps"
which_text Elements = codes "elements"
which_text Nodes = codes "nodes"
which_text NodeFarads = codes "node farads"
which_text Terminals = codes "terminals"

-- limit WHICH NAME
abbrev pub limit_text : Which → List ℕ → List ℕ
limit_text which name = codes "limit " ++ (which_text which ++ (32 ∷ name))

abbrev pub refusal_text : EditRefusal → List ℕ
refusal_text (NoSuchName name) = codes "no such name " ++ name
refusal_text (WrongKind name) = codes "wrong kind " ++ name
refusal_text (DuplicateName name) = codes "duplicate name " ++ name
refusal_text (NoSuchModel part) = codes "no such model " ++ part
refusal_text (NotGrounded name) = codes "not grounded " ++ name
refusal_text (TwoDrivers node) = codes "two drivers " ++ node
refusal_text (Uncapped node) = codes "uncapped " ++ node
refusal_text (NoInitial node) = codes "no initial " ++ node
refusal_text (Limit which name) = limit_text which name
refusal_text Memory = codes "memory"
