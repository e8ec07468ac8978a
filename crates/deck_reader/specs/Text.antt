-- The text of each cause, as it is printed behind the line.
use Rattle.std.specs.Prelude.{ℕ, List, ◌∷◌, ◌++◌, codes}
use Rattle.deck_cards.specs.declared.which.Which.{Which}
use Rattle.deck_cards.specs.declared.which.Which.TheVariants.{Volts, Farads, Ohms, Seconds, Metres, Gain, Grain, Amps, Elements, Nodes, NodeFarads, Terminals}
use Rattle.deck_reader.specs.declared.why.DeckWhy.{DeckWhy}
use Rattle.deck_reader.specs.declared.why.DeckWhy.TheVariants.{NotAscii, ContinuesNothing, Unsupported, WrongWords, BadNumber, TimesNotRising, TooManyThresholds, NotRising, WrongCount, BadLevel, DuplicateName, DuplicateModel, SecondTran, NotGrounded, TwoDrivers, Limit, NoTran, NoSuchModel, Uncapped, NoInitial, NoEnd, Memory}

abbrev pub which_text : Which → List ℕ
which_text Volts = codes "volts"
which_text Farads = codes "farads"
which_text Ohms = codes "ohms"
which_text Seconds = codes "seconds"
which_text Metres = codes "metres"
which_text Gain = codes "gain"
which_text Grain = codes "grain"
which_text Amps = codes "amps"
which_text Elements = codes "elements"
which_text Nodes = codes "nodes"
which_text NodeFarads = codes "node farads"
which_text Terminals = codes "terminals"

abbrev pub cause_text : DeckWhy → List ℕ
cause_text NotAscii = codes "not ascii"
cause_text ContinuesNothing = codes "continues nothing"
cause_text (Unsupported word) = codes "unsupported " ++ word
cause_text WrongWords = codes "wrong words"
cause_text (BadNumber word) = codes "bad number " ++ word
cause_text TimesNotRising = codes "times not rising"
cause_text TooManyThresholds = codes "too many thresholds"
cause_text NotRising = codes "not rising"
cause_text WrongCount = codes "wrong count"
cause_text BadLevel = codes "bad level"
cause_text (DuplicateName name) = codes "duplicate name " ++ name
cause_text (DuplicateModel name) = codes "duplicate model " ++ name
cause_text SecondTran = codes "second .TRAN"
cause_text (NotGrounded name) = codes "not grounded " ++ name
cause_text (TwoDrivers node) = codes "two drivers " ++ node
cause_text (Limit which name) = codes "limit " ++ (which_text which ++ (32 ∷ name))
cause_text NoTran = codes "no .TRAN"
cause_text (NoSuchModel name) = codes "no such model " ++ name
cause_text (Uncapped node) = codes "uncapped " ++ node
cause_text (NoInitial node) = codes "no initial " ++ node
cause_text NoEnd = codes "no .END"
cause_text Memory = codes "memory"
