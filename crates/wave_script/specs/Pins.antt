-- Which names are bound to a version at a line of a script.
use Rattle.std.specs.Prelude.{Bool, true, false, List, [], unwrap_or}
use Rattle.semantics.specs.Deck.{look_up}
use Rattle.deck_reader.specs.Words.{Word}
use Rattle.deck_cards.specs.Settled.{put}
use Rattle.wave_script.specs.declared.command.Command.{Command}
use Rattle.wave_script.specs.declared.command.Command.TheVariants.{Pin, Unpin}

-- each name that a line so far has pinned or unpinned, with whether it is bound now
abbrev pub Bound : Type 0
Bound = List (Word × Bool)

abbrev pub no_pins : Bound
no_pins = []

abbrev pub is_bound : Bound → Word → Bool
is_bound pins name = unwrap_or (look_up name pins) false

-- `pin` binds a name and `unpin` frees it; no other command does either
unfoldable pub bound_after : Bound → Command → Bound
bound_after pins (Pin name) = put pins (name, true)
bound_after pins (Unpin name) = put pins (name, false)
bound_after pins _ = pins
