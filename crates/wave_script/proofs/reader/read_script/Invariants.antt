use Rattle.std.proofs.Common.{◌≡◌, length}
use Rattle.deck_lexer.specs.Lines.{numbered_lines}
use Rattle.wave_script.specs.Lines.{nothing, said_after}
use Rattle.wave_script.proofs.reader.read_script.Given as goal

-- what is said and the lines that are left say what all the lines say
abbrev pub invariant-loop-number : goal.invariant-loop-number
invariant-loop-number l = said_after nothing (numbered_lines l.text) ≡ said_after l.said l.lines

abbrev pub decreases-loop-number : goal.decreases-loop-number
decreases-loop-number l = length l.lines
