-- How far the lines of a text are read.
use Rattle.std.specs.Prelude.{ℕ, ◌+◌, ◌-◌, ◌<◌, ◌≤◌, ◌^◌, List, length, drop, Some, None}
use Rattle.deck_lexer.specs.declared.scan.Scan.{Scan}
use Rattle.deck_lexer.specs.Lines.{lines_of}
use Rattle.deck_lexer.specs.Pending.{pending_cards, last_len, IsPending}
use Rattle.deck_lexer.specs.Left.{Left, left, over}

-- what is left of the deck
abbrev pub scan_left : List ℕ → Scan → Left
scan_left text scan = elim scan.over [
  | Some how ↦ over (pending_cards scan.pending) how
  | None ↦ left (pending_cards scan.pending) scan.number (lines_of (drop scan.start text))
]

pub record IsScan (text : List ℕ) (scan : Scan) : Type 0 where
  pub small : length text < 2 ^ 32
  pub within : scan.start ≤ length text + 1
  pub number : scan.number ≤ scan.start
  pub last : last_len scan.pending ≤ scan.start
  pub pending : IsPending scan.pending

-- how many bytes are left to read, and 1 more until the end of the deck is read
abbrev pub work_left : List ℕ → Scan → ℕ
work_left text scan = (length text + 1 - scan.start) + elim scan.over [ Some how ↦ 0 | None ↦ 1 ]
