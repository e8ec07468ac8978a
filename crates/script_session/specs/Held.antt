-- What a session holds: a board, the current version, and the versions that names are bound to.
use Rattle.std.specs.Prelude.{ℕ, Bool, true, false, List, length, map, Option, Some, None, unwrap_or, Result, Err, IfSome}
use Rattle.std.specs.List.{All}
use Rattle.std.specs.Option.{option_map}
use Rattle.semantics.specs.Deck.{Name, look_up}
use Rattle.deck_cards.specs.declared.edit_refusal.EditRefusal.{EditRefusal}
use Rattle.deck_cards.specs.declared.edit_refusal.EditRefusal.TheVariants.{Memory}
use Rattle.version_book.specs.Version.{VersionValue}
use Rattle.board_core.specs.Board.{BoardValue, IsVersionOf}
use Rattle.script_session.specs.Session.{SessionValue}

-- each name that a line has pinned or unpinned, with the version that it is bound to now
abbrev pub Bindings : Type 0
Bindings = List (Name × Option VersionValue)

-- the version that a name is bound to
abbrev pub bound_to : Bindings → Name → Option VersionValue
bound_to pins name = unwrap_or (look_up name pins) None

-- the same with the number of each version
abbrev pub numbered : Name × Option VersionValue → Name × Option ℕ
numbered p = (p.0, option_map (λ (v : VersionValue). length v.edits) p.1)

-- an answer for want of memory
abbrev pub is_wanting : Result ℕ EditRefusal → Bool
is_wanting (Err Memory) = true
is_wanting answer = false

-- how far a session with these has come
abbrev pub session : BoardValue → VersionValue → Bindings → SessionValue
session b v pins = record {
  base = b.base;
  edits = b.edits;
  current = length v.edits;
  reached = b.reached;
  pins = map numbered pins;
}

-- all versions are of the board's edits
pub record IsSession (b : BoardValue) (v : VersionValue) (pins : Bindings) : Type 0 where
  pub current : IsVersionOf b.base b.edits v
  pub pinned : All (λ p. IfSome p.1 (IsVersionOf b.base b.edits)) pins
