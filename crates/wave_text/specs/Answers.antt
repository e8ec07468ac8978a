-- The lines that stand alone.
use Rattle.std.specs.Prelude.{ℕ, List, ◌++◌, if◌then◌else◌, Result, Ok, Err, codes}
use Rattle.std.specs.Fmt.{decimal}
use Rattle.semantics.specs.Deck.{Name}
use Rattle.semantics.specs.Ground.{is_ground}
use Rattle.deck_cards.specs.declared.edit_refusal.EditRefusal.{EditRefusal}
use Rattle.deck_cards.specs.Text.{refusal_text}
use Rattle.wave_script.specs.declared.why.ScriptRefusal.{ScriptRefusal}
use Rattle.wave_script.specs.Text.{cause_text}

-- edit K, where K is the number of accepted edits; or refused LINE TEXT, where LINE is the script's
unfoldable pub edit_text : ℕ → Result ℕ EditRefusal → List ℕ
edit_text line (Ok count) = codes "edit " ++ (decimal count ++ codes "\n")
edit_text line (Err why) = codes "refused " ++ (decimal line ++ (codes " " ++ (refusal_text why ++ codes "\n")))

-- work N
unfoldable pub work_text : ℕ → List ℕ
work_text count = codes "work " ++ (decimal count ++ codes "\n")

-- pinned W version K
unfoldable pub pinned_text : Name → ℕ → List ℕ
pinned_text name number = codes "pinned " ++ (name ++ (codes " version " ++ (decimal number ++ codes "\n")))

-- using W version K
unfoldable pub using_text : Name → ℕ → List ℕ
using_text name number = codes "using " ++ (name ++ (codes " version " ++ (decimal number ++ codes "\n")))

-- unpinned W
unfoldable pub unpinned_text : Name → List ℕ
unpinned_text name = codes "unpinned " ++ (name ++ codes "\n")

-- no node NODE; ground is 0, whichever of its names it has
unfoldable pub no_node_text : Name → List ℕ
no_node_text name = codes "no node " ++ ((if is_ground name then codes "0" else name) ++ codes "\n")

-- script LINE CAUSE
unfoldable pub script_text : ScriptRefusal → List ℕ
script_text refusal = codes "script " ++ (decimal refusal.line ++ (codes " " ++ (cause_text refusal.why ++ codes "\n")))
