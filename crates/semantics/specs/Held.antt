-- The text that a name holds.
use Rattle.std.specs.Prelude.{⊤, ℕ, ◌≤◌, List, take, string_bytes, IsUtf8}
use Rattle.semantics.specs.declared.text.Held.{Held}
use Rattle.semantics.specs.declared.text.Held.TheVariants.{Short, Long}

abbrev pub bytes_of : Held → List ℕ
bytes_of (Short len bytes) = take len bytes
bytes_of (Long text) = string_bytes text.value

abbrev pub IsText : Held → Type 0
IsText (Short len bytes) = (len ≤ 14) × ∥ IsUtf8 (take len bytes) ∥₁
IsText (Long text) = ⊤
