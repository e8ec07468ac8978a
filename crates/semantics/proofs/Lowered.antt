-- Lowering a text.
use Rattle.std.proofs.Common.{◌≡◌, ℕ, List, [], ◌∷◌, map, refl}
use Rattle.std.specs.Char.{to_ascii_lowercase}
use Rattle.std.specs.Str.{IsAscii, IsUtf8}
use Rattle.std.proofs.lemmas.Str.{IsUtf8-from_ascii}
use Rattle.std.proofs.lemmas.Str.Ascii.{lowercase-lowercase, lowercase_ascii, IsAscii-map}

pub lowered-lowered : (bs : List ℕ) → map to_ascii_lowercase (map to_ascii_lowercase bs) ≡ map to_ascii_lowercase bs
lowered-lowered [] = refl
lowered-lowered (b ∷ bs) = rw (lowercase-lowercase b, lowered-lowered bs) refl

-- a lowered ASCII text is a text
pub lowered_utf8 : (bs : List ℕ) → IsAscii bs → IsUtf8 (map to_ascii_lowercase bs)
lowered_utf8 bs ascii = IsUtf8-from_ascii (map to_ascii_lowercase bs) (IsAscii-map to_ascii_lowercase bs lowercase_ascii ascii)
