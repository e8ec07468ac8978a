-- The bytes of a short text are those lowered.
use Rattle.std.proofs.Common.{◌≡◌, ◌∙◌, ◌++◌, ℕ, List, take, length, map, sym, ap, subst, arith}
use Rattle.std.specs.Char.{to_ascii_lowercase}
use Rattle.std.specs.Str.{IsAscii, IsUtf8}
use Rattle.std.proofs.Math.Seq.{take-append_seam}
use Rattle.std.proofs.lemmas.List.{length-map}
use Rattle.semantics.proofs.Lowered.{lowered_utf8}
use Rattle.semantics.proofs.text.Text.lowered.Goals as goal

front_utf8 : (text copied zeros new rest : List ℕ) → IsAscii text → copied ≡ text → new ≡ map to_ascii_lowercase (take (length text) (copied ++ zeros))
    → ∥ IsUtf8 (take (length text) (new ++ rest)) ∥₁
front_utf8 text copied zeros new rest ascii copy is =
    let lowered : new ≡ map to_ascii_lowercase text =
    is ∙ ap (map to_ascii_lowercase) ((λ i. take (length text) (copy i ++ zeros)) ∙ take-append_seam text zeros) in
    let front : take (length text) (new ++ rest) ≡ map to_ascii_lowercase text =
    (λ i. take (sym (length-map text to_ascii_lowercase) i) (lowered i ++ rest)) ∙ take-append_seam (map to_ascii_lowercase text) rest in
    subst (λ l. ∥ IsUtf8 l ∥₁) (sym front) ∣ lowered_utf8 text ascii ∣₁

pub invariant_of-result-2 : goal.invariant_of-result-2
invariant_of-result-2 c = (omega (arith, c.if-len-gt-MOST.false), front_utf8 c.args.text.now _ _ _ _ c.requires c.copy_from_slice.ensures.after c.make_ascii_lowercase.ensures.after)
