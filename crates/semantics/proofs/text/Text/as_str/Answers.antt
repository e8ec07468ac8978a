use Rattle.std.proofs.Common.{subst}
use Rattle.std.proofs.lemmas.Str.{IsUtf8-had}
use Rattle.semantics.specs.Held.{IsText}
use Rattle.semantics.proofs.text.Text.as_str.Goals as goal

-- a text is UTF-8
pub unreachable-requires : goal.unreachable-requires
unreachable-requires c = c.in-Err.ensures.cases.0 (IsUtf8-had _ (subst IsText c.in-Short.is c.self.invariant).1)
