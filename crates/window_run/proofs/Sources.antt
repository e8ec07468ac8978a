-- Driven nodes: the line of a source up to where it turns.
use Rattle.std.proofs.Common.{◌≡◌, ℕ, ◌<◌, ◌≤◌, Bool, true, false, eqb, List, Option, Some, None, refl, sym, ap, ◌∙◌, arith, ℤ, pos}
use Rattle.std.specs.Prelude.{◌==◌, ◌&&◌}
use Rattle.std.specs.Ordering.{int_eq}
use Rattle.std.proofs.lemmas.Bool.{eq-eqb, false≢true}
use Rattle.std.proofs.lemmas.Bool.Decides.{Decides-int_eq}
use Rattle.semantics.specs.declared.line.Line.{Line}
use Rattle.semantics.specs.Deck.{DeckValue, driver}
use Rattle.semantics.specs.Wave.{goes_on}
use Rattle.node_ramps.specs.Lines.{turned}
use Rattle.circuit_model.specs.declared.node_kind.NodeKind.{NodeKind}
use Rattle.circuit_model.specs.declared.node_kind.NodeKind.TheVariants.{Absent, Driven, Free}
use Rattle.circuit_model.specs.Drive.{IsNextTurn, course, drive_of, signed_line}
use Rattle.window_run.specs.Circuit.{is_driven_kind, is_free_kind}
use Rattle.window_run.specs.Stage.{Before, IsTrusted}
use Rattle.window_run.proofs.Waiting.{no_tick, same_tick}

pub driven_kind : (k : NodeKind) → is_driven_kind k ≡ true → k ≡ Driven
driven_kind Driven e = refl
driven_kind Free e = absurd (false≢true e)
driven_kind Absent e = absurd (false≢true e)

pub free_kind : (k : NodeKind) → is_free_kind k ≡ true → k ≡ Free
free_kind Free e = refl
free_kind Driven e = absurd (false≢true e)
free_kind Absent e = absurd (false≢true e)

pub drive_start : (d : DeckValue) (n : List ℕ) (t : ℕ) → (drive_of d n t).start ≡ t
unfolding drive_of course
drive_start d n t = by (driver d n)
  where
    by : (o : Option (List (ℕ × ℤ) × Bool)) → (elim o as (λ _. Line) [ None ↦ record { start = t; num = pos 0; rate = pos 0; den = 1 } | Some s ↦ signed_line s.1 (course s.0 t) ]).start ≡ t
    by None = refl
    by (Some s) = refl

same_goes_on : (l : Line) (t : ℕ) → goes_on l (turned l t l.rate) ≡ true
same_goes_on l t = rw ((Decides-int_eq l.rate l.rate).1 refl, eq-eqb l.den l.den refl) refl

pub trusted : (line : ℕ → Line) (stop now end : ℕ) (next : Option ℕ) → end ≤ stop → IsNextTurn line stop now next → IsTrusted line (line now) now end next
trusted line stop now end None h is = record {
  has = λ s from upto early. is s from (omega (arith, upto, h));
  bends = λ t e. absurd (no_tick t e);
}
trusted line stop now end (Some p) h is = record {
  has = λ s from upto early. is.stays s from (early p refl);
  bends = λ t e same. false≢true (sym is.turns ∙ ap (λ (m : Line). goes_on (line now) m) (ap line (same_tick p t e) ∙ same) ∙ same_goes_on (line now) t);
}

pub later : (line : ℕ → Line) (stop now : ℕ) (next : Option ℕ) → IsNextTurn line stop now next → Before now next
later line stop now None is = λ d e. absurd (no_tick d e)
later line stop now (Some p) is = λ d e. let same = same_tick p d e in let h = is.later in omega (arith, same, h)
