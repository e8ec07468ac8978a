-- The lines of nodes, and how long they have their voltages.
use Rattle.std.proofs.Common.{◌≡◌, ℕ, ◌+◌, ◌<◌, ◌≤◌, ◌^◌, Bool, List, Option, Some, None, refl, sym, ap, ◌∙◌, arith, ℤ}
use Rattle.std.specs.Prelude.{unwrap_or}
use Rattle.semantics.specs.declared.fraction.Fraction.{Fraction}
use Rattle.semantics.specs.declared.line.Line.{Line}
use Rattle.semantics.specs.Deck.{DeckValue, driver}
use Rattle.semantics.proofs.Limits.{limits}
use Rattle.semantics.proofs.Neighbours.{driven_pair}
use Rattle.node_ramps.specs.Lines.{InBounds, voltage}
use Rattle.circuit_model.specs.declared.node_kind.NodeKind.TheVariants.{Driven, Free}
use Rattle.circuit_model.specs.Drive.{IsNextTurn, StaysTo, course, drive_of}
use Rattle.circuit_model.specs.Numbers.{CircuitValue, kind_at, name_at}
use Rattle.circuit_model.proofs.Turns.{drive_is}
use Rattle.histories.specs.Pairs.{IsEnd, line_at}
use Rattle.histories.specs.Record.{RecordValue, pair_at}
use Rattle.histories.specs.Track.{IsBounded}
use Rattle.histories.proofs.Places.{in_bounds}
use Rattle.fault_sweep.specs.declared.course.Course.{Course}
use Rattle.fault_sweep.specs.Records.{IsBasis}
use Rattle.fault_sweep.specs.Stretches.{IsCourse}
use Rattle.fault_sweep.proofs.Nodes.{driven_by, volts_driven, volts_free}

-- ---- driven nodes

starts_now : (d : DeckValue) (n : List ℕ) (t : ℕ) (s : List (ℕ × ℤ) × Bool) → driver d n ≡ Some s → (drive_of d n t).start ≡ t
unfolding course
starts_now d n t s is = ap (λ (l : Line). l.start) (drive_is d n t s is)

pair_driven : (d : DeckValue) (n : List ℕ) (t : ℕ) (s : List (ℕ × ℤ) × Bool) → driver d n ≡ Some s → driven_pair s t ≡ record { num = (drive_of d n t).num; den = (drive_of d n t).den }
unfolding course
pair_driven d n t s is = rw (drive_is d n t s is) refl

-- up to before the next turn the line is in force
in_force : (line : ℕ → Line) (stop now : ℕ) (next : Option ℕ) → IsNextTurn line stop now next → (t : ℕ) → now ≤ t → t < unwrap_or next (stop + 1) → StaysTo line now t
in_force line stop now None never t after before = never t after (omega arith)
in_force line stop now (Some next) turn t after before = turn.stays t after before

turn_later : (line : ℕ → Line) (stop now : ℕ) (next : Option ℕ) → now ≤ stop → IsNextTurn line stop now next → (now < unwrap_or next (stop + 1)) × (unwrap_or next (stop + 1) ≤ stop + 1)
turn_later line stop now None early never = (omega arith, omega arith)
turn_later line stop now (Some next) early turn = (turn.later, omega (arith, turn.up_to))

pub driven_course : (c : CircuitValue) (h : RecordValue) (node now : ℕ) (next : Option ℕ) (way : Course) → IsBasis c h → kind_at c node ≡ Driven → now ≤ c.deck.stop
    → way.line ≡ drive_of c.deck (name_at c node) now → IsNextTurn (drive_of c.deck (name_at c node)) c.deck.stop now next → way.until ≡ unwrap_or next (c.deck.stop + 1)
    → ((t : ℕ) → now ≤ t → t ≤ 10 ^ 10 → InBounds way.line t) → IsCourse c h (Some node) now way
driven_course c h node now next way basis driven early line turn until bounds = at (driven_by c node driven)
  where
    n : List ℕ
    n = name_at c node

    at : (s : List (ℕ × ℤ) × Bool) × (driver c.deck n ≡ Some s) → IsCourse c h (Some node) now way
    at by =
        let s : List (ℕ × ℤ) × Bool = by.0 in
        let ahead = turn_later (drive_of c.deck n) c.deck.stop now next early turn in
        let stop = (limits c.deck basis.valid).stop in
        record {
          running = record {
            later = rw until ahead.0;
            starts = ap (λ (l : Line). l.start) line ∙ starts_now c.deck n now s by.1;
            bounds = λ t after before. bounds t after (omega (arith, before, until, ahead.1, stop));
          };
          by_stop = rw until ahead.1;
          has = λ t after before.
              let stays : StaysTo (drive_of c.deck n) now t = in_force (drive_of c.deck n) c.deck.stop now next turn t after (rw until at before) in
              volts_driven c h basis node t s driven by.1 ∙ pair_driven c.deck n t s by.1 ∙ (λ i. record { num = (stays i).num; den = (stays i).den }) ∙ ap (λ (l : Line). voltage l t) (sym line);
        }

-- ---- free nodes

pub line_starts : (p : ℕ → Fraction) (stop now : ℕ) → (line_at p stop now).start ≡ now
unfolding line_at
line_starts p stop now = refl

pub free_course : (c : CircuitValue) (h : RecordValue) (node now end : ℕ) (way : Course) → IsBasis c h → kind_at c node ≡ Free
    → way.line ≡ line_at (pair_at h node) h.stop now → IsBounded way.line → IsEnd (pair_at h node) h.stop (line_at (pair_at h node) h.stop now) end → way.until ≡ end + 1 → IsCourse c h (Some node) now way
free_course c h node now end way basis free line bounded is until =
    let start : (line_at (pair_at h node) h.stop now).start ≡ now = line_starts (pair_at h node) h.stop now in
    let first : way.line.start ≡ now = ap (λ (l : Line). l.start) line ∙ start in
    let limit = (limits c.deck basis.valid).stop in
    record {
      running = record {
        later = omega (arith, until, is.from_start, start);
        starts = first;
        bounds = λ t after before. in_bounds way.line t bounded (omega (arith, first, after)) (omega (arith, before, until, is.by_stop, basis.recorded.stop, limit));
      };
      by_stop = omega (arith, until, is.by_stop, basis.recorded.stop);
      has = λ t after before. volts_free c h basis node t free ∙ is.has t (omega (arith, start, after)) (omega (arith, before, until)) ∙ ap (λ (l : Line). voltage l t) (sym line);
    }
