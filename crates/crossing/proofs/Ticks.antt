-- From how long the voltage stays in a cell to the tick at which it leaves it.
use Rattle.std.proofs.Common.{◌≡◌, ◌↔◌, ℕ, ◌+◌, ◌-◌, ◌<◌, ◌≤◌, List, ℤ, Some, None, inl, inr, sym, ap, ◌∙◌, add_assoc, arith}
use Rattle.std.proofs.lemmas.Bool.{cases_lt}
use Rattle.semantics.specs.declared.line.Line.{Line}
use Rattle.semantics.specs.Grid.{cell, difference}
use Rattle.crossing.specs.declared.gap.Gap.{Gap}
use Rattle.crossing.specs.Gaps.{after, cell_after}
use Rattle.node_ramps.specs.Lines.{voltage}
use Rattle.crossing.specs.Crossing.{cell_at, IsLeastCrossing}

-- no tick up to the end has another cell
pub crosses_never : (grid : List ℤ) (a b : Line) (now end : ℕ) → ((k : ℕ) → now + k ≤ end → cell_at grid a b (now + k) ≡ cell_at grid a b now) → IsLeastCrossing grid a b now end None
crosses_never grid a b now end stays tick crossing =
    let again : now + (tick - now) ≡ tick = omega (arith, crossing.later) in
    crossing.other_cell (rw again at (stays (tick - now) (omega (arith, crossing.later, crossing.by_end))))

-- it has the same cell for so many ticks, and another one after them
pub crosses_after : (grid : List ℤ) (a b : Line) (now end ticks : ℕ) → ((k : ℕ) → (cell_at grid a b (now + k) ≡ cell_at grid a b now) ↔ (k ≤ ticks)) → ticks < end - now → IsLeastCrossing grid a b now end (Some (now + ticks + 1))
crosses_after grid a b now end ticks stays h = (
  record {
    later = omega arith;
    by_end = omega (arith, h);
    other_cell = λ e. let more : ticks + 1 ≤ ticks = (stays (ticks + 1)).0 (rw add_assoc at e) in absurd (omega (arith, more));
  },
  λ tick crossing. elim (cases_lt (tick - now) (ticks + 1)) [
    | inl few ↦ absurd (crosses_never grid a b now tick (λ k near. (stays k).1 (omega (arith, few, near))) tick (record { later = crossing.later; by_end = omega arith; other_cell = crossing.other_cell }))
    | inr many ↦ omega (arith, many, crossing.later)
  ],
)

-- what a gap tells of its two lines
pub of_lines : (grid : List ℤ) (a b : Line) (now : ℕ) (gap : Gap) (c : ℕ) → ((k : ℕ) → after gap k ≡ difference (voltage a (now + k)) (voltage b (now + k))) → c ≡ cell_at grid a b now →
    (k : ℕ) → (cell_after grid gap k ≡ c) ↔ (cell_at grid a b (now + k) ≡ cell_at grid a b now)
of_lines grid a b now gap c moves c_is k =
    let same : cell_after grid gap k ≡ cell_at grid a b (now + k) = ap (cell grid) (moves k) in
    (λ e. sym same ∙ e ∙ c_is, λ e. same ∙ e ∙ sym c_is)
