-- What is true of pairs is true of others that are the same from one tick to another.
use Rattle.std.proofs.Common.{◌≡◌, ℕ, zero, suc, ◌+◌, ◌<◌, ◌≤◌, Bool, true, false, Some, None, refl, sym, ap, ◌∙◌, arith, ⊎_elim, inl, inr}
use Rattle.std.specs.Prelude.{◌⊎◌}
use Rattle.semantics.specs.declared.fraction.Fraction.{Fraction}
use Rattle.window_run.specs.Net.{Bends, Changes, End, HasEventTicks, IsEventTick, IsNet, IsRun, Net, cells_in, charged, current_at, volts}
use Rattle.window_run.proofs.Flows.{same_flows}
use Rattle.window_run.proofs.Runs.{same_cells}

abbrev pub SameFrom : Net → (ℕ → ℕ → Fraction) → (ℕ → ℕ → Fraction) → ℕ → ℕ → Type 0
SameFrom net x y from until = (i s : ℕ) → net.free i ≡ true → from ≤ s → s ≤ until → x i s ≡ y i s

volts_same : (net : Net) (x y : ℕ → ℕ → Fraction) (s : ℕ) → ((i : ℕ) → net.free i ≡ true → x i s ≡ y i s) → (e : End) → volts net x s e ≡ volts net y s e
volts_same net x y s same None = refl
volts_same net x y s same (Some i) = by (net.free i) refl
  where
    by : (b : Bool) → net.free i ≡ b → volts net x s (Some i) ≡ volts net y s (Some i)
    by true free = rw free (same i free)
    by false free = rw free refl

cells_same : (net : Net) (x y : ℕ → ℕ → Fraction) (s k : ℕ) → ((i : ℕ) → net.free i ≡ true → x i s ≡ y i s) → cells_in net (volts net x s) k ≡ cells_in net (volts net y s) k
cells_same net x y s k same =
    let at = volts_same net x y s same in
    same_cells net (volts net x s) (volts net y s) k (at (net.first k)) (at (net.second k)) (at (net.gate k))

pub current_same : (net : Net) (x y : ℕ → ℕ → Fraction) (from until s i : ℕ) → SameFrom net x y from until → from ≤ s → s ≤ until → current_at net x s i ≡ current_at net y s i
current_same net x y from until s i same low high = same_flows net i (λ k. net.amps k (cells_in net (volts net x s) k)) (λ k. net.amps k (cells_in net (volts net y s) k)) net.devices
    (λ k below. ap (net.amps k) (cells_same net x y s k (λ j f. same j s f low high)))

pub run_same : (net : Net) (x y : ℕ → ℕ → Fraction) (from until : ℕ) → SameFrom net x y from until → IsRun net y from until → IsRun net x from until
run_same net x y from until same run = λ i s inside free h early.
    let flow : current_at net y s i ≡ current_at net x s i = sym (current_same net x y from until s i same h (omega (arith, early))) in
    same i (s + 1) free (omega (arith, h)) (omega (arith, early)) ∙ run i s inside free h early
    ∙ ap (λ z. charged (y i s) z) flow
    ∙ ap (λ (v : Fraction). charged v (current_at net x s i)) (sym (same i s free h (omega (arith, early))))

event_same : (net : Net) (x y : ℕ → ℕ → Fraction) (from until t : ℕ) → SameFrom net x y from until → t ≤ until → IsEventTick net y from t → IsEventTick net x from t
event_same net x y from until t same h event = ⊎_elim
    (λ (e : t ≡ from). inl e)
    (λ (later : (from < t) × (Changes net y t ⊎ Bends net t)). inr (
      later.0,
      ⊎_elim
          (λ (c : Changes net y t). inl (record {
            device = c.device;
            inside = c.inside;
            before = c.before;
            next = c.next;
            other = λ equal. c.other (
                sym (cells_same net x y t c.device (λ i f. same i t f (omega (arith, later.0)) h)) ∙ equal
                ∙ cells_same net x y c.before c.device (λ i f. same i c.before f (let n = c.next in omega (arith, n, later.0)) (let n = c.next in omega (arith, n, h))));
          }))
          (λ (b : Bends net t). inr b)
          later.1,
    ))
    event

pub ticks_same : (net : Net) (x y : ℕ → ℕ → Fraction) (from until n below : ℕ) → SameFrom net x y from until → below ≤ until → HasEventTicks net y from n below → HasEventTicks net x from n below
ticks_same net x y from until zero below same h ticks = tt
ticks_same net x y from until (suc n) below same h (t, lower, event, rest) =
    (t, lower, event_same net x y from until t same (omega (arith, lower, h)) event, ticks_same net x y from until n t same (omega (arith, lower, h)) rest)
