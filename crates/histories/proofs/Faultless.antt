-- Where a free node has no fault, its pairs gain what flows in, and the lines through them are its lines in the record.
use Rattle.std.proofs.Common.{◌≡◌, ℕ, zero, suc, ◌+◌, ◌^◌, ◌<◌, ◌≤◌, Bool, true, false, ◌&&◌, max, refl, sym, ap, ◌∙◌, arith, ◌+ℤ◌, ◌-ℤ◌, unsigned_abs}
use Rattle.std.specs.Prelude.{◌==◌}
use Rattle.std.specs.Ordering.{int_eq}
use Rattle.std.proofs.lemmas.Bool.{and_parts, eqb-true, lt-ltb}
use Rattle.std.proofs.lemmas.Bool.Decides.{Decides-int_eq}
use Rattle.semantics.specs.Deck.{Name, DeckValue, capacity}
use Rattle.semantics.specs.Neighbours.{is_free}
use Rattle.semantics.specs.Record.{Record, follows, is_fault, record_current, record_voltages}
use Rattle.semantics.specs.RecordWave.{record_begins, record_entry, record_lines, record_rate, record_wave}
use Rattle.semantics.specs.Run.{voltages}
use Rattle.semantics.specs.Valid.{is_valid}
use Rattle.semantics.proofs.Free.{free_held, free_real, free_undriven}
use Rattle.semantics.proofs.Limits.{Held, Limits, limits, node_current_small}
use Rattle.histories.specs.Pairs.{IsSmooth, begins, line_at, lines_below, rate_at, wave_of}
use Rattle.histories.proofs.Waves.{difference, rate_below, step_is, wave_long}

-- a free node at which the record has no fault
record Runs (d : DeckValue) (w : Record) (n : Name) : Type 0 where
  valid : is_valid d ≡ true
  free : is_free d n ≡ true
  faultless : (t : ℕ) → is_fault d w n t ≡ false

follows_at : (d : DeckValue) (w : Record) (n : Name) (t : ℕ) → Runs d w n → t < d.stop → follows d w n t ≡ true
unfolding is_fault
follows_at d w n t r h = by (follows d w n t) refl
  where
    by : (b : Bool) → follows d w n t ≡ b → follows d w n t ≡ true
    by true is = is
    by false is = absurd (let no = rw (r.free, lt-ltb t d.stop h, is) at (r.faultless t) in no_fault no)
      where
        no_fault : true ≡ false → ⊥
        no_fault e = cc

record IsStep (d : DeckValue) (w : Record) (n : Name) (t : ℕ) : Type 0 where
  den : (w n t).den ≡ capacity d n
  next_den : (w n (suc t)).den ≡ capacity d n
  num : (w n (suc t)).num ≡ (w n t).num +ℤ record_current d w t n

step_at : (d : DeckValue) (w : Record) (n : Name) (t : ℕ) → Runs d w n → t < d.stop → IsStep d w n t
unfolding follows
step_at d w n t r h =
    let one = and_parts ((w n t).den == capacity d n) (((w n (suc t)).den == capacity d n) && int_eq (w n (suc t)).num ((w n t).num +ℤ record_current d w t n)) (follows_at d w n t r h) in
    let two = and_parts ((w n (suc t)).den == capacity d n) (int_eq (w n (suc t)).num ((w n t).num +ℤ record_current d w t n)) one.1 in
    record {
      den = eqb-true (w n t).den (capacity d n) one.0;
      next_den = eqb-true (w n (suc t)).den (capacity d n) two.0;
      num = (Decides-int_eq (w n (suc t)).num ((w n t).num +ℤ record_current d w t n)).0 two.1;
    }

current_small : (d : DeckValue) (w : Record) (n : Name) (t : ℕ) → Runs d w n → unsigned_abs (record_current d w t n) ≤ 10 ^ 15
current_small d w n t r =
    let l : Limits d = limits d r.valid in
    let held : Held d n = free_held d l n r.free in
    let ends = held.ends in
    let small = node_current_small d (record_voltages d w t) n l in
    omega (arith, small, ends)

next_is : (t : ℕ) → t + 1 ≡ suc t
next_is t = omega arith

smooth_at : (d : DeckValue) (w : Record) (n : Name) (t : ℕ) → Runs d w n → t < d.stop → ((w n (t + 1)).den ≡ (w n t).den) × ((w n (t + 1)).num -ℤ (w n t).num ≡ record_current d w t n)
smooth_at d w n t r h =
    let s = step_at d w n t r h in
    rw (next_is t) (s.next_den ∙ sym s.den, difference (w n t).num (w n (suc t)).num (record_current d w t n) s.num)

pub smooth : (d : DeckValue) (w : Record) (n : Name) → is_valid d ≡ true → is_free d n ≡ true → ((t : ℕ) → is_fault d w n t ≡ false) → IsSmooth (w n) d.stop
smooth d w n valid free faultless =
    let r : Runs d w n = record { valid = valid; free = free; faultless = faultless } in
    record {
      den = λ t h. (smooth_at d w n t r h).0;
      step = λ t h. rw (smooth_at d w n t r h).1 (current_small d w n t r);
    }

-- ---- lines

voltage_free : (d : DeckValue) (w : Record) (n : Name) (t : ℕ) → is_free d n ≡ true → record_voltages d w t n ≡ w n t
unfolding voltages
voltage_free d w n t free = rw (free_real d n free, free_undriven d n free) refl

rate_free : (d : DeckValue) (w : Record) (n : Name) (t : ℕ) → is_free d n ≡ true → record_rate d w t n ≡ record_current d w t n
unfolding record_rate
rate_free d w n t free = rw (free_undriven d n free, record_rate) refl

rate_same : (d : DeckValue) (w : Record) (n : Name) (t : ℕ) → Runs d w n → t < d.stop → rate_at (w n) d.stop t ≡ record_rate d w t n
rate_same d w n t r h =
    let s = smooth_at d w n t r h in
    rate_below (w n) d.stop t h ∙ step_is (w n t) (w n (t + 1)) s.0 (rw s.1 (current_small d w n t r)) ∙ s.1 ∙ sym (rate_free d w n t r.free)

entry_same : (d : DeckValue) (w : Record) (n : Name) (t : ℕ) → Runs d w n → t < d.stop → line_at (w n) d.stop t ≡ record_entry d w t n
unfolding line_at record_entry
entry_same d w n t r h = rw (voltage_free d w n t r.free, rate_same d w n t r h) refl

begins_same : (d : DeckValue) (w : Record) (n : Name) (t : ℕ) → Runs d w n → t < d.stop → begins (w n) d.stop t ≡ record_begins d w t n
unfolding begins record_begins
begins_same d w n zero r h = refl
begins_same d w n (suc t) r h = rw (entry_same d w n t r (omega (arith, h)), entry_same d w n (suc t) r h) refl

lines_same : (d : DeckValue) (w : Record) (n : Name) (t : ℕ) → Runs d w n → t ≤ d.stop → lines_below (w n) d.stop t ≡ record_lines d w t n
unfolding lines_below record_lines
lines_same d w n zero r h = refl
lines_same d w n (suc t) r h = rw (lines_same d w n t r (omega (arith, h)), begins_same d w n t r (omega (arith, h)), entry_same d w n t r (omega (arith, h))) refl

wave_is : (d : DeckValue) (w : Record) (n : Name) → 0 < d.stop → record_wave d w n ≡ record_lines d w d.stop n
unfolding record_wave
wave_is d w n h = let e : max 1 d.stop ≡ d.stop = omega (arith, h) in ap (λ t. record_lines d w t n) e

pub wave_same : (d : DeckValue) (w : Record) (n : Name) → is_valid d ≡ true → is_free d n ≡ true → ((t : ℕ) → is_fault d w n t ≡ false) → 0 < d.stop → wave_of (w n) d.stop ≡ record_wave d w n
wave_same d w n valid free faultless h =
    let r : Runs d w n = record { valid = valid; free = free; faultless = faultless } in
    wave_long (w n) d.stop h ∙ lines_same d w n d.stop r (omega arith) ∙ sym (wave_is d w n h)
