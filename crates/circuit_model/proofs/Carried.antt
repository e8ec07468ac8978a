-- A wave has at each tick of the run the voltage of its node.
use Rattle.std.proofs.Common.{◌≡◌, ℕ, suc, zero, ◌-◌, ◌<◌, ◌≤◌, Bool, true, false, if◌then◌else◌, List, [], ◌∷◌, ◌++◌, Option, Some, None, refl, sym, ◌∙◌, ap, arith, ℤ, pos, ◌+ℤ◌, ◌*ℤ◌, subst, inl, ◌-ℤ◌}
use Rattle.std.specs.Prelude.{nat_le, nat_lt, max, ◌==◌, MatchOption}
use Rattle.std.specs.Option.{option_or}
use Rattle.std.specs.Ordering.{int_eq}
use Rattle.std.proofs.Math.IntN.{*ℤ-zero}
use Rattle.std.proofs.lemmas.Bool.{cond-true, cond-false, cond_both, and_parts, eqb-true, ltb-true, ltb-false}
use Rattle.std.proofs.lemmas.Bool.Decides.{Decides-int_eq}
use Rattle.std.proofs.lemmas.Int.{ints}
use Rattle.std.proofs.lemmas.List.{append-nil}
use Rattle.semantics.specs.declared.fraction.Fraction.{Fraction}
use Rattle.semantics.specs.declared.line.Line.{Line}
use Rattle.semantics.specs.Ground.{is_ground}
use Rattle.semantics.specs.Deck.{DeckValue, driver}
use Rattle.semantics.specs.Grid.{difference}
use Rattle.semantics.specs.Source.{pair_at, slope_at}
use Rattle.semantics.specs.Run.{run}
use Rattle.semantics.specs.Wave.{rate, entry, goes_on, begins, entries_below, wave}
use Rattle.semantics.proofs.Limits.{Limits, driver_source, run_driven}
use Rattle.semantics.proofs.Steps.{run_next_free, rate_driven}
use Rattle.node_ramps.specs.Lines.{voltage}
use Rattle.circuit_model.specs.Carried.{voltage_at, HasVoltage}
use Rattle.circuit_model.proofs.Entries.{entries_first, entries_step}
use Rattle.circuit_model.proofs.Slopes.{Follows, follows_is, follows_at, follows_signed, gained, met, one_more}
use Rattle.circuit_model.proofs.Sources.{limited}

-- ---- a node from one tick to the next

-- a node follows its rate
run_follows : (d : DeckValue) (t : ℕ) (n : List ℕ) → Limits d → is_ground n ≡ false → Follows (run d t n) (rate d t n) (run d (suc t) n)
run_follows d t n l real = by (driver d n) refl
  where
    by : (o : Option (List (ℕ × ℤ) × Bool)) → driver d n ≡ o → Follows (run d t n) (rate d t n) (run d (suc t) n)
    by None free = subst (λ w. Follows (run d t n) (rate d t n) w) (sym (run_next_free d t n real free)) (inl (refl, refl))
    by (Some s) driven =
        let source = limited s.0 (driver_source d n s l driven) in
        follows_is _ _ _ _ _ _ (run_driven d t n s real driven) (rate_driven d t n s driven) (run_driven d (suc t) n s real driven)
        (follows_signed s.1 (pair_at s.0 t) (slope_at s.0 t) (pair_at s.0 (suc t)) (follows_at s.0 t source.rising))

-- ---- the voltage of lines

voltage_at-push : (lines : List Line) (l : Line) (u : ℕ) → voltage_at (lines ++ l ∷ []) u ≡ (if nat_le l.start u then Some (voltage l u) else voltage_at lines u)
unfolding voltage_at
voltage_at-push [] l u = refl
voltage_at-push (m ∷ lines) l u = ap (λ o. option_or o (if nat_le m.start u then Some (voltage m u) else None)) (voltage_at-push lines l u) ∙ by (nat_le l.start u)
  where
    by : (b : Bool)
        → option_or (if b then Some (voltage l u) else voltage_at lines u) (if nat_le m.start u then Some (voltage m u) else None)
        ≡ (if b then Some (voltage l u) else option_or (voltage_at lines u) (if nat_le m.start u then Some (voltage m u) else None))
    by true = refl
    by false = refl

-- the last of these lines is that of the run at this tick, and holds from here on
record IsInForce (d : DeckValue) (t : ℕ) (n : List ℕ) (lines : List Line) : Type 0 where
  line : Line
  started : line.start ≤ t
  rate_is : line.rate ≡ rate d t n
  voltage_is : voltage line t ≡ run d t n
  at : (u : ℕ) → t ≤ u → voltage_at lines u ≡ Some (voltage line u)

no_time : (z x : ℤ) (t : ℕ) → z +ℤ (x *ℤ pos (t - t)) ≡ z
no_time z x t =
    let none : t - t ≡ 0 = omega arith in
    (λ i. z +ℤ (x *ℤ pos (none i))) ∙ omega (arith, ints, *ℤ-zero x)

-- a line that begins
in_force-begins : (d : DeckValue) (t : ℕ) (n : List ℕ) (lines : List Line) → IsInForce d t n (lines ++ entry d t n ∷ [])
unfolding entry
in_force-begins d t n lines = record {
  line = entry d t n;
  started = omega arith;
  rate_is = refl;
  voltage_is = λ i. record { num = no_time (run d t n).num (rate d t n) t i; den = (run d t n).den };
  at = λ u after. voltage_at-push lines (entry d t n) u ∙ cond-true (nat_le t u) (Some (voltage (entry d t n) u)) (voltage_at lines u) (leb t u after);
}
  where
    leb : (a b : ℕ) → a ≤ b → nat_le a b ≡ true
    leb a b h = grind (arith, h)

longer : (z x : ℤ) (t start : ℕ) → start ≤ t → z +ℤ (x *ℤ pos (suc t - start)) ≡ (z +ℤ (x *ℤ pos (t - start))) +ℤ x
longer z x t start before =
    let more : suc t - start ≡ suc (t - start) = omega (arith, before) in
    (λ i. z +ℤ (x *ℤ pos (more i))) ∙ omega (arith, ints, one_more x (t - start))

-- a line that goes on
in_force-goes_on : (d : DeckValue) (t : ℕ) (n : List ℕ) (lines : List Line) → Limits d → is_ground n ≡ false → goes_on (entry d t n) (entry d (suc t) n) ≡ true
    → IsInForce d t n lines → IsInForce d (suc t) n lines
unfolding entry
in_force-goes_on d t n lines l real on f =
    let parts = and_parts (int_eq (rate d (suc t) n) (rate d t n)) ((run d (suc t) n).den == (run d t n).den) on in
    let rates : rate d (suc t) n ≡ rate d t n = (Decides-int_eq (rate d (suc t) n) (rate d t n)).0 parts.0 in
    let dens : (run d (suc t) n).den ≡ (run d t n).den = eqb-true (run d (suc t) n).den (run d t n).den parts.1 in
    let num : (voltage f.line (suc t)).num ≡ (run d (suc t) n).num =
    longer f.line.num f.line.rate t f.line.start f.started
    ∙ (λ i. (f.voltage_is i).num +ℤ f.rate_is i)
    ∙ sym (gained (run d t n) (rate d t n) (run d (suc t) n) (run_follows d t n l real) dens) in
    let den : f.line.den ≡ (run d (suc t) n).den = ap (λ (v : Fraction). v.den) f.voltage_is ∙ sym dens in
    record {
      line = f.line;
      started = omega (arith, f.started);
      rate_is = f.rate_is ∙ sym rates;
      voltage_is = λ i. record { num = num i; den = den i };
      at = λ u after. f.at u (omega (arith, after));
    }

in_force : (d : DeckValue) (t : ℕ) (n : List ℕ) → Limits d → is_ground n ≡ false → IsInForce d t n (entries_below d (suc t) n)
in_force d zero n l real = rw (entries_first d n) (in_force-begins d 0 n [])
in_force d (suc t) n l real = rw (entries_step d t n)
    (cond_both (goes_on (entry d t n) (entry d (suc t) n)) (entries_below d (suc t) n) (entries_below d (suc t) n ++ entry d (suc t) n ∷ []) (λ xs. IsInForce d (suc t) n xs)
    (λ on. in_force-goes_on d t n (entries_below d (suc t) n) l real on (in_force d t n l real))
    (λ _. in_force-begins d (suc t) n (entries_below d (suc t) n)))

-- ---- lines that begin later

later_one : (d : DeckValue) (n : List ℕ) (t m : ℕ) (b : Bool) → t < m → voltage_at (entries_below d m n ++ (if b then entry d m n ∷ [] else [])) t ≡ voltage_at (entries_below d m n) t
unfolding entry
later_one d n t m true ahead =
    voltage_at-push (entries_below d m n) (entry d m n) t ∙ cond-false (nat_le m t) (Some (voltage (entry d m n) t)) (voltage_at (entries_below d m n) t) (above m t ahead)
  where
    above : (a b : ℕ) → b < a → nat_le a b ≡ false
    above a b h = grind (arith, h)
later_one d n t m false ahead = ap (λ xs. voltage_at xs t) (append-nil (entries_below d m n))

not_yet : (d : DeckValue) (n : List ℕ) (t m : ℕ) → t < m → voltage_at (entries_below d m n) t ≡ voltage_at (entries_below d (suc t) n) t
unfolding entries_below
not_yet d n t zero ahead = absurd (omega arith)
not_yet d n t (suc m) ahead = by (λ h. not_yet d n t m h) (nat_lt t m) refl
  where
    by : (t < m → voltage_at (entries_below d m n) t ≡ voltage_at (entries_below d (suc t) n) t) → (b : Bool) → nat_lt t m ≡ b
        → voltage_at (entries_below d (suc m) n) t ≡ voltage_at (entries_below d (suc t) n) t
    by rest true is = later_one d n t m (begins d m n) (ltb-true t m is) ∙ rest (ltb-true t m is)
    by rest false is = let same : m ≡ t = omega (arith, ltb-false t m is) in ap (λ k. voltage_at (entries_below d (suc k) n) t) same

-- ---- the wave

-- below the stop a wave has the numerator and the denominator of its node
carried_below : (d : DeckValue) (n : List ℕ) (t : ℕ) → Limits d → is_ground n ≡ false → t < max 1 d.stop → voltage_at (wave d n) t ≡ Some (run d t n)
unfolding wave
carried_below d n t l real before =
    let f = in_force d t n l real in
    not_yet d n t (max 1 d.stop) before ∙ f.at t (omega arith) ∙ ap Some f.voltage_is

-- at the stop the line in force before it has gone on for a tick
stopped : (d : DeckValue) (n : List ℕ) (t : ℕ) → Limits d → is_ground n ≡ false → d.stop ≡ suc t
    → voltage_at (wave d n) (suc t) ≡ Some (record { num = (run d t n).num +ℤ rate d t n; den = (run d t n).den })
unfolding wave
stopped d n t l real end =
    let f = in_force d t n l real in
    let all : max 1 d.stop ≡ suc t = omega (arith, end) in
    let num : (voltage f.line (suc t)).num ≡ (run d t n).num +ℤ rate d t n =
    longer f.line.num f.line.rate t f.line.start f.started ∙ (λ i. (f.voltage_is i).num +ℤ f.rate_is i) in
    ap (λ m. voltage_at (entries_below d m n) (suc t)) all ∙ f.at (suc t) (omega arith) ∙ (λ i. Some (record { num = num i; den = (f.voltage_is i).den }))

none_apart : (x : ℤ) → x -ℤ x ≡ pos 0
none_apart x = omega (arith, ints)

no_difference : (v : Fraction) → (difference v v).num ≡ pos 0
no_difference v = none_apart (v.num *ℤ pos v.den)

has_voltage : (lines : List Line) (t : ℕ) (v w : Fraction) → voltage_at lines t ≡ Some w → (difference w v).num ≡ pos 0 → HasVoltage lines t v
has_voltage lines t v w at same = subst (λ o. MatchOption o ⊥ (λ u. (difference u v).num ≡ pos 0)) (sym at) same

-- up to the stop a wave has the voltage of its node
pub carried : (d : DeckValue) (n : List ℕ) (t : ℕ) → Limits d → is_ground n ≡ false → t ≤ d.stop → HasVoltage (wave d n) t (run d t n)
carried d n zero l real up_to = has_voltage (wave d n) 0 (run d 0 n) (run d 0 n) (carried_below d n 0 l real (omega arith)) (no_difference (run d 0 n))
carried d n (suc t) l real up_to = by (nat_lt (suc t) d.stop) refl
  where
    by : (b : Bool) → nat_lt (suc t) d.stop ≡ b → HasVoltage (wave d n) (suc t) (run d (suc t) n)
    by true is =
        let before : suc t < d.stop = ltb-true (suc t) d.stop is in
        has_voltage (wave d n) (suc t) (run d (suc t) n) (run d (suc t) n) (carried_below d n (suc t) l real (omega (arith, before))) (no_difference (run d (suc t) n))
    by false is =
        let end : d.stop ≡ suc t = omega (arith, up_to, ltb-false (suc t) d.stop is) in
        let same = met (run d t n) (rate d t n) (run d (suc t) n) (run_follows d t n l real) in
        has_voltage (wave d n) (suc t) (run d (suc t) n) _ (stopped d n t l real end)
        (ap (λ x. x -ℤ ((run d (suc t) n).num *ℤ pos (run d t n).den)) same ∙ none_apart ((run d (suc t) n).num *ℤ pos (run d t n).den))
