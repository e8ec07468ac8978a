-- What one device of a list adds to what flows into the nodes.
use Rattle.std.proofs.Common.{◌≡◌, ℕ, ◌+◌, ◌<◌, ◌≤◌, List, length, get_or, drop, refl, ◌∙◌, arith, ℤ, pos, ◌+ℤ◌, ◌-ℤ◌, set, cond, eqb, ⊎_elim, Bool, true, false, to_z, of_z}
use mir.Syntax.{w64}
use Rattle.std.proofs.lemmas.List.{drop_more, get_or-set_same, get_or-set_other}
use Rattle.std.proofs.lemmas.Int.{ints}
use Rattle.std.proofs.lemmas.Bool.{cases_eq, eq-eqb, ne_eqb}
use Rattle.circuit_model.specs.declared.ends.Ends.{Ends}
use Rattle.circuit_model.specs.Wiring.{DeviceValue, device_current, inflows, inflow, leads_to}
use Rattle.std.specs.Prelude.{unsigned_abs, ◌*◌, ◌^◌}

-- a number added at one place
pub added_at : (rs : List ℤ) (j i : ℕ) (x z : ℤ) → j < length rs → x ≡ get_or rs j (pos 0) +ℤ z → get_or (set rs j x) i (pos 0) ≡ get_or rs i (pos 0) +ℤ (cond (eqb i j) z (pos 0))
added_at rs j i x z inside is = ⊎_elim
    (λ (e : i ≡ j). rw (eq-eqb i j e, e, get_or-set_same rs j x (pos 0) inside) is)
    (λ n. rw (ne_eqb i j n, get_or-set_other rs j i x (pos 0) n) (omega (arith, ints)))
    (cases_eq i j)

-- a current that flows through a device brings at most its size to a node
pub inflow_small : (i : ℕ) (ends : Ends) (amps : ℤ) → unsigned_abs amps ≤ 10 ^ 12 → unsigned_abs (inflow i ends amps) ≤ 2 * 10 ^ 12
inflow_small i ends amps h = by (leads_to i ends.second) (leads_to i ends.first)
  where
    by : (b c : Bool) → unsigned_abs ((cond b amps (pos 0)) -ℤ (cond c amps (pos 0))) ≤ 2 * 10 ^ 12
    by true true = omega (arith, ints)
    by true false = omega (arith, ints)
    by false true = omega (arith, ints)
    by false false = omega (arith, ints)

-- what the code adds for the two ends of a device
pub through : (first second : Bool) (old between new amps : ℤ) → unsigned_abs amps ≤ 10 ^ 12
    → between ≡ old +ℤ (cond first (to_z w64 (of_z w64 (pos 0 -ℤ to_z w64 (of_z w64 amps)))) (pos 0)) → new ≡ between +ℤ (cond second (to_z w64 (of_z w64 amps)) (pos 0))
    → new ≡ old +ℤ ((cond second amps (pos 0)) -ℤ (cond first amps (pos 0)))
through true true old between new amps small is then = omega (arith, ints)
through true false old between new amps small is then = omega (arith, ints)
through false true old between new amps small is then = omega (arith, ints)
through false false old between new amps small is then = omega (arith, ints)

-- the first device of those that are left, and the others
pub inflows_more : (grain i : ℕ) (devices : List DeviceValue) (cells : List (ℕ × ℕ)) (k : ℕ) (device : DeviceValue) → k < length devices → k < length cells → device ≡ get_or devices k device
    → inflows grain i (drop k devices) (drop k cells) ≡ inflow i device.ends (device_current grain device (get_or cells k (0, 0))) +ℤ inflows grain i (drop (k + 1) devices) (drop (k + 1) cells)
inflows_more grain i devices cells k device inside within is = rw (drop_more devices k device inside, drop_more cells k (0, 0) within, ← is) refl

-- one device more has let its current flow
pub flowed : (grain i : ℕ) (devices : List DeviceValue) (cells : List (ℕ × ℕ)) (k : ℕ) (device : DeviceValue) (old new amps whole : ℤ) → k < length devices → k < length cells → device ≡ get_or devices k device
    → amps ≡ device_current grain device (get_or cells k (0, 0)) → new ≡ old +ℤ inflow i device.ends amps → old +ℤ inflows grain i (drop k devices) (drop k cells) ≡ whole
    → new +ℤ inflows grain i (drop (k + 1) devices) (drop (k + 1) cells) ≡ whole
flowed grain i devices cells k device old new amps whole inside within is value gained so =
    let rest : ℤ = inflows grain i (drop (k + 1) devices) (drop (k + 1) cells) in
    let split : inflows grain i (drop k devices) (drop k cells) ≡ inflow i device.ends amps +ℤ rest = rw value (inflows_more grain i devices cells k device inside within is) in
    let joined : (old +ℤ inflow i device.ends amps) +ℤ rest ≡ old +ℤ (inflow i device.ends amps +ℤ rest) = omega (arith, ints) in
    rw gained (joined ∙ rw (← split) so)
