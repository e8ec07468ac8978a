-- What a network keeps of its deck, and how its lists grow device by device.
use Rattle.std.proofs.Common.{◌≡◌, ℕ, suc, zero, ◌+◌, ◌<◌, ◌≤◌, true, List, [], ◌∷◌, ◌++◌, length, get_or, set, map, take, drop, Some, refl, sym, ◌∙◌, ap, arith, ℤ, pos, ⊎_elim, ◌≢◌, get_or-set_same, get_or-set_other}
use Rattle.std.specs.List.{All, list_all}
use Rattle.std.proofs.lemmas.Bool.{and_parts, and_from, cases_eq, eq-eqb, le-leb}
use Rattle.std.proofs.lemmas.List.{append_assoc, append-nil, drop_all, drop_more, get_or-map, length-map, map_more, take_all, take_more_set}
use Rattle.semantics.specs.declared.fraction.Fraction.{Fraction}
use Rattle.semantics.specs.declared.event.Event.{Event}
use Rattle.semantics.specs.Deck.{DeckValue, nodes}
use Rattle.semantics.specs.Event.{event_of, events_to}
use Rattle.semantics.specs.Run.{run}
use Rattle.semantics.specs.Valid.{some_grain}
use Rattle.semantics.proofs.Limits.{Limits, IsVoltage, node_voltage}
use Rattle.circuit_model.specs.Ends.{End, volts_at}
use Rattle.circuit_model.specs.Network.{cells_at, volts_of}
use Rattle.circuit_model.specs.Small.{IsSmall}
use Rattle.circuit_model.specs.Wiring.{DeviceValue, devices_of, device_cells, is_wired, has_cells, changes}
use Rattle.circuit_model.proofs.Totals.{devices_wired, cells_exist, events_next}

-- ---- the deck

pub grain_fits : (d : DeckValue) (g : ℕ) → g ≡ d.grain → Limits d → some_grain g ≡ true
grain_fits d g same l = rw same (and_from _ _ (eq-eqb _ _ l.grain_even) (and_from _ _ (le-leb _ _ l.grain_low) (le-leb _ _ l.grain_high)))

-- the voltages of a tick are small
pub volts_small : (d : DeckValue) (t : ℕ) → Limits d → t ≤ d.stop → All IsSmall (map (run d t) (nodes d))
volts_small d t l upto = λ k e below.
    let inside : k < length (nodes d) = omega (arith, length-map (nodes d) (run d t)) in
    let v : IsVoltage t (run d t (get_or (nodes d) k [])) = node_voltage d t k l inside in
    rw (get_or-map (run d t) (nodes d) k [] e inside) (record { num = omega (arith, v.num, l.stop, upto); den_low = v.den_low; den_high = v.den_high })

-- ---- one device

wired_at : (count : ℕ) (devices : List DeviceValue) (k : ℕ) (device : DeviceValue) → list_all (is_wired count) devices ≡ true → k < length devices → is_wired count (get_or devices k device) ≡ true
wired_at count [] k device all inside = absurd (omega arith)
wired_at count (x ∷ xs) zero device all inside = (and_parts (is_wired count x) (list_all (is_wired count) xs) all).0
wired_at count (x ∷ xs) (suc k) device all inside = wired_at count xs k device (and_parts (is_wired count x) (list_all (is_wired count) xs) all).1 (omega arith)

-- a device of a deck is wired
pub device_wired : (d : DeckValue) (names : List (List ℕ)) (devices : List DeviceValue) (k : ℕ) (device : DeviceValue) → Limits d → devices ≡ devices_of d names → k < length devices → device ≡ get_or devices k device → is_wired (length names) device ≡ true
device_wired d names devices k device l are inside is =
    let wired : list_all (is_wired (length names)) devices ≡ true = rw are (devices_wired d names l) in
    rw is (wired_at (length names) devices k device wired inside)

pub cells_count : (d : DeckValue) (t : ℕ) (cells : List (ℕ × ℕ)) (devices : List DeviceValue) → cells ≡ cells_at d t → devices ≡ devices_of d (nodes d) → length cells ≡ length devices
unfolding cells_at
cells_count d t cells devices are same = rw (are, same) (length-map (devices_of d (nodes d)) (device_cells d.grain (volts_at (volts_of d t))))

-- its grids have its cells
pub device_has : (d : DeckValue) (t k : ℕ) (cells : List (ℕ × ℕ)) (devices : List DeviceValue) (device : DeviceValue) → cells ≡ cells_at d t → devices ≡ devices_of d (nodes d) → k < length devices → device ≡ get_or devices k device
    → has_cells device (get_or cells k (0, 0)) ≡ true
unfolding cells_at
device_has d t k cells devices device are same inside is =
    let own : get_or cells k (0, 0) ≡ device_cells d.grain (volts_at (volts_of d t)) device =
    rw (are, ← same, get_or-map (device_cells d.grain (volts_at (volts_of d t))) devices k device (0, 0) inside) (ap (device_cells d.grain (volts_at (volts_of d t))) (sym is)) in
    rw own (cells_exist d.grain (volts_at (volts_of d t)) device)

-- ---- lists that grow

pub cells_entered : (f : DeviceValue → ℕ × ℕ) (devices : List DeviceValue) (cells : List (ℕ × ℕ)) (k : ℕ) (device : DeviceValue) (now : ℕ × ℕ) → k < length devices → k < length cells
    → take k cells ≡ map f (take k devices) → device ≡ get_or devices k device → now ≡ f device → take (k + 1) (set cells k now) ≡ map f (take (k + 1) devices)
cells_entered f devices cells k device now inside within done is value =
    rw (take_more_set cells k now within, done, map_more f devices k device inside, ← is, value) refl

-- the cells of one device more
pub cells_pushed : (f : DeviceValue → ℕ × ℕ) (devices : List DeviceValue) (old new : List (ℕ × ℕ)) (k : ℕ) (device : DeviceValue) (now : ℕ × ℕ) → k < length devices → device ≡ get_or devices k device → now ≡ f device
    → old ≡ map f (take k devices) → new ≡ old ++ now ∷ [] → new ≡ map f (take (k + 1) devices)
cells_pushed f devices old new k device now inside is value done grown = rw (grown, done, map_more f devices k device inside, ← is, value) refl

pub events_noted : (grain tick : ℕ) (volt : End → Fraction) (devices : List DeviceValue) (old : List (ℕ × ℕ)) (k : ℕ) (device : DeviceValue) (was now : ℕ × ℕ) (before after whole : List Event)
    → k < length devices → k < length old → device ≡ get_or devices k device → was ≡ get_or old k (0, 0) → now ≡ device_cells grain volt device
    → after ≡ before ++ event_of tick device.place (Some was) (Some now) → before ++ changes grain tick volt (drop k devices) (drop k old) ≡ whole
    → after ++ changes grain tick volt (drop (k + 1) devices) (drop (k + 1) old) ≡ whole
events_noted grain tick volt devices old k device was now before after whole inside within is had has noted so =
    let rest : List Event = changes grain tick volt (drop (k + 1) devices) (drop (k + 1) old) in
    let split : changes grain tick volt (drop k devices) (drop k old) ≡ event_of tick device.place (Some was) (Some now) ++ rest =
    rw (drop_more devices k device inside, drop_more old k (0, 0) within, ← is, ← had, has) refl in
    rw (noted, append_assoc before (event_of tick device.place (Some was) (Some now)) rest, ← split) so

-- at the end every device has its cells
pub cells_whole : (d : DeckValue) (t : ℕ) (cells : List (ℕ × ℕ)) (devices : List DeviceValue) (volts : List Fraction) (k : ℕ) → volts ≡ map (run d t) (nodes d) → devices ≡ devices_of d (nodes d) → length devices ≤ k
    → cells ≡ map (device_cells d.grain (volts_at volts)) (take k devices) → cells ≡ cells_at d t
unfolding cells_at
cells_whole d t cells devices volts k are same past is = rw (is, take_all k devices past, are, same) refl

-- and every change is noted
pub events_whole : (d : DeckValue) (t tick : ℕ) (cells : List (ℕ × ℕ)) (devices : List DeviceValue) (volts : List Fraction) (k : ℕ) (before after : List Event) → tick ≡ suc t
    → volts ≡ map (run d tick) (nodes d) → devices ≡ devices_of d (nodes d) → cells ≡ cells_at d t → before ≡ events_to d t → length devices ≤ k
    → after ++ changes d.grain tick (volts_at volts) (drop k devices) (drop k cells) ≡ before ++ changes d.grain tick (volts_at volts) devices cells → after ≡ events_to d tick
events_whole d t tick cells devices volts k before after next are same were past end so =
    let then : volts ≡ map (run d (suc t)) (nodes d) = rw next at are in
    sym (append-nil after) ∙ (rw (drop_all k devices end) at so) ∙ rw (past, next, then, same, were) (events_next d t)

-- a number written at a place is that of the place, and the others stay
pub written_done : (f : ℕ → ℤ) (old new : List ℤ) (k : ℕ) (x : ℤ) → new ≡ set old k x → k < length old → x ≡ f k → ((i : ℕ) → i < k → get_or old i (pos 0) ≡ f i) → (i : ℕ) → i < k + 1 → get_or new i (pos 0) ≡ f i
written_done f old new k x is inside value done i below = ⊎_elim
    (λ (same : i ≡ k). rw (is, same, get_or-set_same old k x (pos 0) inside) value)
    (λ other. rw (is, get_or-set_other old k i x (pos 0) other) (done i (omega (arith, other))))
    (cases_eq i k)

pub written_rest : (old new : List ℤ) (k : ℕ) (x : ℤ) → new ≡ set old k x → (i : ℕ) → k + 1 ≤ i → get_or new i (pos 0) ≡ get_or old i (pos 0)
written_rest old new k x is i above = let apart : i ≢ k = omega arith in rw is (get_or-set_other old k i x (pos 0) apart)
