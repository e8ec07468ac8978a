-- A record with the run's pairs has the run's waves and events.
use Rattle.std.proofs.Common.{◌≡◌, ℕ, zero, suc, ◌+◌, ◌≤◌, true, not, cond, List, [], ◌∷◌, ◌++◌, Some, None, refl, sym, ◌∙◌, arith, inl, max, ℤ, Contains}
use Rattle.std.specs.List.{flat_map, enumerate_from, list_any}
use Rattle.std.proofs.lemmas.Bool.{and_parts, or_left, or_right}
use Rattle.semantics.specs.declared.element.Element.{Element}
use Rattle.semantics.specs.Ground.{is_ground}
use Rattle.semantics.specs.Deck.{DeckValue, driver, nodes}
use Rattle.semantics.specs.Device.{cells}
use Rattle.semantics.specs.Source.{slope_at, signed}
use Rattle.semantics.specs.Run.{node_current, run}
use Rattle.semantics.specs.Wave.{rate, entry, goes_on, begins, entries_below, wave}
use Rattle.semantics.specs.Event.{event_of, events_at, events_to, events}
use Rattle.semantics.specs.Neighbours.{is_free, is_end}
use Rattle.semantics.specs.Record.{Record, record_voltages, record_current, run_record, IsRunTo}
use Rattle.semantics.specs.RecordWave.{record_rate, record_entry, record_begins, record_lines, record_wave, record_events_at, record_events_to, record_events}
use Rattle.semantics.proofs.Flows.{cells_alike, itself}
use Rattle.semantics.proofs.Free.{node_is, free_from, is_among}
use Rattle.semantics.proofs.Neighbours.{voltages_same}
use Rattle.record_laws.proofs.Unique.{run_charged, run_current}

-- the voltage of what is an end of an element of the deck
end_voltage : (d : DeckValue) (w : Record) (t : ℕ) (n : List ℕ) → IsRunTo d w d.stop → t ≤ d.stop → list_any (is_end n) d.elements ≡ true → record_voltages d w t n ≡ run d t n
unfolding run
end_voltage d w t n right up_to ends =
    voltages_same d t (λ m. w m t) (λ m. run_record d m t) n (λ real none. let free : is_free d n ≡ true = free_from d n real ends none in right n t free up_to ∙ run_charged d t n free)

node_ends : (d : DeckValue) (n : List ℕ) → Contains (nodes d) n → list_any (is_end n) d.elements ≡ true
node_ends d n at = (and_parts (not (is_ground n)) (list_any (is_end n) d.elements) (sym (node_is d n) ∙ is_among (nodes d) n at)).1

-- ---- waves

same_rate : (d : DeckValue) (w : Record) (t : ℕ) (n : List ℕ) → IsRunTo d w d.stop → t ≤ d.stop → record_rate d w t n ≡ rate d t n
unfolding record_rate rate
same_rate d w t n right up_to =
    let flows : record_current d w t n ≡ node_current d (run d t) n = run_current d w t n (λ m free _. right m t free up_to ∙ run_charged d t m free) in
    λ i. elim (driver d n) as (λ _. ℤ) [ None ↦ flows i | Some s ↦ signed s.1 (slope_at s.0 t) ]

same_entry : (d : DeckValue) (w : Record) (t : ℕ) (n : List ℕ) → IsRunTo d w d.stop → t ≤ d.stop → list_any (is_end n) d.elements ≡ true → record_entry d w t n ≡ entry d t n
unfolding record_entry entry
same_entry d w t n right up_to ends =
    let volts : record_voltages d w t n ≡ run d t n = end_voltage d w t n right up_to ends in
    λ i. record { start = t; num = (volts i).num; rate = same_rate d w t n right up_to i; den = (volts i).den }

same_begins : (d : DeckValue) (w : Record) (t : ℕ) (n : List ℕ) → IsRunTo d w d.stop → t ≤ d.stop → list_any (is_end n) d.elements ≡ true → record_begins d w t n ≡ begins d t n
unfolding record_begins begins
same_begins d w zero n right up_to ends = refl
same_begins d w (suc t) n right up_to ends = λ i. not (goes_on (same_entry d w t n right (omega arith) ends i) (same_entry d w (suc t) n right up_to ends i))

same_lines : (d : DeckValue) (w : Record) (t : ℕ) (n : List ℕ) → IsRunTo d w d.stop → t ≤ max 1 d.stop → list_any (is_end n) d.elements ≡ true → record_lines d w t n ≡ entries_below d t n
unfolding record_lines entries_below
same_lines d w zero n right up_to ends = refl
same_lines d w (suc t) n right up_to ends =
    let under : t ≤ d.stop = omega arith in
    λ i. same_lines d w t n right (omega arith) ends i ++ cond (same_begins d w t n right under ends i) (same_entry d w t n right under ends i ∷ []) []

pub same_wave : (d : DeckValue) (w : Record) (n : List ℕ) → IsRunTo d w d.stop → Contains (nodes d) n → record_wave d w n ≡ wave d n
unfolding record_wave wave
same_wave d w n right at = same_lines d w (max 1 d.stop) n right (omega arith) (node_ends d n at)

-- ---- events

-- over a part of the deck's elements
same_places : (d : DeckValue) (w : Record) (t place : ℕ) (xs : List Element) → IsRunTo d w d.stop → suc t ≤ d.stop → ((m : List ℕ) → list_any (is_end m) xs ≡ true → list_any (is_end m) d.elements ≡ true)
    → flat_map (λ at. event_of (suc t) at.0 (cells d (record_voltages d w t) at.1) (cells d (record_voltages d w (suc t)) at.1)) (enumerate_from place xs)
    ≡ flat_map (λ at. event_of (suc t) at.0 (cells d (run d t) at.1) (cells d (run d (suc t)) at.1)) (enumerate_from place xs)
same_places d w t place [] right up_to known = refl
same_places d w t place (x ∷ xs) right up_to known =
    let old : cells d (record_voltages d w t) x ≡ cells d (run d t) x =
    cells_alike d d (record_voltages d w t) (run d t) x (itself d) (λ m end. inl (end_voltage d w t m right (omega arith) (known m (or_left (is_end m x) (list_any (is_end m) xs) end)))) in
    let new : cells d (record_voltages d w (suc t)) x ≡ cells d (run d (suc t)) x =
    cells_alike d d (record_voltages d w (suc t)) (run d (suc t)) x (itself d) (λ m end. inl (end_voltage d w (suc t) m right up_to (known m (or_left (is_end m x) (list_any (is_end m) xs) end)))) in
    let rest = same_places d w t (place + 1) xs right up_to (λ m h. known m (or_right (is_end m x) (list_any (is_end m) xs) h)) in
    λ i. event_of (suc t) place (old i) (new i) ++ rest i

same_events_to : (d : DeckValue) (w : Record) (t : ℕ) → IsRunTo d w d.stop → t ≤ d.stop → record_events_to d w t ≡ events_to d t
unfolding record_events_to events_to record_events_at events_at
same_events_to d w zero right up_to = refl
same_events_to d w (suc t) right up_to =
    λ i. same_events_to d w t right (omega arith) i ++ same_places d w t 0 d.elements right up_to (λ m h. h) i

pub same_events : (d : DeckValue) (w : Record) → IsRunTo d w d.stop → record_events d w ≡ events d
unfolding record_events events
same_events d w right = same_events_to d w d.stop right (omega arith)

-- ---- the run

run_lines : (d : DeckValue) (t : ℕ) (n : List ℕ) → record_lines d (run_record d) t n ≡ entries_below d t n
unfolding record_lines entries_below record_begins begins record_entry entry record_rate rate run
run_lines d zero n = refl
run_lines d (suc zero) n = refl
run_lines d (suc (suc t)) n = λ i. run_lines d (suc t) n i ++ cond (begins d (suc t) n) (entry d (suc t) n ∷ []) []

pub run_wave : (d : DeckValue) (n : List ℕ) → record_wave d (run_record d) n ≡ wave d n
unfolding record_wave wave
run_wave d n = run_lines d (max 1 d.stop) n

run_events_to : (d : DeckValue) (t : ℕ) → record_events_to d (run_record d) t ≡ events_to d t
unfolding record_events_to events_to record_events_at events_at run
run_events_to d zero = refl
run_events_to d (suc t) = λ i. run_events_to d t i ++ events_at d t

pub run_events : (d : DeckValue) → record_events d (run_record d) ≡ events d
unfolding record_events events
run_events d = run_events_to d d.stop
