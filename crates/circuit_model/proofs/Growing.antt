-- How the waves of all nodes grow from tick to tick.
use Rattle.std.proofs.Common.{◌≡◌, ℕ, suc, ◌+◌, ◌<◌, List, [], ◌∷◌, length, get_or, map, replicate, refl, sym, ◌∙◌, ap, arith, ℤ, pos}
use Rattle.std.specs.Prelude.{min, max}
use Rattle.std.proofs.lemmas.List.{get_or-map, length-map, ext_get_or}
use Rattle.semantics.specs.declared.fraction.Fraction.{Fraction}
use Rattle.semantics.specs.declared.line.Line.{Line}
use Rattle.semantics.specs.Deck.{DeckValue, nodes}
use Rattle.semantics.specs.Run.{run}
use Rattle.semantics.specs.Wave.{rate, entry, entries_below}
use Rattle.circuit_model.specs.Ends.{no_volts}
use Rattle.circuit_model.specs.Lines.{continued, line_of}
use Rattle.circuit_model.proofs.Entries.{entries_next}

line_is : (d : DeckValue) (t i : ℕ) → i < length (nodes d) → line_of t (map (run d t) (nodes d)) (map (rate d t) (nodes d)) i ≡ entry d t (get_or (nodes d) i [])
unfolding entry
line_is d t i inside = rw (get_or-map (run d t) (nodes d) i [] no_volts inside, get_or-map (rate d t) (nodes d) i [] (pos 0) inside) refl

-- the waves with the lines of a tick
pub waves_next : (d : DeckValue) (t : ℕ) (old new : List (List Line)) → old ≡ map (entries_below d t) (nodes d) → length new ≡ length old
    → ((i : ℕ) → i < length old → get_or new i [] ≡ continued (get_or old i []) (line_of t (map (run d t) (nodes d)) (map (rate d t) (nodes d)) i)) → new ≡ map (entries_below d (suc t)) (nodes d)
waves_next d t old new was size each =
    let count : length new ≡ length (nodes d) = size ∙ ap (λ (xs : List (List Line)). length xs) was ∙ length-map (nodes d) (entries_below d t) in
    ext_get_or [] new (map (entries_below d (suc t)) (nodes d)) (count ∙ sym (length-map (nodes d) (entries_below d (suc t)))) (λ i below.
    let inside : i < length (nodes d) = omega (arith, count) in
    each i (omega (arith, size))
    ∙ rw (was, get_or-map (entries_below d t) (nodes d) i [] [] inside, line_is d t i inside, get_or-map (entries_below d (suc t)) (nodes d) i [] [] inside) (sym (entries_next d t (get_or (nodes d) i []))))

-- the waves with the lines of the next tick
pub waves_then : (d : DeckValue) (t : ℕ) (old new : List (List Line)) (volts : List Fraction) (rates : List ℤ) → t + 1 < d.stop
    → old ≡ map (entries_below d (min (t + 1) (max 1 d.stop))) (nodes d) → volts ≡ map (run d (t + 1)) (nodes d) → rates ≡ map (rate d (t + 1)) (nodes d) → length new ≡ length old
    → ((i : ℕ) → i < length old → get_or new i [] ≡ continued (get_or old i []) (line_of (t + 1) volts rates i)) → new ≡ map (entries_below d (min (t + 1 + 1) (max 1 d.stop))) (nodes d)
waves_then d t old new volts rates before was are gain size each =
    let here : min (t + 1) (max 1 d.stop) ≡ t + 1 = omega (arith, before) in
    let there : min (t + 1 + 1) (max 1 d.stop) ≡ suc (t + 1) = omega (arith, before) in
    rw there (waves_next d (t + 1) old new (was ∙ rw here refl) size (λ i below. each i below ∙ rw (are, gain) refl))

no_entries : (d : DeckValue) (ns : List (List ℕ)) → map (entries_below d 0) ns ≡ replicate (length ns) []
unfolding entries_below
no_entries d [] = refl
no_entries d (n ∷ ns) = ap (λ xs. [] ∷ xs) (no_entries d ns)

-- the waves with the lines of tick 0
pub waves_first : (d : DeckValue) (old new : List (List Line)) (volts : List Fraction) (rates : List ℤ) → old ≡ replicate (length (nodes d)) [] → volts ≡ map (run d 0) (nodes d) → rates ≡ map (rate d 0) (nodes d) → length new ≡ length old
    → ((i : ℕ) → i < length old → get_or new i [] ≡ continued (get_or old i []) (line_of 0 volts rates i)) → new ≡ map (entries_below d (min (0 + 1) (max 1 d.stop))) (nodes d)
waves_first d old new volts rates was are gain size each =
    let there : min (0 + 1) (max 1 d.stop) ≡ suc 0 = omega arith in
    rw there (waves_next d 0 old new (was ∙ sym (no_entries d (nodes d))) size (λ i below. each i below ∙ rw (are, gain) refl))
