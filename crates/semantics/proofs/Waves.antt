-- Each line of a wave has a denominator of at least 1.
use Rattle.std.proofs.Common.{ℕ, suc, zero, ◌<◌, ◌≤◌, Bool, true, false, cond, [], ◌∷◌, length, get_or}
use Rattle.std.specs.Prelude.{max}
use Rattle.std.specs.List.{All}
use Rattle.std.proofs.lemmas.List.Elements.{All-append, All-nil, All-cons}
use Rattle.semantics.specs.declared.line.Line.{Line}
use Rattle.semantics.specs.Deck.{DeckValue, nodes}
use Rattle.semantics.specs.Wave.{begins, entry, entries_below, wave}
use Rattle.semantics.proofs.Limits.{Limits, node_voltage}

abbrev pub HasDen : Line → Type 0
HasDen l = 1 ≤ l.den

one_or_none : (l : Line) (b : Bool) → HasDen l → All HasDen (cond b (l ∷ []) [])
one_or_none l true h = All-cons HasDen l [] h (All-nil HasDen)
one_or_none l false h = All-nil HasDen

entry_den : (d : DeckValue) (t i : ℕ) → Limits d → i < length (nodes d) → HasDen (entry d t (get_or (nodes d) i []))
unfolding entry
entry_den d t i l below = (node_voltage d t i l below).den_low

entries_dens : (d : DeckValue) (t i : ℕ) → Limits d → i < length (nodes d) → All HasDen (entries_below d t (get_or (nodes d) i []))
unfolding entries_below
entries_dens d zero i l below = All-nil HasDen
entries_dens d (suc t) i l below =
    All-append HasDen (entries_below d t (get_or (nodes d) i [])) (cond (begins d t (get_or (nodes d) i [])) (entry d t (get_or (nodes d) i []) ∷ []) [])
    (entries_dens d t i l below) (one_or_none (entry d t (get_or (nodes d) i [])) (begins d t (get_or (nodes d) i [])) (entry_den d t i l below))

pub wave_dens : (d : DeckValue) (i : ℕ) → Limits d → i < length (nodes d) → All HasDen (wave d (get_or (nodes d) i []))
unfolding wave
wave_dens d i l below = entries_dens d (max 1 d.stop) i l below
