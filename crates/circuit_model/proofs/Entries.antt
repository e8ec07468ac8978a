-- The lines of a wave, tick by tick.
use Rattle.std.proofs.Common.{◌≡◌, ℕ, suc, zero, ◌-◌, Bool, true, false, not, cond, List, [], ◌∷◌, ◌++◌, length, Some, refl, sym, ◌∙◌, ap, arith}
use Rattle.std.specs.Prelude.{slice_get, ◌==◌}
use Rattle.std.specs.Ordering.{int_eq}
use Rattle.std.proofs.lemmas.Bool.{cond_both, and_parts, eqb-true}
use Rattle.std.proofs.lemmas.Bool.Decides.{Decides-int_eq}
use Rattle.std.proofs.lemmas.List.{append-nil, get_or_push, length_push}
use Rattle.std.proofs.lemmas.Option.{slice_get-get_or}
use Rattle.semantics.specs.declared.line.Line.{Line}
use Rattle.semantics.specs.Deck.{DeckValue}
use Rattle.semantics.specs.Wave.{entry, goes_on, begins, entries_below}
use Rattle.circuit_model.specs.Lines.{continued}

-- the last line has this slope and this denominator
record LastLike (lines : List Line) (l : Line) : Type 0 where
  last : Line
  at : slice_get lines (length lines - 1) ≡ Some last
  rate_is : last.rate ≡ l.rate
  den_is : last.den ≡ l.den

LastLike-push : (lines : List Line) (l : Line) → LastLike (lines ++ l ∷ []) l
LastLike-push lines l = record {
  last = l;
  at = slice_get-get_or (lines ++ l ∷ []) (length (lines ++ l ∷ []) - 1) l (omega (arith, length_push lines l)) ∙ ap Some (get_or_push lines l l (length (lines ++ l ∷ []) - 1) (omega (arith, length_push lines l)));
  rate_is = refl;
  den_is = refl;
}

LastLike-stays : (lines : List Line) (l m : Line) → LastLike lines l → goes_on l m ≡ true → LastLike lines m
LastLike-stays lines l m like on =
    let parts = and_parts (int_eq m.rate l.rate) (m.den == l.den) on in
    record { last = like.last; at = like.at; rate_is = like.rate_is ∙ sym ((Decides-int_eq m.rate l.rate).0 parts.0); den_is = like.den_is ∙ sym (eqb-true m.den l.den parts.1) }

continued-like : (lines : List Line) (l m : Line) → LastLike lines l → continued lines m ≡ cond (goes_on l m) lines (lines ++ m ∷ [])
unfolding continued
continued-like lines l m like = rw (like.at, continued) (rw (like.rate_is, like.den_is) refl)

entries_opened : (d : DeckValue) (t : ℕ) (n : List ℕ) → entries_below d (suc (suc t)) n ≡ entries_below d (suc t) n ++ (cond (not (goes_on (entry d t n) (entry d (suc t) n))) (entry d (suc t) n ∷ []) [])
unfolding entries_below begins
entries_opened d t n = refl

added_or_not : (xs : List Line) (b : Bool) (l : Line) → xs ++ (cond (not b) (l ∷ []) []) ≡ cond b xs (xs ++ l ∷ [])
added_or_not xs true l = append-nil xs
added_or_not xs false l = refl

pub entries_step : (d : DeckValue) (t : ℕ) (n : List ℕ) → entries_below d (suc (suc t)) n ≡ cond (goes_on (entry d t n) (entry d (suc t) n)) (entries_below d (suc t) n) (entries_below d (suc t) n ++ entry d (suc t) n ∷ [])
entries_step d t n = entries_opened d t n ∙ added_or_not (entries_below d (suc t) n) (goes_on (entry d t n) (entry d (suc t) n)) (entry d (suc t) n)

pub entries_first : (d : DeckValue) (n : List ℕ) → entries_below d 1 n ≡ entry d 0 n ∷ []
unfolding entries_below begins
entries_first d n = refl

LastLike-entries : (d : DeckValue) (t : ℕ) (n : List ℕ) → LastLike (entries_below d (suc t) n) (entry d t n)
LastLike-entries d zero n = rw (entries_first d n) (LastLike-push [] (entry d 0 n))
LastLike-entries d (suc t) n = rw (entries_step d t n)
    (cond_both (goes_on (entry d t n) (entry d (suc t) n)) (entries_below d (suc t) n) (entries_below d (suc t) n ++ entry d (suc t) n ∷ []) (λ xs. LastLike xs (entry d (suc t) n))
    (λ on. LastLike-stays (entries_below d (suc t) n) (entry d t n) (entry d (suc t) n) (LastLike-entries d t n) on)
    (λ _. LastLike-push (entries_below d (suc t) n) (entry d (suc t) n)))

entries_none : (d : DeckValue) (n : List ℕ) → entry d 0 n ∷ [] ≡ continued (entries_below d 0 n) (entry d 0 n)
unfolding entries_below continued
entries_none d n = refl

-- the wave so far grows by the line of each tick
pub entries_next : (d : DeckValue) (t : ℕ) (n : List ℕ) → entries_below d (suc t) n ≡ continued (entries_below d t n) (entry d t n)
entries_next d zero n = entries_first d n ∙ entries_none d n
entries_next d (suc t) n = entries_step d t n ∙ sym (continued-like (entries_below d (suc t) n) (entry d t n) (entry d (suc t) n) (LastLike-entries d t n))
