-- Where the voltages of a node go along a straight line, a fault is a wrong denominator or another current than the line's rate.
use Rattle.std.proofs.Common.{◌≡◌, ℕ, suc, ◌-◌, ◌<◌, ◌≤◌, Bool, true, false, not, ◌&&◌, ◌==◌, List, refl, ap, ◌∙◌, arith, nat_lt, ℤ, pos, ◌+ℤ◌, ◌*ℤ◌}
use Rattle.std.specs.Ordering.{int_eq}
use Rattle.std.proofs.lemmas.Bool.Decides.{Decides-int_eq}
use Rattle.std.proofs.lemmas.Int.{ints}
use borrow.Author.Differences.{product_is}
use Rattle.semantics.specs.Deck.{DeckValue, capacity}
use Rattle.semantics.specs.Neighbours.{is_free}
use Rattle.semantics.specs.Record.{Record, record_current, follows, is_fault}
use Rattle.semantics.proofs.Free.{same_test}
use Rattle.record_laws.specs.Laws.{IsStraight}

-- on a line of the record a fault is a wrong denominator or another current than the line's rate
pub fault_line : (d : DeckValue) (w : Record) (n : List ℕ) (t : ℕ) (num rate : ℤ) (den : ℕ) → w n t ≡ record { num = num; den = den } → w n (suc t) ≡ record { num = num +ℤ rate; den = den }
    → is_fault d w n t ≡ ((is_free d n && nat_lt t d.stop) && not ((den == capacity d n) && int_eq rate (record_current d w t n)))
unfolding is_fault follows
fault_line d w n t num rate den now next =
    (λ i. (is_free d n && nat_lt t d.stop) && not (((now i).den == capacity d n) && (((next i).den == capacity d n) && int_eq (next i).num ((now i).num +ℤ record_current d w t n))))
    ∙ (λ i. (is_free d n && nat_lt t d.stop) && not (twice (den == capacity d n) (int_eq (num +ℤ rate) (num +ℤ record_current d w t n)) (int_eq rate (record_current d w t n)) (less num rate (record_current d w t n)) i))
  where
    less : (a b c : ℤ) → int_eq (a +ℤ b) (a +ℤ c) ≡ int_eq b c
    less a b c = same_test _ _
        (λ h. let e : a +ℤ b ≡ a +ℤ c = (Decides-int_eq _ _).0 h in (Decides-int_eq b c).1 (omega (arith, ints)))
        (λ h. (Decides-int_eq (a +ℤ b) (a +ℤ c)).1 (ap (λ z. a +ℤ z) ((Decides-int_eq b c).0 h)))

    twice : (a b c : Bool) → b ≡ c → (a && (a && b)) ≡ (a && c)
    twice true b c e = e
    twice false b c e = refl

-- and so at each tick of a stretch
pub fault_straight : (d : DeckValue) (w : Record) (n : List ℕ) (from until : ℕ) (num rate : ℤ) (den : ℕ) → IsStraight w n from until num rate den → (t : ℕ) → from ≤ t → t < until
    → is_fault d w n t ≡ ((is_free d n && nat_lt t d.stop) && not ((den == capacity d n) && int_eq rate (record_current d w t n)))
fault_straight d w n from until num rate den line t after early = fault_line d w n t (num +ℤ (rate *ℤ pos (t - from))) rate den
    (line t after (omega arith))
    (line (suc t) (omega arith) (omega arith) ∙ (λ i. record { num = more num rate t from after i; den = den }))
  where
    one_more : (x : ℤ) (k : ℕ) → x *ℤ pos (suc k) ≡ (x *ℤ pos k) +ℤ x
    one_more x k = omega (arith, ints, product_is x (pos (suc k)), product_is x (pos k))

    more : (z x : ℤ) (t start : ℕ) → start ≤ t → z +ℤ (x *ℤ pos (suc t - start)) ≡ (z +ℤ (x *ℤ pos (t - start))) +ℤ x
    more z x t start before =
        let longer : suc t - start ≡ suc (t - start) = omega (arith, before) in
        (λ i. z +ℤ (x *ℤ pos (longer i))) ∙ omega (arith, ints, one_more x (t - start))
